-- The rows that are built are those of the model.
use Rattle.std.proofs.Common.{◌≡◌, ◌<◌, ◌+◌, ℕ, List, [], length, get_or, Result, Ok, Err, sym, ◌∙◌, subst, arith, Contains, ◌↔◌}
use Rattle.content_models.specs.declared.content.Particle.{Particle}
use Rattle.content_models.specs.Model.{Chars, model}
use Rattle.position_automata.specs.declared.fault.BuildFault.{BuildFault}
use Rattle.position_automata.specs.declared.fault.BuildFault.TheVariants.{Ambiguous, NoMemory}
use Rattle.position_automata.specs.Marked.{count}
use Rattle.position_automata.specs.Outcomes.{RowsOf}
use Rattle.position_automata.specs.Owed.{SamePairs}
use Rattle.position_automata.specs.Places.{letters, pairs}
use Rattle.position_automata.specs.Rows.{targets, numbers_of, Clash, IsLeastClash, IsRow}
use Rattle.position_automata.specs.Tables.{AreKeys, ModelRows}
use Rattle.position_automata.proofs.Buckets.{no_clash, row_moved, clash_moved, least_moved}
use Rattle.position_automata.proofs.Deciding.{deterministic_of, ambiguous_of}
use Rattle.position_automata.proofs.Meaning.{same_targets}

pub model_rows_of : (part : Particle) (keys : List Chars) (listed : List (ℕ × ℕ)) (found : List (List ℕ)) (result : Result (List (List (ℕ × ℕ))) BuildFault)
    → AreKeys (letters (model part)) keys → SamePairs listed (pairs (model part)) → length found ≡ 1 + count (model part)
    → ((i : ℕ) → i < 1 + count (model part) → get_or found i [] ≡ targets i listed)
    → RowsOf (numbers_of keys (letters (model part))) found result → ModelRows part keys result
model_rows_of part keys listed found (Ok rows) named same n at r =
    let numbers = numbers_of keys (letters (model part)) in
    let each : (i : ℕ) → i < 1 + count (model part) → IsRow numbers (targets i (pairs (model part))) (get_or rows i []) =
    λ i h. row_moved numbers (targets i listed) (targets i (pairs (model part))) (get_or rows i []) (same_targets listed (pairs (model part)) same i)
    (subst (λ (js : List ℕ). IsRow numbers js (get_or rows i [])) (at i h) (r.1 i (subst (λ (m : ℕ). i < m) (sym n) h))) in
    (deterministic_of (model part) keys named (λ i p q h c. no_clash _ _ _ (each i h) p q c), r.0 ∙ n, each)
model_rows_of part keys listed found (Err (Ambiguous p q)) named same n at r =
    let numbers = numbers_of keys (letters (model part)) in
    let h : r.0 < 1 + count (model part) = subst (λ (m : ℕ). r.0 < m) n r.1 in
    let back : (i j : ℕ) → Contains (targets i (pairs (model part))) j ↔ Contains (targets i listed) j =
    λ i j. let s = same_targets listed (pairs (model part)) same i j in (s.1, s.0) in
    ambiguous_of part keys named r.0 p q
    (λ k x y b c. r.2 k x y b (subst (λ (js : List ℕ). Clash numbers js x y) (sym (at k (omega arith)))
    (clash_moved numbers (targets k (pairs (model part))) (targets k listed) (back k) x y c)))
    (least_moved numbers (targets r.0 listed) (targets r.0 (pairs (model part))) (same_targets listed (pairs (model part)) same r.0) p q
    (subst (λ (js : List ℕ). IsLeastClash numbers js p q) (at r.0 h) r.3))
model_rows_of part keys listed found (Err NoMemory) named same n at r = tt
