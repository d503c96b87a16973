-- Parts with a separator between them.
use Rattle.std.proofs.Common.{◌≡◌, ◌∙◌, ℕ, zero, suc, ◌<◌, ◌≤◌, ◌+◌, List, [], ◌∷◌, ◌++◌, length, take, get_or, map, Bor, ap, sym, append_assoc, arith}
use Rattle.std.specs.List.{join_with_byte}
use Rattle.std.proofs.lemmas.Grind.{common_steps}
use Rattle.std.proofs.lemmas.List.{take_more, map-append}

-- one part more, after others
join_push : (c : ℕ) (xs : List (List ℕ)) (x : List ℕ) → 0 < length xs → join_with_byte c (xs ++ x ∷ []) ≡ (join_with_byte c xs ++ c ∷ []) ++ x
join_push c [] x l = absurd (omega arith)
join_push c (y ∷ []) x l = sym (append_assoc y (c ∷ []) x)
join_push c (y ∷ z ∷ ys) x l = ap (λ v. y ++ (c ∷ v)) (join_push c (z ∷ ys) x (omega arith)) ∙ simp append_assoc

abbrev seen : List (Bor (List ℕ)) → List (List ℕ)
seen parts = map (λ x. x.now) parts

-- the first part stands alone
pub join_first : (c : ℕ) (parts : List (Bor (List ℕ))) (k : ℕ) (d : Bor (List ℕ)) (t u v : List ℕ) → v ≡ u ++ (get_or parts k d).now → u ≡ t → k ≤ 0 → k < length parts → t ≡ join_with_byte c (seen (take k parts)) → v ≡ join_with_byte c (seen (take (k + 1) parts))
join_first c [] k d t u v is same none within so_far = absurd (omega arith)
join_first c (p ∷ parts) zero d t u v is same none within so_far = is ∙ ap (λ x. x ++ p.now) (same ∙ so_far)
join_first c (p ∷ parts) (suc k) d t u v is same none within so_far = absurd (omega arith)

-- a later part comes after a separator
pub join_next : (c : ℕ) (parts : List (Bor (List ℕ))) (k : ℕ) (d : Bor (List ℕ)) (t u v : List ℕ) → v ≡ u ++ (get_or parts k d).now → u ≡ t ++ c ∷ [] → 0 < k → k < length parts → t ≡ join_with_byte c (seen (take k parts)) → v ≡ join_with_byte c (seen (take (k + 1) parts))
join_next c parts k d t u v is separated some within so_far =
    let within_le : k ≤ length parts = omega arith in
    let before : 0 < length (seen (take k parts)) = grind (arith, common_steps) in
    rw (take_more parts k d within, map-append)
    (is ∙ ap (λ x. x ++ (get_or parts k d).now) (separated ∙ ap (λ x. x ++ c ∷ []) so_far) ∙ sym (join_push c (seen (take k parts)) (get_or parts k d).now before))
