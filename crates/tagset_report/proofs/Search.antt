-- One turn of the search for useful elements, and the flags at its end.
use Rattle.std.proofs.Common.{◌≡◌, ◌<◌, ◌+◌, ◌*◌, ℕ, List, [], ◌∷◌, ◌++◌, length, get_or, set as put, Bool, false, true, inl, inr, sym, ap, ◌∙◌, subst, arith, replicate}
use Rattle.std.specs.Bool.{Decides}
use Rattle.std.proofs.lemmas.Bool.{cases_lt}
use Rattle.std.proofs.lemmas.List.{length-replicate, nil_from_length, get_or_append_left}
use Rattle.std.proofs.lemmas.Option.{slice_get_within}
use Rattle.std.proofs.Math.Seq.{get_or-append_seam}
use Rattle.content_models.specs.Model.{Chars}
use Rattle.decl_set.specs.Asked.{IsKept}
use Rattle.decl_set.specs.Declarations.{Declarations}
use Rattle.decl_set.specs.Validity.{IsUseful}
use Rattle.model_inclusion.specs.Reaching.{Member, Reaches, Working, unseen, visit}
use Rattle.model_inclusion.proofs.Visit as go
use Rattle.tree_costs.specs.declared.least.Least.{Least}
use Rattle.tree_costs.specs.declared.least.LeastRow.{LeastRow}
use Rattle.tree_costs.specs.Leasts.{IsExact, place_of}
use Rattle.tagset_report.specs.Useful.{TellUseful, number_at, next_numbers, count_numbers}
use Rattle.tagset_report.proofs.Arrived.{told}
use Rattle.tagset_report.proofs.Stepped.{stays_within}

module _ (set : Declarations) (kept : IsKept set) (rows : List LeastRow) (root : Chars) where
  abbrev next : ℕ → List ℕ
  next = next_numbers set rows (place_of set root)

  abbrev n : ℕ
  n = count_numbers set

  pub starts : (seen : List Bool) (stack : List ℕ) → seen ≡ replicate (count_numbers set) false → stack ≡ 0 ∷ [] → Working next n (put seen 0 true) stack
  starts seen stack e q =
      subst (Working next n (put seen 0 true)) (sym q)
      (go.begin next n seen (omega arith) (ap length e ∙ length-replicate {A = Bool} n false) (go.all-false n seen e))

  module _ (seen : List Bool) (stack rest : List ℕ) (x : ℕ) (W : Working next n seen stack) (es : stack ≡ rest ++ x ∷ []) where
    pub within : x < n
    within = go.within next n (stays_within set kept rows root) seen stack rest x W es

    pub bound : (y : ℕ) → Member y (next x) → y < length seen
    bound y m = let l = stays_within set kept rows root x y within m in omega (arith, l, W.length_same)

    module _ (seen' : List Bool) (st' : List ℕ) (e : (seen', st') ≡ visit (next x) (seen, rest)) where
      pub following : Working next n seen' st'
      following = go.following next n (stays_within set kept rows root) seen stack rest x W es seen' st' e

      pub smaller : 2 * unseen seen' + length st' < 2 * unseen seen + length stack
      smaller = go.smaller next n (stays_within set kept rows root) seen stack rest x W es seen' st' e

  pub ends : (seen : List Bool) (stack : List ℕ) → Working next n seen stack → length stack ≡ 0 → Reaches next n seen
  ends seen stack W e = go.done next n seen (subst (Working next n seen) (nil_from_length stack e) W)

-- ---- flags, one more at a time

pub flag_more : (seen flags new : List Bool) (e : ℕ) (b : Bool) → length flags ≡ e → ((k : ℕ) → k < e → get_or flags k false ≡ get_or seen (number_at k 0) false)
    → b ≡ get_or seen (number_at e 0) false → new ≡ flags ++ b ∷ [] → (k : ℕ) → k < e + 1 → get_or new k false ≡ get_or seen (number_at k 0) false
flag_more seen flags new e b l same is q k h = elim (cases_lt k e) [
  | inl m ↦ ap (λ z. get_or z k false) q ∙ get_or_append_left flags (b ∷ []) false k (omega (arith, m, l)) ∙ same k m
  | inr g ↦
      let at : k ≡ e = omega arith in
      let there : k ≡ length flags = omega (arith, at, l) in
      ap (λ z. get_or z k false) q ∙ ap (λ m. get_or (flags ++ b ∷ []) m false) there ∙ get_or-append_seam flags b [] false ∙ is ∙ ap (λ m. get_or seen (number_at m 0) false) (sym at)
]

pub flags_tell : (set : Declarations) (least : Least) (kept : IsKept set) (exact : IsExact set least) (root : Chars) (seen flags : List Bool) (e : ℕ)
    → Reaches (next_numbers set least.rows (place_of set root)) (count_numbers set) seen → length flags ≡ e → e ≡ length set.elements
    → ((k : ℕ) → k < e → get_or flags k false ≡ get_or seen (number_at k 0) false) → TellUseful set root flags
flags_tell set least kept exact root seen flags e R l q same = record {
  length_same = l ∙ q;
  told = λ k x h.
      let w = slice_get_within set.elements k x h in
      let s : get_or flags k false ≡ get_or seen (number_at k 0) false = same k (omega (arith, w, q)) in
      subst (λ (b : Bool). Decides b (IsUseful set root x.0)) (sym s) (told set least kept exact root seen R k x h);
}
