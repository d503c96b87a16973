-- One turn of the search over two tables of rows.
use Rattle.std.proofs.Common.{◌≡◌, ◌<◌, ◌+◌, ◌*◌, ◌/◌, ◌%◌, List, [], ◌∷◌, ◌++◌, ℕ, length, get_or, set, Bool, true, false, Option, Some, None, inl, inr, sym, ap, ◌∙◌, subst, arith, replicate, Contains}
use Rattle.std.specs.Prelude.{option_map}
use Rattle.std.proofs.lemmas.Bool.{cases_lt}
use Rattle.std.proofs.lemmas.Nat.{div_below, mod_below}
use Rattle.std.proofs.lemmas.List.{get_or_default, length-replicate, nil_from_length, length-append, get_or_append_left}
use Rattle.std.proofs.Math.Seq.{get_or-append_seam}
use Rattle.content_models.specs.declared.content.Content.{Content}
use Rattle.content_models.specs.Model.{Chars}
use Rattle.model_inclusion.specs.Rows.{IsRow}
use Rattle.model_inclusion.specs.Reaching.{Member, noted, common, common_step, next, visit, unseen, Working, Reaches, AreWithin}
use Rattle.model_inclusion.proofs.Listing.{pair_below, stays_within}
use Rattle.model_inclusion.proofs.Members.{to_member, filtered_from}
use Rattle.model_inclusion.proofs.Visit as go

pub row_is : (rows : List (List (ℕ × ℕ))) (k : ℕ) (r s : List (ℕ × ℕ)) → k < length rows → r ≡ get_or rows k r → s ≡ r → s ≡ get_or rows k []
row_is rows k r s l e q = q ∙ e ∙ get_or_default rows k r [] l

module _ (firsts seconds : List (List (ℕ × ℕ))) (names : ℕ) (first : 0 < length firsts) (second : 0 < length seconds) (h : AreWithin firsts seconds names) where
  abbrev w : ℕ
  w = length seconds

  abbrev n : ℕ
  n = length firsts * w

  abbrev step : ℕ → List ℕ
  step x = next firsts seconds names x

  some : 0 < n
  some = let k : 0 * w + 0 < n = pair_below 0 0 (length firsts) w first second in omega (arith, k)

  pub starts : (seen : List Bool) (stack : List ℕ) → seen ≡ replicate n false → stack ≡ 0 ∷ [] → Working step n (set seen 0 true) stack
  starts seen stack e q =
      subst (Working step n (set seen 0 true)) (sym q)
      (go.begin step n seen some (ap length e ∙ length-replicate {A = Bool} n false) (go.all-false n seen e))

  module _ (seen : List Bool) (stack rest : List ℕ) (x : ℕ) (W : Working step n seen stack) (es : stack ≡ rest ++ x ∷ []) where
    inside : x < n
    inside = go.within step n (stays_within firsts seconds names second h) seen stack rest x W es

    pub first_within : x / w < length firsts
    first_within = div_below x w (length firsts) second inside

    pub second_within : x % w < w
    second_within = mod_below x w second

    module _ (a b ra rb : List (ℕ × ℕ)) (steps : List (Option ℕ)) (ea : ra ≡ get_or firsts (x / w) ra) (eb : rb ≡ get_or seconds (x % w) rb) (qa : a ≡ ra) (qb : b ≡ rb)
        (blank : steps ≡ replicate names None) where
      next_is : common a (noted b steps) w ≡ step x
      next_is =
          ap (λ z. common z (noted b steps) w) (row_is firsts (x / w) ra a first_within ea qa)
          ∙ ap (λ z. common (get_or firsts (x / w) []) (noted z steps) w) (row_is seconds (x % w) rb b second_within eb qb)
          ∙ ap (λ z. common (get_or firsts (x / w) []) (noted (get_or seconds (x % w) []) z) w) blank

      pub seen_within : (s : ℕ × ℕ) (j : ℕ) → Contains a s → get_or (noted b steps) s.0 None ≡ Some j → s.1 * w + j < length seen
      seen_within s j c e =
          let m : Member (s.1 * w + j) (common a (noted b steps) w) =
          filtered_from (common_step (noted b steps) w) a s (s.1 * w + j) (to_member a s c) (ap (λ o. option_map (λ j. s.1 * w + j) o) e) in
          let l = stays_within firsts seconds names second h x (s.1 * w + j) inside (subst (Member (s.1 * w + j)) next_is m) in
          omega (arith, l, W.length_same)

      module _ (seen' : List Bool) (st' : List ℕ) (e : (seen', st') ≡ visit (common a (noted b steps) w) (seen, rest)) where
        visits : (seen', st') ≡ visit (step x) (seen, rest)
        visits = e ∙ ap (λ z. visit z (seen, rest)) next_is

        pub following : Working step n seen' st'
        following = go.following step n (stays_within firsts seconds names second h) seen stack rest x W es seen' st' visits

        pub smaller : 2 * unseen seen' + length st' < 2 * unseen seen + length stack
        smaller = go.smaller step n (stays_within firsts seconds names second h) seen stack rest x W es seen' st' visits

  pub ends : (seen : List Bool) (stack : List ℕ) → Working step n seen stack → length stack ≡ 0 → Reaches step n seen
  ends seen stack W e = go.done step n seen (subst (Working step n seen) (nil_from_length stack e) W)

-- ---- the rows of all states, one more at a time

pub record Filled (keys : List Chars) (a : Content) (k : ℕ) (rows : List (List (ℕ × ℕ))) : Type 0 where
  pub count : length rows ≡ k
  pub are : (i : ℕ) → i < k → IsRow keys a i (get_or rows i [])

pub row_more : (keys : List Chars) (a : Content) (k : ℕ) (rows new : List (List (ℕ × ℕ))) (row : List (ℕ × ℕ)) → length rows ≡ k → ((i : ℕ) → i < k → IsRow keys a i (get_or rows i []))
    → IsRow keys a k row → new ≡ rows ++ row ∷ [] → Filled keys a (k + 1) new
row_more keys a k rows new row c are r e = record {
  count = ap length e ∙ length-append rows (row ∷ []) ∙ ap (λ n. n + 1) c;
  are = λ i h. elim (cases_lt i k) [
    | inl l ↦ subst (IsRow keys a i) (sym (get_or_append_left rows (row ∷ []) [] i (omega (arith, l, c))) ∙ ap (λ z. get_or z i []) (sym e)) (are i l)
    | inr g ↦
        let same : k ≡ i = omega arith in
        let at : get_or new i [] ≡ row = ap (λ z. get_or z i []) e ∙ ap (λ m. get_or (rows ++ row ∷ []) m []) (sym same ∙ sym c) ∙ get_or-append_seam rows row [] [] in
        subst (λ (m : ℕ). IsRow keys a m (get_or new i [])) same (subst (IsRow keys a k) (sym at) r)
  ];
}
