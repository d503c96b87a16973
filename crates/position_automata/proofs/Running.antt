-- Steps and runs of an automaton.
use Rattle.std.proofs.Common.{◌≡◌, ◌<◌, ◌≤◌, ◌+◌, ℕ, zero, suc, List, [], ◌∷◌, ◌++◌, length, take, drop, get_or, Bool, true, false, cond, not, ◌||◌, inl, inr, Option, Some, None, refl, sym, ap, ◌∙◌, subst, arith, Contains, bytes_eq, true≢false}
use Rattle.std.specs.Prelude.{MatchOption}
use Rattle.std.specs.Bool.{Decides}
use Rattle.std.specs.List.{list_any, position_or_len}
use Rattle.std.specs.Cmp.Lexicographic.{nat_list_eq_equiv}
use Rattle.std.proofs.lemmas.Bool.{cases_Bool}
use Rattle.std.proofs.lemmas.List.{take_more, take_all}
use Rattle.std.proofs.lemmas.Slice.Eq.{bytes_eq-Decides}
use Rattle.std.proofs.lemmas.Map.Views.{list_any-from_Contains}
use Rattle.content_models.specs.declared.content.Content.{Content}
use Rattle.content_models.specs.declared.content.Content.TheVariants.{Empty, Any, Mixed, Children}
use Rattle.content_models.specs.declared.content.Particle.{Particle}
use Rattle.content_models.specs.Model.{Chars, model, Derives}
use Rattle.content_models.specs.Re.{Re}
use Rattle.position_automata.specs.Automata.{states, IsDeterministic, IsStep, Leads, FollowsOn, Accepts, Way}
use Rattle.position_automata.specs.Marked.{count, Follows}
use Rattle.position_automata.specs.Places.{letters, pairs}
use Rattle.position_automata.specs.Rows.{targets, numbers_of, IsRow}
use Rattle.position_automata.specs.Tables.{IsTable, AreKeys}
use Rattle.position_automata.proofs.Deciding.{number_is, is_key}
use Rattle.position_automata.proofs.Meaning.{row_to, row_from, follows_at, length-letters}
use Rattle.position_automata.proofs.States.{derives_by_states, leads_by_ways, one_state_follows}

one_add : (n : ℕ) → 1 + n ≡ suc n
one_add n = omega arith

at_found : {X : Type 0} (p : X → Bool) (x : X) (xs : List X) → p x ≡ true → position_or_len p (x ∷ xs) ≡ 0
at_found p x xs e = ap (λ b. cond (not b) (1 + position_or_len p xs) 0) e

at_later : {X : Type 0} (p : X → Bool) (x : X) (xs : List X) → p x ≡ false → position_or_len p (x ∷ xs) ≡ suc (position_or_len p xs)
at_later p x xs e = ap (λ b. cond (not b) (1 + position_or_len p xs) 0) e ∙ one_add (position_or_len p xs)

found_within : {X : Type 0} (p : X → Bool) (xs : List X) → list_any p xs ≡ true → position_or_len p xs < length xs
found_within p [] h = absurd (true≢false (sym h))
found_within p (x ∷ xs) h = elim (cases_Bool (p x)) [
  | inl e ↦ omega (arith, at_found p x xs e)
  | inr e ↦ omega (arith, at_later p x xs e, found_within p xs (ap (λ b. b || list_any p xs) (sym e) ∙ h))
]

within_found : {X : Type 0} (p : X → Bool) (xs : List X) (d : X) → position_or_len p xs < length xs → p (get_or xs (position_or_len p xs) d) ≡ true
within_found p [] d h = absurd (omega arith)
within_found p (x ∷ xs) d h = elim (cases_Bool (p x)) [
  | inl e ↦ subst (λ (n : ℕ). p (get_or (x ∷ xs) n d) ≡ true) (sym (at_found p x xs e)) e
  | inr e ↦
      subst (λ (n : ℕ). p (get_or (x ∷ xs) n d) ≡ true) (sym (at_later p x xs e))
      (within_found p xs d (omega (arith, at_later p x xs e)))
]

-- what a row has under a number
abbrev pub Finds : List (ℕ × ℕ) → ℕ → Option ℕ → Type 0
Finds row n o = MatchOption o ((p : ℕ) → Contains row (n, p) → ⊥) (λ p. Contains row (n, p))

step_of_row : (r : Re Chars) (keys : List Chars) (named : AreKeys (letters r) keys) (i : ℕ) (row : List (ℕ × ℕ)) (name : Chars) (o : Option ℕ)
    → IsRow (numbers_of keys (letters r)) (targets i (pairs r)) row → Finds row (position_or_len (bytes_eq name) keys) o
    → MatchOption o ((j : ℕ) → Follows r i name j → ⊥) (λ j. Follows r i name j)
step_of_row r keys named i row name None R m = λ j f.
    m j ((R.numbered (position_or_len (bytes_eq name) keys) j).1 (row_from r i j name f, sym (number_is r keys named j name (follows_at r i j name f))))
step_of_row r keys named i row name (Some p) R m =
    let n = position_or_len (bytes_eq name) keys in
    let t = (R.numbered n p).0 m in
    let a = row_to r i p t.0 in
    let s = follows_at r i p a.0 a.1 in
    let e : n ≡ position_or_len (bytes_eq a.0) keys = t.1 ∙ number_is r keys named p a.0 s in
    let l : list_any (bytes_eq a.0) keys ≡ true = named a.0 ∙ list_any-from_Contains nat_list_eq_equiv a.0 (letters r) (s.0, s.2, s.3) in
    let w : position_or_len (bytes_eq a.0) keys < length keys = found_within (bytes_eq a.0) keys l in
    let h : name ≡ get_or keys n [] = (bytes_eq-Decides name (get_or keys n [])).0 (within_found (bytes_eq name) keys [] (omega arith)) in
    let k : a.0 ≡ name = is_key r keys named p a.0 s ∙ ap (λ x. get_or keys x []) (sym e) ∙ sym h in
    subst (λ (x : Chars). Follows r i x p) k a.1

step_at : (part : Particle) (names keys : List Chars) (rows : List (List (ℕ × ℕ))) (accepting : List Bool) (i : ℕ) (name : Chars) (o : Option ℕ)
    → IsTable (Children part) names keys rows accepting → i < 1 + count (model part) → Finds (get_or rows i []) (position_or_len (bytes_eq name) keys) o
    → IsStep (Children part) i name o
step_at part names keys rows accepting i name o T h m =
    step_of_row (model part) keys (subst (λ (ns : List Chars). AreKeys ns keys) T.names_are T.keys_are) i (get_or rows i []) name o
    (subst (λ (ns : List Chars). IsRow (numbers_of keys ns) (targets i (pairs (model part))) (get_or rows i [])) T.names_are (T.rows_are i h)) m

pub step_of_table : (content : Content) (part : Particle) (names keys : List Chars) (rows : List (List (ℕ × ℕ))) (accepting : List Bool) (i : ℕ) (name : Chars) (o : Option ℕ)
    → content ≡ Children part → IsTable content names keys rows accepting → i < states content
    → Finds (get_or rows i []) (position_or_len (bytes_eq name) keys) o → IsStep content i name o
step_of_table content part names keys rows accepting i name o e T h m =
    subst (λ (x : Content). IsStep x i name o) (sym e)
    (step_at part names keys rows accepting i name o (subst (λ (x : Content). IsTable x names keys rows accepting) e T) (subst (λ (x : Content). i < states x) e h) m)

pub start_leads : (content : Content) → Leads content [] 0
start_leads content = (leads_by_ways content [] 0).1 refl

pub start_within : (content : Content) → 0 < states content
start_within Empty = omega arith
start_within Any = omega arith
start_within (Mixed listed) = omega arith
start_within (Children part) = omega arith

way_more : (content : Content) (w : List Chars) (i j k : ℕ) (a : Chars) → Way content i w j → FollowsOn content j a k → Way content i (w ++ a ∷ []) k
way_more content [] i j k a t f = (k, subst (λ (x : ℕ). FollowsOn content x a k) (sym t) f, refl)
way_more content (b ∷ w) i j k a t f = (t.0, t.1, way_more content w t.0 j k a t.2 f)

abbrev Halves : Content → List Chars → Chars → List Chars → ℕ → ℕ → Type 0
Halves content u a v i j = (s : ℕ) × (t : ℕ) × Way content i u s × FollowsOn content s a t × Way content t v j

way_split : (content : Content) (u : List Chars) (a : Chars) (v : List Chars) (i j : ℕ) → Way content i (u ++ a ∷ v) j → Halves content u a v i j
way_split content [] a v i j t = (i, t.0, refl, t.1, t.2)
way_split content (b ∷ u) a v i j t =
    let h = way_split content u a v t.0 j t.2 in
    (h.0, h.1, (t.0, t.1, h.2), h.3, h.4)

one_way : (content : Content) → IsDeterministic content → (w : List Chars) (i j k : ℕ) → Way content i w j → Way content i w k → j ≡ k
one_way content d [] i j k t s = sym t ∙ s
one_way content d (a ∷ w) i j k t s =
    let e : t.0 ≡ s.0 = (one_state_follows content).0 d i t.0 s.0 a t.1 s.1 in
    one_way content d w t.0 j k t.2 (subst (λ (x : ℕ). Way content x w k) (sym e) s.2)

pub leads_more : (content : Content) (names : List Chars) (n state next : ℕ) (name : Chars) → n < length names → name ≡ get_or names n name
    → Leads content (take n names) state → FollowsOn content state name next → Leads content (take (n + 1) names) next
leads_more content names n state next name h e l f =
    subst (λ (w : List Chars). Leads content w next) (sym (take_more names n name h ∙ ap (λ x. take n names ++ x ∷ []) (sym e)))
    ((leads_by_ways content (take n names ++ name ∷ []) next).1 (way_more content (take n names) 0 state next name ((leads_by_ways content (take n names) state).0 l) f))

pub follows_to : (content : Content) (i j : ℕ) (name : Chars) → FollowsOn content i name j → j < states content
follows_to Empty i j name f = absurd f
follows_to Any i j name f = let e = f.1 in omega arith
follows_to (Mixed listed) i j name f = let e = f.2 in omega arith
follows_to (Children part) i j name f =
    let s = follows_at (model part) i j name f in
    omega (arith, s.1, s.2, length-letters (model part))

split_at : (names : List Chars) (n : ℕ) (name : Chars) → n < length names → name ≡ get_or names n name
    → names ≡ take n names ++ name ∷ drop (suc n) names
split_at [] n name h e = absurd (omega arith)
split_at (x ∷ names) zero name h e = ap (λ k. k ∷ names) (sym e)
split_at (x ∷ names) (suc n) name h e = ap (λ k. x ∷ k) (split_at names n name (omega arith) e)

-- where no state follows on a name the content derives no list that goes on with it
pub stuck : (content : Content) (names : List Chars) (n state : ℕ) (name : Chars) → IsDeterministic content → n < length names → name ≡ get_or names n name
    → Leads content (take n names) state → ((j : ℕ) → FollowsOn content state name j → ⊥) → Derives content names → ⊥
stuck content names n state name d h e l none t =
    let s = (derives_by_states content names).0 t in
    let w : Way content 0 names s.0 = (leads_by_ways content names s.0).0 s.1 in
    let g = way_split content (take n names) name (drop (suc n) names) 0 s.0 (subst (λ (x : List Chars). Way content 0 x s.0) (split_at names n name h e) w) in
    let same : g.0 ≡ state = one_way content d (take n names) 0 g.0 state g.2 ((leads_by_ways content (take n names) state).0 l) in
    none g.1 (subst (λ (x : ℕ). FollowsOn content x name g.1) same g.3)

pub arrived : (content : Content) (names : List Chars) (n state : ℕ) (flag : Bool) → IsDeterministic content → length names ≤ n
    → Leads content (take n names) state → Decides flag (Accepts content state) → Decides flag (Derives content names)
arrived content names n state flag d h l a =
    let m : Leads content names state = subst (λ (x : List Chars). Leads content x state) (take_all n names h) l in (
      (λ t. (derives_by_states content names).1 (state, m, a.0 t)),
      (λ t.
          let s = (derives_by_states content names).0 t in
          let same : s.0 ≡ state = one_way content d names 0 s.0 state ((leads_by_ways content names s.0).0 s.1) ((leads_by_ways content names state).0 m) in
          a.1 (subst (Accepts content) same s.2)),
    )
