-- Acceptance and steps, as functions, are those of the definitions.
use Rattle.std.proofs.Common.{◌≡◌, ◌≤◌, ◌<◌, ◌==◌, ℕ, List, [], ◌∷◌, length, map, Bool, true, false, cond, ◌||◌, Option, Some, None, inl, inr, refl, sym, ap, ◌∙◌, subst, arith, bytes_eq, true≢false, find, nat_eq, Contains, slice_get}
use Rattle.std.specs.Prelude.{nat_le, is_none}
use Rattle.std.specs.Bool.{Decides}
use Rattle.std.specs.List.{filter, list_all, list_any, range_with_len}
use Rattle.std.proofs.lemmas.Bool.{eqb-true, eq-eqb, ne_eqb, both_ways, and_parts, leb-true}
use Rattle.std.proofs.lemmas.List.{length-map}
use Rattle.std.proofs.lemmas.List.FromFn.{length-range_with_len}
use Rattle.std.proofs.lemmas.Slice.Eq.{bytes_eq-Decides}
use Rattle.jats_chars.specs.Names.{is_name}
use Rattle.content_models.specs.declared.content.Content.{Content}
use Rattle.content_models.specs.declared.content.Content.TheVariants.{Empty, Any, Mixed, Children}
use Rattle.content_models.specs.Model.{Chars, model, among}
use Rattle.content_models.specs.Proper.{IsProper, is_proper, repeated}
use Rattle.content_models.specs.Re.{Re, Eps, Sym, Cat, Alt, Plus}
use Rattle.position_automata.specs.Automata.{states, FollowsOn, Accepts, IsDeterministic, IsStep, IsSteps, TellsStep}
use Rattle.position_automata.specs.Ends.{LastOf}
use Rattle.position_automata.specs.Judged.{name_at, positions_after}
use Rattle.position_automata.specs.Marked.{count, Follows, AcceptsAt, numbered}
use Rattle.position_automata.specs.Places.{nullable, lasts, letters, pairs}
use Rattle.position_automata.specs.Rows.{targets}
use Rattle.position_automata.specs.Stepping.{does_accept, steps_of, step_on, TellsSteps, AcceptsByTest, StepsAreTold, StepsFollow, StepOnFollows, OneStepOn, StepsAgree, AreWithin, FewSteps}
use Rattle.position_automata.proofs.Exchange.{holds-range}
use Rattle.position_automata.proofs.Judging.{after_to, after_from, follows_of_step, step_of_follows, steps_are}
use Rattle.position_automata.proofs.Lists.{nullable-to, nullable-from, lasts-to, lasts-from}
use Rattle.position_automata.proofs.Meaning.{follows_within, to_member, contains_of}
use Rattle.position_automata.proofs.Run.{accepts_iff_ends}
use Rattle.position_automata.proofs.Running.{follows_to}
use Rattle.position_automata.proofs.States.{one_state_follows}
use Rattle.position_automata.proofs.Tabled.{any_member, member_any, proper_count}
use Rattle.position_automata.proofs.Unique.{name_of, steps_one}
use Rattle.position_automata.proofs.Words.{Member, Holds, mapped, unmapped}

-- by what a test answers
on_test : (P : Bool → Type 0) (b : Bool) → (b ≡ true → P true) → (b ≡ false → P false) → P b
on_test P true at_true at_false = at_true refl
on_test P false at_true at_false = at_false refl

-- ---- acceptance

holds-last : {A : Type 0} (r : Re A) (x : A) → LastOf r x → Holds r x
holds-last Eps x h = elim h [ ]
holds-last (Sym a) x h = h
holds-last (Cat r s) x (inl h) = inr (holds-last s x h)
holds-last (Cat r s) x (inr h) = inl (holds-last r x h.1)
holds-last (Alt r s) x (inl h) = inl (holds-last r x h)
holds-last (Alt r s) x (inr h) = inr (holds-last s x h)
holds-last (Plus r) x h = holds-last r x h

module _ (r : Re Chars) where
  model_accepts : (i : ℕ) → cond (i == 0) (nullable r) (list_any (nat_eq i) (lasts 1 r)) ≡ true → AcceptsAt r i
  model_accepts i h =
      let P : Bool → Type 0 = λ b. (i == 0) ≡ b → cond b (nullable r) (list_any (nat_eq i) (lasts 1 r)) ≡ true → AcceptsAt r i in
      on_test P (i == 0)
      (λ t q h. (accepts_iff_ends r i).1 (inl (eqb-true i 0 q, nullable-to 1 r h)))
      (λ t q h. (accepts_iff_ends r i).1 (inr (lasts-to 1 r i (any_member i (lasts 1 r) h))))
      refl h

  accepts_model : (i : ℕ) → AcceptsAt r i → cond (i == 0) (nullable r) (list_any (nat_eq i) (lasts 1 r)) ≡ true
  accepts_model i h = elim ((accepts_iff_ends r i).0 h) [
    | inl t ↦ ap (λ b. cond b (nullable r) (list_any (nat_eq i) (lasts 1 r))) (eq-eqb i 0 t.0) ∙ nullable-from 1 r t.1
    | inr t ↦ (let z = holds-range r 1 (i, t.0) (holds-last (numbered 1 r) (i, t.0) t.1) in
        ap (λ b. cond b (nullable r) (list_any (nat_eq i) (lasts 1 r))) (ne_eqb i 0 (λ e. absurd (omega (arith, e, z.0))))
        ∙ member_any i (lasts 1 r) (lasts-from 1 r i t.0 t.1))
  ]

pub accepts_by_test : AcceptsByTest
accepts_by_test Empty i = ((λ h. eqb-true i 0 h), (λ h. eq-eqb i 0 h))
accepts_by_test Any i = ((λ h. eqb-true i 0 h), (λ h. eq-eqb i 0 h))
accepts_by_test (Mixed listed) i = ((λ h. eqb-true i 0 h), (λ h. eq-eqb i 0 h))
accepts_by_test (Children part) i = (model_accepts (model part) i, accepts_model (model part) i)

pub accept_within : (a : Content) (i : ℕ) → Accepts a i → i < states a
accept_within Empty i h = omega (arith, h)
accept_within Any i h = omega (arith, h)
accept_within (Mixed listed) i h = omega (arith, h)
accept_within (Children part) i h = elim ((accepts_iff_ends (model part) i).0 h) [
  | inl t ↦ omega (arith, t.0)
  | inr t ↦ (let z = holds-range (model part) 1 (i, t.0) (holds-last (numbered 1 (model part)) (i, t.0) t.1) in omega (arith, z.1))
]

pub step_within : (a : Content) (i k : ℕ) (name : Chars) → FollowsOn a i name k → i < states a
step_within Empty i k name f = absurd f
step_within Any i k name f = let e = f.0 in omega arith
step_within (Mixed listed) i k name f = let e = f.0 in omega arith
step_within (Children part) i k name f = follows_within (model part) i k name f

pub are_within : (content : Content) → AreWithin content
are_within a = record {
  accepting = accept_within a;
  before = λ i j name f. step_within a i j name f;
  after = λ i j name f. follows_to a i j name f;
}

-- ---- steps

pub listed_member : (names : List Chars) (name : Chars) → among names name ≡ true → Member name names
listed_member [] name h = absurd (true≢false (sym h))
listed_member (x ∷ names) name h =
    let P : Bool → Type 0 = λ b. bytes_eq name x ≡ b → (b || among names name) ≡ true → Member name (x ∷ names) in
    on_test P (bytes_eq name x) (λ t q h. inl ((bytes_eq-Decides name x).0 q)) (λ t q h. inr (listed_member names name h)) refl h

pub member_listed : (names : List Chars) (name : Chars) → Member name names → among names name ≡ true
member_listed [] name m = elim m [ ]
member_listed (x ∷ names) name (inl e) = ap (λ b. b || among names name) ((bytes_eq-Decides name x).1 e)
member_listed (x ∷ names) name (inr m) =
    let P : Bool → Type 0 = λ b. (b || among names name) ≡ true in
    on_test P (bytes_eq name x) (λ t. refl) (λ t. member_listed names name m)

is_zero : (i : ℕ) (xs : List (Chars × ℕ)) (s : Chars × ℕ) → Member s (cond (i == 0) xs []) → (i ≡ 0) × Member s xs
is_zero i xs s m =
    let P : Bool → Type 0 = λ b. (i == 0) ≡ b → Member s (cond b xs []) → (i ≡ 0) × Member s xs in
    on_test P (i == 0) (λ t q m. (eqb-true i 0 q, m)) (λ t q m. elim m [ ]) refl m

at_zero : (i : ℕ) (xs : List (Chars × ℕ)) (s : Chars × ℕ) → i ≡ 0 → Member s xs → Member s (cond (i == 0) xs [])
at_zero i xs s e m = subst (λ b. Member s (cond b xs [])) (sym (eq-eqb i 0 e)) m

-- each step that is told follows
pub follows_of : (a : Content) (i j : ℕ) (name : Chars) → Contains (steps_of a i) (name, j) → FollowsOn a i name j
follows_of Empty i j name c = elim (to_member [] (name, j) c) [ ]
follows_of Any i j name c = elim (to_member [] (name, j) c) [ ]
follows_of (Mixed listed) i j name c =
    let z = is_zero i (map (λ n. (n, 0)) listed) (name, j) (to_member (steps_of (Mixed listed) i) (name, j) c) in
    let t = unmapped {B = Chars × ℕ} (λ n. (n, 0)) listed (name, j) z.1 in
    (z.0, subst (λ n. among listed n ≡ true) (sym (ap (λ x. x.0) t.2)) (member_listed listed t.0 t.1), ap (λ x. x.1) t.2)
follows_of (Children part) i j name c = follows_of_step (model part) i name j c

-- each state that follows is told, but at ANY
pub told_of : (a : Content) (i j : ℕ) (name : Chars) → TellsSteps a → FollowsOn a i name j → Contains (steps_of a i) (name, j)
told_of Empty i j name t f = absurd f
told_of Any i j name t f = elim t [ ]
told_of (Mixed listed) i j name t f =
    contains_of (steps_of (Mixed listed) i) (name, j)
    (at_zero i (map (λ n. (n, 0)) listed) (name, j) f.0
    (subst (λ x. Member {A = Chars × ℕ} (name, x) (map (λ n. (n, 0)) listed)) (sym f.2)
    (mapped {B = Chars × ℕ} (λ n. (n, 0)) listed name (listed_member listed name f.1))))
told_of (Children part) i j name t f = step_of_follows (model part) i name j f

pub steps_follow : StepsFollow
steps_follow a i j name t = (follows_of a i j name, told_of a i j name t)

-- the steps are steps
pub are_steps : (a : Content) (i : ℕ) → i < states a → IsSteps a i (steps_of a i)
are_steps Empty i l = refl
are_steps Any i l = refl
are_steps (Mixed listed) i l = ap (λ b. cond b (map (λ n. (n, 0)) listed) []) (eq-eqb i 0 (omega arith))
are_steps (Children part) i l = steps_are part i

pub steps_are_told : StepsAreTold
steps_are_told a i steps l = (
  (λ h. steps_one a i steps (steps_of a i) h (are_steps a i l)),
  (λ e. subst (IsSteps a i) (sym e) (are_steps a i l)),
)

-- ---- the step on a name

found_to : (p : ℕ → Bool) (xs : List ℕ) (j : ℕ) → find p xs ≡ Some j → Member j xs × (p j ≡ true)
found_to p [] j h = cc
found_to p (x ∷ xs) j h =
    let P : Bool → Type 0 = λ b. p x ≡ b → cond b (Some x) (find p xs) ≡ Some j → Member j (x ∷ xs) × (p j ≡ true) in
    on_test P (p x)
    (λ t q h. let same : x ≡ j = cc in (inl (sym same), subst (λ y. p y ≡ true) same q))
    (λ t q h. let f = found_to p xs j h in (inr f.0, f.1))
    refl h

none_to : (p : ℕ → Bool) (xs : List ℕ) (j : ℕ) → find p xs ≡ None → Member j xs → p j ≡ false
none_to p [] j h m = elim m [ ]
none_to p (x ∷ xs) j h m =
    let P : Bool → Type 0 = λ b. p x ≡ b → cond b (Some x) (find p xs) ≡ None → Member j (x ∷ xs) → p j ≡ false in
    on_test P (p x)
    (λ t q h m. cc)
    (λ t q h m. elim m [ inl e ↦ subst (λ y. p y ≡ false) (sym e) q | inr n ↦ none_to p xs j h n ])
    refl h m

if_zero : (i : ℕ) (o : Option ℕ) (k : ℕ) → cond (i == 0) o None ≡ Some k → (i ≡ 0) × (o ≡ Some k)
if_zero i o k h =
    let P : Bool → Type 0 = λ b. (i == 0) ≡ b → cond b o None ≡ Some k → (i ≡ 0) × (o ≡ Some k) in
    on_test P (i == 0) (λ t q h. (eqb-true i 0 q, h)) (λ t q h. cc) refl h

if_listed : (b : Bool) (k : ℕ) → cond b (Some 0) None ≡ Some k → (b ≡ true) × (k ≡ 0)
if_listed true k h = (refl, let e : 0 ≡ k = cc in sym e)
if_listed false k h = cc

-- the step that is found follows
pub on_to : (a : Content) (i k : ℕ) (name : Chars) → step_on a i name ≡ Some k → FollowsOn a i name k
on_to Empty i k name h = cc
on_to Any i k name h = let t = if_zero i (Some 0) k h in (t.0, let e : 0 ≡ k = cc in sym e)
on_to (Mixed listed) i k name h =
    let t = if_zero i (cond (among listed name) (Some 0) None) k h in
    let s = if_listed (among listed name) k t.1 in (t.0, s.0, s.1)
on_to (Children part) i k name h =
    let r = model part in
    let t = found_to (λ j. bytes_eq name (name_at (letters r) j)) (positions_after r i) k h in
    subst (λ (x : Chars). Follows r i x k) (sym ((bytes_eq-Decides name (name_at (letters r) k)).0 t.1)) (after_to r i k t.0)

-- where none is found none follows
pub on_none : (a : Content) (i k : ℕ) (name : Chars) → step_on a i name ≡ None → FollowsOn a i name k → ⊥
on_none Empty i k name h f = f
on_none Any i k name h f =
    let e : cond {A = Option ℕ} (i == 0) (Some 0) None ≡ Some 0 = ap (λ b. cond {A = Option ℕ} b (Some 0) None) (eq-eqb i 0 f.0) in cc
on_none (Mixed listed) i k name h f =
    let g : cond {A = Option ℕ} (among listed name) (Some 0) None ≡ Some 0 = ap (λ b. cond {A = Option ℕ} b (Some 0) None) f.1 in
    let e : cond {A = Option ℕ} (i == 0) (cond (among listed name) (Some 0) None) None ≡ Some 0 =
    ap (λ b. cond {A = Option ℕ} b (cond (among listed name) (Some 0) None) None) (eq-eqb i 0 f.0) ∙ g in
    cc
on_none (Children part) i k name h f =
    let r = model part in
    let off = none_to (λ j. bytes_eq name (name_at (letters r) j)) (positions_after r i) k h (after_from r i k name f) in
    both_ways (bytes_eq name (name_at (letters r) k)) off ((bytes_eq-Decides name (name_at (letters r) k)).1 (sym (name_of r i k name f)))

-- the state that follows is found, where the content is deterministic
pub on_from : (a : Content) (i k : ℕ) (name : Chars) → IsDeterministic a → FollowsOn a i name k → step_on a i name ≡ Some k
on_from a i k name d f = by (step_on a i name) refl
  where
    by : (o : Option ℕ) → step_on a i name ≡ o → step_on a i name ≡ Some k
    by None q = absurd (on_none a i k name q f)
    by (Some l) q = q ∙ ap (λ x. Some x) ((one_state_follows a).0 d i l k name (on_to a i l name q) f)

pub step_on_follows : StepOnFollows
step_on_follows a i name = by (step_on a i name) refl
  where
    by : (o : Option ℕ) → step_on a i name ≡ o → IsStep a i name o
    by None q = λ j f. on_none a i j name q f
    by (Some j) q = on_to a i j name q

pub one_step_on : OneStepOn
one_step_on a i j name d = (on_to a i j name, on_from a i j name d)

pub steps_agree : StepsAgree
steps_agree a i j name t d = ((λ h. told_of a i j name t (on_to a i j name h)), (λ c. on_from a i j name d (follows_of a i j name c)))

-- ---- few steps

length-filter : {X : Type 0} (p : X → Bool) (xs : List X) → length (filter p xs) ≤ length xs
length-filter p [] = omega arith
length-filter p (x ∷ xs) =
    let P : Bool → Type 0 = λ b. length (cond b (x ∷ filter p xs) (filter p xs)) ≤ length (x ∷ xs) in
    let l = length-filter p xs in
    on_test P (p x) (λ t. omega (arith, l)) (λ t. omega (arith, l))

at_most : (b : Bool) (xs : List (Chars × ℕ)) (n : ℕ) → length xs ≤ n → length (cond b xs []) ≤ n
at_most true xs n l = l
at_most false xs n l = omega arith

mixed_small : (listed : List Chars) → IsProper (Mixed listed) → length listed ≤ 1024
unfolding is_proper
mixed_small listed h = leb-true (length listed) 1024 (and_parts (is_none (repeated listed)) (nat_le (length listed) 1024) (and_parts (list_all is_name listed) _ h).1).1

pub few_steps : FewSteps
few_steps Empty i p = omega arith
few_steps Any i p = omega arith
few_steps (Mixed listed) i p =
    at_most (i == 0) (map (λ n. (n, 0)) listed) 1024
    (let q = length-map {B = Chars × ℕ} listed (λ n. (n, 0)) in let l = mixed_small listed p in omega (arith, q, l))
few_steps (Children part) i p =
    let r = model part in
    let q = length-map {B = Chars × ℕ} (positions_after r i) (λ j. (name_at (letters r) j, j)) in
    let l = length-filter (λ j. list_any (nat_eq j) (targets i (pairs r))) (range_with_len 1 (count r)) in
    let k = length-range_with_len 1 (count r) in
    let s = proper_count (Children part) part refl p in
    omega (arith, q, l, k, s)

-- ---- what an automaton answers

-- a test that decides acceptance is the test
pub decided : (a : Content) (i : ℕ) (b : Bool) → Decides b (Accepts a i) → b ≡ does_accept a i
decided a i true d = sym ((accepts_by_test a i).1 (d.0 refl))
decided a i false d = by (does_accept a i) refl
  where
    by : (o : Bool) → does_accept a i ≡ o → false ≡ does_accept a i
    by true q = d.1 ((accepts_by_test a i).0 q) ∙ sym q
    by false q = sym q

-- a step on a name is the step
pub answered : (a : Content) (i : ℕ) (name : Chars) (o : Option ℕ) → IsDeterministic a → IsStep a i name o → o ≡ step_on a i name
answered a i name (Some k) d h = sym (on_from a i k name d h)
answered a i name None d h = by (step_on a i name) refl
  where
    by : (x : Option ℕ) → step_on a i name ≡ x → None ≡ step_on a i name
    by None q = sym q
    by (Some k) q = absurd (h k (on_to a i k name q))

-- a step that is told is the one at its place
pub told : (a : Content) (i k : ℕ) (o : Option (Chars × ℕ)) → i < states a → TellsStep a i k o → o ≡ slice_get (steps_of a i) k
told a i k o l t = t.2 ∙ ap (λ s. slice_get s k) ((steps_are_told a i t.0 l).0 t.1)
