-- Texts that differ, told one behind the other.
use Rattle.std.proofs.Common.{◌≡◌, append-nil, ℕ, Bool, true, false, ◌&&◌, ◌||◌, not, List, [], ◌∷◌, ◌++◌, refl, sym, subst, IsTrue, bytes_eq, append_assoc}
use Rattle.std.specs.List.{AllByRecursion}
use Rattle.std.proofs.lemmas.Slice.Eq.{bytes_eq-Decides}
use Rattle.attribute_types.specs.Classes.{among}
use Rattle.article_validator.specs.Links.{Differ}

-- whether each text differs from these and from those before it
abbrev pub fresh : List (List ℕ) → List (List ℕ) → Bool
fresh seen [] = true
fresh seen (id ∷ ids) = not (among seen id) && fresh (seen ++ id ∷ []) ids

abbrev pub Absent : List (List ℕ) → List ℕ → Type 0
Absent seen id = IsTrue (among seen id) → ⊥

pub not_true : (b : Bool) → (IsTrue b → ⊥) → IsTrue (not b)
not_true true absent = absurd (absent refl)
not_true false absent = refl

pub true_not : (b : Bool) → IsTrue (not b) → IsTrue b → ⊥
true_not true t s = cc
true_not false t s = cc

pub and_of : (a b : Bool) → IsTrue a → IsTrue b → IsTrue (a && b)
and_of true b s t = t
and_of false b s t = cc

pub of_and : (a b : Bool) → IsTrue (a && b) → IsTrue a × IsTrue b
of_and true b t = (refl, t)
of_and false b t = cc

or_right : (a b : Bool) → IsTrue b → IsTrue (a || b)
or_right true b t = refl
or_right false b t = t

-- a text that is among others is one of them
pub among_is : (P : List ℕ → Type 0) (ids : List (List ℕ)) (id : List ℕ) → IsTrue (among ids id) → AllByRecursion P ids → P id
among_is P [] id t all = cc
among_is P (x ∷ ids) id t all = by (bytes_eq id x) refl t (λ s. among_is P ids id s all.1)
  where
    by : (b : Bool) → bytes_eq id x ≡ b → IsTrue (b || among ids id) → (IsTrue (among ids id) → P id) → P id
    by true e t later = subst P (sym ((bytes_eq-Decides id x).0 e)) all.0
    by false e t later = later t

pub among_self : (seen : List (List ℕ)) (id : List ℕ) → IsTrue (among (seen ++ id ∷ []) id)
among_self [] id = let e : bytes_eq id id ≡ true = (bytes_eq-Decides id id).1 refl in rw e refl
among_self (x ∷ seen) id = or_right (bytes_eq id x) (among (seen ++ id ∷ []) id) (among_self seen id)

-- what is among texts with one more is among them or is that one
pub among_more : (seen : List (List ℕ)) (id x : List ℕ) → IsTrue (among (seen ++ id ∷ []) x) → (IsTrue (among seen x) → ⊥) → x ≡ id
among_more [] id x t absent = by (bytes_eq x id) refl t
  where
    by : (b : Bool) → bytes_eq x id ≡ b → IsTrue (b || false) → x ≡ id
    by true e t = (bytes_eq-Decides x id).0 e
    by false e t = cc
among_more (y ∷ seen) id x t absent = by (bytes_eq x y) refl t absent (λ s n. among_more seen id x s n)
  where
    by : (b : Bool) → bytes_eq x y ≡ b → IsTrue (b || among (seen ++ id ∷ []) x) → (IsTrue (b || among seen x) → ⊥) → (IsTrue (among (seen ++ id ∷ []) x) → (IsTrue (among seen x) → ⊥) → x ≡ id) → x ≡ id
    by true e t absent later = absurd (absent refl)
    by false e t absent later = later t absent

-- what holds of each, of those that are among others
pub all_where : (P Q : List ℕ → Type 0) (ids others : List (List ℕ)) → ((x : List ℕ) → IsTrue (among others x) → P x → Q x) → ((x : List ℕ) → IsTrue (among ids x) → IsTrue (among others x)) → AllByRecursion P ids → AllByRecursion Q ids
all_where P Q [] others each in_others all = tt
all_where P Q (x ∷ ids) others each in_others all = (
  each x (in_others x (let e : bytes_eq x x ≡ true = (bytes_eq-Decides x x).1 refl in rw e refl)) all.0,
  all_where P Q ids others each (λ y t. in_others y (or_right (bytes_eq y x) (among ids y) t)) all.1,
)

all_same : (P Q : List ℕ → Type 0) (ids : List (List ℕ)) → ((x : List ℕ) → IsTrue (among ids x) → P x → Q x) → AllByRecursion P ids → AllByRecursion Q ids
all_same P Q ids each all = all_where P Q ids ids each (λ x t. t) all

pub fresh_differ : (seen ids : List (List ℕ)) → IsTrue (fresh seen ids) → Differ ids × AllByRecursion (Absent seen) ids
fresh_differ seen [] t = (tt, tt)
fresh_differ seen (id ∷ ids) t =
    let h = of_and (not (among seen id)) (fresh (seen ++ id ∷ []) ids) t in
    let later = fresh_differ (seen ++ id ∷ []) ids h.1 in (
      ((λ again. among_is (Absent (seen ++ id ∷ [])) ids id again later.1 (among_self seen id)), later.0),
      (true_not (among seen id) h.0, all_same (Absent (seen ++ id ∷ [])) (Absent seen) ids (λ x t absent s. absent (widen seen id x s)) later.1),
    )
  where
    widen : (seen : List (List ℕ)) (id x : List ℕ) → IsTrue (among seen x) → IsTrue (among (seen ++ id ∷ []) x)
    widen [] id x t = cc
    widen (y ∷ seen) id x t = elim (bytes_eq x y) as (λ b. IsTrue (b || among seen x) → IsTrue (b || among (seen ++ id ∷ []) x)) [ true ↦ λ s. refl | false ↦ λ s. widen seen id x s ] t

pub differ_fresh : (seen ids : List (List ℕ)) → Differ ids → AllByRecursion (Absent seen) ids → IsTrue (fresh seen ids)
differ_fresh seen [] differ absent = refl
differ_fresh seen (id ∷ ids) differ absent =
    and_of (not (among seen id)) (fresh (seen ++ id ∷ []) ids) (not_true (among seen id) absent.0)
    (differ_fresh (seen ++ id ∷ []) ids differ.1
    (all_same (Absent seen) (Absent (seen ++ id ∷ [])) ids (λ x t absent s. let is : x ≡ id = among_more seen id x s absent in differ.0 (subst (λ y. IsTrue (among ids y)) is t)) absent.1))

and_assoc : (a b c : Bool) → a && (b && c) ≡ (a && b) && c
and_assoc true b c = refl
and_assoc false b c = refl

pub fresh_append : (seen xs ys : List (List ℕ)) → fresh seen (xs ++ ys) ≡ fresh seen xs && fresh (seen ++ xs) ys
fresh_append seen [] ys = rw (append-nil seen) refl
fresh_append seen (x ∷ xs) ys =
    rw (fresh_append (seen ++ x ∷ []) xs ys, append_assoc seen (x ∷ []) xs) (and_assoc (not (among seen x)) (fresh (seen ++ x ∷ []) xs) (fresh (seen ++ x ∷ xs) ys))
