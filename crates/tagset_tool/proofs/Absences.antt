-- Lines of absent modules, and what was written of them.
use Rattle.std.proofs.Common.{◌≡◌, ℕ, zero, suc, Bool, true, false, ◌&&◌, List, [], ◌∷◌, ◌++◌, Some, None, Ok, Err, take, length, nat_eq, refl, sym, subst, IsTrue, codes}
use Rattle.std.specs.Prelude.{Option, Result}
use Rattle.std.specs.Cmp.Lexicographic.{pointwise}
use Rattle.jats_io.specs.Causes.{HasCause}
use Rattle.jats_io.specs.Writes.{WritesAll}
use Rattle.tagset_tool.specs.Runs.{is_absence, WritesAbsence}

same_end : (a b c : List ℕ) → a ++ b ≡ a ++ c → b ≡ c
same_end [] b c e = e
same_end (x ∷ a) b c e = same_end a b c (let t : a ++ b ≡ a ++ c = cc in t)

nothing_more : (a b : List ℕ) → a ≡ a ++ b → b ≡ []
nothing_more [] b e = sym e
nothing_more (x ∷ a) b e = nothing_more a b (let t : a ≡ a ++ b = cc in t)

both : (b s t : Bool) → (IsTrue s → IsTrue t) → IsTrue (b && s) → IsTrue (b && t)
both true s t f h = f h
both false s t f h = h

-- a front of bytes begins with no more than they do
taken_begins : (p xs : List ℕ) (n : ℕ) → IsTrue (pointwise nat_eq p (take (length p) (take n xs))) → IsTrue (pointwise nat_eq p (take (length p) xs))
taken_begins [] xs n t = refl
taken_begins (c ∷ p) [] zero t = cc
taken_begins (c ∷ p) [] (suc n) t = cc
taken_begins (c ∷ p) (x ∷ xs) zero t = cc
taken_begins (c ∷ p) (x ∷ xs) (suc n) t = both (nat_eq c x) _ _ (taken_begins p xs n) t

unwritten : (w : Option (List ℕ)) → WritesAbsence w w → ⊥
unwritten None wrote = wrote
unwritten (Some before) wrote =
    let P : List ℕ → Type 0 = λ bs. IsTrue (is_absence bs) in
    let e : before ≡ before ++ wrote.0 = (let s = wrote.1 in cc) in
    let off : IsTrue false = subst P (nothing_more before wrote.0 e) wrote.2 in
    cc

-- nothing was written
pub absent_unwritten : (w : Option (List ℕ)) (before now : ℕ) (P : Type 0) → HasCause before now P → HasCause before now (WritesAbsence w w)
absent_unwritten w before now P cause = record { later = cause.later; risen = λ wrote. absurd (unwritten w wrote) }

wrote_absence : {T E : Type 0} → (w v : Option (List ℕ)) (bytes : List ℕ) (r : Result T E) → WritesAll w v bytes r → WritesAbsence w v → IsTrue (is_absence bytes)
wrote_absence None v bytes r all wrote = absurd wrote
wrote_absence (Some before) v bytes (Ok x) all wrote =
    let P : List ℕ → Type 0 = λ bs. IsTrue (is_absence bs) in
    let e : before ++ wrote.0 ≡ before ++ bytes = (let s = wrote.1 in cc) in
    subst P (same_end before wrote.0 bytes e) wrote.2
wrote_absence (Some before) v bytes (Err x) all wrote =
    let P : List ℕ → Type 0 = λ bs. IsTrue (is_absence bs) in
    let s = wrote.1 in
    let a = all.1 in
    let e : before ++ wrote.0 ≡ before ++ take all.0 bytes = cc in
    taken_begins (codes "refused E10 ") bytes all.0 (subst P (same_end before wrote.0 (take all.0 bytes) e) wrote.2)

-- the bytes, or a front of them, were written
pub absent_written : {T E : Type 0} → (w v : Option (List ℕ)) (bytes : List ℕ) (r : Result T E) (before now : ℕ) → WritesAll w v bytes r → HasCause before now (IsTrue (is_absence bytes)) → HasCause before now (WritesAbsence w v)
absent_written w v bytes r before now all cause = record { later = cause.later; risen = λ wrote. cause.risen (wrote_absence w v bytes r all wrote) }
