-- What is gathered of the elements, one more at a time.
use Rattle.std.proofs.Common.{◌≡◌, ◌≤◌, ◌<◌, ◌+◌, ℕ, zero, suc, List, [], ◌∷◌, ◌++◌, length, get_or, map, take, drop, Bool, true, false, Option, Some, None, slice_get, Result, Ok, Err, IsTrue, inl, inr, refl, sym, ap, ◌∙◌, subst, arith, true≢false}
use Rattle.std.specs.Prelude.{is_some, option_map, option_and_then}
use Rattle.std.specs.Bool.{Decides}
use Rattle.content_models.specs.declared.content.Content.{Content}
use Rattle.content_models.specs.Model.{Chars}
use Rattle.decl_set.specs.Asked as asked
use Rattle.decl_set.specs.Declarations.{Declarations, Element, content_in, name_of}
use Rattle.decl_set.specs.Validity.{IsUseful}
use Rattle.decl_set.specs.declared.breaks.BrokenDecl.{BrokenDecl}
use Rattle.decl_set.specs.declared.breaks.Cause.{Cause}
use Rattle.model_inclusion.specs.Included.{TellEnds}
use Rattle.tree_costs.specs.declared.least.Least.{Least}
use Rattle.tree_costs.specs.declared.least.LeastRow.{LeastRow}
use Rattle.tree_costs.specs.Leasts.{IsExact, FitRows, row_of}
use Rattle.tree_costs.proofs.Places.{is_at}
use Rattle.tagset_report.specs.declared.causes.Judged.{Judged}
use Rattle.tagset_report.specs.declared.fault.ReportFault.{ReportFault}
use Rattle.tagset_report.specs.declared.fault.ReportFault.TheVariants.{RootUndeclared, PairsOver, NoMemory}
use Rattle.tagset_report.specs.Finite.{is_finite}
use Rattle.tagset_report.specs.Gathered.{Finds, FindsAt, sums_of, broken_by, broken_at, one_if}
use Rattle.tagset_report.specs.Judged.{IsCause, Judges}
use Rattle.tagset_report.specs.Live.{AreLive}
use Rattle.tagset_report.specs.Useful.{TellUseful}
use Rattle.tagset_report.specs.Reported.{ListsBroken, CountsUseful, CountsPairs, SumsPairs, PassesAt, IsReported, Reports}
use Rattle.tagset_report.proofs.Numbers.{ends_by_costs}

-- ---- lists up to a place

take_one : {A : Type 0} (xs : List A) (k : ℕ) (x : A) → slice_get xs k ≡ Some x → take (k + 1) xs ≡ take k xs ++ x ∷ []
take_one [] k x h = cc
take_one (y ∷ ys) zero x h = let e : y ≡ x = cc in ap (λ z. z ∷ []) e
take_one (y ∷ ys) (suc k) x h = ap (λ m. take m (y ∷ ys)) (let e : suc k + 1 ≡ suc (k + 1) = omega arith in e) ∙ ap (λ z. y ∷ z) (take_one ys k x h)

around : {A : Type 0} (xs : List A) (k : ℕ) (x : A) → slice_get xs k ≡ Some x → xs ≡ take k xs ++ x ∷ drop (k + 1) xs
around [] k x h = cc
around (y ∷ ys) zero x h = let e : y ≡ x = cc in ap (λ z. z ∷ ys) e
around (y ∷ ys) (suc k) x h =
    ap (λ z. y ∷ z) (around ys k x h) ∙ ap (λ m. y ∷ take k ys ++ x ∷ drop m (y ∷ ys)) (let e : suc (k + 1) ≡ suc k + 1 = omega arith in e)

module _ (first second : Declarations) (root : Chars) where
  -- ---- two lists of elements

  lists_both : (es fs : List Element) (broken rest : List BrokenDecl) → ListsBroken first second root es broken → ListsBroken first second root fs rest
      → ListsBroken first second root (es ++ fs) (broken ++ rest)
  lists_both [] fs broken rest h g = subst (λ (b : List BrokenDecl). ListsBroken first second root fs (b ++ rest)) (sym h) g
  lists_both (x ∷ es) fs broken rest (inl h) g = inl (h.0, lists_both es fs broken rest h.1 g)
  lists_both (x ∷ es) fs broken rest (inr h) g = inr (h.0, h.1 ++ rest, h.2, h.3, ap (λ (b : List BrokenDecl). b ++ rest) h.4, lists_both es fs h.1 rest h.5 g)

  counts_both : (es fs : List Element) (n m : ℕ) → CountsUseful first root es n → CountsUseful first root fs m → CountsUseful first root (es ++ fs) (n + m)
  counts_both [] fs n m h g = subst (CountsUseful first root fs) (let e : m ≡ n + m = omega (arith, h) in e) g
  counts_both (x ∷ es) fs n m (inl h) g = inl (h.0, (h.1.0 + m, omega (arith, h.1.1), counts_both es fs h.1.0 m h.1.2 g))
  counts_both (x ∷ es) fs n m (inr h) g = inr (h.0, counts_both es fs n m h.1 g)

  sums_both : (es fs : List Element) (n m : ℕ) → SumsPairs first second es n → SumsPairs first second fs m → SumsPairs first second (es ++ fs) (n + m)
  sums_both [] fs n m h g = subst (SumsPairs first second fs) (let e : m ≡ n + m = omega (arith, h) in e) g
  sums_both (x ∷ es) fs n m h g = (h.0, h.1 + m, h.2, sums_both es fs h.1 m h.3 g, omega (arith, h.4))

  -- ---- one element

  one_listed : (x : Element) (cause : Option Cause) (b : Bool) → Decides b (IsUseful first root x.0) → IsCause first second x.0 cause
      → ListsBroken first second root (x ∷ []) (broken_by x.0 cause b)
  one_listed x None b d c = inl ((λ u k h. c k h), refl)
  one_listed x (Some k) false d c = inl ((λ u l h. absurd (true≢false (sym (d.1 u)))), refl)
  one_listed x (Some k) true d c = inr (k, [], d.0 refl, c, refl, refl)

  one_counted : (x : Element) (b : Bool) → Decides b (IsUseful first root x.0) → CountsUseful first root (x ∷ []) (one_if b)
  one_counted x true d = inl (d.0 refl, (0, omega arith, refl))
  one_counted x false d = inr ((λ u. true≢false (sym (d.1 u))), refl)

  one_summed : (x : Element) (n : ℕ) → CountsPairs first x.1 (content_in second x.0) n → SumsPairs first second (x ∷ []) n
  one_summed x n h = (n, 0, h, refl, omega arith)

  -- ---- what is gathered of the first elements

  pub record Tallied (k useful : ℕ) (differs : List BrokenDecl) (left : ℕ) : Type 0 where
    pub lists : ListsBroken first second root (take k first.elements) differs
    pub counts : CountsUseful first root (take k first.elements) useful
    pub few : useful ≤ k
    pub sum : ℕ
    pub sums : SumsPairs first second (take k first.elements) sum
    pub rest : sum + left ≡ 2000000

  pub tallied_none : Tallied 0 0 [] 2000000
  tallied_none = record { lists = refl; counts = refl; few = omega arith; sum = 0; sums = refl; rest = omega arith }

  one_more : (b : Bool) → one_if b ≤ 1
  one_more true = omega arith
  one_more false = omega arith

  module _ (k useful left : ℕ) (differs : List BrokenDecl) (t : Tallied k useful differs left) (x : Element) (at : slice_get first.elements k ≡ Some x) where
    pub tallied_more : (j : Judged) (b : Bool) (n l : ℕ) (new : List BrokenDecl) → Judges first second x.0 x.1 left (Ok j) → Decides b (IsUseful first root x.0)
        → n ≡ useful + one_if b → new ≡ differs ++ broken_by x.0 j.cause b → l + j.pairs ≡ left → Tallied (k + 1) n new l
    tallied_more j b n l new h d en ed el =
        let es = take k first.elements in
        let more : take (k + 1) first.elements ≡ es ++ x ∷ [] = take_one first.elements k x at in
        record {
          lists = subst (λ (z : List BrokenDecl). ListsBroken first second root (take (k + 1) first.elements) z) (sym ed)
              (subst (λ (z : List Element). ListsBroken first second root z (differs ++ broken_by x.0 j.cause b)) (sym more)
              (lists_both es (x ∷ []) differs (broken_by x.0 j.cause b) t.lists (one_listed x j.cause b d h.2)));
          counts = subst (λ (z : ℕ). CountsUseful first root (take (k + 1) first.elements) z) (sym en)
              (subst (λ (z : List Element). CountsUseful first root z (useful + one_if b)) (sym more)
              (counts_both es (x ∷ []) useful (one_if b) t.counts (one_counted x b d)));
          few = omega (arith, t.few, en, one_more b);
          sum = t.sum + j.pairs;
          sums = subst (λ (z : List Element). SumsPairs first second z (t.sum + j.pairs)) (sym more)
              (sums_both es (x ∷ []) t.sum j.pairs t.sums (one_summed x j.pairs h.0));
          rest = omega (arith, t.rest, el);
        }

    pub passes : (name : Chars) → Finds first second left (Err (PairsOver name)) x → PassesAt first second name
    passes name h = record {
      before = take k first.elements;
      declared = x.1;
      after = drop (k + 1) first.elements;
      place = around first.elements k x at ∙ ap (λ (z : Chars). take k first.elements ++ (z, x.1) ∷ drop (k + 1) first.elements) (sym h.0);
      sum = t.sum;
      sums = t.sums;
      within = omega (arith, t.rest);
      more = h.1.0;
      counts = subst (λ (z : Chars). CountsPairs first x.1 (content_in second z) h.1.0) (sym h.0) h.1.1;
      over = omega (arith, t.rest, h.1.2);
    }

    pub faulted : (declared : IsTrue (is_some (content_in first root))) (f : ReportFault) → Finds first second left (Err f) x → Reports first second root (Err f)
    faulted declared RootUndeclared h = absurd h
    faulted declared (PairsOver name) h = (declared, passes name h)
    faulted declared NoMemory h = tt

  pub reported : (k useful left : ℕ) (differs : List BrokenDecl) → IsTrue (is_some (content_in first root)) → length first.elements ≤ k → Tallied k useful differs left
      → IsReported first second root (record { useful = useful; differs = differs })
  reported k useful left differs declared l t =
      let all : take k first.elements ≡ first.elements = take_past first.elements k l in
      record {
        declared = declared;
        useful = subst (λ (z : List Element). CountsUseful first root z useful) all t.counts;
        differs = subst (λ (z : List Element). ListsBroken first second root z differs) all t.lists;
        sum = t.sum;
        sums = subst (λ (z : List Element). SumsPairs first second z t.sum) all t.sums;
        within = omega (arith, t.rest);
      }
    where
      take_past : (xs : List Element) (n : ℕ) → length xs ≤ n → take n xs ≡ xs
      take_past [] zero h = refl
      take_past [] (suc n) h = refl
      take_past (x ∷ xs) zero h = absurd (omega (arith, h))
      take_past (x ∷ xs) (suc n) h = ap (λ (z : List Element). x ∷ z) (take_past xs n (omega (arith, h)))

-- ---- the element at a place

-- what is found of the element at a place is found of the element there
pub found_there : (first second : Declarations) (left : ℕ) (r : Result Judged ReportFault) (o : Option Element) (x : Element) → o ≡ Some x → FindsAt first second o left r
    → Finds first second left r x
found_there first second left r None x e h = cc
found_there first second left r (Some y) x e h = let same : y ≡ x = cc in subst (Finds first second left r) same h

pub no_name : (o : Option Element) → None ≡ option_map name_of o → None ≡ o
no_name None h = refl
no_name (Some x) h = cc

pub both_named : (o : Option Element) (name : Chars) (a : Content) → Some name ≡ option_map name_of o → Some a ≡ option_map {U = Content} (λ x. x.1) o → Some (name, a) ≡ o
both_named None name a h g = cc
both_named (Some x) name a h g =
    let e : name ≡ x.0 = cc in
    let f : a ≡ x.1 = cc in
    ap (λ (z : Chars). Some (z, a)) e ∙ ap (λ (z : Content). Some (x.0, z)) f

pub not_named : (o : Option Element) (name : Chars) → Some name ≡ option_map name_of o → None ≡ option_map {U = Content} (λ x. x.1) o → ⊥
not_named None name h g = cc
not_named (Some x) name h g = cc

there : {A : Type 0} (xs : List A) (k : ℕ) → k < length xs → (x : A) × (slice_get xs k ≡ Some x)
there [] k l = absurd (omega (arith, l))
there (y ∷ ys) zero l = (y, refl)
there (y ∷ ys) (suc k) l = there ys k (omega (arith, l))

-- ---- a turn of the loop

module _ (first second : Declarations) (root : Chars) (k useful left : ℕ) (differs : List BrokenDecl) (t : Tallied first second root k useful differs left) (w : k < length first.elements) where
  found : (r : Result Judged ReportFault) → FindsAt first second (slice_get first.elements k) left r → Finds first second left r (there first.elements k w).0
  found r h = let x = there first.elements k w in found_there first second left r (slice_get first.elements k) x.0 x.1 h

  pub few_pairs : (j : Judged) → FindsAt first second (slice_get first.elements k) left (Ok j) → j.pairs ≤ left
  few_pairs j h = (found (Ok j) h).1

  pub turned : (j : Judged) (flags : List Bool) (b : Bool) (n l : ℕ) (new : List BrokenDecl) → FindsAt first second (slice_get first.elements k) left (Ok j) → TellUseful first root flags
      → b ≡ get_or flags k false → n ≡ useful + one_if b → new ≡ differs ++ broken_at (slice_get first.elements k) j.cause b → l + j.pairs ≡ left → Tallied first second root (k + 1) n new l
  turned j flags b n l new h f is en ed el =
      let x = there first.elements k w in
      let d = subst (λ (z : Bool). Decides z (IsUseful first root (x.0).0)) (sym is) (f.told k x.0 x.1) in
      tallied_more first second root k useful left differs t x.0 x.1 j b n l new (found (Ok j) h) d en (ed ∙ ap (λ (o : Option Element). differs ++ broken_at o j.cause b) x.1) el

  pub fault_turned : (declared : IsTrue (is_some (content_in first root))) (f : ReportFault) → FindsAt first second (slice_get first.elements k) left (Err f) → Reports first second root (Err f)
  fault_turned declared f h =
      let x = there first.elements k w in
      faulted first second root k useful left differs t x.0 x.1 declared f (found (Err f) h)

pub content_there : (set : Declarations) → asked.IsKept set → (e : ℕ) (name : Chars) (o : Option Element) → slice_get set.elements e ≡ o → Some name ≡ option_map name_of o
    → content_in set name ≡ option_map {U = Content} (λ x. x.1) o
content_there set kept e name None h q = cc
content_there set kept e name (Some x) h q =
    let same : name ≡ x.0 = cc in
    ap (content_in set) same ∙ (is_at set kept e x h).0

row_at : (es : List Element) (rows : List LeastRow) (k : ℕ) (x : Element) → FitRows es rows → slice_get es k ≡ Some x → (row : LeastRow) × (slice_get rows k ≡ Some row)
row_at [] rows k x f h = cc
row_at (y ∷ es) [] k x f h = elim f [ ]
row_at (y ∷ es) (row ∷ rows) zero x f h = (row, refl)
row_at (y ∷ es) (row ∷ rows) (suc k) x f h = row_at es rows k x f.1 h

pub ends_told_at : (set : Declarations) (least : Least) (live : List Chars) (e : ℕ) (x : Element) (flags : List Bool) → asked.IsKept set → IsExact set least → AreLive set live
    → slice_get set.elements e ≡ Some x → flags ≡ map is_finite (sums_of (slice_get least.rows e)) → TellEnds live x.1 flags
ends_told_at set least live e x flags kept exact lives at f =
    let own = is_at set kept e x at in
    let r = row_at set.elements least.rows e x exact.rows at in
    let row : row_of set least x.0 ≡ Some r.0 = ap (option_and_then (slice_get least.rows)) own.1 ∙ r.1 in
    let same : flags ≡ map is_finite (r.0).p = f ∙ ap (λ (o : Option LeastRow). map is_finite (sums_of o)) r.1 in
    subst (TellEnds live x.1) (sym same) (ends_by_costs set least live x.0 x.1 r.0 exact lives own.0 row)
