-- Lists to whose end parts are put in turn.
use Rattle.std.proofs.Common.{◌≡◌, ◌∙◌, ℕ, ◌+◌, List, [], ◌++◌, map, drop, refl, sym, ap, Some, None, slice_get, append_assoc}
use Rattle.std.proofs.lemmas.List.{map-append}
use Rattle.std.specs.Prelude.{Option, Result, Ok, Err, OnOk}
use Rattle.std.specs.List.{flat_map}
use Rattle.std.specs.Option.{option_map_or}
use Rattle.attlist_merge.proofs.Turns.{drop_step, drop_past}

module _ {X Y : Type 0} (g : X → Y) where
  -- a part put behind the list goes from what is to come to what stands there
  pub put_next : (now old : List Y) (xs ys : List X) → now ≡ old ++ map g xs → now ++ map g ys ≡ old ++ map g (xs ++ ys)
  put_next now old xs ys e = ap (λ l. l ++ map g ys) e ∙ (append_assoc old (map g xs) (map g ys) ∙ ap (λ l. old ++ l) (sym (map-append g xs ys)))

  pub put_both : (now mid old : List Y) (xs ys : List X) → mid ≡ old ++ map g xs → now ≡ mid ++ map g ys → now ≡ old ++ map g (xs ++ ys)
  put_both now mid old xs ys e f = f ∙ put_next mid old xs ys e

pub each_next : {X Y : Type 0} (f : X → List Y) (all : List X) (i : ℕ) (o : Option X) → slice_get all i ≡ o → flat_map f (drop i all) ≡ option_map_or f o [] ++ flat_map f (drop (i + 1) all)
each_next f all i None at = ap (flat_map f) (drop_past all i at)
each_next f all i (Some x) at = ap (flat_map f) (drop_step all i x at)

-- the same for a list that is gone through by place
pub put_at : {X Y Z : Type 0} (g : X → Y) (f : Z → List X) (all : List Z) (i : ℕ) (now mid old : List Y) (one : List X) → now ≡ mid ++ map g one
    → one ≡ option_map_or f (slice_get all i) [] → mid ++ map g (flat_map f (drop i all)) ≡ old → now ++ map g (flat_map f (drop (i + 1) all)) ≡ old
put_at g f all i now mid old one put same kept =
    put_next g now mid one (flat_map f (drop (i + 1) all)) put
    ∙ (ap (λ xs. mid ++ map g (xs ++ flat_map f (drop (i + 1) all))) same ∙ (ap (λ xs. mid ++ map g xs) (sym (each_next f all i (slice_get all i) refl)) ∙ kept))

pub on_ok : {X E P Q : Type 0} (r : Result X E) → (P → Q) → OnOk r P → OnOk r Q
on_ok (Ok x) f p = f p
on_ok (Err e) f p = tt

pub parted : {Y : Type 0} (now mid xs ys : List Y) → now ≡ mid ++ xs → now ++ ys ≡ mid ++ (xs ++ ys)
parted now mid xs ys e = ap (λ l. l ++ ys) e ∙ append_assoc mid xs ys

-- and where each part is put as it is
pub part_at : {Y Z : Type 0} (f : Z → List Y) (all : List Z) (i : ℕ) (now mid old : List Y) (one : List Y) → now ≡ mid ++ one → one ≡ option_map_or f (slice_get all i) [] → mid ++ flat_map f (drop i all) ≡ old
    → now ++ flat_map f (drop (i + 1) all) ≡ old
part_at f all i now mid old one put same kept =
    let rest = flat_map f (drop (i + 1) all) in
    ap (λ l. l ++ rest) put
    ∙ (append_assoc mid one rest
    ∙ (ap (λ xs. mid ++ (xs ++ rest)) same ∙ (ap (λ xs. mid ++ xs) (sym (each_next f all i (slice_get all i) refl)) ∙ kept)))
