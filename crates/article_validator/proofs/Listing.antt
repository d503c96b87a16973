-- Links that are gone through in turn, where each ID is kept once.
use Rattle.std.proofs.Common.{◌≡◌, ◌∙◌, ℕ, List, [], ◌∷◌, ◌++◌, map, bytes_eq, refl, sym, ap, append_assoc, ◌+◌, drop, slice_get}
use Rattle.std.specs.List.{flat_map}
use Rattle.std.specs.Option.{option_map_or}
use Rattle.std.proofs.lemmas.List.Sums.{fold-append}
use Rattle.std.proofs.lemmas.Grind.{flat_map-append}
use Rattle.indexmap.specs.IndexSet.{insert_key, insert_all}
use Rattle.decl_set.specs.Declarations.{Declarations}
use Rattle.article_validator.specs.declared.fault.InvalidCause.{InvalidCause}
use Rattle.article_validator.specs.Links.{Link, ids_of, link_causes}
use Rattle.article_validator.specs.Listing.{kept_causes}
use Rattle.article_validator.proofs.Appending.{put_next, each_next}

pub insert_more : (keys xs ys : List (List ℕ)) → insert_all bytes_eq keys (xs ++ ys) ≡ insert_all bytes_eq (insert_all bytes_eq keys xs) ys
insert_more keys xs ys = fold-append (insert_key bytes_eq) keys xs ys

pub keep_next : (now mid : List (List ℕ)) (xs ys : List Link) → now ≡ insert_all bytes_eq mid (flat_map ids_of xs)
    → insert_all bytes_eq now (flat_map ids_of ys) ≡ insert_all bytes_eq mid (flat_map ids_of (xs ++ ys))
keep_next now mid xs ys e =
    ap (λ keys. insert_all bytes_eq keys (flat_map ids_of ys)) e
    ∙ (sym (insert_more mid (flat_map ids_of xs) (flat_map ids_of ys)) ∙ ap (insert_all bytes_eq mid) (sym (flat_map-append ids_of xs ys)))

pub keep_both : (now mid old : List (List ℕ)) (xs ys : List Link) → mid ≡ insert_all bytes_eq old (flat_map ids_of xs) → now ≡ insert_all bytes_eq mid (flat_map ids_of ys)
    → now ≡ insert_all bytes_eq old (flat_map ids_of (xs ++ ys))
keep_both now mid old xs ys e f = f ∙ keep_next mid old xs ys e

pub keep_turn : {Z : Type 0} (f : Z → List Link) (now mid old : List (List ℕ)) (one : List Link) (x : Z) (rest : List Z) → now ≡ insert_all bytes_eq mid (flat_map ids_of one) → one ≡ f x
    → insert_all bytes_eq mid (flat_map ids_of (flat_map f (x ∷ rest))) ≡ old → insert_all bytes_eq now (flat_map ids_of (flat_map f rest)) ≡ old
keep_turn f now mid old one x rest keep same kept =
    keep_next now mid one (flat_map f rest) keep ∙ (ap (λ ls. insert_all bytes_eq mid (flat_map ids_of (ls ++ flat_map f rest))) same ∙ kept)

pub keep_at : {Z : Type 0} (f : Z → List Link) (all : List Z) (i : ℕ) (now mid old : List (List ℕ)) (one : List Link) → now ≡ insert_all bytes_eq mid (flat_map ids_of one)
    → one ≡ option_map_or f (slice_get all i) [] → insert_all bytes_eq mid (flat_map ids_of (flat_map f (drop i all))) ≡ old
    → insert_all bytes_eq now (flat_map ids_of (flat_map f (drop (i + 1) all))) ≡ old
keep_at f all i now mid old one keep same kept =
    keep_next now mid one (flat_map f (drop (i + 1) all)) keep
    ∙ (ap (λ ls. insert_all bytes_eq mid (flat_map ids_of (ls ++ flat_map f (drop (i + 1) all)))) same
    ∙ (ap (λ ls. insert_all bytes_eq mid (flat_map ids_of ls)) (sym (each_next f all i (slice_get all i) refl)) ∙ kept))

module _ (set : Declarations) (all : List (List ℕ)) where
  pub kept_more : (seen : List (List ℕ)) (xs ys : List Link) → kept_causes set all seen (xs ++ ys) ≡ kept_causes set all seen xs ++ kept_causes set all (insert_all bytes_eq seen (flat_map ids_of xs)) ys
  kept_more seen [] ys = refl
  kept_more seen (l ∷ ls) ys =
      let keys = insert_all bytes_eq seen (ids_of l) in
      ap (λ cs. link_causes set all seen l ++ cs) (kept_more keys ls ys)
      ∙ (sym (append_assoc (link_causes set all seen l) (kept_causes set all keys ls) (kept_causes set all (insert_all bytes_eq keys (flat_map ids_of ls)) ys))
      ∙ ap (λ k. (link_causes set all seen l ++ kept_causes set all keys ls) ++ kept_causes set all k ys) (sym (insert_more seen (ids_of l) (flat_map ids_of ls))))

  module _ {Y : Type 0} (g : InvalidCause → Y) where
    pub link_next : (now mid : List Y) (seen keys : List (List ℕ)) (xs ys : List Link) → now ≡ mid ++ map g (kept_causes set all seen xs) → keys ≡ insert_all bytes_eq seen (flat_map ids_of xs)
        → now ++ map g (kept_causes set all keys ys) ≡ mid ++ map g (kept_causes set all seen (xs ++ ys))
    link_next now mid seen keys xs ys e k =
        put_next g now mid (kept_causes set all seen xs) (kept_causes set all keys ys) e
        ∙ ap (λ cs. mid ++ map g cs) (ap (λ s. kept_causes set all seen xs ++ kept_causes set all s ys) k ∙ sym (kept_more seen xs ys))

    pub link_both : (now mid old : List Y) (seen keys : List (List ℕ)) (xs ys : List Link) → mid ≡ old ++ map g (kept_causes set all seen xs) → keys ≡ insert_all bytes_eq seen (flat_map ids_of xs)
        → now ≡ mid ++ map g (kept_causes set all keys ys) → now ≡ old ++ map g (kept_causes set all seen (xs ++ ys))
    link_both now mid old seen keys xs ys e k f = f ∙ link_next mid old seen keys xs ys e k

    pub link_turn : {Z : Type 0} (f : Z → List Link) (now mid old : List Y) (seen keys : List (List ℕ)) (one : List Link) (x : Z) (rest : List Z) → now ≡ mid ++ map g (kept_causes set all seen one)
        → keys ≡ insert_all bytes_eq seen (flat_map ids_of one) → one ≡ f x → mid ++ map g (kept_causes set all seen (flat_map f (x ∷ rest))) ≡ old → now ++ map g (kept_causes set all keys (flat_map f rest)) ≡ old
    link_turn f now mid old seen keys one x rest e k same kept =
        link_next now mid seen keys one (flat_map f rest) e k ∙ (ap (λ ls. mid ++ map g (kept_causes set all seen (ls ++ flat_map f rest))) same ∙ kept)

    pub link_at : {Z : Type 0} (f : Z → List Link) (every : List Z) (i : ℕ) (now mid old : List Y) (seen keys : List (List ℕ)) (one : List Link) → now ≡ mid ++ map g (kept_causes set all seen one)
        → keys ≡ insert_all bytes_eq seen (flat_map ids_of one) → one ≡ option_map_or f (slice_get every i) [] → mid ++ map g (kept_causes set all seen (flat_map f (drop i every))) ≡ old
        → now ++ map g (kept_causes set all keys (flat_map f (drop (i + 1) every))) ≡ old
    link_at f every i now mid old seen keys one e k same kept =
        link_next now mid seen keys one (flat_map f (drop (i + 1) every)) e k
        ∙ (ap (λ ls. mid ++ map g (kept_causes set all seen (ls ++ flat_map f (drop (i + 1) every)))) same
        ∙ (ap (λ ls. mid ++ map g (kept_causes set all seen ls)) (sym (each_next f every i (slice_get every i) refl)) ∙ kept))
