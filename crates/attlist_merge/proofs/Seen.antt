-- The tokens that were seen, which are lent by a list of them.
use Rattle.std.proofs.Common.{◌≡◌, ◌∙◌, sym, ◌+◌, ◌<◌, List, [], ◌∷◌, ◌++◌, ℕ, Bool, true, false, Some, length, drop, get_or, refl, ap, Bor, bytes_eq}
use Rattle.std.specs.Prelude.{◌||◌, if◌then◌else◌}
use Rattle.std.specs.List.{list_any}
use Rattle.std.proofs.lemmas.List.{drop_more}
use Rattle.attribute_types.specs.Classes.{among}
use Rattle.attlist_merge.specs.Lists.{again}

-- the tokens themselves
abbrev pub lent : List (Bor (List ℕ)) → List (List ℕ)
lent [] = []
lent (k ∷ ks) = k.now ∷ lent ks

-- whether a token was seen
abbrev pub is_seen : List (Bor (List ℕ)) → List ℕ → Bool
is_seen keys t = list_any (λ k. bytes_eq t k.now) keys

lent_last : (keys : List (Bor (List ℕ))) (key : Bor (List ℕ)) → lent (keys ++ key ∷ []) ≡ lent keys ++ key.now ∷ []
lent_last [] key = refl
lent_last (k ∷ ks) key = ap (λ l. k.now ∷ l) (lent_last ks key)

lent_any : (t : List ℕ) (keys : List (Bor (List ℕ))) → among (lent keys) t ≡ is_seen keys t
lent_any t [] = refl
lent_any t (k ∷ ks) = ap (λ b. bytes_eq t k.now || b) (lent_any t ks)

module _ (ts : List (List ℕ)) (i : ℕ) (t : List ℕ) (keys : List (Bor (List ℕ))) (below : i < length ts) (at : t ≡ get_or ts i t) (h : again (lent keys) (drop i ts) ≡ again [] ts) where
  again_at : again (lent keys) (drop i ts) ≡ (if is_seen keys t then Some t else again (lent keys ++ t ∷ []) (drop (i + 1) ts))
  again_at =
      ap (again (lent keys)) (drop_more ts i t below ∙ ap (λ k. k ∷ drop (i + 1) ts) (sym at))
      ∙ ap (λ b. if b then Some t else again (lent keys ++ t ∷ []) (drop (i + 1) ts)) (lent_any t keys)

  pub again_found : is_seen keys t ≡ true → Some t ≡ again [] ts
  again_found seen = sym (again_at ∙ ap (λ b. if b then Some t else again (lent keys ++ t ∷ []) (drop (i + 1) ts)) seen) ∙ h

  pub again_next : (key : Bor (List ℕ)) (now : List (Bor (List ℕ))) → key.now ≡ t → is_seen keys t ≡ false → now ≡ (if is_seen keys t then keys else keys ++ key ∷ [])
      → again (lent now) (drop (i + 1) ts) ≡ again [] ts
  again_next key now same new is =
      ap (λ k. again (lent k) (drop (i + 1) ts)) (is ∙ ap (λ b. if b then keys else keys ++ key ∷ []) new)
      ∙ ap (λ k. again k (drop (i + 1) ts)) (lent_last keys key ∙ ap (λ k. lent keys ++ k ∷ []) same)
      ∙ sym (again_at ∙ ap (λ b. if b then Some t else again (lent keys ++ t ∷ []) (drop (i + 1) ts)) new) ∙ h
