-- What loops fill, one more at a time.
use Rattle.std.proofs.Common.{◌≡◌, ◌<◌, ◌+◌, ◌/◌, ◌%◌, List, [], ◌∷◌, ◌++◌, ℕ, zero, suc, length, get_or, map, take, drop, Bool, true, false, cond, Option, Some, None, slice_get, refl, sym, ap, ◌∙◌, arith, ◌*◌, Contains, drop-cons, add-one}
use Rattle.std.specs.Prelude.{option_map}
use Rattle.std.specs.List.{cons_option}
use Rattle.std.proofs.lemmas.List.{take_more, append_assoc, get_or_default}
use Rattle.std.proofs.lemmas.List.Elements.{filter_map-append}
use Rattle.std.proofs.lemmas.Option.{slice_get-get_or}
use Rattle.content_models.specs.declared.content.Content.{Content}
use Rattle.content_models.specs.Model.{Chars}
use Rattle.position_automata.specs.Stepping.{named}
use Rattle.model_inclusion.specs.Rows.{number_of, numbered, numbered_step, placed_step, asked, asked_step}
use Rattle.model_inclusion.specs.Reaching.{pairs_from}

got_within : {A : Type 0} (xs : List A) (k : ℕ) (x : A) → Some x ≡ slice_get xs k → (k < length xs) × (get_or xs k x ≡ x)
got_within [] k x h = cc
got_within (y ∷ xs) zero x h = (omega arith, (let e : x ≡ y = cc in sym e))
got_within (y ∷ xs) (suc k) x h = let t = got_within xs k x h in (omega (arith, t.0), t.1)

pub told_more : (keys : List Chars) (steps : List (Chars × ℕ)) (k : ℕ) (s : Chars × ℕ) (row new : List (ℕ × ℕ)) → row ≡ numbered keys (take k steps) → Some s ≡ slice_get steps k
    → new ≡ row ++ numbered keys (s ∷ []) → new ≡ numbered keys (take (k + 1) steps)
told_more keys steps k s row new e h n =
    let t = got_within steps k s h in
    n ∙ ap (λ (z : List (ℕ × ℕ)). z ++ numbered keys (s ∷ [])) e
    ∙ sym (ap (numbered keys) (take_more steps k s t.0 ∙ ap (λ (z : Chars × ℕ). take k steps ++ z ∷ []) t.1)
    ∙ filter_map-append (numbered_step keys) (take k steps) (s ∷ []))

place_is : (keys names : List Chars) (numbers : List (Option ℕ)) (at next : ℕ) (s : Chars × ℕ) → numbers ≡ map (number_of keys) names → named names (Some (at, next)) ≡ Some s
    → placed_step numbers at next ≡ numbered keys (s ∷ [])
place_is keys names numbers at next s e h =
    ap (λ z. placed_step z at next) e ∙ by names at (slice_get names at) refl h
  where
    there : (ns : List Chars) (k : ℕ) (name : Chars) → slice_get ns k ≡ Some name → get_or (map (number_of keys) ns) k None ≡ number_of keys name
    there [] k name q = cc
    there (n ∷ ns) zero name q = let same : n ≡ name = cc in ap (number_of keys) same
    there (n ∷ ns) (suc k) name q = there ns k name q

    by : (ns : List Chars) (k : ℕ) (o : Option Chars) → slice_get ns k ≡ o → option_map {U = Chars × ℕ} (λ name. (name, next)) o ≡ Some s → placed_step (map (number_of keys) ns) k next ≡ numbered keys (s ∷ [])
    by ns k None q h = cc
    by ns k (Some name) q h =
        let same : (name, next) ≡ s = cc in
        ap (λ o. cons_option (option_map {U = ℕ × ℕ} (λ n. (n, next)) o) []) (there ns k name q) ∙ ap (λ (z : Chars × ℕ). numbered keys (z ∷ [])) same

-- one more told step, by the place of its name
pub placed_more : (keys names : List Chars) (numbers : List (Option ℕ)) (steps : List (Chars × ℕ)) (k at next : ℕ) (row new : List (ℕ × ℕ)) → numbers ≡ map (number_of keys) names
    → row ≡ numbered keys (take k steps) → named names (Some (at, next)) ≡ slice_get steps k → at < length names → new ≡ row ++ placed_step numbers at next → new ≡ numbered keys (take (k + 1) steps)
placed_more keys names numbers steps k at next row new e r h l n =
    let s : Chars × ℕ = (get_or names at [], next) in
    let is : named names (Some (at, next)) ≡ Some s = ap (λ o. option_map {U = Chars × ℕ} (λ name. (name, next)) o) (slice_get-get_or names at [] l) in
    told_more keys steps k s row new r (sym is ∙ h) (n ∙ ap (λ z. row ++ z) (place_is keys names numbers at next s e is))

pub asked_more : (keys : List Chars) (a : Content) (i k : ℕ) (name : Chars) (row new : List (ℕ × ℕ)) → k < length keys → row ≡ asked keys a i (take k keys) → name ≡ get_or keys k name
    → new ≡ row ++ asked keys a i (name ∷ []) → new ≡ asked keys a i (take (k + 1) keys)
asked_more keys a i k name row new l e h n =
    n ∙ ap (λ (z : List (ℕ × ℕ)). z ++ asked keys a i (name ∷ [])) e
    ∙ sym (ap (asked keys a i) (take_more keys k name l ∙ ap (λ (z : Chars). take k keys ++ z ∷ []) (sym h))
    ∙ filter_map-append (asked_step keys a i) (take k keys) (name ∷ []))

-- the pair to which a step leads together with a noted one
pub within_seen : (row : List (ℕ × ℕ)) (steps : List (Option ℕ)) (width i other : ℕ) (old seen : List Bool)
    → ((s : ℕ × ℕ) (j : ℕ) → Contains row s → get_or steps s.0 None ≡ Some j → s.1 * width + j < length old)
    → i < length row → get_or steps (get_or row i (0, 0)).0 None ≡ Some other → length seen ≡ length old
    → (get_or row i (0, 0)).1 * width + other < length seen
within_seen row steps width i other old seen r l e same =
    let s = get_or row i (0, 0) in
    let h = r s other (i, l, get_or_default row i s (0, 0) l) e in
    omega (arith, h, same)

-- ---- pairs from flags

pub marked_more : (k w : ℕ) (seen : List Bool) (pairs : List (ℕ × ℕ)) (whole : List (ℕ × ℕ)) → k < length seen → pairs ++ pairs_from k w (drop k seen) ≡ whole → get_or seen k false ≡ true
    → (pairs ++ (k / w, k % w) ∷ []) ++ pairs_from (k + 1) w (drop (k + 1) seen) ≡ whole
marked_more k w seen pairs whole l e t =
    append_assoc pairs ((k / w, k % w) ∷ []) (pairs_from (k + 1) w (drop (k + 1) seen))
    ∙ ap (λ z. pairs ++ z) (sym (ap (pairs_from k w) (drop-cons seen k false l) ∙ ap (λ b. cond b ((k / w, k % w) ∷ pairs_from (k + 1) w (drop (suc k) seen)) (pairs_from (k + 1) w (drop (suc k) seen))) t
    ∙ ap (λ m. (k / w, k % w) ∷ pairs_from (k + 1) w (drop m seen)) (sym (add-one k))))
    ∙ e

pub plain_more : (k w : ℕ) (seen : List Bool) (pairs : List (ℕ × ℕ)) (whole : List (ℕ × ℕ)) → k < length seen → pairs ++ pairs_from k w (drop k seen) ≡ whole → get_or seen k false ≡ false
    → pairs ++ pairs_from (k + 1) w (drop (k + 1) seen) ≡ whole
plain_more k w seen pairs whole l e t =
    ap (λ z. pairs ++ z) (sym (ap (pairs_from k w) (drop-cons seen k false l) ∙ ap (λ b. cond b ((k / w, k % w) ∷ pairs_from (k + 1) w (drop (suc k) seen)) (pairs_from (k + 1) w (drop (suc k) seen))) t
    ∙ ap (λ m. pairs_from (k + 1) w (drop m seen)) (sym (add-one k))))
    ∙ e
