-- The equations of reading, at a place in a text.
use Rattle.std.proofs.Common.{◌≡◌, [], ◌∷◌, ℕ, suc, ◌+◌, ◌-◌, ◌<◌, ◌≤◌, length, drop, take, get_or, refl, sym, ap, ◌∙◌, arith, drop-drop, IsTrue, Some, None, true, false, true≢false, inl, inr}
use Rattle.std.proofs.lemmas.Bool.{eq-eqb}
use Rattle.std.proofs.lemmas.Bool.Decides.{eqb_tells}
use Rattle.std.proofs.lemmas.List.{nil_from_length, length-drop, get_or_default}
use Rattle.std.proofs.Math.Seq.{drop-cons}
use Rattle.std.specs.Prelude.{if◌then◌else◌, ◌==◌}
use Rattle.jats_chars.specs.Classes.{is_space, is_name_char}
use Rattle.jats_chars.specs.Names.{is_name}
use Rattle.content_models.specs.Model.{Chars}
use Rattle.content_models.specs.Reading.{skip, name_length, bare}

pub cons_at : (t : Chars) (i : ℕ) → i < length t → drop i t ≡ get_or t i 0 ∷ drop (i + 1) t
cons_at t i h = drop-cons t i 0 h ∙ ap (λ k. get_or t i 0 ∷ drop k t) (let q : suc i ≡ i + 1 = omega arith in q)

pub nil_at : (t : Chars) (i : ℕ) → length t ≤ i → drop i t ≡ []
nil_at t i h = nil_from_length (drop i t) (omega (arith, length-drop i t))

pub eq-true : (a b : ℕ) → a ≡ b → (a == b) ≡ true
eq-true a b e = eq-eqb a b e

pub eq-false : (a b : ℕ) → (a ≡ b → ⊥) → (a == b) ≡ false
eq-false a b n = elim (eqb_tells a b) [ inl t ↦ absurd (n t.1) | inr t ↦ t.0 ]

-- white space at a place
pub skip-nil : skip [] ≡ []
unfolding skip
skip-nil = refl

pub skip-space : (c : ℕ) (t : Chars) → is_space c ≡ true → skip (c ∷ t) ≡ skip t
unfolding skip
skip-space c t e = ap (λ b. if b then skip t else c ∷ t) e

pub skip-other : (c : ℕ) (t : Chars) → is_space c ≡ false → skip (c ∷ t) ≡ c ∷ t
unfolding skip
skip-other c t e = ap (λ b. if b then skip t else c ∷ t) e

pub skip_end : (t : Chars) (i : ℕ) → length t ≤ i → skip (drop i t) ≡ drop i t
skip_end t i h = ap skip (nil_at t i h) ∙ skip-nil ∙ sym (nil_at t i h)

pub skip_space : (t : Chars) (i : ℕ) → i < length t → is_space (get_or t i 0) ≡ true → skip (drop i t) ≡ skip (drop (i + 1) t)
skip_space t i h e = ap skip (cons_at t i h) ∙ skip-space (get_or t i 0) (drop (i + 1) t) e

pub skip_other : (t : Chars) (i : ℕ) → i < length t → is_space (get_or t i 0) ≡ false → skip (drop i t) ≡ drop i t
skip_other t i h e = ap skip (cons_at t i h) ∙ skip-other (get_or t i 0) (drop (i + 1) t) e ∙ sym (cons_at t i h)

-- name characters at a place
pub length-nil : name_length [] ≡ 0
unfolding name_length
length-nil = refl

pub length-more : (c : ℕ) (t : Chars) → is_name_char c ≡ true → name_length (c ∷ t) ≡ 1 + name_length t
unfolding name_length
length-more c t e = ap (λ b. if b then 1 + name_length t else 0) e

pub length-stop : (c : ℕ) (t : Chars) → is_name_char c ≡ false → name_length (c ∷ t) ≡ 0
unfolding name_length
length-stop c t e = ap (λ b. if b then 1 + name_length t else 0) e

pub length_end : (t : Chars) (i : ℕ) → length t ≤ i → name_length (drop i t) ≡ 0
length_end t i h = ap name_length (nil_at t i h) ∙ length-nil

pub length_more : (t : Chars) (i : ℕ) → i < length t → is_name_char (get_or t i 0) ≡ true → name_length (drop i t) ≡ 1 + name_length (drop (i + 1) t)
length_more t i h e = ap name_length (cons_at t i h) ∙ length-more (get_or t i 0) (drop (i + 1) t) e

pub length_stop : (t : Chars) (i : ℕ) → i < length t → is_name_char (get_or t i 0) ≡ false → name_length (drop i t) ≡ 0
length_stop t i h e = ap name_length (cons_at t i h) ∙ length-stop (get_or t i 0) (drop (i + 1) t) e

pub ruleset skips = (skip_end, skip_space, skip_other, length_end, length_more, length_stop)

-- a name at a place
bare-some : (t name : Chars) → name ≡ take (name_length t) t → is_name name ≡ true → Some (name, drop (name_length t) t) ≡ bare t
unfolding bare
bare-some t name e h =
    ap (λ n. Some (n, drop (name_length t) t)) e
    ∙ sym (ap (λ b. if b then Some (take (name_length t) t, drop (name_length t) t) else None) (sym (ap is_name e) ∙ h))

bare-none : (t : Chars) → is_name (take (name_length t) t) ≡ false → bare t ≡ None
unfolding bare
bare-none t h = ap (λ b. if b then Some (take (name_length t) t, drop (name_length t) t) else None) h

not-empty : (t : Chars) → is_name (take (name_length t) t) ≡ true → 0 < name_length t
not-empty t h = elim (eqb_tells (name_length t) 0) [
  | inl z ↦ absurd (true≢false (sym h ∙ ap (λ k. is_name (take k t)) z.1))
  | inr z ↦ omega (arith, z)
]

pub bare_some : (text : Chars) (at end : ℕ) (name : Chars) → end ≡ at + name_length (drop at text) → name ≡ take (end - at) (drop at text) → IsTrue (is_name (take (end - at) (drop at text)))
    → (Some (name, drop end text) ≡ bare (drop at text)) × (at < end)
bare_some text at end name e is h =
    let k : end - at ≡ name_length (drop at text) = omega arith in
    let w : name ≡ take (name_length (drop at text)) (drop at text) = is ∙ ap (λ n. take n (drop at text)) k in
    let q : is_name name ≡ true = ap is_name is ∙ h in
    let z : 0 < name_length (drop at text) = not-empty (drop at text) (sym (ap is_name w) ∙ q) in
    let rest : drop end text ≡ drop (name_length (drop at text)) (drop at text) = ap (λ n. drop n text) e ∙ sym (drop-drop (name_length (drop at text)) at text) in (
      ap (λ r. Some (name, r)) rest ∙ bare-some (drop at text) name w q,
      omega arith,
    )

-- the character that is read at a place
pub at_place : (t : Chars) (i x : ℕ) → i < length t → x ≡ get_or t i x → get_or t i 0 ≡ x
at_place t i x h e = get_or_default t i 0 x h ∙ sym e
