-- The equations of reading tokens and definitions.
use Rattle.std.proofs.Common.{◌≡◌, List, [], ◌∷◌, ◌++◌, ℕ, zero, suc, ◌+◌, ◌-◌, ◌<◌, ◌≤◌, length, length-append, refl, sym, ap, ◌∙◌, subst, arith, true, false, true≢false, Some, None, inl, inr}
use Rattle.std.specs.Prelude.{option_and_then, if◌then◌else◌, ◌==◌}
use Rattle.std.specs.List.{list_all, prefix_len}
use Rattle.std.proofs.lemmas.List.{length-drop}
use Rattle.std.proofs.lemmas.Bool.{eq-eqb}
use Rattle.std.proofs.lemmas.Bool.Decides.{eqb_tells}
use Rattle.jats_chars.specs.Classes.{is_space}
use Rattle.jats_chars.specs.Names.{is_nmtoken}
use Rattle.text_fronts.specs.Fronts.{Read, skipped, word, after_word}
use Rattle.attlist_merge.specs.declared.raw.RawAtt.{RawAtt}
use Rattle.attlist_merge.specs.Reading.{closes, group, read_definition, definitions}

pub filled : (w : List ℕ) → is_nmtoken w ≡ true → 0 < length w
filled [] h = absurd (true≢false (sym h))
filled (c ∷ cs) h = omega arith

eq-false : (a b : ℕ) → (a ≡ b → ⊥) → (a == b) ≡ false
eq-false a b n = elim (eqb_tells a b) [ inl t ↦ absurd (n t.1) | inr t ↦ t.0 ]

skipped_within : (t : List ℕ) → length (skipped t) ≤ length t
unfolding skipped
skipped_within t = omega (arith, length-drop (prefix_len is_space t) t)

-- ---- tokens

pub group_fails : (n : ℕ) (done : List (List ℕ)) (t : List ℕ) → is_nmtoken (word (skipped t)) ≡ false → group n done t ≡ None
unfolding group
group_fails zero done t h = refl
group_fails (suc n) done t h =
    ap (λ b. if b then closes (group n) (done ++ word (skipped t) ∷ []) (skipped (after_word (skipped t))) else None) h

pub group-goes : (n : ℕ) (done : List (List ℕ)) (t : List ℕ) → 0 < n → is_nmtoken (word (skipped t)) ≡ true
    → group n done t ≡ closes (group (n - 1)) (done ++ word (skipped t) ∷ []) (skipped (after_word (skipped t)))
unfolding group
group-goes zero done t z h = absurd (omega arith)
group-goes (suc n) done t z h =
    ap (λ b. if b then closes (group n) (done ++ word (skipped t) ∷ []) (skipped (after_word (skipped t))) else None) h
    ∙ ap (λ k. closes (group k) (done ++ word (skipped t) ∷ []) (skipped (after_word (skipped t)))) (let q : n ≡ suc n - 1 = omega arith in q)

closes-end : (go : List (List ℕ) → List ℕ → Read (List (List ℕ))) (done : List (List ℕ)) (t : List ℕ) → t ≡ [] → closes go done t ≡ None
unfolding closes
closes-end go done t e = ap (closes go done) e

closes-close : (go : List (List ℕ) → List ℕ → Read (List (List ℕ))) (done : List (List ℕ)) (t cs : List ℕ) (c : ℕ) → t ≡ c ∷ cs → c ≡ 0x29 → closes go done t ≡ Some (done, cs)
unfolding closes
closes-close go done t cs c e is =
    ap (closes go done) e ∙ ap (λ b. if b then Some (done, cs) else (if c == 0x7C then go done cs else None)) (eq-eqb c 0x29 is)

closes-stop : (go : List (List ℕ) → List ℕ → Read (List (List ℕ))) (done : List (List ℕ)) (t cs : List ℕ) (c : ℕ) → t ≡ c ∷ cs → (c ≡ 0x29 → ⊥) → (c ≡ 0x7C → ⊥) → closes go done t ≡ None
unfolding closes
closes-stop go done t cs c e x y =
    ap (closes go done) e ∙ ap (λ b. if b then Some (done, cs) else (if c == 0x7C then go done cs else None)) (eq-false c 0x29 x)
    ∙ ap (λ b. if b then go done cs else None) (eq-false c 0x7C y)

closes-next : (go : List (List ℕ) → List ℕ → Read (List (List ℕ))) (done : List (List ℕ)) (t cs : List ℕ) (c : ℕ) → t ≡ c ∷ cs → (c ≡ 0x29 → ⊥) → c ≡ 0x7C → closes go done t ≡ go done cs
unfolding closes
closes-next go done t cs c e x y =
    ap (closes go done) e ∙ ap (λ b. if b then Some (done, cs) else (if c == 0x7C then go done cs else None)) (eq-false c 0x29 x)
    ∙ ap (λ b. if b then go done cs else None) (eq-eqb c 0x7C y)

module _ (n : ℕ) (done : List (List ℕ)) (t : List ℕ) (some : 0 < n) (h : is_nmtoken (word (skipped t)) ≡ true) where
  pub group_ends : skipped (after_word (skipped t)) ≡ [] → group n done t ≡ None
  group_ends e = group-goes n done t some h ∙ closes-end (group (n - 1)) (done ++ word (skipped t) ∷ []) _ e

  pub group_closes : (c : ℕ) (cs : List ℕ) → skipped (after_word (skipped t)) ≡ c ∷ cs → c ≡ 0x29 → group n done t ≡ Some (done ++ word (skipped t) ∷ [], cs)
  group_closes c cs e is = group-goes n done t some h ∙ closes-close (group (n - 1)) (done ++ word (skipped t) ∷ []) _ cs c e is

  pub group_stops : (c : ℕ) (cs : List ℕ) → skipped (after_word (skipped t)) ≡ c ∷ cs → (c ≡ 0x29 → ⊥) → (c ≡ 0x7C → ⊥) → group n done t ≡ None
  group_stops c cs e x y = group-goes n done t some h ∙ closes-stop (group (n - 1)) (done ++ word (skipped t) ∷ []) _ cs c e x y

  pub group_next : (c : ℕ) (cs : List ℕ) → skipped (after_word (skipped t)) ≡ c ∷ cs → (c ≡ 0x29 → ⊥) → c ≡ 0x7C → group n done t ≡ group (n - 1) (done ++ word (skipped t) ∷ []) cs
  group_next c cs e x y = group-goes n done t some h ∙ closes-next (group (n - 1)) (done ++ word (skipped t) ∷ []) _ cs c e x y

-- the same at a token that was read as `w`, with `after` behind it
module _ (text : List ℕ) (done : List (List ℕ)) (rest sk w after behind : List ℕ) (few : length done + length rest ≤ length text) (is-sk : sk ≡ skipped rest)
    (short : length sk ≤ length rest) (is-w : w ≡ word sk) (is-after : after ≡ after_word sk) (parts : length w + length after ≡ length sk) (h : is_nmtoken w ≡ true)
    (is-behind : behind ≡ skipped after) where
  left : 0 < length text - length done
  left = let f : 0 < length w = filled w h in omega (arith, f)

  word-is : word (skipped rest) ≡ w
  word-is = sym (is-w ∙ ap word is-sk)

  token-is : is_nmtoken (word (skipped rest)) ≡ true
  token-is = ap is_nmtoken word-is ∙ h

  behind-is : skipped (after_word (skipped rest)) ≡ behind
  behind-is = sym (is-behind ∙ ap skipped (is-after ∙ ap after_word is-sk))

  pub tokens_end : behind ≡ [] → group (length text - length done) done rest ≡ None
  tokens_end e = group_ends (length text - length done) done rest left token-is (behind-is ∙ e)

  pub tokens_close : (c : ℕ) (cs : List ℕ) → behind ≡ c ∷ cs → c ≡ 0x29 → group (length text - length done) done rest ≡ Some (done ++ w ∷ [], cs)
  tokens_close c cs e is =
      group_closes (length text - length done) done rest left token-is c cs (behind-is ∙ e) is ∙ ap (λ k. Some (done ++ k ∷ [], cs)) word-is

  pub tokens_stop : (c : ℕ) (cs : List ℕ) → behind ≡ c ∷ cs → (c ≡ 0x29 → ⊥) → (c ≡ 0x7C → ⊥) → group (length text - length done) done rest ≡ None
  tokens_stop c cs e x y = group_stops (length text - length done) done rest left token-is c cs (behind-is ∙ e) x y

  pub tokens_next : (c : ℕ) (cs : List ℕ) (new : List (List ℕ)) → behind ≡ c ∷ cs → (c ≡ 0x29 → ⊥) → c ≡ 0x7C → new ≡ done ++ w ∷ []
      → (length new + length cs ≤ length text) × (group (length text - length new) new cs ≡ group (length text - length done) done rest)
  tokens_next c cs new e x y is =
      let one_more : length new ≡ length done + 1 = ap length is ∙ length-append done (w ∷ []) in
      let shorter : length behind ≡ suc (length cs) = ap length e in
      let less : length behind ≤ length after = subst (λ k. length k ≤ length after) (sym is-behind) (skipped_within after) in
      let f : 0 < length w = filled w h in
      let fuel : length text - length new ≡ length text - length done - 1 = omega (arith, one_more) in (
        omega (arith, one_more, shorter, less, f),
        ap (λ k. group k new cs) fuel ∙ ap (λ k. group (length text - length done - 1) k cs) (is ∙ ap (λ k. done ++ k ∷ []) (sym word-is))
            ∙ sym (group_next (length text - length done) done rest left token-is c cs (behind-is ∙ e) x y),
      )

-- ---- definitions

pub definitions_end : (n : ℕ) (done : List RawAtt) (t : List ℕ) → list_all is_space t ≡ true → definitions n done t ≡ Some done
unfolding definitions
definitions_end zero done t h = ap (λ b. if b then Some done else None) h
definitions_end (suc n) done t h =
    ap (λ b. if b then Some done else option_and_then (λ x. definitions n (done ++ x.0 ∷ []) x.1) (read_definition t)) h

pub definitions-goes : (n : ℕ) (done : List RawAtt) (t : List ℕ) → 0 < n → list_all is_space t ≡ false
    → definitions n done t ≡ option_and_then (λ x. definitions (n - 1) (done ++ x.0 ∷ []) x.1) (read_definition t)
unfolding definitions
definitions-goes zero done t z h = absurd (omega arith)
definitions-goes (suc n) done t z h =
    ap (λ b. if b then Some done else option_and_then (λ x. definitions n (done ++ x.0 ∷ []) x.1) (read_definition t)) h
    ∙ ap (λ k. option_and_then (λ x. definitions k (done ++ x.0 ∷ []) x.1) (read_definition t)) (let q : n ≡ suc n - 1 = omega arith in q)

pub definitions_none : (n : ℕ) (done : List RawAtt) (t : List ℕ) → list_all is_space t ≡ false → read_definition t ≡ None → definitions n done t ≡ None
unfolding definitions
definitions_none zero done t h e = ap (λ b. if b then Some done else None) h
definitions_none (suc n) done t h e =
    ap (λ b. if b then Some done else option_and_then (λ x. definitions n (done ++ x.0 ∷ []) x.1) (read_definition t)) h
    ∙ ap (option_and_then (λ x. definitions n (done ++ x.0 ∷ []) x.1)) e

pub definitions_next : (text : List ℕ) (done new : List RawAtt) (rest after : List ℕ) (att : RawAtt) → length done + length rest ≤ length text → list_all is_space rest ≡ false
    → read_definition rest ≡ Some (att, after) → length after < length rest → new ≡ done ++ att ∷ []
    → (length new + length after ≤ length text) × (definitions (length text - length new) new after ≡ definitions (length text - length done) done rest)
definitions_next text done new rest after att few h e less is =
    let one_more : length new ≡ length done + 1 = ap length is ∙ length-append done (att ∷ []) in
    let left : 0 < length text - length done = omega (arith, few, less) in
    let fuel : length text - length new ≡ length text - length done - 1 = omega (arith, one_more) in (
      omega (arith, one_more, less, few),
      ap (λ k. definitions k new after) fuel ∙ ap (λ k. definitions (length text - length done - 1) k after) is
          ∙ sym (definitions-goes (length text - length done) done rest left h ∙ ap (option_and_then (λ x. definitions (length text - length done - 1) (done ++ x.0 ∷ []) x.1)) e),
    )

pub ruleset tokens = (group_fails, definitions_end, definitions_none)
