-- Characters that stand for themselves, put at once.
use Rattle.std.proofs.Common.{◌≡◌, ◌∙◌, ℕ, ◌+◌, ◌-◌, ◌<◌, ◌≤◌, List, [], ◌∷◌, ◌++◌, length, take, drop, map, Bool, true, false, ◌&&◌, Some, refl, ap, sym, subst, arith, length-append}
use Rattle.std.proofs.lemmas.List.{drop-drop, length-drop, length-take-le, take-append-drop}
use Rattle.jats_chars.specs.Classes.{is_space}
use Rattle.document_trees.specs.Trees.{Items, nothing, chars, is_white}
use Rattle.decl_set.specs.Declarations.{Entity}
use Rattle.article_tree.specs.Tokens.{letter}
use Rattle.article_tree.specs.Taking.{first_token}
use Rattle.article_tree.specs.Taken.{StandsAt}
use Rattle.article_tree.specs.Frames.{Passage, IsInside, left, moved, rest_of, unread, all_unread}
use Rattle.article_tree.specs.Held.{EndsApart, state_of}
use Rattle.article_tree.specs.Plain.{run_len}
use Rattle.article_tree.specs.Reading.{State, put}
use Rattle.article_tree.specs.Works.{Advances, left_of, passage_of, size_of}
use Rattle.article_tree.specs.declared.frames.Work.{Work}
use Rattle.article_tree.specs.declared.held.Held.{Held}
use Rattle.article_tree.proofs.Joining.{joined_assoc}
use Rattle.article_tree.proofs.Letters.{AreLetters, letter_first, run_letters}
use Rattle.article_tree.proofs.Stepping.{passed}
use Rattle.article_tree.proofs.Waiting.{token_put}

still_inside : (ps : List Passage) (s : State) (items : Items) → IsInside ps s → IsInside ps (put s items)
still_inside [] s items inside = inside
still_inside (p ∷ ps) s items inside = tt

and_true : (b : Bool) → (b && true) ≡ b
and_true true = refl
and_true false = refl

-- what is left of a text is no longer than it
here_of : (p : Passage) (d : ℕ) (ds : List ℕ) → rest_of p ≡ d ∷ ds → (p.at < length p.text) × (length p.text ≡ p.at + 1 + length ds)
here_of p d ds e =
    let n = sym (length-drop p.at p.text) ∙ ap length e in
    let m : length (d ∷ ds) ≡ 1 + length ds = omega arith in
    (omega (arith, n, m), omega (arith, n, m))

module _ (entities : List Entity) where
  -- one of them
  one_put : (typed : Bool) (ps : List Passage) (p : Passage) (s : State) (d : ℕ) (ds : List ℕ) → rest_of p ≡ d ∷ ds → first_token (d ∷ ds) ≡ Some (letter d, ds) → IsInside ps s
      → left entities true ps (moved p (p.at + 1)) (put s (chars (d ∷ []) (is_space d) nothing)) ≡ left entities typed ps p s
  one_put typed ps p s d ds e first inside =
      let h = here_of p d ds e in
      let n = ap length e in
      let m : length (d ∷ ds) ≡ 1 + length ds = omega arith in
      let stands : StandsAt p.text p.at (letter d) (p.at + 1) = record { rest = ds; is = ap first_token e ∙ first; some = omega arith; within = omega (arith, h.1); far = omega (arith, n, m) } in
      token_put entities typed ps p s (put s (chars (d ∷ []) (is_space d) nothing)) (letter d) (p.at + 1) h.0 stands inside refl

  behind : (p : Passage) (d : ℕ) (ds : List ℕ) → rest_of p ≡ d ∷ ds → rest_of (moved p (p.at + 1)) ≡ ds
  behind p d ds e = sym (drop-drop 1 p.at p.text) ∙ ap (drop 1) e

  letters_put : (cs rest : List ℕ) (typed : Bool) (ps : List Passage) (p : Passage) (s : State) → rest_of p ≡ cs ++ rest → AreLetters cs rest → 0 < length cs → IsInside ps s
      → left entities true ps (moved p (p.at + length cs)) (put s (chars cs (is_white cs) nothing)) ≡ left entities typed ps p s
  letters_put [] rest typed ps p s e are some inside = absurd (omega (arith, some))
  letters_put (d ∷ []) rest typed ps p s e are some inside =
      ap (λ b. left entities true ps (moved p (p.at + 1)) (put s (chars (d ∷ []) b nothing))) (and_true (is_space d))
      ∙ one_put typed ps p s d rest e (letter_first d rest are.0 are.1 are.2) inside
  letters_put (d ∷ c ∷ cs) rest typed ps p s e are some inside =
      let v = put s (chars (d ∷ []) (is_space d) nothing) in
      let q = moved p (p.at + 1) in
      let there : p.at + length (d ∷ c ∷ cs) ≡ p.at + 1 + length (c ∷ cs) = omega arith in
      ap (λ (n : ℕ). left entities true ps (moved p n) (put s (chars (d ∷ c ∷ cs) (is_white (d ∷ c ∷ cs)) nothing))) there
      ∙ ap (λ (x : Items). left entities true ps (moved p (p.at + 1 + length (c ∷ cs))) (record { opens = s.opens; items = x; spent = s.spent }))
      (sym (joined_assoc s.items (chars (d ∷ []) (is_space d) nothing) (chars (c ∷ cs) (is_white (c ∷ cs)) nothing)))
      ∙ letters_put (c ∷ cs) rest true ps q v (behind p d ((c ∷ cs) ++ rest) e) are.3 (omega arith) (still_inside ps s (chars (d ∷ []) (is_space d) nothing) inside)
      ∙ one_put typed ps p s d ((c ∷ cs) ++ rest) e (letter_first d ((c ∷ cs) ++ rest) are.0 are.1 are.2) inside

-- the characters that are counted are put
pub run_advances : (entities : List Entity) (w : Work) (h : Held) (n : ℕ) (run : List ℕ) → IsInside (map passage_of w.waiting.items) (state_of w.held) → 0 < n → n ≡ run_len (rest_of (passage_of w.frame))
    → n ≤ length (rest_of (passage_of w.frame)) → run ≡ take n (rest_of (passage_of w.frame)) → state_of h ≡ put (state_of w.held) (chars run (is_white run) nothing) → EndsApart h.items.items
    → Advances entities w (passed w h (w.frame.at + n))
unfolding left_of size_of
run_advances entities w h n run inside some is within taken state apart =
    let p = passage_of w.frame in
    let text = rest_of p in
    let cs = take n text in
    let many : length cs ≡ n = length-take-le n text within in
    let most = length-drop p.at p.text in
    let spent = ap (λ (t : State). t.spent) state in
    record {
      same =
          rw (state, taken) (subst (λ (k : ℕ). left entities true (map passage_of w.waiting.items) (moved p (p.at + k)) (put (state_of w.held) (chars cs (is_white cs) nothing)) ≡ left entities w.typed (map passage_of w.waiting.items) p (state_of w.held)) many
          (letters_put entities cs (drop n text) w.typed (map passage_of w.waiting.items) p (state_of w.held) (sym (take-append-drop n text))
          (subst (λ (k : ℕ). AreLetters (take k text) (drop k text)) (sym is) (run_letters text)) (omega (arith, some, many)) inside));
      nearer = omega (arith, some, within, most, spent);
      apart = apart;
    }
