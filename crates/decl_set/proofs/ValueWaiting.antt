-- A stack of texts against the nested definition of values.
use Rattle.std.proofs.Common.{◌≡◌, ◌∙◌, ℕ, suc, ◌+◌, ◌-◌, ◌<◌, ◌≤◌, List, [], ◌∷◌, ◌++◌, length, drop, map, Ok, Err, Some, None, refl, sym, ap, arith, append_assoc, length-append, length-drop}
use Rattle.std.proofs.lemmas.List.{append-nil, map_push}
use Rattle.dtd_scanner.specs.Walk.{◌>>=◌}
use Rattle.dtd_scanner.specs.References.{named}
use Rattle.dtd_scanner.proofs.Walking.{bind_cong, bind_assoc, bind_ok, over_end, over_at}
use Rattle.pe_expansion.specs.Expansion.{Written, with}
use Rattle.decl_set.specs.Declarations.{Entity}
use Rattle.decl_set.specs.Values.{opening, predefined, valued, value_piece}
use Rattle.decl_set.specs.ValueFrames.{open_names, step, from, resumed, left, waiting, StandsFor}
use Rattle.decl_set.specs.declared.pieces.Piece.{Piece}
use Rattle.decl_set.specs.declared.pieces.Kind.TheVariants.{Named, LessThan}
use Rattle.decl_set.specs.declared.faults.ValueFault.{ValueFault}
use Rattle.decl_set.specs.declared.faults.ValueFault.TheVariants as fault
use Rattle.decl_set.specs.declared.value_stack.Frame.{Frame}

-- the last frame goes on first
pub resumed_last : (entities : List Entity) (names : List (List ℕ)) (fs : List Frame) (f : Frame) (w : Written)
    → resumed entities names (fs ++ f ∷ []) w ≡ (from entities (open_names names fs) f.text.now f.at w >>= resumed entities names fs)
resumed_last entities names [] f w = rw (append-nil names) (sym (bind_ok (from entities names f.text.now f.at w)))
resumed_last entities names (g ∷ fs) f w =
    let inner = names ++ g.name.now ∷ [] in
    ap (λ r. r >>= from entities names g.text.now g.at) (resumed_last entities inner fs f w)
    ∙ bind_assoc (from entities (open_names inner fs) f.text.now f.at w) (resumed entities inner fs) (from entities names g.text.now g.at)
    ∙ ap (λ ns. from entities ns f.text.now f.at w >>= resumed entities names (g ∷ fs)) (append_assoc names (g.name.now ∷ []) (map (λ (h : Frame). h.name.now) fs))

-- one level deeper
pub inside : (entities : List Entity) (names : List (List ℕ)) (name : List ℕ) (w : Written) (text : List ℕ) → length names < 32
    → valued (32 - length names) entities (names ++ name ∷ []) w text ≡ from entities (names ++ name ∷ []) text 0 w
inside entities names name w text room =
    let e : 32 - length names ≡ suc (32 - length (names ++ name ∷ [])) = simp length-append (omega arith) in
    ap (λ n. valued n entities (names ++ name ∷ []) w text) e

module _ (entities : List Entity) (chain : List (List ℕ)) (fs : List Frame) (text : List ℕ) (at : ℕ) (w : Written) where
  -- a text ends, and the last frame goes on
  pub left_end : (f : Frame) → length text ≤ at → left entities chain (fs ++ f ∷ []) text at w ≡ left entities chain fs f.text.now f.at w
  left_end f end = rw (over_end (step entities (open_names chain (fs ++ f ∷ []))) at w (drop at text) (simp length-drop (omega arith))) (resumed_last entities chain fs f w)

  pub left_done : length text ≤ at → left entities chain [] text at w ≡ Ok w
  left_done end = rw (over_end (step entities (open_names chain [])) at w (drop at text) (simp length-drop (omega arith))) refl

  -- no piece begins
  pub left_malformed : at < length text → value_piece (drop at text) ≡ None → left entities chain fs text at w ≡ Err fault.Malformed
  left_malformed here none =
      ap (λ r. r >>= resumed entities chain fs) (over_at (step entities (open_names chain fs)) at 1 w text (Err fault.Malformed) here (omega arith) (rw none refl))

  -- a `<`
  pub left_less_than : (p : Piece) → at < length text → value_piece (drop at text) ≡ Some p → p.kind ≡ LessThan → left entities chain fs text at w ≡ Err fault.LessThan
  left_less_than p here is less =
      ap (λ r. r >>= resumed entities chain fs) (over_at (step entities (open_names chain fs)) at 1 w text (Err fault.LessThan) here (omega arith) (rw (is, less) refl))

  -- a piece that stands for a character
  pub left_char : (c len : ℕ) → at < length text → 0 < len → StandsFor (drop at text) c len
      → left entities chain fs text at w ≡ left entities chain fs text (at + len) (with w (c ∷ []))
  left_char c len here some is =
      let names = open_names chain fs in
      ap (λ r. r >>= resumed entities chain fs) (over_at (step entities names) at len w text (Ok (with w (c ∷ []))) here some (is (valued (32 - length names) entities) entities names at w))

  -- a reference that does not open
  pub left_refused : (len : ℕ) (f : ValueFault) → at < length text → value_piece (drop at text) ≡ Some (record { kind = Named; len = len }) → 0 < len
      → predefined (named len (drop at text)) ≡ None → opening entities (open_names chain fs) w.spent (named len (drop at text)) ≡ Err f
      → left entities chain fs text at w ≡ Err f
  left_refused len f here is some other refused =
      ap (λ r. r >>= resumed entities chain fs) (over_at (step entities (open_names chain fs)) at len w text (Err f) here some (rw (is, other, refused) refl))

  -- a reference that opens: its text is read, and this one waits
  pub left_in : (len : ℕ) (t : List ℕ × ℕ) (f : Frame) → at < length text → value_piece (drop at text) ≡ Some (record { kind = Named; len = len }) → 0 < len
      → predefined (named len (drop at text)) ≡ None → opening entities (open_names chain fs) w.spent (named len (drop at text)) ≡ Ok t → length (open_names chain fs) < 32
      → f.name.now ≡ named len (drop at text) → f.text.now ≡ text → f.at ≡ at + len
      → left entities chain fs text at w ≡ left entities chain (fs ++ f ∷ []) t.0 0 (record { text = w.text; spent = t.1 })
  left_in len t f here is some other opens room name same place =
      let names = open_names chain fs in
      let called = named len (drop at text) in
      let inner = names ++ called ∷ [] in
      let opened : Written = record { text = w.text; spent = t.1 } in
      let deeper = valued (32 - length names) entities inner opened t.0 in
      let after = λ (v : Written). from entities names text (at + len) v in
      ap (λ r. r >>= resumed entities chain fs) (over_at (step entities names) at len w text deeper here some (rw (is, other, opens) refl))
      ∙ bind_assoc deeper after (resumed entities chain fs)
      ∙ ap (λ r. r >>= λ v. after v >>= resumed entities chain fs) (inside entities names called opened t.0 room)
      ∙ bind_cong (from entities inner t.0 0 opened) (λ v. after v >>= resumed entities chain fs) (resumed entities chain (fs ++ f ∷ []))
      (λ v. sym (resumed_last entities chain fs f v ∙ rw (same, place) refl))
      ∙ ap (λ ns. from entities ns t.0 0 opened >>= resumed entities chain (fs ++ f ∷ []))
      (ap (λ n. names ++ n ∷ []) (sym name) ∙ append_assoc chain (map (λ (h : Frame). h.name.now) fs) (f.name.now ∷ []) ∙ ap (λ ns. chain ++ ns) (sym (map_push (λ (h : Frame). h.name.now) fs f)))

pub waiting_push : (fs : List Frame) (f : Frame) → waiting (fs ++ f ∷ []) ≡ waiting fs + (length f.text.now - f.at)
waiting_push [] f = omega arith
waiting_push (g ∷ fs) f = omega (arith, waiting_push fs f)
