-- A stack of texts against the nested definition.
use Rattle.std.proofs.Common.{◌≡◌, ◌∙◌, ℕ, suc, ◌+◌, ◌-◌, ◌<◌, ◌≤◌, List, [], ◌∷◌, ◌++◌, length, drop, map, Ok, Err, Some, None, refl, sym, ap, arith, append_assoc, length-append, length-drop}
use Rattle.std.proofs.lemmas.List.{append-nil, map_push}
use Rattle.dtd_scanner.specs.Walk.{◌>>=◌}
use Rattle.dtd_scanner.proofs.Walking.{bind_cong, bind_assoc, bind_ok, over_end, over_at}
use Rattle.dtd_scanner.specs.References.{named}
use Rattle.pe_expansion.specs.Bound.{Bound}
use Rattle.pe_expansion.specs.Opening.{opening}
use Rattle.pe_expansion.specs.Pieces.{first_piece}
use Rattle.pe_expansion.specs.Expansion.{Written, closed, padded, expansion, by_kind}
use Rattle.pe_expansion.specs.Frames.{open_names, step, from, goes_on, resumed, left, waiting}
use Rattle.pe_expansion.specs.declared.pieces.Manner.{Manner}
use Rattle.pe_expansion.specs.declared.pieces.Piece.{Piece}
use Rattle.pe_expansion.specs.declared.pieces.Kind.TheVariants.{Included}
use Rattle.pe_expansion.specs.declared.faults.PeFault.{PeFault}
use Rattle.pe_expansion.specs.declared.faults.PeFault.TheVariants.{Malformed}
use Rattle.pe_expansion.specs.declared.stack.Frame.{Frame}

-- the last frame goes on first
pub resumed_last : (manner : Manner) (bound : Bound) (names : List (List ℕ)) (fs : List Frame) (f : Frame) (w : Written)
    → resumed manner bound names (fs ++ f ∷ []) w ≡ (goes_on manner bound (open_names names fs) f w >>= resumed manner bound names fs)
resumed_last manner bound names [] f w = rw (append-nil names) (sym (bind_ok (goes_on manner bound names f w)))
resumed_last manner bound names (g ∷ fs) f w =
    let inner = names ++ g.name.now ∷ [] in
    ap (λ r. r >>= goes_on manner bound names g) (resumed_last manner bound inner fs f w)
    ∙ bind_assoc (goes_on manner bound (open_names inner fs) f w) (resumed manner bound inner fs) (goes_on manner bound names g)
    ∙ ap (λ ns. goes_on manner bound ns f w >>= resumed manner bound names (g ∷ fs)) (append_assoc names (g.name.now ∷ []) (map (λ (h : Frame). h.name.now) fs))

-- one level deeper
pub inside : (manner : Manner) (bound : Bound) (names : List (List ℕ)) (name : List ℕ) (w : Written) (text : List ℕ) → length names < 32
    → expansion manner (32 - length names) bound (names ++ name ∷ []) w text ≡ from manner bound (names ++ name ∷ []) text 0 w
inside manner bound names name w text room =
    let e : 32 - length names ≡ suc (32 - length (names ++ name ∷ [])) = simp length-append (omega arith) in
    ap (λ n. expansion manner n bound (names ++ name ∷ []) w text) e

module _ (manner : Manner) (bound : Bound) (chain : List (List ℕ)) (fs : List Frame) (text : List ℕ) (at : ℕ) (w : Written) where
  -- a text ends, and the last frame goes on
  pub left_end : (f : Frame) → length text ≤ at → left manner bound chain (fs ++ f ∷ []) text at w ≡ (goes_on manner bound (open_names chain fs) f w >>= resumed manner bound chain fs)
  left_end f end = rw (over_end (step manner bound (open_names chain (fs ++ f ∷ []))) at w (drop at text) (simp length-drop (omega arith))) (resumed_last manner bound chain fs f w)

  pub left_done : length text ≤ at → left manner bound chain [] text at w ≡ Ok w
  left_done end = rw (over_end (step manner bound (open_names chain [])) at w (drop at text) (simp length-drop (omega arith))) refl

  -- no piece begins
  pub left_malformed : at < length text → first_piece manner (drop at text) ≡ None → left manner bound chain fs text at w ≡ Err Malformed
  left_malformed here none =
      ap (λ r. r >>= resumed manner bound chain fs) (over_at (step manner bound (open_names chain fs)) at 1 w text (Err Malformed) here (omega arith) (rw none refl))

  -- a piece that opens nothing
  pub left_piece : (p : Piece) (v : Written) → at < length text → first_piece manner (drop at text) ≡ Some p → 0 < p.len
      → by_kind manner (expansion manner (32 - length (open_names chain fs)) bound) bound (open_names chain fs) w (drop at text) p.len p.kind ≡ Ok v
      → left manner bound chain fs text at w ≡ left manner bound chain fs text (at + p.len) v
  left_piece p v here is some gives =
      ap (λ r. r >>= resumed manner bound chain fs) (over_at (step manner bound (open_names chain fs)) at p.len w text (Ok v) here some (rw (is, gives) refl))

  -- a reference that does not open
  pub left_refused : (len : ℕ) (f : PeFault) → at < length text → first_piece manner (drop at text) ≡ Some (record { kind = Included; len = len }) → 0 < len
      → opening bound (open_names chain fs) w.spent (named len (drop at text)) ≡ Err f
      → left manner bound chain fs text at w ≡ Err f
  left_refused len f here is some refused =
      ap (λ r. r >>= resumed manner bound chain fs) (over_at (step manner bound (open_names chain fs)) at len w text (Err f) here some (rw (is, refused) refl))

  -- a reference that opens: its text is read, and this one waits
  pub left_in : (len : ℕ) (t : List ℕ × ℕ) (f : Frame) → at < length text → first_piece manner (drop at text) ≡ Some (record { kind = Included; len = len }) → 0 < len
      → opening bound (open_names chain fs) w.spent (named len (drop at text)) ≡ Ok t → length (open_names chain fs) < 32
      → f.name.now ≡ named len (drop at text) → f.text.now ≡ text → f.at ≡ at + len → f.start ≡ length (padded manner w.text)
      → left manner bound chain fs text at w ≡ left manner bound chain (fs ++ f ∷ []) t.0 0 (record { text = padded manner w.text; spent = t.1 })
  left_in len t f here is some opens room name same place begins =
      let names = open_names chain fs in
      let called = named len (drop at text) in
      let inner = names ++ called ∷ [] in
      let opened : Written = record { text = padded manner w.text; spent = t.1 } in
      let start = length (padded manner w.text) in
      let deeper = expansion manner (32 - length names) bound inner opened t.0 in
      let after = λ (v : Written). from manner bound names text (at + len) v in
      let ends = λ (v : Written). closed manner called start v >>= after in
      let waits = λ (v : Written). ends v >>= resumed manner bound chain fs in
      ap (λ r. r >>= resumed manner bound chain fs) (over_at (step manner bound names) at len w text (deeper >>= closed manner called start) here some (rw (is, opens) refl))
      ∙ ap (λ r. r >>= resumed manner bound chain fs) (bind_assoc deeper (closed manner called start) after)
      ∙ bind_assoc deeper ends (resumed manner bound chain fs)
      ∙ ap (λ r. r >>= waits) (inside manner bound names called opened t.0 room)
      ∙ bind_cong (from manner bound inner t.0 0 opened) waits (resumed manner bound chain (fs ++ f ∷ []))
      (λ v. sym (resumed_last manner bound chain fs f v ∙ rw (name, same, place, begins) refl))
      ∙ ap (λ ns. from manner bound ns t.0 0 opened >>= resumed manner bound chain (fs ++ f ∷ []))
      (ap (λ n. names ++ n ∷ []) (sym name) ∙ append_assoc chain (map (λ (h : Frame). h.name.now) fs) (f.name.now ∷ []) ∙ ap (λ ns. chain ++ ns) (sym (map_push (λ (h : Frame). h.name.now) fs f)))

pub waiting_push : (fs : List Frame) (f : Frame) → waiting (fs ++ f ∷ []) ≡ waiting fs + (length f.text.now - f.at)
waiting_push [] f = omega arith
waiting_push (g ∷ fs) f = omega (arith, waiting_push fs f)
