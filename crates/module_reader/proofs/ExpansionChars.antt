-- Texts that are expanded stay of Chars.
use Rattle.std.proofs.Common.{◌∙◌, length, ℕ, zero, suc, ◌+◌, ◌-◌, List, [], ◌∷◌, ◌++◌, drop, take, Bool, refl, Option, Some, None, IfSome, option_map, IfOk, Ok, ◌&&◌, ◌||◌, bytes_eq, codes, eqb}
use Rattle.std.specs.Prelude.{◌≡◌, IsTrue, nat_lt, nat_eq}
use Rattle.std.specs.List.{list_all, starts_with}
use Rattle.std.specs.Option.{is_none}
use Rattle.std.specs.Map.{lookup}
use Rattle.std.specs.Cmp.Derive.{both_true}
use Rattle.std.proofs.lemmas.Bool.{and_parts}
use Rattle.std.proofs.lemmas.List.Folds.{list_all-append}
use Rattle.std.proofs.lemmas.Result.{IfOk-at_ok}
use Rattle.jats_chars.specs.Classes.{is_char, is_name_start}
use Rattle.dtd_scanner.specs.Items.{first_is, is_quote}
use Rattle.dtd_scanner.specs.References.{char_reference, named}
use Rattle.dtd_scanner.specs.Scanning.{reference_len}
use Rattle.pe_expansion.specs.Bound.{Bound, text_in, text_bound}
use Rattle.pe_expansion.specs.Expansion.{Written, with, Expanding, nests, padded, closed, included, by_kind, by_piece, expansion_step, expansion, expansion_of}
use Rattle.pe_expansion.specs.Opening.{is_open, loaded, opened, opening}
use Rattle.pe_expansion.specs.Pieces.{reference, literal_piece, body_piece, first_piece}
use Rattle.pe_expansion.specs.declared.bindings.PeText.{PeText}
use Rattle.pe_expansion.specs.declared.pieces.Kind.{Kind}
use Rattle.pe_expansion.specs.declared.pieces.Kind.TheVariants.{Char, Kept, Included}
use Rattle.pe_expansion.specs.declared.pieces.Manner.{Manner}
use Rattle.pe_expansion.specs.declared.pieces.Manner.TheVariants.{Literal, Body}
use Rattle.pe_expansion.specs.declared.pieces.Piece.{Piece}
use Rattle.decl_set.specs.Asked.{are_chars}
use Rattle.decl_set.proofs.ValueChars.{HasChars, pushed, drop_all, reference_char}
use Rattle.decl_set.proofs.ValueKeeping.{bind_keeps, cond_ok, cond_some, map_some, over_keeps}
use Rattle.module_reader.specs.Moves.{has_chars, are_bound_chars}

pub take_all : (n : ℕ) (text : List ℕ) → IsTrue (are_chars text) → IsTrue (are_chars (take n text))
take_all zero [] all = refl
take_all zero (c ∷ cs) all = refl
take_all (suc n) [] all = refl
take_all (suc n) (c ∷ cs) all = (let h = and_parts (is_char c) (are_chars cs) all in both_true h.0 (take_all n cs h.1))

abbrev IsKindOfChar : Kind → Type 0
IsKindOfChar (Char c) = IsTrue (is_char c)
IsKindOfChar Kept = Unit {0}
IsKindOfChar Included = Unit {0}

abbrev IsPieceOfChar : Piece → Type 0
IsPieceOfChar p = IsKindOfChar p.kind

any : (o : Option ℕ) → IfSome o (λ n. Unit {0})
any None = tt
any (Some n) = tt

kept_reference : (text : List ℕ) → IfSome (reference Kept text) IsPieceOfChar
kept_reference text = map_some _ (reference_len text) (λ n. Unit {0}) IsPieceOfChar (any (reference_len text)) (λ n h. tt)

included_reference : (text : List ℕ) → IfSome (reference Included text) IsPieceOfChar
included_reference text = map_some _ (reference_len text) (λ n. Unit {0}) IsPieceOfChar (any (reference_len text)) (λ n h. tt)

char_piece : (text : List ℕ) → IfSome (option_map (λ (r : ℕ × ℕ). record { kind = Char r.0; len = r.1 }) (char_reference text)) IsPieceOfChar
char_piece text = map_some _ (char_reference text) (λ (r : ℕ × ℕ). IsTrue (is_char r.0)) IsPieceOfChar (reference_char text) (λ r h. h)

piece_chars : (manner : Manner) (text : List ℕ) → IsTrue (are_chars text) → IfSome (first_piece manner text) IsPieceOfChar
unfolding literal_piece body_piece
piece_chars Literal [] all = tt
piece_chars Literal (c ∷ cs) all =
    cond_some (eqb c 37) _ _ IsPieceOfChar (λ is. included_reference (c ∷ cs))
    (λ a. cond_some (eqb c 38) _ _ IsPieceOfChar
    (λ is. cond_some (starts_with nat_eq cs (codes "#")) _ _ IsPieceOfChar (λ is. char_piece (c ∷ cs)) (λ other. kept_reference (c ∷ cs)))
    (λ other. (and_parts (is_char c) (are_chars cs) all).0))
piece_chars Body [] all = tt
piece_chars Body (c ∷ cs) all =
    cond_some (eqb c 37 && first_is is_name_start cs) _ _ IsPieceOfChar (λ is. included_reference (c ∷ cs))
    (λ a. cond_some (is_quote c) _ _ IsPieceOfChar (λ is. tt) (λ other. (and_parts (is_char c) (are_chars cs) all).0))

bound_text : (bound : Bound) (name : List ℕ) → IsTrue (are_bound_chars bound) → IfSome (text_bound bound name) (λ (e : PeText). IsTrue (has_chars (text_in e)))
bound_text [] name all = tt
bound_text (b ∷ bs) name all =
    let h = and_parts (has_chars (text_in b.1)) (are_bound_chars bs) all in
    cond_some (bytes_eq name b.0) (Some b.1) (lookup (bytes_eq name) bs) (λ (e : PeText). IsTrue (has_chars (text_in e))) (λ is. h.0) (λ is. bound_text bs name h.1)

loaded_chars : (name : List ℕ) (spent : ℕ) (o : Option (List ℕ)) → IsTrue (has_chars o) → IfOk (loaded name spent o) (λ (t : List ℕ × ℕ). IsTrue (are_chars t.0))
loaded_chars name spent None all = tt
loaded_chars name spent (Some text) all = cond_ok (nat_lt 67108864 (spent + length text)) _ _ (λ (t : List ℕ × ℕ). IsTrue (are_chars t.0)) (λ over. tt) (λ fits. all)

opened_chars : (names : List (List ℕ)) (spent : ℕ) (name : List ℕ) (o : Option PeText) → IfSome o (λ (e : PeText). IsTrue (has_chars (text_in e))) → IfOk (opened names spent name o) (λ (t : List ℕ × ℕ). IsTrue (are_chars t.0))
opened_chars names spent name None all = tt
opened_chars names spent name (Some e) all =
    let P = λ (t : List ℕ × ℕ). IsTrue (are_chars t.0) in
    cond_ok (is_open names name) _ _ P (λ is. tt) (λ new. cond_ok (nat_lt (length names) 32) _ _ P (λ room. loaded_chars name spent (text_in e) all) (λ deep. tt))

pub opening_chars : (bound : Bound) (names : List (List ℕ)) (spent : ℕ) (name : List ℕ) → IsTrue (are_bound_chars bound) → IfOk (opening bound names spent name) (λ (t : List ℕ × ℕ). IsTrue (are_chars t.0))
unfolding opening
opening_chars bound names spent name all = opened_chars names spent name (text_bound bound name) (bound_text bound name all)

padded_chars : (manner : Manner) (text : List ℕ) → IsTrue (are_chars text) → IsTrue (are_chars (padded manner text))
unfolding is_char
padded_chars Literal text all = all
padded_chars Body text all = list_all-append is_char text (32 ∷ []) ∙ both_true all refl

closed_chars : (manner : Manner) (name : List ℕ) (start : ℕ) (w : Written) → HasChars w → IfOk (closed manner name start w) HasChars
unfolding is_char
closed_chars Literal name start w all = all
closed_chars Body name start w all = cond_ok (nests None (drop start w.text)) _ _ HasChars (λ is. pushed w 32 all refl) (λ is. tt)

module _ (bound : Bound) (all_bound : IsTrue (are_bound_chars bound)) where
  abbrev Keeps : Expanding → Type 0
  Keeps deeper = (names : List (List ℕ)) (w : Written) (text : List ℕ) → HasChars w → IsTrue (are_chars text) → IfOk (deeper names w text) HasChars

  included_keeps : (manner : Manner) (deeper : Expanding) → Keeps deeper → (names : List (List ℕ)) (w : Written) (name : List ℕ) → HasChars w → IfOk (included manner deeper bound names w name) HasChars
  included_keeps manner deeper keeps names w name h =
      bind_keeps (opening bound names w.spent name) _ (λ (t : List ℕ × ℕ). IsTrue (are_chars t.0)) HasChars (opening_chars bound names w.spent name all_bound)
      (λ t all. bind_keeps (deeper (names ++ name ∷ []) (record { text = padded manner w.text; spent = t.1 }) t.0) _ HasChars HasChars
      (keeps (names ++ name ∷ []) (record { text = padded manner w.text; spent = t.1 }) t.0 (padded_chars manner w.text h) all)
      (λ v all. closed_chars manner name (length (padded manner w.text)) v all))

  kind_keeps : (manner : Manner) (deeper : Expanding) → Keeps deeper → (names : List (List ℕ)) (w : Written) (text : List ℕ) (len : ℕ) (k : Kind) → HasChars w → IsTrue (are_chars text) → IsKindOfChar k
      → IfOk (by_kind manner deeper bound names w text len k) HasChars
  kind_keeps manner deeper keeps names w text len (Char c) h all is = pushed w c h is
  kind_keeps manner deeper keeps names w text len Kept h all is = list_all-append is_char w.text (take len text) ∙ both_true h (take_all len text all)
  kind_keeps manner deeper keeps names w text len Included h all is = included_keeps manner deeper keeps names w (named len text) h

  piece_keeps : (manner : Manner) (deeper : Expanding) → Keeps deeper → (names : List (List ℕ)) (w : Written) (text : List ℕ) (o : Option Piece) → HasChars w → IsTrue (are_chars text) → IfSome o IsPieceOfChar
      → IfOk (by_piece manner deeper bound names w text o) (λ (r : Written × ℕ). HasChars r.0)
  piece_keeps manner deeper keeps names w text None h all is = tt
  piece_keeps manner deeper keeps names w text (Some p) h all is =
      bind_keeps (by_kind manner deeper bound names w text p.len p.kind) _ HasChars (λ (r : Written × ℕ). HasChars r.0) (kind_keeps manner deeper keeps names w text p.len p.kind h all is) (λ v all. all)

  expansion_keeps : (manner : Manner) (levels : ℕ) → Keeps (expansion manner levels bound)
  expansion_keeps manner zero = λ names w text h all. tt
  expansion_keeps manner (suc levels) = λ names w text h all.
      over_keeps (expansion_step manner (expansion manner levels bound) bound names) HasChars (λ t. IsTrue (are_chars t)) drop_all
      (λ at s t hs ts. piece_keeps manner (expansion manner levels bound) (expansion_keeps manner levels) names s t (first_piece manner t) hs ts (piece_chars manner t ts)) 0 w text h all

-- the expansion of a text of Chars is of Chars, where the texts of entities are
pub expansion_chars : (manner : Manner) (bound : Bound) (names : List (List ℕ)) (spent : ℕ) (text : List ℕ) (w : Written)
    → IsTrue (are_bound_chars bound) → IsTrue (are_chars text) → expansion_of manner bound names spent text ≡ Ok w → IsTrue (are_chars w.text)
unfolding expansion_of
expansion_chars manner bound names spent text w all_bound all e =
    IfOk-at_ok HasChars e (expansion_keeps bound all_bound manner (suc (32 - length names)) names (record { text = []; spent = spent }) text refl all)
