-- What is written stays of Chars.
use Rattle.std.proofs.Common.{◌∙◌, length, ℕ, zero, suc, ◌+◌, List, [], ◌∷◌, ◌++◌, drop, take, Bool, refl, Option, Some, None, IfSome, option_map, IfOk, ◌&&◌, bytes_eq, codes, eqb}
use Rattle.std.specs.Prelude.{IsTrue, nat_lt, nat_eq}
use Rattle.std.specs.List.{list_all, prefix_len, starts_with}
use Rattle.std.specs.Map.{lookup}
use Rattle.std.specs.Cmp.Derive.{both_true}
use Rattle.std.proofs.Math.Seq.{drop-nil}
use Rattle.std.proofs.lemmas.Bool.{and_parts}
use Rattle.std.proofs.lemmas.List.Folds.{list_all-append}
use Rattle.jats_chars.specs.Classes.{is_char, is_space}
use Rattle.dtd_scanner.specs.References.{char_of, char_reference, number, numeral, is_digit, is_hex_digit, named}
use Rattle.dtd_scanner.specs.Scanning.{reference_len}
use Rattle.pe_expansion.specs.Expansion.{Written, with}
use Rattle.pe_expansion.specs.Opening.{is_open}
use Rattle.decl_set.specs.Asked.{are_chars, is_entity, is_entity_kept}
use Rattle.decl_set.specs.Declarations.{Entity}
use Rattle.decl_set.specs.Values.{Valuing, by_name, by_kind, by_piece, entity_opened, opening, predefined, reference_piece, value_piece, value_step, valued}
use Rattle.decl_set.specs.declared.entity.EntityDef.{EntityDef}
use Rattle.decl_set.specs.declared.entity.EntityDef.TheVariants.{Internal, External, Unparsed}
use Rattle.decl_set.specs.declared.pieces.Kind.{Kind}
use Rattle.decl_set.specs.declared.pieces.Kind.TheVariants.{Char, LessThan, Named}
use Rattle.decl_set.specs.declared.pieces.Piece.{Piece}
use Rattle.decl_set.proofs.ValueKeeping.{bind_keeps, cond_ok, cond_some, map_some, over_keeps}

pub drop_all : (n : ℕ) (text : List ℕ) → IsTrue (are_chars text) → IsTrue (are_chars (drop n text))
drop_all n [] all = rw (drop-nil n) refl
drop_all zero (c ∷ cs) all = all
drop_all (suc n) (c ∷ cs) all = drop_all n cs (and_parts (is_char c) (are_chars cs) all).1

-- a kind that is no character, or a Char
abbrev IsKindOfChar : Kind → Type 0
IsKindOfChar (Char c) = IsTrue (is_char c)
IsKindOfChar LessThan = Unit {0}
IsKindOfChar Named = Unit {0}

char_of_char : (n len : ℕ) → IfSome (option_map (λ (c : ℕ). (c, len)) (char_of n)) (λ (r : ℕ × ℕ). IsTrue (is_char r.0))
char_of_char n len = map_some (λ (c : ℕ). (c, len)) (char_of n) (λ c. IsTrue (is_char c)) (λ r. IsTrue (is_char r.0)) (cond_some (is_char n) (Some n) None (λ c. IsTrue (is_char c)) (λ is. is) (λ is. tt)) (λ c is. is)

numeral_char : (base : ℕ) (digit : ℕ → Bool) (opening : ℕ) (text : List ℕ) → IfSome (numeral base digit opening text) (λ (r : ℕ × ℕ). IsTrue (is_char r.0))
numeral_char base digit opening text =
    let n = prefix_len digit text in
    cond_some (nat_lt 0 n && starts_with nat_eq (drop n text) (codes ";")) _ None (λ (r : ℕ × ℕ). IsTrue (is_char r.0)) (λ is. char_of_char (number base (take n text)) (opening + n + 1)) (λ is. tt)

pub reference_char : (text : List ℕ) → IfSome (char_reference text) (λ (r : ℕ × ℕ). IsTrue (is_char r.0))
reference_char text =
    cond_some (starts_with nat_eq text (codes "&#x")) _ _ (λ (r : ℕ × ℕ). IsTrue (is_char r.0)) (λ is. numeral_char 16 is_hex_digit 3 (drop 3 text)) (λ is. numeral_char 10 is_digit 2 (drop 2 text))

kind_in_reference : (after text : List ℕ) → IfSome (reference_piece after text) (λ (p : Piece). IsKindOfChar p.kind)
kind_in_reference after text =
    cond_some (starts_with nat_eq after (codes "#")) _ _ (λ (p : Piece). IsKindOfChar p.kind)
    (λ is. map_some _ (char_reference text) (λ (r : ℕ × ℕ). IsTrue (is_char r.0)) (λ (p : Piece). IsKindOfChar p.kind) (reference_char text) (λ r h. h))
    (λ is. map_some _ (reference_len text) (λ n. Unit {0}) (λ (p : Piece). IsKindOfChar p.kind) (any (reference_len text)) (λ n h. tt))
  where
    any : (o : Option ℕ) → IfSome o (λ n. Unit {0})
    any None = tt
    any (Some n) = tt

-- the first piece of Chars
kind_in_piece : (text : List ℕ) → IsTrue (are_chars text) → IfSome (value_piece text) (λ (p : Piece). IsKindOfChar p.kind)
unfolding value_piece is_char
kind_in_piece [] all = tt
kind_in_piece (c ∷ cs) all =
    cond_some (eqb c 38) _ _ (λ (p : Piece). IsKindOfChar p.kind) (λ is. kind_in_reference cs (c ∷ cs))
    (λ other. cond_some (is_space c) _ _ (λ (p : Piece). IsKindOfChar p.kind) (λ is. refl)
    (λ none. cond_some (eqb c 60) _ _ (λ (p : Piece). IsKindOfChar p.kind) (λ is. tt) (λ other_c. (and_parts (is_char c) (are_chars cs) all).0)))

predefined_char : (name : List ℕ) → IfSome (predefined name) (λ c. IsTrue (is_char c))
unfolding predefined is_char
predefined_char name =
    let P = λ (c : ℕ). IsTrue (is_char c) in
    cond_some (bytes_eq name (codes "lt")) _ _ P (λ is. refl)
    (λ a. cond_some (bytes_eq name (codes "gt")) _ _ P (λ is. refl)
    (λ b. cond_some (bytes_eq name (codes "amp")) _ _ P (λ is. refl)
    (λ d. cond_some (bytes_eq name (codes "apos")) _ _ P (λ is. refl)
    (λ e. cond_some (bytes_eq name (codes "quot")) _ _ P (λ is. refl) (λ f. tt)))))

-- the text of an entity that is declared
kept_entity : (entities : List Entity) (name : List ℕ) → IsTrue (list_all is_entity_kept entities) → IfSome (lookup (bytes_eq name) entities) (λ (d : EntityDef). IsTrue (is_entity d))
kept_entity [] name kept = tt
kept_entity (e ∷ es) name kept =
    let h = and_parts (is_entity_kept e) (list_all is_entity_kept es) kept in
    cond_some (bytes_eq name e.0) (Some e.1) (lookup (bytes_eq name) es) (λ (d : EntityDef). IsTrue (is_entity d)) (λ is. (and_parts _ (is_entity e.1) h.0).1) (λ is. kept_entity es name h.1)

opened_chars : (names : List (List ℕ)) (spent : ℕ) (name : List ℕ) (o : Option EntityDef) → IfSome o (λ (d : EntityDef). IsTrue (is_entity d)) → IfOk (entity_opened names spent name o) (λ (t : List ℕ × ℕ). IsTrue (are_chars t.0))
opened_chars names spent name None kept = tt
opened_chars names spent name (Some (External ids)) kept = tt
opened_chars names spent name (Some (Unparsed ids notation)) kept = tt
opened_chars names spent name (Some (Internal text)) kept =
    let P = λ (t : List ℕ × ℕ). IsTrue (are_chars t.0) in
    cond_ok (is_open names name) _ _ P (λ is. tt) (λ new. cond_ok (nat_lt (length names) 32) _ _ P (λ room. cond_ok (nat_lt 67108864 (spent + length text)) _ _ P (λ over. tt) (λ fits. kept)) (λ deep. tt))

opening_chars : (entities : List Entity) (names : List (List ℕ)) (spent : ℕ) (name : List ℕ) → IsTrue (list_all is_entity_kept entities) → IfOk (opening entities names spent name) (λ (t : List ℕ × ℕ). IsTrue (are_chars t.0))
unfolding opening
opening_chars entities names spent name kept = opened_chars names spent name (lookup (bytes_eq name) entities) (kept_entity entities name kept)

abbrev pub HasChars : Written → Type 0
HasChars w = IsTrue (are_chars w.text)

pub pushed : (w : Written) (c : ℕ) → HasChars w → IsTrue (is_char c) → HasChars (with w (c ∷ []))
pushed w c h is = list_all-append is_char w.text (c ∷ []) ∙ both_true h (both_true is refl)

module _ (entities : List Entity) (kept : IsTrue (list_all is_entity_kept entities)) where
  abbrev pub Keeps : Valuing → Type 0
  Keeps deeper = (names : List (List ℕ)) (w : Written) (text : List ℕ) → HasChars w → IsTrue (are_chars text) → IfOk (deeper names w text) HasChars

  by_name_keeps : (deeper : Valuing) → Keeps deeper → (names : List (List ℕ)) (w : Written) (name : List ℕ) (o : Option ℕ) → HasChars w → IfSome o (λ c. IsTrue (is_char c)) → IfOk (by_name deeper entities names w name o) HasChars
  by_name_keeps deeper keeps names w name (Some c) h is = pushed w c h is
  by_name_keeps deeper keeps names w name None h is =
      bind_keeps (opening entities names w.spent name) _ (λ (t : List ℕ × ℕ). IsTrue (are_chars t.0)) HasChars (opening_chars entities names w.spent name kept)
      (λ t all. keeps (names ++ name ∷ []) (record { text = w.text; spent = t.1 }) t.0 h all)

  by_kind_keeps : (deeper : Valuing) → Keeps deeper → (names : List (List ℕ)) (w : Written) (name : List ℕ) (k : Kind) → HasChars w → IsKindOfChar k → IfOk (by_kind deeper entities names w name k) HasChars
  by_kind_keeps deeper keeps names w name (Char c) h is = pushed w c h is
  by_kind_keeps deeper keeps names w name LessThan h is = tt
  by_kind_keeps deeper keeps names w name Named h is = by_name_keeps deeper keeps names w name (predefined name) h (predefined_char name)

  by_piece_keeps : (deeper : Valuing) → Keeps deeper → (names : List (List ℕ)) (w : Written) (text : List ℕ) (o : Option Piece) → HasChars w → IfSome o (λ (p : Piece). IsKindOfChar p.kind)
      → IfOk (by_piece deeper entities names w text o) (λ (r : Written × ℕ). HasChars r.0)
  by_piece_keeps deeper keeps names w text None h is = tt
  by_piece_keeps deeper keeps names w text (Some p) h is =
      bind_keeps (by_kind deeper entities names w (named p.len text) p.kind) _ HasChars (λ (r : Written × ℕ). HasChars r.0) (by_kind_keeps deeper keeps names w (named p.len text) p.kind h is) (λ v all. all)

  pub valued_keeps : (levels : ℕ) → Keeps (valued levels entities)
  valued_keeps zero = λ names w text h all. tt
  valued_keeps (suc levels) = λ names w text h all.
      over_keeps (value_step (valued levels entities) entities names) HasChars (λ t. IsTrue (are_chars t)) drop_all
      (λ at s t hs ts. by_piece_keeps (valued levels entities) (valued_keeps levels) names s t (value_piece t) hs (kind_in_piece t ts)) 0 w text h all
