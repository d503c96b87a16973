-- The count of included characters never falls.
use Rattle.std.proofs.Common.{◌≡◌, ◌≤◌, length, ℕ, zero, suc, ◌+◌, ◌-◌, List, [], ◌∷◌, ◌++◌, Option, Some, None, IfOk, Result, Ok, Err, arith}
use Rattle.std.specs.Prelude.{nat_lt, is_some}
use Rattle.std.specs.Map.{lookup}
use Rattle.std.specs.Prelude.{bytes_eq}
use Rattle.std.proofs.lemmas.Result.{IfOk-at_ok}
use Rattle.attribute_types.specs.declared.types.AttType.{AttType}
use Rattle.attribute_types.specs.declared.types.Preset.{Preset}
use Rattle.attribute_types.specs.declared.types.Preset.TheVariants as preset
use Rattle.attlist_merge.specs.declared.raw.RawPreset.{RawPreset}
use Rattle.attlist_merge.specs.declared.raw.RawPreset.TheVariants as raw
use Rattle.attlist_merge.specs.declared.raw.RawAtt.{RawAtt}
use Rattle.attlist_merge.specs.declared.raw.RawAttList.{RawAttList}
use Rattle.attlist_merge.specs.declared.list.Att.{Att}
use Rattle.attlist_merge.specs.declared.list.AttFault.{AttFault}
use Rattle.attlist_merge.specs.Lists.{Definitions, definition_of}
use Rattle.attlist_merge.specs.Adding.{fault_of}
use Rattle.pe_expansion.specs.Expansion.{Written}
use Rattle.pe_expansion.specs.Opening.{is_open}
use Rattle.dtd_scanner.specs.References.{named}
use Rattle.decl_set.specs.Declarations.{Declarations, Entity, attributes_in}
use Rattle.decl_set.specs.Declaring.{read_as, preset_of, added, with_attribute, with_all, attributes_given, with_attributes}
use Rattle.decl_set.specs.Values.{Valuing, by_name, by_kind, by_piece, entity_opened, opening, predefined, value_piece, value_step, valued, value_of}
use Rattle.decl_set.specs.declared.entity.EntityDef.{EntityDef}
use Rattle.decl_set.specs.declared.entity.EntityDef.TheVariants.{Internal, External, Unparsed}
use Rattle.decl_set.specs.declared.faults.ValueFault.{ValueFault}
use Rattle.decl_set.specs.declared.pieces.Kind.{Kind}
use Rattle.decl_set.specs.declared.pieces.Kind.TheVariants.{Char, LessThan, Named}
use Rattle.decl_set.specs.declared.pieces.Piece.{Piece}
use Rattle.decl_set.proofs.ValueKeeping.{bind_keeps, cond_ok, over_keeps}

opened_rises : (names : List (List ℕ)) (spent : ℕ) (name : List ℕ) (o : Option EntityDef) → IfOk (entity_opened names spent name o) (λ (t : List ℕ × ℕ). spent ≤ t.1)
opened_rises names spent name None = tt
opened_rises names spent name (Some (External ids)) = tt
opened_rises names spent name (Some (Unparsed ids notation)) = tt
opened_rises names spent name (Some (Internal text)) =
    let P = λ (t : List ℕ × ℕ). spent ≤ t.1 in
    cond_ok (is_open names name) _ _ P (λ is. tt) (λ new. cond_ok (nat_lt (length names) 32) _ _ P (λ room. cond_ok (nat_lt 67108864 (spent + length text)) _ _ P (λ over. tt) (λ fits. omega arith)) (λ deep. tt))

module _ (entities : List Entity) (least : ℕ) where
  abbrev Rises : Written → Type 0
  Rises w = least ≤ w.spent

  abbrev Keeps : Valuing → Type 0
  Keeps deeper = (names : List (List ℕ)) (w : Written) (text : List ℕ) → Rises w → IfOk (deeper names w text) Rises

  opening_rises : (names : List (List ℕ)) (spent : ℕ) (name : List ℕ) → IfOk (opening entities names spent name) (λ (t : List ℕ × ℕ). spent ≤ t.1)
  unfolding opening
  opening_rises names spent name = opened_rises names spent name (lookup (bytes_eq name) entities)

  by_name_rises : (deeper : Valuing) → Keeps deeper → (names : List (List ℕ)) (w : Written) (name : List ℕ) (o : Option ℕ) → Rises w → IfOk (by_name deeper entities names w name o) Rises
  by_name_rises deeper keeps names w name (Some c) h = h
  by_name_rises deeper keeps names w name None h =
      bind_keeps (opening entities names w.spent name) _ (λ (t : List ℕ × ℕ). w.spent ≤ t.1) Rises (opening_rises names w.spent name)
      (λ t more. keeps (names ++ name ∷ []) (record { text = w.text; spent = t.1 }) t.0 (omega arith))

  by_kind_rises : (deeper : Valuing) → Keeps deeper → (names : List (List ℕ)) (w : Written) (name : List ℕ) (k : Kind) → Rises w → IfOk (by_kind deeper entities names w name k) Rises
  by_kind_rises deeper keeps names w name (Char c) h = h
  by_kind_rises deeper keeps names w name LessThan h = tt
  by_kind_rises deeper keeps names w name Named h = by_name_rises deeper keeps names w name (predefined name) h

  by_piece_rises : (deeper : Valuing) → Keeps deeper → (names : List (List ℕ)) (w : Written) (text : List ℕ) (o : Option Piece) → Rises w → IfOk (by_piece deeper entities names w text o) (λ (r : Written × ℕ). Rises r.0)
  by_piece_rises deeper keeps names w text None h = tt
  by_piece_rises deeper keeps names w text (Some p) h =
      bind_keeps (by_kind deeper entities names w (named p.len text) p.kind) _ Rises (λ (r : Written × ℕ). Rises r.0) (by_kind_rises deeper keeps names w (named p.len text) p.kind h) (λ v more. more)

  valued_rises : (levels : ℕ) → Keeps (valued levels entities)
  valued_rises zero = λ names w text h. tt
  valued_rises (suc levels) = λ names w text h.
      over_keeps (value_step (valued levels entities) entities names) Rises (λ t. Unit {0}) (λ n t u. tt)
      (λ at s t hs ts. by_piece_rises (valued levels entities) (valued_rises levels) names s t (value_piece t) hs) 0 w text h tt

-- a value counts no less than before
pub value_rises : (entities : List Entity) (names : List (List ℕ)) (spent : ℕ) (raw : List ℕ) → IfOk (value_of entities names spent raw) (λ w. spent ≤ w.spent)
unfolding value_of
value_rises entities names spent text =
    valued_rises entities spent (suc (32 - length names)) names (record { text = []; spent = spent }) text (omega arith)

read_rises : (as_preset : List ℕ → Preset) (kind : AttType) (name : List ℕ) (spent : ℕ) (said : Result Written ValueFault) → IfOk said (λ w. spent ≤ w.spent)
    → IfOk (read_as as_preset kind name said) (λ (p : Preset × ℕ). spent ≤ p.1)
read_rises as_preset kind name spent (Ok w) h = h
read_rises as_preset kind name spent (Err f) h = tt

preset_rises : (entities : List Entity) (spent : ℕ) (name : List ℕ) (kind : AttType) (p : RawPreset) → IfOk (preset_of entities spent name kind p) (λ (p : Preset × ℕ). spent ≤ p.1)
preset_rises entities spent name kind raw.Required = omega arith
preset_rises entities spent name kind raw.Implied = omega arith
preset_rises entities spent name kind (raw.Value text) = read_rises preset.Value kind name spent (value_of entities [] spent text) (value_rises entities [] spent text)
preset_rises entities spent name kind (raw.Fixed text) = read_rises preset.Fixed kind name spent (value_of entities [] spent text) (value_rises entities [] spent text)

added_rises : (element : List ℕ) (list : Definitions) (a : Att) (least spent : ℕ) (o : Option AttFault) → least ≤ spent → IfOk (added element list a spent o) (λ (r : Definitions × ℕ). least ≤ r.1)
added_rises element list a least spent None h = h
added_rises element list a least spent (Some f) h = tt

one_rises : (entities : List Entity) (element : List ℕ) (list : Definitions) (spent : ℕ) (a : RawAtt) → IfOk (with_attribute entities element list spent a) (λ (r : Definitions × ℕ). spent ≤ r.1)
one_rises entities element list spent a =
    cond_ok (is_some (definition_of list a.name)) _ _ (λ (r : Definitions × ℕ). spent ≤ r.1) (λ is. omega arith)
    (λ new. bind_keeps (preset_of entities spent a.name a.kind a.preset) _ (λ (p : Preset × ℕ). spent ≤ p.1) (λ (r : Definitions × ℕ). spent ≤ r.1) (preset_rises entities spent a.name a.kind a.preset)
    (λ p more. added_rises element list _ spent p.1 (fault_of list a.kind p.0) more))

all_rises : (entities : List Entity) (element : List ℕ) (list : Definitions) (least spent : ℕ) (atts : List RawAtt) → least ≤ spent → IfOk (with_all entities element list spent atts) (λ (r : Definitions × ℕ). least ≤ r.1)
all_rises entities element list least spent [] h = h
all_rises entities element list least spent (a ∷ rest) h =
    bind_keeps (with_attribute entities element list spent a) _ (λ (r : Definitions × ℕ). spent ≤ r.1) (λ (r : Definitions × ℕ). least ≤ r.1) (one_rises entities element list spent a)
    (λ r more. all_rises entities element r.0 least r.1 rest (omega arith))

given_rises : (set : Declarations) (spent : ℕ) (element : List ℕ) (atts : List RawAtt) → IfOk (attributes_given set spent element atts) (λ (r : Declarations × ℕ). spent ≤ r.1)
given_rises set spent element [] = omega arith
given_rises set spent element (a ∷ rest) =
    bind_keeps (with_all set.entities element (attributes_in set element) spent (a ∷ rest)) _ (λ (r : Definitions × ℕ). spent ≤ r.1) (λ (r : Declarations × ℕ). spent ≤ r.1)
    (all_rises set.entities element (attributes_in set element) spent spent (a ∷ rest) (omega arith)) (λ r more. more)

-- a declaration of attributes counts no less than before
pub attributes_rise : (set : Declarations) (spent : ℕ) (list : RawAttList) (r : Declarations × ℕ) → with_attributes set spent list ≡ Ok r → spent ≤ r.1
unfolding with_attributes
attributes_rise set spent list r e = IfOk-at_ok (λ (r : Declarations × ℕ). spent ≤ r.1) e (given_rises set spent list.element list.atts)
