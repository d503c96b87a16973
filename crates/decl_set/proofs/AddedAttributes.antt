-- What adding attributes gives.
use Rattle.std.proofs.Common.{◌≡◌, ◌∙◌, ◌⊎◌, inl, inr, ℕ, suc, ◌+◌, ◌<◌, length, get_or, drop, drop-cons, add-one, Bool, true, false, cond, ◌||◌, List, [], ◌∷◌, ◌++◌, refl, sym, ap, subst, Option, Some, None, Ok, Err, is_some, IsTrue}
use Rattle.std.specs.Prelude.{Result}
use Rattle.std.proofs.lemmas.List.{append_assoc, append-nil}
use Rattle.attribute_types.specs.declared.types.AttType.{AttType}
use Rattle.attribute_types.specs.declared.types.Preset.{Preset}
use Rattle.attribute_types.specs.declared.types.Preset.TheVariants as preset
use Rattle.attlist_merge.specs.declared.list.Att.{Att}
use Rattle.attlist_merge.specs.declared.list.Definition.{Definition}
use Rattle.attlist_merge.specs.declared.list.AttFault.{AttFault}
use Rattle.attlist_merge.specs.declared.list.AttFault.TheVariants as att
use Rattle.attlist_merge.specs.declared.raw.RawPreset.{RawPreset}
use Rattle.attlist_merge.specs.declared.raw.RawPreset.TheVariants as raw
use Rattle.attlist_merge.specs.declared.raw.RawAtt.{RawAtt}
use Rattle.attlist_merge.specs.Lists.{Definitions, definition_of, is_cdata, is_settled}
use Rattle.attlist_merge.specs.Adding.{IsReady, Adds, defined, fault_of}
use Rattle.pe_expansion.specs.Expansion.{Written}
use Rattle.dtd_scanner.specs.Walk.{◌>>=◌}
use Rattle.decl_set.specs.AttributeSteps.{IsWellRead}
use Rattle.decl_set.specs.Declarations.{Entity}
use Rattle.decl_set.specs.Declaring.{settled, att_fault, added, preset_of, read_as, with_attribute, with_all}
use Rattle.decl_set.specs.Outcomes.{Fails}
use Rattle.decl_set.specs.Values.{value_of}
use Rattle.decl_set.specs.declared.faults.DeclFault.{DeclFault}
use Rattle.decl_set.specs.declared.faults.DeclFault.TheVariants as fault
use Rattle.decl_set.specs.declared.faults.ValueFault.{ValueFault}
use Rattle.decl_set.proofs.CollapsedTexts.{settled_once}

-- ---- faults

-- a fault that one definition says is what another says, where that hands it on
pub fails_through : {X Y : Type 0} (f : DeclFault) (said : Result X DeclFault) (other : Result Y DeclFault) → ((g : DeclFault) → said ≡ Err g → other ≡ Err g) → Fails f said → Fails f other
fails_through fault.NoMemory said other on h = tt
fails_through f said other on h = on f h

-- want of memory is what any definition says
fails_memory : {Y : Type 0} (f : DeclFault) (said : Result Y DeclFault) → Fails {Y = List ℕ} f (Err fault.NoMemory) → Fails f said
fails_memory fault.NoMemory said h = tt
fails_memory f said h = cc

-- ---- values

pub both_ok : {X : Type 0} (x y : X) (m n : ℕ) → ◌≡◌ {A = Result (X × ℕ) DeclFault} (Ok (x, m)) (Ok (y, n)) → (x ≡ y) × (m ≡ n)
both_ok {X} x y m n is =
    let pairs : ◌≡◌ {A = X × ℕ} (x, m) (y, n) = cc in
    (ap (λ (q : X × ℕ). q.0) pairs, ap (λ (q : X × ℕ). q.1) pairs)

pub read_gives : (r : Result Written ValueFault) (as_preset : List ℕ → Preset) (kind : AttType) (name : List ℕ) (p : Preset) (n : ℕ) → read_as as_preset kind name r ≡ Ok (p, n)
    → (w : Written) × (r ≡ Ok w) × (as_preset (settled kind w.text) ≡ p)
read_gives (Ok w) as_preset kind name p n is = (w, refl, (both_ok (as_preset (settled kind w.text)) p w.spent n is).0)
read_gives (Err f) as_preset kind name p n is = cc

or_true : (b : Bool) → (b || true) ≡ true
or_true true = refl
or_true false = refl

preset_settled : (entities : List Entity) (spent : ℕ) (name : List ℕ) (kind : AttType) (r : RawPreset) (p : Preset) (n : ℕ) → preset_of entities spent name kind r ≡ Ok (p, n) → is_settled kind p ≡ true
preset_settled entities spent name kind raw.Required p n is = subst (λ q. is_settled kind q ≡ true) (both_ok preset.Required p spent n is).0 (or_true (is_cdata kind))
preset_settled entities spent name kind raw.Implied p n is = subst (λ q. is_settled kind q ≡ true) (both_ok preset.Implied p spent n is).0 (or_true (is_cdata kind))
preset_settled entities spent name kind (raw.Value text) p n is =
    let g = read_gives (value_of entities [] spent text) preset.Value kind name p n is in
    subst (λ q. is_settled kind q ≡ true) g.2 (settled_once kind g.0.text)
preset_settled entities spent name kind (raw.Fixed text) p n is =
    let g = read_gives (value_of entities [] spent text) preset.Fixed kind name p n is in
    subst (λ q. is_settled kind q ≡ true) g.2 (settled_once kind g.0.text)

-- an attribute that is well read may be added
pub read_ready : (entities : List Entity) (spent : ℕ) (a : RawAtt) (p : Preset) (n : ℕ) (new : Att) → IsWellRead a → preset_of entities spent a.name a.kind a.preset ≡ Ok (p, n) → new ≡ record { name = a.name; kind = a.kind; preset = p } → IsReady new
read_ready entities spent a p n new read is same =
    let ready : IsReady (record { name = a.name; kind = a.kind; preset = p }) = record { tokens = read.tokens; settled = preset_settled entities spent a.name a.kind a.preset p n is } in
    subst IsReady (sym same) ready

-- ---- one attribute

-- a definition whose name is new and whose value is read
added_new : (entities : List Entity) (element : List ℕ) (list : Definitions) (spent : ℕ) (a : RawAtt) (p : Preset) (n : ℕ) → definition_of list a.name ≡ None → preset_of entities spent a.name a.kind a.preset ≡ Ok (p, n)
    → with_attribute entities element list spent a ≡ added element list (record { name = a.name; kind = a.kind; preset = p }) n (fault_of list a.kind p)
added_new entities element list spent a p n new is = rw (new, is) refl

-- what an attribute that is not added leaves
abbrev Leaves : List Entity → List ℕ → Definitions → Definitions → ℕ → RawAtt → DeclFault → Type 0
Leaves entities element list after spent a g = Fails g (with_attribute entities element list spent a) × ((more : Definitions) × (after ≡ list ++ more))

leaves_as : (entities : List Entity) (element : List ℕ) (list after : Definitions) (spent : ℕ) (a : RawAtt) (g h : DeclFault) → after ≡ list → with_attribute entities element list spent a ≡ Err h → Fails {Y = List ℕ} g (Err h) → Leaves entities element list after spent a g
leaves_as entities element list after spent a g h kept is fails =
    (fails_through g (Err h) (with_attribute entities element list spent a) (λ f e. let same : h ≡ f = cc in is ∙ ap (λ x. Err x) same) fails, ([], kept ∙ sym (append-nil list)))

-- the fault of an attribute that is not added
pub refused : (entities : List Entity) (element : List ℕ) (list after : Definitions) (spent : ℕ) (a : RawAtt) (p : Preset) (n : ℕ) (f : AttFault) (g : DeclFault) → definition_of list a.name ≡ None
    → preset_of entities spent a.name a.kind a.preset ≡ Ok (p, n) → Adds list after (record { name = a.name; kind = a.kind; preset = p }) (Err f) → Fails {Y = List ℕ} g (Err (att_fault element a.name f)) → Leaves entities element list after spent a g
refused entities element list after spent a p n att.NoMemory g new is adds fails =
    (fails_memory g (with_attribute entities element list spent a) fails, ([], adds ∙ sym (append-nil list)))
refused entities element list after spent a p n f g new is adds fails =
    leaves_as entities element list after spent a g (att_fault element a.name f) adds.2 (added_new entities element list spent a p n new is ∙ ap (added element list (record { name = a.name; kind = a.kind; preset = p }) n) adds.1) fails

-- what is added, where the definition's name is new
pub record IsAdded (entities : List Entity) (list next : Definitions) (spent n : ℕ) (a : RawAtt) : Type 0 where
  pub preset : Preset
  pub new : definition_of list a.name ≡ None
  pub read : preset_of entities spent a.name a.kind a.preset ≡ Ok (preset, n)
  pub faultless : fault_of list a.kind preset ≡ None
  pub goes_last : next ≡ list ++ (a.name, defined (record { name = a.name; kind = a.kind; preset = preset })) ∷ []

-- what one definition more gives: the list as it is, or with its attribute
abbrev pub Gives : List Entity → Definitions → Definitions → ℕ → ℕ → RawAtt → Type 0
Gives entities list next spent n a = (IsTrue (is_some (definition_of list a.name)) × (next ≡ list)) ⊎ IsAdded entities list next spent n a

by_fault : (entities : List Entity) (element : List ℕ) (list next : Definitions) (spent n m : ℕ) (a : RawAtt) (p : Preset) → definition_of list a.name ≡ None → preset_of entities spent a.name a.kind a.preset ≡ Ok (p, m)
    → (f : Option AttFault) → fault_of list a.kind p ≡ f → added element list (record { name = a.name; kind = a.kind; preset = p }) m f ≡ Ok (next, n) → Gives entities list next spent n a
by_fault entities element list next spent n m a p new read None none is =
    let both = both_ok (list ++ (a.name, defined (record { name = a.name; kind = a.kind; preset = p })) ∷ []) next m n is in
    let counted : preset_of entities spent a.name a.kind a.preset ≡ Ok (p, n) = read ∙ ap (λ k. Ok (p, k)) both.1 in
    inr (record { preset = p; new = new; read = counted; faultless = none; goes_last = sym both.0 })
by_fault entities element list next spent n m a p new read (Some f) some is = cc

by_preset : (entities : List Entity) (element : List ℕ) (list next : Definitions) (spent n : ℕ) (a : RawAtt) → definition_of list a.name ≡ None
    → (r : Result (Preset × ℕ) DeclFault) → preset_of entities spent a.name a.kind a.preset ≡ r
    → (r >>= λ p. added element list (record { name = a.name; kind = a.kind; preset = p.0 }) p.1 (fault_of list a.kind p.0)) ≡ Ok (next, n) → Gives entities list next spent n a
by_preset entities element list next spent n a new (Ok p) read is = by_fault entities element list next spent n p.1 a p.0 new read (fault_of list a.kind p.0) refl is
by_preset entities element list next spent n a new (Err f) read is = cc

by_name : (entities : List Entity) (element : List ℕ) (list next : Definitions) (spent n : ℕ) (a : RawAtt) (o : Option Definition) → definition_of list a.name ≡ o
    → cond (is_some o) (Ok (list, spent)) (preset_of entities spent a.name a.kind a.preset >>= λ p. added element list (record { name = a.name; kind = a.kind; preset = p.0 }) p.1 (fault_of list a.kind p.0)) ≡ Ok (next, n)
    → Gives entities list next spent n a
by_name entities element list next spent n a (Some d) at is = inl (ap is_some at, sym (both_ok list next spent n is).0)
by_name entities element list next spent n a None at is = by_preset entities element list next spent n a at (preset_of entities spent a.name a.kind a.preset) refl is

pub attribute_gives : (entities : List Entity) (element : List ℕ) (list next : Definitions) (spent n : ℕ) (a : RawAtt) → with_attribute entities element list spent a ≡ Ok (next, n) → Gives entities list next spent n a
attribute_gives entities element list next spent n a is = by_name entities element list next spent n a (definition_of list a.name) refl is

-- the list is the front of the next one
attribute_begins : (entities : List Entity) (element : List ℕ) (list next : Definitions) (spent n : ℕ) (a : RawAtt) → with_attribute entities element list spent a ≡ Ok (next, n) → (more : Definitions) × (next ≡ list ++ more)
attribute_begins entities element list next spent n a is = elim (attribute_gives entities element list next spent n a is) [
  | inl there ↦ ([], there.1 ∙ sym (append-nil list))
  | inr new ↦ ((a.name, defined (record { name = a.name; kind = a.kind; preset = new.preset })) ∷ [], new.goes_last)
]

-- ---- attributes in order

-- from one definition to the next
pub all_next : (entities : List Entity) (element : List ℕ) (list next : Definitions) (spent n : ℕ) (atts : List RawAtt) (i : ℕ) (a : RawAtt) (before : Result (Definitions × ℕ) DeclFault) → i < length atts → a ≡ get_or atts i a
    → before ≡ with_all entities element list spent (drop i atts) → with_attribute entities element list spent a ≡ Ok (next, n) → before ≡ with_all entities element next n (drop (i + 1) atts)
all_next entities element list next spent n atts i a before within at so_far is =
    so_far
    ∙ ap (with_all entities element list spent) (drop-cons atts i a within ∙ ap (λ x. x ∷ drop (suc i) atts) (sym at))
    ∙ ap (λ r. r >>= λ x. with_all entities element x.0 x.1 (drop (suc i) atts)) is
    ∙ ap (λ k. with_all entities element next n (drop k atts)) (sym (add-one i))

pub begins_next : (entities : List Entity) (element : List ℕ) (start list next : Definitions) (spent n : ℕ) (a : RawAtt) → with_attribute entities element list spent a ≡ Ok (next, n)
    → ((more : Definitions) × (list ≡ start ++ more)) → (more : Definitions) × (next ≡ start ++ more)
begins_next entities element start list next spent n a is begins =
    let grown = attribute_begins entities element list next spent n a is in
    (begins.0 ++ grown.0, grown.1 ∙ ap (λ l. l ++ grown.0) begins.1 ∙ append_assoc start begins.0 grown.0)
