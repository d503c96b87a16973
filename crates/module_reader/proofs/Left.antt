-- Items of texts that are read.
use Rattle.std.proofs.Common.{◌≡◌, ◌∙◌, ℕ, suc, ◌+◌, ◌-◌, ◌<◌, ◌≤◌, List, [], ◌∷◌, ◌++◌, length, take, drop, Ok, Err, Some, None, Bool, true, false, cond, option_map, bytes_eq, codes, refl, sym, ap, arith, length-append, length-drop}
use Rattle.std.specs.Prelude.{Result, Option, slice_get, nat_eq, ◌&&◌}
use Rattle.std.proofs.lemmas.List.{drop-drop}
use Rattle.dtd_scanner.specs.Walk.{◌>>=◌, over}
use Rattle.dtd_scanner.proofs.Walking.{bind_cong, bind_assoc, bind_ok}
use Rattle.dtd_scanner.specs.Parts.{contents_of}
use Rattle.dtd_scanner.specs.References.{named}
use Rattle.dtd_scanner.specs.Scanning.{answer_at, first_item, item_at}
use Rattle.dtd_scanner.specs.declared.item.Item.{Item}
use Rattle.dtd_scanner.specs.declared.item.ItemKind.{ItemKind}
use Rattle.dtd_scanner.specs.declared.item.ItemKind.TheVariants.{Blank, Comment, Pi, Reference, SectionStart, ElementDecl, AttlistDecl, EntityDecl, NotationDecl}
use Rattle.dtd_scanner.specs.declared.item.ScanFault.{ScanFault}
use Rattle.jats_fault.specs.declared.fault.Fault.{Fault}
use Rattle.pe_expansion.specs.Bound.{text_bound}
use Rattle.pe_expansion.specs.Expansion.{Written}
use Rattle.pe_expansion.specs.Ignored.{closes, depth_after, end_from, ignored_end}
use Rattle.pe_expansion.specs.Opening.{opening}
use Rattle.text_fronts.specs.Fronts.{trimmed}
use Rattle.module_reader.specs.Frames.{Passage, Stands, is_passed, is_declaration, with_start, end_of, moved, local_of, rest_of, step, from, resumed, left}
use Rattle.module_reader.specs.Moves.{counted}
use Rattle.module_reader.specs.Reading.{Names, Local, Deeper, after, reading, ended, ends_section, item_by, referred, declaration, expanded, section, section_by, scan_stop, standing_of, section_closed}
use Rattle.module_reader.specs.Sources.{Source, asking}
use Rattle.module_reader.specs.Stops.{not_ended}
use Rattle.module_reader.specs.declared.frames.Start.{Start}
use Rattle.module_reader.specs.declared.standing.Standing.{Standing}
use Rattle.module_reader.specs.declared.state.State.{State}
use Rattle.module_reader.proofs.Waiting.{resumed_last, inside, left_end, left_step, left_fault, left_after}

passed_is : (source : Source) (deeper : Deeper) (names : Names) (c : Standing) (at : ℕ) (l : Local) (text : List ℕ) (len : ℕ) (kind : ItemKind) → is_passed kind ≡ true → item_by source deeper names c at l text len kind ≡ Ok (l, len)
passed_is source deeper names c at l text len Blank is = refl
passed_is source deeper names c at l text len Comment is = refl
passed_is source deeper names c at l text len Pi is = refl
passed_is source deeper names c at l text len kind is = absurd cc

declaration_is : (source : Source) (deeper : Deeper) (names : Names) (c : Standing) (at : ℕ) (l : Local) (text : List ℕ) (len : ℕ) (kind : ItemKind) → is_declaration kind ≡ true
    → item_by source deeper names c at l text len kind ≡ after l len (declaration source names c at kind l.state (contents_of text 0 kind len))
declaration_is source deeper names c at l text len ElementDecl is = refl
declaration_is source deeper names c at l text len AttlistDecl is = refl
declaration_is source deeper names c at l text len EntityDecl is = refl
declaration_is source deeper names c at l text len NotationDecl is = refl
declaration_is source deeper names c at l text len kind is = absurd cc

counted_then : {X : Type 0} (r : Result (State × Written) Fault) (k : State → List ℕ → Result X Fault) → (r >>= λ q. k (record q.0 { spent = q.1.spent }) q.1.text) ≡ (counted r >>= λ q. k q.0 q.1)
counted_then (Ok q) k = refl
counted_then (Err fault) k = refl

module _ (source : Source) (ps : List Passage) (p : Passage) (s : State) where
  -- the step at an item
  stands_step : (kind : ItemKind) (next : ℕ) → Stands p kind next
      → step source p p.at (local_of p s) (rest_of p) ≡ item_by source (reading (32 - length p.names) source) p.names p.standing p.at (local_of p s) (rest_of p) (next - p.at) kind
  stands_step kind next stands = rw (stands.no_end, stands.item) refl

  move : (next : ℕ) (sections : List ℕ) (t : State) → p.at < next → left source ps (moved p (p.at + (next - p.at)) sections) t ≡ left source ps (moved p next sections) t
  move next sections t some = let e : p.at + (next - p.at) ≡ next = omega arith in ap (λ at. left source ps (moved p at sections) t) e

  here_at : (kind : ItemKind) (next : ℕ) → Stands p kind next → p.at < length p.text
  here_at kind next stands = omega (arith, stands.some, stands.within)

  more_at : (kind : ItemKind) (next : ℕ) → Stands p kind next → 0 < next - p.at
  more_at kind next stands = omega (arith, stands.some)

  -- an item that is passed over
  pub passed_left : (kind : ItemKind) (next : ℕ) → is_passed kind ≡ true → Stands p kind next → left source ps (moved p next p.sections) s ≡ left source ps p s
  passed_left kind next is stands =
      let l = local_of p s in
      let len = next - p.at in
      let stepped = stands_step kind next stands ∙ passed_is source (reading (32 - length p.names) source) p.names p.standing p.at l (rest_of p) len kind is in
      sym (left_step source ps p s len l (here_at kind next stands) (more_at kind next stands) stepped ∙ move next p.sections s stands.some)

  -- the end of a section
  pub close_left : ends_section p.sections (rest_of p) ≡ true → p.at + 3 ≤ length p.text → left source ps (moved p (p.at + 3) (take (length p.sections - 1) p.sections)) s ≡ left source ps p s
  close_left ends within = sym (left_step source ps p s 3 (section_closed (local_of p s)) (omega arith) (omega arith) (rw ends refl))

  -- a declaration
  pub declaration_left : (kind : ItemKind) (next : ℕ) → is_declaration kind ≡ true → Stands p kind next
      → left source ps p s ≡ (declaration source p.names p.standing p.at kind s (contents_of (rest_of p) 0 kind (next - p.at)) >>= λ t. left source ps (moved p next p.sections) t)
  declaration_left kind next is stands =
      let l = local_of p s in
      let len = next - p.at in
      let r = declaration source p.names p.standing p.at kind s (contents_of (rest_of p) 0 kind len) in
      let stepped = stands_step kind next stands ∙ declaration_is source (reading (32 - length p.names) source) p.names p.standing p.at l (rest_of p) len kind is in
      left_after source ps p s len r (here_at kind next stands) (more_at kind next stands) stepped
      ∙ bind_cong r (λ t. left source ps (moved p (p.at + len) p.sections) t) (λ t. left source ps (moved p next p.sections) t) (λ t. move next p.sections t stands.some)

  -- a reference
  referred_left : (next : ℕ) → Stands p Reference next
      → left source ps p s ≡ (referred source (reading (32 - length p.names) source) p.names p.standing p.at s (named (next - p.at) (rest_of p)) >>= λ t. left source ps (moved p next p.sections) t)
  referred_left next stands =
      let len = next - p.at in
      let r = referred source (reading (32 - length p.names) source) p.names p.standing p.at s (named len (rest_of p)) in
      left_after source ps p s len r (here_at Reference next stands) (more_at Reference next stands) (stands_step Reference next stands)
      ∙ bind_cong r (λ t. left source ps (moved p (p.at + len) p.sections) t) (λ t. left source ps (moved p next p.sections) t) (λ t. move next p.sections t stands.some)

  -- a reference that does not open
  pub refused_left : (next : ℕ) (name : List ℕ) (fault : Fault) → Stands p Reference next → name ≡ named (next - p.at) (rest_of p)
      → asking source p.standing p.at (λ t. opening t.bound p.names t.spent name) s ≡ Err fault → left source ps p s ≡ Err fault
  refused_left next name fault stands is refused = referred_left next stands ∙ rw (sym is, refused) refl

  -- a reference that opens: its text is read, and this one waits
  pub opened_left : (next : ℕ) (name : List ℕ) (t : State) (text : List ℕ) (spent : ℕ) → Stands p Reference next → name ≡ named (next - p.at) (rest_of p)
      → asking source p.standing p.at (λ t. opening t.bound p.names t.spent name) s ≡ Ok (t, (text, spent)) → length p.names < 32
      → left source (ps ++ moved p next p.sections ∷ [])
      (record { text = text; names = p.names ++ name ∷ []; standing = standing_of source p.standing p.at name (text_bound t.bound name); at = 0; sections = [] }) (record t { spent = spent })
      ≡ left source ps p s
  opened_left next name t text spent stands is opens room =
      let c = standing_of source p.standing p.at name (text_bound t.bound name) in
      let q : Passage = record { text = text; names = p.names ++ name ∷ []; standing = c; at = 0; sections = [] } in
      let u : State = record t { spent = spent } in
      let on = λ (v : State). left source ps (moved p next p.sections) v in
      let waits = resumed source (ps ++ moved p next p.sections ∷ []) in
      sym (referred_left next stands ∙ rw (sym is, opens) (ap (λ r. r >>= on) (inside source p.names name c u text room)) ∙ bind_cong (from source q u) on waits (λ v. sym (resumed_last source ps (moved p next p.sections) v)))

  -- the start of a section
  section_step : (next : ℕ) → Stands p SectionStart next
      → step source p p.at (local_of p s) (rest_of p)
      ≡ (counted (expanded source p.names p.standing p.at s (contents_of (rest_of p) 0 SectionStart (next - p.at))) >>= λ q. section_by p.standing p.at (local_of p s) (rest_of p) (next - p.at) q.0 (trimmed q.1))
  section_step next stands =
      stands_step SectionStart next stands
      ∙ counted_then (expanded source p.names p.standing p.at s (contents_of (rest_of p) 0 SectionStart (next - p.at))) (λ u word. section_by p.standing p.at (local_of p s) (rest_of p) (next - p.at) u (trimmed word))

  -- a keyword part that is not expanded
  pub keyword_left : (next : ℕ) (fault : Fault) → Stands p SectionStart next → counted (expanded source p.names p.standing p.at s (contents_of (rest_of p) 0 SectionStart (next - p.at))) ≡ Err fault → left source ps p s ≡ Err fault
  keyword_left next fault stands refused = left_fault source ps p s fault (here_at SectionStart next stands) (section_step next stands ∙ rw refused refl)

  -- a keyword that is none, or ignored contents that do not end
  pub section_fault : (next : ℕ) (u : State) (word : List ℕ) (fault : Fault) → Stands p SectionStart next
      → counted (expanded source p.names p.standing p.at s (contents_of (rest_of p) 0 SectionStart (next - p.at))) ≡ Ok (u, word)
      → section_by p.standing p.at (local_of p u) (rest_of p) (next - p.at) u (trimmed word) ≡ Err fault → left source ps p s ≡ Err fault
  section_fault next u word fault stands gives is = left_fault source ps p s fault (here_at SectionStart next stands) (section_step next stands ∙ rw gives is)

  -- a section that begins, or is ignored
  pub section_left : (next : ℕ) (u : State) (word : List ℕ) (sections : List ℕ) (end : ℕ) → Stands p SectionStart next
      → counted (expanded source p.names p.standing p.at s (contents_of (rest_of p) 0 SectionStart (next - p.at))) ≡ Ok (u, word) → p.at < end
      → section_by p.standing p.at (local_of p u) (rest_of p) (next - p.at) u (trimmed word) ≡ Ok (record { state = u; sections = sections }, end - p.at)
      → left source ps (moved p end sections) u ≡ left source ps p s
  section_left next u word sections end stands gives later is =
      sym (left_step source ps p s (end - p.at) (record { state = u; sections = sections }) (here_at SectionStart next stands) (omega (arith, later)) (section_step next stands ∙ rw gives is) ∙ move end sections u later)

answer_fault : (at : ℕ) (r : Result Item ScanFault) (fault : ScanFault) → Err fault ≡ answer_at at r → r ≡ Err fault
answer_fault at (Ok item) fault is = absurd cc
answer_fault at (Err f) fault is = sym is

-- no item stands at the place
pub scan_left : (source : Source) (ps : List Passage) (p : Passage) (s : State) (fault : ScanFault) → p.at < length p.text → ends_section p.sections (rest_of p) ≡ false → Err fault ≡ item_at p.text p.at
    → left source ps p s ≡ Err (scan_stop p.standing p.at fault)
scan_left source ps p s fault here no_end is = left_fault source ps p s (scan_stop p.standing p.at fault) here (rw (no_end, answer_fault p.at (first_item (rest_of p)) fault is) refl)
