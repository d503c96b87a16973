-- A stack of texts against the nested definition.
use Rattle.std.proofs.Common.{◌≡◌, ◌∙◌, ℕ, suc, ◌+◌, ◌-◌, ◌<◌, ◌≤◌, List, [], ◌∷◌, ◌++◌, length, drop, Ok, Err, Some, None, Bool, true, false, cond, option_map, refl, sym, ap, arith, length-append, length-drop}
use Rattle.std.specs.Prelude.{Result, Option, slice_get, nat_eq, ◌&&◌}
use Rattle.std.proofs.lemmas.List.{drop-drop}
use Rattle.dtd_scanner.specs.Parts.{contents_of}
use Rattle.dtd_scanner.specs.References.{named}
use Rattle.dtd_scanner.specs.declared.item.ItemKind.{ItemKind}
use Rattle.dtd_scanner.specs.declared.item.ItemKind.TheVariants.{Blank, Comment, Pi, Reference, SectionStart, ElementDecl, AttlistDecl, EntityDecl, NotationDecl}
use Rattle.dtd_scanner.specs.declared.item.ScanFault.{ScanFault}
use Rattle.dtd_scanner.specs.Scanning.{first_item}
use Rattle.pe_expansion.specs.Opening.{opening}
use Rattle.pe_expansion.specs.Bound.{text_bound}
use Rattle.pe_expansion.specs.Expansion.{Written}
use Rattle.pe_expansion.specs.Ignored.{closes, depth_after, end_from, ignored_end}
use Rattle.dtd_scanner.specs.Walk.{◌>>=◌, over}
use Rattle.dtd_scanner.proofs.Walking.{bind_cong, bind_assoc, bind_ok, over_end, over_at}
use Rattle.jats_fault.specs.declared.fault.Fault.{Fault}
use Rattle.module_reader.specs.Frames.{Passage, Stands, moved, local_of, rest_of, step, from, resumed, left, all_unread, unread}
use Rattle.module_reader.specs.Reading.{Names, Local, holding, after, reading, ended, ends_section, item_by, referred, declaration, expanded, section, section_by, scan_stop, standing_of, section_closed}
use Rattle.module_reader.specs.Sources.{Source, asking}
use Rattle.module_reader.specs.Stops.{not_ended}
use Rattle.module_reader.specs.declared.standing.Standing.{Standing}
use Rattle.module_reader.specs.declared.state.State.{State}

-- the last text that waits goes on first
pub resumed_last : (source : Source) (ps : List Passage) (p : Passage) (s : State) → resumed source (ps ++ p ∷ []) s ≡ (from source p s >>= resumed source ps)
resumed_last source [] p s = sym (bind_ok (from source p s))
resumed_last source (q ∷ ps) p s = ap (λ r. r >>= from source q) (resumed_last source ps p s) ∙ bind_assoc (from source p s) (resumed source ps) (from source q)

pub all_unread_push : (ps : List Passage) (p : Passage) → all_unread (ps ++ p ∷ []) ≡ all_unread ps + unread p
all_unread_push [] p = omega arith
all_unread_push (q ∷ ps) p = omega (arith, all_unread_push ps p)

-- one level deeper
pub inside : (source : Source) (names : Names) (name : List ℕ) (c : Standing) (s : State) (text : List ℕ) → length names < 32
    → reading (32 - length names) source (names ++ name ∷ []) c s text ≡ from source (record { text = text; names = names ++ name ∷ []; standing = c; at = 0; sections = [] }) s
unfolding from
inside source names name c s text room =
    let e : 32 - length names ≡ suc (32 - length (names ++ name ∷ [])) = simp length-append (omega arith) in
    ap (λ k. reading k source (names ++ name ∷ []) c s text) e

module _ (source : Source) (p : Passage) (s : State) where
  -- where the text has ended
  pub from_end : length p.text ≤ p.at → from source p s ≡ ended p.standing (local_of p s)
  unfolding from
  from_end end = rw (over_end (step source p) p.at (local_of p s) (rest_of p) (simp length-drop (omega arith))) refl

  -- one step, and then the rest
  pub from_step : (n : ℕ) (x : Result Local Fault) → p.at < length p.text → 0 < n → step source p p.at (local_of p s) (rest_of p) ≡ (x >>= λ l. Ok (l, n))
      → from source p s ≡ (x >>= λ l. from source (moved p (p.at + n) l.sections) l.state)
  unfolding from
  from_step n x here some is =
      ap (λ r. r >>= ended p.standing) (over_at (step source p) p.at n (local_of p s) p.text x here some is)
      ∙ bind_assoc x (λ l. over (step source p) (p.at + n) l (drop (p.at + n) p.text)) (ended p.standing)

  -- a fault stays
  pub from_fault : (fault : Fault) → p.at < length p.text → step source p p.at (local_of p s) (rest_of p) ≡ Err fault → from source p s ≡ Err fault
  from_fault fault here is = from_step 1 (Err fault) here (omega arith) is

after_is : (l : Local) (n : ℕ) (r : Result State Fault) → after l n r ≡ ((r >>= λ t. Ok (holding l t)) >>= λ k. Ok (k, n))
after_is l n (Ok t) = refl
after_is l n (Err fault) = refl

module _ (source : Source) (ps : List Passage) (p : Passage) (s : State) where
  -- the end of the text
  pub left_end : length p.text ≤ p.at → left source ps p s ≡ (ended p.standing (local_of p s) >>= resumed source ps)
  left_end end = ap (λ r. r >>= resumed source ps) (from_end source p s end)

  -- a step that opens no text
  pub left_step : (n : ℕ) (l : Local) → p.at < length p.text → 0 < n → step source p p.at (local_of p s) (rest_of p) ≡ Ok (l, n)
      → left source ps p s ≡ left source ps (moved p (p.at + n) l.sections) l.state
  left_step n l here some is = ap (λ r. r >>= resumed source ps) (from_step source p s n (Ok l) here some is)

  pub left_fault : (fault : Fault) → p.at < length p.text → step source p p.at (local_of p s) (rest_of p) ≡ Err fault → left source ps p s ≡ Err fault
  left_fault fault here is = ap (λ r. r >>= resumed source ps) (from_fault source p s fault here is)

  -- a step that changes the state alone
  pub left_after : (n : ℕ) (r : Result State Fault) → p.at < length p.text → 0 < n → step source p p.at (local_of p s) (rest_of p) ≡ after (local_of p s) n r
      → left source ps p s ≡ (r >>= λ t. left source ps (moved p (p.at + n) p.sections) t)
  left_after n r here some is =
      let l = local_of p s in
      let on = λ (t : State). from source (moved p (p.at + n) p.sections) t in
      ap (λ x. x >>= resumed source ps) (from_step source p s n (r >>= λ t. Ok (holding l t)) here some (is ∙ after_is l n r) ∙ bind_assoc r (λ t. Ok (holding l t)) (λ k. from source (moved p (p.at + n) k.sections) k.state))
      ∙ bind_assoc r on (resumed source ps)
