-- Items at places: the scanner and the definition agree, and an item is unique.
use Rattle.std.proofs.Common.{◌≡◌, ◌≢◌, ◌∙◌, ℕ, ◌+◌, ◌-◌, ◌<◌, ◌≤◌, List, [], ◌∷◌, length, take, drop, true, false, Ok, Err, refl, ap, sym, subst, ⊎_elim, ◌↔◌, arith, length-append, length-drop}
use Rattle.std.specs.Prelude.{Result, slice_range}
use Rattle.std.proofs.lemmas.List.{take-append-drop, length-take-le, drop-drop}
use Rattle.std.proofs.Math.Seq.{drop-append_seam, take-append_seam}
use Rattle.std.proofs.lemmas.Bool.{both_ways, false≢true}
use Rattle.jats_chars.specs.Names.{is_name}
use Rattle.dtd_scanner.specs.Items.{IsItem, EndsBefore, IsItemAt, EndsPi, shortest, begins_item, Scans}
use Rattle.dtd_scanner.specs.Scanning.{first_item, answer_at, item_at}
use Rattle.dtd_scanner.specs.declared.item.Item.{Item}
use Rattle.dtd_scanner.specs.declared.item.ItemKind.{ItemKind}
use Rattle.dtd_scanner.specs.declared.item.ItemKind.TheVariants.{Blank, Comment, Pi, Reference, SectionStart, ElementDecl, AttlistDecl, EntityDecl, NotationDecl}
use Rattle.dtd_scanner.specs.declared.item.ScanFault.{ScanFault}
use Rattle.dtd_scanner.specs.declared.item.ScanFault.TheVariants.{Malformed, Unclosed}
use Rattle.dtd_scanner.proofs.Complete.{complete}
use Rattle.dtd_scanner.proofs.Sound.{BeginsWith, IsRight, right}

not_nil : (text : List ℕ) → text ≢ [] → 1 ≤ length text
not_nil [] some = absurd (some refl)
not_nil (c ∷ cs) some = omega arith

name_size : (name : List ℕ) → is_name name ≡ true → 1 ≤ length name
name_size [] is = absurd (false≢true is)
name_size (c ∷ cs) is = omega arith

tail_size : (rest : List ℕ) → EndsPi rest → 2 ≤ length rest
tail_size rest is =
    ⊎_elim (λ closed. omega (arith, ap length closed)) (λ spaced. omega (arith, simp length-append at (ap length spaced.4))) is

-- an item has that many characters at least
item_size : (kind : ItemKind) (item : List ℕ) → IsItem kind item → shortest kind ≤ length item
item_size Blank item is = not_nil item is.0
item_size Comment item is = omega (arith, simp length-append at (ap length is.3))
item_size Pi item is = omega (arith, simp length-append at (ap length is.5), name_size is.0 is.2, tail_size is.1 is.4)
item_size Reference item is = omega (arith, simp length-append at (ap length is.2), name_size is.0 is.1)
item_size SectionStart item is = omega (arith, simp length-append at (ap length is.2))
item_size ElementDecl item is = omega (arith, simp length-append at (ap length is.3))
item_size AttlistDecl item is = omega (arith, simp length-append at (ap length is.3))
item_size EntityDecl item is = omega (arith, simp length-append at (ap length is.3))
item_size NotationDecl item is = omega (arith, simp length-append at (ap length is.3))

shortest_some : (kind : ItemKind) → 1 ≤ shortest kind
shortest_some Blank = omega arith
shortest_some Comment = omega arith
shortest_some Pi = omega arith
shortest_some Reference = omega arith
shortest_some SectionStart = omega arith
shortest_some ElementDecl = omega arith
shortest_some AttlistDecl = omega arith
shortest_some EntityDecl = omega arith
shortest_some NotationDecl = omega arith

-- an item that the rest of a text begins with is the item at the place
begins_at : (text : List ℕ) (at : ℕ) (kind : ItemKind) (len : ℕ) → BeginsWith (drop at text) kind len → IsItemAt text at kind (at + len)
begins_at text at kind len begins =
    let some : 0 < length begins.item = omega (arith, item_size kind begins.item begins.is, shortest_some kind) in
    let all : length text - at ≡ length begins.item + length begins.rest = sym (length-drop at text) ∙ ap length begins.split ∙ length-append begins.item begins.rest in
    let part : at + len - at ≡ len = omega arith in
    record {
      after = omega arith;
      within = omega (arith, begins.size);
      is = subst (IsItem kind) (sym (ap (λ n. take n (drop at text)) (part ∙ begins.size) ∙ ap (take (length begins.item)) begins.split ∙ take-append_seam begins.item begins.rest)) begins.is;
      ends = subst (EndsBefore kind) (sym (sym (drop-drop len at text) ∙ ap (λ n. drop n (drop at text)) begins.size ∙ ap (drop (length begins.item)) begins.split ∙ drop-append_seam begins.item begins.rest)) begins.ends;
    }

-- the item at a place is the first item of the rest of the text
pub first_here : (text : List ℕ) (at : ℕ) (kind : ItemKind) (end : ℕ) → IsItemAt text at kind end → first_item (drop at text) ≡ Ok (record { kind = kind; end = end - at })
first_here text at kind end is =
    let inner = drop at text in
    let n = end - at in
    let back : drop end text ≡ drop n inner = ap (λ k. drop k text) (let e : end ≡ at + n = omega (arith, is.after) in e) ∙ sym (drop-drop n at text) in
    let size : length (take n inner) ≡ n = length-take-le n inner (omega (arith, length-drop at text, is.within)) in
    ap first_item (sym (take-append-drop n inner)) ∙ complete kind (take n inner) (drop n inner) is.is (subst (EndsBefore kind) back is.ends)
    ∙ ap (λ k. Ok (record { kind = kind; end = k })) size

-- an item has its length behind its place
pub goes_far : (text : List ℕ) (at : ℕ) (kind : ItemKind) (end : ℕ) → IsItemAt text at kind end → at + shortest kind ≤ end
goes_far text at kind end is =
    let some = item_size kind (slice_range text at end) is.is in
    let size : length (slice_range text at end) ≡ end - at = length-take-le (end - at) (drop at text) (omega (arith, length-drop at text, is.within, is.after)) in
    omega (arith, is.after)

-- an item goes on behind its place, in the text
pub goes_on : (text : List ℕ) (at : ℕ) (kind : ItemKind) (end : ℕ) → IsItemAt text at kind end → (at < end) × (end ≤ length text)
goes_on text at kind end is = (omega (arith, goes_far text at kind end is, shortest_some kind), is.within)

-- The scanner finds each item.
pub finds : (text : List ℕ) (at : ℕ) (kind : ItemKind) (end : ℕ) → IsItemAt text at kind end → item_at text at ≡ Ok (record { kind = kind; end = end })
finds text at kind end is =
    let place : at + (end - at) ≡ end = omega (arith, is.after) in
    ap (answer_at at) (first_here text at kind end is) ∙ ap (λ n. Ok (record { kind = kind; end = n })) place

pub scans_as : (text : List ℕ) (at : ℕ) (answer : Result Item ScanFault) → first_item (drop at text) ≡ answer → IsRight (drop at text) answer → Scans text at (answer_at at answer)
scans_as text at (Ok item) is found = begins_at text at item.kind item.end found.1
scans_as text at (Err Malformed) is found = found
scans_as text at (Err Unclosed) is found = (found, λ kind end item. let here = first_here text at kind end item in absurd cc)

-- What the scanner answers is what the definition says.
pub scans : (text : List ℕ) (at : ℕ) → Scans text at (item_at text at)
scans text at = scans_as text at (first_item (drop at text)) refl (right (drop at text))

same_item : (answer : Result Item ScanFault) (item other : Item) → answer ≡ Ok item → answer ≡ Ok other → (item.kind ≡ other.kind) × (item.end ≡ other.end)
same_item answer item other is also = let same : item ≡ other = cc in (ap (λ (i : Item). i.kind) same, ap (λ (i : Item). i.end) same)

-- The item at a place is unique.
pub one_item : (text : List ℕ) (at : ℕ) (kind other : ItemKind) (end last : ℕ) → IsItemAt text at kind end → IsItemAt text at other last → (kind ≡ other) × (end ≡ last)
one_item text at kind other end last item again =
    same_item (item_at text at) (record { kind = kind; end = end }) (record { kind = other; end = last }) (finds text at kind end item) (finds text at other last again)

module _ (text : List ℕ) (at : ℕ) where
  -- no other answer is right
  malformed_only : (answer : Result Item ScanFault) → IsRight (drop at text) answer → begins_item (drop at text) ≡ false → Err Malformed ≡ answer
  malformed_only (Ok item) found none = absurd (both_ways (begins_item (drop at text)) none found.0)
  malformed_only (Err Malformed) found none = refl
  malformed_only (Err Unclosed) found none = absurd (both_ways (begins_item (drop at text)) none found)

  unclosed_only : (answer : Result Item ScanFault) → IsRight (drop at text) answer → begins_item (drop at text) ≡ true → ((kind : ItemKind) (end : ℕ) → ¬ IsItemAt text at kind end) → Err Unclosed ≡ answer
  unclosed_only (Ok item) found begins none = absurd (none item.kind (at + item.end) (begins_at text at item.kind item.end found.1))
  unclosed_only (Err Malformed) found begins none = absurd (both_ways (begins_item (drop at text)) found begins)
  unclosed_only (Err Unclosed) found begins none = refl

  -- What the definition says of a place is the scanner's answer.
  pub answers : (answer : Result Item ScanFault) → Scans text at answer → answer ≡ item_at text at
  answers (Ok item) is = sym (finds text at item.kind item.end is)
  answers (Err Malformed) none = ap (answer_at at) (malformed_only (first_item (drop at text)) (right (drop at text)) none)
  answers (Err Unclosed) is = ap (answer_at at) (unclosed_only (first_item (drop at text)) (right (drop at text)) is.0 is.1)

  -- The other way.
  pub scanned : (answer : Result Item ScanFault) → answer ≡ item_at text at → Scans text at answer
  scanned answer is = subst (Scans text at) (sym is) (scans text at)

  pub scanning : (answer : Result Item ScanFault) → (answer ≡ item_at text at) ↔ Scans text at answer
  scanning answer = (scanned answer, answers answer)

  -- That is one answer.
  pub one_answer : (first second : Result Item ScanFault) → Scans text at first → Scans text at second → first ≡ second
  one_answer first second is also = answers first is ∙ sym (answers second also)

-- The first item of the rest of a text is the item at the place.
pub found_here : (text rest : List ℕ) (at : ℕ) (item : Item) → rest ≡ drop at text → Ok item ≡ first_item rest → IsItemAt text at item.kind (at + item.end)
found_here text rest at item same is = scans_as text at (Ok item) (ap first_item (sym same) ∙ sym is) (subst (IsRight (drop at text)) (ap first_item (sym same) ∙ sym is) (right (drop at text)))

fault_as : (at : ℕ) (answer : Result Item ScanFault) (fault : ScanFault) → Err fault ≡ answer_at at answer → answer ≡ Err fault
fault_as at (Ok item) fault is = absurd cc
fault_as at (Err other) fault is = sym is

-- Where there is no item at a place, the rest of the text has no first item, for the same cause.
pub fault_here : (text : List ℕ) (at : ℕ) (fault : ScanFault) → Err fault ≡ item_at text at → first_item (drop at text) ≡ Err fault
fault_here text at fault is = fault_as at (first_item (drop at text)) fault is

-- The first item of a text is the item at its begin.
pub first_is_item : (text : List ℕ) (item : Item) → first_item text ≡ Ok item → IsItemAt text 0 item.kind item.end
first_is_item text item is =
    let place : 0 + item.end ≡ item.end = omega arith in
    subst (IsItemAt text 0 item.kind) place (found_here text text 0 item refl (sym is))

-- The first item takes a character at least, and ends in the text.
pub first_goes_on : (text : List ℕ) (item : Item) → first_item text ≡ Ok item → (shortest item.kind ≤ item.end) × (0 < item.end) × (item.end ≤ length text)
first_goes_on text item is =
    let here = first_is_item text item is in
    (omega (arith, goes_far text 0 item.kind item.end here), (goes_on text 0 item.kind item.end here).0, here.within)
