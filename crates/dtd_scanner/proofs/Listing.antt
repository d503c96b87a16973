-- The items of a text, computed and by the definition.
use Rattle.std.proofs.Common.{◌≡◌, ◌∙◌, ℕ, zero, suc, ◌+◌, ◌-◌, ◌<◌, ◌≤◌, List, [], ◌∷◌, ◌++◌, length, drop, Result, Ok, Err, refl, ap, sym, subst, ⊎_elim, ◌↔◌, arith, length-drop, append_assoc}
use Rattle.std.proofs.lemmas.List.{append-nil}
use Rattle.std.proofs.lemmas.Bool.{cases_lt}
use Rattle.dtd_scanner.specs.Items.{Scans}
use Rattle.dtd_scanner.specs.Scanning.{first_item, answer_at}
use Rattle.dtd_scanner.specs.ItemLists.{AreItemsFrom, AreItems, add_item, items_of}
use Rattle.dtd_scanner.specs.Walk.{◌>>=◌, over}
use Rattle.dtd_scanner.specs.declared.item.Item.{Item}
use Rattle.dtd_scanner.specs.declared.item.ScanFault.{ScanFault}
use Rattle.dtd_scanner.proofs.Walking.{over_end, over_at}
use Rattle.dtd_scanner.proofs.Agreement.{first_here, goes_on, scans}

-- the items of the rest of a text are found behind those before
lists_from : (text : List ℕ) (at : ℕ) (before items : List Item) → AreItemsFrom text at items → over add_item at before (drop at text) ≡ Ok (before ++ items)
lists_from text at before [] ends =
    let none : length (drop at text) ≡ 0 = omega (arith, length-drop at text, ends) in
    over_end add_item at before (drop at text) none ∙ ap Ok (sym (append-nil before))
lists_from text at before (item ∷ items) is =
    let here = goes_on text at item.kind item.end is.0 in
    let place : at + (item.end - at) ≡ item.end = omega arith in
    let first : add_item at before (drop at text) ≡ Ok (before ++ item ∷ [], item.end - at) =
    ap (λ r. r >>= λ i. Ok (before ++ record { kind = i.kind; end = at + i.end } ∷ [], i.end)) (first_here text at item.kind item.end is.0)
    ∙ ap (λ n. Ok (before ++ record { kind = item.kind; end = n } ∷ [], item.end - at)) place in
    over_at add_item at (item.end - at) before text (Ok (before ++ item ∷ [])) (omega arith) (omega arith) first
    ∙ ap (λ n. over add_item n (before ++ item ∷ []) (drop n text)) place
    ∙ lists_from text item.end (before ++ item ∷ []) items is.1 ∙ ap Ok (append_assoc before (item ∷ []) items)

-- The items of a text are found.
pub lists : (text : List ℕ) (items : List Item) → AreItems text items → items_of text ≡ Ok items
lists text items is = lists_from text 0 [] items is

-- what the walk gives from a place on: items behind those before
abbrev Lists : List ℕ → ℕ → List Item → List Item → Type 0
Lists text at before items = (more : List Item) × (items ≡ before ++ more) × AreItemsFrom text at more

ended : (text : List ℕ) (at : ℕ) (before items : List Item) → over add_item at before (drop at text) ≡ Ok items → at ≡ length text → Lists text at before items
ended text at before items e ends =
    let none : length (drop at text) ≡ 0 = omega (arith, length-drop at text, ends) in
    let stays = over_end add_item at before (drop at text) none in
    let same : items ≡ before = cc in
    ([], same ∙ sym (append-nil before), ends)

module _ (text : List ℕ) (at : ℕ) (before items : List Item) (here : at < length text) (e : over add_item at before (drop at text) ≡ Ok items) where
  -- one item, and then the rest
  listed : (answer : Result Item ScanFault) → first_item (drop at text) ≡ answer → Scans text at (answer_at at answer)
      → ((next : Item) → over add_item next.end (before ++ next ∷ []) (drop next.end text) ≡ Ok items → at < next.end → next.end ≤ length text → Lists text next.end (before ++ next ∷ []) items)
      → Lists text at before items
  listed (Err fault) is scanned rest =
      let stops = over_at add_item at 1 before text (Err fault) here (omega arith) (ap (λ r. r >>= λ i. Ok (before ++ record { kind = i.kind; end = at + i.end } ∷ [], i.end)) is) in
      absurd cc
  listed (Ok item) is scanned rest =
      let next : Item = record { kind = item.kind; end = at + item.end } in
      let on = goes_on text at item.kind (at + item.end) scanned in
      let turn = over_at add_item at item.end before text (Ok (before ++ next ∷ [])) here (omega arith) (ap (λ r. r >>= λ i. Ok (before ++ record { kind = i.kind; end = at + i.end } ∷ [], i.end)) is) in
      let later = rest next (sym turn ∙ e) on.0 on.1 in
      (next ∷ later.0, later.1 ∙ append_assoc before (next ∷ []) later.0, (scanned, later.2))

listed_from : (most : ℕ) (text : List ℕ) (at : ℕ) (before items : List Item) → at ≤ length text → length text ≤ at + most → over add_item at before (drop at text) ≡ Ok items → Lists text at before items
listed_from zero text at before items within all e = ended text at before items e (omega arith)
listed_from (suc most) text at before items within all e =
    ⊎_elim
    (λ here. listed text at before items here e (first_item (drop at text)) refl (scans text at) (λ next is after inside. listed_from most text next.end (before ++ next ∷ []) items inside (omega arith) is))
    (λ past. ended text at before items e (omega arith))
    (cases_lt at (length text))

-- What the walk gives are the items of the text.
pub listed_all : (text : List ℕ) (items : List Item) → items_of text ≡ Ok items → AreItems text items
listed_all text items e =
    let found = listed_from (length text) text 0 [] items (omega arith) (omega arith) e in
    subst (AreItems text) (sym found.1) found.2

-- The items of a text are one list.
pub one_list : (text : List ℕ) (items others : List Item) → AreItems text items → AreItems text others → items ≡ others
one_list text items others first second =
    let found = lists text items first in
    let again = lists text others second in
    cc

-- What is computed are the items of the text.
pub listing : (text : List ℕ) (items : List Item) → (items_of text ≡ Ok items) ↔ AreItems text items
listing text items = (listed_all text items, lists text items)
