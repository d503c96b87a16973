-- Texts that are lists of items.
use Rattle.std.specs.Prelude.{◌≡◌, ℕ, ◌+◌, List, [], ◌∷◌, ◌++◌, length, Result, Ok}
use Rattle.dtd_scanner.specs.Items.{IsItemAt}
use Rattle.dtd_scanner.specs.Scanning.{first_item}
use Rattle.dtd_scanner.specs.Walk.{◌>>=◌, over}
use Rattle.dtd_scanner.specs.declared.item.Item.{Item}
use Rattle.dtd_scanner.specs.declared.item.ScanFault.{ScanFault}

-- the text from this place on is these items, each at the end of the one before
abbrev pub AreItemsFrom : List ℕ → ℕ → List Item → Type 0
AreItemsFrom text at [] = at ≡ length text
AreItemsFrom text at (item ∷ items) = IsItemAt text at item.kind item.end × AreItemsFrom text item.end items

-- the text is these items
abbrev pub AreItems : List ℕ → List Item → Type 0
AreItems text items = AreItemsFrom text 0 items

-- the text is a list of items
abbrev pub IsItemList : List ℕ → Type 0
IsItemList text = (items : List Item) × AreItems text items

-- The items of a text, computed: each step adds the item at its place.
abbrev pub add_item : ℕ → List Item → List ℕ → Result (List Item × ℕ) ScanFault
add_item at items text = first_item text >>= λ item. Ok (items ++ record { kind = item.kind; end = at + item.end } ∷ [], item.end)

abbrev pub items_of : List ℕ → Result (List Item) ScanFault
items_of text = over add_item 0 [] text
