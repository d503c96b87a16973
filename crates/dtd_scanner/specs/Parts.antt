-- What an item holds.
use Rattle.std.specs.Prelude.{ℕ, ◌+◌, ◌-◌, List, slice_range}
use Rattle.dtd_scanner.specs.declared.item.ItemKind.{ItemKind}
use Rattle.dtd_scanner.specs.declared.item.ItemKind.TheVariants.{Blank, Comment, Pi, Reference, SectionStart, ElementDecl, AttlistDecl, EntityDecl, NotationDecl}

-- how many characters the opening of an item has
abbrev pub opening_len : ItemKind → ℕ
opening_len Blank = 0
opening_len Comment = 4
opening_len Pi = 2
opening_len Reference = 1
opening_len SectionStart = 3
opening_len ElementDecl = 9
opening_len AttlistDecl = 9
opening_len EntityDecl = 8
opening_len NotationDecl = 10

-- What an item at a place holds between its opening and its last character: the name of a reference, the keyword part of a
-- section's start, the body of a declaration.
abbrev pub contents_of : List ℕ → ℕ → ItemKind → ℕ → List ℕ
contents_of text at kind end = slice_range text (at + opening_len kind) (end - 1)
