-- What is read from bodies of Chars.
use Rattle.std.specs.Prelude.{IsTrue}
use Rattle.decl_set.specs.Asked.{are_chars, are_entity_ids}
use Rattle.declaration_bodies.specs.declared.entities.RawDef.{RawDef}
use Rattle.declaration_bodies.specs.declared.entities.RawDef.TheVariants.{Value, External, Unparsed}

-- a value is of Chars, and identifiers are as they are asked for
abbrev pub IsOfChars : RawDef → Type 0
IsOfChars (Value text) = IsTrue (are_chars text)
IsOfChars (External ids) = IsTrue (are_entity_ids ids)
IsOfChars (Unparsed ids notation) = IsTrue (are_entity_ids ids)
