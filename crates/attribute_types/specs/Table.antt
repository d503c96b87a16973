-- For each two classes a value of the first that is not in the second, or none.
use Rattle.std.specs.Prelude.{ℕ, zero, suc, false, not, bytes_eq, List, [], ◌∷◌, ◌++◌, length, Option, Some, None, find, if◌then◌else◌, codes, IsTrue, ◌≡◌}
use Rattle.jats_chars.specs.Names.{is_name}
use Rattle.attribute_types.specs.Classes.{among, in_class}
use Rattle.attribute_types.specs.Proper.{first_of}
use Rattle.attribute_types.specs.Covers.{Covers}
use Rattle.attribute_types.specs.declared.classes.ValueClass.{ValueClass}
use Rattle.attribute_types.specs.declared.classes.ValueClass.TheVariants.{Any, Name, Names, Nmtoken, Nmtokens, Tokens, Fixed, FixedToken}

abbrev pub Uncovered : Type 0
Uncovered = Option (List ℕ)

-- the first of the text, the text with one more `a` and so on, n of them, that is not in the list; else the one after these
unfoldable pub free_from : ℕ → List ℕ → List (List ℕ) → List ℕ
free_from zero text tokens = text
free_from (suc n) text tokens = if among tokens text then free_from n (text ++ 0x61 ∷ []) tokens else text

-- the first of `a`, `aa`, `aaa` and so on that is not in the list: no list holds more of them than it has texts
abbrev pub free_of : List (List ℕ) → List ℕ
free_of tokens = free_from (length tokens) (0x61 ∷ []) tokens

-- the value, where it is not in the class
abbrev pub out_of : ValueClass → List ℕ → Uncovered
out_of class value = if in_class class value then None else Some value

-- the first of the list that is no Name
abbrev pub nameless : List (List ℕ) → Uncovered
nameless tokens = find (λ token. not (is_name token)) tokens

-- the first of the first list that is not in the second
abbrev pub lacking : List (List ℕ) → List (List ℕ) → Uncovered
lacking tokens others = find (λ token. not (among others token)) tokens

-- the first of the list other than the text
abbrev pub other_than : List (List ℕ) → List ℕ → Uncovered
other_than tokens text = find (λ token. not (bytes_eq token text)) tokens

-- the token, with a space before it where it is the text
abbrev pub spaced : List ℕ → List ℕ → List ℕ
spaced token text = if bytes_eq token text then 0x20 ∷ token else token

-- the empty text, or `x` where the other text is empty
abbrev pub empty_or_x : List ℕ → List ℕ
empty_or_x [] = codes "x"
empty_or_x (c ∷ cs) = []

-- a value of the first class that is not in the second, or none where every value is
abbrev pub Tells : ValueClass → ValueClass → Uncovered → Type 0
Tells first second None = Covers first second
Tells first second (Some value) = IsTrue (in_class first value) × (in_class second value ≡ false)

-- the table, a row for each first class
abbrev pub uncovered : ValueClass → ValueClass → Uncovered
uncovered Any Any = None
uncovered Any Name = Some []
uncovered Any Names = Some []
uncovered Any Nmtoken = Some []
uncovered Any Nmtokens = Some []
uncovered Any (Tokens others) = Some []
uncovered Any (Fixed text) = Some (empty_or_x text)
uncovered Any (FixedToken text) = Some []
uncovered Name Any = None
uncovered Name Name = None
uncovered Name Names = None
uncovered Name Nmtoken = None
uncovered Name Nmtokens = None
uncovered Name (Tokens others) = Some (free_of others)
uncovered Name (Fixed text) = Some (free_of (text ∷ []))
uncovered Name (FixedToken text) = Some (free_of (text ∷ []))
uncovered Names Any = None
uncovered Names Name = Some (codes "a a")
uncovered Names Names = None
uncovered Names Nmtoken = Some (codes "a a")
uncovered Names Nmtokens = None
uncovered Names (Tokens others) = Some (free_of others)
uncovered Names (Fixed text) = Some (free_of (text ∷ []))
uncovered Names (FixedToken text) = Some (free_of (text ∷ []))
uncovered Nmtoken Any = None
uncovered Nmtoken Name = Some (codes "1")
uncovered Nmtoken Names = Some (codes "1")
uncovered Nmtoken Nmtoken = None
uncovered Nmtoken Nmtokens = None
uncovered Nmtoken (Tokens others) = Some (free_of others)
uncovered Nmtoken (Fixed text) = Some (free_of (text ∷ []))
uncovered Nmtoken (FixedToken text) = Some (free_of (text ∷ []))
uncovered Nmtokens Any = None
uncovered Nmtokens Name = Some (codes "1")
uncovered Nmtokens Names = Some (codes "1")
uncovered Nmtokens Nmtoken = Some (codes "a a")
uncovered Nmtokens Nmtokens = None
uncovered Nmtokens (Tokens others) = Some (free_of others)
uncovered Nmtokens (Fixed text) = Some (free_of (text ∷ []))
uncovered Nmtokens (FixedToken text) = Some (free_of (text ∷ []))
uncovered (Tokens tokens) Any = None
uncovered (Tokens tokens) Name = nameless tokens
uncovered (Tokens tokens) Names = nameless tokens
uncovered (Tokens tokens) Nmtoken = None
uncovered (Tokens tokens) Nmtokens = None
uncovered (Tokens tokens) (Tokens others) = lacking tokens others
uncovered (Tokens tokens) (Fixed text) = Some (spaced (first_of tokens) text)
uncovered (Tokens tokens) (FixedToken text) = other_than tokens text
uncovered (Fixed text) Any = None
uncovered (Fixed text) Name = out_of Name text
uncovered (Fixed text) Names = out_of Names text
uncovered (Fixed text) Nmtoken = out_of Nmtoken text
uncovered (Fixed text) Nmtokens = out_of Nmtokens text
uncovered (Fixed text) (Tokens others) = out_of (Tokens others) text
uncovered (Fixed text) (Fixed other) = out_of (Fixed other) text
uncovered (Fixed text) (FixedToken other) = out_of (FixedToken other) text
uncovered (FixedToken text) Any = None
uncovered (FixedToken text) Name = out_of Name text
uncovered (FixedToken text) Names = out_of Names text
uncovered (FixedToken text) Nmtoken = out_of Nmtoken text
uncovered (FixedToken text) Nmtokens = out_of Nmtokens text
uncovered (FixedToken text) (Tokens others) = out_of (Tokens others) text
uncovered (FixedToken text) (Fixed other) = Some (spaced text other)
uncovered (FixedToken text) (FixedToken other) = out_of (FixedToken other) text
