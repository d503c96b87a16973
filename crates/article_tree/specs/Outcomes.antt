-- What the calls that read answer, unless memory runs out.
use Rattle.std.specs.Prelude.{◌≡◌, ℕ, List, [], ◌∷◌, IsTrue, Option, Some, None, option_map, Result, Ok, Err}
use Rattle.jats_chars.specs.Names.{is_name}
use Rattle.attlist_merge.specs.Grammar.{is_value}
use Rattle.document_trees.specs.Trees.{Attribute}
use Rattle.pe_expansion.specs.Expansion.{Written}
use Rattle.article_tree.specs.Tokens.{Raw}
use Rattle.jats_fault.specs.declared.fault.Fault.{Fault}
use Rattle.decl_set.specs.declared.faults.ValueFault.{ValueFault}
use Rattle.decl_set.specs.declared.faults.ValueFault.TheVariants as value
use Rattle.article_tree.specs.Stops.{Inner, Standing, refused, value_stop}
use Rattle.article_tree.specs.Held.{EndsApart, state_of}
use Rattle.article_tree.specs.Reading.{State}
use Rattle.article_tree.specs.declared.held.Held.{Held}
use Rattle.article_tree.specs.declared.stops.EntityText.{EntityText}
use Rattle.article_tree.specs.declared.stops.Stand.{Stand}
use Rattle.article_tree.specs.declared.stops.ArticleFault.{ArticleFault}
use Rattle.article_tree.specs.declared.stops.ArticleFault.TheVariants.{Refused, NoMemory}
use Rattle.jats_fault.specs.declared.numbers.TheConstants as number

abbrev pub inner_of : EntityText → Inner
inner_of e = record { place = e.place; name = e.name }

abbrev pub standing_of : Stand → Standing
standing_of s = record { article = s.article.now; inner = option_map inner_of s.inner }

-- this refusal, or want of memory
abbrev pub Refuses : Fault → ArticleFault → Type 0
Refuses said (Refused refusal) = refusal ≡ said
Refuses said NoMemory = Unit {0}

-- the refusal for what stops a value
abbrev pub StopsBy : Standing → ℕ → List ℕ → ValueFault → ArticleFault → Type 0
StopsBy c at name value.NoMemory answer = answer ≡ NoMemory
StopsBy c at name fault answer = Refuses (value_stop c at name fault) answer

-- this fault is what a definition says, or memory ran out
abbrev pub Fails : {Y : Type 0} → ArticleFault → Result Y Fault → Type 0
Fails (Refused refusal) said = said ≡ Err refusal
Fails NoMemory said = Unit {0}

-- the answer is what a definition says, unless memory ran out
abbrev pub Answers : {X Y : Type 0} → (X → Y) → Result Y Fault → Result X ArticleFault → Type 0
Answers view said (Ok x) = said ≡ Ok (view x)
Answers view said (Err fault) = Fails fault said

-- the name is a Name, and each `&` of the value begins a reference
abbrev pub IsRaw : Raw → Type 0
IsRaw raw = IsTrue (is_name raw.0) × IsTrue (is_value raw.1)

-- with the count of included characters
abbrev pub counted_text : ℕ → List ℕ → Written
counted_text spent text = record { text = text; spent = spent }

abbrev pub counted : ℕ → List Attribute → List Attribute × ℕ
counted spent atts = (atts, spent)

-- the new state is what a definition says, or the fault is
abbrev pub Moves : {X : Type 0} → Result State Fault → Held → Result X ArticleFault → Type 0
Moves said new (Ok x) = (said ≡ Ok (state_of new)) × EndsApart new.items.items
Moves said new (Err fault) = Fails fault said

-- no attribute stands twice, or the refusal names the first that does
abbrev pub TestsRepeated : {X : Type 0} → Standing → ℕ → List ℕ → Option (List ℕ) → Result X ArticleFault → Type 0
TestsRepeated c at name again (Ok x) = again ≡ None
TestsRepeated c at name again (Err (Refused refusal)) = (twice : List ℕ) × (again ≡ Some twice) × (refusal ≡ refused c at number.REPEATED_ATTRIBUTE (name ∷ twice ∷ []))
TestsRepeated c at name again (Err NoMemory) = Unit {0}
