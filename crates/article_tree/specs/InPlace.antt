-- Reading with one state for all texts, as a program keeps it.
use Rattle.std.specs.Prelude.{ℕ, zero, suc, ◌-◌, true, false, List, [], ◌∷◌, ◌++◌, length, Option, Some, None, Result, Ok, Err, nat_lt, if◌then◌else◌}
use Rattle.jats_chars.specs.Classes.{is_space}
use Rattle.dtd_scanner.specs.Walk.{◌>>=◌, over}
use Rattle.jats_fault.specs.declared.fault.Fault.{Fault}
use Rattle.document_trees.specs.Trees.{Node}
use Rattle.document_trees.specs.Trees as tree
use Rattle.decl_set.specs.Declarations.{Entity}
use Rattle.decl_set.specs.Values.{predefined, opening}
use Rattle.article_tree.specs.Tokens.{Token, letter, section, coded, named, remark, instruction, start, stop}
use Rattle.article_tree.specs.Words.{Names}
use Rattle.article_tree.specs.Taking.{first_token}
use Rattle.article_tree.specs.Stops.{Standing, standing_in, malformed, stopped}
use Rattle.article_tree.specs.Reading.{State, put, started, ended, outermost, article_with}

-- what a text does to the state, with these names open, standing there
abbrev pub Deep : Type 0
Deep = Names → Standing → State → List ℕ → Result State Fault

-- a text that is included: an empty one is a run without characters
abbrev pub noted : State → List ℕ → State
noted s [] = put s (tree.chars [] true tree.nothing)
noted s (c ∷ cs) = s

-- an end tag ends no element that was open where the text began
abbrev pub ended_in : ℕ → Standing → ℕ → State → List ℕ → Result State Fault
ended_in base c at s name = if nat_lt base (length s.opens) then ended c at s name s.opens else Err (malformed c at)

abbrev pub referred_in : List Entity → Deep → Names → Standing → ℕ → State → List ℕ → Option ℕ → Result State Fault
referred_in entities deeper names c at s name (Some char) = Ok (put s (tree.chars (char ∷ []) false tree.nothing))
referred_in entities deeper names c at s name None =
    stopped c at name (opening entities names s.spent name) >>= λ t. deeper (names ++ name ∷ []) (standing_in c at name) (record s { spent = t.1 }) t.0

abbrev pub done_in : List Entity → Deep → Names → ℕ → Standing → ℕ → State → Token → Result State Fault
done_in entities deeper names base c at s (letter char) = Ok (put s (tree.chars (char ∷ []) (is_space char) tree.nothing))
done_in entities deeper names base c at s (section text) = Ok (put s (tree.chars text false tree.nothing))
done_in entities deeper names base c at s (coded char) = Ok (put s (tree.chars (char ∷ []) false tree.nothing))
done_in entities deeper names base c at s (named name) = referred_in entities deeper names c at s name (predefined name)
done_in entities deeper names base c at s (remark text) = Ok (put s (tree.comment text tree.nothing))
done_in entities deeper names base c at s (instruction target body) = Ok (put s (tree.pi target body tree.nothing))
done_in entities deeper names base c at s (start tag) = started entities names 0 c at s tag
done_in entities deeper names base c at s (stop name) = ended_in base c at s name

abbrev pub by_token_in : List Entity → Deep → Names → ℕ → Standing → ℕ → State → List ℕ → Option (Token × List ℕ) → Result (State × ℕ) Fault
by_token_in entities deeper names base c at s text None = Err (malformed c at)
by_token_in entities deeper names base c at s text (Some x) = done_in entities deeper names base c at s x.0 >>= λ v. Ok (v, length text - length x.1)

abbrev pub step_in : List Entity → Deep → Names → ℕ → Standing → ℕ → State → List ℕ → Result (State × ℕ) Fault
step_in entities deeper names base c at s text = by_token_in entities deeper names base c at s text (first_token text)

abbrev pub closed_in : ℕ → Standing → ℕ → State → Result State Fault
closed_in base c end s = if nat_lt base (length s.opens) then Err (malformed c end) else Ok s

-- What a text does to the state, token by token.
abbrev pub reading_in : ℕ → List Entity → Deep
reading_in zero entities names c s text = Err (malformed c 0)
reading_in (suc levels) entities names c s text =
    over (step_in entities (reading_in levels entities) names (length s.opens) c) 0 (noted s text) text >>= closed_in (length s.opens) c (length text)

-- the node of an article, or the first fault, read so
unfoldable pub article_in_place : List Entity → List ℕ → List ℕ → Result Node Fault
article_in_place entities article text = article_with (step_in entities (reading_in 32 entities) [] 0 (outermost article)) (outermost article) text
