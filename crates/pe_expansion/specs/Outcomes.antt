-- What calls answer, unless memory runs out.
use Rattle.std.specs.Prelude.{◌≡◌, ℕ, List, Result, Ok, Err}
use Rattle.pe_expansion.specs.Expansion.{Written}
use Rattle.pe_expansion.specs.declared.faults.PeFault.{PeFault}
use Rattle.pe_expansion.specs.declared.faults.PeFault.TheVariants.{NoMemory}

-- this fault is what a definition says, or memory ran out
abbrev pub Fails : {Y : Type 0} → PeFault → Result Y PeFault → Type 0
Fails NoMemory said = Unit {0}
Fails fault said = said ≡ Err fault

-- what a call answers is what a definition says
abbrev pub Gives : {X Y : Type 0} → (X → Y) → Result X PeFault → Result Y PeFault → Type 0
Gives view (Ok x) said = said ≡ Ok (view x)
Gives view (Err fault) said = Fails fault said

-- An expansion: Ok with the text and the new count of included characters that the definition gives, else with the first
-- thing that stops it, and the count is as it was.
abbrev pub Expands : Result Written PeFault → ℕ → ℕ → Result (List ℕ) PeFault → Type 0
Expands said old new (Ok text) = said ≡ Ok (record { text = text; spent = new })
Expands said old new (Err fault) = Fails fault said × (new ≡ old)
