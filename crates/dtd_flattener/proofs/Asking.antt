-- What is asked of the bindings where no text is wanted.
use Rattle.std.proofs.Common.{◌≡◌, ℕ, zero, suc, length, Result, Ok, refl}
use Rattle.pe_expansion.specs.declared.faults.PeFault.{PeFault}
use Rattle.module_reader.specs.declared.standing.Standing.{Standing}
use Rattle.module_reader.specs.declared.state.State.{State}
use Rattle.module_reader.specs.Sources.{Source, asking_most, asking}

asked_most : {X : Type 0} (source : Source) (c : Standing) (at n : ℕ) (ask : State → Result X PeFault) (s : State) (x : X) → ask s ≡ Ok x → asking_most source c at n ask s ≡ Ok (s, x)
asked_most source c at zero ask s x is = rw is refl
asked_most source c at (suc n) ask s x is = rw is refl

-- An answer is given at once, and the state stays.
pub asked : {X : Type 0} (source : Source) (c : Standing) (at : ℕ) (ask : State → Result X PeFault) (s : State) (x : X) → ask s ≡ Ok x → asking source c at ask s ≡ Ok (s, x)
unfolding asking
asked source c at ask s x is = asked_most source c at (length s.bound) ask s x is
