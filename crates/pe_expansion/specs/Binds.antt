-- What binding a name does.
use Rattle.std.specs.Prelude.{◌≡◌, ℕ, List, [], ◌∷◌, ◌++◌, None, IsSome, Bool, true, false, Result, Ok, Err}
use Rattle.pe_expansion.specs.Bound.{Bound, text_bound}
use Rattle.pe_expansion.specs.declared.bindings.PeText.{PeText}

-- true: the name was not bound, and goes last; false: it was, and nothing changes. Without memory nothing changes either.
abbrev pub Binds : {F : Type 0} → Bound → Bound → List ℕ → PeText → Result Bool F → Type 0
Binds old new name text (Ok true) = (text_bound old name ≡ None) × (new ≡ old ++ (name, text) ∷ [])
Binds old new name text (Ok false) = IsSome (text_bound old name) × (new ≡ old)
Binds old new name text (Err e) = (text_bound old name ≡ None) × (new ≡ old)
