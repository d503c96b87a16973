-- First, last and next letters of a model, by recursion on the model.
use Rattle.std.specs.Prelude.{◌≡◌, ◌⊎◌}
use Rattle.content_models.specs.Re.{Re, Eps, Sym, Cat, Alt, Plus}

abbrev pub MayBeEmpty : {A : Type 0} → Re A → Type 0
MayBeEmpty Eps = Unit {0}
MayBeEmpty (Sym a) = ⊥
MayBeEmpty (Cat r s) = MayBeEmpty r × MayBeEmpty s
MayBeEmpty (Alt r s) = MayBeEmpty r ⊎ MayBeEmpty s
MayBeEmpty (Plus r) = MayBeEmpty r

abbrev pub FirstOf : {A : Type 0} → Re A → A → Type 0
FirstOf Eps x = ⊥
FirstOf (Sym a) x = x ≡ a
FirstOf (Cat r s) x = FirstOf r x ⊎ (MayBeEmpty r × FirstOf s x)
FirstOf (Alt r s) x = FirstOf r x ⊎ FirstOf s x
FirstOf (Plus r) x = FirstOf r x

abbrev pub LastOf : {A : Type 0} → Re A → A → Type 0
LastOf Eps x = ⊥
LastOf (Sym a) x = x ≡ a
LastOf (Cat r s) x = LastOf s x ⊎ (MayBeEmpty s × LastOf r x)
LastOf (Alt r s) x = LastOf r x ⊎ LastOf s x
LastOf (Plus r) x = LastOf r x

abbrev pub NextOf : {A : Type 0} → Re A → A → A → Type 0
NextOf Eps x y = ⊥
NextOf (Sym a) x y = ⊥
NextOf (Cat r s) x y = NextOf r x y ⊎ (NextOf s x y ⊎ (LastOf r x × FirstOf s y))
NextOf (Alt r s) x y = NextOf r x y ⊎ NextOf s x y
NextOf (Plus r) x y = NextOf r x y ⊎ (LastOf r x × FirstOf r y)
