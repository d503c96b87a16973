-- Texts that wait, by the names that are open.
use Rattle.std.proofs.Common.{◌≡◌, ℕ, suc, ◌+◌, ◌≤◌, List, [], ◌∷◌, ◌++◌, length, take, refl, arith}
use Rattle.std.proofs.lemmas.List.{take-append-le, take-take}
use Rattle.module_reader.specs.Frames.{passage_of, passages_from, passages_of}
use Rattle.module_reader.specs.Reading.{Names}
use Rattle.module_reader.specs.declared.frames.Frame.{Frame}
use Rattle.module_reader.specs.declared.state.State.{State}

module _ (s : State) (names : Names) where
  push_from : (n : ℕ) (fs : List Frame) (f : Frame) → passages_from s names n (fs ++ f ∷ []) ≡ passages_from s names n fs ++ passage_of s (take (n + length fs) names) f ∷ []
  push_from n [] f = let e : n + 0 ≡ n = omega arith in rw e refl
  push_from n (g ∷ fs) f = let e : n + length (g ∷ fs) ≡ suc n + length fs = omega arith in rw (push_from (suc n) fs f, e) refl

  -- one text more
  pub passages_push : (fs : List Frame) (f : Frame) → passages_of s names (fs ++ f ∷ []) ≡ passages_of s names fs ++ passage_of s (take (length fs) names) f ∷ []
  passages_push fs f = let e : 0 + length fs ≡ length fs = omega arith in rw e at (push_from 0 fs f)

  named_from : (name : List ℕ) (n : ℕ) (fs : List Frame) → n + length fs ≤ suc (length names) → passages_from s (names ++ name ∷ []) n fs ≡ passages_from s names n fs
  named_from name n [] room = refl
  named_from name n (f ∷ fs) room = rw (take-append-le n names (name ∷ []) (omega (arith, room)), named_from name (suc n) fs (omega (arith, room))) refl

  -- one name more
  pub passages_named : (name : List ℕ) (fs : List Frame) → length fs ≤ length names → passages_of s (names ++ name ∷ []) fs ≡ passages_of s names fs
  passages_named name fs room = named_from name 0 fs (omega (arith, room))

  taken_from : (m n : ℕ) (fs : List Frame) → n + length fs ≤ suc m → passages_from s (take m names) n fs ≡ passages_from s names n fs
  taken_from m n [] room = refl
  taken_from m n (f ∷ fs) room = rw (take-take n m names (omega (arith, room)), taken_from m (suc n) fs (omega (arith, room))) refl

  -- as many names as texts
  pub passages_taken : (fs : List Frame) → passages_of s (take (length fs) names) fs ≡ passages_of s names fs
  passages_taken fs = taken_from (length fs) 0 fs (omega arith)
