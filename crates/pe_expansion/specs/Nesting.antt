-- What is known of nesting while texts wait: of each text that is open, whether what is written of it breaks nesting so far.
use Rattle.std.specs.Prelude.{◌≡◌, ◌≤◌, ℕ, ◌-◌, List, [], ◌∷◌, ◌++◌, length, drop, slice_range, Bool, not, ◌&&◌, None}
use Rattle.pe_expansion.specs.Expansion.{nests}
use Rattle.pe_expansion.specs.declared.pieces.Manner.{Manner}
use Rattle.pe_expansion.specs.declared.pieces.Manner.TheVariants.{Literal, Body}
use Rattle.pe_expansion.specs.declared.stack.Frame.{Frame}
use Rattle.pe_expansion.specs.declared.stack.Work.{Work}

-- a part nests together with what follows it exactly where it is not broken and what follows nests
abbrev pub Judged : Bool → List ℕ → Type 0
Judged broken part = (more : List ℕ) → nests None (part ++ more) ≡ (not broken && nests None more)

-- the same, where this many characters are left to be read behind the part, and nothing follows once none is left
abbrev pub JudgedSoFar : Bool → ℕ → List ℕ → Type 0
JudgedSoFar broken left part = (more : List ℕ) → (left ≡ 0 → more ≡ []) → nests None (part ++ more) ≡ (not broken && nests None more)

-- Each open text is judged, where the outermost stands from this place on: a text that waits up to the place from which the
-- next one stands, and the text that is read up to the end.
abbrev pub AreJudged : Bool → ℕ → List ℕ → ℕ → List Frame → Type 0
AreJudged broken left written start [] = (start ≤ length written) × JudgedSoFar broken left (drop start written)
AreJudged broken left written start (f ∷ fs) = (start ≤ f.start) × Judged f.broken (slice_range written start f.start) × AreJudged broken left written f.start fs

-- the same of a body, and nothing of an entity value
abbrev pub IsJudged : Manner → Bool → ℕ → List ℕ → List Frame → Type 0
IsJudged Literal broken left written frames = Unit {0}
IsJudged Body broken left written frames = AreJudged broken left written 0 frames

-- what a work keeps of nesting
unfoldable pub Judges : Manner → Work → Type 0
Judges manner w = IsJudged manner w.broken (length w.text.now - w.at) w.written w.frames.items
