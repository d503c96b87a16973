-- What the functions that read give, by places in the text.
use Rattle.std.specs.Prelude.{◌≡◌, ℕ, ◌≤◌, ◌<◌, List, length, drop, Option, option_map, Result, IfOk, IfSome}
use Rattle.jats_chars.specs.declared.NoMemory.{NoMemory}
use Rattle.content_models.specs.declared.content.Particle.{Particle}
use Rattle.content_models.specs.declared.reading.Found.{Found}
use Rattle.content_models.specs.declared.reading.Parts.{Parts}
use Rattle.content_models.specs.declared.reading.Word.{Word}
use Rattle.content_models.specs.declared.reading.Words.{Words}
use Rattle.content_models.specs.Model.{Chars}
use Rattle.content_models.specs.Reading.{Read}

abbrev pub found_in : Chars → Found → Particle × Chars
found_in t f = (f.part, drop f.end t)

abbrev pub parts_in : Chars → Parts → List Particle × Chars
parts_in t f = (f.list, drop f.end t)

abbrev pub word_in : Chars → Word → Chars × Chars
word_in t f = (f.name, drop f.end t)

abbrev pub words_in : Chars → Words → List Chars × Chars
words_in t f = (f.list, drop f.end t)

-- with enough memory it is what the definition gives, and it ends in the text behind `at`
abbrev pub Gives : Chars → ℕ → Read Particle → Result (Option Found) NoMemory → Type 0
Gives t at e r = IfOk r (λ o. (option_map (found_in t) o ≡ e) × IfSome o (λ f. (at < f.end) × (f.end ≤ length t)))

abbrev pub GivesItems : Chars → ℕ → Read (List Particle) → Result (Option Parts) NoMemory → Type 0
GivesItems t at e r = IfOk r (λ o. (option_map (parts_in t) o ≡ e) × IfSome o (λ f. (at < f.end) × (f.end ≤ length t)))

abbrev pub GivesName : Chars → ℕ → Read Chars → Result (Option Word) NoMemory → Type 0
GivesName t at e r = IfOk r (λ o. (option_map (word_in t) o ≡ e) × IfSome o (λ f. (at < f.end) × (f.end ≤ length t)))

abbrev pub GivesNames : Chars → ℕ → Read (List Chars) → Result (Option Words) NoMemory → Type 0
GivesNames t at e r = IfOk r (λ o. (option_map (words_in t) o ≡ e) × IfSome o (λ f. (at < f.end) × (f.end ≤ length t)))
