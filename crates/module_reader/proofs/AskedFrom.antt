-- Which files the reading of an entry asks the store for.
use Rattle.std.proofs.Common.{◌≡◌, ◌∙◌, ◌≤◌, ℕ, List, [], ◌∷◌, ◌++◌, length, bytes_eq, None, Some, slice_get, Result, Ok, Err, OnOk, IfSome, refl, sym, ap, subst, arith, inl, inr, append_assoc}
use Rattle.std.specs.Prelude.{◌⊎◌, Option}
use Rattle.std.specs.List.{IsDistinct}
use Rattle.std.specs.Map.{keys_of}
use Rattle.std.specs.Result.{IsErrAnd}
use Rattle.dtd_scanner.specs.Walk.{◌>>=◌}
use Rattle.jats_fault.specs.declared.fault.Fault.{Fault}
use Rattle.module_reader.specs.AskedFor.{AreOnce, AsksAll, AsksFor, AsksFrom, AsksOne, AsksSome, AsksUntil, FromEntry}
use Rattle.module_reader.specs.Endings.{LoadFailed, as_read}
use Rattle.module_reader.specs.Frames.{from, text_found}
use Rattle.module_reader.specs.Loading.{IsModule, LoadsModule}
use Rattle.module_reader.specs.Outcomes as outer
use Rattle.module_reader.specs.Reading.{module_read}
use Rattle.module_reader.specs.Sets.{read_from}
use Rattle.module_reader.specs.Sources.{Files, Source, module_of, started}
use Rattle.module_reader.specs.Stops.{module_text}
use Rattle.module_reader.specs.declared.faults.ReadFault.{ReadFault}
use Rattle.module_reader.specs.declared.refusals.Stop.{Stop}
use Rattle.module_reader.specs.declared.refusals.Stop.TheVariants as fault
use Rattle.module_reader.specs.declared.standing.Standing.{Standing}
use Rattle.module_reader.specs.declared.state.State.{State}
use Rattle.module_reader.proofs.AskedFor.{asked_nothing, asked_stop, never_by}
use Rattle.module_reader.proofs.Entry.{module_from}

-- ---- the text of the entry

-- a reading whose set is judged
pub some_judged : {T : Type 0} (s t : State) {before now : List (List ℕ)} (r : Result T Stop) → (LoadFailed r → ⊥) → AsksFor s.modules t.modules before now → AsksSome s.modules before now r
some_judged s t (Ok x) never asks = (t.modules, asks)
some_judged {T = T} s t (Err f) never asks = (t.modules, asked_stop t.modules f (never_by T f never) asks)

-- want of memory is no load that failed
pub memory_never : {T : Type 0} (r : Result T Stop) → IsErrAnd r (λ e. e ≡ fault.NoMemory) → LoadFailed r → ⊥
memory_never (Ok x) none failed = failed
memory_never {T = T} (Err f) is failed = (let P : Stop → Type 0 = λ f. LoadFailed {T = T} (Err f) in subst P is failed)

-- the state that it ends in
pub all_read : {T : Type 0} (holds : Option Files) (source : Files → Source) (name : List ℕ) (s t : State) (text : List ℕ) (c : Standing) {before now : List (List ℕ)} (r : Result T Stop) → c ≡ module_text name
    → IfSome holds (λ files. from (source files) (record { text = text; names = []; standing = c; at = 0; sections = [] }) s ≡ Ok t) → AsksFor s.modules t.modules before now
    → IfSome holds (λ files. OnOk r ((t : State) × (module_read (source files) name s text ≡ Ok t) × AsksFor s.modules t.modules before now))
all_read None source name s t text c r same reads asks = tt
all_read (Some files) source name s t text c (Err f) same reads asks = tt
all_read (Some files) source name s t text c (Ok x) same reads asks =
    (t, module_from (source files) name s text ∙ ap (λ (c : Standing). from (source files) (record { text = text; names = []; standing = c; at = 0; sections = [] }) s) (sym same) ∙ reads, asks)

-- ---- the entry

none_once : AreOnce []
unfolding IsDistinct
none_once = record { distinct = tt; few = omega arith }

one_once : (name : List ℕ) → AreOnce (name ∷ [])
unfolding IsDistinct
one_once name = record { distinct = (tt, tt); few = omega arith }

-- it is not loaded
pub from_unloaded : (T X : Type 0) (s : State) (before now : List (List ℕ)) (name : List ℕ) (f : Stop) → s ≡ started → AsksOne {T = X} s.modules before now name (Err f) → AsksFrom {T = T} before now name (Err f)
from_unloaded T X s before now name (fault.Refused refusal) is (inl asked) = ([], asked, one_once name)
from_unloaded T X s before now name (fault.Refused refusal) is (inr (asked, full)) = absurd (omega (arith, full, ap (λ (t : State). length t.modules) is))
from_unloaded T X s before now name fault.LoadFailed is asked = ([], asked, one_once name)
from_unloaded T X s before now name fault.NoMemory is (inl asked) = inl ([], asked, one_once name)
from_unloaded T X s before now name fault.NoMemory is (inr asked) = inr asked

-- it is the first module
first_key : (modules : Files) (number : ℕ) (name : List ℕ) → number ≡ 0 → IsModule modules number name → (rest : List (List ℕ)) × (keys_of modules ≡ name ∷ rest)
first_key [] number name zero (text, at) = cc
first_key (m ∷ ms) number name zero (text, at) =
    let there : slice_get (m ∷ ms) 0 ≡ Some (name, text) = ap (λ (n : ℕ). slice_get (m ∷ ms) n) (sym zero) ∙ at in
    let same : m ≡ (name, text) = cc in
    (keys_of ms, ap (λ (m : List ℕ × List ℕ). m.0 ∷ keys_of ms) same)

from_first : (keys rest : List (List ℕ)) (before half now more : List (List ℕ)) (name : List ℕ) → keys ≡ name ∷ rest → half ≡ before ++ keys → now ≡ half ++ more → AreOnce (keys ++ more) → FromEntry before now name
from_first keys rest before half now more name is first second once =
    let all : keys ++ more ≡ name ∷ (rest ++ more) = ap (λ (ns : List (List ℕ)). ns ++ more) is in
    (rest ++ more, second ∙ ap (λ ns. ns ++ more) first ∙ append_assoc before keys more ∙ ap (λ ns. before ++ ns) all, subst AreOnce all once)

module _ (s u : State) (before half now : List (List ℕ)) (name : List ℕ) (number : ℕ) (is : s ≡ started) (within : number ≤ length s.modules) (at : IsModule u.modules number name) (first : AsksFor s.modules u.modules before half) where
  none_yet : keys_of s.modules ≡ []
  none_yet = ap (λ (t : State). keys_of t.modules) is

  asked_first : half ≡ before ++ keys_of u.modules
  asked_first = first.asked ∙ ap (λ ns. before ++ ns) (sym (first.modules ∙ ap (λ ns. ns ++ first.added) none_yet))

  once_first : AreOnce (keys_of u.modules)
  once_first = first.once (subst AreOnce (sym none_yet) none_once)

  key : (rest : List (List ℕ)) × (keys_of u.modules ≡ name ∷ rest)
  key = first_key u.modules number name (omega (arith, within, ap (λ (t : State). length t.modules) is)) at

  -- and then its text is read
  pub from_loaded : {T : Type 0} (r : Result T Stop) → AsksSome u.modules half now r → AsksFrom before now name r
  from_loaded {T = T} (Ok x) (new, asks) = from_first (keys_of u.modules) key.0 before half now asks.added name key.1 asked_first asks.asked (subst AreOnce asks.modules (asks.once once_first))
  from_loaded {T = T} (Err f) (new, asks) = by T f (from_first (keys_of u.modules) key.0 before half now asks.more name key.1 asked_first asks.asked (asks.once once_first))
    where
      by : (T : Type 0) (f : Stop) → FromEntry before now name → AsksFrom {T = T} before now name (Err f)
      by T (fault.Refused refusal) asked = asked
      by T fault.LoadFailed asked = asked
      by T fault.NoMemory asked = inl asked

  -- up to the end
  pub all_loaded : {T : Type 0} (held later : Option Files) (source : Files → Source) (r : Result T Stop) → later ≡ held → IfSome held (λ files. LoadsModule (module_of (source files) s name) u name (Ok number))
      → IfSome later (λ files. OnOk r ((t : State) × (module_read (source files) name u (text_found (slice_get u.modules 0)) ≡ Ok t) × AsksFor u.modules t.modules half now))
      → IfSome held (λ files. OnOk r (AsksAll (read_from (source files) name) before now))
  unfolding read_from
  all_loaded None later source r same loads reads = tt
  all_loaded (Some files) later source (Err f) same loads reads = tt
  all_loaded (Some files) later source (Ok x) same loads reads =
      let P : Option Files → Type 0 = λ holds. IfSome holds (λ files. (t : State) × (module_read (source files) name u (text_found (slice_get u.modules 0)) ≡ Ok t) × AsksFor u.modules t.modules half now) in
      by (subst P same reads)
    where
      by : ((t : State) × (module_read (source files) name u (text_found (slice_get u.modules 0)) ≡ Ok t) × AsksFor u.modules t.modules half now) → AsksAll (read_from (source files) name) before now
      by (t, read, asks) =
          let zero : number ≡ 0 = omega (arith, within, ap (λ (t : State). length t.modules) is) in
          let text : text_found (slice_get u.modules 0) ≡ loads.0 = ap (λ (k : ℕ). text_found (slice_get u.modules k)) (sym zero) ∙ ap text_found loads.2 in
          let said : module_of (source files) started name ≡ Ok (u, loads.0) = ap (λ (t : State). module_of (source files) t name) (sym is) ∙ loads.1 in
          let ends : read_from (source files) name ≡ Ok t = ap (λ (o : Result (State × List ℕ) Fault). o >>= λ r. module_read (source files) name r.0 r.1) said ∙ ap (module_read (source files) name u) (sym text) ∙ read in
          (t, ends, asks.asked ∙ ap (λ ns. ns ++ asks.added) asked_first ∙ append_assoc before (keys_of u.modules) asks.added ∙ ap (λ ns. before ++ ns) (sym asks.modules))

-- ---- as it is handed out

from_same : (T : Type 0) (before now : List (List ℕ)) (name : List ℕ) (s : Stop) → AsksFrom {T = T} before now name (Err s) → outer.AsksFrom {T = T} before now name (Err (as_read s))
from_same T before now name (fault.Refused refusal) h = h
from_same T before now name fault.LoadFailed h = h
from_same T before now name fault.NoMemory h = h

pub from_handed : (T : Type 0) (before now : List (List ℕ)) (name : List ℕ) (s : Stop) (f : ReadFault) → f ≡ as_read s → AsksFrom {T = T} before now name (Err s) → outer.AsksFrom {T = T} before now name (Err f)
from_handed T before now name s f is asks = (let P : ReadFault → Type 0 = λ f. outer.AsksFrom {T = T} before now name (Err f) in subst P (sym is) (from_same T before now name s asks))
