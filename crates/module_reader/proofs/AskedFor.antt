-- Which files a reading asks the store for: over several steps, and where a module is loaded.
use Rattle.std.proofs.Common.{◌≡◌, ◌∙◌, ◌≤◌, ◌<◌, ℕ, ◌+◌, List, [], ◌∷◌, ◌++◌, length, true, false, bytes_eq, is_some, None, Some, slice_get, Result, Ok, Err, refl, sym, ap, subst, arith, inl, inr, append_assoc, length-append}
use Rattle.std.specs.Prelude.{◌⊎◌, IfOk}
use Rattle.std.specs.List.{IsDistinct, list_any}
use Rattle.std.specs.Map.{keys_of, lookup}
use Rattle.std.proofs.lemmas.List.{append-nil, map-append}
use Rattle.std.proofs.lemmas.Map.Entries.{length-keys_of}
use Rattle.std.proofs.lemmas.Map.Made.{is_some-lookup}
use Rattle.std.proofs.lemmas.Cmp.{nat_list_eq_equiv}
use Rattle.std.proofs.lemmas.Map.Keys.{IsDistinct-push}
use Rattle.jats_fault.specs.declared.fault.Fault.{Fault}
use Rattle.module_reader.specs.AskedFor.{AreOnce, Asks, AsksFor, AsksOne, AsksUntil, EndsAt}
use Rattle.module_reader.specs.Endings.{LoadFailed, Refuses}
use Rattle.module_reader.specs.Loading.{Adds, IsModule}
use Rattle.module_reader.specs.Sources.{Files, given}
use Rattle.module_reader.specs.declared.refusals.Stop.{Stop}
use Rattle.module_reader.specs.declared.refusals.Stop.TheVariants as fault
use Rattle.module_reader.specs.declared.state.State.{State}

-- ---- steps

-- nothing was asked for
pub asked_nothing : (modules : Files) (before : List (List ℕ)) → AsksFor modules modules before before
asked_nothing modules before = record { added = []; modules = sym (append-nil (keys_of modules)); asked = sym (append-nil before); once = λ once. once }

module _ {old mid new : Files} {before half now : List (List ℕ)} where
  -- a step, and one that goes on
  pub asked_on : AsksFor old mid before half → AsksFor mid new half now → AsksFor old new before now
  asked_on first second = record {
    added = first.added ++ second.added;
    modules = second.modules ∙ ap (λ ns. ns ++ second.added) first.modules ∙ append_assoc (keys_of old) first.added second.added;
    asked = second.asked ∙ ap (λ ns. ns ++ second.added) first.asked ∙ append_assoc before first.added second.added;
    once = λ once. second.once (first.once once);
  }

  -- a step, and one that stops
  pub asked_until : {f : Stop} → AsksFor old mid before half → AsksUntil mid new half now f → AsksUntil old new before now f
  asked_until {f = f} first second =
      let same : keys_of mid ++ second.more ≡ keys_of old ++ (first.added ++ second.more) = ap (λ ns. ns ++ second.more) first.modules ∙ append_assoc (keys_of old) first.added second.more in
      record {
        more = first.added ++ second.more;
        asked = second.asked ∙ ap (λ ns. ns ++ second.more) first.asked ∙ append_assoc before first.added second.more;
        once = λ once. subst AreOnce same (second.once (first.once once));
        ends = subst (λ (ns : List (List ℕ)). EndsAt ns (keys_of new) f) same second.ends;
      }

-- a step, and any
pub asked_then : {old mid : Files} {before half : List (List ℕ)} {T : Type 0} (new : Files) (now : List (List ℕ)) (r : Result T Stop) → AsksFor old mid before half → Asks mid new half now r → Asks old new before now r
asked_then new now (Ok x) first second = asked_on first second
asked_then new now (Err f) first second = asked_until first second

-- ---- stops that are no failed load

pub never_by : (T : Type 0) (f : Stop) → (LoadFailed {T = T} (Err f) → ⊥) → LoadFailed {T = Unit {0}} (Err f) → ⊥
never_by T (fault.Refused refusal) never failed = never failed
never_by T fault.LoadFailed never failed = never failed
never_by T fault.NoMemory never failed = never failed

module _ {old mid : Files} (new : Files) {before now : List (List ℕ)} where
  pub asked_stop : (f : Stop) → (LoadFailed {T = Unit {0}} (Err f) → ⊥) → AsksFor old mid before now → AsksUntil old new before now f
  asked_stop f never asks = record { more = asks.added; asked = asks.asked; once = λ once. subst AreOnce asks.modules (asks.once once); ends = by f never }
    where
      by : (f : Stop) → (LoadFailed {T = Unit {0}} (Err f) → ⊥) → EndsAt (keys_of old ++ asks.added) (keys_of new) f
      by (fault.Refused refusal) never = tt
      by fault.LoadFailed never = absurd (never tt)
      by fault.NoMemory never = tt

  pub asked_memory : AsksFor old mid before now → AsksUntil old new before now fault.NoMemory
  asked_memory asks = asked_stop fault.NoMemory (λ never. never) asks

  -- what loads nothing and keeps the modules
  pub asked_alone : {T : Type 0} (r : Result T Stop) → (LoadFailed r → ⊥) → new ≡ mid → AsksFor old mid before now → Asks old new before now r
  asked_alone (Ok x) never same asks = subst (λ (ms : Files). AsksFor old ms before now) (sym same) asks
  asked_alone {T = T} (Err f) never same asks = asked_stop f (never_by T f never) asks

-- ---- a module that is not loaded

module _ (modules : Files) (before : List (List ℕ)) (name : List ℕ) (none : lookup (bytes_eq name) modules ≡ None) (few : length modules < 1024) where
  once_more : AreOnce (keys_of modules) → AreOnce (keys_of modules ++ name ∷ [])
  once_more once = record {
    distinct = IsDistinct-push nat_list_eq_equiv (keys_of modules) name once.distinct (sym (is_some-lookup (bytes_eq name) modules) ∙ ap is_some none);
    few = omega (arith, few, length-keys_of modules, length-append (keys_of modules) (name ∷ []));
  }

  pub asked_new : (now : List (List ℕ)) (text : List ℕ) → now ≡ before ++ name ∷ [] → AsksFor modules (modules ++ (name, text) ∷ []) before now
  asked_new now text is =
      let keys : keys_of (modules ++ (name, text) ∷ []) ≡ keys_of modules ++ name ∷ [] = map-append (λ (m : List ℕ × List ℕ). m.0) modules ((name, text) ∷ []) in
      record { added = name ∷ []; modules = keys; asked = is; once = λ once. subst AreOnce (sym keys) (once_more once) }

  pub asked_last : (new : Files) (now : List (List ℕ)) (f : Stop) → (LoadFailed {T = Unit {0}} (Err f) → new ≡ modules) → now ≡ before ++ name ∷ [] → AsksUntil modules new before now f
  asked_last new now f same is = record { more = name ∷ []; asked = is; once = once_more; ends = by f same }
    where
      by : (f : Stop) → (LoadFailed {T = Unit {0}} (Err f) → new ≡ modules) → EndsAt (keys_of modules ++ name ∷ []) (keys_of new) f
      by (fault.Refused refusal) same = tt
      by fault.LoadFailed same = (name, ap (λ (ms : Files). keys_of ms ++ name ∷ []) (sym (same tt)))
      by fault.NoMemory same = tt

  pub asked_refused : (new : Files) (now : List (List ℕ)) (said : Fault) (f : Stop) → Refuses said f → now ≡ before ++ name ∷ [] → AsksUntil modules new before now f
  asked_refused new now said (fault.Refused refusal) refuses is = asked_last new now (fault.Refused refusal) (λ never. absurd never) is
  asked_refused new now said fault.LoadFailed refuses is = absurd refuses
  asked_refused new now said fault.NoMemory refuses is = asked_last new now fault.NoMemory (λ never. absurd never) is

  pub asked_or_not : (new : Files) (now : List (List ℕ)) → (now ≡ before ++ name ∷ []) ⊎ (now ≡ before) → AsksUntil modules new before now fault.NoMemory
  asked_or_not new now (inl is) = asked_last new now fault.NoMemory (λ never. absurd never) is
  asked_or_not new now (inr is) = subst (λ (asked : List (List ℕ)). AsksUntil modules new before asked fault.NoMemory) (sym is) (asked_memory new (asked_nothing modules before))

  -- a load that gave bytes, of which a module is made
  pub asked_added : (old new : State) (now : List (List ℕ)) (r : Result ℕ Stop) → old.modules ≡ modules → IfOk r (λ k. Adds old new name k) → (LoadFailed r → ⊥) → now ≡ before ++ name ∷ [] → Asks modules new.modules before now r
  asked_added old new now (Ok k) same adds never is =
      let e : new.modules ≡ modules ++ (name, adds.0) ∷ [] = ap (λ (s : State). s.modules) adds.3 ∙ ap (λ (ms : Files). ms ++ (name, adds.0) ∷ []) same in
      subst (λ (ms : Files). AsksFor modules ms before now) (sym e) (asked_new now adds.0 is)
  asked_added old new now (Err f) same adds never is = asked_last new.modules now f (λ failed. absurd (never_by ℕ f never failed)) is

-- ---- a text that is given

pub asked_given : (old s new : State) (file name : List ℕ) (number : ℕ) {before now : List (List ℕ)} → IsModule s.modules number file → ((f t : List ℕ) → slice_get s.modules number ≡ Some (f, t) → new ≡ given name (s, t))
    → AsksFor old.modules s.modules before now → AsksFor old.modules new.modules before now
asked_given old s new file name number {before} {now} is gives asks = subst (λ (t : State). AsksFor old.modules t.modules before now) (sym (gives file is.0 is.1)) asks
