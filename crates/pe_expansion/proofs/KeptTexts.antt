-- Texts that stay while others are loaded.
use Rattle.std.proofs.Common.{◌≡◌, ◌∙◌, ℕ, zero, suc, List, [], ◌∷◌, length, Bool, true, false, cond, Option, Some, None, Result, Ok, Err, bytes_eq, nat_lt, option_map, option_and_then, refl, sym, ap, slice_get}
use Rattle.std.specs.Map.{lookup}
use Rattle.pe_expansion.specs.Bound.{Bound, Keeps, given_text, loaded_at, text_bound, text_in, text_named, with_outer}
use Rattle.pe_expansion.specs.Opening.{opening, opened, loaded, counted, is_open, most_open}
use Rattle.pe_expansion.specs.declared.bindings.PeText.{PeText}
use Rattle.pe_expansion.specs.declared.faults.PeFault.{PeFault}
use Rattle.pe_expansion.specs.declared.faults.PeFault.TheVariants.{RecursivePe, EntityTooDeep}

pub keeps_same : (bound : Bound) → Keeps bound bound
keeps_same bound = record { names = λ name text is. is; places = λ k name text is. is }

pub keeps_further : (first second third : Bound) → Keeps first second → Keeps second third → Keeps first third
keeps_further first second third a b = record {
  names = λ name text is. b.names name text (a.names name text is);
  places = λ k name text is. b.places k name text (a.places k name text is);
}

-- ---- a text that is given to an entity without one

places_given : (bound : Bound) (name text : List ℕ) → text_named bound name ≡ None → (k : ℕ) (n t : List ℕ) → loaded_at bound k ≡ Some (n, t) → loaded_at (with_outer bound name text) k ≡ Some (n, t)
places_given [] name text none k n t is = is
places_given (b ∷ bs) name text none k n t is = by (bytes_eq name b.0) none k is (places_given bs name text)
  where
    by : (same : Bool) → option_and_then text_in (cond same (Some b.1) (lookup (bytes_eq name) bs)) ≡ None → (k : ℕ) → loaded_at (b ∷ bs) k ≡ Some (n, t)
        → (text_named bs name ≡ None → (k : ℕ) (n t : List ℕ) → loaded_at bs k ≡ Some (n, t) → loaded_at (with_outer bs name text) k ≡ Some (n, t))
        → loaded_at (cond same ((b.0, given_text text b.1) ∷ bs) (b ∷ with_outer bs name text)) k ≡ Some (n, t)
    by true none zero is later = let both : option_map (λ t. (b.0, t)) (text_in b.1) ≡ None = rw none in absurd (let no : None ≡ Some (n, t) = sym both ∙ is in cc)
    by true none (suc k) is later = is
    by false none zero is later = is
    by false none (suc k) is later = later none k n t is

-- the first entity is given a text, and had none
first_given : (e given : PeText) (t : List ℕ) (here : Bool) (rest : Option PeText) → text_in e ≡ None → option_and_then text_in (cond here (Some e) rest) ≡ Some t → option_and_then text_in (cond here (Some given) rest) ≡ Some t
first_given e given t true rest none is = absurd (let no : None ≡ Some t = sym none ∙ is in cc)
first_given e given t false rest none is = is

-- a later one is
later_given : (e : PeText) (t : List ℕ) (here : Bool) (rest given : Option PeText) → (option_and_then text_in rest ≡ Some t → option_and_then text_in given ≡ Some t)
    → option_and_then text_in (cond here (Some e) rest) ≡ Some t → option_and_then text_in (cond here (Some e) given) ≡ Some t
later_given e t true rest given later is = is
later_given e t false rest given later is = later is

names_given : (bound : Bound) (name text : List ℕ) → text_named bound name ≡ None → (n t : List ℕ) → text_named bound n ≡ Some t → text_named (with_outer bound name text) n ≡ Some t
names_given [] name text none n t is = is
names_given (b ∷ bs) name text none n t is = by (bytes_eq name b.0) none (λ h. names_given bs name text h n t)
  where
    by : (same : Bool) → option_and_then text_in (cond same (Some b.1) (lookup (bytes_eq name) bs)) ≡ None → (text_named bs name ≡ None → text_named bs n ≡ Some t → text_named (with_outer bs name text) n ≡ Some t)
        → text_named (cond same ((b.0, given_text text b.1) ∷ bs) (b ∷ with_outer bs name text)) n ≡ Some t
    by true none later = first_given b.1 (given_text text b.1) t (bytes_eq n b.0) (lookup (bytes_eq n) bs) none is
    by false none later = later_given b.1 t (bytes_eq n b.0) (lookup (bytes_eq n) bs) (lookup (bytes_eq n) (with_outer bs name text)) (later none) is

pub outer_keeps : (bound : Bound) (name text : List ℕ) → text_named bound name ≡ None → Keeps bound (with_outer bound name text)
outer_keeps bound name text none = record { names = names_given bound name text none; places = places_given bound name text none }

-- ---- a name that opens does so with the same text

ready : (name : List ℕ) (spent : ℕ) (t : List ℕ × ℕ) (again within : Bool) (o : Option (List ℕ)) → cond {A = Result (List ℕ × ℕ) PeFault} again (Err (RecursivePe name)) (cond within (loaded name spent o) (Err (EntityTooDeep name))) ≡ Ok t
    → (again ≡ false) × (within ≡ true) × ((text : List ℕ) × (o ≡ Some text) × (counted name spent text ≡ Ok t))
ready name spent t true within o is = absurd cc
ready name spent t false false o is = absurd cc
ready name spent t false true None is = absurd cc
ready name spent t false true (Some text) is = (refl, refl, (text, refl, is))

there : (o : Option PeText) (text : List ℕ) → option_and_then text_in o ≡ Some text → (e : PeText) × (o ≡ Some e) × (text_in e ≡ Some text)
there None text is = absurd cc
there (Some e) text is = (e, refl, is)

opens : (names : List (List ℕ)) (spent : ℕ) (name : List ℕ) (t : List ℕ × ℕ) (text : List ℕ) (e : PeText) → is_open names name ≡ false → nat_lt (length names) most_open ≡ true → text_in e ≡ Some text → counted name spent text ≡ Ok t → opened names spent name (Some e) ≡ Ok t
opens names spent name t text e shut room has counts = rw (shut, room, has) counts

opened_stays : (names : List (List ℕ)) (spent : ℕ) (name : List ℕ) (t : List ℕ × ℕ) (o later : Option PeText) → ((text : List ℕ) → option_and_then text_in o ≡ Some text → option_and_then text_in later ≡ Some text)
    → opened names spent name o ≡ Ok t → opened names spent name later ≡ Ok t
opened_stays names spent name t None later keeps is = absurd cc
opened_stays names spent name t (Some e) later keeps is =
    let r = ready name spent t (is_open names name) (nat_lt (length names) most_open) (text_in e) is in
    let h = there later r.2.0 (keeps r.2.0 r.2.1) in
    rw h.1 (opens names spent name t r.2.0 h.0 r.0 r.1 h.2 r.2.2)

pub opening_stays : (bound later : Bound) (names : List (List ℕ)) (spent : ℕ) (name : List ℕ) (t : List ℕ × ℕ) → Keeps bound later → opening bound names spent name ≡ Ok t → opening later names spent name ≡ Ok t
unfolding opening
opening_stays bound later names spent name t keeps is = opened_stays names spent name t (text_bound bound name) (text_bound later name) (λ text has. keeps.names name text has) is
