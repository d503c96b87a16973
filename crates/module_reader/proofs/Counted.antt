-- What the opening of a text counts.
use Rattle.std.proofs.Common.{◌≡◌, ◌∙◌, ℕ, ◌+◌, ◌<◌, ◌≤◌, List, length, Ok, Err, Some, None, Bool, true, false, refl, sym, ap, arith, nat_lt, cond}
use Rattle.std.specs.Prelude.{Option, Result}
use Rattle.std.proofs.lemmas.Bool.Decides.{nat_tests}
use Rattle.pe_expansion.specs.Bound.{Bound, text_bound, text_in}
use Rattle.pe_expansion.specs.Opening.{opening, opened, loaded, counted, is_open, most_open, most_included}
use Rattle.pe_expansion.specs.declared.bindings.PeText.{PeText}
use Rattle.pe_expansion.specs.declared.faults.PeFault.{PeFault}
use Rattle.pe_expansion.specs.declared.faults.PeFault.TheVariants.{RecursivePe, EntityTooDeep, ExpansionOver}

abbrev Fits : List (List ℕ) → ℕ → List ℕ → ℕ → Type 0
Fits names spent text n = (n ≡ spent + length text) × (n ≤ 67108864) × (length names < 32)

pub opening_counts : (bound : Bound) (names : List (List ℕ)) (spent : ℕ) (name text : List ℕ) (n : ℕ) → opening bound names spent name ≡ Ok (text, n)
    → (n ≡ spent + length text) × (n ≤ 67108864) × (length names < 32)
unfolding opening
opening_counts bound names spent name text n is = by (text_bound bound name) is
  where
    fits : (t : List ℕ) → length names < 32 → (over : Bool) → nat_lt most_included (spent + length t) ≡ over → cond {A = Result (List ℕ × ℕ) PeFault} over (Err (ExpansionOver name)) (Ok (t, spent + length t)) ≡ Ok (text, n) → Fits names spent text n
    fits t room true e is = absurd cc
    fits t room false e is =
        let same : (t, spent + length t) ≡ (text, n) = cc in
        let one : t ≡ text = ap (λ (p : List ℕ × ℕ). p.0) same in
        let two : spent + length t ≡ n = ap (λ (p : List ℕ × ℕ). p.1) same in
        let within : spent + length t ≤ 67108864 = grind (arith, nat_tests) in
        (sym two ∙ ap (λ (x : List ℕ). spent + length x) one, rw (← two) within, room)

    there : length names < 32 → (o : Option (List ℕ)) → loaded name spent o ≡ Ok (text, n) → Fits names spent text n
    there room None is = absurd cc
    there room (Some t) is = fits t room (nat_lt most_included (spent + length t)) refl is

    deep : (entity : PeText) (within : Bool) → nat_lt (length names) most_open ≡ within → (again : Bool)
        → cond {A = Result (List ℕ × ℕ) PeFault} again (Err (RecursivePe name)) (cond within (loaded name spent (text_in entity)) (Err (EntityTooDeep name))) ≡ Ok (text, n) → Fits names spent text n
    deep entity within e true is = absurd cc
    deep entity true e false is = let room : length names < 32 = grind (arith, nat_tests) in there room (text_in entity) is
    deep entity false e false is = absurd cc

    by : (o : Option PeText) → opened names spent name o ≡ Ok (text, n) → Fits names spent text n
    by None is = absurd cc
    by (Some entity) is = deep entity (nat_lt (length names) most_open) refl (is_open names name) is
