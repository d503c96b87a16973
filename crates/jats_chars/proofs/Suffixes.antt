-- What is read of a declaration leaves an end of the text.
use Rattle.std.proofs.Common.{◌≡◌, ◌∙◌, ℕ, suc, ◌+◌, ◌-◌, ◌<◌, ◌≤◌, Bool, true, false, cond, List, [], ◌∷◌, length, take, drop, Some, None, Ok, Err, refl, sym, ap, subst, arith, codes, ⊎_elim, length-drop}
use Rattle.std.specs.Prelude.{Option, Result, ◌==◌, position}
use Rattle.std.specs.Option.{option_map}
use Rattle.std.proofs.lemmas.List.{drop_all, drop-drop}
use Rattle.std.proofs.lemmas.Bool.{cases_lt as lt_or_ge}
use Rattle.jats_chars.specs.TextDeclaration.{Valued, after_space, begins_space, after_some_space, after_word, then_read, after_eq, before_quote, quoted, part, or_none, optional_part, inside_declaration, declaration, begins_declaration, is_utf8}
use Rattle.jats_chars.specs.Decoded.{text_behind, without_declaration}
use Rattle.jats_chars.specs.declared.decoding.DecodeFault.{DecodeFault}

-- the first is an end of the second
pub record Ends (rest text : List ℕ) : Type 0 where
  pub dropped : ℕ
  pub is : rest ≡ drop dropped text

pub ends_self : (text : List ℕ) → Ends text text
ends_self text = record { dropped = 0; is = refl }

pub ends_trans : (a b t : List ℕ) → Ends a b → Ends b t → Ends a t
ends_trans a b t p q = record { dropped = q.dropped + p.dropped; is = p.is ∙ ap (drop p.dropped) q.is ∙ drop-drop p.dropped q.dropped t }

-- an end by its length
pub by_length : (rest text : List ℕ) → Ends rest text → (length rest ≤ length text) × (rest ≡ drop (length text - length rest) text)
by_length rest text e =
    let long : length rest ≡ length text - e.dropped = ap length e.is ∙ length-drop e.dropped text in (
      omega arith,
      ⊎_elim
          (λ (few : e.dropped < length text). e.is ∙ ap (λ n. drop n text) (omega arith))
          (λ (more : length text ≤ e.dropped). e.is ∙ drop_all e.dropped text more ∙ sym (drop_all (length text - length rest) text (omega arith)))
          (lt_or_ge e.dropped (length text)),
    )

-- an end, where there is one
abbrev pub EndsIf : Option (List ℕ) → List ℕ → Type 0
EndsIf None text = Unit {0}
EndsIf (Some rest) text = Ends rest text

abbrev pub EndsBehind : {A : Type 0} → Option (Valued A) → List ℕ → Type 0
EndsBehind None text = Unit {0}
EndsBehind (Some read) text = Ends read.1 text

if_ends : (b : Bool) (rest text : List ℕ) → Ends rest text → EndsIf (cond b (Some rest) None) text
if_ends true rest text e = e
if_ends false rest text e = tt

map_ends : (f : List ℕ → List ℕ) (o : Option (List ℕ)) (text : List ℕ) → ((t : List ℕ) → Ends (f t) t) → EndsIf o text → EndsIf (option_map f o) text
map_ends f None text h e = tt
map_ends f (Some rest) text h e = ends_trans (f rest) rest text (h rest) e

further : (o : Option (List ℕ)) (mid text : List ℕ) → Ends mid text → EndsIf o mid → EndsIf o text
further None mid text e h = tt
further (Some rest) mid text e h = ends_trans rest mid text h e

then_ends : (o : Option (List ℕ)) (next : List ℕ → Option (List ℕ)) (text : List ℕ) → EndsIf o text → ((mid : List ℕ) → EndsIf (next mid) mid) → EndsIf (then_read o next) text
then_ends None next text e h = tt
then_ends (Some mid) next text e h = further (next mid) mid text e (h mid)

further_behind : {A : Type 0} (o : Option (Valued A)) (mid text : List ℕ) → Ends mid text → EndsBehind o mid → EndsBehind o text
further_behind None mid text e h = tt
further_behind (Some read) mid text e h = ends_trans read.1 mid text h e

then_ends_behind : {A : Type 0} (o : Option (List ℕ)) (next : List ℕ → Option (Valued A)) (text : List ℕ) → EndsIf o text → ((mid : List ℕ) → EndsBehind (next mid) mid) → EndsBehind (then_read o next) text
then_ends_behind None next text e h = tt
then_ends_behind (Some mid) next text e h = further_behind (next mid) mid text e (h mid)

space_ends : (text : List ℕ) → Ends (after_space text) text
unfolding after_space
space_ends text = record { dropped = _; is = refl }

some_space_ends : (text : List ℕ) → EndsIf (after_some_space text) text
unfolding after_some_space
some_space_ends text = if_ends (begins_space text) (after_space text) text (space_ends text)

word_ends : (word text : List ℕ) → EndsIf (after_word word text) text
unfolding after_word
word_ends word text = if_ends _ (drop (length word) text) text (record { dropped = length word; is = refl })

eq_ends : (text : List ℕ) → EndsIf (after_eq text) text
unfolding after_eq
eq_ends text = map_ends after_space (after_word (codes "=") (after_space text)) text space_ends (further _ (after_space text) text (space_ends text) (word_ends (codes "=") (after_space text)))

place_ends : (o : Option ℕ) (c : ℕ) (text : List ℕ) → EndsBehind (option_map (λ (k : ℕ). (take k text, drop (k + 1) text)) o) (c ∷ text)
place_ends None c text = tt
place_ends (Some k) c text = record { dropped = suc (k + 1); is = refl }

if_quoted : (b : Bool) (c : ℕ) (text : List ℕ) → EndsBehind (cond b (before_quote c text) None) (c ∷ text)
if_quoted true c text = place_ends (position (λ x. x == c) text) c text
if_quoted false c text = tt

quoted_ends : (text : List ℕ) → EndsBehind (quoted text) text
unfolding quoted
quoted_ends [] = tt
quoted_ends (c ∷ text) = if_quoted _ c text

part_ends : (word text : List ℕ) → EndsBehind (part word text) text
unfolding part
part_ends word text =
    then_ends_behind (then_read (then_read (after_some_space text) (after_word word)) after_eq) quoted text
    (then_ends (then_read (after_some_space text) (after_word word)) after_eq text (then_ends (after_some_space text) (after_word word) text (some_space_ends text) (word_ends word)) eq_ends)
    quoted_ends

none_ends : (o : Option (Valued (List ℕ))) (text : List ℕ) → EndsBehind o text → Ends (or_none text o).1 text
none_ends None text h = ends_self text
none_ends (Some read) text h = h

optional_ends : (word text : List ℕ) → Ends (optional_part word text).1 text
unfolding optional_part
optional_ends word text = none_ends (part word text) text (part_ends word text)

pair_ends : (encoding : Option (List ℕ)) (o : Option (List ℕ)) (text : List ℕ) → EndsIf o text → EndsBehind (option_map (λ (rest : List ℕ). (encoding, rest)) o) text
pair_ends encoding None text h = tt
pair_ends encoding (Some rest) text h = h

if_behind : {A : Type 0} (b : Bool) (o : Option (Valued A)) (text : List ℕ) → EndsBehind o text → EndsBehind (cond b o None) text
if_behind true o text h = h
if_behind false o text h = tt

inside_ends : (text : List ℕ) → EndsBehind (inside_declaration text) text
unfolding inside_declaration
inside_ends text =
    let v = optional_part (codes "version") text in
    let e = optional_part (codes "encoding") v.1 in
    let s = optional_part (codes "standalone") e.1 in
    let left : Ends s.1 text = ends_trans s.1 e.1 text (optional_ends (codes "standalone") e.1) (ends_trans e.1 v.1 text (optional_ends (codes "encoding") v.1) (optional_ends (codes "version") text)) in
    if_behind _ (option_map (λ (rest : List ℕ). (e.0, rest)) (after_word (codes "?>") (after_space s.1))) text
    (pair_ends e.0 (after_word (codes "?>") (after_space s.1)) text
    (further _ (after_space s.1) text (ends_trans (after_space s.1) s.1 text (space_ends s.1) left) (word_ends (codes "?>") (after_space s.1))))

declaration_ends : (text : List ℕ) → EndsBehind (declaration text) text
unfolding declaration
declaration_ends text = then_ends_behind (after_word (codes "<?xml") text) inside_declaration text (word_ends (codes "<?xml") text) inside_ends

-- what is left of a text, where something is
abbrev pub EndsOk : Result (List ℕ) DecodeFault → List ℕ → Type 0
EndsOk (Ok rest) text = Ends rest text
EndsOk (Err f) text = Unit {0}

if_ok : (b : Bool) (r s : Result (List ℕ) DecodeFault) (text : List ℕ) → EndsOk r text → EndsOk s text → EndsOk (cond b r s) text
if_ok true r s text h k = h
if_ok false r s text h k = k

behind_ends : (o : Option (Valued (Option (List ℕ)))) (text : List ℕ) → EndsBehind o text → EndsOk (text_behind o) text
behind_ends None text h = tt
behind_ends (Some read) text h = if_ok (is_utf8 read.0) _ _ text h tt

without_ends : (text : List ℕ) → EndsOk (without_declaration text) text
unfolding without_declaration
without_ends text = if_ok (begins_declaration text) _ _ text (behind_ends (declaration text) text (declaration_ends text)) (ends_self text)

-- what is left of a text, by its length
pub left_of : (text rest : List ℕ) → without_declaration text ≡ Ok rest → (length rest ≤ length text) × (rest ≡ drop (length text - length rest) text)
left_of text rest is = let P : Result (List ℕ) DecodeFault → Type 0 = λ r. EndsOk r text in by_length rest text (subst P is (without_ends text))
