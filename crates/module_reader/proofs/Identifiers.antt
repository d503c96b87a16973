-- Identifiers that are read from a body of Chars are as they are asked for.
use Rattle.std.proofs.Common.{◌≡◌, ◌∙◌, ℕ, zero, suc, ◌+◌, ◌-◌, ◌==◌, ◌&&◌, ◌||◌, List, [], ◌∷◌, take, drop, length, position, Bool, true, false, not, Option, Some, None, IfSome, option_map, option_and_then, refl, sym, ap, subst, bytes_eq, codes, map, arith, eqb, cond, true≢false, inl, inr}
use Rattle.std.specs.Prelude.{IsTrue, nat_lt, nat_eq, if◌then◌else◌}
use Rattle.std.specs.List.{list_all, list_any, prefix_len, starts_with, slice_split, onto_first, join_with_byte, position_or_len}
use Rattle.std.specs.Cmp.Derive.{both_true}
use Rattle.std.proofs.lemmas.Bool.{and_parts, or_cases, eqb-true, eq-eqb}
use Rattle.std.proofs.lemmas.List.Folds.{list_all-append}
use Rattle.jats_chars.specs.Classes.{is_char, is_pubid_char, is_space, is_name_char}
use Rattle.jats_chars.specs.Names.{is_name}
use Rattle.dtd_scanner.specs.Items.{first_is, is_quote}
use Rattle.text_fronts.specs.Fronts.{read_space, read_name, skipped, word, after_word, spaced_name, read_literal, literal_end, spaced_literal, is_blank}
use Rattle.entity_catalog.specs.Collapse.{collapse_public, public_words, is_public_space}
use Rattle.entity_catalog.proofs.Collapsed.{collapse_public-twice}
use Rattle.entity_catalog.proofs.Separated.{list_all-filter}
use Rattle.entity_catalog.specs.declared.ids.Ids.{Ids}
use Rattle.entity_catalog.specs.declared.ids.Ids.TheVariants.{System, Public, PublicOnly}
use Rattle.decl_set.specs.Asked.{are_chars, are_ids, are_entity_ids, is_system, is_public}
use Rattle.decl_set.proofs.ValueChars.{drop_all}
use Rattle.decl_set.proofs.ValueKeeping.{cond_some, map_some}
use Rattle.declaration_bodies.specs.declared.entities.RawDef.{RawDef}
use Rattle.declaration_bodies.specs.declared.entities.RawDef.TheVariants.{Value, External, Unparsed}
use Rattle.declaration_bodies.specs.declared.entities.RawEntity.{RawEntity}
use Rattle.module_reader.specs.OfChars.{IsOfChars}
use Rattle.declaration_bodies.specs.Entities.{is_entity_value, as_value, notation_named, read_ndata, as_external, read_def, with_def, entity_behind, entity_of}
use Rattle.declaration_bodies.specs.Identifiers.{as_system, as_public, spaced_public, with_system, read_system, read_ids, line_end}
use Rattle.declaration_bodies.specs.Notations.{public_ids, notation_ids, with_ids, notation_of, if_blank}
use Rattle.module_reader.proofs.ExpansionChars.{take_all}

abbrev pub IsChars : List ℕ → Type 0
IsChars text = IsTrue (are_chars text)

abbrev FrontIsChars : {X : Type 0} → X × List ℕ → Type 0
FrontIsChars x = IsChars x.1

-- ---- rests

skipped_chars : (t : List ℕ) → IsChars t → IsChars (skipped t)
unfolding skipped
skipped_chars t all = drop_all (prefix_len is_space t) t all

space_chars : (t : List ℕ) → IsChars t → IfSome (read_space t) IsChars
space_chars [] all = tt
space_chars (c ∷ cs) all = cond_some (is_space c) (Some (skipped cs)) None IsChars (λ is. skipped_chars cs (and_parts (is_char c) (are_chars cs) all).1) (λ is. tt)

after_chars : (t : List ℕ) → IsChars t → IsChars (after_word t)
unfolding after_word
after_chars t all = drop_all (prefix_len is_name_char t) t all

then_some : {A B : Type 0} (o : Option A) (f : A → Option B) (P : A → Type 0) (Q : B → Type 0) → IfSome o P → ((a : A) → P a → IfSome (f a) Q) → IfSome (option_and_then f o) Q
then_some None f P Q p keeps = tt
then_some (Some a) f P Q p keeps = keeps a p

abbrev RestIsChars : List ℕ × List ℕ → Type 0
RestIsChars x = IsChars x.1

name_chars : (t : List ℕ) → IsChars t → IfSome (read_name t) RestIsChars
name_chars t all = cond_some (is_name (word t)) (Some (word t, after_word t)) None RestIsChars (λ is. after_chars t all) (λ is. tt)

spaced_name_chars : (t : List ℕ) → IsChars t → IfSome (spaced_name t) RestIsChars
spaced_name_chars t all = then_some (read_space t) read_name IsChars RestIsChars (space_chars t all) name_chars

-- ---- literals

-- without one of the quotes
abbrev LacksQuote : List ℕ → Type 0
LacksQuote text = (list_any (λ c. c == 34) text && list_any (λ c. c == 39) text) ≡ false

record IsLiteral (x : List ℕ × List ℕ) : Type 0 where
  chars : IsChars x.0
  rest : IsChars x.1
  lacks : LacksQuote x.0

or_none : (a b : Bool) → a ≡ false → b ≡ false → (a || b) ≡ false
or_none true b e f = absurd (true≢false e)
or_none false b e f = f

front_step : (q c : ℕ) (cs : List ℕ) → list_any (λ c. c == q) (take (position_or_len (λ c. c == q) cs) cs) ≡ false → (b : Bool) → (c == q) ≡ b
    → list_any (λ c. c == q) (take (if not b then 1 + position_or_len (λ c. c == q) cs else 0) (c ∷ cs)) ≡ false
front_step q c cs h true e = refl
front_step q c cs h false e =
    let next : suc (position_or_len (λ c. c == q) cs) ≡ 1 + position_or_len (λ c. c == q) cs = omega arith in
    subst (λ n. list_any (λ c. c == q) (take n (c ∷ cs)) ≡ false) next (or_none (c == q) _ e h)

none_in_front : (q : ℕ) (t : List ℕ) → list_any (λ c. c == q) (take (position_or_len (λ c. c == q) t) t) ≡ false
none_in_front q [] = refl
none_in_front q (c ∷ cs) = front_step q c cs (none_in_front q cs) (c == q) refl

none_before : (q : ℕ) (t : List ℕ) → IfSome (position (λ c. c == q) t) (λ k. list_any (λ c. c == q) (take k t) ≡ false)
none_before q t =
    cond_some (nat_lt (position_or_len (λ c. c == q) t) (length t)) (Some (position_or_len (λ c. c == q) t)) None (λ k. list_any (λ c. c == q) (take k t) ≡ false) (λ is. none_in_front q t) (λ is. tt)

lacks_first : (a b : Bool) → a ≡ false → (a && b) ≡ false
lacks_first true b e = absurd (true≢false e)
lacks_first false b e = refl

lacks_second : (a b : Bool) → b ≡ false → (a && b) ≡ false
lacks_second true b e = e
lacks_second false b e = refl

lacks : (q : ℕ) (x : List ℕ) → is_quote q ≡ true → list_any (λ c. c == q) x ≡ false → LacksQuote x
lacks q x is none = elim (or_cases (q == 34) (q == 39) is) [
  | inl e ↦ lacks_first _ _ (subst (λ q. list_any (λ c. c == q) x ≡ false) (eqb-true q 34 e) none)
  | inr e ↦ lacks_second _ _ (subst (λ q. list_any (λ c. c == q) x ≡ false) (eqb-true q 39 e) none)
]

literal_is : (t : List ℕ) → IsChars t → IfSome (read_literal t) IsLiteral
unfolding read_literal
literal_is [] all = tt
literal_is (q ∷ t) all =
    let rest = (and_parts (is_char q) (are_chars t) all).1 in
    cond_some (is_quote q) _ None IsLiteral
    (λ is. map_some (literal_end t) (position (λ c. c == q) t) (λ k. list_any (λ c. c == q) (take k t) ≡ false) IsLiteral (none_before q t)
    (λ k none. record { chars = take_all k t rest; rest = drop_all (k + 1) t rest; lacks = lacks q (take k t) is none }))
    (λ is. tt)

spaced_literal_is : (t : List ℕ) → IsChars t → IfSome (spaced_literal t) IsLiteral
spaced_literal_is t all = then_some (read_space t) read_literal IsChars IsLiteral (space_chars t all) literal_is

-- ---- system identifiers

line_end_char : (c : ℕ) → is_char c ≡ true → is_char (line_end c) ≡ true
unfolding is_char
line_end_char c is = by (c == 13)
  where
    by : (b : Bool) → is_char (cond b 10 c) ≡ true
    by true = refl
    by false = is

line_end_cr : (c : ℕ) → (line_end c == 13) ≡ false
line_end_cr c = by (c == 13) refl
  where
    by : (b : Bool) → (c == 13) ≡ b → (cond b 10 c == 13) ≡ false
    by true e = refl
    by false e = e

line_end_quote : (q c : ℕ) → (13 == q) ≡ false → (10 == q) ≡ false → (line_end c == q) ≡ (c == q)
line_end_quote q c r l = by (c == 13) refl
  where
    by : (b : Bool) → (c == 13) ≡ b → (cond b 10 c == q) ≡ (c == q)
    by true e = l ∙ sym (subst (λ c. (c == q) ≡ false) (sym (eqb-true c 13 e)) r)
    by false e = refl

system_chars : (x : List ℕ) → IsChars x → IsChars (as_system x)
system_chars [] all = refl
system_chars (c ∷ cs) all = (let h = and_parts (is_char c) (are_chars cs) all in both_true (line_end_char c h.0) (system_chars cs h.1))

system_cr : (x : List ℕ) → list_any (λ c. c == 13) (as_system x) ≡ false
system_cr [] = refl
system_cr (c ∷ cs) = or_none _ _ (line_end_cr c) (system_cr cs)

system_quotes : (q : ℕ) (x : List ℕ) → (13 == q) ≡ false → (10 == q) ≡ false → list_any (λ c. c == q) (as_system x) ≡ list_any (λ c. c == q) x
system_quotes q [] r l = refl
system_quotes q (c ∷ cs) r l = both (line_end_quote q c r l) (system_quotes q cs r l)
  where
    both : {a b : Bool} {x y : Bool} → a ≡ b → x ≡ y → (a || x) ≡ (b || y)
    both e f = cc

not_false : (b : Bool) → b ≡ false → not b ≡ true
not_false true e = absurd (true≢false e)
not_false false e = refl

pub system_is : (x : List ℕ) → IsChars x → LacksQuote x → IsTrue (is_system (as_system x))
system_is x all none =
    let none' : (list_any (λ c. c == 34) (as_system x) && list_any (λ c. c == 39) (as_system x)) ≡ false = rw (system_quotes 34 x refl refl, system_quotes 39 x refl refl) none in
    both_true (system_chars x all) (both_true (not_false _ (system_cr x)) (not_false _ none'))

-- ---- public identifiers

filled : (p q : ℕ → Bool) (text : List ℕ) → list_all p text ≡ true → list_all (list_all p) (slice_split q text) ≡ true
filled p q [] all = refl
filled p q (x ∷ xs) all =
    let h = and_parts (p x) (list_all p xs) all in
    by (q x) (filled p q xs h.1) h.0
  where
    first : (parts : List (List ℕ)) → p x ≡ true → list_all (list_all p) parts ≡ true → list_all (list_all p) (onto_first x parts) ≡ true
    first [] e h = both_true (both_true e refl) refl
    first (part ∷ parts) e h = (let g = and_parts (list_all p part) _ h in both_true (both_true e g.0) g.1)

    by : (b : Bool) → list_all (list_all p) (slice_split q xs) ≡ true → p x ≡ true → list_all (list_all p) (cond b ([] ∷ slice_split q xs) (onto_first x (slice_split q xs))) ≡ true
    by true h e = h
    by false h e = first (slice_split q xs) e h

joined : (p : ℕ → Bool) (c : ℕ) (parts : List (List ℕ)) → p c ≡ true → list_all (list_all p) parts ≡ true → list_all p (join_with_byte c parts) ≡ true
joined p c [] e h = refl
joined p c (x ∷ []) e h = (and_parts (list_all p x) true h).0
joined p c (x ∷ y ∷ xs) e h =
    let g = and_parts (list_all p x) _ h in
    list_all-append p x (c ∷ join_with_byte c (y ∷ xs)) ∙ both_true g.0 (both_true e (joined p c (y ∷ xs) e g.1))

same_bytes : (x : List ℕ) → bytes_eq x x ≡ true
same_bytes [] = refl
same_bytes (c ∷ cs) = both_true (eq-eqb c c refl) (same_bytes cs)

pub public_is : (x : List ℕ) → list_all is_pubid_char x ≡ true → IsTrue (is_public (collapse_public x))
unfolding collapse_public is_pubid_char
public_is x all =
    both_true (joined is_pubid_char 32 (public_words x) refl (list_all-filter _ _ (slice_split is_public_space x) (filled is_pubid_char is_public_space x all)))
    (subst (λ t. bytes_eq t (collapse_public x) ≡ true) (sym (collapse_public-twice x)) (same_bytes (collapse_public x)))

-- ---- identifiers

pub record IsIdsRead (x : Ids × List ℕ) : Type 0 where
  pub ids : IsTrue (are_entity_ids x.0)
  rest : IsChars x.1

record IsPublicRead (x : List ℕ × List ℕ) : Type 0 where
  public : IsTrue (is_public x.0)
  rest : IsChars x.1

system_read : (t : List ℕ) → IsChars t → IfSome (read_system t) IsIdsRead
system_read t all = map_some _ (spaced_literal t) IsLiteral IsIdsRead (spaced_literal_is t all) (λ y l. record { ids = system_is y.0 l.chars l.lacks; rest = l.rest })

public_read : (t : List ℕ) → IsChars t → IfSome (spaced_public t) IsPublicRead
public_read t all =
    then_some (spaced_literal t) as_public IsLiteral IsPublicRead (spaced_literal_is t all)
    (λ x l. by x l (list_all is_pubid_char x.0) refl)
  where
    by : (x : List ℕ × List ℕ) → IsLiteral x → (b : Bool) → list_all is_pubid_char x.0 ≡ b → IfSome (cond b (Some (collapse_public x.0, x.1)) None) IsPublicRead
    by x l true e = record { public = public_is x.0 e; rest = l.rest }
    by x l false e = tt

with_system_read : (x : List ℕ × List ℕ) → IsPublicRead x → IfSome (with_system x) IsIdsRead
with_system_read x p = map_some _ (spaced_literal x.1) IsLiteral IsIdsRead (spaced_literal_is x.1 p.rest) (λ y l. record { ids = both_true p.public (system_is y.0 l.chars l.lacks); rest = l.rest })

pub ids_read : (t : List ℕ) → IsChars t → IfSome (read_ids t) IsIdsRead
unfolding read_ids
ids_read t all =
    cond_some (bytes_eq (word t) (codes "SYSTEM")) _ _ IsIdsRead (λ is. system_read (after_word t) (after_chars t all))
    (λ other. cond_some (bytes_eq (word t) (codes "PUBLIC")) _ None IsIdsRead
    (λ is. then_some (spaced_public (after_word t)) with_system IsPublicRead IsIdsRead (public_read (after_word t) (after_chars t all)) with_system_read)
    (λ other. tt))

entity_ids_are : (ids : Ids) → are_entity_ids ids ≡ true → are_ids ids ≡ true
entity_ids_are (System s) e = e
entity_ids_are (Public p s) e = e
entity_ids_are (PublicOnly p) e = absurd (true≢false (sym e))

abbrev AreIds : Ids → Type 0
AreIds ids = IsTrue (are_ids ids)

if_blank_is : (x : Ids × List ℕ) → IsIdsRead x → IfSome (if_blank x) AreIds
if_blank_is x r = cond_some (is_blank x.1) (Some x.0) None AreIds (λ is. entity_ids_are x.0 r.ids) (λ is. tt)

public_ids_are : (x : List ℕ × List ℕ) → IsPublicRead x → IfSome (public_ids x) AreIds
public_ids_are x p =
    cond_some (is_blank x.1) (Some (PublicOnly x.0)) _ AreIds (λ is. p.public) (λ other. then_some (with_system x) if_blank IsIdsRead AreIds (with_system_read x p) if_blank_is)

notation_read : (t : List ℕ) → IsChars t → IfSome (notation_ids t) AreIds
notation_read t all =
    cond_some (bytes_eq (word t) (codes "SYSTEM")) _ _ AreIds (λ is. then_some (read_system (after_word t)) if_blank IsIdsRead AreIds (system_read (after_word t) (after_chars t all)) if_blank_is)
    (λ other. cond_some (bytes_eq (word t) (codes "PUBLIC")) _ None AreIds (λ is. then_some (spaced_public (after_word t)) public_ids IsPublicRead AreIds (public_read (after_word t) (after_chars t all)) public_ids_are) (λ other. tt))

notation_is : (body : List ℕ) → IsChars body → IfSome (notation_of body) (λ x. IsTrue (are_ids x.1))
unfolding notation_of
notation_is body all =
    then_some (spaced_name body) with_ids RestIsChars (λ x. IsTrue (are_ids x.1)) (spaced_name_chars body all)
    (λ x rest. map_some _ (option_and_then notation_ids (read_space x.1)) AreIds (λ x. IsTrue (are_ids x.1)) (then_some (read_space x.1) notation_ids IsChars AreIds (space_chars x.1 rest) notation_read) (λ ids is. is))

-- the identifiers of a notation that is read from a body of Chars
pub notation_ids_are : (body name : List ℕ) (ids : Ids) → IsTrue (are_chars body) → notation_of body ≡ Some (name, ids) → IsTrue (are_ids ids)
notation_ids_are body name ids all e = subst (λ (o : Option (List ℕ × Ids)). IfSome o (λ x. IsTrue (are_ids x.1))) e (notation_is body all)

-- ---- entities

value_def : (x : List ℕ × List ℕ) → IsLiteral x → IfSome (as_value x) IsOfChars
value_def x l = cond_some (is_entity_value x.0 && is_blank x.1) (Some (Value x.0)) None IsOfChars (λ is. l.chars) (λ is. tt)

named_def : (ids : Ids) (x : List ℕ × List ℕ) → IsTrue (are_entity_ids ids) → IfSome (notation_named ids x) IsOfChars
named_def ids x is = cond_some (is_blank x.1) (Some (Unparsed ids x.0)) None IsOfChars (λ b. is) (λ b. tt)

ndata_def : (ids : Ids) (t : List ℕ) → IsTrue (are_entity_ids ids) → IsChars t → IfSome (read_ndata ids t) IsOfChars
ndata_def ids t is all =
    cond_some (bytes_eq (word t) (codes "NDATA")) _ None IsOfChars
    (λ b. then_some (spaced_name (after_word t)) (notation_named ids) RestIsChars IsOfChars (spaced_name_chars (after_word t) (after_chars t all)) (λ x rest. named_def ids x is)) (λ b. tt)

external_def : (parameter : Bool) (x : Ids × List ℕ) → IsIdsRead x → IfSome (as_external parameter x) IsOfChars
external_def parameter x r =
    cond_some (is_blank x.1) (Some (External x.0)) _ IsOfChars (λ is. r.ids)
    (λ other. cond_some parameter None _ IsOfChars (λ is. tt) (λ general. then_some (read_space x.1) (read_ndata x.0) IsChars IsOfChars (space_chars x.1 r.rest) (λ t all. ndata_def x.0 t r.ids all)))

def_is : (parameter : Bool) (t : List ℕ) → IsChars t → IfSome (read_def parameter t) IsOfChars
def_is parameter t all =
    cond_some (first_is is_quote t) _ _ IsOfChars (λ is. then_some (read_literal t) as_value IsLiteral IsOfChars (literal_is t all) value_def)
    (λ other. then_some (read_ids t) (as_external parameter) IsIdsRead IsOfChars (ids_read t all) (external_def parameter))

abbrev pub IsEntityRead : RawEntity → Type 0
IsEntityRead e = IsOfChars e.def

with_def_is : (parameter : Bool) (x : List ℕ × List ℕ) → RestIsChars x → IfSome (with_def parameter x) IsEntityRead
with_def_is parameter x rest =
    map_some _ (option_and_then (read_def parameter) (read_space x.1)) IsOfChars IsEntityRead (then_some (read_space x.1) (read_def parameter) IsChars IsOfChars (space_chars x.1 rest) (def_is parameter)) (λ d is. is)

behind_is : (t : List ℕ) → IsChars t → IfSome (entity_behind t) IsEntityRead
behind_is t all =
    cond_some (starts_with nat_eq t (codes "%")) _ _ IsEntityRead
    (λ is. then_some (spaced_name (drop 1 t)) (with_def true) RestIsChars IsEntityRead (spaced_name_chars (drop 1 t) (drop_all 1 t all)) (with_def_is true))
    (λ other. then_some (read_name t) (with_def false) RestIsChars IsEntityRead (name_chars t all) (with_def_is false))

entity_is : (body : List ℕ) → IsChars body → IfSome (entity_of body) IsEntityRead
unfolding entity_of
entity_is body all = then_some (read_space body) entity_behind IsChars IsEntityRead (space_chars body all) behind_is

-- what an entity is declared as, where it is read from a body of Chars: a value is of Chars, and identifiers are as they are asked for
pub entity_read_is : (body : List ℕ) (e : RawEntity) → IsTrue (are_chars body) → entity_of body ≡ Some e → IsEntityRead e
entity_read_is body e all is = subst (λ (o : Option RawEntity). IfSome o IsEntityRead) is (entity_is body all)
