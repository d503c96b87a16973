-- What is kept of a content fits it.
use Rattle.std.proofs.Common.{◌≡◌, ◌<◌, ◌≤◌, ◌+◌, ◌==◌, ◌&&◌, ◌||◌, ℕ, zero, suc, List, [], ◌∷◌, length, get_or, map, Bool, true, false, inl, inr, Ok, refl, sym, ap, ◌∙◌, subst, arith, nat_eq, true≢false, rules}
use Rattle.std.specs.Bool.{Decides}
use Rattle.std.specs.List.{list_any}
use Rattle.std.proofs.lemmas.Bool.{and_parts, or_cases, or_left, or_right, and_from, eq-eqb, eqb-true, leb-true}
use Rattle.content_models.specs.declared.content.Content.{Content}
use Rattle.content_models.specs.declared.content.Content.TheVariants.{Empty, Any, Mixed, Children}
use Rattle.content_models.specs.declared.content.Particle.{Particle}
use Rattle.content_models.specs.Model.{Chars, model, in_order, one_of, choice_of}
use Rattle.content_models.specs.Proper.{IsProper, is_proper, is_group, has_shape, depth, names_in, total}
use Rattle.std.specs.Prelude.{nat_le}
use Rattle.content_models.specs.Re.{Re, Eps, Sym, Cat, Alt}
use Rattle.content_models.proofs.Layers.{model-One, model-Seq, model-Choice, Each, induct}
use Rattle.content_models.proofs.Counts.{names_in-One, names_in-Seq, names_in-Choice}
use Rattle.position_automata.specs.Marked.{count, AcceptsAt}
use Rattle.position_automata.specs.Places.{letters, models, nullable, lasts, pairs}
use Rattle.position_automata.specs.Rows.{targets, numbers_of, IsRow}
use Rattle.position_automata.specs.Tables.{IsTable, IsSimple, AreKeys, ModelRows, step_names}
use Rattle.position_automata.proofs.Words.{Member}
use Rattle.position_automata.proofs.Steps.{count-occurring}
use Rattle.position_automata.proofs.Run.{accepts_iff_ends}
use Rattle.position_automata.proofs.Lists.{nullable-to, nullable-from, lasts-to, lasts-from}

empty_row : (numbers : List ℕ) → IsRow numbers [] []
empty_row numbers = record {
  rising = λ k h. absurd (omega arith);
  numbered = λ n j. ((λ c. let h = c.1 in absurd (omega arith)), (λ c. let h = c.0.1 in absurd (omega arith)));
  one = λ n p q c d. let h = c.1 in absurd (omega arith);
}

one_empty : (i : ℕ) → get_or {A = List (ℕ × ℕ)} ([] ∷ []) i [] ≡ []
one_empty zero = refl
one_empty (suc i) = refl

simple_rows : (numbers : List ℕ) (rows : List (List (ℕ × ℕ))) → rows ≡ [] ∷ [] → (i : ℕ) → IsRow numbers [] (get_or rows i [])
simple_rows numbers rows e i = subst (IsRow numbers []) (sym (ap (λ x. get_or x i []) e ∙ one_empty i)) (empty_row numbers)

start_flag : (accepting : List Bool) → ((i : ℕ) → i < 1 → get_or accepting i false ≡ ((i == 0) && true)) → (i : ℕ) → i < 1 → Decides (get_or accepting i false) (i ≡ 0)
start_flag accepting f i h = ((λ t. omega arith), (λ z. f i h ∙ ap (λ b. b && true) (eq-eqb i 0 z)))

pub simple_table : (content : Content) (names keys : List Chars) (rows : List (List (ℕ × ℕ))) (accepting : List Bool)
    → IsProper content → IsSimple content → names ≡ step_names content → AreKeys names keys → rows ≡ [] ∷ []
    → ((i : ℕ) → i < 1 → get_or accepting i false ≡ ((i == 0) && true)) → IsTable content names keys rows accepting
simple_table Empty names keys rows accepting proper s n k e f = record {
  proper = proper;
  deterministic = tt;
  small = search rules;
  names_are = n;
  keys_are = k;
  states_are = ap length e;
  rows_are = λ i h. simple_rows (numbers_of keys names) rows e i;
  accepting_is = start_flag accepting f;
}
simple_table Any names keys rows accepting proper s n k e f = record {
  proper = proper;
  deterministic = tt;
  small = search rules;
  names_are = n;
  keys_are = k;
  states_are = ap length e;
  rows_are = λ i h. simple_rows (numbers_of keys names) rows e i;
  accepting_is = start_flag accepting f;
}
simple_table (Mixed listed) names keys rows accepting proper s n k e f = record {
  proper = proper;
  deterministic = tt;
  small = search rules;
  names_are = n;
  keys_are = k;
  states_are = ap length e;
  rows_are = λ i h. simple_rows (numbers_of keys names) rows e i;
  accepting_is = start_flag accepting f;
}
simple_table (Children part) names keys rows accepting proper s n k e f = elim s [ ]

pub any_member : (i : ℕ) (xs : List ℕ) → list_any (nat_eq i) xs ≡ true → Member i xs
any_member i [] h = absurd (true≢false (sym h))
any_member i (x ∷ xs) h = elim (or_cases (nat_eq i x) (list_any (nat_eq i) xs) h) [
  | inl e ↦ inl (eqb-true i x e)
  | inr e ↦ inr (any_member i xs e)
]

pub member_any : (i : ℕ) (xs : List ℕ) → Member i xs → list_any (nat_eq i) xs ≡ true
member_any i [] m = elim m [ ]
member_any i (x ∷ xs) (inl e) = or_left (nat_eq i x) (list_any (nat_eq i) xs) (eq-eqb i x e)
member_any i (x ∷ xs) (inr m) = or_right (nat_eq i x) (list_any (nat_eq i) xs) (member_any i xs m)

pub flag_decides : (r : Re Chars) (i : ℕ) (flag : Bool) → flag ≡ (((i == 0) && nullable r) || list_any (nat_eq i) (lasts 1 r)) → Decides flag (AcceptsAt r i)
flag_decides r i flag e = (
  (λ t. (accepts_iff_ends r i).1 (elim (or_cases ((i == 0) && nullable r) (list_any (nat_eq i) (lasts 1 r)) (sym e ∙ t)) [
    | inl h ↦ (let b = and_parts (i == 0) (nullable r) h in inl (eqb-true i 0 b.0, nullable-to 1 r b.1))
    | inr h ↦ inr (lasts-to 1 r i (any_member i (lasts 1 r) h))
  ])),
  (λ a. e ∙ elim ((accepts_iff_ends r i).0 a) [
    | inl h ↦ or_left ((i == 0) && nullable r) (list_any (nat_eq i) (lasts 1 r)) (and_from (i == 0) (nullable r) (eq-eqb i 0 h.0) (nullable-from 1 r h.1))
    | inr h ↦ or_right ((i == 0) && nullable r) (list_any (nat_eq i) (lasts 1 r)) (member_any i (lasts 1 r) (lasts-from 1 r i h.0 h.1))
  ]),
)

model_table_at : (part : Particle) (names keys : List Chars) (rows : List (List (ℕ × ℕ))) (accepting : List Bool)
    → IsProper (Children part) → count (model part) ≤ 1024 → names ≡ letters (model part) → AreKeys names keys → ModelRows part keys (Ok rows)
    → ((i : ℕ) → i < 1 + count (model part) → get_or accepting i false ≡ (((i == 0) && nullable (model part)) || list_any (nat_eq i) (lasts 1 (model part))))
    → IsTable (Children part) names keys rows accepting
model_table_at part names keys rows accepting proper c n k m f = record {
  proper = proper;
  deterministic = m.0;
  small = omega arith;
  names_are = n;
  keys_are = k;
  states_are = m.1;
  rows_are = λ i h. subst (λ (ns : List Chars). IsRow (numbers_of keys ns) (targets i (pairs (model part))) (get_or rows i [])) (sym n) (m.2 i h);
  accepting_is = λ i h. flag_decides (model part) i (get_or accepting i false) (f i h);
}

pub model_table : (content : Content) (part : Particle) (names keys : List Chars) (rows : List (List (ℕ × ℕ))) (accepting : List Bool)
    → content ≡ Children part → IsProper content → count (model part) ≤ 1024 → names ≡ letters (model part) → AreKeys names keys → ModelRows part keys (Ok rows)
    → ((i : ℕ) → i < 1 + count (model part) → get_or accepting i false ≡ (((i == 0) && nullable (model part)) || list_any (nat_eq i) (lasts 1 (model part))))
    → IsTable content names keys rows accepting
model_table content part names keys rows accepting e proper c n k m f =
    subst (λ (x : Content). IsTable x names keys rows accepting) (sym e) (model_table_at part names keys rows accepting (subst IsProper e proper) c n k m f)

abbrev Counted : Particle → Type 0
Counted p = names_in p ≡ count (model p)

count-order : (q : Re Chars) (ps : List Particle) → Each Counted ps → count (in_order q (models ps)) ≡ count q + total (map names_in ps)
count-order q [] e = omega arith
count-order q (p ∷ ps) e = omega (arith, count-order (Cat q (model p)) ps e.1, e.0)

count-one : (q : Re Chars) (ps : List Particle) → Each Counted ps → count (one_of q (models ps)) ≡ count q + total (map names_in ps)
count-one q [] e = omega arith
count-one q (p ∷ ps) e = omega (arith, count-one (Alt q (model p)) ps e.1, e.0)

count-choice : (ps : List Particle) → Each Counted ps → count (choice_of (models ps)) ≡ total (map names_in ps)
count-choice [] e = refl
count-choice (p ∷ ps) e = omega (arith, count-one (model p) ps e.1, e.0)

zero_plus : (n : ℕ) → 0 + n ≡ n
zero_plus n = omega arith

counted : (p : Particle) → Counted p
counted = induct Counted
    (λ n o. names_in-One n o ∙ sym (ap count (model-One n o) ∙ count-occurring o (Sym n)))
    (λ ps o e. names_in-Seq ps o ∙ sym (ap count (model-Seq ps o) ∙ count-occurring o (in_order Eps (models ps)) ∙ count-order Eps ps e ∙ zero_plus (total (map names_in ps))))
    (λ ps o e. names_in-Choice ps o ∙ sym (ap count (model-Choice ps o) ∙ count-occurring o (choice_of (models ps)) ∙ count-choice ps e))

proper_names : (part : Particle) → IsProper (Children part) → names_in part ≤ 1024
unfolding is_proper
proper_names part h =
    let a = and_parts (is_group part) (has_shape part && (nat_le (depth part) 64 && nat_le (names_in part) 1024)) h in
    let b = and_parts (has_shape part) (nat_le (depth part) 64 && nat_le (names_in part) 1024) a.1 in
    let c = and_parts (nat_le (depth part) 64) (nat_le (names_in part) 1024) b.1 in
    leb-true (names_in part) 1024 c.1

-- a proper model has at most 1,024 names
pub proper_count : (content : Content) (part : Particle) → content ≡ Children part → IsProper content → count (model part) ≤ 1024
proper_count content part e h =
    let a : names_in part ≤ 1024 = proper_names part (subst IsProper e h) in
    omega (arith, counted part)

-- equal parts make the same table
pub same_table : (content : Content) (names keys : List Chars) (rows : List (List (ℕ × ℕ))) (accepting : List Bool)
    (content' : Content) (names' keys' : List Chars) (rows' : List (List (ℕ × ℕ))) (accepting' : List Bool)
    → content' ≡ content → names' ≡ names → keys' ≡ keys → rows' ≡ rows → accepting' ≡ accepting
    → IsTable content names keys rows accepting → IsTable content' names' keys' rows' accepting'
same_table content names keys rows accepting content' names' keys' rows' accepting' a b c d e t =
    subst (λ (x : List Bool). IsTable content' names' keys' rows' x) (sym e)
    (subst (λ (x : List (List (ℕ × ℕ))). IsTable content' names' keys' x accepting) (sym d)
    (subst (λ (x : List Chars). IsTable content' names' x rows accepting) (sym c)
    (subst (λ (x : List Chars). IsTable content' x keys rows accepting) (sym b)
    (subst (λ (x : Content). IsTable x names keys rows accepting) (sym a) t))))
