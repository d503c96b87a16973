-- The faults of an article are in its text.
use Rattle.std.proofs.Common.{◌≡◌, ℕ, zero, suc, ◌+◌, ◌-◌, ◌≤◌, List, [], ◌∷◌, ◌++◌, length, drop, Bool, true, false, cond, Option, Some, None, Result, Ok, Err, refl, subst, arith, length-drop, bytes_eq, codes}
use Rattle.std.specs.Prelude.{nat_lt, nat_eq}
use Rattle.std.specs.List.{starts_with}
use Rattle.jats_chars.specs.Classes.{is_space}
use Rattle.dtd_scanner.specs.Walk.{◌>>=◌, walk, over}
use Rattle.jats_fault.specs.declared.fault.Fault.{Fault}
use Rattle.document_trees.specs.Trees.{Attribute, Items, Node}
use Rattle.document_trees.specs.Trees as tree
use Rattle.decl_set.specs.Declarations.{Entity}
use Rattle.decl_set.specs.Values.{value_of, predefined, opening}
use Rattle.decl_set.specs.declared.faults.ValueFault.{ValueFault}
use Rattle.decl_set.specs.declared.faults.ValueFault.TheVariants as fault
use Rattle.article_tree.specs.Tokens.{Raw, Token, letter, section, coded, named, remark, instruction, start, stop}
use Rattle.article_tree.specs.Words.{Names, most_elements, repeated}
use Rattle.article_tree.specs.Taking.{first_token}
use Rattle.article_tree.specs.Stops.{Inner, Standing, place_in, standing_in, refused, malformed, stopped}
use Rattle.article_tree.specs.Reading.{Open, State, values, unrepeated, ended, referred, done, by_token, content_step, closed_by, begun, content, Article, has_root, holding, misplaced, type_end, type_by, Stepping, outside, article_by, article_step, whole, unread, outermost, article_of}
use Rattle.article_tree.specs.Faults.{IsWithin, is_article_number}

-- a fault, where there is one
abbrev pub Faulty : {X : Type 0} → (Fault → Type 0) → Result X Fault → Type 0
Faulty P (Ok x) = Unit {0}
Faulty P (Err fault) = P fault

bind_faulty : {A B : Type 0} (P : Fault → Type 0) (x : Result A Fault) (f : A → Result B Fault) → Faulty P x → ((a : A) → Faulty P (f a)) → Faulty P (x >>= f)
bind_faulty P (Ok a) f first later = later a
bind_faulty P (Err e) f first later = first

if_faulty : {A : Type 0} (P : Fault → Type 0) (b : Bool) (x y : Result A Fault) → Faulty P x → Faulty P y → Faulty P (cond b x y)
if_faulty P true x y a b = a
if_faulty P false x y a b = b

-- how far a step goes at most
abbrev Short : {S : Type 0} → ℕ → Result (S × ℕ) Fault → Type 0
Short n (Ok r) = r.1 ≤ n
Short n (Err e) = Unit {0}

module _ {S : Type 0} (P : Fault → Type 0) (total : ℕ) (step : ℕ → S → List ℕ → Result (S × ℕ) Fault)
    (faults : (at : ℕ) (s : S) (text : List ℕ) → at ≤ total → Faulty P (step at s text)) (short : (at : ℕ) (s : S) (text : List ℕ) → Short (length text) (step at s text)) where
  walk_faulty : (most at : ℕ) (s : S) (text : List ℕ) → at + length text ≤ total → Faulty P (walk step most at s text)
  walk_faulty most at s [] fits = tt
  walk_faulty zero at s (c ∷ cs) fits = tt
  walk_faulty (suc most) at s (c ∷ cs) fits = by (step at s (c ∷ cs)) (faults at s (c ∷ cs) (omega (arith, fits))) (short at s (c ∷ cs)) (λ n v text e. walk_faulty most (at + n) v text e)
    where
      by : (r : Result (S × ℕ) Fault) → Faulty P r → Short (length (c ∷ cs)) r → ((n : ℕ) (v : S) (text : List ℕ) → at + n + length text ≤ total → Faulty P (walk step most (at + n) v text))
          → Faulty P (r >>= λ r. walk step most (at + r.1) r.0 (drop (r.1 - 1) cs))
      by (Ok r) is few later = later r.1 r.0 (drop (r.1 - 1) cs) (omega (arith, few, fits, length-drop (r.1 - 1) cs))
      by (Err e) is few later = is

  over_faulty : (s : S) (text : List ℕ) → length text ≤ total → Faulty P (over step 0 s text)
  unfolding over
  over_faulty s text fits = walk_faulty (length text) 0 s text (omega (arith, fits))

-- ---- refusals

-- the place of a fault in a text that stands there
abbrev Within : Standing → ℕ → Fault → Type 0
Within c end = IsWithin c.article (place_in c end)

place_grows : (c : Standing) (at end : ℕ) → at ≤ end → place_in c at ≤ place_in c end
place_grows c at end few = by c.inner
  where
    by : (o : Option Inner) → place_in (record { article = c.article; inner = o }) at ≤ place_in (record { article = c.article; inner = o }) end
    by None = few
    by (Some inner) = omega arith

module _ (c : Standing) (end at : ℕ) (few : at ≤ end) where
  refused_within : (number : ℕ) (details : List (List ℕ)) → is_article_number number ≡ true → Within c end (refused c at number details)
  refused_within number details is = record { number = is; named = refl; within = place_grows c at end few }

  malformed_within : Within c end (malformed c at)
  malformed_within = by c.inner
    where
      by : (o : Option Inner) → IsWithin c.article (place_in (record { article = c.article; inner = o }) end) (malformed (record { article = c.article; inner = o }) at)
      by None = record { number = refl; named = refl; within = few }
      by (Some inner) = record { number = refl; named = refl; within = omega arith }

  stopped_within : {X : Type 0} (name : List ℕ) (x : Result X ValueFault) → Faulty (Within c end) (stopped c at name x)
  stopped_within name (Ok x) = tt
  stopped_within name (Err (fault.EntityUnknown entity)) = refused_within 63 (entity ∷ []) refl
  stopped_within name (Err (fault.EntityExternal entity)) = refused_within 64 (entity ∷ []) refl
  stopped_within name (Err (fault.RecursiveEntity entity)) = refused_within 28 (entity ∷ []) refl
  stopped_within name (Err (fault.EntityTooDeep entity)) = refused_within 24 (entity ∷ []) refl
  stopped_within name (Err (fault.ExpansionOver entity)) = refused_within 25 (entity ∷ []) refl
  stopped_within name (Err fault.LessThan) = refused_within 27 (name ∷ []) refl
  stopped_within name (Err fault.Malformed) = malformed_within
  stopped_within name (Err fault.NoMemory) = malformed_within

  values_within : (entities : List Entity) (names : Names) (spent : ℕ) (raws : List Raw) → Faulty (Within c end) (values entities names c at spent raws)
  values_within entities names spent [] = tt
  values_within entities names spent (raw ∷ raws) =
      bind_faulty (Within c end) (stopped c at raw.0 (value_of entities names spent raw.1)) _ (stopped_within raw.0 (value_of entities names spent raw.1))
      (λ w. bind_faulty (Within c end) (values entities names c at w.spent raws) _ (values_within entities names w.spent raws) (λ r. tt))

-- ---- content

module _ (entities : List Entity) where
  abbrev Deep : ℕ → Type 0
  Deep levels = (names : Names) (depth : ℕ) (c : Standing) (spent : ℕ) (text : List ℕ) → Faulty (Within c (length text)) (content levels entities names depth c spent text)

  done_within : (levels : ℕ) → Deep levels → (names : Names) (depth : ℕ) (c : Standing) (end at : ℕ) → at ≤ end → (s : State) (token : Token) → Faulty (Within c end) (done entities (content levels entities) names depth c at s token)
  done_within levels deep names depth c end at few s (letter d) = tt
  done_within levels deep names depth c end at few s (section text) = tt
  done_within levels deep names depth c end at few s (coded d) = tt
  done_within levels deep names depth c end at few s (named name) = by (predefined name)
    where
      deeper : (r : Result (Items × ℕ) Fault) → (len : ℕ) → Faulty (Within (standing_in c at name) len) r → Faulty (Within c end) r
      deeper (Ok r) len is = tt
      deeper (Err e) len is = record { number = is.number; named = is.named; within = omega (arith, is.within, place_grows c at end few) }

      by : (o : Option ℕ) → Faulty (Within c end) (referred entities (content levels entities) names depth c at s name o)
      by (Some d) = tt
      by None =
          bind_faulty (Within c end) (stopped c at name (opening entities names s.spent name)) _ (stopped_within c end at few name (opening entities names s.spent name))
          (λ t.
          let inner = content levels entities (names ++ name ∷ []) (depth + length s.opens) (standing_in c at name) t.1 t.0 in
          bind_faulty (Within c end) inner _ (deeper inner (length t.0) (deep (names ++ name ∷ []) (depth + length s.opens) (standing_in c at name) t.1 t.0)) (λ r. tt))
  done_within levels deep names depth c end at few s (remark text) = tt
  done_within levels deep names depth c end at few s (instruction target body) = tt
  done_within levels deep names depth c end at few s (start tag) =
      bind_faulty (Within c end) (values entities names c at s.spent tag.atts) _ (values_within c end at few entities names s.spent tag.atts) (λ r. by r.0 r.1 (repeated [] r.0))
    where
      by : (atts : List Attribute) (mid : ℕ) (o : Option (List ℕ)) → Faulty (Within c end) (unrepeated depth c at s tag atts mid o)
      by atts mid (Some again) = refused_within c end at few 62 (tag.name ∷ again ∷ []) refl
      by atts mid None = if_faulty (Within c end) (nat_lt (depth + length s.opens) most_elements) _ _ tt (refused_within c end at few 65 (tag.name ∷ []) refl)
  done_within levels deep names depth c end at few s (stop name) = by s.opens
    where
      by : (opens : List Open) → Faulty (Within c end) (ended c at s name opens)
      by [] = malformed_within c end at few
      by (o ∷ opens) = if_faulty (Within c end) (bytes_eq o.name name) _ _ tt (refused_within c end at few 61 (o.name ∷ name ∷ []) refl)

  step_within : (levels : ℕ) → Deep levels → (names : Names) (depth : ℕ) (c : Standing) (end at : ℕ) → at ≤ end → (s : State) (text : List ℕ) → Faulty (Within c end) (content_step entities (content levels entities) names depth c at s text)
  step_within levels deep names depth c end at few s text = by (first_token text)
    where
      by : (o : Option (Token × List ℕ)) → Faulty (Within c end) (by_token entities (content levels entities) names depth c at s text o)
      by None = malformed_within c end at few
      by (Some x) = bind_faulty (Within c end) (done entities (content levels entities) names depth c at s x.0) _ (done_within levels deep names depth c end at few s x.0) (λ v. tt)

  step_short : (levels : ℕ) (names : Names) (depth : ℕ) (c : Standing) (at : ℕ) (s : State) (text : List ℕ) → Short (length text) (content_step entities (content levels entities) names depth c at s text)
  step_short levels names depth c at s text = by (first_token text)
    where
      ended_short : (r : Result State Fault) (n : ℕ) → n ≤ length text → Short (length text) (r >>= λ v. Ok (v, n))
      ended_short (Ok v) n few = few
      ended_short (Err e) n few = tt

      by : (o : Option (Token × List ℕ)) → Short (length text) (by_token entities (content levels entities) names depth c at s text o)
      by None = tt
      by (Some x) = ended_short (done entities (content levels entities) names depth c at s x.0) (length text - length x.1) (omega arith)

  content_within : (levels : ℕ) → Deep levels
  content_within zero = λ names depth c spent text. malformed_within c (length text) 0 (omega arith)
  content_within (suc levels) = λ names depth c spent text.
      bind_faulty (Within c (length text)) (over (content_step entities (content levels entities) names depth c) 0 (begun spent) text) _
      (over_faulty (Within c (length text)) (length text) (content_step entities (content levels entities) names depth c) (λ at s rest few. step_within levels (content_within levels) names depth c (length text) at few s rest)
      (λ at s rest. step_short levels names depth c at s rest) (begun spent) text (omega arith))
      (λ v. close c (length text) v v.opens)
    where
      close : (c : Standing) (end : ℕ) (v : State) (opens : List Open) → Faulty (Within c end) (closed_by c end v opens)
      close c end v [] = tt
      close c end v (o ∷ opens) = malformed_within c end end (omega arith)

  -- ---- articles

  module _ (levels : ℕ) (c : Standing) (end : ℕ) where
    abbrev step : Stepping
    step = content_step entities (content levels entities) [] 0 c

    hold : (a : Article) (r : Result (State × ℕ) Fault) → Faulty (Within c end) r → Faulty (Within c end) (holding a r)
    hold a (Ok x) is = tt
    hold a (Err e) is = is

    hold_short : (n : ℕ) (a : Article) (r : Result (State × ℕ) Fault) → Short n r → Short n (holding a r)
    hold_short n a (Ok x) is = is
    hold_short n a (Err e) is = tt

    misplaced_within : (at : ℕ) → at ≤ end → (a : Article) → Within c end (misplaced c at a)
    misplaced_within at few a = by (has_root a.state.items)
      where
        by : (b : Bool) → Within c end (cond b (refused c at 66 []) (refused c at 60 []))
        by true = refused_within c end at few 66 [] refl
        by false = refused_within c end at few 60 [] refl

    outside_within : (at : ℕ) → at ≤ end → (a : Article) (text : List ℕ) (o : Option (Token × List ℕ)) → Faulty (Within c end) (outside step c at a text o)
    outside_within at few a text None = misplaced_within at few a
    outside_within at few a text (Some (token, rest)) = by token
      where
        misc_step : Bool → Result (Article × ℕ) Fault
        misc_step b = cond b (Ok (a, length text - length rest)) (Err (misplaced c at a))

        misc : (b : Bool) → Faulty (Within c end) (misc_step b)
        misc true = tt
        misc false = misplaced_within at few a

        by : (token : Token) → Faulty (Within c end) (outside step c at a text (Some (token, rest)))
        by (letter d) = misc (is_space d)
        by (section inside) = misplaced_within at few a
        by (coded d) = misplaced_within at few a
        by (named name) = misplaced_within at few a
        by (remark inside) = tt
        by (instruction target body) = tt
        by (start tag) = if_faulty (Within c end) (has_root a.state.items) _ _ (misplaced_within at few a) (hold a (step at a.state text) (step_within levels (content_within levels) [] 0 c end at few a.state text))
        by (stop name) = misplaced_within at few a

    if_short : {S : Type 0} (n : ℕ) (b : Bool) (x y : Result (S × ℕ) Fault) → Short n x → Short n y → Short n (cond b x y)
    if_short n true x y a b = a
    if_short n false x y a b = b

    outside_short : (at : ℕ) (a : Article) (text : List ℕ) (o : Option (Token × List ℕ)) → Short (length text) (outside step c at a text o)
    outside_short at a text None = tt
    outside_short at a text (Some (token, rest)) = by token
      where
        few : length text - length rest ≤ length text
        few = omega arith

        misc_step : Bool → Result (Article × ℕ) Fault
        misc_step b = cond b (Ok (a, length text - length rest)) (Err (misplaced c at a))

        misc : (b : Bool) → Short (length text) (misc_step b)
        misc true = few
        misc false = tt

        by : (token : Token) → Short (length text) (outside step c at a text (Some (token, rest)))
        by (letter d) = misc (is_space d)
        by (section inside) = tt
        by (coded d) = tt
        by (named name) = tt
        by (remark inside) = few
        by (instruction target body) = few
        by (start tag) = if_short (length text) (has_root a.state.items) _ _ tt (hold_short (length text) a (step at a.state text) (step_short levels [] 0 c at a.state text))
        by (stop name) = tt

    type_within : (at : ℕ) → at ≤ end → (a : Article) (text : List ℕ) (o : Option (List ℕ)) → Faulty (Within c end) (type_by c at a text o)
    type_within at few a text None = refused_within c end at few 60 [] refl
    type_within at few a text (Some rest) =
        if_faulty (Within c end) (starts_with nat_eq rest (codes ">")) _ _ tt
        (if_faulty (Within c end) (starts_with nat_eq rest (codes "[")) _ _ (refused_within c end at few 67 [] refl) (refused_within c end at few 60 [] refl))

    type_short : (at : ℕ) (a : Article) (text : List ℕ) (o : Option (List ℕ)) → Short (length text) (type_by c at a text o)
    type_short at a text None = tt
    type_short at a text (Some rest) = if_short (length text) (starts_with nat_eq rest (codes ">")) _ _ (omega arith) (if_short (length text) (starts_with nat_eq rest (codes "[")) _ _ tt tt)

    article_step_within : (at : ℕ) → at ≤ end → (a : Article) (text : List ℕ) → Faulty (Within c end) (article_step step c at a text)
    article_step_within at few a text = by a.state.opens
      where
        by : (opens : List Open) → Faulty (Within c end) (article_by step c at a text opens)
        by [] =
            if_faulty (Within c end) a.typed _ _ (outside_within at few a text (first_token text))
            (if_faulty (Within c end) (starts_with nat_eq text (codes "<!DOCTYPE")) _ _ (type_within at few a text (type_end (drop 9 text))) (outside_within at few a text (first_token text)))
        by (o ∷ opens) = hold a (step at a.state text) (step_within levels (content_within levels) [] 0 c end at few a.state text)

    article_step_short : (at : ℕ) (a : Article) (text : List ℕ) → Short (length text) (article_step step c at a text)
    article_step_short at a text = by a.state.opens
      where
        by : (opens : List Open) → Short (length text) (article_by step c at a text opens)
        by [] =
            if_short (length text) a.typed _ _ (outside_short at a text (first_token text))
            (if_short (length text) (starts_with nat_eq text (codes "<!DOCTYPE")) _ _ (type_short at a text (type_end (drop 9 text))) (outside_short at a text (first_token text)))
        by (o ∷ opens) = hold_short (length text) a (step at a.state text) (step_short levels [] 0 c at a.state text)

whole_within : (c : Standing) (end : ℕ) (items : Items) (opens : List Open) → Faulty (Within c end) (whole c end items opens)
whole_within c end tree.nothing opens = refused_within c end end (omega arith) 60 [] refl
whole_within c end (tree.element name atts inside later) [] = tt
whole_within c end (tree.element name atts inside later) (o ∷ opens) = refused_within c end end (omega arith) 60 [] refl
whole_within c end (tree.chars text plain later) opens = refused_within c end end (omega arith) 60 [] refl
whole_within c end (tree.comment text later) opens = refused_within c end end (omega arith) 60 [] refl
whole_within c end (tree.pi target body later) opens = refused_within c end end (omega arith) 60 [] refl

article_within : (entities : List Entity) (article text : List ℕ) → Faulty (IsWithin article (length text)) (article_of entities article text)
unfolding article_of
article_within entities article text =
    let c = outermost article in
    let end = length text in
    bind_faulty (Within c end) (over (article_step (content_step entities (content 32 entities) [] 0 c) c) 0 unread text) _
    (over_faulty (Within c end) end (article_step (content_step entities (content 32 entities) [] 0 c) c) (λ at a rest few. article_step_within entities 32 c end at few a rest) (λ at a rest. article_step_short entities 32 c end at a rest) unread text (omega arith))
    (λ a. whole_within c end a.state.items a.state.opens)

pub fault_within : (entities : List Entity) (article text : List ℕ) (fault : Fault) → article_of entities article text ≡ Err fault → IsWithin article (length text) fault
fault_within entities article text fault e = subst (Faulty (IsWithin article (length text))) e (article_within entities article text)
