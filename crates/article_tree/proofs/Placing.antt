-- Reading with one state is reading each text by itself.
use Rattle.std.proofs.Common.{◌≡◌, ◌∙◌, ℕ, zero, suc, ◌+◌, ◌-◌, List, [], ◌∷◌, ◌++◌, length, drop, Bool, true, false, cond, Option, Some, None, Result, Ok, Err, refl, ap, sym, subst, arith, bytes_eq}
use Rattle.std.specs.Prelude.{nat_lt}
use Rattle.std.proofs.lemmas.Bool.{cond-true, cond-false, lt-ltb, ltb-true, false_from_ne_true}
use Rattle.dtd_scanner.specs.Walk.{◌>>=◌, walk, over}
use Rattle.dtd_scanner.proofs.Walking.{bind_cong, bind_assoc, bind_ok}
use Rattle.jats_fault.specs.declared.fault.Fault.{Fault}
use Rattle.document_trees.specs.Trees.{Attribute, Items}
use Rattle.document_trees.specs.Trees as tree
use Rattle.decl_set.specs.Declarations.{Entity}
use Rattle.decl_set.specs.Values.{predefined, opening}
use Rattle.article_tree.specs.Content.{run, joined, filled, Pieces, nothing, element, chars, comment, pi, included, items_of}
use Rattle.article_tree.specs.Tokens.{Tag, Token, letter, section, coded, named, remark, instruction, start, stop}
use Rattle.article_tree.specs.Words.{Names, most_elements, repeated}
use Rattle.article_tree.specs.Taking.{first_token}
use Rattle.article_tree.specs.Stops.{Standing, standing_in, stopped, refused}
use Rattle.article_tree.specs.Reading.{Open, State, put, values, entered, unrepeated, ended, referred, done, by_token, content_step, closed_by, closed, begun, content, Stepping, outermost, article_with, article_of}
use Rattle.article_tree.specs.Grammar.{IsContent}
use Rattle.article_tree.specs.InPlace.{ended_in, referred_in, done_in, by_token_in, step_in, closed_in, reading_in, article_in_place}
use Rattle.jats_chars.specs.Classes.{is_space}
use Rattle.article_tree.proofs.Joining.{joined_nothing, joined_assoc}
use Rattle.article_tree.proofs.Walks.{over_nil}
use Rattle.article_tree.proofs.Sound.{founds}
use Rattle.article_tree.proofs.TokensFound.{taken}
use Rattle.article_tree.proofs.TokensTaken.{takes}

-- ---- walks that do the same

module _ {S T F : Type 0} (f : S → T) (step : ℕ → S → List ℕ → Result (S × ℕ) F) (other : ℕ → T → List ℕ → Result (T × ℕ) F)
    (same : (at : ℕ) (s : S) (text : List ℕ) → other at (f s) text ≡ (step at s text >>= λ x. Ok (f x.0, x.1))) where
  walk_map : (most at : ℕ) (s : S) (text : List ℕ) → walk other most at (f s) text ≡ (walk step most at s text >>= λ v. Ok (f v))
  walk_map most at s [] = refl
  walk_map zero at s (c ∷ text) = refl
  walk_map (suc most) at s (c ∷ text) =
      ap (λ (r : Result (T × ℕ) F). r >>= λ r. walk other most (at + r.1) r.0 (drop (r.1 - 1) text)) (same at s (c ∷ text))
      ∙ bind_assoc (step at s (c ∷ text)) (λ x. Ok (f x.0, x.1)) (λ r. walk other most (at + r.1) r.0 (drop (r.1 - 1) text))
      ∙ bind_cong (step at s (c ∷ text)) _ _ (λ x. walk_map most (at + x.1) x.0 (drop (x.1 - 1) text))
      ∙ sym (bind_assoc (step at s (c ∷ text)) (λ r. walk step most (at + r.1) r.0 (drop (r.1 - 1) text)) (λ v. Ok (f v)))

  pub over_map : (at : ℕ) (s : S) (text : List ℕ) → over other at (f s) text ≡ (over step at s text >>= λ v. Ok (f v))
  unfolding over
  over_map at s text = walk_map (length text) at s text

bind_at : {A B F : Type 0} (x : Result A F) (f g : A → Result B F) → ((a : A) → x ≡ Ok a → f a ≡ g a) → (x >>= f) ≡ (x >>= g)
bind_at (Ok a) f g same = same a refl
bind_at (Err e) f g same = refl

-- ---- a text that is not empty gives items

abbrev Full : Items → Type 0
Full tree.nothing = ⊥
Full items = Unit {0}

run_full : (t : List ℕ) (p : Bool) (x : Items) → Full (run t p x)
run_full t p tree.nothing = tt
run_full t p (tree.element name atts inside later) = tt
run_full t p (tree.chars u q later) = tt
run_full t p (tree.comment text later) = tt
run_full t p (tree.pi target body later) = tt

joined_full : (x y : Items) → Full x → Full (joined x y)
joined_full tree.nothing y full = absurd full
joined_full (tree.element name atts inside later) y full = tt
joined_full (tree.chars t p later) y full = by later
  where
    by : (z : Items) → Full (joined (tree.chars t p z) y)
    by tree.nothing = run_full t p y
    by (tree.element name atts inside more) = tt
    by (tree.chars u q more) = tt
    by (tree.comment text more) = tt
    by (tree.pi target body more) = tt
joined_full (tree.comment text later) y full = tt
joined_full (tree.pi target body later) y full = tt

filled_full : (x : Items) → Full (filled x)
filled_full tree.nothing = tt
filled_full (tree.element name atts inside later) = tt
filled_full (tree.chars u q later) = tt
filled_full (tree.comment text later) = tt
filled_full (tree.pi target body later) = tt

full_filled : (x : Items) → Full x → filled x ≡ x
full_filled tree.nothing full = absurd full
full_filled (tree.element name atts inside later) full = refl
full_filled (tree.chars u q later) full = refl
full_filled (tree.comment text later) full = refl
full_filled (tree.pi target body later) full = refl

content_full : (entities : List Entity) (names : Names) (depth : ℕ) (p : Pieces) (before d : ℕ) (ds : List ℕ) (after : ℕ) → IsContent entities names depth p before (d ∷ ds) after → Full (items_of p)
content_full entities names depth nothing before d ds after is = let e = is.0 in cc
content_full entities names depth (chars some plain later) before d ds after is = run_full some plain (items_of later)
content_full entities names depth (comment inside later) before d ds after is = tt
content_full entities names depth (pi target body later) before d ds after is = tt
content_full entities names depth (element name atts inside later) before d ds after is = tt
content_full entities names depth (included name inside later) before d ds after is = joined_full (filled (items_of inside)) (items_of later) (filled_full (items_of inside))

-- ---- a state of a text, laid onto the state in which it began

onto : State → List Open → List Open
onto s [] = s.opens
onto s (o ∷ []) = record { name = o.name; atts = o.atts; before = joined s.items o.before } ∷ s.opens
onto s (o ∷ p ∷ opens) = o ∷ onto s (p ∷ opens)

laid_items : State → List Open → Items → Items
laid_items s [] items = joined s.items items
laid_items s (o ∷ opens) items = items

laid : State → State → State
laid s l = record { opens = onto s l.opens; items = laid_items s l.opens l.items; spent = l.spent }

onto_length : (s : State) (opens : List Open) → length (onto s opens) ≡ length s.opens + length opens
unfolding onto
onto_length s [] = omega arith
onto_length s (o ∷ []) = omega arith
onto_length s (o ∷ p ∷ opens) = let e = onto_length s (p ∷ opens) in omega (arith, e)

put_laid : (s l : State) (one : Items) → put (laid s l) one ≡ laid s (put l one)
unfolding laid laid_items onto
put_laid s l one = by l.opens
  where
    by : (opens : List Open) → record { opens = onto s opens; items = joined (laid_items s opens l.items) one; spent = l.spent } ≡ (let x : State = record { opens = onto s opens; items = laid_items s opens (joined l.items one); spent = l.spent } in x)
    by [] = ap (λ (x : Items). record { opens = onto s []; items = x; spent = l.spent }) (joined_assoc s.items l.items one)
    by (o ∷ opens) = refl

not_less : (n : ℕ) → nat_lt n n ≡ false
not_less n = false_from_ne_true (nat_lt n n) (λ is. let h = ltb-true n n is in absurd (omega (arith, h)))

-- the laid state, of parts
abbrev parts : State → List Open → Items → ℕ → State
parts s opens items spent = record { opens = onto s opens; items = laid_items s opens items; spent = spent }

abbrev state_in : State → Result State Fault
state_in s = Ok s

entered_laid : (s l : State) (name : List ℕ) (atts : List Attribute) (mid : ℕ) (b : Bool) → entered (laid s l) name atts mid b ≡ laid s (entered l name atts mid b)
unfolding laid laid_items onto
entered_laid s l name atts mid true = put_laid s (record l { spent = mid }) (tree.element name atts tree.nothing tree.nothing)
entered_laid s l name atts mid false = by l.opens
  where
    by : (opens : List Open) → entered (parts s opens l.items l.spent) name atts mid false ≡ parts s (record { name = name; atts = atts; before = l.items } ∷ opens) tree.nothing mid
    by [] = refl
    by (o ∷ opens) = refl

module _ (entities : List Entity) (levels : ℕ)
    (deep : (names : Names) (c : Standing) (s : State) (text : List ℕ) → reading_in levels entities names c s text ≡ (content levels entities names (length s.opens) c s.spent text >>= λ r. Ok (put (record s { spent = r.1 }) (filled r.0))))
    (names : Names) (c : Standing) (s : State) where
  abbrev base : ℕ
  base = length s.opens

  abbrev Laid : Result State Fault → Result State Fault
  Laid r = r >>= λ v. Ok (laid s v)

  tag_laid : (at : ℕ) (l : State) (tag : Tag) (atts : List Attribute) (mid : ℕ) (o : Option (List ℕ)) → unrepeated 0 c at (laid s l) tag atts mid o ≡ Laid (unrepeated base c at l tag atts mid o)
  unfolding laid
  tag_laid at l tag atts mid (Some again) = refl
  tag_laid at l tag atts mid None =
      let size : 0 + length (onto s l.opens) ≡ base + length l.opens = (let e = onto_length s l.opens in omega (arith, e)) in
      ap (λ (n : ℕ). cond (nat_lt n most_elements) (state_in (entered (laid s l) tag.name tag_atts mid tag.closed)) (Err (refused c at 65 (tag.name ∷ [])))) size
      ∙ by (nat_lt (base + length l.opens) most_elements)
    where
      tag_atts : List Attribute
      tag_atts = atts

      by : (b : Bool) → cond b (state_in (entered (laid s l) tag.name atts mid tag.closed)) (Err (refused c at 65 (tag.name ∷ []))) ≡ Laid (cond b (state_in (entered l tag.name atts mid tag.closed)) (Err (refused c at 65 (tag.name ∷ []))))
      by true = ap state_in (entered_laid s l tag.name atts mid tag.closed)
      by false = refl

  stop_laid : (at : ℕ) (l : State) (name : List ℕ) → ended_in base c at (laid s l) name ≡ Laid (ended c at l name l.opens)
  unfolding laid laid_items onto
  stop_laid at l name = by l.opens
    where
      popped : (o : Open) (opens : List Open) → State
      popped o opens = record { opens = opens; items = joined o.before (tree.element o.name o.atts l.items tree.nothing); spent = l.spent }

      either_way : (o o' : Open) (opens opens' : List Open) → o'.name ≡ o.name → popped o' opens' ≡ laid s (popped o opens) → (b : Bool)
          → cond b (state_in (popped o' opens')) (Err (refused c at 61 (o'.name ∷ name ∷ []))) ≡ Laid (cond b (state_in (popped o opens)) (Err (refused c at 61 (o.name ∷ name ∷ []))))
      either_way o o' opens opens' same is true = ap state_in is
      either_way o o' opens opens' same is false = ap (λ (n : List ℕ). Err (refused c at 61 (n ∷ name ∷ []))) same

      by : (opens : List Open) → ended_in base c at (parts s opens l.items l.spent) name ≡ Laid (ended c at l name opens)
      by [] = cond-false (nat_lt base base) _ _ (not_less base)
      by (o ∷ []) =
          let o' : Open = record { name = o.name; atts = o.atts; before = joined s.items o.before } in
          cond-true (nat_lt base (length (o' ∷ s.opens))) _ _ (lt-ltb base (length (o' ∷ s.opens)) (omega arith))
          ∙ either_way o o' [] s.opens refl
          (ap (λ (x : Items). record { opens = s.opens; items = x; spent = l.spent }) (joined_assoc s.items o.before (tree.element o.name o.atts l.items tree.nothing))) (bytes_eq o.name name)
      by (o ∷ p ∷ opens) =
          let e = onto_length s (p ∷ opens) in
          cond-true (nat_lt base (length (o ∷ onto s (p ∷ opens)))) _ _ (lt-ltb base (length (o ∷ onto s (p ∷ opens))) (omega (arith, e)))
          ∙ either_way o o (p ∷ opens) (onto s (p ∷ opens)) refl refl (bytes_eq o.name name)

  name_laid : (at : ℕ) (l : State) (name : List ℕ) (o : Option ℕ) → referred_in entities (reading_in levels entities) names c at (laid s l) name o ≡ Laid (referred entities (content levels entities) names base c at l name o)
  unfolding laid
  name_laid at l name (Some d) = ap state_in (put_laid s l (tree.chars (d ∷ []) false tree.nothing))
  name_laid at l name None =
      let x = stopped c at name (opening entities names l.spent name) in
      let inner = λ (t : List ℕ × ℕ). content levels entities (names ++ name ∷ []) (base + length l.opens) (standing_in c at name) t.1 t.0 in
      bind_cong x _ _ (λ t.
      deep (names ++ name ∷ []) (standing_in c at name) (record { opens = onto s l.opens; items = laid_items s l.opens l.items; spent = t.1 }) t.0
      ∙ ap (λ (n : ℕ). content levels entities (names ++ name ∷ []) n (standing_in c at name) t.1 t.0 >>= λ r. Ok (put (record { opens = onto s l.opens; items = laid_items s l.opens l.items; spent = r.1 }) (filled r.0))) (onto_length s l.opens)
      ∙ bind_cong (inner t) _ _ (λ r. ap state_in (put_laid s (record l { spent = r.1 }) (filled r.0)))
      ∙ sym (bind_assoc (inner t) (λ r. Ok (put (record l { spent = r.1 }) (filled r.0))) (λ v. Ok (laid s v))))
      ∙ sym (bind_assoc x (λ t. inner t >>= λ r. Ok (put (record l { spent = r.1 }) (filled r.0))) (λ v. Ok (laid s v)))

  done_laid : (at : ℕ) (l : State) (token : Token) → done_in entities (reading_in levels entities) names base c at (laid s l) token ≡ Laid (done entities (content levels entities) names base c at l token)
  unfolding laid
  done_laid at l (letter d) = ap state_in (put_laid s l (tree.chars (d ∷ []) (is_space d) tree.nothing))
  done_laid at l (section text) = ap state_in (put_laid s l (tree.chars text false tree.nothing))
  done_laid at l (coded d) = ap state_in (put_laid s l (tree.chars (d ∷ []) false tree.nothing))
  done_laid at l (named name) = name_laid at l name (predefined name)
  done_laid at l (remark text) = ap state_in (put_laid s l (tree.comment text tree.nothing))
  done_laid at l (instruction target body) = ap state_in (put_laid s l (tree.pi target body tree.nothing))
  done_laid at l (start tag) =
      bind_cong (values entities names c at l.spent tag.atts) _ _ (λ r. tag_laid at l tag r.0 r.1 (repeated [] r.0))
      ∙ sym (bind_assoc (values entities names c at l.spent tag.atts) (λ r. unrepeated base c at l tag r.0 r.1 (repeated [] r.0)) (λ v. Ok (laid s v)))
  done_laid at l (stop name) = stop_laid at l name

  step_laid : (at : ℕ) (l : State) (text : List ℕ) → step_in entities (reading_in levels entities) names base c at (laid s l) text ≡ (content_step entities (content levels entities) names base c at l text >>= λ x. Ok (laid s x.0, x.1))
  step_laid at l text = by (first_token text)
    where
      by : (o : Option (Token × List ℕ)) → by_token_in entities (reading_in levels entities) names base c at (laid s l) text o ≡ (by_token entities (content levels entities) names base c at l text o >>= λ x. Ok (laid s x.0, x.1))
      by None = refl
      by (Some x) =
          let n = length text - length x.1 in
          let did = done entities (content levels entities) names base c at l x.0 in
          ap (λ (r : Result State Fault). r >>= λ v. Ok (v, n)) (done_laid at l x.0)
          ∙ bind_assoc did (λ v. Ok (laid s v)) (λ v. Ok (v, n))
          ∙ sym (bind_assoc did (λ v. Ok (v, n)) (λ x. Ok (laid s x.0, x.1)))

  -- a text is read in place
  text_laid : (text : List ℕ) → reading_in (suc levels) entities names c s text ≡ (content (suc levels) entities names base c s.spent text >>= λ r. Ok (put (record s { spent = r.1 }) (filled r.0)))
  unfolding laid laid_items onto
  text_laid [] =
      let empty = put s (tree.chars [] true tree.nothing) in
      ap (λ (x : Result State Fault). x >>= closed_in base c 0) (over_nil (step_in entities (reading_in levels entities) names base c) 0 empty)
      ∙ cond-false (nat_lt base base) _ _ (not_less base)
      ∙ ap (λ (x : Result State Fault). x >>= closed c 0 >>= λ r. Ok (put (record s { spent = r.1 }) (filled r.0))) (sym (over_nil (content_step entities (content levels entities) names base c) 0 (begun s.spent)))
  text_laid (d ∷ ds) =
      let text = d ∷ ds in
      let len = length text in
      let step = content_step entities (content levels entities) names base c in
      let went = over step 0 (begun s.spent) text in
      let start_so : s ≡ laid s (begun s.spent) = ap (λ (x : Items). record { opens = s.opens; items = x; spent = s.spent }) (sym (joined_nothing s.items)) in
      let last = λ (r : Items × ℕ). state_in (put (record s { spent = r.1 }) (filled r.0)) in
      ap (λ (x : State). over (step_in entities (reading_in levels entities) names base c) 0 x text >>= closed_in base c len) start_so
      ∙ ap (λ (x : Result State Fault). x >>= closed_in base c len) (over_map (laid s) step (step_in entities (reading_in levels entities) names base c) step_laid 0 (begun s.spent) text)
      ∙ bind_assoc went (λ v. Ok (laid s v)) (closed_in base c len)
      ∙ bind_at went _ _ (λ v is. by v is v.opens refl)
      ∙ sym (bind_assoc went (closed c len) last)
    where
      by : (v : State) → over (content_step entities (content levels entities) names base c) 0 (begun s.spent) (d ∷ ds) ≡ Ok v → (opens : List Open) → v.opens ≡ opens
          → closed_in base c (length (d ∷ ds)) (parts s opens v.items v.spent) ≡ (closed_by c (length (d ∷ ds)) v opens >>= λ r. state_in (put (record s { spent = r.1 }) (filled r.0)))
      by v is [] none =
          let text_so : content (suc levels) entities names base c s.spent (d ∷ ds) ≡ Ok (v.items, v.spent) =
          ap (λ (x : Result State Fault). x >>= closed c (length (d ∷ ds))) is ∙ ap (closed_by c (length (d ∷ ds)) v) none in
          let h = founds takes taken entities (suc levels) names base c s.spent (d ∷ ds) (v.items, v.spent) text_so in
          let full : Full v.items = subst Full (sym h.2) (content_full entities names base h.0 s.spent d ds v.spent h.1) in
          cond-false (nat_lt base base) _ _ (not_less base)
          ∙ ap (λ (x : Items). state_in (record { opens = s.opens; items = joined s.items x; spent = v.spent })) (sym (full_filled v.items full))
      by v is (o ∷ opens) none =
          let e = onto_length s (o ∷ opens) in
          cond-true (nat_lt base (length (onto s (o ∷ opens)))) _ _ (lt-ltb base (length (onto s (o ∷ opens))) (omega (arith, e)))

-- Reading with one state is reading each text by itself, faults included.
pub in_place : (entities : List Entity) (levels : ℕ) (names : Names) (c : Standing) (s : State) (text : List ℕ)
    → reading_in levels entities names c s text ≡ (content levels entities names (length s.opens) c s.spent text >>= λ r. Ok (put (record s { spent = r.1 }) (filled r.0)))
in_place entities zero names c s text = refl
in_place entities (suc levels) names c s text = text_laid entities levels (in_place entities levels) names c s text

-- ---- articles

onto_none : (opens : List Open) → onto (begun 0) opens ≡ opens
unfolding onto
onto_none [] = refl
onto_none (o ∷ []) = refl
onto_none (o ∷ p ∷ opens) = ap (λ (x : List Open). o ∷ x) (onto_none (p ∷ opens))

laid_none : (l : State) → laid (begun 0) l ≡ l
unfolding laid laid_items onto
laid_none l = by l.opens
  where
    by : (opens : List Open) → parts (begun 0) opens l.items l.spent ≡ (let x : State = record { opens = opens; items = l.items; spent = l.spent } in x)
    by [] = refl
    by (o ∷ opens) = ap (λ (x : List Open). record { opens = x; items = l.items; spent = l.spent }) (onto_none (o ∷ opens))

step_placed : (entities : List Entity) (levels : ℕ) (c : Standing) (at : ℕ) (l : State) (text : List ℕ) → step_in entities (reading_in levels entities) [] 0 c at l text ≡ content_step entities (content levels entities) [] 0 c at l text
step_placed entities levels c at l text =
    let step = content_step entities (content levels entities) [] 0 c at l text in
    ap (λ (x : State). step_in entities (reading_in levels entities) [] 0 c at x text) (sym (laid_none l))
    ∙ step_laid entities levels (in_place entities levels) [] c (begun 0) at l text
    ∙ bind_cong step _ _ (λ x. ap (λ (v : State). stepped (v, x.1)) (laid_none x.0))
    ∙ bind_ok step
  where
    stepped : State × ℕ → Result (State × ℕ) Fault
    stepped x = Ok x

steps_placed : (entities : List Entity) (levels : ℕ) (c : Standing) → step_in entities (reading_in levels entities) [] 0 c ≡ content_step entities (content levels entities) [] 0 c
steps_placed entities levels c = λ i at l text. step_placed entities levels c at l text i

-- An article read with one state is the article.
pub article_placed : (entities : List Entity) (article text : List ℕ) → article_in_place entities article text ≡ article_of entities article text
unfolding article_in_place article_of
article_placed entities article text = ap (λ (step : Stepping). article_with step (outermost article) text) (steps_placed entities 32 (outermost article))
