-- What is a content of pieces gives their items.
use Rattle.std.proofs.Common.{◌≡◌, ◌∙◌, ℕ, zero, suc, ◌+◌, ◌-◌, ◌<◌, ◌≤◌, List, [], ◌∷◌, ◌++◌, length, drop, Bool, true, false, cond, Option, Some, None, Result, Ok, refl, ap, sym, subst, arith, append_assoc, append-nil, length-append, ⊎_elim, bytes_eq}
use Rattle.std.specs.Prelude.{IsTrue, nat_lt}
use Rattle.std.specs.Map.{lookup}
use Rattle.std.proofs.lemmas.Slice.Eq.{bytes_eq-Decides}
use Rattle.std.proofs.lemmas.Bool.{cond-true, cond-false, lt-ltb, ltb-true, false≢true, false_from_ne_true}
use Rattle.jats_chars.specs.Classes.{is_space}
use Rattle.dtd_scanner.specs.Walk.{◌>>=◌, over}
use Rattle.dtd_scanner.proofs.Walking.{bind_assoc, bind_ok}
use Rattle.pe_expansion.specs.Opening.{is_open, most_included}
use Rattle.jats_fault.specs.declared.fault.Fault.{Fault}
use Rattle.document_trees.specs.Trees.{Attribute, Items}
use Rattle.document_trees.specs.Trees as tree
use Rattle.decl_set.specs.Declarations.{Entity}
use Rattle.decl_set.specs.Values.{predefined, opening, entity_opened}
use Rattle.decl_set.specs.declared.entity.EntityDef.{EntityDef}
use Rattle.decl_set.specs.declared.entity.EntityDef.TheVariants.{Internal, External, Unparsed}
use Rattle.decl_set.specs.declared.faults.ValueFault.{ValueFault}
use Rattle.article_tree.specs.Content.{joined, filled, Pieces, nothing, element, chars, comment, pi, included, items_of}
use Rattle.article_tree.specs.Tokens.{Raw, Tag, Token, letter, section, coded, named, remark, instruction, start, stop, Begins}
use Rattle.article_tree.specs.Taking.{first_token}
use Rattle.article_tree.specs.Stops.{Standing, standing_in, stopped}
use Rattle.article_tree.specs.Words.{Names, most_elements, repeated}
use Rattle.article_tree.specs.Reading.{Open, State, put, with_first, values, entered, unrepeated, ended, referred, done, by_token, content_step, closed, begun, content}
use Rattle.article_tree.specs.Grammar.{Opens, predefined_characters, characters, AreValues, IsContent}
use Rattle.article_tree.proofs.Joining.{joined_nothing, joined_assoc}
use Rattle.article_tree.proofs.Walks.{over_nil}
use Rattle.dtd_scanner.proofs.Walking.{over_next}
use Rattle.article_tree.proofs.Seams.{Seam, extends, goes_on, goes, stop_seam}

same_bytes : (x : List ℕ) → bytes_eq x x ≡ true
same_bytes x = (bytes_eq-Decides x x).1 refl

-- the tokens that are computed are those of the grammar
abbrev pub Takes : Type 0
Takes = (token : Token) (text rest : List ℕ) → Begins token text rest → first_token text ≡ Some (token, rest)

-- where an entity is opened, there is room
pub choose_ok : {A F : Type 0} (P : Type 0) (b : Bool) (x y : Result A F) (r : A) → cond b x y ≡ Ok r → (b ≡ true → x ≡ Ok r → P) → (b ≡ false → y ≡ Ok r → P) → P
choose_ok P true x y r e f g = f refl e
choose_ok P false x y r e f g = g refl e

pub opens_given : (entities : List Entity) (names : Names) (before : ℕ) (name text : List ℕ) (after : ℕ) → Opens entities names before name text after → opening entities names before name ≡ Ok (text, after)
unfolding opening
opens_given entities names before name text after is =
    let few : nat_lt most_included (before + length text) ≡ false = false_from_ne_true (nat_lt most_included (before + length text)) (λ over. let h = ltb-true most_included (before + length text) over in absurd (omega (arith, h, is.counted, is.within))) in
    ap (entity_opened names before name) is.declared
    ∙ cond-false (is_open names name) _ _ is.closed
    ∙ cond-true (nat_lt (length names) 32) _ _ (lt-ltb (length names) 32 is.few)
    ∙ cond-false (nat_lt most_included (before + length text)) _ _ few
    ∙ ap (λ (n : ℕ). Ok (text, n)) (sym is.counted)

opened_found : (names : Names) (before : ℕ) (name : List ℕ) (o : Option EntityDef) (r : List ℕ × ℕ) → entity_opened names before name o ≡ Ok r
    → (o ≡ Some (Internal r.0)) × (is_open names name ≡ false) × (length names < 32) × (r.1 ≡ before + length r.0) × (r.1 ≤ most_included)
opened_found names before name None r e = cc
opened_found names before name (Some (External ids)) r e = cc
opened_found names before name (Some (Unparsed ids notation)) r e = cc
opened_found names before name (Some (Internal text)) r e =
    let P = λ (r : List ℕ × ℕ). (Some (Internal text) ≡ Some (Internal r.0)) × (is_open names name ≡ false) × (length names < 32) × (r.1 ≡ before + length r.0) × (r.1 ≤ most_included) in
    choose_ok (P r) (is_open names name) _ _ r e (λ is f. cc)
    (λ new f. choose_ok (P r) (nat_lt (length names) 32) _ _ r f
    (λ room g. choose_ok (P r) (nat_lt most_included (before + length text)) _ _ r g (λ over h. cc)
    (λ fits h. let same : (text, before + length text) ≡ r = cc in subst P same (refl, new, ltb-true (length names) 32 room, refl, not_less fits)))
    (λ full g. cc))
  where
    le_of_not_lt : (n m : ℕ) → (m < n → ⊥) → n ≤ m
    le_of_not_lt n m none = omega (arith, none)

    not_less : nat_lt most_included (before + length text) ≡ false → before + length text ≤ most_included
    not_less fits = le_of_not_lt (before + length text) most_included (λ more. false≢true (sym fits ∙ lt-ltb most_included (before + length text) more))

pub opens_found : (entities : List Entity) (names : Names) (before : ℕ) (name text : List ℕ) (after : ℕ) → opening entities names before name ≡ Ok (text, after) → Opens entities names before name text after
unfolding opening
opens_found entities names before name text after e =
    let h = opened_found names before name (lookup (bytes_eq name) entities) (text, after) e in
    record { declared = h.0; closed = h.1; few = h.2; counted = h.3; within = h.4 }

pub values_given : (entities : List Entity) (names : Names) (c : Standing) (at before : ℕ) (raws : List Raw) (atts : List Attribute) (after : ℕ) → AreValues entities names before raws atts after
    → values entities names c at before raws ≡ Ok (atts, after)
values_given entities names c at before [] [] after is = ap (λ (n : ℕ). Ok ([], n)) is
values_given entities names c at before [] (att ∷ atts) after is = absurd is
values_given entities names c at before (raw ∷ raws) [] after is = absurd is
values_given entities names c at before (raw ∷ raws) (att ∷ atts) after (mid, name, value, others) =
    ap (λ (x : Result _ ValueFault). stopped c at raw.0 x >>= λ w. values entities names c at w.spent raws >>= λ r. Ok (with_first raw.0 w r)) value
    ∙ ap (λ (x : Result (List Attribute × ℕ) Fault). x >>= λ r. Ok (with_first raw.0 (record { text = att.1; spent = mid }) r)) (values_given entities names c at mid raws atts after others)
    ∙ ap (λ (n : List ℕ). Ok ((n, att.1) ∷ atts, after)) name

-- content is read where elements are open, and where it may be outside of all
abbrev pub Enters : Bool → List Open → Type 0
Enters free [] = IsTrue free
Enters free (o ∷ opens) = Unit {0}

module _ (entities : List Entity) where
  abbrev pub Step : ℕ → Names → ℕ → Standing → ℕ → State → List ℕ → Result (State × ℕ) Fault
  Step levels names depth c = content_step entities (content levels entities) names depth c

  -- a reader that reads content, by states of its own
  pub record Reader (levels : ℕ) (names : Names) (depth : ℕ) (c : Standing) : Type 1 where
    pub S : Type 0
    pub held : State → S
    pub step : ℕ → S → List ℕ → Result (S × ℕ) Fault
    pub free : Bool
    pub runs : (at : ℕ) (s : State) (text : List ℕ) → Enters free s.opens → step at (held s) text ≡ (Step levels names depth c at s text >>= λ x. Ok (held x.0, x.1))

  -- the reader of contents
  abbrev pub plain_reader : (levels : ℕ) (names : Names) (depth : ℕ) (c : Standing) → Reader levels names depth c
  plain_reader levels names depth c = record { S = State; held = λ s. s; step = Step levels names depth c; free = true; runs = λ at s text enters. sym (bind_ok (Step levels names depth c at s text)) }

module _ (takes : Takes) (entities : List Entity) where
  module _ (levels : ℕ) (names : Names) (depth : ℕ) (c : Standing) (w : Reader entities levels names depth c) where
    -- a token, and then the rest
    pub token_next : (at : ℕ) (s : State) (token : Token) (text rest : List ℕ) → Enters w.free s.opens → Begins token text rest
        → over w.step at (w.held s) text ≡ (done entities (content levels entities) names depth c at s token >>= λ v. over w.step (at + (length text - length rest)) (w.held v) rest)
    token_next at s token text rest enters begins =
        let far = goes token text rest begins in
        let n = length text - length rest in
        let did = done entities (content levels entities) names depth c at s token in
        over_next w.step at n (w.held s) text (did >>= λ v. Ok (w.held v)) (omega (arith, far.1)) far.0
        (w.runs at s text enters
        ∙ ap (λ (o : Option (Token × List ℕ)). by_token entities (content levels entities) names depth c at s text o >>= λ x. Ok (w.held x.0, x.1)) (takes token text rest begins)
        ∙ bind_assoc did (λ v. Ok (v, n)) (λ x. Ok (w.held x.0, x.1))
        ∙ sym (bind_assoc did (λ v. Ok (w.held v)) (λ v. Ok (v, n))))
        ∙ bind_assoc did (λ v. Ok (w.held v)) (λ v. over w.step (at + n) v (drop n text))
        ∙ ap (λ (t : List ℕ). did >>= λ v. over w.step (at + n) (w.held v) t) far.2

    pub token_done : (at : ℕ) (s v : State) (token : Token) (text rest : List ℕ) → Enters w.free s.opens → Begins token text rest → done entities (content levels entities) names depth c at s token ≡ Ok v
        → over w.step at (w.held s) text ≡ over w.step (at + (length text - length rest)) (w.held v) rest
    token_done at s v token text rest enters begins is =
        token_next at s token text rest enters begins ∙ ap (λ (x : Result State Fault). x >>= λ v. over w.step (at + (length text - length rest)) (w.held v) rest) is

  module _ (levels : ℕ) (names : Names) (depth : ℕ) (c : Standing) where
    -- characters are put
    chars_done : (at : ℕ) (s : State) (token : Token) (x : List ℕ × Bool) → characters token ≡ Some x
        → done entities (content levels entities) names depth c at s token ≡ Ok (put s (tree.chars x.0 x.1 tree.nothing))
    chars_done at s token x = by token
      where
        put_one : List ℕ × Bool → Result State Fault
        put_one z = Ok (put s (tree.chars z.0 z.1 tree.nothing))

        given : (y : List ℕ × Bool) → Some y ≡ Some x → put_one y ≡ put_one x
        given y e = let same : y ≡ x = cc in ap put_one same

        by_name : (name : List ℕ) (o : Option ℕ) → predefined_characters o ≡ Some x
            → referred entities (content levels entities) names depth c at s name o ≡ Ok (put s (tree.chars x.0 x.1 tree.nothing))
        by_name name (Some d) e = given (d ∷ [], false) e
        by_name name None e = cc

        by : (token : Token) → characters token ≡ Some x → done entities (content levels entities) names depth c at s token ≡ Ok (put s (tree.chars x.0 x.1 tree.nothing))
        by (letter d) e = given (d ∷ [], is_space d) e
        by (section inside) e = given (inside, false) e
        by (coded d) e = given (d ∷ [], false) e
        by (named name) e = by_name name (predefined name) e
        by (remark inside) e = cc
        by (instruction target body) e = cc
        by (start tag) e = cc
        by (stop name) e = cc

  -- a content gives the items of its pieces, and goes on behind it
  abbrev pub Gives : Pieces → Type 1
  Gives p = (levels : ℕ) (names : Names) (depth around : ℕ) (c : Standing) (w : Reader entities levels names around c) (at : ℕ) (s : State) (text : List ℕ) (after : ℕ) (more : List ℕ)
      → levels + length names ≡ 32 → depth ≡ around + length s.opens → Seam more → Enters w.free s.opens → IsContent entities names depth p s.spent text after
      → (end : ℕ) × (over w.step at (w.held s) (text ++ more) ≡ over w.step end (w.held (record { opens = s.opens; items = joined s.items (items_of p); spent = after })) more)

  -- one piece, and then later ones
  then_later : (later : Pieces) → Gives later → (levels : ℕ) (names : Names) (depth around : ℕ) (c : Standing) (w : Reader entities levels names around c) (at : ℕ) (s : State) (one : Items) (spent : ℕ) (token : Token) (text rest : List ℕ) (after : ℕ) (more : List ℕ)
      → levels + length names ≡ 32 → depth ≡ around + length s.opens → Seam more → Enters w.free s.opens → Begins token text rest
      → done entities (content levels entities) names around c at s token ≡ Ok (put (record s { spent = spent }) one) → IsContent entities names depth later spent rest after
      → (end : ℕ) × (over w.step at (w.held s) (text ++ more) ≡ over w.step end (w.held (record { opens = s.opens; items = joined s.items (joined one (items_of later)); spent = after })) more)
  then_later later gives levels names depth around c w at s one spent token text rest after more room deep seam enters begins is rest_is =
      let v : State = put (record s { spent = spent }) one in
      let next = at + (length (text ++ more) - length (rest ++ more)) in
      let h = gives levels names depth around c w next v rest after more room deep seam enters rest_is in (
        h.0,
        token_done levels names around c w at s v token (text ++ more) (rest ++ more) enters (extends token text rest more seam begins) is ∙ h.1
            ∙ ap (λ (x : Items). over w.step h.0 (w.held (record { opens = s.opens; items = x; spent = after })) more) (joined_assoc s.items one (items_of later)),
      )

  -- the tag of an element
  pub tag_done : (levels : ℕ) (names : Names) (depth around : ℕ) (c : Standing) (at : ℕ) (s : State) (name : List ℕ) (raws : List Raw) (is_closed : Bool) (atts : List Attribute) (mid : ℕ)
      → depth ≡ around + length s.opens → AreValues entities names s.spent raws atts mid → repeated [] atts ≡ None → depth < most_elements
      → done entities (content levels entities) names around c at s (start (record { name = name; atts = raws; closed = is_closed })) ≡ Ok (entered s name atts mid is_closed)
  tag_done levels names depth around c at s name raws is_closed atts mid deep values_are once room =
      let tag : Tag = record { name = name; atts = raws; closed = is_closed } in
      ap (λ (x : Result (List Attribute × ℕ) Fault). x >>= λ r. unrepeated around c at s tag r.0 r.1 (repeated [] r.0)) (values_given entities names c at s.spent raws atts mid values_are)
      ∙ ap (unrepeated around c at s tag atts mid) once
      ∙ cond-true (nat_lt (around + length s.opens) most_elements) _ _ (lt-ltb (around + length s.opens) most_elements (omega (arith, deep, room)))

  -- an end tag of the same name
  stop_done : (around : ℕ) (c : Standing) (at : ℕ) (s : State) (o : Open) (opens : List Open)
      → ended c at s o.name (o ∷ opens) ≡ Ok (record { opens = opens; items = joined o.before (tree.element o.name o.atts s.items tree.nothing); spent = s.spent })
  stop_done around c at s o opens = cond-true (bytes_eq o.name o.name) _ _ (same_bytes o.name)

  -- what stands in an element, and its end tag
  pub inside_across : (inside : Pieces) → Gives inside → (levels : ℕ) (names : Names) (depth around : ℕ) (c : Standing) (w : Reader entities levels names around c) (at : ℕ) (s : State) (name : List ℕ) (atts : List Attribute) (mid spent : ℕ)
      → (behind text_inside from_end rest more : List ℕ) → levels + length names ≡ 32 → depth ≡ around + length s.opens
      → IsContent entities names (suc depth) inside mid text_inside spent → behind ≡ text_inside ++ from_end → Begins (stop name) from_end rest
      → (end : ℕ) × (over w.step at (w.held (record { opens = record { name = name; atts = atts; before = s.items } ∷ s.opens; items = tree.nothing; spent = mid })) (behind ++ more)
      ≡ over w.step end (w.held (record { opens = s.opens; items = joined s.items (tree.element name atts (items_of inside) tree.nothing); spent = spent })) (rest ++ more))
  inside_across inside gives levels names depth around c w at s name atts mid spent behind text_inside from_end rest more room deep inner split stops =
      let o : Open = record { name = name; atts = atts; before = s.items } in
      let one : State = record { opens = o ∷ s.opens; items = tree.nothing; spent = mid } in
      let stops_on = goes_on (stop name) from_end rest more tt stops in
      let h = gives levels names (suc depth) around c w at one text_inside spent (from_end ++ more) room (omega (arith, deep)) (stop_seam name (from_end ++ more) (rest ++ more) stops_on) tt inner in
      let two : State = record { opens = o ∷ s.opens; items = items_of inside; spent = spent } in
      let three : State = record { opens = s.opens; items = joined s.items (tree.element name atts (items_of inside) tree.nothing); spent = spent } in (
        h.0 + (length (from_end ++ more) - length (rest ++ more)),
        ap (over w.step at (w.held one)) (ap (λ t. t ++ more) split ∙ append_assoc text_inside from_end more)
            ∙ h.1
            ∙ token_done levels names around c w h.0 two three (stop name) (from_end ++ more) (rest ++ more) tt stops_on (stop_done around c h.0 two o s.opens),
      )

  -- an element that is not empty
  around_inside : (inside later : Pieces) → Gives inside → Gives later → (levels : ℕ) (names : Names) (depth around : ℕ) (c : Standing) (w : Reader entities levels names around c) (at : ℕ) (s : State) (name : List ℕ) (raws : List Raw) (atts : List Attribute) (mid spent : ℕ)
      → (text behind text_inside from_end rest : List ℕ) (after : ℕ) (more : List ℕ) → levels + length names ≡ 32 → depth ≡ around + length s.opens → Seam more → Enters w.free s.opens
      → Begins (start (record { name = name; atts = raws; closed = false })) text behind → AreValues entities names s.spent raws atts mid → repeated [] atts ≡ None → depth < most_elements
      → IsContent entities names (suc depth) inside mid text_inside spent → behind ≡ text_inside ++ from_end → Begins (stop name) from_end rest → IsContent entities names depth later spent rest after
      → (end : ℕ) × (over w.step at (w.held s) (text ++ more) ≡ over w.step end (w.held (record { opens = s.opens; items = joined s.items (tree.element name atts (items_of inside) (items_of later)); spent = after })) more)
  around_inside inside later gives_inside gives_later levels names depth around c w at s name raws atts mid spent text behind text_inside from_end rest after more room deep seam enters begins values_are once few inner split stops outer =
      let tag : Tag = record { name = name; atts = raws; closed = false } in
      let first = at + (length (text ++ more) - length (behind ++ more)) in
      let h = inside_across inside gives_inside levels names depth around c w first s name atts mid spent behind text_inside from_end rest more room deep inner split stops in
      let three : State = record { opens = s.opens; items = joined s.items (tree.element name atts (items_of inside) tree.nothing); spent = spent } in
      let k = gives_later levels names depth around c w h.0 three rest after more room deep seam enters outer in (
        k.0,
        token_done levels names around c w at s (entered s name atts mid false) (start tag) (text ++ more) (behind ++ more) enters
            (extends (start tag) text behind more seam begins) (tag_done levels names depth around c at s name raws false atts mid deep values_are once few)
            ∙ h.1 ∙ k.1
            ∙ ap (λ (x : Items). over w.step k.0 (w.held (record { opens = s.opens; items = x; spent = after })) more) (joined_assoc s.items (tree.element name atts (items_of inside) tree.nothing) (items_of later)),
      )

  -- a text that is included
  pub text_given : (inside : Pieces) → Gives inside → (levels : ℕ) (names : Names) (depth : ℕ) (c : Standing) (before : ℕ) (text : List ℕ) (after : ℕ)
      → levels + length names ≡ 33 → length names ≤ 32 → IsContent entities names depth inside before text after → content levels entities names depth c before text ≡ Ok (items_of inside, after)
  text_given inside gives zero names depth c before text after room few is = absurd (omega arith)
  text_given inside gives (suc levels) names depth c before text after room few is =
      let h = gives levels names depth depth c (plain_reader entities levels names depth c) 0 (begun before) text after [] (omega arith) (omega arith) tt refl is in
      ap (λ (x : Result State Fault). x >>= closed c (length text))
      (ap (over (Step entities levels names depth c) 0 (begun before)) (sym (append-nil text)) ∙ h.1 ∙ over_nil (Step entities levels names depth c) h.0 (record { opens = []; items = items_of inside; spent = after }))

  -- a reference to an entity
  reference_done : (inside : Pieces) → Gives inside → (levels : ℕ) (names : Names) (depth around : ℕ) (c : Standing) (at : ℕ) (s : State) (name replacement : List ℕ) (opened mid : ℕ)
      → levels + length names ≡ 32 → depth ≡ around + length s.opens → predefined name ≡ None → Opens entities names s.spent name replacement opened
      → IsContent entities (names ++ name ∷ []) depth inside opened replacement mid
      → done entities (content levels entities) names around c at s (named name) ≡ Ok (put (record s { spent = mid }) (filled (items_of inside)))
  reference_done inside gives levels names depth around c at s name replacement opened mid room deep other opens is =
      let names_inside = names ++ name ∷ [] in
      let longer : length names_inside ≡ length names + 1 = length-append names (name ∷ []) in
      let few = opens.few in
      let is_inside = subst (λ d. IsContent entities names_inside d inside opened replacement mid) deep is in
      ap (referred entities (content levels entities) names around c at s name) other
      ∙ ap (λ (x : Result (List ℕ × ℕ) ValueFault). stopped c at name x
      >>= λ t. content levels entities names_inside (around + length s.opens) (standing_in c at name) t.1 t.0
      >>= λ r. Ok (put (record s { spent = r.1 }) (filled r.0))) (opens_given entities names s.spent name replacement opened opens)
      ∙ ap (λ (x : Result (Items × ℕ) Fault). x >>= λ r. Ok (put (record s { spent = r.1 }) (filled r.0)))
      (text_given inside gives levels names_inside (around + length s.opens) (standing_in c at name) opened replacement mid (omega (arith, longer, room)) (omega (arith, longer, few)) is_inside)

  pub gives : (p : Pieces) → Gives p
  gives nothing = λ levels names depth around c w at s text after more room deep seam enters is. (
    at,
    ap (λ (t : List ℕ). over w.step at (w.held s) (t ++ more)) is.0
        ∙ ap (λ (x : Items). over w.step at (w.held (record { opens = s.opens; items = x; spent = s.spent })) more) (sym (joined_nothing s.items))
        ∙ ap (λ (n : ℕ). over w.step at (w.held (record { opens = s.opens; items = joined s.items tree.nothing; spent = n })) more) is.1,
  )
  gives (chars some plain later) = λ levels names depth around c w at s text after more room deep seam enters is.
      then_later later (gives later) levels names depth around c w at s (tree.chars some plain tree.nothing) s.spent is.0 text is.1 after more room deep seam enters is.2
      (chars_done levels names around c at s is.0 (some, plain) is.3) is.4
  gives (comment inside later) = λ levels names depth around c w at s text after more room deep seam enters is.
      then_later later (gives later) levels names depth around c w at s (tree.comment inside tree.nothing) s.spent (remark inside) text is.0 after more room deep seam enters is.1 refl is.2
  gives (pi target body later) = λ levels names depth around c w at s text after more room deep seam enters is.
      then_later later (gives later) levels names depth around c w at s (tree.pi target body tree.nothing) s.spent (instruction target body) text is.0 after more room deep seam enters is.1 refl is.2
  gives (element name atts inside later) = λ levels names depth around c w at s text after more room deep seam enters (raws, is_closed, behind, mid, begins, values_are, once, few, or).
      ⊎_elim
      (λ empty.
      let begins_closed = subst (λ b. Begins (start (record { name = name; atts = raws; closed = b })) text behind) empty.0 begins in
      let h = then_later later (gives later) levels names depth around c w at s (tree.element name atts tree.nothing tree.nothing) mid (start (record { name = name; atts = raws; closed = true })) text behind after more
      room deep seam enters begins_closed (tag_done levels names depth around c at s name raws true atts mid deep values_are once few) empty.2 in
      (h.0, h.1 ∙ ap (λ (x : Pieces). over w.step h.0 (w.held (record { opens = s.opens; items = joined s.items (tree.element name atts (items_of x) (items_of later)); spent = after })) more) (sym empty.1)))
      (λ full.
      around_inside inside later (gives inside) (gives later) levels names depth around c w at s name raws atts mid full.3 text behind full.0 full.1 full.2 after more room deep seam enters
      (subst (λ b. Begins (start (record { name = name; atts = raws; closed = b })) text behind) full.4 begins) values_are once few full.5 full.6 full.7 full.8)
      or
  gives (included name inside later) = λ levels names depth around c w at s text after more room deep seam enters (rest, replacement, opened, mid, begins, other, opens, inner, outer).
      then_later later (gives later) levels names depth around c w at s (filled (items_of inside)) mid (named name) text rest after more room deep seam enters begins
      (reference_done inside (gives inside) levels names depth around c at s name replacement opened mid room deep other opens inner) outer
