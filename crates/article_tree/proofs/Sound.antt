-- What gives items is a content of pieces that have them.
use Rattle.std.proofs.Common.{◌≡◌, ◌∙◌, ◌⊎◌, ℕ, zero, suc, ◌+◌, ◌-◌, ◌<◌, ◌≤◌, List, [], ◌∷◌, ◌++◌, length, Bool, true, false, cond, Option, Some, None, Result, Ok, Err, refl, ap, sym, subst, arith, append_assoc, append-nil, ⊎_elim, inl, inr, bytes_eq}
use Rattle.std.specs.Prelude.{IsTrue, nat_lt}
use Rattle.std.proofs.lemmas.Slice.Eq.{bytes_eq-Decides}
use Rattle.std.proofs.lemmas.Bool.{ltb-true, false≢true}
use Rattle.jats_chars.specs.Classes.{is_space}
use Rattle.dtd_scanner.specs.Walk.{◌>>=◌, over}
use Rattle.jats_fault.specs.declared.fault.Fault.{Fault}
use Rattle.document_trees.specs.Trees.{Attribute, Items}
use Rattle.document_trees.specs.Trees as tree
use Rattle.decl_set.specs.Declarations.{Entity}
use Rattle.decl_set.specs.Values.{value_of, predefined, opening}
use Rattle.decl_set.specs.declared.faults.ValueFault.{ValueFault}
use Rattle.article_tree.specs.Content.{joined, filled, Pieces, nothing, element, chars, comment, pi, included, items_of}
use Rattle.article_tree.specs.Tokens.{Raw, Tag, Token, letter, section, coded, named, remark, instruction, start, stop, Begins}
use Rattle.article_tree.specs.Taking.{first_token}
use Rattle.article_tree.specs.Stops.{Standing, standing_in, stopped, malformed}
use Rattle.article_tree.specs.Words.{Names, most_elements, repeated}
use Rattle.article_tree.specs.Reading.{Open, State, put, with_first, values, entered, unrepeated, ended, referred, done, by_token, closed_by, begun, content}
use Rattle.article_tree.specs.Grammar.{Opens, predefined_characters, characters, AreValues, IsContent}
use Rattle.article_tree.proofs.Joining.{joined_nothing, joined_assoc}
use Rattle.article_tree.proofs.Walks.{over_fault, over_nil}
use Rattle.article_tree.proofs.Seams.{restricts, goes}
use Rattle.article_tree.proofs.Complete.{Takes, Enters, Step, Reader, plain_reader, token_next, opens_found}

-- a token that is computed is one of the grammar
abbrev pub Taken : Type 0
Taken = (token : Token) (text rest : List ℕ) → first_token text ≡ Some (token, rest) → Begins token text rest

-- ---- inversions

pub not_both : {A F : Type 0} (e : F) (x : A) → ¬ (Err e ≡ Ok x)
not_both e x is = cc

pub bind_inverts : {A B F : Type 0} (x : Result A F) (f : A → Result B F) (y : B) → (x >>= f) ≡ Ok y → (a : A) × (x ≡ Ok a) × (f a ≡ Ok y)
bind_inverts (Ok a) f y e = (a, refl, e)
bind_inverts (Err e') f y e = cc

stopped_inverts : {X : Type 0} (c : Standing) (at : ℕ) (name : List ℕ) (x : Result X ValueFault) (y : X) → stopped c at name x ≡ Ok y → x ≡ Ok y
stopped_inverts c at name (Ok x) y e = let same : x ≡ y = cc in ap Ok same
stopped_inverts c at name (Err fault) y e = cc

pub if_inverts : {A F : Type 0} (b : Bool) (x : Result A F) (e : F) (y : A) → cond b x (Err e) ≡ Ok y → (b ≡ true) × (x ≡ Ok y)
if_inverts true x e y is = (refl, is)
if_inverts false x e y is = cc

pub values_are : (entities : List Entity) (names : Names) (c : Standing) (at before : ℕ) (raws : List Raw) (r : List Attribute × ℕ) → values entities names c at before raws ≡ Ok r → AreValues entities names before raws r.0 r.1
values_are entities names c at before [] r e = let same : ([], before) ≡ r = cc in subst (λ (r : List Attribute × ℕ). AreValues entities names before [] r.0 r.1) same refl
values_are entities names c at before (raw ∷ raws) r e =
    let first = bind_inverts (stopped c at raw.0 (value_of entities names before raw.1)) _ r e in
    let w = first.0 in
    let value = stopped_inverts c at raw.0 (value_of entities names before raw.1) w first.1 in
    let others = bind_inverts (values entities names c at w.spent raws) _ r first.2 in
    let same : with_first raw.0 w others.0 ≡ r = (let f = others.2 in cc) in
    let are : AreValues entities names before (raw ∷ raws) ((raw.0, w.text) ∷ others.0.0) others.0.1 = (w.spent, refl, value, values_are entities names c at w.spent raws others.0 others.1) in
    subst (λ (r : List Attribute × ℕ). AreValues entities names before (raw ∷ raws) r.0 r.1) same are

-- content is read there, or it stands outside of all elements
stands : (free : Bool) (opens : List Open) → Enters free opens ⊎ ((opens ≡ []) × (free ≡ false))
stands true [] = inl refl
stands false [] = inr (refl, refl)
stands free (o ∷ opens) = inl tt

abbrev state_ok : State → Result State Fault
state_ok s = Ok s

module _ (entities : List Entity) where
  module _ (names : Names) where
    -- a piece that stands in front of what follows, wherever that ends
    pub record Fronts (depth : ℕ) (wrap : Pieces → Pieces) (one : Items) (before mid : ℕ) (text rest : List ℕ) : Type 0 where
      pub gives : (p : Pieces) → items_of (wrap p) ≡ joined one (items_of p)
      pub stands : (inside more : List ℕ) → rest ≡ inside ++ more → (front : List ℕ) × (text ≡ front ++ more)
          × ((p : Pieces) (after : ℕ) → IsContent entities names depth p mid inside after → IsContent entities names depth (wrap p) before front after)

    -- ---- the pieces

    chars_front : (depth : ℕ) (token : Token) (some : List ℕ) (plain : Bool) (before : ℕ) (text rest : List ℕ) → Begins token text rest → characters token ≡ Some (some, plain)
        → Fronts depth (chars some plain) (tree.chars some plain tree.nothing) before before text rest
    chars_front depth token some plain before text rest begins is = record {
      gives = λ p. refl;
      stands = λ inside more split.
          let r = restricts token text inside more (subst (Begins token text) split begins) in
          (r.front ++ inside, r.form, (λ p after content. (token, inside, r.begins, is, content)));
    }

    comment_front : (depth : ℕ) (some : List ℕ) (before : ℕ) (text rest : List ℕ) → Begins (remark some) text rest → Fronts depth (comment some) (tree.comment some tree.nothing) before before text rest
    comment_front depth some before text rest begins = record {
      gives = λ p. refl;
      stands = λ inside more split.
          let r = restricts (remark some) text inside more (subst (Begins (remark some) text) split begins) in
          (r.front ++ inside, r.form, (λ p after content. (inside, r.begins, content)));
    }

    pi_front : (depth : ℕ) (target body : List ℕ) (before : ℕ) (text rest : List ℕ) → Begins (instruction target body) text rest → Fronts depth (pi target body) (tree.pi target body tree.nothing) before before text rest
    pi_front depth target body before text rest begins = record {
      gives = λ p. refl;
      stands = λ inside more split.
          let r = restricts (instruction target body) text inside more (subst (Begins (instruction target body) text) split begins) in
          (r.front ++ inside, r.form, (λ p after content. (inside, r.begins, content)));
    }

    pub empty_front : (depth : ℕ) (name : List ℕ) (raws : List Raw) (atts : List Attribute) (before mid : ℕ) (text rest : List ℕ) → Begins (start (record { name = name; atts = raws; closed = true })) text rest
        → AreValues entities names before raws atts mid → repeated [] atts ≡ None → depth < most_elements
        → Fronts depth (element name atts nothing) (tree.element name atts tree.nothing tree.nothing) before mid text rest
    empty_front depth name raws atts before mid text rest begins values once few = record {
      gives = λ p. refl;
      stands = λ inside more split.
          let token = start (record { name = name; atts = raws; closed = true }) in
          let r = restricts token text inside more (subst (Begins token text) split begins) in
          (r.front ++ inside, r.form, (λ p after content. (raws, true, inside, mid, r.begins, values, once, few, inl (refl, refl, content))));
    }

    pub element_front : (depth : ℕ) (name : List ℕ) (raws : List Raw) (atts : List Attribute) (before mid spent : ℕ) (text behind text_inside from_end rest : List ℕ) (q : Pieces)
        → Begins (start (record { name = name; atts = raws; closed = false })) text behind → AreValues entities names before raws atts mid → repeated [] atts ≡ None → depth < most_elements
        → IsContent entities names (suc depth) q mid text_inside spent → behind ≡ text_inside ++ from_end → Begins (stop name) from_end rest
        → Fronts depth (element name atts q) (tree.element name atts (items_of q) tree.nothing) before spent text rest
    element_front depth name raws atts before mid spent text behind text_inside from_end rest q begins values once few content inner stops = record {
      gives = λ p. refl;
      stands = λ inside more split.
          let token = start (record { name = name; atts = raws; closed = false }) in
          let e = restricts (stop name) from_end inside more (subst (Begins (stop name) from_end) split stops) in
          let whole : behind ≡ (text_inside ++ (e.front ++ inside)) ++ more = inner ∙ ap (λ t. text_inside ++ t) e.form ∙ sym (append_assoc text_inside (e.front ++ inside) more) in
          let r = restricts token text (text_inside ++ (e.front ++ inside)) more (subst (Begins token text) whole begins) in (
            r.front ++ (text_inside ++ (e.front ++ inside)),
            r.form,
            (λ p after outer. (raws, false, text_inside ++ (e.front ++ inside), mid, r.begins, values, once, few, inr (text_inside, e.front ++ inside, inside, spent, refl, content, refl, e.begins, outer))),
          );
    }

    included_front : (depth : ℕ) (name replacement : List ℕ) (opened before mid : ℕ) (text rest : List ℕ) (q : Pieces) → Begins (named name) text rest → predefined name ≡ None
        → Opens entities names before name replacement opened → IsContent entities (names ++ name ∷ []) depth q opened replacement mid
        → Fronts depth (included name q) (filled (items_of q)) before mid text rest
    included_front depth name replacement opened before mid text rest q begins other opens content = record {
      gives = λ p. refl;
      stands = λ inside more split.
          let r = restricts (named name) text inside more (subst (Begins (named name) text) split begins) in
          (r.front ++ inside, r.form, (λ p after outer. (inside, replacement, opened, mid, r.begins, other, opens, content, outer)));
    }

  module _ (names : Names) (around : ℕ) (free : Bool) (Base : Items → ℕ → List ℕ → Type 0) where
    -- what is left of the text ends the elements that are open, and what stands between is content; behind them all stands what may
    abbrev pub Finishes : List Open → Items → ℕ → List ℕ → Type 0
    Finishes [] items before text = Base items before text
    Finishes (o ∷ opens) items before text =
        (p : Pieces) × (inside : List ℕ) × (from_end : List ℕ) × (rest : List ℕ) × (mid : ℕ)
        × IsContent entities names (around + length (o ∷ opens)) p before inside mid × (text ≡ inside ++ from_end) × Begins (stop o.name) from_end rest
        × Finishes opens (joined o.before (tree.element o.name o.atts (joined items (items_of p)) tree.nothing)) mid rest

    -- a piece may stand in front of what stands outside of all elements
    abbrev pub BaseFronts : Type 0
    BaseFronts = IsTrue free → (wrap : Pieces → Pieces) (one items : Items) (before mid : ℕ) (text rest : List ℕ) → Fronts names around wrap one before mid text rest → Base (joined items one) mid rest → Base items before text

    in_front : BaseFronts → (opens : List Open) → Enters free opens → (wrap : Pieces → Pieces) (one items : Items) (before mid : ℕ) (text rest : List ℕ)
        → Fronts names (around + length opens) wrap one before mid text rest → Finishes opens (joined items one) mid rest → Finishes opens items before text
    in_front base [] enters wrap one items before mid text rest fronts finishes =
        let none : around + length {A = Open} [] ≡ around = omega arith in
        base enters wrap one items before mid text rest (subst (λ d. Fronts names d wrap one before mid text rest) none fronts) finishes
    in_front base (o ∷ opens) enters wrap one items before mid text rest fronts (p, inside, from_end, behind, spent, is, split, stops, finishes) =
        let h = fronts.stands inside from_end split in
        let same : joined (joined items one) (items_of p) ≡ joined items (items_of (wrap p)) = joined_assoc items one (items_of p) ∙ ap (joined items) (sym (fronts.gives p)) in (
          wrap p,
          h.0,
          from_end,
          behind,
          spent,
          h.2 p spent is,
          h.1,
          stops,
          subst (λ x. Finishes opens (joined o.before (tree.element o.name o.atts x tree.nothing)) spent behind) same finishes,
        )

module _ (takes : Takes) (taken : Taken) (entities : List Entity) where
  -- what a text gives at this level is that of pieces
  abbrev pub Founded : ℕ → Type 0
  Founded levels = (names : Names) (depth : ℕ) (c : Standing) (before : ℕ) (text : List ℕ) (r : Items × ℕ) → content levels entities names depth c before text ≡ Ok r
      → (p : Pieces) × IsContent entities names depth p before text r.1 × (r.0 ≡ items_of p)

  module _ (levels : ℕ) (founded : Founded levels) (names : Names) (around : ℕ) (c : Standing) (w : Reader entities levels names around c) (Base : Items → ℕ → List ℕ → Type 0) (base_fronts : BaseFronts entities names around w.free Base) where
    -- what a walk from a state finishes
    abbrev Ends : State → List ℕ → Type 0
    Ends s text = Finishes entities names around w.free Base s.opens s.items s.spent text

    module _ (s : State) (text rest : List ℕ) (enters : Enters w.free s.opens) where
      -- what the step at a token has given leads on
      by_characters : (token : Token) (some : List ℕ) (plain : Bool) → Begins token text rest → characters token ≡ Some (some, plain) → Ends (put s (tree.chars some plain tree.nothing)) rest → Ends s text
      by_characters token some plain begins is further =
          in_front entities names around w.free Base base_fronts s.opens enters (chars some plain) (tree.chars some plain tree.nothing) s.items s.spent s.spent text rest
          (chars_front entities names (around + length s.opens) token some plain s.spent text rest begins is) further

      by_comment : (some : List ℕ) → Begins (remark some) text rest → Ends (put s (tree.comment some tree.nothing)) rest → Ends s text
      by_comment some begins further =
          in_front entities names around w.free Base base_fronts s.opens enters (comment some) (tree.comment some tree.nothing) s.items s.spent s.spent text rest
          (comment_front entities names (around + length s.opens) some s.spent text rest begins) further

      by_pi : (target body : List ℕ) → Begins (instruction target body) text rest → Ends (put s (tree.pi target body tree.nothing)) rest → Ends s text
      by_pi target body begins further =
          in_front entities names around w.free Base base_fronts s.opens enters (pi target body) (tree.pi target body tree.nothing) s.items s.spent s.spent text rest
          (pi_front entities names (around + length s.opens) target body s.spent text rest begins) further

      by_start : (name : List ℕ) (raws : List Raw) (closes : Bool) (atts : List Attribute) (mid : ℕ) → Begins (start (record { name = name; atts = raws; closed = closes })) text rest
          → AreValues entities names s.spent raws atts mid → repeated [] atts ≡ None → around + length s.opens < most_elements → Ends (entered s name atts mid closes) rest → Ends s text
      by_start name raws true atts mid begins values once few further =
          in_front entities names around w.free Base base_fronts s.opens enters (element name atts nothing) (tree.element name atts tree.nothing tree.nothing) s.items s.spent mid text rest
          (empty_front entities names (around + length s.opens) name raws atts s.spent mid text rest begins values once few) further
      by_start name raws false atts mid begins values once few further = finish further
        where
          finish : Finishes entities names around w.free Base (record { name = name; atts = atts; before = s.items } ∷ s.opens) tree.nothing mid rest → Ends s text
          finish (q, text_inside, from_end, behind, spent, content, split, stops, finishes) =
              let same : around + length (record { name = name; atts = atts; before = s.items } ∷ s.opens) ≡ suc (around + length s.opens) = omega arith in
              in_front entities names around w.free Base base_fronts s.opens enters (element name atts q) (tree.element name atts (items_of q) tree.nothing) s.items s.spent spent text behind
              (element_front entities names (around + length s.opens) name raws atts s.spent mid spent text rest text_inside from_end behind q begins values once few
              (subst (λ d. IsContent entities names d q mid text_inside spent) same content) split stops) finishes

      by_reference : (name replacement : List ℕ) (opened mid : ℕ) (items : Items) → Begins (named name) text rest → predefined name ≡ None → Opens entities names s.spent name replacement opened
          → (q : Pieces) × IsContent entities (names ++ name ∷ []) (around + length s.opens) q opened replacement mid × (items ≡ items_of q) → Ends (put (record s { spent = mid }) (filled items)) rest → Ends s text
      by_reference name replacement opened mid items begins other opens (q, is, same) further =
          in_front entities names around w.free Base base_fronts s.opens enters (included name q) (filled (items_of q)) s.items s.spent mid text rest
          (included_front entities names (around + length s.opens) name replacement opened s.spent mid text rest q begins other opens is) (subst (λ (x : Items). Ends (put (record s { spent = mid }) (filled x)) rest) same further)

      -- a state that a step has given
      moved : (one two : State) → state_ok one ≡ Ok two → Ends two rest → Ends one rest
      moved one two e ends = let same : two ≡ one = cc in subst (λ (x : State). Ends x rest) same ends

      by_name : (at : ℕ) (name : List ℕ) (next : State) → Begins (named name) text rest → (o : Option ℕ) → predefined name ≡ o → referred entities (content levels entities) names around c at s name o ≡ Ok next → Ends next rest → Ends s text
      by_name at name next begins (Some d) is e ends = by_characters (named name) (d ∷ []) false begins (ap predefined_characters is) (moved (put s (tree.chars (d ∷ []) false tree.nothing)) next e ends)
      by_name at name next begins None is e ends =
          let first = bind_inverts (stopped c at name (opening entities names s.spent name)) _ next e in
          let opens = stopped_inverts c at name (opening entities names s.spent name) first.0 first.1 in
          let second = bind_inverts (content levels entities (names ++ name ∷ []) (around + length s.opens) (standing_in c at name) first.0.1 first.0.0) _ next first.2 in
          by_reference name first.0.0 first.0.1 second.0.1 second.0.0 begins is (opens_found entities names s.spent name first.0.0 first.0.1 opens) (founded (names ++ name ∷ []) (around + length s.opens) (standing_in c at name) first.0.1 first.0.0 second.0 second.1)
          (moved (put (record s { spent = second.0.1 }) (filled second.0.0)) next second.2 ends)

      by_tag : (at : ℕ) (tag : Tag) (next : State) (atts : List Attribute) (mid : ℕ) → Begins (start tag) text rest → AreValues entities names s.spent tag.atts atts mid → (o : Option (List ℕ)) → repeated [] atts ≡ o
          → unrepeated around c at s tag atts mid o ≡ Ok next → Ends next rest → Ends s text
      by_tag at tag next atts mid begins values (Some again) is e ends = cc
      by_tag at tag next atts mid begins values None is e ends =
          let h = if_inverts (nat_lt (around + length s.opens) most_elements) (Ok (entered s tag.name atts mid tag.closed)) _ next e in
          by_start tag.name tag.atts tag.closed atts mid begins values is (ltb-true (around + length s.opens) most_elements h.0) (moved (entered s tag.name atts mid tag.closed) next h.1 ends)

      by_stop : (at : ℕ) (name : List ℕ) (next : State) → Begins (stop name) text rest → (opens : List Open) → ended c at s name opens ≡ Ok next → Ends next rest → Finishes entities names around w.free Base opens s.items s.spent text
      by_stop at name next begins [] e ends = cc
      by_stop at name next begins (o ∷ opens) e ends =
          let after : State = record { opens = opens; items = joined o.before (tree.element o.name o.atts s.items tree.nothing); spent = s.spent } in
          let h = if_inverts (bytes_eq o.name name) (Ok after) _ next e in
          let same : o.name ≡ name = (bytes_eq-Decides o.name name).0 h.0 in (
            nothing,
            [],
            text,
            rest,
            s.spent,
            (refl, refl),
            refl,
            subst (λ n. Begins (stop n) text rest) (sym same) begins,
            subst (λ (x : Items). Finishes entities names around w.free Base opens (joined o.before (tree.element o.name o.atts x tree.nothing)) s.spent rest) (sym (joined_nothing s.items)) (moved after next h.1 ends),
          )

      by_done : (at : ℕ) (next : State) (token : Token) → Begins token text rest → done entities (content levels entities) names around c at s token ≡ Ok next → Ends next rest → Ends s text
      by_done at next (letter d) begins e ends = by_characters (letter d) (d ∷ []) (is_space d) begins refl (moved (put s (tree.chars (d ∷ []) (is_space d) tree.nothing)) next e ends)
      by_done at next (section some) begins e ends = by_characters (section some) some false begins refl (moved (put s (tree.chars some false tree.nothing)) next e ends)
      by_done at next (coded d) begins e ends = by_characters (coded d) (d ∷ []) false begins refl (moved (put s (tree.chars (d ∷ []) false tree.nothing)) next e ends)
      by_done at next (named name) begins e ends = by_name at name next begins (predefined name) refl e ends
      by_done at next (remark some) begins e ends = by_comment some begins (moved (put s (tree.comment some tree.nothing)) next e ends)
      by_done at next (instruction target body) begins e ends = by_pi target body begins (moved (put s (tree.pi target body tree.nothing)) next e ends)
      by_done at next (start tag) begins e ends =
          let h = bind_inverts (values entities names c at s.spent tag.atts) _ next e in
          by_tag at tag next h.0.0 h.0.1 begins (values_are entities names c at s.spent tag.atts h.0 h.1) (repeated [] h.0.0) refl h.2 ends
      by_done at next (stop name) begins e ends = by_stop at name next begins s.opens e ends

    module _ (r : w.S) (base : (at : ℕ) (s : State) (text : List ℕ) → s.opens ≡ [] → (IsTrue w.free → text ≡ []) → over w.step at (w.held s) text ≡ Ok r → Base s.items s.spent text)
        (over_only : (at : ℕ) (s : State) → Enters w.free s.opens → over w.step at (w.held s) [] ≡ Ok r → s.opens ≡ []) where
      -- where nothing is left, or what is left stands outside of all elements
      ends_here : (at : ℕ) (s : State) (text : List ℕ) → s.opens ≡ [] → (IsTrue w.free → text ≡ []) → over w.step at (w.held s) text ≡ Ok r → Ends s text
      ends_here at s text none over_all is = subst (λ (o : List Open). Finishes entities names around w.free Base o s.items s.spent text) (sym none) (base at s text none over_all is)

      onward : (at : ℕ) (s : State) (d : ℕ) (ds : List ℕ) → Enters w.free s.opens → over w.step at (w.held s) (d ∷ ds) ≡ Ok r
          → ((at : ℕ) (next : State) (rest : List ℕ) → length rest ≤ length ds → over w.step at (w.held next) rest ≡ Ok r → Ends next rest) → Ends s (d ∷ ds)
      onward at s d ds enters is later = by (first_token (d ∷ ds)) refl
        where
          by : (o : Option (Token × List ℕ)) → first_token (d ∷ ds) ≡ o → Ends s (d ∷ ds)
          by None e =
              let stops = over_fault w.step at (w.held s) d ds (malformed c at)
              (w.runs at s (d ∷ ds) enters ∙ ap (λ (o : Option (Token × List ℕ)). by_token entities (content levels entities) names around c at s (d ∷ ds) o >>= λ x. Ok (w.held x.0, x.1)) e) in
              absurd (not_both (malformed c at) r (sym stops ∙ is))
          by (Some (token, rest)) e =
              let begins = taken token (d ∷ ds) rest e in
              let far = goes token (d ∷ ds) rest begins in
              let h = bind_inverts (done entities (content levels entities) names around c at s token) _ r (sym (token_next takes entities levels names around c w at s token (d ∷ ds) rest enters begins) ∙ is) in
              by_done s (d ∷ ds) rest enters at h.0 token begins h.1 (later (at + (length (d ∷ ds) - length rest)) h.0 rest (omega (arith, far.1)) h.2)

      pub walk_ends : (n at : ℕ) (s : State) (text : List ℕ) → length text ≤ n → over w.step at (w.held s) text ≡ Ok r → Ends s text
      walk_ends n at s [] fits is = ⊎_elim (λ enters. ends_here at s [] (over_only at s enters is) (λ free. refl) is) (λ out. ends_here at s [] out.0 (λ free. refl) is) (stands w.free s.opens)
      walk_ends zero at s (d ∷ ds) fits is = absurd (omega arith)
      walk_ends (suc n) at s (d ∷ ds) fits is =
          ⊎_elim (λ enters. onward at s d ds enters is (λ at next rest few e. walk_ends n at next rest (omega (arith, few, fits)) e))
          (λ out. ends_here at s (d ∷ ds) out.0 (λ free. absurd (false≢true (sym out.1 ∙ free))) is) (stands w.free s.opens)

  -- ---- a text of its own

  module _ (levels : ℕ) (founded : Founded levels) (names : Names) (around : ℕ) (c : Standing) (v : State) where
    -- pieces that end with this state
    abbrev Whole : Items → ℕ → List ℕ → Type 0
    Whole items before text = (p : Pieces) × IsContent entities names around p before text v.spent × (v.items ≡ joined items (items_of p))

    whole_fronts : BaseFronts entities names around true Whole
    whole_fronts free wrap one items before mid text rest fronts (p, is, gives) =
        let h = fronts.stands rest [] (sym (append-nil rest)) in (
          wrap p,
          subst (λ t. IsContent entities names around (wrap p) before t v.spent) (sym (h.1 ∙ append-nil h.0)) (h.2 p v.spent is),
          gives ∙ joined_assoc items one (items_of p) ∙ ap (joined items) (sym (fronts.gives p)),
        )

    ended_as : (at : ℕ) (s : State) → over (Step entities levels names around c) at s [] ≡ Ok v → v ≡ s
    ended_as at s is = let same : state_ok s ≡ Ok v = sym (over_nil (Step entities levels names around c) at s) ∙ is in cc

    whole_base : (at : ℕ) (s : State) (text : List ℕ) → s.opens ≡ [] → (IsTrue true → text ≡ []) → over (Step entities levels names around c) at s text ≡ Ok v → Whole s.items s.spent text
    whole_base at s text none over_all is =
        let empty = over_all refl in
        let same = ended_as at s (sym (ap (over (Step entities levels names around c) at s) empty) ∙ is) in
        subst (λ (x : State). Whole x.items x.spent text) same (nothing_left empty)
      where
        nothing_left : text ≡ [] → Whole v.items v.spent text
        nothing_left empty = (nothing, (empty, refl), sym (joined_nothing v.items))

    text_founded : v.opens ≡ [] → (before : ℕ) (text : List ℕ) → over (Step entities levels names around c) 0 (begun before) text ≡ Ok v
        → (p : Pieces) × IsContent entities names around p before text v.spent × (v.items ≡ items_of p)
    text_founded none before text is =
        walk_ends levels founded names around c (plain_reader entities levels names around c) Whole whole_fronts v whole_base
        (λ at s enters is. ap (λ (x : State). x.opens) (sym (ended_as at s is)) ∙ none) (length text) 0 (begun before) text (omega arith) is

  pub founds : (levels : ℕ) → Founded levels
  founds zero = λ names depth c before text r e. cc
  founds (suc levels) = λ names depth c before text r e.
      let h = bind_inverts (over (Step entities levels names depth c) 0 (begun before) text) _ r e in
      by levels (founds levels) names depth c before text r h.0 h.1 h.0.opens refl h.2
    where
      by : (levels : ℕ) → Founded levels → (names : Names) (depth : ℕ) (c : Standing) (before : ℕ) (text : List ℕ) (r : Items × ℕ) (v : State) → over (Step entities levels names depth c) 0 (begun before) text ≡ Ok v
          → (opens : List Open) → v.opens ≡ opens → closed_by c (length text) v opens ≡ Ok r → (p : Pieces) × IsContent entities names depth p before text r.1 × (r.0 ≡ items_of p)
      by levels founded names depth c before text r v is [] none e =
          let same : (v.items, v.spent) ≡ r = cc in
          subst (λ (r : Items × ℕ). (p : Pieces) × IsContent entities names depth p before text r.1 × (r.0 ≡ items_of p)) same (text_founded levels founded names depth c v none before text is)
      by levels founded names depth c before text r v is (o ∷ opens) none e = cc
