-- Articles: the grammar, and what reading gives.
use Rattle.std.proofs.Common.{◌≡◌, ◌∙◌, ◌⊎◌, ℕ, zero, suc, ◌+◌, ◌-◌, ◌<◌, ◌≤◌, List, [], ◌∷◌, ◌++◌, length, drop, Bool, true, false, cond, eqb, ◌&&◌, Option, Some, None, Result, Ok, Err, refl, ap, sym, subst, arith, append_assoc, append-nil, length-append, ⊎_elim, inl, inr, codes}
use Rattle.std.specs.Prelude.{IsTrue, nat_eq, nat_lt}
use Rattle.std.specs.List.{starts_with}
use Rattle.std.proofs.Math.Seq.{drop-append_seam}
use Rattle.std.proofs.lemmas.Bool.{cond-true, cond-false, ltb-true, eqb-true, false≢true, false_from_ne_true}
use Rattle.jats_chars.specs.Classes.{is_space, is_name_char}
use Rattle.dtd_scanner.specs.Walk.{◌>>=◌, over}
use Rattle.dtd_scanner.proofs.Walking.{bind_assoc}
use Rattle.dtd_scanner.proofs.Runs.{starts_found}
use Rattle.text_fronts.specs.Fronts.{word}
use Rattle.jats_fault.specs.declared.fault.Fault.{Fault}
use Rattle.document_trees.specs.Trees.{Attribute, Items, Node}
use Rattle.document_trees.specs.Trees as tree
use Rattle.decl_set.specs.Declarations.{Entity}
use Rattle.article_tree.specs.Content.{Pieces, nothing, element, items_of}
use Rattle.article_tree.specs.Tokens.{Raw, Tag, Token, letter, section, coded, named, remark, instruction, start, stop, Allows, Begins}
use Rattle.article_tree.specs.Taking.{first_token}
use Rattle.article_tree.specs.Stops.{Standing, refused}
use Rattle.article_tree.specs.Words.{repeated, is_misc, most_elements}
use Rattle.article_tree.specs.Reading.{Open, State, values, entered, unrepeated, done, by_token, content_step, begun, content, Article, has_root, holding, misplaced, type_end, type_by, outside, article_by, article_step, whole, unread, article_of}
use Rattle.article_tree.specs.Grammar.{AreValues, IsContent, AreMisc, IsMisc, IsDoctype, IsProlog, IsArticle}
use Rattle.article_tree.proofs.Walks.{over_nil, over_fault}
use Rattle.dtd_scanner.proofs.Walking.{over_next}
use Rattle.article_tree.proofs.Seams.{restricts, goes_on, goes}
use Rattle.article_tree.proofs.Complete.{Enters, Step, Reader, tag_done, gives, inside_across}
use Rattle.article_tree.proofs.Sound.{bind_inverts, if_inverts, not_both, values_are, Finishes, BaseFronts, empty_front, element_front, founds, walk_ends}
use Rattle.article_tree.proofs.TokensFound.{taken}
use Rattle.article_tree.proofs.TokensTaken.{takes}
use Rattle.article_tree.proofs.Doctypes.{doctype_found, doctype_back}

-- ---- tokens outside of the element

-- a document type declaration begins with no token
typed_none : (rest : List ℕ) → first_token (codes "<!DOCTYPE" ++ rest) ≡ None
unfolding first_token word is_name_char
typed_none rest = refl

no_type : (text : List ℕ) (x : Token × List ℕ) → first_token text ≡ Some x → starts_with nat_eq text (codes "<!DOCTYPE") ≡ false
no_type text x is = false_from_ne_true (starts_with nat_eq text (codes "<!DOCTYPE"))
    (λ begins. let none : first_token text ≡ None = ap first_token (starts_found (codes "<!DOCTYPE") text begins) ∙ typed_none (drop 9 text) in let both : None ≡ Some x = sym none ∙ is in cc)

misc_allows : (token : Token) (rest more : List ℕ) → is_misc token ≡ true → Allows token (rest ++ more)
unfolding is_space
misc_allows (letter c) rest more is = ap (λ (b : Bool). b && starts_with nat_eq (rest ++ more) (codes "]>")) (false_from_ne_true (eqb 93 c) (λ same. false≢true (ap is_space (eqb-true 93 c same) ∙ is)))
misc_allows (section inside) rest more is = tt
misc_allows (coded c) rest more is = tt
misc_allows (named name) rest more is = tt
misc_allows (remark inside) rest more is = tt
misc_allows (instruction target body) rest more is = tt
misc_allows (start tag) rest more is = tt
misc_allows (stop name) rest more is = tt

-- ---- the reader of the element

module _ (entities : List Entity) (levels : ℕ) (c : Standing) where
  abbrev AStep : ℕ → Article → List ℕ → Result (Article × ℕ) Fault
  AStep = article_step (Step entities levels [] 0 c) c

  abbrev held : State → Article
  held s = record { state = s; typed = true }

  holding_is : (a : Article) (r : Result (State × ℕ) Fault) → holding a r ≡ (r >>= λ x. Ok (held x.0, x.1))
  holding_is a (Ok x) = refl
  holding_is a (Err e) = refl

  runs_by : (at : ℕ) (s : State) (text : List ℕ) (opens : List Open) → Enters false opens → article_by (Step entities levels [] 0 c) c at (held s) text opens ≡ (Step entities levels [] 0 c at s text >>= λ x. Ok (held x.0, x.1))
  runs_by at s text [] enters = absurd (false≢true enters)
  runs_by at s text (o ∷ opens) enters = holding_is (held s) (Step entities levels [] 0 c at s text)

  abbrev article_reader : Reader entities levels [] 0 c
  article_reader = record { S = Article; held = held; step = AStep; free = false; runs = λ at s text enters. runs_by at s text s.opens enters }

  -- where no element is open, a token stands outside
  by_outside : (at : ℕ) (a : Article) (text : List ℕ) (x : Token × List ℕ) → a.state.opens ≡ [] → first_token text ≡ Some x → AStep at a text ≡ outside (Step entities levels [] 0 c) c at a text (Some x)
  by_outside at a text x none is =
      ap (article_by (Step entities levels [] 0 c) c at a text) none
      ∙ by a.typed
    where
      by : (typed : Bool) → cond typed (outside (Step entities levels [] 0 c) c at a text (first_token text))
          (cond (starts_with nat_eq text (codes "<!DOCTYPE")) (type_by c at a text (type_end (drop 9 text))) (outside (Step entities levels [] 0 c) c at a text (first_token text)))
          ≡ outside (Step entities levels [] 0 c) c at a text (Some x)
      by true = ap (outside (Step entities levels [] 0 c) c at a text) is
      by false = cond-false (starts_with nat_eq text (codes "<!DOCTYPE")) _ _ (no_type text x is) ∙ ap (outside (Step entities levels [] 0 c) c at a text) is

  misc_outside : (at : ℕ) (a : Article) (text rest : List ℕ) (token : Token) → is_misc token ≡ true → outside (Step entities levels [] 0 c) c at a text (Some (token, rest)) ≡ Ok (a, length text - length rest)
  misc_outside at a text rest (letter d) is = cond-true (is_space d) _ _ is
  misc_outside at a text rest (section inside) is = absurd (false≢true is)
  misc_outside at a text rest (coded d) is = absurd (false≢true is)
  misc_outside at a text rest (named name) is = absurd (false≢true is)
  misc_outside at a text rest (remark inside) is = refl
  misc_outside at a text rest (instruction target body) is = refl
  misc_outside at a text rest (start tag) is = absurd (false≢true is)
  misc_outside at a text rest (stop name) is = absurd (false≢true is)

  -- a token of Misc is passed over
  misc_next : (at : ℕ) (a : Article) (text rest : List ℕ) (token : Token) → a.state.opens ≡ [] → Begins token text rest → is_misc token ≡ true → over AStep at a text ≡ over AStep (at + (length text - length rest)) a rest
  misc_next at a text rest token none begins is =
      let far = goes token text rest begins in
      over_next AStep at (length text - length rest) a text (Ok a) (omega (arith, far.1)) far.0 (by_outside at a text (token, rest) none (takes token text rest begins) ∙ misc_outside at a text rest token is)
      ∙ ap (over AStep (at + (length text - length rest)) a) far.2

  misc_over : (tokens : List Token) (at : ℕ) (a : Article) (text more : List ℕ) → a.state.opens ≡ [] → AreMisc tokens text → (end : ℕ) × (over AStep at a (text ++ more) ≡ over AStep end a more)
  misc_over [] at a text more none are = (at, ap (λ t. over AStep at a (t ++ more)) are)
  misc_over (token ∷ tokens) at a text more none (rest, is, begins, are) =
      let h = misc_over tokens (at + (length (text ++ more) - length (rest ++ more))) a rest more none are in
      (h.0, misc_next at a (text ++ more) (rest ++ more) token none (goes_on token text rest more (misc_allows token rest more is) begins) is ∙ h.1)

  -- a document type declaration is passed over
  type_over : (at : ℕ) (a : Article) (front rest : List ℕ) → a.state.opens ≡ [] → a.typed ≡ false → IsDoctype front → (end : ℕ) × (over AStep at a (front ++ rest) ≡ over AStep end (held a.state) rest)
  type_over at a front rest none untyped is =
      let text = front ++ rest in
      let t = doctype_back front rest is in
      let size : length text ≡ length front + length rest = length-append front rest in
      let n = length text - length rest in
      let filled : 0 < length front = (let e : length front ≡ suc (length (codes "!DOCTYPE" ++ (is.space ++ (is.name ++ (is.external ++ (is.blank ++ codes ">")))))) = ap length is.form in omega (arith, e)) in
      let same : n ≡ length front = omega (arith, size) in
      let stepped : AStep at a text ≡ Ok (held a.state, n) =
      ap (article_by (Step entities levels [] 0 c) c at a text) none
      ∙ cond-false a.typed _ _ untyped
      ∙ cond-true (starts_with nat_eq text (codes "<!DOCTYPE")) _ _ t.begins
      ∙ ap (type_by c at a text) t.ends in
      (at + n, over_next AStep at n a text (Ok (held a.state)) (omega (arith, size, filled)) (omega (arith, same, filled)) stepped ∙ ap (over AStep (at + n) (held a.state)) (ap (λ k. drop k text) same ∙ drop-append_seam front rest))

  -- the tag of the element
  root_next : (at : ℕ) (a : Article) (text rest : List ℕ) (tag : Tag) → a.state.opens ≡ [] → has_root a.state.items ≡ false → Begins (start tag) text rest
      → over AStep at a text ≡ (done entities (content levels entities) [] 0 c at a.state (start tag) >>= λ v. over AStep (at + (length text - length rest)) (held v) rest)
  root_next at a text rest tag none first begins =
      let far = goes (start tag) text rest begins in
      let n = length text - length rest in
      let did = done entities (content levels entities) [] 0 c at a.state (start tag) in
      let taken_so = takes (start tag) text rest begins in
      over_next AStep at n a text (did >>= λ v. Ok (held v)) (omega (arith, far.1)) far.0
      (by_outside at a text (start tag, rest) none taken_so
      ∙ cond-false (has_root a.state.items) _ _ first
      ∙ holding_is a (Step entities levels [] 0 c at a.state text)
      ∙ ap (λ (o : Option (Token × List ℕ)). by_token entities (content levels entities) [] 0 c at a.state text o >>= λ x. Ok (held x.0, x.1)) taken_so
      ∙ bind_assoc did (λ v. Ok (v, n)) (λ x. Ok (held x.0, x.1))
      ∙ sym (bind_assoc did (λ v. Ok (held v)) (λ v. Ok (v, n))))
      ∙ bind_assoc did (λ v. Ok (held v)) (λ v. over AStep (at + n) v (drop n text))
      ∙ ap (λ (t : List ℕ). did >>= λ v. over AStep (at + n) (held v) t) far.2

  -- the state behind the element
  abbrev rooted : List ℕ → List Attribute → Pieces → ℕ → State
  rooted name atts inside spent = record { opens = []; items = tree.element name atts (items_of inside) tree.nothing; spent = spent }

  root_over : levels ≡ 32 → (at : ℕ) (a : Article) (name : List ℕ) (atts : List Attribute) (inside : Pieces) (spent : ℕ) (root more : List ℕ) → a.state ≡ begun 0 → IsContent entities [] 0 (element name atts inside nothing) 0 root spent
      → (end : ℕ) × (over AStep at a (root ++ more) ≡ over AStep end (held (rooted name atts inside spent)) more)
  root_over full at a name atts inside spent root more fresh (raws, is_closed, behind, mid, begins, values_so, once, few, or) =
      let none : a.state.opens ≡ [] = ap (λ (x : State). x.opens) fresh in
      let first : has_root a.state.items ≡ false = ap (λ (x : State). has_root x.items) fresh in
      let tag = λ (b : Bool). start (record { name = name; atts = raws; closed = b }) in
      let next = at + (length (root ++ more) - length (behind ++ more)) in
      let started = λ (b : Bool) (begins : Begins (tag b) root behind).
      root_next at a (root ++ more) (behind ++ more) (record { name = name; atts = raws; closed = b }) none first (goes_on (tag b) root behind more tt begins)
      ∙ ap (λ (s : State). done entities (content levels entities) [] 0 c at s (tag b) >>= λ v. over AStep next (held v) (behind ++ more)) fresh
      ∙ ap (λ (x : Result State Fault). x >>= λ v. over AStep next (held v) (behind ++ more)) (tag_done takes entities levels [] 0 0 c at (begun 0) name raws b atts mid refl values_so once few) in
      ⊎_elim
      (λ empty. (
        next,
        started true (subst (λ b. Begins (tag b) root behind) empty.0 begins)
            ∙ ap (λ t. over AStep next (held (entered (begun 0) name atts mid true)) (t ++ more)) empty.2.0
            ∙ ap (λ (n : ℕ). over AStep next (held (record { opens = []; items = tree.element name atts tree.nothing tree.nothing; spent = n })) more) empty.2.1
            ∙ ap (λ (p : Pieces). over AStep next (held (rooted name atts p spent)) more) (sym empty.1),
      ))
      (λ open_so.
      let h = inside_across takes entities inside (gives takes entities inside) levels [] 0 0 c article_reader next (begun 0) name atts mid open_so.3 behind open_so.0 open_so.1 open_so.2 more (omega (arith, full)) refl open_so.5 open_so.6 open_so.7 in (
        h.0,
        started false (subst (λ b. Begins (tag b) root behind) open_so.4 begins) ∙ h.1
            ∙ ap (λ t. over AStep h.0 (held (rooted name atts inside open_so.3)) (t ++ more)) open_so.8.0
            ∙ ap (λ (n : ℕ). over AStep h.0 (held (rooted name atts inside n)) more) open_so.8.1,
      ))
      or

  -- an article is gone over
  article_over : levels ≡ 32 → (text : List ℕ) (node : Node) → (is : IsArticle entities text node) → over AStep 0 unread text ≡ Ok (held (rooted node.name node.atts is.inside is.spent))
  article_over full text node is =
      ap (over AStep 0 unread) is.form ∙ by is.is_prolog
    where
      behind_prolog : (at : ℕ) (a : Article) → a.state ≡ begun 0 → over AStep at a (is.root ++ is.epilog) ≡ Ok (held (rooted node.name node.atts is.inside is.spent))
      behind_prolog at a fresh =
          let h = root_over full at a node.name node.atts is.inside is.spent is.root is.epilog fresh is.is_root in
          let end : Article = held (rooted node.name node.atts is.inside is.spent) in
          let k = misc_over is.is_epilog.0 h.0 end is.epilog [] refl is.is_epilog.1 in
          h.1 ∙ ap (over AStep h.0 end) (sym (append-nil is.epilog)) ∙ k.1 ∙ over_nil AStep k.0 end

      by : IsProlog is.prolog → over AStep 0 unread (is.prolog ++ (is.root ++ is.epilog)) ≡ Ok (held (rooted node.name node.atts is.inside is.spent))
      by (inl misc) =
          let h = misc_over misc.0 0 unread is.prolog (is.root ++ is.epilog) refl misc.1 in
          h.1 ∙ behind_prolog h.0 unread refl
      by (inr (before, doctype, after, misc, typed_so, misc_after, form)) =
          let rest = is.root ++ is.epilog in
          let h = misc_over misc.0 0 unread before (doctype ++ (after ++ rest)) refl misc.1 in
          let t = type_over h.0 unread doctype (after ++ rest) refl refl typed_so in
          let k = misc_over misc_after.0 t.0 (held (begun 0)) after rest refl misc_after.1 in
          ap (over AStep 0 unread) (ap (λ t. t ++ rest) form ∙ append_assoc before (doctype ++ after) rest ∙ ap (λ t. before ++ t) (append_assoc doctype after rest))
          ∙ h.1 ∙ t.1 ∙ k.1 ∙ behind_prolog k.0 (held (begun 0)) refl

  -- ---- what reading has found

  -- no Misc stands behind the element
  behind_fault : (at : ℕ) (a : Article) (text rest : List ℕ) (token : Token) → has_root a.state.items ≡ true → is_misc token ≡ false
      → outside (Step entities levels [] 0 c) c at a text (Some (token, rest)) ≡ Err (misplaced c at a)
  behind_fault at a text rest (letter d) rooted_so is = cond-false (is_space d) _ _ is
  behind_fault at a text rest (section inside) rooted_so is = refl
  behind_fault at a text rest (coded d) rooted_so is = refl
  behind_fault at a text rest (named name) rooted_so is = refl
  behind_fault at a text rest (remark inside) rooted_so is = absurd (false≢true (sym is))
  behind_fault at a text rest (instruction target body) rooted_so is = absurd (false≢true (sym is))
  behind_fault at a text rest (start tag) rooted_so is = cond-true (has_root a.state.items) _ _ rooted_so
  behind_fault at a text rest (stop name) rooted_so is = refl

  -- a token outside of the element
  abbrev Outer : ℕ → Article → List ℕ → List ℕ → Token → Type 0
  Outer at a text rest token = (is_misc token ≡ true) ⊎ ((tag : Tag) × (token ≡ start tag)) ⊎ (outside (Step entities levels [] 0 c) c at a text (Some (token, rest)) ≡ Err (misplaced c at a))

  outer : (at : ℕ) (a : Article) (text rest : List ℕ) (token : Token) → Outer at a text rest token
  outer at a text rest (letter d) = by (is_space d)
    where
      letter_step : Bool → Result (Article × ℕ) Fault
      letter_step b = cond b (Ok (a, length text - length rest)) (Err (misplaced c at a))

      by : (b : Bool) → (b ≡ true) ⊎ ((tag : Tag) × (letter d ≡ start tag)) ⊎ (letter_step b ≡ Err (misplaced c at a))
      by true = inl refl
      by false = inr (inr refl)
  outer at a text rest (section inside) = inr (inr refl)
  outer at a text rest (coded d) = inr (inr refl)
  outer at a text rest (named name) = inr (inr refl)
  outer at a text rest (remark inside) = inl refl
  outer at a text rest (instruction target body) = inl refl
  outer at a text rest (start tag) = inr (inl (tag, refl))
  outer at a text rest (stop name) = inr (inr refl)

  -- Misc in front of Misc
  one_more : (token : Token) (text rest misc more : List ℕ) → Begins token text rest → is_misc token ≡ true → rest ≡ misc ++ more → IsMisc misc → (front : List ℕ) × IsMisc front × (text ≡ front ++ more)
  one_more token text rest misc more begins is split are =
      let h = restricts token text misc more (subst (Begins token text) split begins) in
      (h.front ++ misc, (token ∷ are.0, (misc, is, h.begins, are.1)), h.form)

  module _ (r : Article) where
    -- behind the element
    epilog_found : (n at : ℕ) (a : Article) (text : List ℕ) → length text ≤ n → a.state.opens ≡ [] → a.typed ≡ true → has_root a.state.items ≡ true → over AStep at a text ≡ Ok r → IsMisc text × (r ≡ a)
    epilog_found n at a [] fits none typed_so rooted_so is = (([], refl), article_same a r (sym (over_nil AStep at a) ∙ is))
      where
        article_ok : Article → Result Article Fault
        article_ok x = Ok x

        article_same : (a b : Article) → article_ok a ≡ Ok b → b ≡ a
        article_same a b e = cc
    epilog_found zero at a (d ∷ ds) fits none typed_so rooted_so is = absurd (omega arith)
    epilog_found (suc n) at a (d ∷ ds) fits none typed_so rooted_so is = by (λ at rest few e. epilog_found n at a rest few none typed_so rooted_so e) (first_token (d ∷ ds)) refl
      where
        by : ((at : ℕ) (rest : List ℕ) → length rest ≤ n → over AStep at a rest ≡ Ok r → IsMisc rest × (r ≡ a)) → (o : Option (Token × List ℕ)) → first_token (d ∷ ds) ≡ o → IsMisc (d ∷ ds) × (r ≡ a)
        by later None e =
            let stepped : AStep at a (d ∷ ds) ≡ Err (misplaced c at a) = ap (article_by (Step entities levels [] 0 c) c at a (d ∷ ds)) none ∙ cond-true a.typed _ _ typed_so ∙ ap (outside (Step entities levels [] 0 c) c at a (d ∷ ds)) e in
            absurd (not_both (misplaced c at a) r (sym (over_fault AStep at a d ds (misplaced c at a) stepped) ∙ is))
        by later (Some (token, rest)) e = misc_or (is_misc token) refl
          where
            misc_or : (b : Bool) → is_misc token ≡ b → IsMisc (d ∷ ds) × (r ≡ a)
            misc_or true misc =
                let begins = taken token (d ∷ ds) rest e in
                let far = goes token (d ∷ ds) rest begins in
                let h = later (at + (length (d ∷ ds) - length rest)) rest (omega (arith, far.1, fits)) (sym (misc_next at a (d ∷ ds) rest token none begins misc) ∙ is) in
                ((token ∷ h.0.0, (rest, misc, begins, h.0.1)), h.1)
            misc_or false other =
                absurd (not_both (misplaced c at a) r (sym (over_fault AStep at a d ds (misplaced c at a) (by_outside at a (d ∷ ds) (token, rest) none e ∙ behind_fault at a (d ∷ ds) rest token rooted_so other)) ∙ is))

    -- the element, and Misc behind it
    pub record Rooted (text : List ℕ) : Type 0 where
      pub root : List ℕ
      pub epilog : List ℕ
      pub name : List ℕ
      pub atts : List Attribute
      pub inside : Pieces
      pub spent : ℕ
      pub form : text ≡ root ++ epilog
      pub is_root : IsContent entities [] 0 (element name atts inside nothing) 0 root spent
      pub is_epilog : IsMisc epilog
      pub items : r.state.items ≡ tree.element name atts (items_of inside) tree.nothing

    -- what may stand behind the element
    abbrev Behind : Items → ℕ → List ℕ → Type 0
    Behind items before text = has_root items ≡ true → IsMisc text × (r.state.items ≡ items)

    behind_fronts : BaseFronts entities [] 0 false Behind
    behind_fronts free wrap one items before mid text rest fronts base = absurd (false≢true free)

    behind_base : (at : ℕ) (s : State) (text : List ℕ) → s.opens ≡ [] → (IsTrue false → text ≡ []) → over AStep at (held s) text ≡ Ok r → Behind s.items s.spent text
    behind_base at s text none free is rooted_so =
        let h = epilog_found (length text) at (held s) text (omega arith) none refl rooted_so is in
        (h.0, ap (λ (a : Article). a.state.items) h.1)

    open_ends : r.state.opens ≡ [] → (at : ℕ) (s : State) → Enters false s.opens → over AStep at (held s) [] ≡ Ok r → s.opens ≡ []
    open_ends none at s enters is =
        let same : r ≡ held s = article_same (held s) (sym (over_nil AStep at (held s)) ∙ is) in
        ap (λ (a : Article). a.state.opens) (sym same) ∙ none
      where
        article_ok : Article → Result Article Fault
        article_ok x = Ok x

        article_same : (a : Article) → article_ok a ≡ Ok r → r ≡ a
        article_same a e = cc

    root_found : r.state.opens ≡ [] → (at : ℕ) (a : Article) (text rest : List ℕ) (tag : Tag) → a.state ≡ begun 0 → Begins (start tag) text rest → over AStep at a text ≡ Ok r → Rooted text
    root_found closed_so at a text rest tag fresh begins is =
        let none : a.state.opens ≡ [] = ap (λ (x : State). x.opens) fresh in
        let first : has_root a.state.items ≡ false = ap (λ (x : State). has_root x.items) fresh in
        let next = at + (length text - length rest) in
        let h = bind_inverts (done entities (content levels entities) [] 0 c at (begun 0) (start tag)) (λ v. over AStep next (held v) rest) r
        (ap (λ (x : State). done entities (content levels entities) [] 0 c at x (start tag) >>= λ v. over AStep next (held v) rest) (sym fresh) ∙ sym (root_next at a text rest tag none first begins) ∙ is) in
        let k = bind_inverts (values entities [] c at 0 tag.atts) (λ x. unrepeated 0 c at (begun 0) tag x.0 x.1 (repeated [] x.0)) h.0 h.1 in
        unrepeated_found next tag k.0.0 k.0.1 (values_are entities [] c at 0 tag.atts k.0 k.1) begins (repeated [] k.0.0) refl h.0 k.2 h.2
      where
        state_ok : State → Result State Fault
        state_ok x = Ok x

        closed_found : (next : ℕ) (name : List ℕ) (raws : List Raw) (is_closed : Bool) (atts : List Attribute) (mid : ℕ) → AreValues entities [] 0 raws atts mid → Begins (start (record { name = name; atts = raws; closed = is_closed })) text rest → repeated [] atts ≡ None
            → over AStep next (held (entered (begun 0) name atts mid is_closed)) rest ≡ Ok r → Rooted text
        closed_found next name raws true atts mid values_so begins once is =
            let h = epilog_found (length rest) next (held (entered (begun 0) name atts mid true)) rest (omega arith) refl refl refl is in
            let f = empty_front entities [] 0 name raws atts 0 mid text rest begins values_so once (ltb-true 0 2048 refl) in
            let stands = f.stands [] rest refl in
            record { root = stands.0; epilog = rest; name = name; atts = atts; inside = nothing; spent = mid; form = stands.1; is_root = stands.2 nothing mid (refl, refl); is_epilog = h.0; items = ap (λ (a : Article). a.state.items) h.1 }
        closed_found next name raws false atts mid values_so begins once is =
            finish (walk_ends takes taken entities levels (founds takes taken entities levels) [] 0 c article_reader Behind behind_fronts r behind_base (open_ends closed_so) (length rest) next (entered (begun 0) name atts mid false) rest (omega arith) is)
          where
            finish : Finishes entities [] 0 false Behind (record { name = name; atts = atts; before = tree.nothing } ∷ []) tree.nothing mid rest → Rooted text
            finish (p, inside, from_end, epilog, spent, content_so, split, stops, base) =
                let f = element_front entities [] 0 name raws atts 0 mid spent text rest inside from_end epilog p begins values_so once (ltb-true 0 2048 refl) content_so split stops in
                let stands = f.stands [] epilog refl in
                let b = base refl in
                record { root = stands.0; epilog = epilog; name = name; atts = atts; inside = p; spent = spent; form = stands.1; is_root = stands.2 nothing spent (refl, refl); is_epilog = b.0; items = b.1 }

        unrepeated_found : (next : ℕ) (tag : Tag) (atts : List Attribute) (mid : ℕ) → AreValues entities [] 0 tag.atts atts mid → Begins (start tag) text rest → (o : Option (List ℕ)) → repeated [] atts ≡ o → (v : State)
            → unrepeated 0 c at (begun 0) tag atts mid o ≡ Ok v → over AStep next (held v) rest ≡ Ok r → Rooted text
        unrepeated_found next tag atts mid values_so begins (Some again) once v e is = cc
        unrepeated_found next tag atts mid values_so begins None once v e is =
            let h = if_inverts (nat_lt (0 + length {A = Open} []) most_elements) (Ok (entered (begun 0) tag.name atts mid tag.closed)) (refused c at 65 (tag.name ∷ [])) v e in
            let same : v ≡ entered (begun 0) tag.name atts mid tag.closed = same_state (entered (begun 0) tag.name atts mid tag.closed) v h.1 in
            closed_found next tag.name tag.atts tag.closed atts mid values_so begins once (ap (λ (x : State). over AStep next (held x) rest) (sym same) ∙ is)
          where
            same_state : (x y : State) → state_ok x ≡ Ok y → y ≡ x
            same_state x y e = cc

    -- Misc, and the element behind it
    abbrev Later : (List ℕ → Type 0) → List ℕ → Type 0
    Later P text = (front : List ℕ) × (rest : List ℕ) × P front × (text ≡ front ++ rest) × Rooted rest

    no_root : (at : ℕ) (a : Article) → a.state ≡ begun 0 → has_root r.state.items ≡ true → over AStep at a [] ≡ Ok r → ⊥
    no_root at a fresh rooted_so is =
        let same : r ≡ a = article_same (sym (over_nil AStep at a) ∙ is) in
        false≢true (sym (ap (λ (x : State). has_root x.items) (ap (λ (x : Article). x.state) same ∙ fresh)) ∙ rooted_so)
      where
        article_ok : Article → Result Article Fault
        article_ok x = Ok x

        article_same : article_ok a ≡ Ok r → r ≡ a
        article_same e = cc

    -- what stands before the element, from a token on
    by_outer : (P : List ℕ → Type 0) → P [] → ((token : Token) (text rest front more : List ℕ) → Begins token text rest → is_misc token ≡ true → rest ≡ front ++ more → P front → (longer : List ℕ) × P longer × (text ≡ longer ++ more))
        → r.state.opens ≡ [] → (at : ℕ) (a : Article) (d : ℕ) (ds : List ℕ) → a.state ≡ begun 0 → over AStep at a (d ∷ ds) ≡ Ok r → (token : Token) (rest : List ℕ) → first_token (d ∷ ds) ≡ Some (token, rest)
        → ((at : ℕ) (rest : List ℕ) → length rest ≤ length ds → over AStep at a rest ≡ Ok r → Later P rest) → Later P (d ∷ ds)
    by_outer P empty longer closed_so at a d ds fresh is token rest e later = by (outer at a (d ∷ ds) rest token)
      where
        none : a.state.opens ≡ []
        none = ap (λ (x : State). x.opens) fresh

        begins : Begins token (d ∷ ds) rest
        begins = taken token (d ∷ ds) rest e

        by : Outer at a (d ∷ ds) rest token → Later P (d ∷ ds)
        by (inl misc) =
            let far = goes token (d ∷ ds) rest begins in
            let h = later (at + (length (d ∷ ds) - length rest)) rest (omega (arith, far.1)) (sym (misc_next at a (d ∷ ds) rest token none begins misc) ∙ is) in
            let l = longer token (d ∷ ds) rest h.0 h.1 begins misc h.3 h.2 in
            (l.0, h.1, l.1, l.2, h.4)
        by (inr (inl (tag, same))) = ([], d ∷ ds, empty, refl, root_found closed_so at a (d ∷ ds) rest tag fresh (subst (λ t. Begins t (d ∷ ds) rest) same begins) is)
        by (inr (inr stops)) = absurd (not_both (misplaced c at a) r (sym (over_fault AStep at a d ds (misplaced c at a) (by_outside at a (d ∷ ds) (token, rest) none e ∙ stops)) ∙ is))

    -- behind a document type declaration
    typed_found : r.state.opens ≡ [] → has_root r.state.items ≡ true → (n at : ℕ) (a : Article) (text : List ℕ) → length text ≤ n → a.state ≡ begun 0 → a.typed ≡ true → over AStep at a text ≡ Ok r → Later IsMisc text
    typed_found closed_so rooted_so n at a [] fits fresh typed_so is = absurd (no_root at a fresh rooted_so is)
    typed_found closed_so rooted_so zero at a (d ∷ ds) fits fresh typed_so is = absurd (omega arith)
    typed_found closed_so rooted_so (suc n) at a (d ∷ ds) fits fresh typed_so is = by (λ at rest few e. typed_found closed_so rooted_so n at a rest few fresh typed_so e) (first_token (d ∷ ds)) refl
      where
        none : a.state.opens ≡ []
        none = ap (λ (x : State). x.opens) fresh

        by : ((at : ℕ) (rest : List ℕ) → length rest ≤ n → over AStep at a rest ≡ Ok r → Later IsMisc rest) → (o : Option (Token × List ℕ)) → first_token (d ∷ ds) ≡ o → Later IsMisc (d ∷ ds)
        by later None e =
            let stepped : AStep at a (d ∷ ds) ≡ Err (misplaced c at a) = ap (article_by (Step entities levels [] 0 c) c at a (d ∷ ds)) none ∙ cond-true a.typed _ _ typed_so ∙ ap (outside (Step entities levels [] 0 c) c at a (d ∷ ds)) e in
            absurd (not_both (misplaced c at a) r (sym (over_fault AStep at a d ds (misplaced c at a) stepped) ∙ is))
        by later (Some (token, rest)) e =
            by_outer IsMisc ([], refl) (λ token text rest front more begins misc split are. one_more token text rest front more begins misc split are) closed_so at a d ds fresh is token rest e (λ at rest few e. later at rest (omega (arith, few, fits)) e)

    -- Misc in front of what stands before the element
    more_prolog : (token : Token) (text rest prolog more : List ℕ) → Begins token text rest → is_misc token ≡ true → rest ≡ prolog ++ more → IsProlog prolog → (longer : List ℕ) × IsProlog longer × (text ≡ longer ++ more)
    more_prolog token text rest prolog more begins misc split (inl are) = let h = one_more token text rest prolog more begins misc split are in (h.0, inl h.1, h.2)
    more_prolog token text rest prolog more begins misc split (inr (before, doctype, after, misc_before, typed_so, misc_after, form)) =
        let whole : rest ≡ before ++ ((doctype ++ after) ++ more) = split ∙ ap (λ t. t ++ more) form ∙ append_assoc before (doctype ++ after) more in
        let h = one_more token text rest before ((doctype ++ after) ++ more) begins misc whole misc_before in
        (h.0 ++ (doctype ++ after), inr (h.0, doctype, after, h.1, typed_so, misc_after, refl), h.2 ∙ sym (append_assoc h.0 (doctype ++ after) more))

    -- a document type declaration
    by_type : r.state.opens ≡ [] → has_root r.state.items ≡ true → (at : ℕ) (a : Article) (d : ℕ) (ds : List ℕ) → a.state ≡ begun 0 → a.typed ≡ false → starts_with nat_eq (d ∷ ds) (codes "<!DOCTYPE") ≡ true
        → over AStep at a (d ∷ ds) ≡ Ok r → (o : Option (List ℕ)) → type_end (drop 9 (d ∷ ds)) ≡ o → Later IsProlog (d ∷ ds)
    by_type closed_so rooted_so at a d ds fresh untyped begins is o ends = by o ends (stepped o ends)
      where
        text : List ℕ
        text = d ∷ ds

        stepped : (o : Option (List ℕ)) → type_end (drop 9 (d ∷ ds)) ≡ o → AStep at a (d ∷ ds) ≡ type_by c at a (d ∷ ds) o
        stepped o ends =
            ap (article_by (Step entities levels [] 0 c) c at a (d ∷ ds)) (ap (λ (x : State). x.opens) fresh)
            ∙ cond-false a.typed _ _ untyped ∙ cond-true (starts_with nat_eq (d ∷ ds) (codes "<!DOCTYPE")) _ _ begins ∙ ap (type_by c at a (d ∷ ds)) ends

        fails : (e : Fault) → AStep at a (d ∷ ds) ≡ Err e → Later IsProlog (d ∷ ds)
        fails e step_so = absurd (not_both e r (sym (over_fault AStep at a d ds e step_so) ∙ is))

        closed_by_mark : (rest : List ℕ) → type_end (drop 9 (d ∷ ds)) ≡ Some (codes ">" ++ rest) → AStep at a (d ∷ ds) ≡ Ok (record a { typed = true }, length (d ∷ ds) - length rest) → Later IsProlog (d ∷ ds)
        closed_by_mark rest ends step_so =
            let f = doctype_found (d ∷ ds) rest begins ends in
            let size : length (d ∷ ds) ≡ length f.0 + length rest = ap length f.2 ∙ length-append f.0 rest in
            let filled : 0 < length f.0 = (let e : length f.0 ≡ suc (length (codes "!DOCTYPE" ++ (f.1.space ++ (f.1.name ++ (f.1.external ++ (f.1.blank ++ codes ">")))))) = ap length f.1.form in omega (arith, e)) in
            let n = length (d ∷ ds) - length rest in
            let same : n ≡ length f.0 = omega (arith, size) in
            let goes_so : over AStep at a (d ∷ ds) ≡ over AStep (at + n) (record a { typed = true }) rest =
            over_next AStep at n a (d ∷ ds) (Ok (record a { typed = true })) (omega arith) (omega (arith, same, filled)) step_so
            ∙ ap (over AStep (at + n) (record a { typed = true })) (ap (λ k. drop k (d ∷ ds)) same ∙ ap (drop (length f.0)) f.2 ∙ drop-append_seam f.0 rest) in
            let l = typed_found closed_so rooted_so (length rest) (at + n) (record a { typed = true }) rest (omega arith) fresh refl (sym goes_so ∙ is) in
            (f.0 ++ l.0, l.1, inr ([], f.0, l.0, ([], refl), f.1, l.2, refl), f.2 ∙ ap (λ t. f.0 ++ t) l.3 ∙ sym (append_assoc f.0 l.0 l.1), l.4)

        by : (o : Option (List ℕ)) → type_end (drop 9 (d ∷ ds)) ≡ o → AStep at a (d ∷ ds) ≡ type_by c at a (d ∷ ds) o → Later IsProlog (d ∷ ds)
        by None ends step_so = fails (refused c at 60 []) step_so
        by (Some rest) ends step_so = marks (starts_with nat_eq rest (codes ">")) refl (starts_with nat_eq rest (codes "[")) refl
          where
            marks : (b : Bool) → starts_with nat_eq rest (codes ">") ≡ b → (e : Bool) → starts_with nat_eq rest (codes "[") ≡ e → Later IsProlog (d ∷ ds)
            marks true mark e other =
                closed_by_mark (drop 1 rest) (ends ∙ ap Some (starts_found (codes ">") rest mark)) (step_so ∙ cond-true (starts_with nat_eq rest (codes ">")) _ _ mark)
            marks false mark true other =
                fails (refused c at 67 []) (step_so ∙ cond-false (starts_with nat_eq rest (codes ">")) _ _ mark ∙ cond-true (starts_with nat_eq rest (codes "[")) _ _ other)
            marks false mark false other =
                fails (refused c at 60 []) (step_so ∙ cond-false (starts_with nat_eq rest (codes ">")) _ _ mark ∙ cond-false (starts_with nat_eq rest (codes "[")) _ _ other)

    -- what stands before the element
    prolog_found : r.state.opens ≡ [] → has_root r.state.items ≡ true → (n at : ℕ) (a : Article) (text : List ℕ) → length text ≤ n → a.state ≡ begun 0 → a.typed ≡ false → over AStep at a text ≡ Ok r → Later IsProlog text
    prolog_found closed_so rooted_so n at a [] fits fresh untyped is = absurd (no_root at a fresh rooted_so is)
    prolog_found closed_so rooted_so zero at a (d ∷ ds) fits fresh untyped is = absurd (omega arith)
    prolog_found closed_so rooted_so (suc n) at a (d ∷ ds) fits fresh untyped is = type_or (λ at rest few e. prolog_found closed_so rooted_so n at a rest few fresh untyped e) (starts_with nat_eq (d ∷ ds) (codes "<!DOCTYPE")) refl
      where
        by : ((at : ℕ) (rest : List ℕ) → length rest ≤ n → over AStep at a rest ≡ Ok r → Later IsProlog rest) → starts_with nat_eq (d ∷ ds) (codes "<!DOCTYPE") ≡ false → (o : Option (Token × List ℕ)) → first_token (d ∷ ds) ≡ o → Later IsProlog (d ∷ ds)
        by later plain None e =
            let stepped : AStep at a (d ∷ ds) ≡ Err (misplaced c at a) =
            ap (article_by (Step entities levels [] 0 c) c at a (d ∷ ds)) (ap (λ (x : State). x.opens) fresh) ∙ cond-false a.typed _ _ untyped
            ∙ cond-false (starts_with nat_eq (d ∷ ds) (codes "<!DOCTYPE")) _ _ plain ∙ ap (outside (Step entities levels [] 0 c) c at a (d ∷ ds)) e in
            absurd (not_both (misplaced c at a) r (sym (over_fault AStep at a d ds (misplaced c at a) stepped) ∙ is))
        by later plain (Some (token, rest)) e =
            by_outer IsProlog (inl ([], refl)) (λ token text rest front more begins misc split are. more_prolog token text rest front more begins misc split are) closed_so at a d ds fresh is token rest e (λ at rest few e. later at rest (omega (arith, few, fits)) e)

        type_or : ((at : ℕ) (rest : List ℕ) → length rest ≤ n → over AStep at a rest ≡ Ok r → Later IsProlog rest) → (b : Bool) → starts_with nat_eq (d ∷ ds) (codes "<!DOCTYPE") ≡ b → Later IsProlog (d ∷ ds)
        type_or later true begins = by_type closed_so rooted_so at a d ds fresh untyped begins is (type_end (drop 9 (d ∷ ds))) refl
        type_or later false plain = by later plain (first_token (d ∷ ds)) refl

pub article_given : (entities : List Entity) (article text : List ℕ) (node : Node) → IsArticle entities text node → article_of entities article text ≡ Ok node
unfolding article_of
article_given entities article text node is =
    let c : Standing = record { article = article; inner = None } in
    ap (λ (x : Result Article Fault). x >>= λ a. whole c (length text) a.state.items a.state.opens) (article_over entities 32 c refl text node is)
    ∙ ap (λ (x : Items). Ok (record { name = node.name; atts = node.atts; items = x })) (sym is.items)

-- the node is the element
whole_found : (c : Standing) (end : ℕ) (items : Items) (opens : List Open) (node : Node) → whole c end items opens ≡ Ok node → (opens ≡ []) × (has_root items ≡ true)
whole_found c end tree.nothing opens node e = cc
whole_found c end (tree.element name atts inside later) [] node e = (refl, refl)
whole_found c end (tree.element name atts inside later) (o ∷ opens) node e = cc
whole_found c end (tree.chars text plain later) opens node e = cc
whole_found c end (tree.comment text later) opens node e = cc
whole_found c end (tree.pi target body later) opens node e = cc

abbrev node_ok : Node → Result Node Fault
node_ok node = Ok node

same_node : (a b : Node) → node_ok a ≡ Ok b → a ≡ b
same_node a b e = cc

pub article_found : (entities : List Entity) (article text : List ℕ) (node : Node) → article_of entities article text ≡ Ok node → IsArticle entities text node
unfolding article_of
article_found entities article text node e =
    let c : Standing = record { article = article; inner = None } in
    let h = bind_inverts (over (article_step (content_step entities (content 32 entities) [] 0 c) c) 0 unread text) (λ a. whole c (length text) a.state.items a.state.opens) node e in
    let w = whole_found c (length text) h.0.state.items h.0.state.opens node h.2 in
    let l = prolog_found entities 32 c h.0 w.0 w.1 (length text) 0 unread text (omega arith) refl refl h.1 in
    let rooted = l.4 in
    let given : Node = record { name = rooted.name; atts = rooted.atts; items = items_of rooted.inside } in
    let same : given ≡ node = same_node given node (sym (ap (λ (x : Items). whole c (length text) x h.0.state.opens) rooted.items ∙ ap (whole c (length text) (tree.element rooted.name rooted.atts (items_of rooted.inside) tree.nothing)) w.0) ∙ h.2) in
    let found : IsArticle entities text given = record {
      prolog = l.0;
      root = rooted.root;
      epilog = rooted.epilog;
      inside = rooted.inside;
      spent = rooted.spent;
      form = l.3 ∙ ap (λ t. l.0 ++ t) rooted.form;
      is_prolog = l.2;
      is_root = rooted.is_root;
      is_epilog = rooted.is_epilog;
      items = refl;
    } in
    subst (IsArticle entities text) same found
