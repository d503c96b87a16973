-- A stack of texts against the nested definition of reading.
use Rattle.std.proofs.Common.{◌≡◌, ◌∙◌, ℕ, suc, ◌+◌, ◌-◌, ◌<◌, ◌≤◌, List, [], ◌∷◌, ◌++◌, length, drop, Bool, true, None, Result, Ok, Err, refl, ap, sym, arith, length-append, length-drop}
use Rattle.dtd_scanner.specs.Walk.{◌>>=◌, over}
use Rattle.dtd_scanner.proofs.Walking.{bind_cong, bind_assoc, bind_ok, over_at, over_end}
use Rattle.jats_fault.specs.declared.fault.Fault.{Fault}
use Rattle.decl_set.specs.Declarations.{Entity}
use Rattle.decl_set.specs.Values.{predefined, opening}
use Rattle.decl_set.specs.declared.faults.ValueFault.{ValueFault}
use Rattle.article_tree.specs.Tokens.{Token, named}
use Rattle.article_tree.specs.Words.{Names}
use Rattle.article_tree.specs.Taking.{first_token}
use Rattle.article_tree.specs.Taken.{StandsAt}
use Rattle.article_tree.specs.Stops.{Standing, standing_in, stopped, malformed}
use Rattle.article_tree.specs.Reading.{Open, State, Article, article_step, article_by, holding, whole}
use Rattle.article_tree.specs.InPlace.{reading_in, noted, closed_in, referred_in, done_in, by_token_in}
use Rattle.article_tree.specs.Frames.{Passage, moved, rest_of, step, from, article_from, resumed, left, IsInside}

module _ (entities : List Entity) where
  -- the last text goes on first
  pub resumed_last : (ps : List Passage) (p : Passage) (s : State) → resumed entities (ps ++ p ∷ []) s ≡ (from entities p s >>= resumed entities ps)
  resumed_last [] p s = sym (bind_ok (from entities p s))
  resumed_last (q ∷ ps) p s = ap (λ r. r >>= from entities q) (resumed_last ps p s) ∙ bind_assoc (from entities p s) (resumed entities ps) (from entities q)

  held : (a : Article) (n : ℕ) (x : Result State Fault) → holding a (x >>= λ v. Ok (v, n)) ≡ ((x >>= λ v. Ok (record { state = v; typed = true })) >>= λ b. Ok (b, n))
  held a n (Ok v) = refl
  held a n (Err e) = refl

  step_held : (p : Passage) (typed : Bool) (s : State) (n : ℕ) (x : Result State Fault) (opens : List Open) (o : Open) (os : List Open) → opens ≡ o ∷ os → step entities p p.at s (rest_of p) ≡ (x >>= λ v. Ok (v, n))
      → article_by (step entities p) p.standing p.at (record { state = s; typed = typed }) (rest_of p) opens ≡ ((x >>= λ v. Ok (record { state = v; typed = true })) >>= λ b. Ok (b, n))
  step_held p typed s n x opens o os is e =
      let a : Article = record { state = s; typed = typed } in
      ap (article_by (step entities p) p.standing p.at a (rest_of p)) is ∙ ap (holding a) e ∙ held a n x

  -- a step of the article's text
  article_moves : (p : Passage) (typed : Bool) (s : State) (n : ℕ) (x : Result Article Fault) → p.at < length p.text → 0 < n
      → article_step (step entities p) p.standing p.at (record { state = s; typed = typed }) (rest_of p) ≡ (x >>= λ b. Ok (b, n))
      → article_from entities p typed s ≡ (x >>= λ b. article_from entities (moved p (p.at + n)) b.typed b.state)
  article_moves p typed s n x here some e =
      let last = λ (a : Article). whole p.standing (length p.text) a.state.items a.state.opens in
      ap (λ (r : Result Article Fault). r >>= last) (over_at (article_step (step entities p) p.standing) p.at n (record { state = s; typed = typed }) p.text x here some e)
      ∙ bind_assoc x (λ b. over (article_step (step entities p) p.standing) (p.at + n) b (drop (p.at + n) p.text)) last

  -- a step of the text of an entity
  text_moves : (p : Passage) (s : State) (n : ℕ) (x : Result State Fault) → p.at < length p.text → 0 < n → step entities p p.at s (rest_of p) ≡ (x >>= λ v. Ok (v, n))
      → from entities p s ≡ (x >>= λ v. from entities (moved p (p.at + n)) v)
  text_moves p s n x here some e =
      ap (λ (r : Result State Fault). r >>= closed_in p.base p.standing (length p.text)) (over_at (step entities p) p.at n s p.text x here some e)
      ∙ bind_assoc x (λ v. over (step entities p) (p.at + n) v (drop (p.at + n) p.text)) (closed_in p.base p.standing (length p.text))

  -- a token of a content
  pub content_moves : (typed : Bool) (ps : List Passage) (p : Passage) (s : State) (n : ℕ) (x : Result State Fault) → p.at < length p.text → 0 < n → IsInside ps s
      → step entities p p.at s (rest_of p) ≡ (x >>= λ v. Ok (v, n)) → left entities typed ps p s ≡ (x >>= λ v. left entities true ps (moved p (p.at + n)) v)
  content_moves typed [] p s n x here some (o, os, is) e =
      let y = x >>= λ v. Ok (record { state = v; typed = true }) in
      article_moves p typed s n y here some (step_held p typed s n x s.opens o os is e)
      ∙ bind_assoc x (λ v. Ok (record { state = v; typed = true })) (λ b. article_from entities (moved p (p.at + n)) b.typed b.state)
  content_moves typed (o ∷ ps) p s n x here some inside e =
      ap (λ (r : Result State Fault). (r >>= resumed entities ps) >>= article_from entities o true) (text_moves p s n x here some e)
      ∙ ap (λ (r : Result State Fault). r >>= article_from entities o true) (bind_assoc x (λ v. from entities (moved p (p.at + n)) v) (resumed entities ps))
      ∙ bind_assoc x (λ v. from entities (moved p (p.at + n)) v >>= resumed entities ps) (article_from entities o true)

  -- a text that opens, with this one waiting
  pub text_opens : (ps : List Passage) (p q : Passage) (s : State) → left entities true (ps ++ p ∷ []) q s ≡ (from entities q s >>= λ v. left entities true ps p v)
  text_opens [] p q s = ap (λ (r : Result State Fault). r >>= article_from entities p true) (bind_ok (from entities q s))
  text_opens (o ∷ ps) p q s =
      ap (λ (r : Result State Fault). r >>= article_from entities o true) (bind_cong (from entities q s) (resumed entities (ps ++ p ∷ [])) (λ v. from entities p v >>= resumed entities ps) (λ v. resumed_last ps p v))
      ∙ bind_assoc (from entities q s) (λ v. from entities p v >>= resumed entities ps) (article_from entities o true)

  -- the text of an entity ends, and the last one that waits goes on
  pub text_ends : (ps : List Passage) (p q : Passage) (s : State) → length q.text ≤ q.at → left entities true (ps ++ p ∷ []) q s ≡ (closed_in q.base q.standing (length q.text) s >>= λ v. left entities true ps p v)
  text_ends ps p q s end =
      text_opens ps p q s
      ∙ ap (λ (r : Result State Fault). (r >>= closed_in q.base q.standing (length q.text)) >>= λ v. left entities true ps p v) (over_end (step entities q) q.at s (rest_of q) (simp length-drop (omega arith)))

  -- the article ends
  pub article_ends : (typed : Bool) (p : Passage) (s : State) → length p.text ≤ p.at → left entities typed [] p s ≡ whole p.standing (length p.text) s.items s.opens
  article_ends typed p s end =
      ap (λ (r : Result Article Fault). r >>= λ a. whole p.standing (length p.text) a.state.items a.state.opens) (over_end (article_step (step entities p) p.standing) p.at (record { state = s; typed = typed }) (rest_of p) (simp length-drop (omega arith)))

  -- outside of all elements
  pub article_skips : (typed now : Bool) (p : Passage) (s : State) (n : ℕ) → p.at < length p.text → 0 < n
      → article_step (step entities p) p.standing p.at (record { state = s; typed = typed }) (rest_of p) ≡ Ok (record { state = s; typed = now }, n)
      → left entities typed [] p s ≡ left entities now [] (moved p (p.at + n)) s
  article_skips typed now p s n here some e = article_moves p typed s n (Ok (record { state = s; typed = now })) here some e

  pub article_starts : (typed : Bool) (p : Passage) (s : State) (n : ℕ) (x : Result State Fault) → p.at < length p.text → 0 < n
      → article_step (step entities p) p.standing p.at (record { state = s; typed = typed }) (rest_of p) ≡ holding (record { state = s; typed = typed }) (x >>= λ v. Ok (v, n))
      → left entities typed [] p s ≡ (x >>= λ v. left entities true [] (moved p (p.at + n)) v)
  article_starts typed p s n x here some e =
      let y = x >>= λ v. Ok (record { state = v; typed = true }) in
      article_moves p typed s n y here some (e ∙ held (record { state = s; typed = typed }) n x)
      ∙ bind_assoc x (λ v. Ok (record { state = v; typed = true })) (λ b. article_from entities (moved p (p.at + n)) b.typed b.state)

  pub article_stops : (typed : Bool) (p : Passage) (s : State) (e : Fault) → p.at < length p.text
      → article_step (step entities p) p.standing p.at (record { state = s; typed = typed }) (rest_of p) ≡ Err e → left entities typed [] p s ≡ Err e
  article_stops typed p s e here is = article_moves p typed s 1 (Err e) here (omega arith) is

  -- one level deeper
  pub inside : (p q : Passage) (name : List ℕ) (s : State) → length p.names < 32 → q.names ≡ p.names ++ name ∷ [] → q.base ≡ length s.opens → q.at ≡ 0
      → reading_in (32 - length p.names) entities q.names q.standing s q.text ≡ from entities q (noted s q.text)
  inside p q name s room names base start =
      let size : length q.names ≡ length p.names + 1 = ap length names ∙ length-append p.names (name ∷ []) in
      let e : 32 - length p.names ≡ suc (32 - length q.names) = omega (arith, size) in
      rw (e, base, start) refl

  -- a token of a content that stands there
  pub token_moves : (typed : Bool) (ps : List Passage) (p : Passage) (s : State) (token : Token) (next : ℕ) → p.at < length p.text → StandsAt p.text p.at token next → IsInside ps s
      → left entities typed ps p s ≡ (done_in entities (reading_in (32 - length p.names) entities) p.names p.base p.standing p.at s token >>= λ v. left entities true ps (moved p next) v)
  token_moves typed ps p s token next here h inside =
      let deeper = reading_in (32 - length p.names) entities in
      let x = done_in entities deeper p.names p.base p.standing p.at s token in
      let n = length (rest_of p) - length h.rest in
      content_moves typed ps p s n x here (omega (arith, h.some, h.far)) inside (ap (by_token_in entities deeper p.names p.base p.standing p.at s (rest_of p)) h.is)
      ∙ ap (λ (m : ℕ). x >>= λ v. left entities true ps (moved p m) v) (sym h.far)

  -- no token stands there
  pub token_stops : (typed : Bool) (ps : List Passage) (p : Passage) (s : State) → p.at < length p.text → first_token (rest_of p) ≡ None → IsInside ps s → left entities typed ps p s ≡ Err (malformed p.standing p.at)
  token_stops typed ps p s here none inside =
      content_moves typed ps p s 1 (Err (malformed p.standing p.at)) here (omega arith) inside (ap (by_token_in entities (reading_in (32 - length p.names) entities) p.names p.base p.standing p.at s (rest_of p)) none)

  -- what a token does is put, or is what a definition says
  pub token_put : (typed : Bool) (ps : List Passage) (p : Passage) (s now : State) (token : Token) (next : ℕ) → p.at < length p.text → StandsAt p.text p.at token next → IsInside ps s
      → done_in entities (reading_in (32 - length p.names) entities) p.names p.base p.standing p.at s token ≡ Ok now → left entities true ps (moved p next) now ≡ left entities typed ps p s
  token_put typed ps p s now token next here h inside is =
      sym (token_moves typed ps p s token next here h inside ∙ ap (λ (x : Result State Fault). x >>= λ v. left entities true ps (moved p next) v) is)

  pub token_fails : (typed : Bool) (ps : List Passage) (p : Passage) (s : State) (token : Token) (next : ℕ) (e : Fault) → p.at < length p.text → StandsAt p.text p.at token next → IsInside ps s
      → done_in entities (reading_in (32 - length p.names) entities) p.names p.base p.standing p.at s token ≡ Err e → left entities typed ps p s ≡ Err e
  token_fails typed ps p s token next e here h inside is =
      token_moves typed ps p s token next here h inside ∙ ap (λ (x : Result State Fault). x >>= λ v. left entities true ps (moved p next) v) is

  -- a reference that opens: its text is read, and this one waits
  pub reference_opens : (typed : Bool) (ps : List Passage) (p q : Passage) (s : State) (name : List ℕ) (next spent : ℕ) → p.at < length p.text → StandsAt p.text p.at (named name) next → IsInside ps s → predefined name ≡ None
      → opening entities p.names s.spent name ≡ Ok (q.text, spent) → length p.names < 32 → q.names ≡ p.names ++ name ∷ [] → q.standing ≡ standing_in p.standing p.at name → q.base ≡ length s.opens → q.at ≡ 0
      → left entities true (ps ++ moved p next ∷ []) q (noted (record s { spent = spent }) q.text) ≡ left entities typed ps p s
  reference_opens typed ps p q s name next spent here h within other opens room names standing base start =
      let deeper = reading_in (32 - length p.names) entities in
      let now : State = record s { spent = spent } in
      let rest = λ (v : State). left entities true ps (moved p next) v in
      let did : done_in entities deeper p.names p.base p.standing p.at s (named name) ≡ deeper q.names q.standing now q.text =
      ap (referred_in entities deeper p.names p.standing p.at s name) other
      ∙ ap (λ (x : Result (List ℕ × ℕ) ValueFault). stopped p.standing p.at name x >>= λ t. deeper (p.names ++ name ∷ []) (standing_in p.standing p.at name) (record s { spent = t.1 }) t.0) opens
      ∙ ap (λ (n : Names). deeper n (standing_in p.standing p.at name) now q.text) (sym names) ∙ ap (λ (c : Standing). deeper q.names c now q.text) (sym standing) in
      text_opens ps (moved p next) q (noted now q.text)
      ∙ ap (λ (x : Result State Fault). x >>= rest) (sym (did ∙ inside p q name now room names base start))
      ∙ sym (token_moves typed ps p s (named name) next here h within)
