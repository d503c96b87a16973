-- Steps of a reading.
use Rattle.std.proofs.Common.{◌≡◌, ◌∙◌, ℕ, ◌+◌, ◌-◌, ◌*◌, ◌<◌, ◌≤◌, List, [], ◌∷◌, ◌++◌, length, map, Bool, true, false, Some, None, Result, Ok, Err, refl, ap, sym, arith, length-append}
use Rattle.std.specs.Prelude.{IfOk, Option, Vec, bytes_eq, nat_lt, if◌then◌else◌}
use Rattle.std.specs.declared.alloc.Global.{Global}
use Rattle.std.proofs.lemmas.List.{map_push}
use Rattle.std.proofs.lemmas.Bool.{cond-true, cond-false, lt-ltb}
use Rattle.decl_set.specs.Values.{predefined, opening, value_of}
use Rattle.jats_fault.specs.declared.fault.Fault.{Fault}
use Rattle.document_trees.specs.Trees.{Attribute, Items, Node}
use Rattle.document_trees.specs.Trees as tree
use Rattle.dtd_scanner.specs.Walk.{◌>>=◌}
use Rattle.pe_expansion.specs.Expansion.{Written}
use Rattle.decl_set.specs.Outcomes.{ValueFails}
use Rattle.decl_set.specs.declared.faults.ValueFault.{ValueFault}
use Rattle.decl_set.specs.declared.faults.ValueFault.TheVariants as value
use Rattle.decl_set.proofs.ValueSpending.{value_rises}
use Rattle.decl_set.specs.Declarations.{Entity}
use Rattle.article_tree.specs.Tokens.{Raw, Tag, Token, named}
use Rattle.article_tree.specs.Words.{Names, most_elements, repeated}
use Rattle.article_tree.specs.Frames.{Passage, IsInside, all_unread, left, moved, rest_of, unread}
use Rattle.article_tree.specs.Held.{EndsApart, state_of}
use Rattle.article_tree.specs.Outcomes.{Fails, Refuses, StopsBy, standing_of}
use Rattle.article_tree.specs.Reading.{Open, State, ended, entered, popped, put, started, unrepeated, values, whole, with_first}
use Rattle.article_tree.specs.Stops.{Standing, malformed, refused, standing_in, stopped, value_stop}
use Rattle.article_tree.specs.InPlace.{closed_in, ended_in, noted, reading_in, referred_in}
use Rattle.article_tree.specs.Taking.{first_token}
use Rattle.article_tree.specs.Works.{Advances, Stands, does, left_of, passage_of, size_of, work_of}
use Rattle.article_tree.specs.declared.frames.Frame.{Frame}
use Rattle.article_tree.specs.declared.frames.Work.{Work}
use Rattle.article_tree.specs.declared.held.Held.{Held}
use Rattle.article_tree.specs.declared.stops.ArticleFault.{ArticleFault}
use Rattle.article_tree.specs.declared.stops.ArticleFault.TheVariants.{Refused, NoMemory}
use Rattle.article_tree.proofs.Tagged.{not_below, refuses_fails}
use Rattle.article_tree.proofs.Waiting.{article_ends, reference_opens, text_ends, token_put, token_fails, token_stops}

-- the work behind a token
abbrev pub passed : Work → Held → ℕ → Work
passed w h next = record w { held = h; typed = true; frame = record w.frame { at = next } }

module _ (entities : List Entity) (w : Work) (token : Token) (next : ℕ) (s : Stands w token next) where
  pub advances : (h : Held) → does entities w.frame (state_of w.held) token ≡ Ok (state_of h) → w.held.spent ≤ h.spent → EndsApart h.items.items → Advances entities w (passed w h next)
  unfolding left_of size_of
  advances h is rises apart = record {
    same = token_put entities w.typed (map passage_of w.waiting.items) (passage_of w.frame) (state_of w.held) (state_of h) token next s.here s.stands s.inside is;
    nearer = omega (arith, s.stands.some, s.stands.within, rises);
    apart = apart;
  }

  -- items are put
  pub put_advances : (h : Held) (items : Items) → does entities w.frame (state_of w.held) token ≡ Ok (put (state_of w.held) items) → state_of h ≡ put (state_of w.held) items → EndsApart h.items.items → Advances entities w (passed w h next)
  put_advances h items is state apart = advances h (is ∙ ap Ok (sym state)) (let e = ap (λ (t : State). t.spent) state in omega (arith, e)) apart

  pub fails : (f : ArticleFault) → Fails f (does entities w.frame (state_of w.held) token) → Fails f (left_of entities w)
  unfolding left_of
  fails (Refused r) h = token_fails entities w.typed (map passage_of w.waiting.items) (passage_of w.frame) (state_of w.held) token next r s.here s.stands s.inside h
  fails NoMemory h = tt

-- a reference to a predefined entity
pub predefined_put : (entities : List Entity) (f : Frame) (s : State) (name : List ℕ) (char : ℕ) → predefined name ≡ Some char → does entities f s (named name) ≡ Ok (put s (tree.chars (char ∷ []) false tree.nothing))
predefined_put entities f s name char is = ap (referred_in entities (reading_in (32 - length f.names) entities) f.names (standing_of f.stand) f.at s name) is

-- a reference that does not open
does_stop : (entities : List Entity) (f : Frame) (s : State) (name : List ℕ) (fault : ValueFault) → predefined name ≡ None → opening entities f.names s.spent name ≡ Err fault → does entities f s (named name) ≡ Err (value_stop (standing_of f.stand) f.at name fault)
does_stop entities f s name fault other is =
    let deeper = reading_in (32 - length f.names) entities in
    ap (referred_in entities deeper f.names (standing_of f.stand) f.at s name) other
    ∙ ap (λ (x : Result (List ℕ × ℕ) ValueFault). stopped (standing_of f.stand) f.at name x >>= λ t. deeper (f.names ++ name ∷ []) (standing_in (standing_of f.stand) f.at name) (record s { spent = t.1 }) t.0) is

pub not_opened : (entities : List Entity) (f : Frame) (s : State) (name : List ℕ) (fault : ValueFault) (r : ArticleFault) → predefined name ≡ None → ValueFails fault (opening entities f.names s.spent name)
    → StopsBy (standing_of f.stand) f.at name fault r → Fails r (does entities f s (named name))
not_opened entities f s name value.NoMemory r other is stops = rw stops tt
not_opened entities f s name (value.EntityUnknown n) r other is stops = refuses_fails r _ _ stops (does_stop entities f s name (value.EntityUnknown n) other is)
not_opened entities f s name (value.EntityExternal n) r other is stops = refuses_fails r _ _ stops (does_stop entities f s name (value.EntityExternal n) other is)
not_opened entities f s name (value.RecursiveEntity n) r other is stops = refuses_fails r _ _ stops (does_stop entities f s name (value.RecursiveEntity n) other is)
not_opened entities f s name (value.EntityTooDeep n) r other is stops = refuses_fails r _ _ stops (does_stop entities f s name (value.EntityTooDeep n) other is)
not_opened entities f s name (value.ExpansionOver n) r other is stops = refuses_fails r _ _ stops (does_stop entities f s name (value.ExpansionOver n) other is)
not_opened entities f s name value.LessThan r other is stops = refuses_fails r _ _ stops (does_stop entities f s name value.LessThan other is)
not_opened entities f s name value.Malformed r other is stops = refuses_fails r _ _ stops (does_stop entities f s name value.Malformed other is)

-- an included text that is empty, and another
pub noted_empty : (s : State) (text : List ℕ) → length text ≡ 0 → put s (tree.chars text true tree.nothing) ≡ noted s text
noted_empty s [] none = refl
noted_empty s (c ∷ cs) none = absurd (omega (arith, none))

pub noted_other : (s : State) (text : List ℕ) → (length text ≡ 0 → ⊥) → noted s text ≡ s
noted_other s [] some = absurd (some refl)
noted_other s (c ∷ cs) some = refl

-- ---- the count of included characters

with_first_rises : (least : ℕ) (name : List ℕ) (w : Written) (x : Result (List Attribute × ℕ) Fault) → IfOk x (λ (r : List Attribute × ℕ). least ≤ r.1) → IfOk (x >>= λ r. Ok (with_first name w r)) (λ (r : List Attribute × ℕ). least ≤ r.1)
with_first_rises least name w (Ok r) h = h
with_first_rises least name w (Err e) h = tt

later_rises : (least : ℕ) (x : Result (List Attribute × ℕ) Fault) (more : ℕ) → least ≤ more → IfOk x (λ (r : List Attribute × ℕ). more ≤ r.1) → IfOk x (λ (r : List Attribute × ℕ). least ≤ r.1)
later_rises least (Ok r) more le h = omega (arith, le, h)
later_rises least (Err e) more le h = tt

module _ (entities : List Entity) (names : Names) (c : Standing) (at : ℕ) where
  first_rises : (spent : ℕ) (raw : Raw) (raws : List Raw) (x : Result Written ValueFault) → ((n : ℕ) → IfOk (values entities names c at n raws) (λ (r : List Attribute × ℕ). n ≤ r.1)) → IfOk x (λ (w : Written). spent ≤ w.spent)
      → IfOk (stopped c at raw.0 x >>= λ (w : Written). values entities names c at w.spent raws >>= λ r. Ok (with_first raw.0 w r)) (λ (r : List Attribute × ℕ). spent ≤ r.1)
  first_rises spent raw raws (Ok w) rises le = later_rises spent (values entities names c at w.spent raws >>= λ r. Ok (with_first raw.0 w r)) w.spent le (with_first_rises w.spent raw.0 w (values entities names c at w.spent raws) (rises w.spent))
  first_rises spent raw raws (Err e) rises le = tt

  values_rise : (spent : ℕ) (raws : List Raw) → IfOk (values entities names c at spent raws) (λ (r : List Attribute × ℕ). spent ≤ r.1)
  values_rise spent [] = omega arith
  values_rise spent (raw ∷ raws) = first_rises spent raw raws (value_of entities names spent raw.1) (λ n. values_rise n raws) (value_rises entities names spent raw.1)

  entered_spent : (s : State) (name : List ℕ) (atts : List Attribute) (spent : ℕ) (closed : Bool) → (entered s name atts spent closed).spent ≡ spent
  entered_spent s name atts spent true = refl
  entered_spent s name atts spent false = refl

  allowed_rises : (fits : Bool) (least : ℕ) (v : State) (e : Fault) (now : State) → least ≤ v.spent → (if fits then Ok v else Err e) ≡ Ok now → least ≤ now.spent
  allowed_rises true least v e now le is = let f : v ≡ now = cc in rw (sym f) le
  allowed_rises false least v e now le is = absurd (let f : Err e ≡ Ok now = is in cc)

  kept_rises : (s : State) (tag : Tag) (atts : List Attribute) (spent : ℕ) (again : Option (List ℕ)) (now : State) → s.spent ≤ spent → unrepeated 0 c at s tag atts spent again ≡ Ok now → s.spent ≤ now.spent
  kept_rises s tag atts spent None now le is =
      allowed_rises (nat_lt (0 + length s.opens) most_elements) s.spent (entered s tag.name atts spent tag.closed) (refused c at 65 (tag.name ∷ [])) now (let e = entered_spent s tag.name atts spent tag.closed in omega (arith, e, le)) is
  kept_rises s tag atts spent (Some again) now le is = absurd (let f : Err (refused c at 62 (tag.name ∷ again ∷ [])) ≡ Ok now = is in cc)

  valued_rises : (s : State) (tag : Tag) (x : Result (List Attribute × ℕ) Fault) (now : State) → IfOk x (λ (r : List Attribute × ℕ). s.spent ≤ r.1) → (x >>= λ r. unrepeated 0 c at s tag r.0 r.1 (repeated [] r.0)) ≡ Ok now → s.spent ≤ now.spent
  valued_rises s tag (Ok r) now le is = kept_rises s tag r.0 r.1 (repeated [] r.0) now le is
  valued_rises s tag (Err e) now le is = absurd (let f : Err e ≡ Ok now = is in cc)

  -- a tag counts no less than before
  pub started_rises : (s : State) (tag : Tag) (now : State) → started entities names 0 c at s tag ≡ Ok now → s.spent ≤ now.spent
  started_rises s tag now is = valued_rises s tag (values entities names c at s.spent tag.atts) now (values_rise s.spent tag.atts) is

-- an end tag keeps the count
one_ended : (same : Bool) (v : State) (e : Fault) (now : State) → (if same then Ok v else Err e) ≡ Ok now → v ≡ now
one_ended true v e now is = cc
one_ended false v e now is = absurd (let f : Err e ≡ Ok now = is in cc)

ended_keeps : (c : Standing) (at : ℕ) (s : State) (name : List ℕ) (opens : List Open) (now : State) → ended c at s name opens ≡ Ok now → s.spent ≤ now.spent
ended_keeps c at s name [] now is = absurd (let f : Err (malformed c at) ≡ Ok now = is in cc)
ended_keeps c at s name (o ∷ opens) now is =
    let e = one_ended (bytes_eq o.name name) (popped s o opens) (refused c at 61 (o.name ∷ name ∷ [])) now is in
    let f = ap (λ (v : State). v.spent) e in
    omega (arith, f)

if_ended : (inside : Bool) (x : Result State Fault) (e : Fault) (now : State) → (if inside then x else Err e) ≡ Ok now → x ≡ Ok now
if_ended true x e now is = is
if_ended false x e now is = absurd (let f : Err e ≡ Ok now = is in cc)

pub ended_rises : (base : ℕ) (c : Standing) (at : ℕ) (s : State) (name : List ℕ) (now : State) → ended_in base c at s name ≡ Ok now → s.spent ≤ now.spent
ended_rises base c at s name now is = ended_keeps c at s name s.opens now (if_ended (nat_lt base (length s.opens)) (ended c at s name s.opens) (malformed c at) now is)

-- no token stands at the place
pub no_token : (entities : List Entity) (w : Work) (f : ArticleFault) → w.frame.at < length w.frame.text.now → IsInside (map passage_of w.waiting.items) (state_of w.held) → first_token (rest_of (passage_of w.frame)) ≡ None
    → Refuses (malformed (standing_of w.frame.stand) w.frame.at) f → Fails f (left_of entities w)
unfolding left_of
no_token entities w (Refused r) here inside none is = token_stops entities w.typed (map passage_of w.waiting.items) (passage_of w.frame) (state_of w.held) here none inside ∙ ap Err (sym is)
no_token entities w NoMemory here inside none is = tt

-- ---- texts that open and end

unread_push : (ps : List Passage) (p : Passage) → all_unread (ps ++ p ∷ []) ≡ all_unread ps + unread p
unread_push [] p = omega arith
unread_push (q ∷ ps) p = omega (arith, unread_push ps p)

pub opens_size : (frames now : List Frame) (f : Frame) (at : ℕ) (was spent : ℕ) (inner : List ℕ) → at < f.at → f.at ≤ length f.text.now → spent ≡ was + length inner → spent ≤ 67108864 → now ≡ frames ++ f ∷ []
    → 2 * ((67108864 - spent) + ((length inner - 0) + all_unread (map passage_of now))) + length now < 2 * ((67108864 - was) + ((length f.text.now - at) + all_unread (map passage_of frames))) + length frames
opens_size frames now f at was spent inner some within counted room is =
    let e : all_unread (map passage_of now) ≡ all_unread (map passage_of frames) + (length f.text.now - f.at) = ap (λ (t : List Frame). all_unread (map passage_of t)) is ∙ ap all_unread (map_push passage_of frames f) ∙ unread_push (map passage_of frames) (passage_of f) in
    let l : length now ≡ length frames + 1 = ap length is ∙ length-append frames (f ∷ []) in
    omega (arith, e, l, some, within, counted, room)

pub ends_size : (frames now : List Frame) (f : Frame) (left spent : ℕ) → frames ≡ now ++ f ∷ []
    → 2 * ((67108864 - spent) + ((length f.text.now - f.at) + all_unread (map passage_of now))) + length now < 2 * ((67108864 - spent) + (left + all_unread (map passage_of frames))) + length frames
ends_size frames now f left spent is =
    let e : all_unread (map passage_of frames) ≡ all_unread (map passage_of now) + (length f.text.now - f.at) = ap (λ (t : List Frame). all_unread (map passage_of t)) is ∙ ap all_unread (map_push passage_of now f) ∙ unread_push (map passage_of now) (passage_of f) in
    let l : length frames ≡ length now + 1 = ap length is ∙ length-append now (f ∷ []) in
    omega (arith, e, l)

-- a reference that opens
pub opens : (entities : List Entity) (w : Work) (name : List ℕ) (next : ℕ) (s : Stands w (named name) next) (q : Frame) (ps : Vec Frame Global) (h : Held) (text : List ℕ) (spent base : ℕ) → predefined name ≡ None
    → opening entities w.frame.names w.held.spent name ≡ Ok (text, spent) → spent ≡ w.held.spent + length text → spent ≤ 67108864 → length w.frame.names < 32
    → base ≡ length (state_of w.held).opens → passage_of q ≡ record { text = text; names = w.frame.names ++ name ∷ []; base = base; standing = standing_in (standing_of w.frame.stand) w.frame.at name; at = 0 }
    → ps.items ≡ w.waiting.items ++ (record w.frame { at = next }) ∷ [] → state_of h ≡ noted (record (state_of w.held) { spent = spent }) text → h.spent ≡ spent → EndsApart h.items.items
    → Advances entities w (work_of h true q ps)
unfolding left_of size_of
opens entities w name next s q ps h text spent base other is counted room few based at push state same apart =
    let f : Frame = record w.frame { at = next } in
    let waits : map passage_of ps.items ≡ map passage_of w.waiting.items ++ moved (passage_of w.frame) next ∷ [] = ap (map passage_of) push ∙ map_push passage_of w.waiting.items f in
    record {
      same =
          ap (λ (t : List Passage). left entities true t (passage_of q) (state_of h)) waits
          ∙ ap (λ (v : State). left entities true (map passage_of w.waiting.items ++ moved (passage_of w.frame) next ∷ []) (passage_of q) v) (state ∙ ap (noted (record (state_of w.held) { spent = spent })) (sym (ap (λ (p : Passage). p.text) at)))
          ∙ reference_opens entities w.typed (map passage_of w.waiting.items) (passage_of w.frame) (passage_of q) (state_of w.held) name next spent s.here s.stands s.inside other
          (is ∙ ap (λ (t : List ℕ). Ok (t, spent)) (sym (ap (λ (p : Passage). p.text) at))) few (ap (λ (p : Passage). p.names) at) (ap (λ (p : Passage). p.standing) at) (ap (λ (p : Passage). p.base) at ∙ based) (ap (λ (p : Passage). p.at) at);
      nearer =
          let size = opens_size w.waiting.items ps.items f w.frame.at w.held.spent spent text s.stands.some s.stands.within counted room push in
          let t : length q.text.now ≡ length text = ap (λ (p : Passage). length p.text) at in
          let z : q.at ≡ 0 = ap (λ (p : Passage). p.at) at in
          omega (arith, size, t, z, same);
      apart = apart;
    }

-- ---- the end of a text

pub empty_list : {X : Type 0} (xs : List X) → length xs ≡ 0 → xs ≡ []
empty_list [] none = refl
empty_list (x ∷ xs) none = absurd (omega (arith, none))

typed_any : (entities : List Entity) (typed : Bool) (ps : List Passage) (p q : Passage) (s : State) → left entities typed (ps ++ p ∷ []) q s ≡ left entities true (ps ++ p ∷ []) q s
typed_any entities typed [] p q s = refl
typed_any entities typed (o ∷ ps) p q s = refl

last_waits : (entities : List Entity) (w : Work) (now : List Frame) (f : Frame) → w.waiting.items ≡ now ++ f ∷ [] → length w.frame.text.now ≤ w.frame.at
    → left_of entities w ≡ (closed_in w.frame.base (standing_of w.frame.stand) (length w.frame.text.now) (state_of w.held) >>= λ v. left entities true (map passage_of now) (passage_of f) v)
unfolding left_of
last_waits entities w now f is end =
    ap (λ (t : List Passage). left entities w.typed t (passage_of w.frame) (state_of w.held)) (ap (map passage_of) is ∙ map_push passage_of now f)
    ∙ typed_any entities w.typed (map passage_of now) (passage_of f) (passage_of w.frame) (state_of w.held)
    ∙ text_ends entities (map passage_of now) (passage_of f) (passage_of w.frame) (state_of w.held) end

-- an element is open
pub open_ends : (entities : List Entity) (w : Work) (now : List Frame) (f : Frame) (r : ArticleFault) → w.waiting.items ≡ now ++ f ∷ [] → length w.frame.text.now ≤ w.frame.at → w.frame.base < length (state_of w.held).opens
    → Refuses (malformed (standing_of w.frame.stand) (length w.frame.text.now)) r → Fails r (left_of entities w)
open_ends entities w now f r is end more refuses =
    refuses_fails r _ _ refuses (last_waits entities w now f is end
    ∙ ap (λ (x : Result State Fault). x >>= λ v. left entities true (map passage_of now) (passage_of f) v) (cond-true (nat_lt w.frame.base (length (state_of w.held).opens)) _ _ (lt-ltb w.frame.base (length (state_of w.held).opens) more)))

-- the last text that waits goes on
pub goes_on : (entities : List Entity) (w : Work) (ps : Vec Frame Global) (f : Frame) → w.waiting.items ≡ ps.items ++ f ∷ [] → length w.frame.text.now ≤ w.frame.at → length (state_of w.held).opens ≤ w.frame.base → EndsApart w.held.items.items
    → Advances entities w (work_of w.held true f ps)
unfolding left_of size_of
goes_on entities w ps f is end few apart = record {
  same = sym (last_waits entities w ps.items f is end
      ∙ ap (λ (x : Result State Fault). x >>= λ v. left entities true (map passage_of ps.items) (passage_of f) v) (cond-false (nat_lt w.frame.base (length (state_of w.held).opens)) _ _ (not_below w.frame.base (length (state_of w.held).opens) few)));
  nearer = ends_size w.waiting.items ps.items f (length w.frame.text.now - w.frame.at) w.held.spent is;
  apart = apart;
}

-- no text waits
pub all_ends : (entities : List Entity) (w : Work) → length w.waiting.items ≡ 0 → length w.frame.text.now ≤ w.frame.at
    → left_of entities w ≡ whole (standing_of w.frame.stand) (length w.frame.text.now) (state_of w.held).items (state_of w.held).opens
unfolding left_of
all_ends entities w none end =
    ap (λ (t : List Frame). left entities w.typed (map passage_of t) (passage_of w.frame) (state_of w.held)) (empty_list w.waiting.items none) ∙ article_ends entities w.typed (passage_of w.frame) (state_of w.held) end
