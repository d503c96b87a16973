-- Steps outside of all elements.
use Rattle.std.proofs.Common.{◌≡◌, ◌∙◌, ℕ, ◌+◌, ◌-◌, ◌<◌, List, [], ◌∷◌, ◌++◌, suc, length, length-append, length-drop, drop, map, Bool, true, false, Option, Some, None, Result, Ok, Err, refl, ap, sym, arith, codes}
use Rattle.std.specs.Prelude.{Vec, nat_eq, if◌then◌else◌}
use Rattle.std.specs.List.{starts_with}
use Rattle.std.specs.declared.alloc.Global.{Global}
use Rattle.std.proofs.lemmas.Bool.{cond-true, cond-false}
use Rattle.dtd_scanner.specs.Walk.{◌>>=◌}
use Rattle.jats_fault.specs.declared.fault.Fault.{Fault}
use Rattle.document_trees.specs.Trees as tree
use Rattle.document_trees.specs.Trees.{Items, Node}
use Rattle.document_trees.specs.declared.nodes.Item.{Item}
use Rattle.document_trees.specs.declared.nodes.Item.TheVariants.{Element, Chars, Comment, Pi}
use Rattle.decl_set.specs.Declarations.{Entity}
use Rattle.article_tree.specs.Frames.{left, moved, rest_of, step}
use Rattle.article_tree.specs.Held.{EndsApart, held_items, run_items, stacked, state_of}
use Rattle.article_tree.specs.InPlace.{by_token_in, reading_in}
use Rattle.article_tree.specs.Outcomes.{Fails, Refuses, standing_of}
use Rattle.article_tree.specs.Reading.{Article, Open, State, article_by, article_step, has_root, holding, outside, started, type_by, type_end, whole}
use Rattle.article_tree.specs.Stops.{Standing, refused}
use Rattle.article_tree.specs.Taken.{StandsAt}
use Rattle.article_tree.specs.Taking.{behind, first_token}
use Rattle.article_tree.specs.Tokens.{Tag, Token, start}
use Rattle.article_tree.specs.Works.{Advances, IsOutside, left_of, passage_of, size_of, work_of}
use Rattle.article_tree.specs.declared.frames.Frame.{Frame}
use Rattle.article_tree.specs.declared.held.Held.{Held}
use Rattle.article_tree.specs.declared.held.OpenElement.{OpenElement}
use Rattle.article_tree.specs.declared.held.Run.{Run}
use Rattle.article_tree.specs.declared.stops.ArticleFault.{ArticleFault}
use Rattle.article_tree.specs.declared.stops.ArticleFault.TheVariants.{Refused, NoMemory}
use Rattle.dtd_scanner.proofs.Runs.{starts_found}
use Rattle.article_tree.proofs.Doctypes.{doctype_found}
use Rattle.article_tree.proofs.Holding.{behind_run}
use Rattle.article_tree.proofs.Stepping.{started_rises}
use Rattle.article_tree.proofs.Tagged.{refuses_fails}
use Rattle.article_tree.proofs.Waiting.{article_skips, article_starts, article_stops}

-- an item was read
pub root_read : (items : List Item) (run : Option Run) → 0 < length items → true ≡ has_root (held_items items run)
root_read [] run some = absurd (omega (arith, some))
root_read (Element node ∷ items) run some = refl
root_read (Chars text plain ∷ []) None some = refl
root_read (Chars text plain ∷ []) (Some run) some = refl
root_read (Chars text plain ∷ next ∷ items) run some = sym (ap has_root (behind_run text plain next items (run_items run)))
root_read (Comment text ∷ items) run some = refl
root_read (Pi target body ∷ items) run some = refl

-- an element is open at the end
pub whole_open : (c : Standing) (end : ℕ) (items : Items) (opens : List Open) → 0 < length opens → whole c end items opens ≡ Err (refused c end 60 [])
whole_open c end items [] some = absurd (omega (arith, some))
whole_open c end tree.nothing (o ∷ opens) some = refl
whole_open c end (tree.element name atts inside later) (o ∷ opens) some = refl
whole_open c end (tree.chars text plain later) (o ∷ opens) some = refl
whole_open c end (tree.comment text later) (o ∷ opens) some = refl
whole_open c end (tree.pi target body later) (o ∷ opens) some = refl

module _ (entities : List Entity) (held : Held) (frame : Frame) (typed : Bool) (waiting : Vec Frame Global) (none : waiting.items ≡ []) (out : IsOutside held frame) (other : typed ≡ false → starts_with nat_eq (drop frame.at frame.text.now) (codes "<!DOCTYPE") ≡ false) where
  by_typed : (t : Bool) (step : ℕ → State → List ℕ → Result (State × ℕ) Fault) (c : Standing) (at : ℕ) (s : State) (text : List ℕ) (opens : List Open) → opens ≡ [] → (t ≡ false → starts_with nat_eq text (codes "<!DOCTYPE") ≡ false)
      → article_by step c at (record { state = s; typed = t }) text opens ≡ outside step c at (record { state = s; typed = t }) text (first_token text)
  by_typed true step c at s text [] is no_type = refl
  by_typed false step c at s text [] is no_type = cond-false (starts_with nat_eq text (codes "<!DOCTYPE")) _ _ (no_type refl)
  by_typed t step c at s text (o ∷ opens) is no_type = absurd (let e = ap length is in omega (arith, e))

  stepped : (o : Option (Token × List ℕ)) → first_token (rest_of (passage_of frame)) ≡ o
      → article_step (step entities (passage_of frame)) (standing_of frame.stand) frame.at (record { state = state_of held; typed = typed }) (rest_of (passage_of frame))
      ≡ outside (step entities (passage_of frame)) (standing_of frame.stand) frame.at (record { state = state_of held; typed = typed }) (rest_of (passage_of frame)) o
  stepped o is =
      by_typed typed (step entities (passage_of frame)) (standing_of frame.stand) frame.at (state_of held) (rest_of (passage_of frame)) (state_of held).opens (ap (λ (t : List OpenElement). stacked t []) out.none_open) other
      ∙ ap (outside (step entities (passage_of frame)) (standing_of frame.stand) frame.at (record { state = state_of held; typed = typed }) (rest_of (passage_of frame))) is

  alone : left_of entities (work_of held typed frame waiting) ≡ left entities typed [] (passage_of frame) (state_of held)
  unfolding left_of
  alone = ap (λ (t : List Frame). left entities typed (map passage_of t) (passage_of frame) (state_of held)) none

  -- what may not stand there
  pub stops_there : (o : Option (Token × List ℕ)) (f : ArticleFault) (said : Fault) → first_token (rest_of (passage_of frame)) ≡ o
      → outside (step entities (passage_of frame)) (standing_of frame.stand) frame.at (record { state = state_of held; typed = typed }) (rest_of (passage_of frame)) o ≡ Err said → Refuses said f
      → Fails f (left_of entities (work_of held typed frame waiting))
  stops_there o f said is e refuses =
      refuses_fails f said _ refuses (alone ∙ article_stops entities typed (passage_of frame) (state_of held) said out.here (stepped o is ∙ e))

  -- Misc
  pub skips_there : (token : Token) (next : ℕ) (h : StandsAt frame.text.now frame.at token next)
      → outside (step entities (passage_of frame)) (standing_of frame.stand) frame.at (record { state = state_of held; typed = typed }) (rest_of (passage_of frame)) (Some (token, h.rest)) ≡ Ok (record { state = state_of held; typed = typed }, length (rest_of (passage_of frame)) - length h.rest)
      → Advances entities (work_of held typed frame waiting) (work_of held typed (record frame { at = next }) waiting)
  unfolding left_of size_of
  skips_there token next h e = record {
    same =
        let n = length (rest_of (passage_of frame)) - length h.rest in
        ap (λ (t : List Frame). left entities typed (map passage_of t) (moved (passage_of frame) next) (state_of held)) none
        ∙ ap (λ (m : ℕ). left entities typed [] (moved (passage_of frame) m) (state_of held)) h.far
        ∙ sym (alone ∙ article_skips entities typed typed (passage_of frame) (state_of held) n out.here (omega (arith, h.some, h.far)) (stepped (Some (token, h.rest)) h.is ∙ e));
    nearer = omega (arith, h.some, h.within);
    apart = out.apart;
  }

  -- the element starts
  starts_so : (tag : Tag) (next : ℕ) (h : StandsAt frame.text.now frame.at (start tag) next) → has_root (state_of held).items ≡ false
      → left_of entities (work_of held typed frame waiting) ≡ (started entities frame.names 0 (standing_of frame.stand) frame.at (state_of held) tag >>= λ v. left entities true [] (moved (passage_of frame) next) v)
  starts_so tag next h first =
      let n = length (rest_of (passage_of frame)) - length h.rest in
      let x = started entities frame.names 0 (standing_of frame.stand) frame.at (state_of held) tag in
      let a : Article = record { state = state_of held; typed = typed } in
      let deeper = reading_in (32 - length frame.names) entities in
      alone
      ∙ article_starts entities typed (passage_of frame) (state_of held) n x out.here (omega (arith, h.some, h.far))
      (stepped (Some (start tag, h.rest)) h.is ∙ cond-false (has_root (state_of held).items) _ _ first
      ∙ ap (λ (o : Option (Token × List ℕ)). holding a (by_token_in entities deeper frame.names frame.base (standing_of frame.stand) frame.at (state_of held) (rest_of (passage_of frame)) o)) h.is)
      ∙ ap (λ (m : ℕ). x >>= λ v. left entities true [] (moved (passage_of frame) m) v) (sym h.far)

  pub starts_there : (tag : Tag) (next : ℕ) (h : StandsAt frame.text.now frame.at (start tag) next) (new : Held) → has_root (state_of held).items ≡ false
      → started entities frame.names 0 (standing_of frame.stand) frame.at (state_of held) tag ≡ Ok (state_of new) → EndsApart new.items.items
      → Advances entities (work_of held typed frame waiting) (work_of new true (record frame { at = next }) waiting)
  unfolding left_of size_of
  starts_there tag next h new first is apart = record {
    same =
        ap (λ (t : List Frame). left entities true (map passage_of t) (moved (passage_of frame) next) (state_of new)) none
        ∙ sym (starts_so tag next h first ∙ ap (λ (x : Result State Fault). x >>= λ v. left entities true [] (moved (passage_of frame) next) v) is);
    nearer =
        let rises = started_rises entities frame.names (standing_of frame.stand) frame.at (state_of held) tag (state_of new) is in
        omega (arith, h.some, h.within, rises);
    apart = apart;
  }

  pub start_fails : (tag : Tag) (next : ℕ) (h : StandsAt frame.text.now frame.at (start tag) next) (f : ArticleFault) → has_root (state_of held).items ≡ false
      → Fails f (started entities frame.names 0 (standing_of frame.stand) frame.at (state_of held) tag) → Fails f (left_of entities (work_of held typed frame waiting))
  start_fails tag next h (Refused r) first is = starts_so tag next h first ∙ ap (λ (x : Result State Fault). x >>= λ v. left entities true [] (moved (passage_of frame) next) v) is
  start_fails tag next h NoMemory first is = tt

-- ---- document type declarations

pub begins_not : (text mark : List ℕ) → None ≡ behind mark text → starts_with nat_eq text mark ≡ false
begins_not text mark is = by (starts_with nat_eq text mark) is
  where
    by : (b : Bool) → None ≡ (if b then Some (drop (length mark) text) else None) → b ≡ false
    by true e = absurd (let f : None ≡ Some (drop (length mark) text) = e in cc)
    by false e = refl

pub begins_so : (text mark after : List ℕ) → Some after ≡ behind mark text → (starts_with nat_eq text mark ≡ true) × (after ≡ drop (length mark) text)
begins_so text mark after is = by (starts_with nat_eq text mark) is
  where
    by : (b : Bool) → Some after ≡ (if b then Some (drop (length mark) text) else None) → (b ≡ true) × (after ≡ drop (length mark) text)
    by true e = (refl, cc)
    by false e = absurd (let f : Some after ≡ None = e in cc)

-- what stands behind a document type declaration is shorter
pub type_sizes : (text after : List ℕ) → starts_with nat_eq text (codes "<!DOCTYPE") ≡ true → type_end (drop 9 text) ≡ Some after → starts_with nat_eq after (codes ">") ≡ true
    → (length after ≡ length (drop 1 after) + 1) × (length (drop 1 after) < length text)
type_sizes text after begins ends mark =
    let form = starts_found (codes ">") after mark in
    let f = doctype_found text (drop 1 after) begins (ends ∙ ap Some form) in
    let size : length text ≡ length f.0 + length (drop 1 after) = ap length f.2 ∙ length-append f.0 (drop 1 after) in
    let filled : 0 < length f.0 = (let e : length f.0 ≡ suc (length (codes "!DOCTYPE" ++ (f.1.space ++ (f.1.name ++ (f.1.external ++ (f.1.blank ++ codes ">")))))) = ap length f.1.form in omega (arith, e)) in
    let one : length after ≡ suc (length (drop 1 after)) = ap length form in
    (omega (arith, one), omega (arith, size, filled))

module _ (entities : List Entity) (held : Held) (frame : Frame) (waiting : Vec Frame Global) (none : waiting.items ≡ []) (out : IsOutside held frame) (begins : starts_with nat_eq (drop frame.at frame.text.now) (codes "<!DOCTYPE") ≡ true) where
  typing : (o : Option (List ℕ)) → type_end (drop 9 (drop frame.at frame.text.now)) ≡ o
      → article_step (step entities (passage_of frame)) (standing_of frame.stand) frame.at (record { state = state_of held; typed = false }) (rest_of (passage_of frame))
      ≡ type_by (standing_of frame.stand) frame.at (record { state = state_of held; typed = false }) (rest_of (passage_of frame)) o
  typing o is =
      ap (article_by (step entities (passage_of frame)) (standing_of frame.stand) frame.at (record { state = state_of held; typed = false }) (rest_of (passage_of frame))) (ap (λ (t : List OpenElement). stacked t []) out.none_open)
      ∙ cond-true (starts_with nat_eq (drop frame.at frame.text.now) (codes "<!DOCTYPE")) _ _ begins
      ∙ ap (type_by (standing_of frame.stand) frame.at (record { state = state_of held; typed = false }) (rest_of (passage_of frame))) is

  alone_so : left_of entities (work_of held false frame waiting) ≡ left entities false [] (passage_of frame) (state_of held)
  unfolding left_of
  alone_so = ap (λ (t : List Frame). left entities false (map passage_of t) (passage_of frame) (state_of held)) none

  pub type_stops : (o : Option (List ℕ)) (f : ArticleFault) (said : Fault) → type_end (drop 9 (drop frame.at frame.text.now)) ≡ o
      → type_by (standing_of frame.stand) frame.at (record { state = state_of held; typed = false }) (rest_of (passage_of frame)) o ≡ Err said → Refuses said f
      → Fails f (left_of entities (work_of held false frame waiting))
  type_stops o f said is e refuses =
      refuses_fails f said _ refuses (alone_so ∙ article_stops entities false (passage_of frame) (state_of held) said out.here (typing o is ∙ e))

  pub type_passes : (after : List ℕ) (next : ℕ) → type_end (drop 9 (drop frame.at frame.text.now)) ≡ Some after → starts_with nat_eq after (codes ">") ≡ true → next ≡ length frame.text.now - (length after - 1)
      → Advances entities (work_of held false frame waiting) (work_of held true (record frame { at = next }) waiting)
  unfolding left_of size_of
  type_passes after next is mark far =
      let sizes = type_sizes (drop frame.at frame.text.now) after begins is mark in
      let total = length-drop frame.at frame.text.now in
      let n = length (drop frame.at frame.text.now) - length (drop 1 after) in
      let here = out.here in
      record {
        same =
            ap (λ (t : List Frame). left entities true (map passage_of t) (moved (passage_of frame) next) (state_of held)) none
            ∙ ap (λ (m : ℕ). left entities true [] (moved (passage_of frame) m) (state_of held)) (let e : next ≡ frame.at + n = omega (arith, sizes.0, sizes.1, total, far, here) in e)
            ∙ sym (alone_so ∙ article_skips entities false true (passage_of frame) (state_of held) n here (omega (arith, sizes.1)) (typing (Some after) is ∙ cond-true (starts_with nat_eq after (codes ">")) _ _ mark));
        nearer = omega (arith, sizes.0, sizes.1, total, far, here);
        apart = out.apart;
      }
