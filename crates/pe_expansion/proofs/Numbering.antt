-- Texts that wait, by the numbers of entities.
use Rattle.std.proofs.Common.{◌≡◌, ◌∙◌, ℕ, ◌+◌, ◌-◌, ◌≤◌, List, [], ◌∷◌, ◌++◌, length, map, slice_get, Bool, false, Option, Some, None, Result, Ok, Err, IfOk, OnOk, option_map, option_and_then, unwrap_or, refl, sym, ap, subst, arith, ◌*◌, ◌<◌}
use Rattle.std.specs.Prelude.{All, IsSome, slice_range, cond, true}
use Rattle.std.specs.Bool.{OnTrue, OnFalse}
use Rattle.std.specs.List.{AllByRecursion}
use Rattle.std.proofs.lemmas.List.Elements.{All-from_recursion}
use Rattle.dtd_scanner.specs.Walk.{◌>>=◌}
use Rattle.dtd_scanner.proofs.Walking.{bind_cong}
use Rattle.pe_expansion.specs.Bound.{Bound, Keeps, loaded_at, text_in}
use Rattle.pe_expansion.specs.Expansion.{Written, closed, expansion_of}
use Rattle.pe_expansion.specs.Frames.{GoesOn, Stepped, from, left, left_of, open_names, resumed, size_of}
use Rattle.pe_expansion.specs.Nesting.{AreJudged, IsJudged, Judged, Judges}
use Rattle.pe_expansion.specs.Pausing.{AreNumbered, IsPaused, IsUnderWay, Numbers, SameTexts, Stays, SteppedBy, Turns, WantsNone, place_of}
use Rattle.pe_expansion.specs.declared.bindings.PeText.{PeText}
use Rattle.pe_expansion.specs.declared.pausing.PausedExpansion.{PausedExpansion}
use Rattle.pe_expansion.specs.declared.pausing.Place.{Place}
use Rattle.pe_expansion.specs.declared.pieces.Manner.{Manner}
use Rattle.pe_expansion.specs.declared.pieces.Manner.TheVariants.{Literal, Body}
use Rattle.pe_expansion.specs.declared.stack.Entered.{Entered}
use Rattle.pe_expansion.specs.declared.stack.Frame.{Frame}
use Rattle.pe_expansion.specs.declared.stack.Work.{Work}
use Rattle.pe_expansion.specs.declared.faults.PeFault.{PeFault}
use Rattle.pe_expansion.specs.declared.faults.PeFault.TheVariants.{NotLoaded}
use Rattle.pe_expansion.specs.Outcomes.{Fails}
use Rattle.pe_expansion.proofs.KeptTexts.{keeps_further, keeps_same}
use Rattle.pe_expansion.proofs.Works.{begins, fails_as}
use Rattle.pe_expansion.proofs.Judging.{begins_judged}
use Rattle.pe_expansion.proofs.Spending.{spent_rises}

-- an entity with a text
loaded_entry : (bound : Bound) (k : ℕ) (name text : List ℕ) (entity : PeText) → slice_get bound k ≡ Some (name, entity) → text_in entity ≡ Some text → loaded_at bound k ≡ Some (name, text)
loaded_entry bound k name text entity at has = rw (at, has) refl

pub entry_loaded : (bound : Bound) (k : ℕ) (name : List ℕ) (entity : PeText) (r : Result Entered PeFault) → slice_get bound k ≡ Some (name, entity) → IfOk r (λ e. e.number ≡ k) → IfOk r (λ e. e.name.now ≡ name) → IfOk r (λ e. text_in entity ≡ Some e.text.now)
    → IfOk r (λ e. loaded_at bound e.number ≡ Some (e.name.now, e.text.now))
entry_loaded bound k name entity (Ok e) at number same has = rw (number, same) (loaded_entry bound k name e.text.now entity at has)
entry_loaded bound k name entity (Err f) at number same has = tt

-- ---- the texts that wait change

pub numbered_push : (bound : Bound) (outer text inner : List ℕ) (fs : List Frame) (f : Frame) → f.text.now ≡ text → loaded_at bound f.number ≡ Some (f.name.now, inner) → AreNumbered bound outer fs text → AreNumbered bound outer (fs ++ f ∷ []) inner
numbered_push bound outer text inner [] f waits at is = (waits ∙ is, (inner, at, refl))
numbered_push bound outer text inner (g ∷ gs) f waits at is = (is.0, (is.1.0, is.1.1, numbered_push bound is.1.0 text inner gs f waits at is.1.2))

pub numbered_pop : (bound : Bound) (outer text : List ℕ) (fs : List Frame) (f : Frame) → AreNumbered bound outer (fs ++ f ∷ []) text → AreNumbered bound outer fs f.text.now
numbered_pop bound outer text [] f is = is.0
numbered_pop bound outer text (g ∷ gs) f is = (is.0, (is.1.0, is.1.1, numbered_pop bound is.1.0 text gs f is.1.2))

pub numbers_pop : (bound : Bound) (old new : Work) (f : Frame) → old.frames.items ≡ new.frames.items ++ f ∷ [] → new.text.now ≡ f.text.now → Numbers bound old new
numbers_pop bound old new f is read = λ outer numbered. rw read (numbered_pop bound outer old.text.now new.frames.items f (rw is at numbered))

pub numbers_push : (bound : Bound) (old new : Work) (f : Frame) → new.frames.items ≡ old.frames.items ++ f ∷ [] → f.text.now ≡ old.text.now → loaded_at bound f.number ≡ Some (f.name.now, new.text.now) → Numbers bound old new
numbers_push bound old new f is waits at = λ outer numbered. rw is (numbered_push bound outer old.text.now new.text.now old.frames.items f waits at numbered)

same_numbers : (bound : Bound) (old new : Work) → SameTexts old new → Numbers bound old new
same_numbers bound old new same = λ outer numbered. rw (same.0, same.1) numbered

pub kept_numbers : {X : Type 0} (bound : Bound) (old new : Work) (r : Result X PeFault) → OnOk r (SameTexts old new) → OnOk r (Numbers bound old new)
kept_numbers bound old new (Ok x) same = same_numbers bound old new same
kept_numbers bound old new (Err f) same = tt

pub numbered_keeps : (bound later : Bound) (outer text : List ℕ) (fs : List Frame) → Keeps bound later → AreNumbered bound outer fs text → AreNumbered later outer fs text
numbered_keeps bound later outer text [] keeps is = is
numbered_keeps bound later outer text (f ∷ fs) keeps is = (is.0, (is.1.0, keeps.places f.number f.name.now is.1.0 is.1.1, numbered_keeps bound later is.1.0 text fs keeps is.1.2))

-- ---- the texts that wait are found again by their places

some_there : (o : Option (List ℕ × List ℕ)) (x : List ℕ × List ℕ) → o ≡ Some x → IsSome o
some_there o x is = rw is refl

numbered_there : (bound : Bound) (outer text : List ℕ) (fs : List Frame) → AreNumbered bound outer fs text → AllByRecursion (λ (p : Place). IsSome (loaded_at bound p.number)) (map place_of fs)
numbered_there bound outer text [] is = tt
numbered_there bound outer text (f ∷ fs) is = (some_there (loaded_at bound f.number) (f.name.now, is.1.0) is.1.1, numbered_there bound is.1.0 text fs is.1.2)

abbrev Same : Frame → Frame → Type 0
Same f g = (f.name.now ≡ g.name.now) × (f.text.now ≡ g.text.now) × (place_of f ≡ place_of g)

abbrev AllSame : List Frame → List Frame → Type 0
AllSame [] [] = Unit {0}
AllSame [] (g ∷ gs) = ⊥
AllSame (f ∷ fs) [] = ⊥
AllSame (f ∷ fs) (g ∷ gs) = Same f g × AllSame fs gs

pair_same : (n m t u : List ℕ) (o : Option (List ℕ × List ℕ)) → o ≡ Some (n, t) → o ≡ Some (m, u) → (n ≡ m) × (t ≡ u)
pair_same n m t u o first second =
    (ap (λ (o : Option (List ℕ × List ℕ)). (unwrap_or o ([], [])).0) (sym first ∙ second), ap (λ (o : Option (List ℕ × List ℕ)). (unwrap_or o ([], [])).1) (sym first ∙ second))

numbered_same : (bound : Bound) (outer text read : List ℕ) (fs gs : List Frame) → AreNumbered bound outer fs text → AreNumbered bound outer gs read → map place_of fs ≡ map place_of gs → AllSame fs gs × (text ≡ read)
numbered_same bound outer text read [] [] a b same = (tt, a ∙ sym b)
numbered_same bound outer text read [] (g ∷ gs) a b same = absurd cc
numbered_same bound outer text read (f ∷ fs) [] a b same = absurd cc
numbered_same bound outer text read (f ∷ fs) (g ∷ gs) a b same =
    let first : place_of f ≡ place_of g = cc in
    let others : map place_of fs ≡ map place_of gs = cc in
    let number : f.number ≡ g.number = ap (λ (p : Place). p.number) first in
    let found = pair_same f.name.now g.name.now a.1.0 b.1.0 (loaded_at bound f.number) a.1.1 (ap (loaded_at bound) number ∙ b.1.1) in
    let names : f.name.now ≡ g.name.now = found.0 in
    let inner : b.1.0 ≡ a.1.0 = sym found.1 in
    let later : AreNumbered bound a.1.0 gs read = subst (λ (t : List ℕ). AreNumbered bound t gs read) inner b.1.2 in
    let rest = numbered_same bound a.1.0 text read fs gs a.1.2 later others in
    (((names, a.0 ∙ sym b.0, first), rest.0), rest.1)

module _ (manner : Manner) (bound : Bound) where
  resumed_same : (names : List (List ℕ)) (fs gs : List Frame) (w : Written) → AllSame fs gs → resumed manner bound names fs w ≡ resumed manner bound names gs w
  resumed_same names [] [] w same = refl
  resumed_same names [] (g ∷ gs) w same = absurd same
  resumed_same names (f ∷ fs) [] w same = absurd same
  resumed_same names (f ∷ fs) (g ∷ gs) w same =
      let P = λ (name text : List ℕ) (at start : ℕ). (resumed manner bound (names ++ name ∷ []) gs w >>= (λ (v : Written). closed manner name start v >>= from manner bound names text at)) in
      let at : f.at ≡ g.at = ap (λ (p : Place). p.at) same.0.2 in
      let start : f.start ≡ g.start = ap (λ (p : Place). p.start) same.0.2 in
      ap (λ r. r >>= (λ (v : Written). closed manner f.name.now f.start v >>= from manner bound names f.text.now f.at)) (resumed_same (names ++ f.name.now ∷ []) fs gs w same.1)
      ∙ ap (λ n. P n f.text.now f.at f.start) same.0.0 ∙ ap (λ t. P g.name.now t f.at f.start) same.0.1 ∙ ap (λ k. P g.name.now g.text.now k f.start) at ∙ ap (λ k. P g.name.now g.text.now g.at k) start

  names_same : (fs gs : List Frame) → AllSame fs gs → map (λ (f : Frame). f.name.now) fs ≡ map (λ (f : Frame). f.name.now) gs
  names_same [] [] same = refl
  names_same [] (g ∷ gs) same = absurd same
  names_same (f ∷ fs) [] same = absurd same
  names_same (f ∷ fs) (g ∷ gs) same = ap (λ n. n ∷ map (λ (f : Frame). f.name.now) fs) same.0.0 ∙ ap (λ ns. g.name.now ∷ ns) (names_same fs gs same.1)

  left_same : (chain : List (List ℕ)) (fs gs : List Frame) (text read : List ℕ) (at : ℕ) (w : Written) → AllSame fs gs → text ≡ read → left manner bound chain fs text at w ≡ left manner bound chain gs read at w
  left_same chain fs gs text read at w same here =
      ap (λ ns. from manner bound (chain ++ ns) text at w >>= resumed manner bound chain fs) (names_same fs gs same)
      ∙ bind_cong (from manner bound (open_names chain gs) text at w) (resumed manner bound chain fs) (resumed manner bound chain gs) (λ v. resumed_same chain fs gs v same)
      ∙ ap (λ t. from manner bound (open_names chain gs) t at w >>= resumed manner bound chain gs) here

are_judged_same : (broken : Bool) (left : ℕ) (written : List ℕ) (start : ℕ) (fs gs : List Frame) → AllSame fs gs → AreJudged broken left written start fs → AreJudged broken left written start gs
are_judged_same broken left written start [] [] same is = is
are_judged_same broken left written start [] (g ∷ gs) same is = absurd same
are_judged_same broken left written start (f ∷ fs) [] same is = absurd same
are_judged_same broken left written start (f ∷ fs) (g ∷ gs) same is =
    let begins : f.start ≡ g.start = ap (λ (p : Place). p.start) same.0.2 in
    let breaks : f.broken ≡ g.broken = ap (λ (p : Place). p.broken) same.0.2 in (
      rw begins at is.0,
      subst (λ (b : Bool). Judged b (slice_range written start g.start)) breaks (subst (λ (k : ℕ). Judged f.broken (slice_range written start k)) begins is.1),
      are_judged_same broken left written g.start fs gs same.1 (subst (λ (k : ℕ). AreJudged broken left written k fs) begins is.2),
    )

judged_same : (manner : Manner) (broken : Bool) (left : ℕ) (written : List ℕ) (fs gs : List Frame) → AllSame fs gs → IsJudged manner broken left written fs → IsJudged manner broken left written gs
judged_same Literal broken left written fs gs same is = tt
judged_same Body broken left written fs gs same is = are_judged_same broken left written 0 fs gs same is

-- ---- an expansion stops and goes on

pub pauses : (manner : Manner) (bound : Bound) (chain : List (List ℕ)) (outer : List ℕ) (first : ℕ) (w : Work) (e : PausedExpansion) → IsUnderWay manner bound chain outer first w → Judges manner w
    → e.manner ≡ manner → e.first ≡ first → e.written ≡ w.written → e.spent ≡ w.spent → e.places.items ≡ map place_of w.frames.items → e.at ≡ w.at → e.broken ≡ w.broken → IsPaused bound chain outer e
unfolding left_of Judges
pauses manner bound chain outer first w e under judged how before written spent places at broken = record {
  frames = w.frames.items;
  text = w.text.now;
  places = sym places;
  numbered = under.numbered;
  judged = rw (how, broken, at, written) judged;
  gives = λ later keeps. rw (how, at, written, spent, before) (under.gives later keeps);
}

pub resumes : (bound : Bound) (chain : List (List ℕ)) (outer : List ℕ) (e : PausedExpansion) (w : Work) → IsPaused bound chain outer e → AreNumbered bound outer w.frames.items w.text.now → map place_of w.frames.items ≡ e.places.items
    → w.written ≡ e.written → w.spent ≡ e.spent → w.at ≡ e.at → w.broken ≡ e.broken → IsUnderWay e.manner bound chain outer e.first w × Judges e.manner w
unfolding left_of Judges
resumes bound chain outer e w p numbered places written spent at broken =
    let same = numbered_same bound outer p.text w.text.now p.frames w.frames.items p.numbered numbered (p.places ∙ sym places) in (
      record {
        numbered = numbered;
        gives = λ later keeps. rw (at, written, spent) (sym (left_same e.manner later chain p.frames w.frames.items p.text w.text.now e.at (record { text = e.written; spent = e.spent }) same.0 same.1) ∙ p.gives later keeps);
      },
      rw (broken, at, written, ← same.1) (judged_same e.manner e.broken (length p.text - e.at) e.written p.frames w.frames.items same.0 p.judged),
    )

-- the places of an expansion are those of texts that are there
pub paused_there : (bound : Bound) (chain : List (List ℕ)) (outer : List ℕ) (e : PausedExpansion) → IsPaused bound chain outer e → All (λ (p : Place). IsSome (loaded_at bound p.number)) e.places.items
paused_there bound chain outer e p =
    subst (λ (ps : List Place). All (λ (p : Place). IsSome (loaded_at bound p.number)) ps) p.places (All-from_recursion (λ (p : Place). IsSome (loaded_at bound p.number)) (map place_of p.frames) (numbered_there bound outer p.text p.frames p.numbered))

pub starts : (e : PausedExpansion) (bound : Bound) (chain : List (List ℕ)) (outer : List ℕ) → e.written ≡ [] → e.spent ≡ e.first → e.places.items ≡ [] → e.at ≡ 0 → e.broken ≡ false → IsPaused bound chain outer e
starts e bound chain outer written spent places at broken = record {
  frames = [];
  text = outer;
  places = sym places;
  numbered = refl;
  judged = rw (broken, at) (begins_judged e.manner (length outer - 0) e.written [] written refl);
  gives = λ later keeps. rw (written, spent, at) (begins e.manner later chain e.first outer);
}

-- an expansion that stopped is so by bindings with more texts
pub paused_keeps : (bound later : Bound) (chain : List (List ℕ)) (outer : List ℕ) (e : PausedExpansion) → Keeps bound later → IsPaused bound chain outer e → IsPaused later chain outer e
paused_keeps bound later chain outer e keeps p = record {
  frames = p.frames;
  text = p.text;
  places = p.places;
  numbered = numbered_keeps bound later outer p.text p.frames keeps p.numbered;
  judged = p.judged;
  gives = λ last further. p.gives last (keeps_further bound later last keeps further);
}

-- ---- turns

-- where no text is wanted
pub wants_stays : {X : Type 0} (old new : Work) (r : Result X PeFault) → WantsNone r → Stays old new r
wants_stays old new (Ok x) none = tt
wants_stays old new (Err (NotLoaded name)) none = absurd none
wants_stays old new (Err f) none = tt

pub stays_same : {X : Type 0} (w : Work) (r : Result X PeFault) → Stays w w r
stays_same w (Ok x) = tt
stays_same w (Err (NotLoaded name)) = refl
stays_same w (Err f) = tt

pub goes_on_turns : (manner : Manner) (bound : Bound) (chain : List (List ℕ)) (old new : Work) (r : Result Bool PeFault) → ((bound : Bound) (chain : List (List ℕ)) → GoesOn manner bound chain old new r) → Turns manner bound chain old new r
goes_on_turns manner bound chain old new (Ok true) goes = λ later keeps. goes later chain
goes_on_turns manner bound chain old new (Ok false) goes = goes bound chain
goes_on_turns manner bound chain old new (Err f) goes = goes bound chain

pub stepped_by : {X : Type 0} (manner : Manner) (bound : Bound) (chain : List (List ℕ)) (old new : Work) (r : Result X PeFault) → ((bound : Bound) (chain : List (List ℕ)) → Stepped manner bound chain old new r) → SteppedBy manner bound chain old new r
stepped_by manner bound chain old new (Ok x) steps = λ later keeps. steps later chain
stepped_by manner bound chain old new (Err f) steps = steps bound chain

pub numbers_for : {X : Type 0} (bound : Bound) (old new : Work) (r : Result X PeFault) → OnOk r ((bound : Bound) → Numbers bound old new) → OnOk r (Numbers bound old new)
numbers_for bound old new (Ok x) all = all bound
numbers_for bound old new (Err f) all = tt

module _ (manner : Manner) (bound : Bound) (chain : List (List ℕ)) (outer : List ℕ) (first : ℕ) (old new : Work) where
  pub turn_keeps : (more : Bool) → Turns manner bound chain old new (Ok more) → Numbers bound old new → IsUnderWay manner bound chain outer first old → Judges manner new
      → OnTrue more (IsUnderWay manner bound chain outer first new) × OnTrue more (Judges manner new) × OnFalse more (expansion_of manner bound chain first outer ≡ Ok (record { text = new.written; spent = new.spent }))
  turn_keeps true turns numbers under judges = (record { numbered = numbers outer under.numbered; gives = λ later keeps. (turns later keeps).0 ∙ under.gives later keeps }, judges, tt)
  turn_keeps false turns numbers under judges = (tt, tt, sym (under.gives bound (keeps_same bound)) ∙ turns)

  pub turn_smaller : (more : Bool) → Turns manner bound chain old new (Ok more) → cond more (size_of new + 1) 0 < size_of old + 1
  turn_smaller true turns = let nearer = (turns bound (keeps_same bound)).1 in omega arith
  turn_smaller false turns = omega arith

  -- a fault that is none of a text that is wanted
  pub turn_fails : (f : PeFault) → IsUnderWay manner bound chain outer first old → Fails f (left_of manner bound chain old) → Fails f (expansion_of manner bound chain first outer)
  turn_fails f under = fails_as f _ _ (λ is. sym (under.gives bound (keeps_same bound)) ∙ is)

  -- the text of a name is wanted
  pub turn_waits : (name : List ℕ) (e : PausedExpansion) → IsUnderWay manner bound chain outer first old → new ≡ old → left_of manner bound chain old ≡ Err (NotLoaded name)
      → ((bound : Bound) (chain : List (List ℕ)) (outer : List ℕ) → IsUnderWay manner bound chain outer first new → IsPaused bound chain outer e × (e.manner ≡ manner) × (e.first ≡ first))
      → (expansion_of manner bound chain first outer ≡ Err (NotLoaded name)) × IsPaused bound chain outer e × (e.manner ≡ manner) × (e.first ≡ first)
  turn_waits name e under same wants paused =
      let p = paused bound chain outer (subst (IsUnderWay manner bound chain outer first) (sym same) under) in
      (sym (under.gives bound (keeps_same bound)) ∙ wants, p.0, p.1, p.2)

-- what an expansion says is spent
pub done_rises : (bound : Bound) (chain : List (List ℕ)) (outer : List ℕ) (manner : Manner) (spent : ℕ) (e : PausedExpansion) (text : List ℕ) (now : ℕ) → e.manner ≡ manner → e.first ≡ spent
    → expansion_of e.manner bound chain e.first outer ≡ Ok (record { text = text; spent = now }) → spent ≤ now
done_rises bound chain outer manner spent e text now how before is = rw (← before) (spent_rises e.manner bound chain e.first outer text now is)
