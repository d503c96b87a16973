-- Steps of a work that change its state.
use Rattle.std.proofs.Common.{◌≡◌, ◌∙◌, ℕ, ◌+◌, ◌-◌, ◌*◌, ◌<◌, ◌≤◌, List, [], ◌∷◌, ◌++◌, length, take, drop, subst, true, Ok, Err, Some, None, IsSome, refl, sym, ap, arith, length-append}
use Rattle.std.specs.Prelude.{Option, Result, OnOk}
use Rattle.std.specs.List.{AllByRecursion}
use Rattle.std.proofs.lemmas.List.{take_at}
use Rattle.dtd_scanner.specs.Parts.{contents_of}
use Rattle.dtd_scanner.specs.References.{named}
use Rattle.dtd_scanner.specs.Walk.{◌>>=◌}
use Rattle.dtd_scanner.specs.declared.item.ItemKind.{ItemKind}
use Rattle.dtd_scanner.specs.declared.item.ItemKind.TheVariants.{Reference, SectionStart}
use Rattle.entity_catalog.specs.Named.{Named}
use Rattle.jats_fault.specs.declared.fault.Fault.{Fault}
use Rattle.pe_expansion.specs.Bound.{text_bound}
use Rattle.pe_expansion.specs.Opening.{opening}
use Rattle.pe_expansion.specs.declared.openings.Opened.{Opened}
use Rattle.module_reader.specs.Asking.{HasText, OpensIn}
use Rattle.text_fronts.specs.Fronts.{trimmed}
use Rattle.module_reader.specs.Counting.{Counts}
use Rattle.module_reader.specs.Frames.{Advances, Begins, Begun, Enters, Passage, Stands, Stepped, IsSound, IsThere, current, found, is_declaration, left, left_of, moved, passage_of, passages_of, rest_of, size_of, text_found, unread, all_unread, waiting}
use Rattle.module_reader.specs.Moves.{AreChars, GoesOn, Moves, Gives, counted, loaded_at}
use Rattle.module_reader.specs.Reading.{Names, declaration, expanded, section_by, standing_of}
use Rattle.module_reader.specs.Sources.{Source, asking}
use Rattle.module_reader.specs.declared.refusals.Stop.{Stop}
use Rattle.module_reader.specs.declared.refusals.Stop.TheVariants as fault
use Rattle.module_reader.specs.declared.frames.Frame.{Frame}
use Rattle.module_reader.specs.declared.frames.Work.{Work}
use Rattle.module_reader.specs.declared.standing.Standing.{Standing}
use Rattle.module_reader.specs.declared.state.State.{State}
use Rattle.module_reader.proofs.Left.{declaration_left, keyword_left, opened_left, refused_left, section_fault, section_left}
use Rattle.module_reader.proofs.OpenNames.{passages_named, passages_push}
use Rattle.module_reader.proofs.Staying.{passage_stays, passages_stay, there_stays, all_there_stay, there_push}
use Rattle.module_reader.proofs.Waiting.{all_unread_push}

-- what is left to do in another state, whose texts are the same
stays_left : (source : Source) (s t : State) (names : Names) (f : Frame) (ws : List Frame) (at : ℕ) (sections : List ℕ) (u : State) → GoesOn s t → IsThere s f → AllByRecursion (IsThere s) ws
    → left source (passages_of t names ws) (moved (passage_of t names f) at sections) u ≡ left source (passages_of s names ws) (moved (passage_of s names f) at sections) u
stays_left source s t names f ws at sections u goes there all =
    ap (λ ps. left source ps (moved (passage_of t names f) at sections) u) (passages_stay s t goes names ws all) ∙ ap (λ p. left source (passages_of s names ws) (moved p at sections) u) (passage_stays s t goes names f there)

-- a step to a later place of the text
pub stays_size : (s t : State) (names : Names) (f : Frame) (ws : List Frame) (at : ℕ) → GoesOn s t → IsThere s f → AllByRecursion (IsThere s) ws → f.at < at → at ≤ length (passage_of s names f).text
    → 2 * ((67108864 - t.spent) + ((length (passage_of t names f).text - at) + all_unread (passages_of t names ws))) + length ws
    < 2 * ((67108864 - s.spent) + (unread (passage_of s names f) + all_unread (passages_of s names ws))) + length ws
stays_size s t names f ws at goes there all later within =
    let spends : s.spent ≤ t.spent = goes.spends in
    let lengths : length (passage_of t names f).text ≡ length (passage_of s names f).text = ap (λ (p : Passage). length p.text) (passage_stays s t goes names f there) in
    let others : all_unread (passages_of t names ws) ≡ all_unread (passages_of s names ws) = ap all_unread (passages_stay s t goes names ws all) in
    omega arith

-- a refusal is what is left
pub moves_fault : (source : Source) (w : Work) (said : Result State Fault) (t : State) (f : Stop) → ((refusal : Fault) → said ≡ Err refusal → left_of source w ≡ Err refusal)
    → Moves {T = Unit {0}} said t (Err f) → Stepped {X = Unit {0}} source w w (Err f)
moves_fault source w said t (fault.Refused refusal) keeps is = keeps refusal is
moves_fault source w said t fault.LoadFailed keeps is = tt
moves_fault source w said t fault.NoMemory keeps is = tt

module _ (source : Source) (w : Work) (kind : ItemKind) (next : ℕ) (declares : is_declaration kind ≡ true) (stands : Stands (current w) kind next) (body : List ℕ)
    (contents : body ≡ contents_of (rest_of (current w)) 0 kind (next - w.frame.at)) where
  -- a declaration that is refused
  pub refused_steps : (refusal : Fault) → declaration source w.names w.frame.standing w.frame.at kind w.state body ≡ Err refusal → left_of source w ≡ Err refusal
  unfolding left_of
  refused_steps refusal is = declaration_left source (waiting w) (current w) w.state kind next declares stands ∙ rw (sym contents, is) refl

  -- a declaration
  pub declared_steps : (t : State) → IsSound w → GoesOn w.state t → declaration source w.names w.frame.standing w.frame.at kind w.state body ≡ Ok t
      → left source (passages_of t w.names w.waiting.items) (moved (passage_of t w.names w.frame) next w.frame.sections.items) t ≡ left_of source w
  unfolding left_of IsSound
  declared_steps t sound goes is =
      stays_left source w.state t w.names w.frame w.waiting.items next w.frame.sections.items t goes sound.0 sound.1 ∙ sym (declaration_left source (waiting w) (current w) w.state kind next declares stands ∙ rw (sym contents, is) refl)

-- a step that changes the state and comes to a later place of the text
pub advances_to : (w : Work) (t : State) (at : ℕ) → IsSound w → GoesOn w.state t → w.frame.at < at → at ≤ length (current w).text
    → (IsThere t w.frame × AllByRecursion (IsThere t) w.waiting.items × AreChars t × (length w.names ≡ length w.waiting.items))
    × (2 * ((67108864 - t.spent) + ((length (passage_of t w.names w.frame).text - at) + all_unread (passages_of t w.names w.waiting.items))) + length w.waiting.items < size_of w)
unfolding IsSound size_of
advances_to w t at sound goes later within =
    ((there_stays w.state t goes w.frame sound.0, all_there_stay w.state t goes w.waiting.items sound.1, goes.chars sound.2, sound.3), stays_size w.state t w.names w.frame w.waiting.items at goes sound.0 sound.1 later within)

-- ---- sections

pub gives_fault : {Y : Type 0} (source : Source) (w : Work) (said : Result (State × Y) Fault) (t : State) (f : Stop) → ((refusal : Fault) → said ≡ Err refusal → left_of source w ≡ Err refusal)
    → Gives said t (Err f) → Stepped {X = Unit {0}} source w w (Err f)
gives_fault source w said t (fault.Refused refusal) keeps is = keeps refusal is
gives_fault source w said t fault.LoadFailed keeps is = tt
gives_fault source w said t fault.NoMemory keeps is = tt

module _ (w : Work) (u : State) (sound : IsSound w) (goes : GoesOn w.state u) where
  pub same_text : (current (record w { state = u })).text ≡ (current w).text
  unfolding IsSound
  same_text = ap (λ (p : Passage). p.text) (passage_stays w.state u goes w.names w.frame sound.0)

  pub still_sound : IsSound (record w { state = u })
  unfolding IsSound
  still_sound = (there_stays w.state u goes w.frame sound.0, all_there_stay w.state u goes w.waiting.items sound.1, goes.chars sound.2, sound.3)

  begun_advances : (new : Work) (next : ℕ) (keyword : List ℕ) → Begun (record w { state = u }) new next keyword → Advances w new
  unfolding IsSound size_of
  begun_advances new next keyword begun = subst (Advances w) (sym begun.same) (advances_to w u new.frame.at sound goes begun.later (subst (λ (text : List ℕ). new.frame.at ≤ length text) same_text begun.within))

  pub begun_nears : (new : Work) (next : ℕ) (keyword : List ℕ) (r : Result (Unit {0}) Stop) → Begins (record w { state = u }) new next keyword r → OnOk r (Advances w new)
  begun_nears new next keyword (Ok x) begun = begun_advances new next keyword begun
  begun_nears new next keyword (Err f) begun = tt

module _ (source : Source) (w : Work) (next : ℕ) (stands : Stands (current w) SectionStart next) (keyword : List ℕ)
    (contents : keyword ≡ contents_of (rest_of (current w)) 0 SectionStart (next - w.frame.at)) where
  -- a keyword part that is not expanded
  pub keyword_steps : (refusal : Fault) → counted (expanded source w.names w.frame.standing w.frame.at w.state keyword) ≡ Err refusal → left_of source w ≡ Err refusal
  unfolding left_of
  keyword_steps refusal is = keyword_left source (waiting w) (current w) w.state next refusal stands (rw contents at is)

  module _ (u : State) (word : List ℕ) (gives : counted (expanded source w.names w.frame.standing w.frame.at w.state keyword) ≡ Ok (u, word)) (sound : IsSound w) (goes : GoesOn w.state u) where
    -- a keyword that is none, or ignored contents that do not end
    begun_fault : (f : Stop) → Begins {X = Unit {0}} (record w { state = u }) (record w { state = u }) next (trimmed word) (Err f) → Stepped {X = Unit {0}} source w w (Err f)
    unfolding left_of
    begun_fault (fault.Refused refusal) is =
        let said = λ (text : List ℕ). section_by w.frame.standing w.frame.at (record { state = u; sections = w.frame.sections.items }) (drop w.frame.at text) (next - w.frame.at) u (trimmed word) ≡ Err refusal in
        section_fault source (waiting w) (current w) w.state next u word refusal stands (rw contents at gives) (subst said (same_text w u sound goes) is)
    begun_fault fault.LoadFailed is = tt
    begun_fault fault.NoMemory is = tt

    -- a section that begins, or is ignored
    begun_steps : (new : Work) → Begun (record w { state = u }) new next (trimmed word) → left_of source new ≡ left_of source w
    unfolding left_of IsSound
    begun_steps new begun =
        let f = w.frame in
        let at = new.frame.at in
        let sections = new.frame.sections.items in
        let said = λ (text : List ℕ). section_by f.standing f.at (record { state = u; sections = f.sections.items }) (drop f.at text) (next - f.at) u (trimmed word) ≡ Ok (record { state = u; sections = sections }, at - f.at) in
        ap (left_of source) begun.same ∙ stays_left source w.state u w.names f w.waiting.items at sections u goes sound.0 sound.1
        ∙ section_left source (waiting w) (current w) w.state next u word sections at stands (rw contents at gives) begun.later (subst said (same_text w u sound goes) begun.goes)

    pub begun_stepped : (new : Work) (r : Result (Unit {0}) Stop) → Begins (record w { state = u }) new next (trimmed word) r → Stepped source w new r
    begun_stepped new (Ok x) begun = begun_steps new begun
    begun_stepped new (Err f) begun = begun_fault f begun

-- ---- references

-- the text that is found
found_text : (o : Option (List ℕ × List ℕ)) (name text : List ℕ) → o ≡ Some (name, text) → text_found o ≡ text
found_text o name text is = rw is refl

pub passage_by : (s : State) (inner : Names) (f : Frame) (text : List ℕ) (names : Names) (c : Standing) (at : ℕ) (sections : List ℕ) → text_found (found s f.text) ≡ text → inner ≡ names → f.standing ≡ c → f.at ≡ at → f.sections.items ≡ sections
    → passage_of s inner f ≡ record { text = text; names = names; standing = c; at = at; sections = sections }
passage_by s inner f text names c at sections a b d e g = rw (a, b, d, e, g) refl

-- the text that waits
waits_behind : (s t : State) (names : Names) (f : Frame) (ws fs : List Frame) (next : ℕ) → GoesOn s t → IsThere s f → AllByRecursion (IsThere s) ws → length names ≡ length ws → fs ≡ ws ++ record f { at = next } ∷ []
    → (name : List ℕ) → passages_of t (names ++ name ∷ []) fs ≡ passages_of s names ws ++ moved (passage_of s names f) next f.sections.items ∷ []
waits_behind s t names f ws fs next goes there all same is name =
    let inner = names ++ name ∷ [] in
    let outer : take (length ws) inner ≡ names = take_at names (name ∷ []) (length ws) same in
    ap (passages_of t inner) is ∙ passages_push t inner ws (record f { at = next })
    ∙ ap (λ ns. passages_of t inner ws ++ moved (passage_of t ns f) next f.sections.items ∷ []) outer
    ∙ ap (λ ps. ps ++ moved (passage_of t names f) next f.sections.items ∷ []) (passages_named t names name ws (omega (arith, same)) ∙ passages_stay s t goes names ws all)
    ∙ ap (λ p. passages_of s names ws ++ moved p next f.sections.items ∷ []) (passage_stays s t goes names f there)

-- the texts that wait once a name is entered
waits_now : {catalog : Named} (w : Work) (u : State) → IsSound w → GoesOn w.state u → (new : Work) (next : ℕ) (name : List ℕ) (number : ℕ) → Enters catalog (record w { state = u }) new next name number
    → passages_of new.state new.names new.waiting.items ≡ passages_of w.state w.names w.waiting.items ++ moved (current w) next w.frame.sections.items ∷ []
unfolding IsSound
waits_now w u sound goes new next name number enters =
    ap (λ (v : State). passages_of v new.names new.waiting.items) enters.state ∙ ap (λ (ns : Names). passages_of u ns new.waiting.items) enters.names
    ∙ waits_behind w.state u w.names w.frame w.waiting.items new.waiting.items next goes sound.0 sound.1 sound.3 enters.waits name

module _ (source : Source) (w : Work) (next : ℕ) (stands : Stands (current w) Reference next) (name : List ℕ) (named_it : name ≡ named (next - w.frame.at) (rest_of (current w))) where
  -- a reference that does not open
  pub unopened_steps : (refusal : Fault) → asking source w.frame.standing w.frame.at (λ t. opening t.bound w.names t.spent name) w.state ≡ Err refusal → left_of source w ≡ Err refusal
  unfolding left_of
  unopened_steps refusal is = refused_left source (waiting w) (current w) w.state next name refusal stands named_it is

  pub unopened_fault : (u : State) (f : Stop) → OpensIn (asking source w.frame.standing w.frame.at (λ t. opening t.bound w.names t.spent name) w.state) u name (Err f) → Stepped {X = Unit {0}} source w w (Err f)
  unopened_fault u (fault.Refused refusal) is = unopened_steps refusal is
  unopened_fault u fault.LoadFailed is = tt
  unopened_fault u fault.NoMemory is = tt

  module _ (u : State) (opened : Opened) (sound : IsSound w) (goes : GoesOn w.state u) (counts : Counts w.names w.state.spent u opened.number) where
    -- a reference that opens
    pub entered_steps : (new : Work) → OpensIn (asking source w.frame.standing w.frame.at (λ t. opening t.bound w.names t.spent name) w.state) u name (Ok opened)
        → Enters source.catalog (record w { state = u }) new next name opened.number → left_of source new ≡ left_of source w
    unfolding left_of IsSound
    entered_steps new (t, text, is, same, there) enters =
        let f = w.frame in
        let names = w.names ++ name ∷ [] in
        let ps = passages_of w.state w.names w.waiting.items ++ moved (current w) next f.sections.items ∷ [] in
        let standing : new.frame.standing ≡ standing_of source f.standing f.at name (text_bound t.bound name) = enters.standing source.files ∙ ap (λ (v : State). standing_of source f.standing f.at name (text_bound v.bound name)) same in
        let p = passage_by new.state new.names new.frame text names (standing_of source f.standing f.at name (text_bound t.bound name)) 0 []
        (found_text (found new.state new.frame.text) name text (ap (λ (v : State). found v new.frame.text) enters.state ∙ ap (found u) enters.text ∙ there)) enters.names standing enters.at enters.sections in
        let others : passages_of new.state new.names new.waiting.items ≡ ps = waits_now w u sound goes new next name opened.number enters in
        let state : new.state ≡ record t { spent = opened.spent } = enters.state ∙ same in
        ap (λ qs. left source qs (passage_of new.state new.names new.frame) new.state) others ∙ ap (λ q. left source ps q new.state) p ∙ ap (λ v. left source ps (record { text = text; names = names; standing = standing_of source f.standing f.at name (text_bound t.bound name); at = 0; sections = [] }) v) state
        ∙ opened_left source (waiting w) (current w) w.state next name t text opened.spent stands named_it is counts.room

    pub entered_advances : (new : Work) → HasText u.bound opened.number name → Enters source.catalog (record w { state = u }) new next name opened.number → Advances w new
    unfolding IsSound size_of
    entered_advances new (text, there) enters =
        let f = w.frame in
        let ws = w.waiting.items in
        let g : Frame = record f { at = next } in
        let by_state : found new.state new.frame.text ≡ loaded_at u.bound opened.number = ap (λ (v : State). found v new.frame.text) enters.state ∙ ap (found u) enters.text in
        let is_there : IsThere new.state new.frame = subst IsSome (sym (by_state ∙ there)) refl in
        let pushed : AllByRecursion (IsThere u) (ws ++ g ∷ []) = there_push u ws g (all_there_stay w.state u goes ws sound.1) (there_stays w.state u goes f sound.0) in
        let all : AllByRecursion (IsThere new.state) new.waiting.items = subst (λ (v : State). AllByRecursion (IsThere v) new.waiting.items) (sym enters.state) (subst (λ (fs : List Frame). AllByRecursion (IsThere u) fs) (sym enters.waits) pushed) in
        let others = waits_now w u sound goes new next name opened.number enters in
        let unread_later : all_unread (passages_of new.state new.names new.waiting.items) ≡ all_unread (passages_of w.state w.names ws) + (length (current w).text - next) = ap all_unread others ∙ all_unread_push (passages_of w.state w.names ws) (moved (current w) next f.sections.items) in
        let more : length new.waiting.items ≡ length ws + 1 = ap (λ (fs : List Frame). length fs) enters.waits ∙ length-append ws (g ∷ []) in
        let long : length (passage_of new.state new.names new.frame).text ≡ length (text_found (loaded_at u.bound opened.number)) = ap (λ (o : Option (List ℕ × List ℕ)). length (text_found o)) by_state in
        let longer : length new.names ≡ length w.names + 1 = ap (λ (ns : Names). length ns) enters.names ∙ length-append w.names (name ∷ []) in
        let spent : new.state.spent ≡ u.spent = ap (λ (v : State). v.spent) enters.state in
        let counted_it : w.state.spent + length (text_found (loaded_at u.bound opened.number)) ≤ u.spent = counts.counted in
        let chars : AreChars new.state = subst (λ (v : State). AreChars v) (sym enters.state) (goes.chars sound.2) in
        ((is_there, all, chars, omega (arith, longer, more, sound.3)), omega (arith, counts.within, counted_it, stands.some, stands.within, enters.at, unread_later, more, long, spent))
