-- The elements of a set are read back.
use Rattle.std.proofs.Common.{◌≡◌, ◌∙◌, ◌≤◌, ◌<◌, ℕ, ◌+◌, ◌-◌, List, [], ◌∷◌, ◌++◌, length, map, take, get_or, true, false, not, ◌&&◌, Option, Some, None, is_some, is_none, Result, Ok, Err, refl, ap, sym, subst, arith, true≢false, append_assoc, append-nil, length-append, if◌then◌else◌, take_all}
use Rattle.std.specs.Prelude.{codes, nat_le, nat_lt, option_and_then, option_map}
use Rattle.std.specs.List.{list_all, suffix_len, AllByRecursion}
use Rattle.std.proofs.lemmas.Bool.{and_parts, leb-true, le-ltb, lt-leb, false_from_ne_true, both_ways}
use Rattle.std.proofs.lemmas.List.Folds.{list_all_at}
use Rattle.std.proofs.lemmas.List.Sums.{suffix_len-take_no, sum_by-append, sum_by-cons}
use Rattle.jats_chars.specs.Classes.{is_space, is_name_char}
use Rattle.jats_chars.specs.Names.{is_name}
use Rattle.text_fronts.proofs.Fronts.{stops, name_chars}
use Rattle.content_models.specs.declared.content.Content.{Content}
use Rattle.content_models.specs.declared.content.Content.TheVariants.{Empty, Any, Mixed, Children}
use Rattle.content_models.specs.Parses.{most_open, occurrences, repeated_in}
use Rattle.content_models.specs.Proper.{is_proper, is_group, has_shape, depth, names_in, repeated}
use Rattle.content_models.specs.Reading.{content_of}
use Rattle.content_models.specs.Spelling.{flat}
use Rattle.content_models.proofs.Contents.{content_complete}
use Rattle.content_models.proofs.Exact.{not_deep}
use Rattle.content_models.proofs.Letters.{char_open, char_close}
use Rattle.content_models.proofs.Peaks.{other}
use Rattle.content_models.proofs.Shapes.{flat_spells}
use Rattle.position_automata.specs.Automata.{IsDeterministic}
use Rattle.position_automata.specs.Judged.{Judges, judged}
use Rattle.position_automata.proofs.Judging.{judges}
use Rattle.position_automata.proofs.States.{one_state_follows}
use Rattle.dtd_scanner.specs.declared.item.ItemKind.TheVariants.{ElementDecl}
use Rattle.decl_set.specs.Asked.{are_apart, IsElement}
use Rattle.decl_set.specs.Declarations.{Declarations, Element, content_in, follows_of, follows_in}
use Rattle.decl_set.specs.Declaring.{element_judged, with_element}
use Rattle.decl_set.specs.declared.faults.DeclFault.{DeclFault}
use Rattle.decl_set.specs.declared.faults.DeclFault.TheVariants as fault
use Rattle.decl_set.proofs.Kept.{follows_are}
use Rattle.text_fronts.specs.Fronts.{trimmed_end}
use Rattle.declaration_bodies.specs.Elements.{with_content, element_of}
use Rattle.module_reader.specs.Reading.{declares, element_named, element_spelled, element_read, element_declared}
use Rattle.module_reader.specs.Sources.{Source}
use Rattle.module_reader.specs.Stops.{refused}
use Rattle.module_reader.specs.declared.standing.Standing.{Standing}
use Rattle.module_reader.specs.declared.state.State.{State}
use Rattle.dtd_flattener.specs.Flat.{element_body}
use Rattle.dtd_flattener.proofs.Apart.{new_name}
use Rattle.dtd_flattener.proofs.Flatness.{IsFlatBody, flat_plain, flat_joined, flat_body}
use Rattle.dtd_flattener.proofs.Fronts.{name_flat, space_read, space_stops, spaced_name_read}
use Rattle.dtd_flattener.proofs.Leading.{Leads, with_set}
use Rattle.dtd_flattener.proofs.Spelling.{content_plain, content_spaceless}

-- ---- bodies

element_flat : (e : Element) → IsElement e → IsFlatBody (element_body e)
element_flat e is =
    flat_body (e.0 ++ (codes " " ++ flat e.1))
    (flat_joined e.0 (codes " " ++ flat e.1) (name_flat e.0 is.named) (flat_joined (codes " ") (flat e.1) (flat_plain (codes " ") refl) (flat_plain (flat e.1) (content_plain e.1 is.proper))))

-- a text without white space does not begin or end with it
spaceless_stops : (text : List ℕ) → list_all (λ c. not (is_space c)) text ≡ true → stops is_space text ≡ true
spaceless_stops [] none = refl
spaceless_stops (c ∷ cs) none = (and_parts (not (is_space c)) (list_all (λ d. not (is_space d)) cs) none).0

spaceless_at : (text : List ℕ) (i : ℕ) → list_all (λ c. not (is_space c)) text ≡ true → i < length text → is_space (get_or text i 0) ≡ false
spaceless_at text i none within =
    false_from_ne_true (is_space (get_or text i 0))
    (λ is. both_ways (list_all (λ c. not (is_space c)) text) (list_all_at (λ c. not (is_space c)) text i 0 within (ap not is)) none)

spaceless_end : (text : List ℕ) → list_all (λ c. not (is_space c)) text ≡ true → suffix_len is_space text ≡ 0
spaceless_end [] none = refl
spaceless_end (c ∷ cs) none =
    let text = c ∷ cs in
    let some : 0 < length text = omega arith in
    ap (suffix_len is_space) (sym (take_all (length text) text (omega arith)))
    ∙ suffix_len-take_no is_space text (length text) 0 some (omega arith) (spaceless_at text (length text - 1) none (omega (arith, some)))

trims : (text : List ℕ) → list_all (λ c. not (is_space c)) text ≡ true → trimmed_end text ≡ text
trims text none =
    let size : length text - 0 ≡ length text = omega arith in
    ap (λ n. take (length text - n) text) (spaceless_end text none) ∙ ap (λ n. take n text) size ∙ take_all (length text) text (omega arith)

element_read_back : (e : Element) → IsElement e → element_of (element_body e) ≡ Some (e.0, flat e.1)
unfolding element_of
element_read_back e is =
    let none = content_spaceless e.1 is.proper in
    ap (option_and_then with_content) (spaced_name_read e.0 (codes " " ++ flat e.1) is.named (space_stops (flat e.1)))
    ∙ ap (option_map (λ content. (e.0, trimmed_end content))) (space_read (flat e.1) (spaceless_stops (flat e.1) none))
    ∙ ap (λ t. Some (e.0, t)) (trims (flat e.1) none)

-- ---- parentheses

word_opens : (w rest : List ℕ) → list_all is_name_char w ≡ true → most_open 0 (w ++ rest) ≡ most_open 0 rest
word_opens [] rest are = refl
word_opens (c ∷ w) rest are =
    let parts = and_parts (is_name_char c) (list_all is_name_char w) are in
    other 0 c (w ++ rest) (char_open c parts.0) (char_close c parts.0) ∙ word_opens w rest parts.1

space_opens : (rest : List ℕ) → most_open 0 (codes " " ++ rest) ≡ most_open 0 rest
space_opens rest = other 0 32 rest (λ e. omega arith) (λ e. omega arith)

body_shallow : (e : Element) → IsElement e → nat_lt 64 (most_open 0 (element_body e)) ≡ false
body_shallow e is =
    let same : most_open 0 (element_body e) ≡ most_open 0 (flat e.1) =
    space_opens (e.0 ++ (codes " " ++ flat e.1)) ∙ word_opens e.0 (codes " " ++ flat e.1) (name_chars e.0 is.named) ∙ space_opens (flat e.1) in
    let shallow = not_deep (flat e.1) e.1 (flat_spells e.1 is.proper) is.proper in
    ap (nat_lt 64) same ∙ le-ltb 64 (most_open 0 (flat e.1)) (omega (arith, shallow))

-- ---- contents

content_back : (content : Content) → is_proper content ≡ true → content_of (flat content) ≡ Some content
content_back content proper =
    let spells = flat_spells content proper in
    content_complete (flat content) content spells (not_deep (flat content) content spells proper)

none_is : {X : Type 0} (o : Option X) → is_none o ≡ true → o ≡ None
none_is None h = refl
none_is (Some x) h = absurd (true≢false (sym h))

few : (content : Content) → is_proper content ≡ true → (occurrences content ≤ 1024) × (repeated_in content ≡ None)
unfolding is_proper
few Empty proper = (omega arith, refl)
few Any proper = (omega arith, refl)
few (Mixed names) proper =
    let first = and_parts (list_all is_name names) (is_none (repeated names) && nat_le (length names) 1024) proper in
    let second = and_parts (is_none (repeated names)) (nat_le (length names) 1024) first.1 in
    (leb-true (length names) 1024 second.1, none_is (repeated names) second.0)
few (Children part) proper =
    let first = and_parts (is_group part) (has_shape part && (nat_le (depth part) 64 && nat_le (names_in part) 1024)) proper in
    let second = and_parts (has_shape part) (nat_le (depth part) 64 && nat_le (names_in part) 1024) first.1 in
    let third = and_parts (nat_le (depth part) 64) (nat_le (names_in part) 1024) second.1 in
    (leb-true (names_in part) 1024 third.1, refl)

-- a deterministic content is judged so
judged_well : (content : Content) → IsDeterministic content → (n : ℕ) × (judged content ≡ Ok n)
judged_well content deterministic = by (judged content) refl (judges content)
  where
    by : (answer : Result ℕ (ℕ × ℕ)) → judged content ≡ answer → Judges content answer → (n : ℕ) × (judged content ≡ Ok n)
    by (Ok n) e judges = (n, e)
    by (Err clash) e ambiguous =
        absurd (ambiguous.apart ((one_state_follows content).0 deterministic ambiguous.state clash.0 clash.1 ambiguous.name ambiguous.first ambiguous.second))

-- ---- the set

added : (set : Declarations) (e : Element) (n : ℕ) → content_in set e.0 ≡ None → length set.elements < 1024 → judged e.1 ≡ Ok n → follows_in set.elements + n ≤ 16000000
    → with_element set e.0 e.1 ≡ Ok (record set { elements = set.elements ++ e ∷ [] })
unfolding with_element
added set e n new room is within =
    let full : nat_le 1024 (length set.elements) ≡ false = lt-leb 1024 (length set.elements) room in
    let over : nat_lt 16000000 (follows_in set.elements + n) ≡ false = le-ltb 16000000 (follows_in set.elements + n) within in
    ap {B = Result Declarations DeclFault} (λ o. if is_some o then Err (fault.DuplicateElement e.0) else if nat_le 1024 (length set.elements) then Err (fault.ElementsOver e.0) else element_judged set e.0 e.1 (judged e.1)) new
    ∙ ap {B = Result Declarations DeclFault} (λ b. if b then Err (fault.ElementsOver e.0) else element_judged set e.0 e.1 (judged e.1)) full
    ∙ ap (element_judged set e.0 e.1) is
    ∙ ap {B = Result Declarations DeclFault} (λ b. if b then Err (fault.FollowsOver e.0) else Ok (record set { elements = set.elements ++ e ∷ [] })) over

element_leads : (c : Standing) (at : ℕ) (s : State) (e : Element) → IsElement e → content_in s.set e.0 ≡ None → length s.set.elements < 1024 → follows_in s.set.elements + follows_of e.1 ≤ 16000000
    → element_declared c at s (element_body e) ≡ Ok (with_set s (record s.set { elements = s.set.elements ++ e ∷ [] }))
unfolding element_declared
element_leads c at s e is new room within =
    let j = judged_well e.1 is.deterministic in
    let limits = few e.1 is.proper in
    let fits : follows_in s.set.elements + j.0 ≤ 16000000 = omega (arith, within, follows_are e.1 j.0 j.1) in
    ap (λ b. if b then Err (refused c at 44 []) else element_read c at s (element_of (element_body e))) (body_shallow e is)
    ∙ ap (element_read c at s) (element_read_back e is)
    ∙ ap (element_spelled c at s e.0) (content_back e.1 is.proper)
    ∙ ap (λ b. if b then Err (refused c at 42 (e.0 ∷ [])) else element_named c at s e.0 e.1 (repeated_in e.1)) (le-ltb 1024 (occurrences e.1) limits.0)
    ∙ ap (element_named c at s e.0 e.1) limits.1
    ∙ ap (declares c at s) (added s.set e j.0 new room j.1 fits)

follows_between : (before : List Element) (e : Element) (after : List Element) → follows_in before + follows_of e.1 ≤ follows_in (before ++ (e ∷ after))
follows_between before e after =
    let f : Element → ℕ = λ x. follows_of x.1 in
    omega (arith, sum_by-append f before (e ∷ after), sum_by-cons f e after)

module _ (source : Source) (base : State) (set : Declarations) where
  abbrev having : List Element → State
  having elements = with_set base (record set { elements = elements })

  lead_from : (before after : List Element) → are_apart (before ++ after) ≡ true → AllByRecursion IsElement after → length (before ++ after) ≤ 1024 → follows_in (before ++ after) ≤ 16000000
      → Leads source (having before) (map (λ e. (ElementDecl, element_body e)) after) (having (before ++ after))
  lead_from before [] apart are few within = ap having (sym (append-nil before))
  lead_from before (e ∷ after) apart are few within =
      let on : before ++ (e ∷ after) ≡ (before ++ e ∷ []) ++ after = sym (append_assoc before (e ∷ []) after) in
      let room : length before < 1024 = omega (arith, few, length-append before (e ∷ after)) in
      let fits : follows_in before + follows_of e.1 ≤ 16000000 = omega (arith, within, follows_between before e after) in (
        having (before ++ e ∷ []),
        record { kind = refl; flat = element_flat e are.0; leads = λ c at. element_leads c at (having before) e are.0 (new_name before e after apart) room fits },
        subst (λ (all : List Element). Leads source (having (before ++ e ∷ [])) (map (λ x. (ElementDecl, element_body x)) after) (having all)) (sym on)
            (lead_from (before ++ e ∷ []) after (ap are_apart (sym on) ∙ apart) are.1 (rw (← on) few) (rw (← on) within)),
      )

  -- The lines of elements lead to these elements.
  pub elements_lead : (elements : List Element) → are_apart elements ≡ true → AllByRecursion IsElement elements → length elements ≤ 1024 → follows_in elements ≤ 16000000
      → Leads source (having []) (map (λ e. (ElementDecl, element_body e)) elements) (having elements)
  elements_lead elements apart are few within = lead_from [] elements apart are few within
