-- The lines of a flat text, read item by item.
use Rattle.std.proofs.Common.{◌≡◌, ◌∙◌, ◌<◌, ℕ, suc, ◌+◌, ◌-◌, List, [], ◌∷◌, ◌++◌, length, map, take, drop, true, false, Ok, refl, ap, sym, arith, append_assoc, length-append, true≢false}
use Rattle.std.specs.Prelude.{codes, slice_range}
use Rattle.std.specs.List.{concat}
use Rattle.std.proofs.Math.Seq.{drop-append_seam, take-append_seam}
use Rattle.jats_chars.specs.Classes.{is_space}
use Rattle.dtd_scanner.specs.Items.{first_is, IsItem, EndsBefore}
use Rattle.dtd_scanner.specs.Parts.{opening_len, contents_of}
use Rattle.dtd_scanner.specs.Walk.{◌>>=◌, over}
use Rattle.dtd_scanner.specs.declared.item.ItemKind.{ItemKind}
use Rattle.dtd_scanner.specs.declared.item.ItemKind.TheVariants.{Blank, Comment, Pi, Reference, SectionStart, ElementDecl, AttlistDecl, EntityDecl, NotationDecl}
use Rattle.dtd_scanner.proofs.Complete.{complete}
use Rattle.dtd_scanner.proofs.Walking.{over_end}
use Rattle.pe_expansion.specs.Expansion.{plain_body_of}
use Rattle.module_reader.specs.declared.standing.Standing.{Standing}
use Rattle.module_reader.specs.declared.state.State.{State}
use Rattle.module_reader.specs.Reading.{Deeper, Local, declared, declaration, item_step, item_at, item_by, after, ended, reading, module_read}
use Rattle.module_reader.specs.Sources.{Source}
use Rattle.module_reader.specs.Stops.{module_text}
use Rattle.dtd_flattener.specs.Flat.{Line, opening, written}
use Rattle.dtd_flattener.proofs.Asking.{asked}
use Rattle.dtd_flattener.proofs.Bodies.{over_front, flat_is_body, flat_expands}
use Rattle.dtd_flattener.proofs.Flatness.{IsFlatBody}
use Rattle.dtd_flattener.proofs.Leading.{is_declaration, Declares, Leads}

-- a declaration without its line end
abbrev item : ItemKind → List ℕ → List ℕ
item kind body = opening kind ++ (body ++ codes ">")

is_item : (kind : ItemKind) (body : List ℕ) → is_declaration kind ≡ true → IsFlatBody body → IsItem kind (item kind body)
is_item ElementDecl body is flat = (body, flat.0, flat_is_body body flat.1, refl)
is_item AttlistDecl body is flat = (body, flat.0, flat_is_body body flat.1, refl)
is_item EntityDecl body is flat = (body, flat.0, flat_is_body body flat.1, refl)
is_item NotationDecl body is flat = (body, flat.0, flat_is_body body flat.1, refl)
is_item Blank body is flat = absurd (true≢false (sym is))
is_item Comment body is flat = absurd (true≢false (sym is))
is_item Pi body is flat = absurd (true≢false (sym is))
is_item Reference body is flat = absurd (true≢false (sym is))
is_item SectionStart body is flat = absurd (true≢false (sym is))

ends_before : (kind : ItemKind) (rest : List ℕ) → is_declaration kind ≡ true → EndsBefore kind rest
ends_before ElementDecl rest is = tt
ends_before AttlistDecl rest is = tt
ends_before EntityDecl rest is = tt
ends_before NotationDecl rest is = tt
ends_before Blank rest is = absurd (true≢false (sym is))
ends_before Comment rest is = tt
ends_before Pi rest is = tt
ends_before Reference rest is = tt
ends_before SectionStart rest is = tt

opening_length : (kind : ItemKind) → is_declaration kind ≡ true → opening_len kind ≡ length (opening kind)
opening_length ElementDecl is = refl
opening_length AttlistDecl is = refl
opening_length EntityDecl is = refl
opening_length NotationDecl is = refl
opening_length Blank is = absurd (true≢false (sym is))
opening_length Comment is = absurd (true≢false (sym is))
opening_length Pi is = absurd (true≢false (sym is))
opening_length Reference is = absurd (true≢false (sym is))
opening_length SectionStart is = absurd (true≢false (sym is))

-- what stands between a word and `>`
between : (word body rest : List ℕ) (n len : ℕ) → n ≡ length word → len ≡ length (word ++ (body ++ codes ">")) → slice_range ((word ++ (body ++ codes ">")) ++ rest) (0 + n) (len - 1) ≡ body
between word body rest n len is size =
    let text = (word ++ (body ++ codes ">")) ++ rest in
    let place : 0 + n ≡ length word = omega (arith, is) in
    let whole : len ≡ length word + (length body + 1) = size ∙ length-append word (body ++ codes ">") ∙ ap (λ k. length word + k) (length-append body (codes ">")) in
    let count : len - 1 - length word ≡ length body = omega (arith, whole) in
    let behind : drop (length word) text ≡ body ++ (62 ∷ rest) = ap (drop (length word)) (append_assoc word (body ++ codes ">") rest) ∙ drop-append_seam word ((body ++ codes ">") ++ rest) ∙ append_assoc body (codes ">") rest in
    ap (λ k. take (len - 1 - k) (drop k text)) place ∙ ap (λ k. take k (drop (length word) text)) count ∙ ap (take (length body)) behind ∙ take-append_seam body (62 ∷ rest)

contents_are : (kind : ItemKind) (body rest : List ℕ) → is_declaration kind ≡ true → contents_of (item kind body ++ rest) 0 kind (length (item kind body)) ≡ body
contents_are kind body rest is = between (opening kind) body rest (opening_len kind) (length (item kind body)) (opening_length kind is) refl

-- a state in a text without sections
abbrev standing : State → Local
standing s = record { state = s; sections = [] }

module _ (source : Source) (deeper : Deeper) (c : Standing) where
  module _ (at : ℕ) (s next : State) (body rest : List ℕ) where
    -- the body of a declaration is itself
    declaration_leads : (kind : ItemKind) → Declares source s (kind, body) next → declaration source [] c at kind s body ≡ Ok next
    declaration_leads kind is =
        ap (λ x. x >>= λ r. declared source [] c at kind (record r.0 { spent = r.1.spent }) r.1.text)
        (asked source c at (λ t. plain_body_of t.bound [] t.spent body) s (record { text = body; spent = s.spent }) (flat_expands s.bound s.spent body is.flat.1))
        ∙ is.leads c at

    item_leads : (kind : ItemKind) (text : List ℕ) (len : ℕ) → Declares source s (kind, body) next → contents_of text 0 kind len ≡ body
        → item_by source deeper [] c at (standing s) text len kind ≡ Ok (standing next, len)
    item_leads ElementDecl text len is holds = ap (λ t. after (standing s) len (declaration source [] c at ElementDecl s t)) holds ∙ ap (after (standing s) len) (declaration_leads ElementDecl is)
    item_leads AttlistDecl text len is holds = ap (λ t. after (standing s) len (declaration source [] c at AttlistDecl s t)) holds ∙ ap (after (standing s) len) (declaration_leads AttlistDecl is)
    item_leads EntityDecl text len is holds = ap (λ t. after (standing s) len (declaration source [] c at EntityDecl s t)) holds ∙ ap (after (standing s) len) (declaration_leads EntityDecl is)
    item_leads NotationDecl text len is holds = ap (λ t. after (standing s) len (declaration source [] c at NotationDecl s t)) holds ∙ ap (after (standing s) len) (declaration_leads NotationDecl is)
    item_leads Blank text len is holds = absurd (true≢false (sym is.kind))
    item_leads Comment text len is holds = absurd (true≢false (sym is.kind))
    item_leads Pi text len is holds = absurd (true≢false (sym is.kind))
    item_leads Reference text len is holds = absurd (true≢false (sym is.kind))
    item_leads SectionStart text len is holds = absurd (true≢false (sym is.kind))

    line_leads : (kind : ItemKind) → Declares source s (kind, body) next → item_step source deeper [] c at (standing s) (item kind body ++ rest) ≡ Ok (standing next, length (item kind body))
    line_leads kind is =
        ap (item_at source deeper [] c at (standing s) (item kind body ++ rest)) (complete kind (item kind body) rest (is_item kind body is.kind is.flat) (ends_before kind rest is.kind))
        ∙ item_leads kind (item kind body ++ rest) (length (item kind body)) is (contents_are kind body rest is.kind)

  -- the line end is white space
  blank_leads : (at : ℕ) (s : State) (rest : List ℕ) → first_is is_space rest ≡ false → item_step source deeper [] c at (standing s) ((10 ∷ []) ++ rest) ≡ Ok (standing s, 1)
  unfolding is_space
  blank_leads at s rest ends =
      ap (item_at source deeper [] c at (standing s) (10 ∷ rest)) (complete Blank (10 ∷ []) rest ((λ none. absurd (true≢false cc)), refl) ends)

written_parts : (kind : ItemKind) (body rest : List ℕ) → written (kind, body) ++ rest ≡ item kind body ++ ((10 ∷ []) ++ rest)
written_parts kind body rest =
    append_assoc (opening kind) (body ++ codes ">\n") rest
    ∙ ap (λ t. opening kind ++ t) (append_assoc body (codes ">\n") rest ∙ sym (append_assoc body (codes ">") (10 ∷ rest)))
    ∙ sym (append_assoc (opening kind) (body ++ codes ">") (10 ∷ rest))

-- a line begins with `<`
line_starts : (kind : ItemKind) (rest : List ℕ) → is_declaration kind ≡ true → first_is is_space (opening kind ++ rest) ≡ false
unfolding is_space
line_starts ElementDecl rest is = refl
line_starts AttlistDecl rest is = refl
line_starts EntityDecl rest is = refl
line_starts NotationDecl rest is = refl
line_starts Blank rest is = absurd (true≢false (sym is))
line_starts Comment rest is = absurd (true≢false (sym is))
line_starts Pi rest is = absurd (true≢false (sym is))
line_starts Reference rest is = absurd (true≢false (sym is))
line_starts SectionStart rest is = absurd (true≢false (sym is))

lines_start : (source : Source) (s last : State) (lines : List Line) → Leads source s lines last → first_is is_space (concat (map written lines)) ≡ false
lines_start source s last [] leads = refl
lines_start source s last (line ∷ lines) leads =
    ap (first_is is_space) (append_assoc (opening line.0) (line.1 ++ codes ">\n") (concat (map written lines)))
    ∙ line_starts line.0 ((line.1 ++ codes ">\n") ++ concat (map written lines)) leads.1.kind

lines_read : (source : Source) (deeper : Deeper) (c : Standing) (at : ℕ) (s last : State) (lines : List Line) → Leads source s lines last
    → over (item_step source deeper [] c) at (standing s) (concat (map written lines)) ≡ Ok (standing last)
lines_read source deeper c at s last [] leads = over_end (item_step source deeper [] c) at (standing s) [] refl ∙ ap (λ t. Ok (standing t)) leads
lines_read source deeper c at s last (line ∷ lines) leads =
    let next = leads.0 in
    let kind = line.0 in
    let body = line.1 in
    let rest = concat (map written lines) in
    let blank = (10 ∷ []) ++ rest in
    let there = at + length (item kind body) in
    let some : 0 < length (item kind body) = omega (arith, length-append (opening kind) (body ++ codes ">"), length-append body (codes ">")) in
    ap (over (item_step source deeper [] c) at (standing s)) (written_parts kind body rest)
    ∙ over_front (item_step source deeper [] c) at (standing s) (item kind body) blank (standing next) some (line_leads source deeper c at s next body blank kind leads.1)
    ∙ over_front (item_step source deeper [] c) there (standing next) (10 ∷ []) rest (standing next) (omega arith) (blank_leads source deeper c there next rest (lines_start source next last lines leads.2))
    ∙ lines_read source deeper c (there + 1) next last lines leads.2

text_read : (levels : ℕ) (source : Source) (c : Standing) (s last : State) (lines : List Line) → Leads source s lines last → reading (suc levels) source [] c s (concat (map written lines)) ≡ Ok last
text_read levels source c s last lines leads = ap (λ x. x >>= ended c) (lines_read source (reading levels source) c 0 s last lines leads)

-- Lines that lead from one state to another are read so.
pub module_lines : (source : Source) (name : List ℕ) (s last : State) (lines : List Line) → Leads source s lines last → module_read source name s (concat (map written lines)) ≡ Ok last
unfolding module_read
module_lines source name s last lines leads = text_read 32 source (module_text name) s last lines leads
