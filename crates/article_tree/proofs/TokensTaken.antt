-- The token with which a text begins is computed.
use Rattle.std.proofs.Common.{◌≡◌, ◌∙◌, ◌⊎◌, ℕ, List, [], ◌∷◌, ◌++◌, drop, Bool, true, false, not, eqb, ◌&&◌, Some, None, refl, ap, sym, append_assoc, codes, inl, inr}
use Rattle.std.specs.Prelude.{nat_eq, option_map, option_and_then}
use Rattle.std.specs.List.{list_all, starts_with}
use Rattle.std.proofs.lemmas.Bool.{cond-false, and_parts, ne_eqb, false≢true, false_from_ne_true, eqb-true}
use Rattle.jats_chars.specs.Classes.{is_space, is_name_start, is_name_char}
use Rattle.jats_chars.specs.Names.{is_name}
use Rattle.dtd_scanner.specs.Items.{first_is, is_xml}
use Rattle.dtd_scanner.specs.References.{char_reference}
use Rattle.text_fronts.specs.Grammar.{IsSpace}
use Rattle.text_fronts.specs.Fronts.{skipped, read_name}
use Rattle.text_fronts.proofs.Fronts.{stops, blank_ends, skipped_over}
use Rattle.article_tree.specs.Tokens.{Tag, Token, letter, section, coded, named, remark, instruction, start, stop, Begins}
use Rattle.article_tree.specs.Taking.{behind, up_to, take_tag, closed_or, with_body, first_token}
use Rattle.article_tree.proofs.Marks.{behind_here, section_first, instruction_first, remark_first}
use Rattle.article_tree.proofs.Tags.{starts_apart, tag_back}
use Rattle.text_fronts.proofs.Complete.{name_back, space_back, space_blank, space_stop}
use Rattle.article_tree.proofs.Codes.{coded_back}

-- what a rest and a front are together
behind_front : (front text rest spelled : List ℕ) → text ≡ front ++ rest → front ≡ spelled → text ≡ spelled ++ rest
behind_front front text rest spelled form is = form ∙ ap (λ t. t ++ rest) is

spread : (a b c rest : List ℕ) → (a ++ (b ++ c)) ++ rest ≡ a ++ (b ++ (c ++ rest))
spread a b c rest = simp append_assoc

spread_more : (a b c d rest : List ℕ) → (a ++ (b ++ (c ++ d))) ++ rest ≡ a ++ (b ++ (c ++ (d ++ rest)))
spread_more a b c d rest = simp append_assoc

spread_most : (a b c d e rest : List ℕ) → (a ++ (b ++ (c ++ (d ++ e)))) ++ rest ≡ a ++ (b ++ (c ++ (d ++ (e ++ rest))))
spread_most a b c d e rest = simp append_assoc

name_apart : (d : ℕ) (mark name rest : List ℕ) → is_name_start d ≡ false → is_name name ≡ true → starts_with nat_eq (name ++ rest) (d ∷ mark) ≡ false
name_apart d mark [] rest none is = absurd (false≢true is)
name_apart d mark (c ∷ name) rest none is = ap (λ (b : Bool). b && starts_with nat_eq (name ++ rest) mark) (starts_apart d none c (and_parts (is_name_start c) (list_all is_name_char name) is).0)

space_apart : (d : ℕ) (mark space rest : List ℕ) → is_space d ≡ false → IsSpace space → starts_with nat_eq (space ++ rest) (d ∷ mark) ≡ false
space_apart d mark [] rest none is = absurd is
space_apart d mark (c ∷ space) rest none is =
    let first = (and_parts (is_space c) (list_all is_space space) (space_blank (c ∷ space) is)).0 in
    ap (λ (b : Bool). b && starts_with nat_eq (space ++ rest) mark) (false_from_ne_true (eqb d c) (λ same. false≢true (sym none ∙ ap is_space (eqb-true d c same) ∙ first)))

body_stops : (body rest : List ℕ) → first_is is_space body ≡ false → stops is_space (body ++ (codes "?>" ++ rest)) ≡ true
unfolding is_space
body_stops [] rest is = refl
body_stops (c ∷ body) rest is = ap not is

named_taken : (name rest : List ℕ) → is_name name ≡ true → first_token (38 ∷ (name ++ (codes ";" ++ rest))) ≡ Some (named name, rest)
unfolding first_token is_name_start is_name_char
named_taken name rest is =
    let text = name ++ (codes ";" ++ rest) in
    cond-false (starts_with nat_eq (38 ∷ text) (codes "&#")) _ _ (name_apart 35 [] name (codes ";" ++ rest) refl is)
    ∙ ap (option_and_then (λ (x : List ℕ × List ℕ). option_map (λ (rest : List ℕ). (named x.0, rest)) (behind (codes ";") x.1))) (name_back name (codes ";" ++ rest) is refl)
    ∙ ap (option_map (λ (rest : List ℕ). (named name, rest))) (behind_here (codes ";") rest)

stop_taken : (name space rest : List ℕ) → is_name name ≡ true → list_all is_space space ≡ true → first_token (codes "</" ++ (name ++ (space ++ (codes ">" ++ rest)))) ≡ Some (stop name, rest)
unfolding first_token is_space is_name_char
stop_taken name space rest is blank =
    let end = codes ">" ++ rest in
    ap (option_and_then (λ (x : List ℕ × List ℕ). option_map (λ (rest : List ℕ). (stop x.0, rest)) (behind (codes ">") (skipped x.1)))) (name_back name (space ++ end) is (blank_ends space end blank refl))
    ∙ ap (λ (t : List ℕ). option_map (λ (rest : List ℕ). (stop name, rest)) (behind (codes ">") t)) (skipped_over space end blank refl)
    ∙ ap (option_map (λ (rest : List ℕ). (stop name, rest))) (behind_here (codes ">") rest)

instruction_taken : (target body text : List ℕ) (x : Token × List ℕ) → is_xml target ≡ false → (y : List ℕ) → read_name text ≡ Some (target, y) → closed_or target y (behind (codes "?>") y) ≡ Some x → first_token (codes "<?" ++ text) ≡ Some x
unfolding first_token
instruction_taken target body text x other y names closes = ap (option_and_then with_body) names ∙ cond-false (is_xml target) None (closed_or target y (behind (codes "?>") y)) other ∙ closes

tag_taken : (tag : Tag) (text rest : List ℕ) → is_name tag.name ≡ true → take_tag (tag.name ++ text) ≡ Some (start tag, rest) → first_token (60 ∷ (tag.name ++ text)) ≡ Some (start tag, rest)
unfolding first_token is_name_start
tag_taken tag text rest is takes =
    cond-false (starts_with nat_eq (tag.name ++ text) (codes "/")) _ _ (name_apart 47 [] tag.name text refl is)
    ∙ cond-false (starts_with nat_eq (tag.name ++ text) (codes "!--")) _ _ (name_apart 33 (codes "--") tag.name text refl is)
    ∙ cond-false (starts_with nat_eq (tag.name ++ text) (codes "?")) _ _ (name_apart 63 [] tag.name text refl is)
    ∙ cond-false (starts_with nat_eq (tag.name ++ text) (codes "![CDATA[")) _ _ (name_apart 33 (codes "[CDATA[") tag.name text refl is)
    ∙ takes

pub takes : (token : Token) (text rest : List ℕ) → Begins token text rest → first_token text ≡ Some (token, rest)
unfolding first_token is_name_char is_space
takes (letter c) text rest (front, (less, and, is), allows, form) =
    ap first_token (behind_front front text rest (c ∷ []) form is)
    ∙ cond-false (eqb c 38) _ _ (ne_eqb c 38 and) ∙ cond-false (eqb c 60) _ _ (ne_eqb c 60 less) ∙ cond-false (starts_with nat_eq (c ∷ rest) (codes "]]>")) _ _ allows
takes (section inside) text rest (front, (none, is), allows, form) =
    ap first_token (behind_front front text rest (codes "<![CDATA[" ++ (inside ++ codes "]]>")) form is ∙ spread (codes "<![CDATA[") inside (codes "]]>") rest)
    ∙ ap (option_map (λ (x : List ℕ × List ℕ). (section x.0, x.1))) (section_first inside rest none)
takes (coded c) text rest (front, is, allows, form) =
    let h = coded_back front rest c is in
    ap first_token (form ∙ h.form)
    ∙ ap (option_map (λ (r : ℕ × ℕ). (coded r.0, drop r.1 (38 ∷ 35 ∷ h.inside)))) (sym (ap char_reference h.form) ∙ h.is)
    ∙ ap (λ (t : List ℕ). Some (coded c, t)) (sym (ap (drop h.len) h.form) ∙ h.behind)
takes (named name) text rest (front, (named_so, is), allows, form) =
    ap first_token (behind_front front text rest (38 ∷ (name ++ codes ";")) form is ∙ spread (codes "&") name (codes ";") rest) ∙ named_taken name rest named_so
takes (remark inside) text rest (front, (none, apart, is), allows, form) =
    ap first_token (behind_front front text rest (codes "<!--" ++ (inside ++ codes "-->")) form is ∙ spread (codes "<!--") inside (codes "-->") rest)
    ∙ ap (option_and_then (λ (x : List ℕ × List ℕ). option_map (λ (rest : List ℕ). (remark x.0, rest)) (behind (codes ">") x.1))) (remark_first inside (codes ">" ++ rest) none apart)
    ∙ ap (option_map (λ (rest : List ℕ). (remark inside, rest))) (behind_here (codes ">") rest)
takes (instruction target body) text rest (front, is, allows, form) = by is.form
  where
    by : ((body ≡ []) × (front ≡ codes "<?" ++ (target ++ codes "?>"))) ⊎ ((space : List ℕ) × IsSpace space × (front ≡ codes "<?" ++ (target ++ (space ++ (body ++ codes "?>"))))) → first_token text ≡ Some (instruction target body, rest)
    by (inl (empty, spelled)) =
        ap first_token (behind_front front text rest (codes "<?" ++ (target ++ codes "?>")) form spelled ∙ spread (codes "<?") target (codes "?>") rest)
        ∙ instruction_taken target body (target ++ (codes "?>" ++ rest)) (instruction target [], rest) is.is_other (codes "?>" ++ rest) (name_back target (codes "?>" ++ rest) is.is_named refl)
        (ap (closed_or target (codes "?>" ++ rest)) (behind_here (codes "?>") rest))
        ∙ ap (λ (b : List ℕ). Some (instruction target b, rest)) (sym empty)
    by (inr (space, spaced, spelled)) =
        let end = body ++ (codes "?>" ++ rest) in
        ap first_token (behind_front front text rest (codes "<?" ++ (target ++ (space ++ (body ++ codes "?>")))) form spelled ∙ spread_most (codes "<?") target space body (codes "?>") rest)
        ∙ instruction_taken target body (target ++ (space ++ end)) (instruction target body, rest) is.is_other (space ++ end) (name_back target (space ++ end) is.is_named (space_stop space end spaced))
        (ap (closed_or target (space ++ end)) (cond-false (starts_with nat_eq (space ++ end) (codes "?>")) (Some (drop 2 (space ++ end))) None (space_apart 63 (codes ">") space end refl spaced))
        ∙ ap (option_and_then (λ (t : List ℕ). option_map (λ (x : List ℕ × List ℕ). (instruction target x.0, x.1)) (up_to (codes "?>") t))) (space_back space end spaced (body_stops body rest is.is_behind))
        ∙ ap (option_map (λ (x : List ℕ × List ℕ). (instruction target x.0, x.1))) (instruction_first body rest is.is_inside))
takes (start tag) text rest (front, is, allows, form) =
    let h = tag_back tag front rest is in
    ap first_token (form ∙ h.1) ∙ tag_taken tag h.0 rest is.is_named h.2
takes (stop name) text rest (front, (space, named_so, blank, is), allows, form) =
    ap first_token (behind_front front text rest (codes "</" ++ (name ++ (space ++ codes ">"))) form is ∙ spread_more (codes "</") name space (codes ">") rest) ∙ stop_taken name space rest named_so blank
