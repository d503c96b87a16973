-- The answers of parsing are exact.
use Rattle.std.proofs.Common.{◌≡◌, List, ◌∷◌, ◌++◌, ◌≤◌, length, refl, sym, ap, ◌∙◌, subst, arith, true, false, true≢false, Option, Some, None, ◌⊎◌, inl, inr, ◌<◌}
use Rattle.std.specs.Prelude.{codes, nat_le, nat_lt, Result, Ok, Err, is_none, if◌then◌else◌}
use Rattle.std.specs.List.{list_all}
use Rattle.std.proofs.lemmas.Bool.{leb-true, le-leb, ltb-false, lt-ltb, le-ltb}
use Rattle.jats_chars.specs.Names.{is_name}
use Rattle.content_models.specs.declared.content.Content.{Content}
use Rattle.content_models.specs.declared.content.Content.TheVariants.{Empty, Any, Mixed, Children}
use Rattle.content_models.specs.declared.parsing.ContentFault.{ContentFault}
use Rattle.content_models.specs.declared.parsing.ContentFault.TheVariants as fault
use Rattle.content_models.specs.Model.{Chars}
use Rattle.content_models.specs.Proper.{depth, names_in, has_shape, is_group, repeated, is_proper, IsProper}
use Rattle.content_models.specs.Grammar.{Spells, SpellsMixed}
use Rattle.content_models.specs.Parses.{most_open, IsTooDeep, occurrences, repeated_in, Parses, Judges}
use Rattle.content_models.specs.Reading.{content_of}
use Rattle.content_models.specs.Spelling.{flat}
use Rattle.content_models.proofs.Letters.{and-left, and-right}
use Rattle.content_models.proofs.Peaks.{opens, spaces, other, names}
use Rattle.content_models.proofs.Contents.{depth_of, content_sound, content_complete}
use Rattle.content_models.proofs.Shapes.{and-both, part_shape, names_names, flat_spells}

-- what is spelled within the limits is proper
pub spelled_proper : (t : Chars) (c : Content) → Spells t c → (IsTooDeep t → ⊥) → occurrences c ≤ 1024 → repeated_in c ≡ None → IsProper c
unfolding is_proper
spelled_proper t Empty s d n r = refl
spelled_proper t Any s d n r = refl
spelled_proper t (Mixed ns) s d n r =
    and-both (list_all is_name ns) _ (names_names ns s.1 s.5)
    (and-both (is_none (repeated ns)) _ (ap is_none r) (le-leb (length ns) 1024 n))
spelled_proper t (Children p) s d n r =
    let deep : depth p ≤ 64 = omega (arith, depth_of t p s.1, d) in
    and-both (is_group p) _ s.0 (and-both (has_shape p) _ (part_shape t p s.1) (and-both (nat_le (depth p) 64) _ (le-leb (depth p) 64 deep) (le-leb (names_in p) 1024 n)))

-- the test for too many open parentheses
pub shallow : (t : Chars) → false ≡ nat_lt 64 (most_open 0 t) → IsTooDeep t → ⊥
shallow t e d = (let l : most_open 0 t ≤ 64 = ltb-false 64 (most_open 0 t) (sym e) in omega arith)

-- a judged content that the text spells
pub judged_parses : (t : Chars) (c : Content) (r : Result Content ContentFault) → Spells t c → (IsTooDeep t → ⊥) → Judges c r → Parses t r
judged_parses t c (Ok e) s d j =
    let f = subst (Spells t) j.0 s in
    (d, f, spelled_proper t e f d j.1 j.2)
judged_parses t c (Err fault.GroupTooDeep) s d j = elim j [ ]
judged_parses t c (Err fault.Malformed) s d j = elim j [ ]
judged_parses t c (Err fault.PositionsOver) s d j = (d, c, s, j)
judged_parses t c (Err (fault.DuplicateMixedName name)) s d j = (d, j.0, subst (Spells t) j.1 s, j.2, j.3)
judged_parses t c (Err fault.NoMemory) s d j = tt

-- where nothing is read nothing is spelled
pub unread_parses : (t : Chars) → content_of t ≡ None → (IsTooDeep t → ⊥) → (IsTooDeep t → ⊥) × ((c : Content) → Spells t c → ⊥)
unread_parses t e d = (d, (λ c s. (let f : None ≡ Some c = sym e ∙ content_complete t c s d in let z : ⊥ = cc in z)))

-- no text that spells a proper content has too many open parentheses
word_opens : (r : Chars) → most_open 1 (codes "#PCDATA" ++ r) ≡ most_open 1 r
word_opens r =
    other 1 35 (80 ∷ 67 ∷ 68 ∷ 65 ∷ 84 ∷ 65 ∷ r) (λ e. omega arith) (λ e. omega arith)
    ∙ other 1 80 (67 ∷ 68 ∷ 65 ∷ 84 ∷ 65 ∷ r) (λ e. omega arith) (λ e. omega arith)
    ∙ other 1 67 (68 ∷ 65 ∷ 84 ∷ 65 ∷ r) (λ e. omega arith) (λ e. omega arith)
    ∙ other 1 68 (65 ∷ 84 ∷ 65 ∷ r) (λ e. omega arith) (λ e. omega arith)
    ∙ other 1 65 (84 ∷ 65 ∷ r) (λ e. omega arith) (λ e. omega arith)
    ∙ other 1 84 (65 ∷ r) (λ e. omega arith) (λ e. omega arith)
    ∙ other 1 65 r (λ e. omega arith) (λ e. omega arith)

closes_opens : most_open 1 (codes ")*") ≡ 1
unfolding most_open
closes_opens = refl

close_opens : most_open 1 (codes ")") ≡ 1
unfolding most_open
close_opens = refl

mixed_opens : (t : Chars) (ns : List Chars) → SpellsMixed t ns → most_open 0 t ≡ 1
mixed_opens t ns h =
    ap (most_open 0) h.3 ∙ opens 0 (h.0 ++ (codes "#PCDATA" ++ (h.1 ++ h.2))) ∙ spaces h.0 1 (codes "#PCDATA" ++ (h.1 ++ h.2)) h.4 ∙ word_opens (h.1 ++ h.2) ∙ names ns h.1 1 h.2 h.5
    ∙ elim h.6 [ inl c ↦ ap (most_open 1) c ∙ closes_opens | inr c ↦ ap (most_open 1) c.0 ∙ close_opens ]

empty_opens : most_open 0 (codes "EMPTY") ≡ 0
unfolding most_open
empty_opens = refl

any_opens : most_open 0 (codes "ANY") ≡ 0
unfolding most_open
any_opens = refl

pub not_deep : (t : Chars) (c : Content) → Spells t c → IsProper c → IsTooDeep t → ⊥
unfolding is_proper
not_deep t Empty s p d = (let e : most_open 0 t ≡ 0 = ap (most_open 0) s ∙ empty_opens in omega arith)
not_deep t Any s p d = (let e : most_open 0 t ≡ 0 = ap (most_open 0) s ∙ any_opens in omega arith)
not_deep t (Mixed ns) s p d = (let e = mixed_opens t ns s in omega arith)
not_deep t (Children q) s p d =
    let k = and-right (has_shape q) _ (and-right (is_group q) _ p) in
    let l : depth q ≤ 64 = leb-true (depth q) 64 (and-left (nat_le (depth q) 64) _ k) in
    omega (arith, depth_of t q s.1)

pub few : (c : Content) → IsProper c → (occurrences c ≤ 1024) × (repeated_in c ≡ None)
unfolding is_proper
few Empty p = (omega arith, refl)
few Any p = (omega arith, refl)
few (Mixed ns) p =
    let k = and-right (list_all is_name ns) _ p in
    (leb-true (length ns) 1024 (and-right (is_none (repeated ns)) _ k), none (repeated ns) (and-left (is_none (repeated ns)) _ k))
  where
    none : (o : Option Chars) → is_none o ≡ true → o ≡ None
    none None h = refl
    none (Some x) h = absurd (true≢false (sym h))
few (Children q) p =
    let k = and-right (has_shape q) _ (and-right (is_group q) _ p) in
    (leb-true (names_in q) 1024 (and-right (nat_le (depth q) 64) _ k), refl)

-- ---- one answer for a text, computed
named_fault : Content → Option Chars → Result Content ContentFault
named_fault c None = Ok c
named_fault c (Some name) = Err (fault.DuplicateMixedName name)

judged : Content → Result Content ContentFault
judged c = if nat_lt 1024 (occurrences c) then Err fault.PositionsOver else named_fault c (repeated_in c)

answered : Option Content → Result Content ContentFault
answered None = Err fault.Malformed
answered (Some c) = judged c

answer_of : Chars → Result Content ContentFault
answer_of t = if nat_lt 64 (most_open 0 t) then Err fault.GroupTooDeep else answered (content_of t)

flat_answer : (t : Chars) → (IsTooDeep t → ⊥) → (o : Option Content) → content_of t ≡ o → answer_of t ≡ answered o
unfolding answer_of
flat_answer t d o e =
    let l : most_open 0 t ≤ 64 = omega (arith, d) in
    ap (λ b. if b then Err fault.GroupTooDeep else answered (content_of t)) (le-ltb 64 (most_open 0 t) l) ∙ ap answered e

deep_answer : (t : Chars) → IsTooDeep t → answer_of t ≡ Err fault.GroupTooDeep
unfolding answer_of
deep_answer t d = ap (λ b. if b then Err fault.GroupTooDeep else answered (content_of t)) (lt-ltb 64 (most_open 0 t) d)

over_judged : (c : Content) → 1024 < occurrences c → judged c ≡ Err fault.PositionsOver
unfolding judged
over_judged c l = ap (λ b. if b then Err fault.PositionsOver else named_fault c (repeated_in c)) (lt-ltb 1024 (occurrences c) l)

few_judged : (c : Content) (o : Option Chars) → occurrences c ≤ 1024 → repeated_in c ≡ o → judged c ≡ named_fault c o
unfolding judged
few_judged c o l e =
    ap (λ b. if b then Err fault.PositionsOver else named_fault c (repeated_in c)) (le-ltb 1024 (occurrences c) l) ∙ ap (named_fault c) e

pub nothing_read : (t : Chars) → ((c : Content) → Spells t c → ⊥) → (o : Option Content) → content_of t ≡ o → o ≡ None
nothing_read t none None e = refl
nothing_read t none (Some c) e = absurd (none c (content_sound t c e))

parses_answer : (t : Chars) (r : Result Content ContentFault) → Parses t r → (r ≡ answer_of t) ⊎ (r ≡ Err fault.NoMemory)
unfolding answered named_fault
parses_answer t (Ok c) a =
    let f = few c a.2 in
    inl (sym (flat_answer t a.0 (Some c) (content_complete t c a.1 a.0) ∙ few_judged c None f.0 f.1))
parses_answer t (Err fault.GroupTooDeep) a = inl (sym (deep_answer t a))
parses_answer t (Err fault.Malformed) a =
    inl (sym (flat_answer t a.0 None (nothing_read t a.1 (content_of t) refl)))
parses_answer t (Err fault.PositionsOver) a =
    inl (sym (flat_answer t a.0 (Some a.1) (content_complete t a.1 a.2 a.0) ∙ over_judged a.1 a.3))
parses_answer t (Err (fault.DuplicateMixedName name)) a =
    inl (sym (flat_answer t a.0 (Some (Mixed a.1)) (content_complete t (Mixed a.1) a.2 a.0) ∙ few_judged (Mixed a.1) (Some name) a.3 a.4))
parses_answer t (Err fault.NoMemory) a = inr refl

pub same_answer : (t : Chars) (r s : Result Content ContentFault) → Parses t r → Parses t s → (r ≡ s) ⊎ ((r ≡ Err fault.NoMemory) ⊎ (s ≡ Err fault.NoMemory))
same_answer t r s a b = elim (parses_answer t r a) [
  | inl e ↦ elim (parses_answer t s b) [ inl f ↦ inl (e ∙ sym f) | inr f ↦ inr (inr f) ]
  | inr e ↦ inr (inl e)
]

-- a text without too many open parentheses spells one content at most
pub one_content : (t : Chars) (c e : Content) → (IsTooDeep t → ⊥) → Spells t c → Spells t e → c ≡ e
one_content t c e d s r = (let f : Some c ≡ Some e = sym (content_complete t c s d) ∙ content_complete t e r d in cc)

-- where a proper content is spelled it is the answer, if memory is enough
pub parses_spelled : (t : Chars) (c : Content) (r : Result Content ContentFault) → IsProper c → Spells t c → Parses t r → (r ≡ Ok c) ⊎ (r ≡ Err fault.NoMemory)
parses_spelled t c r p s a =
    elim (same_answer t r (Ok c) a (not_deep t c s p, s, p)) [
      | inl e ↦ inl e
      | inr (inl e) ↦ inr e
      | inr (inr e) ↦ (let z : ⊥ = (let f : Ok c ≡ Err fault.NoMemory = e in cc) in absurd z)
    ]

pub parses_flat : (c : Content) (r : Result Content ContentFault) → IsProper c → Parses (flat c) r → (r ≡ Ok c) ⊎ (r ≡ Err fault.NoMemory)
parses_flat c r p a = parses_spelled (flat c) c r p (flat_spells c p) a
