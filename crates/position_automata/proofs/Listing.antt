-- What is listed and what is owed, step by step.
use Rattle.std.proofs.Common.{◌≡◌, List, [], ◌∷◌, ◌++◌, ℕ, ◌+◌, Bool, true, false, ◌&&◌, inl, inr, refl, sym, ap, ◌∙◌, subst, arith, Contains}
use Rattle.std.specs.Prelude.{if◌then◌else◌}
use Rattle.std.proofs.lemmas.List.{append_assoc, append-nil}
use Rattle.std.proofs.lemmas.List.Elements.{Contains-append_left, Contains-append_right, Contains-append_cases}
use Rattle.content_models.specs.declared.content.Occurs.{Occurs}
use Rattle.content_models.specs.declared.content.Occurs.TheVariants.{Once, Opt, Star}
use Rattle.content_models.specs.declared.content.Occurs.TheVariants as sign
use Rattle.content_models.specs.Model.{Chars, occurring}
use Rattle.content_models.specs.Re.{Re, Cat}
use Rattle.position_automata.specs.Marked.{count}
use Rattle.position_automata.specs.Owed.{spread, owing, between, kept, settled, SamePairs, IsListed}
use Rattle.position_automata.specs.Places.{firsts, lasts, edges, product, IsEnds}
use Rattle.position_automata.specs.declared.walk.Ends.{Ends}
use Rattle.position_automata.proofs.Lists.{product-to, product-from}
use Rattle.position_automata.proofs.Meaning.{member_of, contains_of}
use Rattle.position_automata.proofs.Steps.{plus-zero}

abbrev pub Within : {A : Type 0} → List A → List A → Type 0
Within {A} xs ys = (x : A) → Contains xs x → Contains ys x

in-left : {A : Type 0} (xs ys : List A) → Within xs (xs ++ ys)
in-left xs ys x c = Contains-append_left xs ys x c

in-right : {A : Type 0} (xs ys : List A) → Within ys (xs ++ ys)
in-right xs ys x c = Contains-append_right xs ys x c

both : {A : Type 0} (xs ys zs : List A) → Within xs zs → Within ys zs → Within (xs ++ ys) zs
both xs ys zs f g x c = elim (Contains-append_cases xs ys x c) [ inl a ↦ f x a | inr b ↦ g x b ]

left-of : {A : Type 0} (xs ys zs : List A) → Within (xs ++ ys) zs → Within xs zs
left-of xs ys zs f x c = f x (in-left xs ys x c)

right-of : {A : Type 0} (xs ys zs : List A) → Within (xs ++ ys) zs → Within ys zs
right-of xs ys zs f x c = f x (in-right xs ys x c)

none : {A : Type 0} (zs : List A) → Within [] zs
none zs x c = absurd (omega (arith, c.1))

-- one list of pairs within another, as two facts for each pair
same_of : (xs ys : List (ℕ × ℕ)) → Within xs ys → Within ys xs → SamePairs xs ys
same_of xs ys f g p = (f p, g p)

there : (xs ys : List (ℕ × ℕ)) → SamePairs xs ys → Within xs ys
there xs ys s p = (s p).0

back_again : (xs ys : List (ℕ × ℕ)) → SamePairs xs ys → Within ys xs
back_again xs ys s p = (s p).1

in_product-to : (xs ys : List ℕ) (p : ℕ × ℕ) → Contains (product xs ys) p → Contains xs p.0 × Contains ys p.1
in_product-to xs ys p c =
    let m = product-to xs ys p.0 p.1 (member_of (product xs ys) p c.0 c.1 c.2) in
    (contains_of xs p.0 m.0, contains_of ys p.1 m.1)

in_product-from : (xs ys : List ℕ) (p : ℕ × ℕ) → Contains xs p.0 → Contains ys p.1 → Contains (product xs ys) p
in_product-from xs ys p c d =
    contains_of (product xs ys) p (product-from xs ys p.0 p.1 (member_of xs p.0 c.0 c.1 c.2) (member_of ys p.1 d.0 d.1 d.2))

wider : (xs ys zs ws : List ℕ) → Within xs zs → Within ys ws → Within (product xs ys) (product zs ws)
wider xs ys zs ws f g p c = let d = in_product-to xs ys p c in in_product-from zs ws p (f p.0 d.0) (g p.1 d.1)

spread-append : (xs ys : List (List ℕ × List ℕ)) → spread (xs ++ ys) ≡ spread xs ++ spread ys
spread-append [] ys = refl
spread-append (x ∷ xs) ys = ap (λ z. product x.0 x.1 ++ z) (spread-append xs ys) ∙ sym (append_assoc (product x.0 x.1) (spread xs) (spread ys))

-- two walks, one after the other
after : (old e one a f two b : List (ℕ × ℕ)) → SamePairs (one ++ a) (old ++ e) → SamePairs (two ++ b) (one ++ f) → SamePairs (two ++ (a ++ b)) (old ++ (e ++ f))
after old e one a f two b s t = same_of (two ++ (a ++ b)) (old ++ (e ++ f)) forth back
  where
    forth : Within (two ++ (a ++ b)) (old ++ (e ++ f))
    forth =
        let all = old ++ (e ++ f) in
        let wef : Within (e ++ f) all = in-right old (e ++ f) in
        let woe : Within (old ++ e) all = both old e all (in-left old (e ++ f)) (left-of e f all wef) in
        let wa : Within (one ++ a) all = λ p c. woe p (there (one ++ a) (old ++ e) s p c) in
        let wf : Within (one ++ f) all = both one f all (left-of one a all wa) (right-of e f all wef) in
        let wb : Within (two ++ b) all = λ p c. wf p (there (two ++ b) (one ++ f) t p c) in
        both two (a ++ b) all (left-of two b all wb) (both a b all (right-of one a all wa) (right-of two b all wb))

    back : Within (old ++ (e ++ f)) (two ++ (a ++ b))
    back =
        let all = two ++ (a ++ b) in
        let wab : Within (a ++ b) all = in-right two (a ++ b) in
        let wb : Within (two ++ b) all = both two b all (in-left two (a ++ b)) (right-of a b all wab) in
        let wf : Within (one ++ f) all = λ p c. wb p (back_again (two ++ b) (one ++ f) t p c) in
        let wa : Within (one ++ a) all = both one a all (left-of one f all wf) (left-of a b all wab) in
        let woe : Within (old ++ e) all = λ p c. wa p (back_again (one ++ a) (old ++ e) s p c) in
        both old (e ++ f) all (left-of old e all woe) (both e f all (right-of old e all woe) (right-of one f all wf))

-- what is owed is listed in part, and more is owed or listed
forth-settling : (old e two a b x1 y1 x2 y2 x3 y3 more : List (ℕ × ℕ)) → Within (two ++ (a ++ b)) (old ++ e)
    → Within (x1 ++ y1) a → Within (x2 ++ y2) b → Within (x3 ++ y3) more
    → Within ((two ++ ((x1 ++ x2) ++ x3)) ++ ((y1 ++ y2) ++ y3)) (old ++ (e ++ more))
forth-settling old e two a b x1 y1 x2 y2 x3 y3 more s t1 t2 t3 =
    let rhs = old ++ (e ++ more) in
    let wem : Within (e ++ more) rhs = in-right old (e ++ more) in
    let woe : Within (old ++ e) rhs = both old e rhs (in-left old (e ++ more)) (left-of e more rhs wem) in
    let ws : Within (two ++ (a ++ b)) rhs = λ p c. woe p (s p c) in
    let wab : Within (a ++ b) rhs = right-of two (a ++ b) rhs ws in
    let w1 : Within (x1 ++ y1) rhs = λ p c. left-of a b rhs wab p (t1 p c) in
    let w2 : Within (x2 ++ y2) rhs = λ p c. right-of a b rhs wab p (t2 p c) in
    let w3 : Within (x3 ++ y3) rhs = λ p c. right-of e more rhs wem p (t3 p c) in
    both (two ++ ((x1 ++ x2) ++ x3)) ((y1 ++ y2) ++ y3) rhs
    (both two ((x1 ++ x2) ++ x3) rhs (left-of two (a ++ b) rhs ws)
    (both (x1 ++ x2) x3 rhs (both x1 x2 rhs (left-of x1 y1 rhs w1) (left-of x2 y2 rhs w2)) (left-of x3 y3 rhs w3)))
    (both (y1 ++ y2) y3 rhs (both y1 y2 rhs (right-of x1 y1 rhs w1) (right-of x2 y2 rhs w2)) (right-of x3 y3 rhs w3))

back-settling : (old e two a b x1 y1 x2 y2 x3 y3 more : List (ℕ × ℕ)) → Within (old ++ e) (two ++ (a ++ b))
    → Within a (x1 ++ y1) → Within b (x2 ++ y2) → Within more (x3 ++ y3)
    → Within (old ++ (e ++ more)) ((two ++ ((x1 ++ x2) ++ x3)) ++ ((y1 ++ y2) ++ y3))
back-settling old e two a b x1 y1 x2 y2 x3 y3 more s t1 t2 t3 =
    let lhs = (two ++ ((x1 ++ x2) ++ x3)) ++ ((y1 ++ y2) ++ y3) in
    let wl : Within (two ++ ((x1 ++ x2) ++ x3)) lhs = in-left (two ++ ((x1 ++ x2) ++ x3)) ((y1 ++ y2) ++ y3) in
    let wr : Within ((y1 ++ y2) ++ y3) lhs = in-right (two ++ ((x1 ++ x2) ++ x3)) ((y1 ++ y2) ++ y3) in
    let wx : Within ((x1 ++ x2) ++ x3) lhs = right-of two ((x1 ++ x2) ++ x3) lhs wl in
    let wxx : Within (x1 ++ x2) lhs = left-of (x1 ++ x2) x3 lhs wx in
    let wyy : Within (y1 ++ y2) lhs = left-of (y1 ++ y2) y3 lhs wr in
    let w1 : Within (x1 ++ y1) lhs = both x1 y1 lhs (left-of x1 x2 lhs wxx) (left-of y1 y2 lhs wyy) in
    let w2 : Within (x2 ++ y2) lhs = both x2 y2 lhs (right-of x1 x2 lhs wxx) (right-of y1 y2 lhs wyy) in
    let w3 : Within (x3 ++ y3) lhs = both x3 y3 lhs (right-of (x1 ++ x2) x3 lhs wx) (right-of (y1 ++ y2) y3 lhs wr) in
    let wa : Within a lhs = λ p c. w1 p (t1 p c) in
    let wb : Within b lhs = λ p c. w2 p (t2 p c) in
    let wm : Within more lhs = λ p c. w3 p (t3 p c) in
    let ws : Within (two ++ (a ++ b)) lhs = both two (a ++ b) lhs (left-of two ((x1 ++ x2) ++ x3) lhs wl) (both a b lhs wa wb) in
    let woe : Within (old ++ e) lhs = λ p c. ws p (s p c) in
    both old (e ++ more) lhs (left-of old e lhs woe) (both e more lhs (right-of old e lhs woe) wm)

settling : (old e two a b x1 y1 x2 y2 x3 y3 more : List (ℕ × ℕ)) → SamePairs (two ++ (a ++ b)) (old ++ e)
    → SamePairs (x1 ++ y1) a → SamePairs (x2 ++ y2) b → SamePairs (x3 ++ y3) more
    → SamePairs ((two ++ ((x1 ++ x2) ++ x3)) ++ ((y1 ++ y2) ++ y3)) (old ++ (e ++ more))
settling old e two a b x1 y1 x2 y2 x3 y3 more s t1 t2 t3 =
    same_of ((two ++ ((x1 ++ x2) ++ x3)) ++ ((y1 ++ y2) ++ y3)) (old ++ (e ++ more))
    (forth-settling old e two a b x1 y1 x2 y2 x3 y3 more (there (two ++ (a ++ b)) (old ++ e) s)
    (there (x1 ++ y1) a t1) (there (x2 ++ y2) b t2) (there (x3 ++ y3) more t3))
    (back-settling old e two a b x1 y1 x2 y2 x3 y3 more (back_again (two ++ (a ++ b)) (old ++ e) s)
    (back_again (x1 ++ y1) a t1) (back_again (x2 ++ y2) b t2) (back_again (x3 ++ y3) more t3))

same_by : (xs ys : List (ℕ × ℕ)) → xs ≡ ys → SamePairs xs ys
same_by xs ys e p = (subst (λ (k : List (ℕ × ℕ)). Contains k p) e, subst (λ (k : List (ℕ × ℕ)). Contains k p) (sym e))

-- a product that is kept or listed
split-owed : (b : Bool) (ps : List (List ℕ × List ℕ)) → (if b then [] else spread ps) ++ spread (if b then ps else []) ≡ spread ps
split-owed true ps = refl
split-owed false ps = append-nil (spread ps)

split-between : (b : Bool) (xs ys : List ℕ) → (if b then [] else product xs ys) ++ spread (between b xs ys) ≡ product xs ys
split-between false xs ys = append-nil (product xs ys)
split-between true [] ys = refl
split-between true (x ∷ xs) ys = append-nil (product (x ∷ xs) ys)

spread-kept : (a b : Ends)
    → spread (kept a b)
    ≡ (spread (if b.nullable then a.owed.items else []) ++ spread (if a.nullable then b.owed.items else [])) ++ spread (between (a.nullable && b.nullable) a.last.items b.first.items)
spread-kept a b =
    let x = if b.nullable then a.owed.items else [] in
    let y = if a.nullable then b.owed.items else [] in
    let z = between (a.nullable && b.nullable) a.last.items b.first.items in
    spread-append (x ++ y) z ∙ ap (λ k. k ++ spread z) (spread-append x y)

kept-left : (m n : Bool) (owed : List (List ℕ × List ℕ)) (al af bl bf : List ℕ) → Within (spread owed) (product al af)
    → Within (spread (if n then owed else [])) (product (bl ++ (if n then al else [])) (af ++ (if m then bf else [])))
kept-left m true owed al af bl bf h p c =
    wider al af (bl ++ al) (af ++ (if m then bf else [])) (in-right bl al) (in-left af (if m then bf else [])) p (h p c)
kept-left m false owed al af bl bf h p c = none _ p c

kept-right : (m n : Bool) (owed : List (List ℕ × List ℕ)) (al af bl bf : List ℕ) → Within (spread owed) (product bl bf)
    → Within (spread (if m then owed else [])) (product (bl ++ (if n then al else [])) (af ++ (if m then bf else [])))
kept-right true n owed al af bl bf h p c =
    wider bl bf (bl ++ (if n then al else [])) (af ++ bf) (in-left bl (if n then al else [])) (in-right af bf) p (h p c)
kept-right false n owed al af bl bf h p c = none _ p c

kept-between : (m n : Bool) (al af bl bf : List ℕ)
    → Within (spread (between (m && n) al bf)) (product (bl ++ (if n then al else [])) (af ++ (if m then bf else [])))
kept-between false n al af bl bf p c = none _ p c
kept-between true false al af bl bf p c = none _ p c
kept-between true true [] af bl bf p c = none _ p c
kept-between true true (x ∷ xs) af bl bf p c =
    wider (x ∷ xs) bf (bl ++ x ∷ xs) (af ++ bf) (in-right bl (x ∷ xs)) (in-right af bf) p
    (there (product (x ∷ xs) bf ++ []) (product (x ∷ xs) bf) (same_by _ _ (append-nil (product (x ∷ xs) bf))) p c)

-- the products at the ends of two parts in order
abbrev at_ends : Ends → Ends → List (ℕ × ℕ)
at_ends a b = product (b.last.items ++ (if b.nullable then a.last.items else [])) (a.first.items ++ (if a.nullable then b.first.items else []))

kept-within : (a b : Ends) → Within (spread a.owed.items) (product a.last.items a.first.items) → Within (spread b.owed.items) (product b.last.items b.first.items)
    → Within (spread (kept a b)) (at_ends a b)
kept-within a b g h p c =
    let ya = spread (if b.nullable then a.owed.items else []) in
    let yb = spread (if a.nullable then b.owed.items else []) in
    let yc = spread (between (a.nullable && b.nullable) a.last.items b.first.items) in
    both (ya ++ yb) yc (at_ends a b)
    (both ya yb (at_ends a b) (kept-left a.nullable b.nullable a.owed.items a.last.items a.first.items b.last.items b.first.items g)
    (kept-right a.nullable b.nullable b.owed.items a.last.items a.first.items b.last.items b.first.items h))
    (kept-between a.nullable b.nullable a.last.items a.first.items b.last.items b.first.items) p
    (subst (λ (k : List (ℕ × ℕ)). Contains k p) (spread-kept a b) c)

joined : (a b : Ends) (r s old one two : List (ℕ × ℕ)) → SamePairs (one ++ spread a.owed.items) (old ++ r) → SamePairs (two ++ spread b.owed.items) (one ++ s)
    → SamePairs ((two ++ settled a b) ++ spread (kept a b)) (old ++ ((r ++ s) ++ product a.last.items b.first.items))
joined a b r s old one two A B =
    let ya = spread (if b.nullable then a.owed.items else []) in
    let yb = spread (if a.nullable then b.owed.items else []) in
    let yc = spread (between (a.nullable && b.nullable) a.last.items b.first.items) in
    subst (λ (k : List (ℕ × ℕ)). SamePairs ((two ++ settled a b) ++ k) (old ++ ((r ++ s) ++ product a.last.items b.first.items))) (sym (spread-kept a b))
    (settling old (r ++ s) two (spread a.owed.items) (spread b.owed.items)
    (if b.nullable then [] else spread a.owed.items) ya (if a.nullable then [] else spread b.owed.items) yb
    (if a.nullable && b.nullable then [] else product a.last.items b.first.items) yc (product a.last.items b.first.items)
    (after old r one (spread a.owed.items) s two (spread b.owed.items) A B)
    (same_by _ _ (split-owed b.nullable a.owed.items)) (same_by _ _ (split-owed a.nullable b.owed.items))
    (same_by _ _ (split-between (a.nullable && b.nullable) a.last.items b.first.items)))

pub listed-join : (a b e : Ends) (r s old one two new : List (ℕ × ℕ)) → IsListed r old one a → IsListed s one two b
    → e.first.items ≡ a.first.items ++ (if a.nullable then b.first.items else [])
    → e.last.items ≡ b.last.items ++ (if b.nullable then a.last.items else [])
    → e.owed.items ≡ kept a b → new ≡ two ++ settled a b → IsListed ((r ++ s) ++ product a.last.items b.first.items) old new e
listed-join a b e r s old one two new A B f l o n =
    let ends : product e.last.items e.first.items ≡ at_ends a b =
    ap (λ k. product k e.first.items) l ∙ ap (product (b.last.items ++ (if b.nullable then a.last.items else []))) f in
    record {
      all = subst (λ (k : List (ℕ × ℕ)). SamePairs k (old ++ ((r ++ s) ++ product a.last.items b.first.items)))
          (ap (λ k. (two ++ settled a b) ++ spread k) (sym o) ∙ ap (λ k. k ++ spread e.owed.items) (sym n)) (joined a b r s old one two A.all B.all);
      back = λ p c. subst (λ (k : List (ℕ × ℕ)). Contains k p) (sym ends)
          (kept-within a b A.back B.back p (subst (λ (k : List (List ℕ × List ℕ)). Contains (spread k) p) o c));
    }

pub listed-either : (a b e : Ends) (r s old one two : List (ℕ × ℕ)) → IsListed r old one a → IsListed s one two b
    → e.first.items ≡ a.first.items ++ b.first.items → e.last.items ≡ a.last.items ++ b.last.items → e.owed.items ≡ a.owed.items ++ b.owed.items
    → IsListed (r ++ s) old two e
listed-either a b e r s old one two A B f l o =
    let owes : spread e.owed.items ≡ spread a.owed.items ++ spread b.owed.items = ap spread o ∙ spread-append a.owed.items b.owed.items in
    let ends : product e.last.items e.first.items ≡ product (a.last.items ++ b.last.items) (a.first.items ++ b.first.items) =
    ap (λ k. product k e.first.items) l ∙ ap (product (a.last.items ++ b.last.items)) f in
    let all = product (a.last.items ++ b.last.items) (a.first.items ++ b.first.items) in
    record {
      all = subst (λ (k : List (ℕ × ℕ)). SamePairs (two ++ k) (old ++ (r ++ s))) (sym owes)
          (after old r one (spread a.owed.items) s two (spread b.owed.items) A.all B.all);
      back = λ p c. subst (λ (k : List (ℕ × ℕ)). Contains k p) (sym ends)
          (both (spread a.owed.items) (spread b.owed.items) all
          (λ q d. wider a.last.items a.first.items (a.last.items ++ b.last.items) (a.first.items ++ b.first.items)
          (in-left a.last.items b.last.items) (in-left a.first.items b.first.items) q (A.back q d))
          (λ q d. wider b.last.items b.first.items (a.last.items ++ b.last.items) (a.first.items ++ b.first.items)
          (in-right a.last.items b.last.items) (in-right a.first.items b.first.items) q (B.back q d)) p
          (subst (λ (k : List (ℕ × ℕ)). Contains k p) owes c));
    }

pub listed-none : (e : Ends) (old : List (ℕ × ℕ)) → e.owed.items ≡ [] → IsListed [] old old e
listed-none e old o = record {
  all = same_by _ _ (ap (λ k. old ++ spread k) o);
  back = λ p c. none (product e.last.items e.first.items) p (subst (λ (k : List (List ℕ × List ℕ)). Contains (spread k) p) o c);
}

-- the ends of a part, with another sign of emptiness
listed-same : (e f : Ends) (r old new : List (ℕ × ℕ)) → IsListed r old new e → f.first.items ≡ e.first.items → f.last.items ≡ e.last.items
    → f.owed.items ≡ e.owed.items → IsListed r old new f
listed-same e f r old new I a b o = record {
  all = subst (λ (k : List (List ℕ × List ℕ)). SamePairs (new ++ spread k) (old ++ r)) (sym o) I.all;
  back = λ p c. subst (λ (k : List (ℕ × ℕ)). Contains k p) (sym (ap (λ k. product k f.first.items) b ∙ ap (product e.last.items) a))
      (I.back p (subst (λ (k : List (List ℕ × List ℕ)). Contains (spread k) p) o c));
}

-- a loop owes all pairs of its ends
looping : (r old new owed way : List (ℕ × ℕ)) → Within owed way → SamePairs (new ++ owed) (old ++ r) → SamePairs (new ++ way) (old ++ (r ++ way))
looping r old new owed way h s = same_of (new ++ way) (old ++ (r ++ way)) forth back
  where
    forth : Within (new ++ way) (old ++ (r ++ way))
    forth =
        let all = old ++ (r ++ way) in
        let w : Within (r ++ way) all = in-right old (r ++ way) in
        let wo : Within (old ++ r) all = both old r all (in-left old (r ++ way)) (left-of r way all w) in
        both new way all (λ p c. wo p (there (new ++ owed) (old ++ r) s p (in-left new owed p c))) (right-of r way all w)

    back : Within (old ++ (r ++ way)) (new ++ way)
    back =
        let all = new ++ way in
        let w : Within (new ++ owed) all = both new owed all (in-left new way) (λ p c. in-right new way p (h p c)) in
        let wo : Within (old ++ r) all = λ p c. w p (back_again (new ++ owed) (old ++ r) s p c) in
        both old (r ++ way) all (left-of old r all wo) (both r way all (right-of old r all wo) (in-right new way))

listed-loop : (e f : Ends) (r old new : List (ℕ × ℕ)) → IsListed r old new e → f.first.items ≡ e.first.items → f.last.items ≡ e.last.items
    → f.owed.items ≡ (e.last.items, e.first.items) ∷ [] → IsListed (r ++ product e.last.items e.first.items) old new f
listed-loop e f r old new I a b o =
    let way = product e.last.items e.first.items in
    let owes : spread f.owed.items ≡ way = ap spread o ∙ append-nil way in
    record {
      all = subst (λ (k : List (ℕ × ℕ)). SamePairs (new ++ k) (old ++ (r ++ way))) (sym owes) (looping r old new (spread e.owed.items) way I.back I.all);
      back = λ p c. subst (λ (k : List (ℕ × ℕ)). Contains k p) (owes ∙ sym (ap (λ k. product k f.first.items) b ∙ ap (product e.last.items) a)) c;
    }

looped : (k : ℕ) (r : Re Chars) (e : Ends) → IsEnds k r e → product e.last.items e.first.items ≡ product (lasts k r) (firsts k r)
looped k r e I = ap (λ x. product x e.first.items) I.last_is ∙ ap (product (lasts k r)) I.first_is

pub listed-occurring : (k : ℕ) (r : Re Chars) (m : Occurs) (e f : Ends) (old new : List (ℕ × ℕ)) → IsEnds k r e → IsListed (edges k r) old new e
    → f.first.items ≡ e.first.items → f.last.items ≡ e.last.items → f.owed.items ≡ owing m e.last.items e.first.items e.owed.items
    → IsListed (edges k (occurring m r)) old new f
listed-occurring k r Once e f old new E I a b o = listed-same e f (edges k r) old new I a b o
listed-occurring k r Opt e f old new E I a b o =
    subst (λ i. IsListed (edges i r) old new f) (plus-zero k) (listed-same e f (edges k r) old new I a b o)
listed-occurring k r Star e f old new E I a b o =
    subst (λ i. IsListed (edges i r ++ product (lasts i r) (firsts i r)) old new f) (plus-zero k)
    (subst (λ (x : List (ℕ × ℕ)). IsListed (edges k r ++ x) old new f) (looped k r e E) (listed-loop e f (edges k r) old new I a b o))
listed-occurring k r sign.Plus e f old new E I a b o =
    subst (λ (x : List (ℕ × ℕ)). IsListed (edges k r ++ x) old new f) (looped k r e E) (listed-loop e f (edges k r) old new I a b o)

pub listed-cat : (k : ℕ) (r s : Re Chars) (a b e : Ends) (old one two new : List (ℕ × ℕ)) → IsEnds k r a → IsEnds (k + count r) s b
    → IsListed (edges k r) old one a → IsListed (edges (k + count r) s) one two b
    → e.first.items ≡ a.first.items ++ (if a.nullable then b.first.items else [])
    → e.last.items ≡ b.last.items ++ (if b.nullable then a.last.items else [])
    → e.owed.items ≡ kept a b → new ≡ two ++ settled a b → IsListed (edges k (Cat r s)) old new e
listed-cat k r s a b e old one two new A B I J f l o n =
    subst (λ (x : List (ℕ × ℕ)). IsListed ((edges k r ++ edges (k + count r) s) ++ x) old new e)
    (ap (λ x. product x b.first.items) A.last_is ∙ ap (product (lasts k r)) B.first_is)
    (listed-join a b e (edges k r) (edges (k + count r) s) old one two new I J f l o n)

-- once all that is owed is listed, nothing else is
pub listed-whole : (r new found more : List (ℕ × ℕ)) (e : Ends) → IsListed r [] new e → found ≡ (new ++ spread e.owed.items) ++ more → SamePairs found (r ++ more)
listed-whole r new found more e I f =
    let now = new ++ spread e.owed.items in
    subst (λ (k : List (ℕ × ℕ)). SamePairs k (r ++ more)) (sym f)
    (same_of (now ++ more) (r ++ more)
    (both now more (r ++ more) (λ p c. in-left r more p (there now r I.all p c)) (in-right r more))
    (both r more (now ++ more) (λ p c. in-left now more p (back_again now r I.all p c)) (in-right now more)))
