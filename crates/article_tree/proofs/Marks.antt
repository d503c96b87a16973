-- Marks in texts.
use Rattle.std.proofs.Common.{◌≡◌, ◌∙◌, ℕ, suc, ◌+◌, ◌<◌, ◌≤◌, List, [], ◌∷◌, ◌++◌, length, drop, Bool, true, false, eqb, ◌&&◌, Some, None, refl, ap, sym, subst, arith, append_assoc, length-append, codes}
use Rattle.std.specs.Prelude.{nat_eq, option_map}
use Rattle.std.specs.List.{starts_with}
use Rattle.std.proofs.Math.Seq.{drop-append_seam}
use Rattle.std.proofs.lemmas.Bool.{cond-true, cond-false, and_parts, eqb-true, false≢true, false_from_ne_true}
use Rattle.dtd_scanner.specs.Items.{Holds, EndsIn}
use Rattle.dtd_scanner.proofs.Runs.{starts_found, starts_here}
use Rattle.text_fronts.proofs.Fronts.{choose, map_some}
use Rattle.article_tree.specs.Taking.{behind, up_to}

never : (b : Bool) → (b && false) ≡ false
never true = refl
never false = refl

-- ---- a mark at the front

pub behind_found : (mark text rest : List ℕ) → behind mark text ≡ Some rest → text ≡ mark ++ rest
behind_found mark text rest e = choose (text ≡ mark ++ rest) (starts_with nat_eq text mark) (Some (drop (length mark) text)) None rest e
    (λ begins f. let same : drop (length mark) text ≡ rest = cc in starts_found mark text begins ∙ ap (λ t. mark ++ t) same) (λ none f. cc)

pub behind_here : (mark rest : List ℕ) → behind mark (mark ++ rest) ≡ Some rest
behind_here mark rest = cond-true (starts_with nat_eq (mark ++ rest) mark) (Some (drop (length mark) (mark ++ rest))) None (starts_here mark rest) ∙ ap Some (drop-append_seam mark rest)

-- ---- the first of a mark

-- no such mark stands before the first
not_holding : (mark : List ℕ) (c : ℕ) (cs before rest : List ℕ) → cs ≡ before ++ (mark ++ rest) → starts_with nat_eq (c ∷ cs) mark ≡ false → (¬ Holds before mark) → ¬ Holds (c ∷ before) mark
not_holding mark c cs before rest split none others ([], after, e) =
    let whole : c ∷ cs ≡ mark ++ (after ++ (mark ++ rest)) = ap (λ t. c ∷ t) split ∙ ap (λ t. t ++ (mark ++ rest)) e ∙ append_assoc mark after (mark ++ rest) in
    false≢true (sym none ∙ ap (λ (t : List ℕ). starts_with nat_eq t mark) whole ∙ starts_here mark (after ++ (mark ++ rest)))
not_holding mark c cs before rest split none others (d ∷ ds, after, e) = others (ds, after, cc)

pub nil_holds : (mark : List ℕ) → 0 < length mark → ¬ Holds [] mark
nil_holds [] some holds = absurd (omega arith)
nil_holds (m ∷ mark) some ([], after, e) = cc
nil_holds (m ∷ mark) some (d ∷ ds, after, e) = cc

pub up_to_found : (mark text : List ℕ) (x : List ℕ × List ℕ) → 0 < length mark → up_to mark text ≡ Some x → (text ≡ x.0 ++ (mark ++ x.1)) × (¬ Holds x.0 mark)
up_to_found mark [] x some e = cc
up_to_found mark (c ∷ cs) x some e =
    choose ((c ∷ cs ≡ x.0 ++ (mark ++ x.1)) × (¬ Holds x.0 mark)) (starts_with nat_eq (c ∷ cs) mark) (Some ([], drop (length mark) (c ∷ cs))) (option_map (λ y. (c ∷ y.0, y.1)) (up_to mark cs)) x e
    (λ begins f.
    let same : ([], drop (length mark) (c ∷ cs)) ≡ x = cc in
    subst (λ (x : List ℕ × List ℕ). (c ∷ cs ≡ x.0 ++ (mark ++ x.1)) × (¬ Holds x.0 mark)) same (starts_found mark (c ∷ cs) begins, nil_holds mark some))
    (λ none f.
    let h = map_some (λ (y : List ℕ × List ℕ). (c ∷ y.0, y.1)) (up_to mark cs) x f in
    let k = up_to_found mark cs h.0 some h.1 in
    subst (λ (x : List ℕ × List ℕ). (c ∷ cs ≡ x.0 ++ (mark ++ x.1)) × (¬ Holds x.0 mark)) h.2 (ap (λ t. c ∷ t) k.0, not_holding mark c cs h.0.0 h.0.1 k.0 none k.1))

module _ (m : ℕ) (ms : List ℕ) (P : List ℕ → Type 0) (further : (c : ℕ) (b : List ℕ) → P (c ∷ b) → P b)
    (here : (c : ℕ) (b rest : List ℕ) → P (c ∷ b) → starts_with nat_eq ((c ∷ b) ++ ((m ∷ ms) ++ rest)) (m ∷ ms) ≡ false) where
  up_to_first : (before rest : List ℕ) → P before → up_to (m ∷ ms) (before ++ ((m ∷ ms) ++ rest)) ≡ Some (before, rest)
  up_to_first [] rest is =
      cond-true (starts_with nat_eq ((m ∷ ms) ++ rest) (m ∷ ms)) (Some ([], drop (length (m ∷ ms)) ((m ∷ ms) ++ rest))) (option_map (λ y. (m ∷ y.0, y.1)) (up_to (m ∷ ms) (ms ++ rest))) (starts_here (m ∷ ms) rest)
      ∙ ap (λ (t : List ℕ). Some ([], t)) (drop-append_seam (m ∷ ms) rest)
  up_to_first (c ∷ before) rest is =
      cond-false (starts_with nat_eq ((c ∷ before) ++ ((m ∷ ms) ++ rest)) (m ∷ ms)) (Some ([], drop (length (m ∷ ms)) ((c ∷ before) ++ ((m ∷ ms) ++ rest)))) (option_map (λ y. (c ∷ y.0, y.1)) (up_to (m ∷ ms) (before ++ ((m ∷ ms) ++ rest)))) (here c before rest is)
      ∙ ap (option_map (λ (y : List ℕ × List ℕ). (c ∷ y.0, y.1))) (up_to_first before rest (further c before is))

pub holds_further : (mark : List ℕ) (c : ℕ) (b : List ℕ) → (¬ Holds (c ∷ b) mark) → ¬ Holds b mark
holds_further mark c b none (before, after, e) = none (c ∷ before, after, ap (λ t. c ∷ t) e)

ends_further : (mark : List ℕ) (c : ℕ) (b : List ℕ) → (¬ EndsIn (c ∷ b) mark) → ¬ EndsIn b mark
ends_further mark c b none (before, e) = none (c ∷ before, ap (λ t. c ∷ t) e)

held : (mark text : List ℕ) → (¬ Holds text mark) → starts_with nat_eq text mark ≡ false
held mark text none = false_from_ne_true (starts_with nat_eq text mark) (λ begins. none ([], drop (length mark) text, starts_found mark text begins))

section_here : (c : ℕ) (b rest : List ℕ) → (¬ Holds (c ∷ b) (codes "]]>")) → starts_with nat_eq ((c ∷ b) ++ (codes "]]>" ++ rest)) (codes "]]>") ≡ false
section_here c [] rest none = never (eqb 93 c)
section_here c (d ∷ []) rest none = ap (λ (b : Bool). eqb 93 c && b) (never (eqb 93 d)) ∙ never (eqb 93 c)
section_here c (d ∷ e ∷ b) rest none = held (codes "]]>") (c ∷ d ∷ e ∷ b) none

instruction_here : (c : ℕ) (b rest : List ℕ) → (¬ Holds (c ∷ b) (codes "?>")) → starts_with nat_eq ((c ∷ b) ++ (codes "?>" ++ rest)) (codes "?>") ≡ false
instruction_here c [] rest none = never (eqb 63 c)
instruction_here c (d ∷ b) rest none = held (codes "?>") (c ∷ d ∷ b) none

remark_here : (c : ℕ) (b rest : List ℕ) → (¬ Holds (c ∷ b) (codes "--")) × (¬ EndsIn (c ∷ b) (codes "-")) → starts_with nat_eq ((c ∷ b) ++ (codes "--" ++ rest)) (codes "--") ≡ false
remark_here c [] rest none = false_from_ne_true _ (λ begins. none.1 ([], ap (λ (d : ℕ). d ∷ []) (sym (eqb-true 45 c (and_parts (eqb 45 c) true begins).0))))
remark_here c (d ∷ b) rest none = held (codes "--") (c ∷ d ∷ b) none.0

pub section_first : (inside rest : List ℕ) → (¬ Holds inside (codes "]]>")) → up_to (codes "]]>") (inside ++ (codes "]]>" ++ rest)) ≡ Some (inside, rest)
section_first inside rest none = up_to_first 93 (93 ∷ 62 ∷ []) (λ b. ¬ Holds b (codes "]]>")) (holds_further (codes "]]>")) section_here inside rest none

pub instruction_first : (inside rest : List ℕ) → (¬ Holds inside (codes "?>")) → up_to (codes "?>") (inside ++ (codes "?>" ++ rest)) ≡ Some (inside, rest)
instruction_first inside rest none = up_to_first 63 (62 ∷ []) (λ b. ¬ Holds b (codes "?>")) (holds_further (codes "?>")) instruction_here inside rest none

pub remark_first : (inside rest : List ℕ) → (¬ Holds inside (codes "--")) → (¬ EndsIn inside (codes "-")) → up_to (codes "--") (inside ++ (codes "--" ++ rest)) ≡ Some (inside, rest)
remark_first inside rest none apart =
    up_to_first 45 (45 ∷ []) (λ b. (¬ Holds b (codes "--")) × (¬ EndsIn b (codes "-"))) (λ c b h. (holds_further (codes "--") c b h.0, ends_further (codes "-") c b h.1)) remark_here inside rest (none, apart)

-- the first `--` is the leftmost
leftmost : (before more : List ℕ) (x : List ℕ × List ℕ) → up_to (codes "--") (before ++ (45 ∷ 45 ∷ more)) ≡ Some x → length x.0 ≤ length before
leftmost [] more x e = let same : ([], more) ≡ x = cc in subst (λ (x : List ℕ × List ℕ). length x.0 ≤ 0) same (omega arith)
leftmost (c ∷ before) more x e =
    let text = before ++ (45 ∷ 45 ∷ more) in
    choose (length x.0 ≤ suc (length before)) (starts_with nat_eq (c ∷ text) (codes "--")) (Some ([], drop 2 (c ∷ text))) (option_map (λ y. (c ∷ y.0, y.1)) (up_to (codes "--") text)) x e
    (λ begins f. let same : ([], drop 2 (c ∷ text)) ≡ x = cc in subst (λ (x : List ℕ × List ℕ). length x.0 ≤ suc (length before)) same (omega arith))
    (λ none f.
    let h = map_some (λ (y : List ℕ × List ℕ). (c ∷ y.0, y.1)) (up_to (codes "--") text) x f in
    let k = leftmost before more h.0 h.1 in
    subst (λ (x : List ℕ × List ℕ). length x.0 ≤ suc (length before)) h.2 (omega (arith, k)))

-- what stands before it does not end in `-`
pub remark_apart : (text : List ℕ) (x : List ℕ × List ℕ) → up_to (codes "--") text ≡ Some x → ¬ EndsIn x.0 (codes "-")
remark_apart text x e (before, is) =
    let whole : text ≡ before ++ (45 ∷ 45 ∷ 45 ∷ x.1) = (up_to_found (codes "--") text x (omega arith) e).0 ∙ ap (λ t. t ++ (codes "--" ++ x.1)) is ∙ append_assoc before (codes "-") (codes "--" ++ x.1) in
    let less = leftmost before (45 ∷ x.1) x (sym (ap (up_to (codes "--")) whole) ∙ e) in
    let size : length x.0 ≡ length before + 1 = ap length is ∙ length-append before (codes "-") in
    absurd (omega (arith, less, size))
