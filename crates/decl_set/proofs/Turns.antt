-- Why an element breaks, test by test.
use Rattle.std.proofs.Common.{◌≡◌, ◌∙◌, ℕ, Bool, true, false, cond, List, Option, Some, None, refl, sym, ap, true≢false}
use Rattle.std.specs.Prelude.{option_map}
use Rattle.content_models.specs.declared.content.Content.{Content}
use Rattle.content_models.specs.Kinds.{text_kind}
use Rattle.attlist_merge.specs.Lists.{Definitions}
use Rattle.attlist_merge.specs.Oddness.{odd_of}
use Rattle.attlist_merge.specs.declared.odd.OddAtt.{OddAtt}
use Rattle.decl_set.specs.Declarations.{Declarations}
use Rattle.decl_set.specs.Oddness.{more_text}
use Rattle.decl_set.specs.Breaks.{Cause, BreaksBy, cause_of, odd_name}
use Rattle.decl_set.specs.Laws.{BreaksInTurn, TurnByTurn}
use Rattle.decl_set.specs.declared.breaks.Cause.TheVariants as cause
use Rattle.decl_set.specs.declared.breaks.Odd.TheVariants as odd

-- what is odd of contents that both are declared
abbrev told : Bool → Option OddAtt → Option Cause
told more o = option_map cause_of (cond more (Some odd.Text) (option_map odd.Attribute o))

text_told : (more : Bool) (o : Option OddAtt) → told more o ≡ Some cause.Text → more ≡ true
text_told true o h = refl
text_told false None h = cc
text_told false (Some x) h = cc

told_text : (more : Bool) (o : Option OddAtt) → more ≡ true → told more o ≡ Some cause.Text
told_text more o h = ap (λ b. told b o) h

never_told : (more : Bool) (o : Option OddAtt) → told more o ≡ Some cause.Undeclared → ⊥
never_told true o h = cc
never_told false None h = cc
never_told false (Some x) h = cc

attribute_told : (more : Bool) (o : Option OddAtt) (name : List ℕ) → told more o ≡ Some (cause.Attribute name) → (more ≡ true → ⊥) × ((x : OddAtt) × (o ≡ Some x) × (name ≡ odd_name x))
attribute_told true o name h = cc
attribute_told false None name h = cc
attribute_told false (Some x) name h = let same : odd_name x ≡ name = cc in ((λ e. true≢false (sym e)), (x, refl, sym same))

told_attribute : (more : Bool) (o : Option OddAtt) (name : List ℕ) → (more ≡ true → ⊥) → ((x : OddAtt) × (o ≡ Some x) × (name ≡ odd_name x)) → told more o ≡ Some (cause.Attribute name)
told_attribute true o name less shown = absurd (less refl)
told_attribute false o name less shown = ap (told false) shown.1 ∙ ap (λ n. Some (cause.Attribute n)) (sym shown.2)

pub in_turn : (first : Declarations) (a b : Option Content) (list other : Definitions) (k : Cause) → BreaksBy first a b list other k → BreaksInTurn first a b list other k
in_turn first None b list other cause.Undeclared h = cc
in_turn first None b list other cause.Content h = h
in_turn first None b list other cause.Text h = cc
in_turn first None b list other (cause.Attribute name) h = cc
in_turn first (Some a) None list other cause.Undeclared h = tt
in_turn first (Some a) None list other cause.Content h = h
in_turn first (Some a) None list other cause.Text h = cc
in_turn first (Some a) None list other (cause.Attribute name) h = cc
in_turn first (Some a) (Some b) list other cause.Undeclared h = never_told (more_text (text_kind a) (text_kind b)) (odd_of list other) h.1
in_turn first (Some a) (Some b) list other cause.Content h = h
in_turn first (Some a) (Some b) list other cause.Text h = (h.0, text_told (more_text (text_kind a) (text_kind b)) (odd_of list other) h.1)
in_turn first (Some a) (Some b) list other (cause.Attribute name) h =
    let t = attribute_told (more_text (text_kind a) (text_kind b)) (odd_of list other) name h.1 in (h.0, t.0, t.1)

pub by_turn : (first : Declarations) (a b : Option Content) (list other : Definitions) (k : Cause) → BreaksInTurn first a b list other k → BreaksBy first a b list other k
by_turn first None b list other k h = absurd h
by_turn first (Some a) None list other cause.Undeclared h = ((λ x. x), refl)
by_turn first (Some a) None list other cause.Content h = h
by_turn first (Some a) None list other cause.Text h = absurd h
by_turn first (Some a) None list other (cause.Attribute name) h = absurd h
by_turn first (Some a) (Some b) list other cause.Undeclared h = absurd h
by_turn first (Some a) (Some b) list other cause.Content h = h
by_turn first (Some a) (Some b) list other cause.Text h = (h.0, told_text (more_text (text_kind a) (text_kind b)) (odd_of list other) h.1)
by_turn first (Some a) (Some b) list other (cause.Attribute name) h = (h.0, told_attribute (more_text (text_kind a) (text_kind b)) (odd_of list other) name h.1 h.2)

pub turn_by_turn : TurnByTurn
turn_by_turn first a b list other k = (in_turn first a b list other k, by_turn first a b list other k)
