use Rattle.std.proofs.Common.{◌≡◌, ◌∙◌, [], Some, None, true, false, refl, sym, codes, drop, length-drop, arith}
use Rattle.std.specs.Prelude.{nat_eq}
use Rattle.std.specs.List.{starts_with}
use Rattle.std.proofs.lemmas.Bool.{cond-true, cond-false}
use Rattle.article_tree.specs.Outcomes.{standing_of}
use Rattle.article_tree.specs.Reading.{type_end}
use Rattle.article_tree.specs.Stops.{refused}
use Rattle.article_tree.proofs.Skipping.{type_passes, type_sizes, type_stops}
use Rattle.article_tree.proofs.outside.pass_type.Goals as goal

pub returns-in_default : goal.returns-in_default
returns-in_default c = λ entities held waiting none out.
    type_stops entities held c.args.frame.now waiting none out c.requires.begins None c.refused.result (refused (standing_of c.args.frame.now.stand) c.args.frame.now.at 60 []) (sym (rw c.requires.behind at (rw c.in_default.is at c.in_ok-after.ensures))) refl (rw c.new.ensures at c.refused.ensures)

pub overflow_sub-frame-then-starts_with : goal.overflow_sub-frame-then-starts_with
overflow_sub-frame-then-starts_with c =
    let ends : type_end (drop 9 (drop c.args.frame.now.at c.args.frame.now.text.now)) ≡ Some c.in-Some.after.now = sym (rw c.requires.behind at (rw c.in-Some.is at c.in_ok-after.ensures)) in
    let mark : starts_with nat_eq c.in-Some.after.now (codes ">") ≡ true = sym (rw c.as_slice.ensures at c.if-starts_with.ensures.value) in
    let sizes = type_sizes (drop c.args.frame.now.at c.args.frame.now.text.now) c.in-Some.after.now c.requires.begins ends mark in
    let total = length-drop c.args.frame.now.at c.args.frame.now.text.now in
    omega (arith, sizes.0, sizes.1, total)

pub returns-then-starts_with : goal.returns-then-starts_with
returns-then-starts_with c = λ entities held waiting none out.
    let ends : type_end (drop 9 (drop c.args.frame.now.at c.args.frame.now.text.now)) ≡ Some c.in-Some.after.now = sym (rw c.requires.behind at (rw c.in-Some.is at c.in_ok-after.ensures)) in
    let mark : starts_with nat_eq c.in-Some.after.now (codes ">") ≡ true = sym (rw c.as_slice.ensures at c.if-starts_with.ensures.value) in
    type_passes entities held c.args.frame.now waiting none out c.requires.begins c.in-Some.after.now _ ends mark refl

pub returns-then-starts_with-2 : goal.returns-then-starts_with-2
returns-then-starts_with-2 c = λ entities held waiting none out.
    let ends : type_end (drop 9 (drop c.args.frame.now.at c.args.frame.now.text.now)) ≡ Some c.in-Some.after.now = sym (rw c.requires.behind at (rw c.in-Some.is at c.in_ok-after.ensures)) in
    let other : starts_with nat_eq c.in-Some.after.now (codes ">") ≡ false = sym (rw c.as_slice.ensures at c.if-starts_with.ensures.value) in
    let subset : starts_with nat_eq c.in-Some.after.now (codes "[") ≡ true = sym (rw c.as_slice-2.ensures at c.if-starts_with-2.ensures.value) in
    type_stops entities held c.args.frame.now waiting none out c.requires.begins (Some c.in-Some.after.now) c.refused-then-starts_with-2.result (refused (standing_of c.args.frame.now.stand) c.args.frame.now.at 67 []) ends
    (cond-false (starts_with nat_eq c.in-Some.after.now (codes ">")) _ _ other ∙ cond-true (starts_with nat_eq c.in-Some.after.now (codes "[")) _ _ subset) (rw c.new-then-starts_with-2.ensures at c.refused-then-starts_with-2.ensures)

pub returns : goal.returns
returns c = λ entities held waiting none out.
    let ends : type_end (drop 9 (drop c.args.frame.now.at c.args.frame.now.text.now)) ≡ Some c.in-Some.after.now = sym (rw c.requires.behind at (rw c.in-Some.is at c.in_ok-after.ensures)) in
    let other : starts_with nat_eq c.in-Some.after.now (codes ">") ≡ false = sym (rw c.as_slice.ensures at c.if-starts_with.ensures.value) in
    let subset : starts_with nat_eq c.in-Some.after.now (codes "[") ≡ false = sym (rw c.as_slice-2.ensures at c.if-starts_with-2.ensures.value) in
    type_stops entities held c.args.frame.now waiting none out c.requires.begins (Some c.in-Some.after.now) c.refused-2.result (refused (standing_of c.args.frame.now.stand) c.args.frame.now.at 60 []) ends
    (cond-false (starts_with nat_eq c.in-Some.after.now (codes ">")) _ _ other ∙ cond-false (starts_with nat_eq c.in-Some.after.now (codes "[")) _ _ subset) (rw c.new-2.ensures at c.refused-2.ensures)
