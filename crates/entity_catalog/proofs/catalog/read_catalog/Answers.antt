use Rattle.std.proofs.Common.{rules, tests, arith, ◌≡◌, ◌∙◌, ℕ, ◌+◌, List, ◌∷◌, ◌++◌, [], length, sym, ap, map, Ok, Bor}
use Rattle.std.proofs.lemmas.Grind.{common_steps}
use Rattle.std.proofs.lemmas.List.{map-append, length-map}
use Rattle.std.proofs.lemmas.Result.{err_from_is_err_and}
use Rattle.std.proofs.lemmas.Iterator.Splits.{YieldsList-from_slice_split}
use Rattle.entity_catalog.specs.Lines.{Line, line_of, is_line_feed}
use Rattle.entity_catalog.specs.Catalogs.{fault_of, read_lines, catalog_of}
use Rattle.entity_catalog.specs.Steps.{with_line}
use Rattle.entity_catalog.proofs.ReadLines.{named_in-push, first_fault-push, first_fault-at, read_lines-named, Reads-line}
use Rattle.entity_catalog.proofs.Yielded.{stands_at, stands-map, ends_at}
use Rattle.entity_catalog.proofs.catalog.read_catalog.Goals as goal

abbrev said : List (Bor (List ℕ)) → List Line
said lines = map line_of (map (λ x. x.now) lines)

said-push : (lines : List (Bor (List ℕ))) (line : Bor (List ℕ)) → said (lines ++ line ∷ []) ≡ said lines ++ line_of line.now ∷ []
said-push lines line = ap (map line_of) (map-append (λ x. x.now) lines (line ∷ [])) ∙ map-append line_of (map (λ x. x.now) lines) (line.now ∷ [])

length-said : (lines : List (Bor (List ℕ))) → length (said lines) ≡ length lines
length-said lines = length-map (map (λ x. x.now) lines) line_of ∙ length-map lines (λ x. x.now)

pub loop-line-preserved : goal.loop-line-preserved
loop-line-preserved c =
    let place = c.args.place.now in
    let before = said c.loop-line.yielded in
    let line = line_of c.in-Some.line.now in (
      search rules,
      tt,
      grind (arith, common_steps),
      rw said-push (first_fault-push place before c.loop-line.number line (c.loop-line.invariant.2 ∙ sym (length-said c.loop-line.yielded)) c.loop-line.invariant.3 c.in_ok-read_line.ensures.0),
      rw said-push (c.in_ok-read_line.ensures.1 ∙ ap (λ named. with_line place named line) c.loop-line.invariant.4 ∙ sym (named_in-push place before line)),
    )

pub returns-in_err-read_line : goal.returns-in_err-read_line
unfolding catalog_of
returns-in_err-read_line c =
    let stands =
    stands-map line_of
    (stands_at c.loop-line.yielded c.loop-line.line-iterator c.loop-line.yielded_by c.next.result c.next.new.self c.in-Some.line c.in-Some.is c.next.ensures.steps
    (YieldsList-from_slice_split _ is_line_feed c.args.text.now (search rules) (search rules) (search rules) (λ x r q k. search (rules, tests)))) in
    let p = err_from_is_err_and c.from_residual.result c.from_residual.ensures.1 in
    let place = c.args.place.now in
    let line = line_of c.in-Some.line.now in
    let counted = c.loop-line.invariant.2 ∙ sym (length-said c.loop-line.yielded) in
    rw (p.1, p.2)
    (Reads-line (catalog_of place c.args.text.now) (fault_of place (c.loop-line.number + 1) line) (with_line place c.loop-line.catalog line) c.read_line.new.self c.in_err-read_line.field-0.0
    (λ f is. first_fault-at place c.loop-line.number stands counted c.loop-line.invariant.3 is) c.in_err-read_line.ensures)

pub returns : goal.returns
unfolding catalog_of
returns c =
    ap (read_lines c.args.place.now)
    (ap (map line_of)
    (sym (ends_at c.loop-line.yielded c.loop-line.line-iterator c.loop-line.yielded_by c.next.result c.next.new.self c.in-None.is c.next.ensures.steps
    (YieldsList-from_slice_split _ is_line_feed c.args.text.now (search rules) (search rules) (search rules) (λ x r q k. search (rules, tests))))))
    ∙ (read_lines-named c.args.place.now (said c.loop-line.yielded) c.loop-line.invariant.3 ∙ ap Ok (sym c.loop-line.invariant.4))
