use Rattle.std.proofs.Common.{◌≡◌, ◌<◌, List, bytes_eq, length, get_or, sym, ap, subst, ◌∙◌}
use Rattle.content_models.specs.Model.{Chars}
use Rattle.indexmap.specs.IndexSet.{insert_key}
use Rattle.position_automata.proofs.Numbers.{kept_more}
use Rattle.position_automata.proofs.names.copy_distinct.Goals as goal

pub loop-name-preserved : goal.loop-name-preserved
loop-name-preserved c =
    let keys = c.args.names.now.keys in
    let i = c.loop-name.name-index in
    let k = c.in_ok-copy.field-0 in
    let e : k ≡ c.name-item.result = c.in_ok-copy.ensures in
    let h : i < length keys = subst (λ (xs : List Chars). i < length xs) c.as_slice-name-items.ensures.keys c.loop-name-test.true in
    let is : k ≡ get_or keys i k =
    subst (λ (x : Chars). x ≡ get_or keys i x) (sym e) (subst (λ (xs : List Chars). c.name-item.result ≡ get_or xs i c.name-item.result) c.as_slice-name-items.ensures.keys c.name-item.is) in
    c.in_ok-insert.ensures.keys ∙ ap (λ xs. insert_key bytes_eq xs k) c.loop-name.invariant ∙ kept_more keys i k c.as_slice-name-items.ensures.unique h is
