use Rattle.std.proofs.Common.{◌≡◌, ◌+◌, ◌-◌, ap, sym, take, arith}
use Rattle.std.proofs.lemmas.List.{drop-drop}
use Rattle.decl_set.proofs.value_stack.name_at.Goals as goal

pub returns : goal.returns
returns c =
    let e : c.args.at + c.args.len - 1 - (c.args.at + 1) ≡ c.args.len - 2 = omega arith in
    rw e (ap (take (c.args.len - 2)) (sym (drop-drop 1 c.args.at c.args.text.now)))
