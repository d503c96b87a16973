use Rattle.std.proofs.Common.{List, ℕ, sym, subst, IsTrue}
use Rattle.std.proofs.lemmas.Result.{IfOk-weaker}
use Rattle.attribute_types.specs.Classes.{in_class}
use Rattle.attribute_types.proofs.Cells.{sample_in}
use Rattle.attribute_types.proofs.classes.sample.Goals as goal

pub returns-clause-inside : goal.returns-clause-inside
returns-clause-inside c =
    let P : List ℕ → Type 0 = λ t. IsTrue (in_class c.args.class.now t) in
    IfOk-weaker c.sample_value.result _ _ (λ t e. subst P (sym e) (sample_in c.args.class.now c.requires)) c.sample_value.ensures
