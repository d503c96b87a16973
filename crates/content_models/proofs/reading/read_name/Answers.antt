use Rattle.content_models.proofs.Places.{bare_some}
use Rattle.content_models.proofs.reading.read_name.Goals as goal

pub returns-in-Some : goal.returns-in-Some
returns-in-Some c =
    let told = rw c.in-Some.is at c.in_ok-from_slice.ensures in
    let found = bare_some c.args.text.now c.args.at c.name_end-end.result c.in-Some.name c.name_end-end.ensures.value told.0 told.1 in
    (found.0, (found.1, c.name_end-end.ensures.within))
