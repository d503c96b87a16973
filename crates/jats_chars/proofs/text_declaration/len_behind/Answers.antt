use Rattle.jats_chars.proofs.Suffixes.{left_of}
use Rattle.jats_chars.proofs.text_declaration.len_behind.Goals as goal

pub returns-in-Ok-clause-within : goal.returns-in-Ok-clause-within
returns-in-Ok-clause-within c = (left_of c.args.cs.now c.in-Ok.rest.now c.in-Ok.ensures).0
