use Rattle.std.specs.Fmt.{digits}
use Rattle.dtd_flattener.specs.Flat.{is_special_value}
use Rattle.dtd_flattener.proofs.Appended.{shown_at}
use Rattle.dtd_flattener.proofs.texts.put_special_value.Goals as goal

pub returns-in-9 : goal.returns-in-9
unfolding digits
returns-in-9 c = shown_at is_special_value 9 c.args.c c.args.out.now c.push_slice.new.self c.push_slice.result c.in-9.is c.push_slice.ensures.ok

pub returns-in-10 : goal.returns-in-10
unfolding digits
returns-in-10 c = shown_at is_special_value 10 c.args.c c.args.out.now c.push_slice-in-10.new.self c.push_slice-in-10.result c.in-10.is c.push_slice-in-10.ensures.ok
