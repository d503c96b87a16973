use Rattle.std.specs.Fmt.{digits}
use Rattle.dtd_flattener.specs.Flat.{is_special}
use Rattle.dtd_flattener.proofs.Appended.{shown_at}
use Rattle.dtd_flattener.proofs.texts.put_special.Goals as goal

pub returns-in-38 : goal.returns-in-38
unfolding digits
returns-in-38 c = shown_at is_special 38 c.args.c c.args.out.now c.push_slice.new.self c.push_slice.result c.in-38.is c.push_slice.ensures.ok

pub returns-in-60 : goal.returns-in-60
unfolding digits
returns-in-60 c = shown_at is_special 60 c.args.c c.args.out.now c.push_slice-in-60.new.self c.push_slice-in-60.result c.in-60.is c.push_slice-in-60.ensures.ok

pub returns-in-37 : goal.returns-in-37
unfolding digits
returns-in-37 c = shown_at is_special 37 c.args.c c.args.out.now c.push_slice-in-37.new.self c.push_slice-in-37.result c.in-37.is c.push_slice-in-37.ensures.ok

pub returns-in-34 : goal.returns-in-34
unfolding digits
returns-in-34 c = shown_at is_special 34 c.args.c c.args.out.now c.push_slice-in-34.new.self c.push_slice-in-34.result c.in-34.is c.push_slice-in-34.ensures.ok

pub returns-in-13 : goal.returns-in-13
unfolding digits
returns-in-13 c = shown_at is_special 13 c.args.c c.args.out.now c.push_slice-in-13.new.self c.push_slice-in-13.result c.in-13.is c.push_slice-in-13.ensures.ok
