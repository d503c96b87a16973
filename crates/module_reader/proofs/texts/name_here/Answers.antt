use Rattle.std.proofs.Common.{IsTrue, ap, sym, subst}
use Rattle.jats_chars.specs.Names.{is_name}
use Rattle.module_reader.specs.Frames.{current}
use Rattle.module_reader.proofs.Naming.{reference_name, named_is}
use Rattle.module_reader.proofs.texts.name_here.Goals as goal

pub name_of-requires : goal.name_of-requires
name_of-requires c =
    let p = current c.args.work.now in
    rw (c.as_slice-text.ensures, c.text_read.ensures, named_is p.text p.at c.args.next c.requires.long) (reference_name p c.args.next c.requires.stands)

pub returns : goal.returns
returns c =
    let p = current c.args.work.now in
    rw (c.as_slice-text.ensures, c.text_read.ensures, named_is p.text p.at c.args.next c.requires.long) at c.name_of.ensures
