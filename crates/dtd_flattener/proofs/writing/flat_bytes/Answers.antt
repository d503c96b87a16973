use Rattle.std.specs.Prelude.{string_bytes}
use Rattle.dtd_flattener.proofs.Streamed.{bytes_whole}
use Rattle.dtd_flattener.proofs.writing.flat_bytes.Goals as goal

pub returns : goal.returns
returns c =
    bytes_whole c.args.set.now (string_bytes c.new-out.result) (string_bytes c.put_notations.new.out) (string_bytes c.put_entities.new.out) (string_bytes c.put_elements.new.out) (string_bytes c.put_lists.new.out) c.new-out.ensures.bytes
    c.in_ok-put_notations.ensures c.in_ok-put_entities.ensures c.in_ok-put_elements.ensures c.in_ok-put_lists.ensures
