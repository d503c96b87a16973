use Rattle.std.specs.Prelude.{Ok}
use Rattle.module_reader.proofs.DecodedChars.{decoded_chars}
use Rattle.jats_chars.specs.Decoded.{text_of}
use Rattle.module_reader.proofs.Refusing.{decode_stops}
use Rattle.module_reader.proofs.loading.decoded.Goals as goal

pub returns-in-Err-clause-told : goal.returns-in-Err-clause-told
returns-in-Err-clause-told c = decode_stops c.args.name.now (text_of c.args.bytes.now) c.in-Err.fault c.decode_stop.result c.in-Err.ensures c.decode_stop.ensures.refuses c.decode_stop.ensures.memory

pub returns-in-Ok-clause-chars : goal.returns-in-Ok-clause-chars
returns-in-Ok-clause-chars c = decoded_chars c.args.bytes.now (Ok c.in-Ok.text) c.in-Ok.ensures
