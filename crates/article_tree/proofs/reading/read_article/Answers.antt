use Rattle.std.proofs.Common.{Err}
use Rattle.jats_chars.specs.Decoded.{text_of}
use Rattle.article_tree.proofs.Decoded.{answers_row, decode_fails, decode_reads}
use Rattle.article_tree.proofs.reading.read_article.Goals as goal

pub returns-in-Err-clause-node : goal.returns-in-Err-clause-node
returns-in-Err-clause-node c = decode_fails c.args.set.now.entities c.args.place.now (text_of c.args.bytes.now) c.in-Err.fault c.decode_stop.result c.in-Err.ensures c.decode_stop.ensures

pub returns-in-Err-clause-number : goal.returns-in-Err-clause-number
returns-in-Err-clause-number c =
    answers_row c.args.set.now.entities c.args.place.now (text_of c.args.bytes.now) (Err c.decode_stop.result) (decode_fails c.args.set.now.entities c.args.place.now (text_of c.args.bytes.now) c.in-Err.fault c.decode_stop.result c.in-Err.ensures c.decode_stop.ensures)

pub returns-in-Ok-clause-node : goal.returns-in-Ok-clause-node
returns-in-Ok-clause-node c = decode_reads c.args.set.now.entities c.args.place.now c.in-Ok.text (text_of c.args.bytes.now) c.read_text.result c.in-Ok.ensures c.read_text.ensures

pub returns-in-Ok-clause-number : goal.returns-in-Ok-clause-number
returns-in-Ok-clause-number c =
    answers_row c.args.set.now.entities c.args.place.now (text_of c.args.bytes.now) c.read_text.result (decode_reads c.args.set.now.entities c.args.place.now c.in-Ok.text (text_of c.args.bytes.now) c.read_text.result c.in-Ok.ensures c.read_text.ensures)
