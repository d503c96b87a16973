use Rattle.std.proofs.Common.{◌∙◌, ap}
use Rattle.jats_chars.specs.Decoded.{text_of}
use Rattle.article_tree.specs.Decoding.{decoded_article}
use Rattle.article_tree.proofs.Agreements.{articles}
use Rattle.article_tree.proofs.Decoded.{text_found}
use Rattle.article_tree.proofs.laws.reading_law.Goals as goal

pub returns : goal.returns
returns c = λ entities article bytes node. (
  (λ is. let h = text_found entities article node (text_of bytes) is in (h.0, h.1, (articles entities article h.0 node).0 h.2)),
  (λ h. ap (decoded_article entities article) h.1 ∙ (articles entities article h.0 node).1 h.2),
)
