use Rattle.separating_article.proofs.Trees.{one_chosen_article, chosen_article_exists, chosen_article_is_built, chosen_article_is_writable}
use Rattle.separating_article.proofs.laws.separating_law.Goals as goal

pub returns : goal.returns
returns c = record {
  one = one_chosen_article;
  exists = chosen_article_exists;
  built = chosen_article_is_built;
  writable = chosen_article_is_writable;
}
