use Rattle.separating_article.proofs.Trees.{one_least_article, least_article_exists, least_article_is_built, least_article_is_writable}
use Rattle.separating_article.proofs.laws.least_law.Goals as goal

pub returns : goal.returns
returns c = record {
  one = one_least_article;
  exists = least_article_exists;
  built = least_article_is_built;
  writable = least_article_is_writable;
}
