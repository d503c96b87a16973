-- Characters that stand for themselves, many at once.
use Rattle.std.specs.Prelude.{ℕ, ◌+◌, List, [], ◌∷◌, Bool, ◌==◌, ◌||◌, nat_eq, codes, take, drop, Option, option_map, if◌then◌else◌}
use Rattle.article_tree.specs.Taking.{behind}
use Rattle.std.specs.List.{starts_with}

-- whether the character that the text begins with does not stand for itself: it is `<` or `&`, or `]]>` begins there
abbrev pub ends_run : ℕ → List ℕ → Bool
ends_run c cs = c == 38 || (c == 60 || starts_with nat_eq (c ∷ cs) (codes "]]>"))

-- how many such characters the text begins with
unfoldable pub run_len : List ℕ → ℕ
run_len [] = 0
run_len (c ∷ cs) = if ends_run c cs then 0 else 1 + run_len cs

abbrev pub with_front : List ℕ → List ℕ → List ℕ × List ℕ
with_front front rest = (front, rest)

-- what stands before a place and the rest behind it, where such a mark stands there
abbrev pub cut_at : List ℕ → List ℕ → ℕ → Option (List ℕ × List ℕ)
cut_at mark text at = option_map (with_front (take at text)) (behind mark (drop at text))
