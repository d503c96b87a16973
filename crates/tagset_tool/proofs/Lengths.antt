-- Outputs that are too long, and least articles.
use Rattle.std.proofs.Common.{◌≡◌, ◌<◌, ◌≤◌, ◌+◌, ℕ, true, List, [], ◌∷◌, ◌++◌, length, nat_lt, None, Ok, Err, IfOk, subst, sym, arith, length-append}
use Rattle.std.specs.Prelude.{Option, Result, encode_utf8_all}
use Rattle.std.proofs.lemmas.Bool.{lt-ltb}
use Rattle.document_trees.specs.Trees.{Node}
use Rattle.content_models.specs.declared.content.Content.{Content}
use Rattle.decl_set.specs.Declarations.{Declarations, content_in}
use Rattle.tree_costs.specs.declared.least.Least.{Least}
use Rattle.article_tree.specs.Writing.{write}
use Rattle.separating_article.specs.Articles.{IsLeastOf, text_size}
use Rattle.jats_chars.specs.declared.NoMemory.{NoMemory as OutOfMemory}
use Rattle.tagset_tool.specs.Outcomes.{fitting, fitting_by, most_written, refusing}
use Rattle.tagset_tool.specs.Refusals.{output_over, root_undeclared}
use Rattle.tagset_tool.specs.commands.Least.{least_from, least_in, least_line, least_text, sized}
use Rattle.tagset_tool.specs.declared.answer.Answer.{Answer}

-- an output is longer than the article in it
longer : (n : ℕ) (node : Node) → text_size node ≤ length (least_text n node)
longer n node =
    let text = encode_utf8_all (write node) in
    let a = length-append (least_line n) (text ++ 10 ∷ []) in
    let b = length-append text (10 ∷ []) in
    omega (arith, a, b)

-- an article that is too long
pub article_over : (set : Declarations) (least : Least) (root : List ℕ) (n : ℕ) (node : Node) (result : Result Answer OutOfMemory) → IsLeastOf set least root node → most_written < text_size node
    → IfOk result (λ a. refusing output_over a.status a.bytes.items) → IfOk result (λ a. sized set least root n true a.status a.bytes.items)
article_over set least root n node (Err e) is over told = tt
article_over set least root n node (Ok a) is over told =
    let more = longer n node in
    let long : nat_lt most_written (length (least_text n node)) ≡ true = lt-ltb most_written (length (least_text n node)) (omega (arith, more, over)) in
    (node, is, subst (λ b. fitting_by b 0 (least_text n node) a.status a.bytes.items) (sym long) told)

-- and another
pub article_fits : (set : Declarations) (least : Least) (root : List ℕ) (n : ℕ) (node : Node) (bytes : List ℕ) (result : Result Answer OutOfMemory) → IsLeastOf set least root node → bytes ≡ least_text n node
    → IfOk result (λ a. fitting 0 bytes a.status a.bytes.items) → IfOk result (λ a. sized set least root n true a.status a.bytes.items)
article_fits set least root n node bytes (Err e) is said told = tt
article_fits set least root n node bytes (Ok a) is said told = (node, is, subst (λ (text : List ℕ). fitting 0 text a.status a.bytes.items) said told)

-- a root that is not declared
pub least_undeclared : (set : Declarations) (root : List ℕ) (cap : ℕ) (result : Result Answer OutOfMemory) → content_in set root ≡ None → IfOk result (λ a. refusing (root_undeclared root) a.status a.bytes.items)
    → IfOk result (λ a. least_in root cap set a.status a.bytes.items)
least_undeclared set root cap (Err e) none told = tt
least_undeclared set root cap (Ok a) none told = subst (λ (o : Option Content). least_from set root cap o a.status a.bytes.items) (sym none) told
