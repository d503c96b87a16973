-- compare: whether each document of the first set is one of the second, with a certificate.
use Rattle.std.specs.Prelude.{ℕ, Bool, true, false, List, [], ◌∷◌, ◌++◌, Result, Ok, Err, codes, encode_utf8_all}
use Rattle.document_trees.specs.Trees.{Node, size}
use Rattle.decl_set.specs.Declarations.{Declarations}
use Rattle.decl_set.specs.declared.breaks.Cause.{Cause}
use Rattle.decl_set.specs.declared.breaks.Cause.TheVariants as cause
use Rattle.decl_set.specs.declared.breaks.BrokenDecl.{BrokenDecl}
use Rattle.tree_costs.specs.declared.cost.Cost.{Cost}
use Rattle.tree_costs.specs.declared.cost.Cost.TheVariants.{Fin, Inf}
use Rattle.bound_checker.specs.Certificates.{cert_lines}
use Rattle.bound_checker.specs.Lines.{joined}
use Rattle.bound_checker.specs.Tabled.{costs_of}
use Rattle.bound_checker.specs.declared.tables.Tables.{Tables}
use Rattle.article_tree.specs.Writing.{write}
use Rattle.module_reader.specs.Sources.{Files}
use Rattle.tagset_compare.specs.Compared.{Compares}
use Rattle.tagset_compare.specs.declared.fault.CompareFault.{CompareFault}
use Rattle.tagset_compare.specs.declared.fault.CompareFault.TheVariants.{RootUndeclared, PairsOver, TextOver, NoMemory}
use Rattle.tagset_compare.specs.declared.outcome.Verdict.{Verdict}
use Rattle.tagset_compare.specs.declared.outcome.Verdict.TheVariants.{Subset, Not, Over}
use Rattle.tagset_tool.specs.Outcomes.{Outcome, after, fitting, most_written, refusing}
use Rattle.tagset_tool.specs.Refusals.{output_over, pairs_over, root_undeclared}
use Rattle.tagset_tool.specs.Words.{SetWords, both_by}
use Rattle.tagset_tool.specs.commands.Least.{above_line, least_line}

abbrev pub cause_name : Cause → List ℕ
cause_name cause.Undeclared = codes "undeclared"
cause_name cause.Content = codes "content"
cause_name cause.Text = codes "text"
cause_name (cause.Attribute name) = codes "attribute " ++ encode_utf8_all name

-- an element that breaks, with its cause
abbrev pub broken_line : BrokenDecl → List ℕ
broken_line broken = codes "broken " ++ (encode_utf8_all broken.element ++ (codes " " ++ (cause_name broken.cause ++ 10 ∷ [])))

-- the line that says that each document of the first set is one of the second
abbrev pub subset_line : List ℕ
subset_line = codes "subset" ++ 10 ∷ []

abbrev pub not_subset_line : List ℕ
not_subset_line = codes "not subset" ++ 10 ∷ []

-- whether there are documents at all
abbrev pub documents_line : Bool → List ℕ
documents_line true = codes "documents some" ++ 10 ∷ []
documents_line false = codes "documents none" ++ 10 ∷ []

abbrev pub has_size : Cost → Bool
has_size (Fin n) = true
has_size Inf = false

-- the certificate of the tables
abbrev pub cert_text : Declarations → Tables → List ℕ
cert_text first tables = encode_utf8_all (joined (cert_lines first tables))

-- an article behind a line that tells of it
abbrev pub article_text : Node → List ℕ
article_text article = codes "article" ++ (10 ∷ (encode_utf8_all (write article) ++ 10 ∷ []))

abbrev pub subset_lines : Declarations → Tables → List ℕ
subset_lines first tables = subset_line ++ (documents_line (has_size ((costs_of first tables).m tables.root)) ++ cert_text first tables)

-- how many elements the article has, its first node that does not meet the second set, the certificate and the article
abbrev pub article_lines : Declarations → Node → BrokenDecl → Tables → List ℕ
article_lines first article broken tables = not_subset_line ++ (least_line (size article) ++ (broken_line broken ++ (cert_text first tables ++ article_text article)))

-- each separating document has more elements than the cap; the first useful element that breaks, and the certificate
abbrev pub above_lines : Declarations → ℕ → BrokenDecl → Tables → List ℕ
above_lines first cap broken tables = not_subset_line ++ (above_line cap ++ (broken_line broken ++ cert_text first tables))

abbrev pub verdict_lines : Declarations → ℕ → Verdict → List ℕ
verdict_lines first cap (Subset tables) = subset_lines first tables
verdict_lines first cap (Not article broken tables) = article_lines first article broken tables
verdict_lines first cap (Over broken tables) = above_lines first cap broken tables

abbrev pub verdict_status : Verdict → ℕ
verdict_status (Subset tables) = 0
verdict_status (Not article broken tables) = 1
verdict_status (Over broken tables) = 1

-- the refusal where there is no verdict
abbrev pub uncompared : List ℕ → CompareFault → Outcome
uncompared root RootUndeclared status bytes = refusing (root_undeclared root) status bytes
uncompared root (PairsOver name) status bytes = refusing (pairs_over name) status bytes
uncompared root TextOver status bytes = refusing output_over status bytes
uncompared root NoMemory status bytes = ⊥

abbrev pub answers : Declarations → List ℕ → ℕ → Result Verdict CompareFault → Outcome
answers first root cap (Ok verdict) status bytes = fitting (verdict_status verdict) (verdict_lines first cap verdict) status bytes
answers first root cap (Err fault) status bytes = uncompared root fault status bytes

-- over two sets: what a comparison comes to whose article is no longer than an output may be
abbrev pub over_sets : Declarations → Declarations → List ℕ → ℕ → Outcome
over_sets first second root cap status bytes =
    (result : Result Verdict CompareFault) × Compares first second root cap most_written result × answers first root cap result status bytes

abbrev pub compares : Files → SetWords → SetWords → List ℕ → ℕ → Outcome
compares files one other root cap = after (both_by files one other) (λ sets. over_sets sets.0 sets.1 root cap)
