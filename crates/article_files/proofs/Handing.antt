-- Why an article is not read is what is handed out.
use Rattle.std.proofs.Common.{◌≡◌, Result, Err, sym, subst, IsTrue, true, false}
use Rattle.jats_fault.specs.declared.fault.Fault.{Fault}
use Rattle.jats_fault.specs.declared.numbers.TheConstants as number
use Rattle.document_trees.specs.Trees.{Node}
use Rattle.article_tree.specs.Decoding.{HasRow}
use Rattle.article_tree.specs.Faults.{is_article_number}
use Rattle.article_tree.specs.Outcomes.{Answers}
use Rattle.article_tree.specs.declared.stops.ArticleFault.{ArticleFault}
use Rattle.article_tree.specs.declared.stops.ArticleFault.TheVariants.{Refused, NoMemory}
use Rattle.module_reader.specs.Outcomes.{IsAbsence, IsNumbered, LoadFailed, Reads}
use Rattle.module_reader.specs.declared.faults.ReadFault.{ReadFault}
use Rattle.article_files.specs.Answers.{as_read}

module _ (f : ArticleFault) (r : ReadFault) (same : r ≡ as_read f) where
  pub handed_told : (said : Result Node Fault) → Answers {X = Node} (λ n. n) said (Err f) → Reads {T = Node} said (Err r)
  handed_told said is = subst (λ (r : ReadFault). Reads {T = Node} said (Err r)) (sym same) (by f is)
    where
      by : (f : ArticleFault) → Answers {X = Node} (λ n. n) said (Err f) → Reads {T = Node} said (Err (as_read f))
      by (Refused refusal) is = is
      by NoMemory is = tt

  pub handed_number : HasRow {X = Node} (Err f) → IsNumbered {T = Node} (Err r)
  handed_number is = subst (λ (r : ReadFault). IsNumbered {T = Node} (Err r)) (sym same) (by f is)
    where
      by : (f : ArticleFault) → HasRow {X = Node} (Err f) → IsNumbered {T = Node} (Err (as_read f))
      by (Refused refusal) is = is.0
      by NoMemory is = tt

  pub handed_load : LoadFailed {T = Node} (Err r) → ⊥
  handed_load failed = by f (subst (λ (r : ReadFault). LoadFailed {T = Node} (Err r)) same failed)
    where
      by : (f : ArticleFault) → LoadFailed {T = Node} (Err (as_read f)) → ⊥
      by (Refused refusal) is = is
      by NoMemory is = is

  pub handed_absence : HasRow {X = Node} (Err f) → IsAbsence {T = Node} (Err r) → ⊥
  handed_absence row absent = by f row (subst (λ (r : ReadFault). IsAbsence {T = Node} (Err r)) same absent)
    where
      by : (f : ArticleFault) → HasRow {X = Node} (Err f) → IsAbsence {T = Node} (Err (as_read f)) → ⊥
      by (Refused refusal) row absent = absurd (let off : IsTrue (is_article_number number.MODULE_ABSENT) = subst (λ n. IsTrue (is_article_number n)) absent row.1 in cc)
      by NoMemory row absent = absent
