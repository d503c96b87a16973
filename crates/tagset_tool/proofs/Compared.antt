-- What the output of a comparison says.
use Rattle.std.proofs.Common.{◌≡◌, ◌∙◌, ℕ, Bool, true, false, List, Some, None, Ok, Err, IsSome, IsTrue, inl, inr, ◌⊎◌, length, nat_eq, nat_lt, refl, sym, ap, subst, arith}
use Rattle.std.specs.Prelude.{Option, Result}
use Rattle.std.specs.List.{starts_with}
use Rattle.dtd_scanner.specs.Walk.{◌>>=◌}
use Rattle.jats_fault.specs.declared.fault.Fault.{Fault}
use Rattle.content_models.specs.declared.content.Content.{Content}
use Rattle.decl_set.specs.Asked.{IsKept}
use Rattle.decl_set.specs.Declarations.{Declarations, content_in}
use Rattle.module_reader.specs.Sources.{Files}
use Rattle.tagset_compare.specs.Compared.{Compares}
use Rattle.tagset_compare.specs.Verdicts.{SaysOf}
use Rattle.tagset_compare.specs.declared.fault.CompareFault.{CompareFault}
use Rattle.tagset_compare.specs.declared.fault.CompareFault.TheVariants.{RootUndeclared, PairsOver, TextOver, NoMemory}
use Rattle.tagset_compare.specs.declared.outcome.Verdict.{Verdict}
use Rattle.tagset_compare.specs.declared.outcome.Verdict.TheVariants.{Subset, Not, Over}
use Rattle.tagset_compare.proofs.Telling.{verdict_is_true}
use Rattle.tagset_tool.specs.Law.{FewPairs, IsCompared, IsTooLong, SaysSubset}
use Rattle.tagset_tool.specs.Outcomes.{after, fitting_by, most_written}
use Rattle.tagset_tool.specs.Output.{IsOutput, outcome_of}
use Rattle.tagset_tool.specs.Words.{Asked, SetWords, both_by, set_by}
use Rattle.tagset_tool.specs.commands.Compare.{answers, over_sets, subset_line, verdict_lines, verdict_status}
use Rattle.tagset_tool.proofs.OneOutput.{kept_by}

-- ---- the two sets

abbrev paired : Result Declarations Fault → Result Declarations Fault → Result (Declarations × Declarations) Fault
paired r t = r >>= λ first. t >>= λ second. Ok (first, second)

pub both_read : (files : Files) (one other : SetWords) (first second : Declarations) → set_by files one ≡ Ok first → set_by files other ≡ Ok second → both_by files one other ≡ Ok (first, second)
both_read files one other first second p q = ap (λ (r : Result Declarations Fault). paired r (set_by files other)) p ∙ ap (λ (t : Result Declarations Fault). paired (Ok first) t) q

module _ (words : List (List ℕ)) (files : Files) (first second : Declarations) (root : List ℕ) (cap : ℕ) (compared : IsCompared words files first second root cap) where
  pub first_kept : IsKept first
  first_kept = kept_by files compared.one first compared.reads_first

  pub second_kept : IsKept second
  second_kept = kept_by files compared.other second compared.reads_second

  -- the output is what is answered over the sets
  pub compared_output : (status : ℕ) (bytes : List ℕ) → IsOutput words files status bytes → over_sets first second root cap status bytes
  compared_output status bytes output =
      let P : Option Asked → Type 0 = λ o. outcome_of o files status bytes in
      let Q : Result (Declarations × Declarations) Fault → Type 0 = λ r. after r (λ sets. over_sets sets.0 sets.1 root cap) status bytes in
      subst Q (both_read files compared.one compared.other first second compared.reads_first compared.reads_second) (subst P compared.asks output)

-- ---- the verdict

module _ (first second : Declarations) (root : List ℕ) (cap : ℕ) where
  -- the verdict of an output that is no refusal
  pub record Told (status : ℕ) (bytes : List ℕ) : Type 0 where
    pub verdict : Verdict
    pub compares : Compares first second root cap most_written (Ok verdict)
    pub status_is : status ≡ verdict_status verdict
    pub bytes_are : bytes ≡ verdict_lines first cap verdict
    pub short : nat_lt most_written (length bytes) ≡ false

  fitted : (long : Bool) (v : Verdict) (status : ℕ) (bytes : List ℕ) → nat_lt most_written (length (verdict_lines first cap v)) ≡ long → Compares first second root cap most_written (Ok v)
      → fitting_by long (verdict_status v) (verdict_lines first cap v) status bytes → IsTooLong status bytes ⊎ Told status bytes
  fitted true v status bytes size is over = inl over
  fitted false v status bytes size is over =
      inr (record { verdict = v; compares = is; status_is = over.0; bytes_are = over.1; short = ap (λ (b : List ℕ). nat_lt most_written (length b)) over.1 ∙ size })

  undeclared : (o : Option Content) → IsSome o → o ≡ None → ⊥
  undeclared None some is = cc
  undeclared (Some content) some is = cc

  by_result : (result : Result Verdict CompareFault) (status : ℕ) (bytes : List ℕ) → IsSome (content_in first root) → FewPairs first second → Compares first second root cap most_written result
      → answers first root cap result status bytes → IsTooLong status bytes ⊎ Told status bytes
  by_result (Ok v) status bytes declared few is over = fitted (nat_lt most_written (length (verdict_lines first cap v))) v status bytes refl is over
  by_result (Err RootUndeclared) status bytes declared few is over = absurd (undeclared (content_in first root) declared is)
  by_result (Err (PairsOver name)) status bytes declared few is over = absurd (few name is.1)
  by_result (Err TextOver) status bytes declared few is over = inl over
  by_result (Err NoMemory) status bytes declared few is over = absurd over

  -- the output is too long, or that of a verdict
  pub told_by : (status : ℕ) (bytes : List ℕ) → IsSome (content_in first root) → FewPairs first second → over_sets first second root cap status bytes → IsTooLong status bytes ⊎ Told status bytes
  told_by status bytes declared few over = by_result over.0 status bytes declared few over.1 over.2

-- ---- the first line

abbrev BeginsSubset : List ℕ → Type 0
BeginsSubset bytes = IsTrue (starts_with nat_eq bytes subset_line)

pub off_by_one : (status : ℕ) → status ≡ 0 → status ≡ 1 → ⊥
off_by_one status zero one = omega (arith, zero, one)

pub says_subset : (first second : Declarations) (root : List ℕ) (cap status : ℕ) (bytes : List ℕ) (v : Verdict) → SaysOf first second root cap v → status ≡ verdict_status v → bytes ≡ verdict_lines first cap v
    → SaysSubset first second root status bytes
says_subset first second root cap status bytes (Subset tables) says is said = record {
  subset = λ _. says;
  separate = λ one. absurd (off_by_one status is one);
  one_of = inl is;
  first_line = ((λ _. subst BeginsSubset (sym said) refl), (λ _. is));
}
says_subset first second root cap status bytes (Not article broken tables) says is said = record {
  subset = λ zero. absurd (off_by_one status zero is);
  separate = λ _. (article, says.separating);
  one_of = inr is;
  first_line = ((λ zero. absurd (off_by_one status zero is)), (λ begins. absurd (let off : IsTrue false = subst BeginsSubset said begins in cc)));
}
says_subset first second root cap status bytes (Over broken tables) says is said = record {
  subset = λ zero. absurd (off_by_one status zero is);
  separate = λ _. (says.0, says.1);
  one_of = inr is;
  first_line = ((λ zero. absurd (off_by_one status zero is)), (λ begins. absurd (let off : IsTrue false = subst BeginsSubset said begins in cc)));
}

-- what the first line says of an output that is not too long
pub compared_says : (words : List (List ℕ)) (files : Files) (first second : Declarations) (root : List ℕ) (cap status : ℕ) (bytes : List ℕ)
    → IsCompared words files first second root cap → IsOutput words files status bytes → IsTooLong status bytes ⊎ SaysSubset first second root status bytes
compared_says words files first second root cap status bytes compared output =
    by (told_by first second root cap status bytes compared.declared compared.few (compared_output words files first second root cap compared status bytes output))
  where
    by : IsTooLong status bytes ⊎ Told first second root cap status bytes → IsTooLong status bytes ⊎ SaysSubset first second root status bytes
    by (inl long) = inl long
    by (inr told) =
        inr (says_subset first second root cap status bytes told.verdict
        (verdict_is_true first second root cap most_written told.verdict (first_kept words files first second root cap compared) (second_kept words files first second root cap compared) told.compares)
        told.status_is told.bytes_are)
