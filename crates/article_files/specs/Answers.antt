-- What the calls that load answer.
use Rattle.std.specs.Prelude.{◌≡◌, Result, Ok, Err}
use Rattle.jats_fault.specs.declared.fault.Fault.{Fault}
use Rattle.article_tree.specs.declared.stops.ArticleFault.{ArticleFault}
use Rattle.article_tree.specs.declared.stops.ArticleFault.TheVariants as article
use Rattle.module_reader.specs.declared.faults.ReadFault.{ReadFault}
use Rattle.module_reader.specs.declared.faults.ReadFault.TheVariants as fault

-- the answer, seen so, is the outcome, unless a load failed or memory ran out
abbrev pub ReadsAs : {X Y : Type 0} → (X → Y) → Result Y Fault → Result X ReadFault → Type 0
ReadsAs view outcome (Ok x) = outcome ≡ Ok (view x)
ReadsAs view outcome (Err (fault.Refused refusal)) = outcome ≡ Err refusal
ReadsAs view outcome (Err fault.LoadFailed) = Unit {0}
ReadsAs view outcome (Err fault.NoMemory) = Unit {0}

-- this refusal, or want of memory
abbrev pub Refuses : Fault → ReadFault → Type 0
Refuses said (fault.Refused refusal) = refusal ≡ said
Refuses said fault.LoadFailed = ⊥
Refuses said fault.NoMemory = Unit {0}

-- why an article is not read, as it is handed out
abbrev pub as_read : ArticleFault → ReadFault
as_read (article.Refused refusal) = fault.Refused refusal
as_read article.NoMemory = fault.NoMemory
