use Rattle.std.proofs.Common.{ℕ, List, arith, IfSome, subst, sym, Ok, Err}
use Rattle.document_trees.specs.Trees.{Node}
use Rattle.decl_set.specs.Declarations.{Declarations}
use Rattle.module_reader.specs.Sources.{Files}
use Rattle.tagset_tool.specs.Outcomes.{Outcome}
use Rattle.module_reader.proofs.Told.{cause_later, cause_of}
use Rattle.tagset_tool.proofs.Asked.{absence_of, five_words, four_words, told_both, told_stopped, told_stopped_then, word_at}
use Rattle.tagset_tool.proofs.Causes.{no_cause}
use Rattle.tagset_tool.proofs.Present.{filled_present, judged_present}
use Rattle.article_files.specs.Bytes.{article_in}
use Rattle.article_validator.specs.Faults.{fault_list}
use Rattle.module_reader.specs.Outcomes.{Reads}
use Rattle.tagset_tool.specs.Outcomes.{after, fitting}
use Rattle.tagset_tool.specs.Words.{set_by, set_words, word}
use Rattle.tagset_tool.specs.commands.Fill.{filled_text, fills_by}
use Rattle.tagset_tool.specs.commands.Validate.{judged}
use Rattle.tagset_tool.proofs.commands.fill.fill_words.Goals as goal

pub returns-in-Ok-filled-clause-absences : goal.returns-in-Ok-filled-clause-absences
returns-in-Ok-filled-clause-absences g c =
    let first = c.read_words.ensures.absences.later in
    let second = c.load_article.ensures.absences.later in
    no_cause _ _ _ (omega arith) (filled_present c.in-Ok.set c.in-Ok-load_article.node c.in-Ok-filled.answer.status c.in-Ok-filled.answer.bytes.items c.in-Ok-filled.ensures.fits)

pub returns-in-Err-load_article-clause-absences : goal.returns-in-Err-load_article-clause-absences
returns-in-Err-load_article-clause-absences g c =
    cause_later _ _ _ _ c.read_words.ensures.absences.later (cause_of _ _ _ _ c.in-Err-load_article.ensures.absences (λ h. absence_of Declarations Node c.in-Err-load_article.fault (c.stop_of-in-Err-load_article.ensures.absence h)))

pub returns-in-Err-clause-told : goal.returns-in-Err-clause-told
returns-in-Err-clause-told g c =
    told_stopped (g.S.Store.holds c.args.store.now) (λ files. set_by files (set_words c.args.words.now 1)) (λ files. fills_by files (word c.args.words.now 3))
    c.in-Err.fault c.stop_of.result c.in-Err.ensures.told c.stop_of.ensures.stops

pub returns-in-Err-load_article-clause-told : goal.returns-in-Err-load_article-clause-told
returns-in-Err-load_article-clause-told g c =
    let four = four_words c.args.words.now c.requires in
    let named = word_at c.args.words.now 3 c.index-words-3.result (omega arith) c.index-words-3.is in
    let read = rw c.in-Ok.ensures.keeps at c.in-Err-load_article.ensures.told in
    told_stopped_then (g.S.Store.holds c.args.store.now) (λ files. set_by files (set_words c.args.words.now 1)) (λ files set. article_in files set.entities (word c.args.words.now 3)) (λ set node. fitting 0 (filled_text set node))
    c.in-Ok.set c.in-Err-load_article.fault c.stop_of-in-Err-load_article.result c.in-Ok.ensures.told
    (subst (λ (name : List ℕ). IfSome (g.S.Store.holds c.args.store.now) (λ files. Reads {T = Node} (article_in files c.in-Ok.set.entities name) (Err c.in-Err-load_article.fault))) named read) c.stop_of-in-Err-load_article.ensures.stops

pub returns-in-Ok-filled-clause-told : goal.returns-in-Ok-filled-clause-told
returns-in-Ok-filled-clause-told g c =
    let four = four_words c.args.words.now c.requires in
    let named = word_at c.args.words.now 3 c.index-words-3.result (omega arith) c.index-words-3.is in
    let read = rw c.in-Ok.ensures.keeps at c.in-Ok-load_article.ensures.told in
    told_both (g.S.Store.holds c.args.store.now) (λ files. set_by files (set_words c.args.words.now 1)) (λ files set. article_in files set.entities (word c.args.words.now 3)) (λ set node. fitting 0 (filled_text set node))
    c.in-Ok.set c.in-Ok-load_article.node c.in-Ok-filled.answer.status c.in-Ok-filled.answer.bytes.items c.in-Ok.ensures.told
    (subst (λ (name : List ℕ). IfSome (g.S.Store.holds c.args.store.now) (λ files. Reads {T = Node} (article_in files c.in-Ok.set.entities name) (Ok c.in-Ok-load_article.node))) named read) c.in-Ok-filled.ensures.fits
