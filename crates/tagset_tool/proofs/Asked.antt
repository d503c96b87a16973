-- What words ask for.
use Rattle.std.proofs.Common.{◌≡◌, ◌∙◌, ◌==◌, ◌&&◌, ℕ, ◌<◌, true, List, [], get_or, Some, None, Ok, Err, IfOk, IfSome, sym, subst, length, bytes_eq, codes}
use Rattle.std.specs.Prelude.{Option, Result, is_some}
use Rattle.std.proofs.lemmas.List.{get_or_default}
use Rattle.std.proofs.lemmas.Bool.{and_parts, eqb-true}
use Rattle.jats_fault.specs.declared.fault.Fault.{Fault}
use Rattle.decl_set.specs.Declarations.{Declarations}
use Rattle.module_reader.specs.Outcomes.{IsAbsence, Reads}
use Rattle.dtd_scanner.specs.Walk.{◌>>=◌}
use Rattle.entity_catalog.specs.Named.{Named}
use Rattle.module_reader.specs.Sets.{catalog_from, set_from, set_of}
use Rattle.module_reader.specs.Sources.{Files}
use Rattle.module_reader.specs.declared.faults.ReadFault.{ReadFault}
use Rattle.module_reader.specs.declared.faults.ReadFault.TheVariants as reading
use Rattle.tagset_tool.specs.declared.answer.Answer.{Answer}
use Rattle.tagset_tool.specs.declared.answer.Stop.{Stop}
use Rattle.tagset_tool.specs.declared.answer.Stop.TheVariants as stop
use Rattle.tagset_tool.specs.Outcomes.{Outcome, after}
use Rattle.tagset_tool.specs.Runs.{StopsAs}
use Rattle.tagset_tool.specs.Words.{word, cap_in, count_in, is_compare, is_fill, is_least, is_report, is_validate, is_verify, is_work}

-- what a place of the words has
pub word_at : (words : List (List ℕ)) (i : ℕ) (x : List ℕ) → i < length words → x ≡ get_or words i x → x ≡ word words i
word_at words i x within is = is ∙ get_or_default words i x [] within

-- words of a comparison are seven
pub seven_words : (words : List (List ℕ)) → is_compare words ≡ true → length words ≡ 7
seven_words words t = eqb-true (length words) 7 (and_parts (length words == 7) (bytes_eq (word words 0) (codes "compare") && is_some (cap_in (word words 6))) t).0

-- words of a report are six
pub six_words : (words : List (List ℕ)) → is_report words ≡ true → length words ≡ 6
six_words words t = eqb-true (length words) 6 (and_parts (length words == 6) (bytes_eq (word words 0) (codes "report")) t).0

-- and so are those of `verify`
pub six_verified : (words : List (List ℕ)) → is_verify words ≡ true → length words ≡ 6
six_verified words t = eqb-true (length words) 6 (and_parts (length words == 6) (bytes_eq (word words 0) (codes "verify")) t).0

-- words for a least article are five
pub five_least : (words : List (List ℕ)) → is_least words ≡ true → length words ≡ 5
five_least words t = eqb-true (length words) 5 (and_parts (length words == 5) (bytes_eq (word words 0) (codes "least") && is_some (cap_in (word words 4))) t).0

-- those of `validate` are five, and those of `fill` four
pub five_words : (words : List (List ℕ)) → is_validate words ≡ true → length words ≡ 5
five_words words t = eqb-true (length words) 5 (and_parts (length words == 5) (bytes_eq (word words 0) (codes "validate")) t).0

pub four_words : (words : List (List ℕ)) → is_fill words ≡ true → length words ≡ 4
four_words words t = eqb-true (length words) 4 (and_parts (length words == 4) (bytes_eq (word words 0) (codes "fill")) t).0

-- and those of `work` are two
pub two_words : (words : List (List ℕ)) → is_work words ≡ true → length words ≡ 2
two_words words t = eqb-true (length words) 2 (and_parts (length words == 2) (bytes_eq (word words 0) (codes "work") && is_some (count_in (word words 1))) t).0

-- what is answered where a set is not read
stopped_by : {X : Type 0} → (outcome : Result X Fault) (next : X → Outcome) (fault : ReadFault) (result : Result Answer Stop) → Reads outcome (Err fault) → StopsAs fault result → IfOk result (λ a. after outcome next a.status a.bytes.items)
stopped_by outcome next (reading.Refused refusal) (Ok answer) reads stops =
    subst (λ r. after r next answer.status answer.bytes.items) (sym reads) stops
stopped_by outcome next (reading.Refused refusal) (Err stop.LoadFailed) reads stops = absurd stops
stopped_by outcome next (reading.Refused refusal) (Err stop.NoMemory) reads stops = tt
stopped_by outcome next reading.LoadFailed result reads stops = subst (λ r. IfOk r (λ a. after outcome next a.status a.bytes.items)) (sym stops) tt
stopped_by outcome next reading.NoMemory result reads stops = subst (λ r. IfOk r (λ a. after outcome next a.status a.bytes.items)) (sym stops) tt

pub told_stopped : {X : Type 0} → (holds : Option Files) (read : Files → Result X Fault) (next : Files → X → Outcome) (fault : ReadFault) (result : Result Answer Stop) → IfSome holds (λ files. Reads (read files) (Err fault)) → StopsAs fault result
    → IfSome holds (λ files. IfOk result (λ a. after (read files) (next files) a.status a.bytes.items))
told_stopped None read next fault result reads stops = tt
told_stopped (Some files) read next fault result reads stops = stopped_by (read files) (next files) fault result reads stops

-- what is answered over two things that were read, the second by the first
pub told_both : {X Y : Type 0} → (holds : Option Files) (read : Files → Result X Fault) (other : Files → X → Result Y Fault) (next : X → Y → Outcome) (x : X) (y : Y) (status : ℕ) (bytes : List ℕ)
    → IfSome holds (λ files. Reads (read files) (Ok x)) → IfSome holds (λ files. Reads (other files x) (Ok y)) → next x y status bytes
    → IfSome holds (λ files. after (read files) (λ x. after (other files x) (next x)) status bytes)
told_both None read other next x y status bytes first second over = tt
told_both (Some files) read other next x y status bytes first second over =
    subst (λ r. after r (λ x. after (other files x) (next x)) status bytes) (sym first) (subst (λ r. after r (next x) status bytes) (sym second) over)

-- and where the second is not read
pub told_stopped_then : {X Y : Type 0} → (holds : Option Files) (read : Files → Result X Fault) (other : Files → X → Result Y Fault) (next : X → Y → Outcome) (x : X) (fault : ReadFault) (result : Result Answer Stop)
    → IfSome holds (λ files. Reads (read files) (Ok x)) → IfSome holds (λ files. Reads (other files x) (Err fault)) → StopsAs fault result
    → IfSome holds (λ files. IfOk result (λ a. after (read files) (λ x. after (other files x) (next x)) a.status a.bytes.items))
told_stopped_then None read other next x fault result first reads stops = tt
told_stopped_then (Some files) read other next x fault result first reads stops =
    subst (λ r. IfOk result (λ a. after r (λ x. after (other files x) (next x)) a.status a.bytes.items)) (sym first) (stopped_by (other files x) (next x) fault result reads stops)

-- a refusal is that of an absent file, whatever was to be read
pub absence_of : (X Y : Type 0) (fault : ReadFault) → IsAbsence {T = X} (Err fault) → IsAbsence {T = Y} (Err fault)
absence_of X Y (reading.Refused refusal) is = is
absence_of X Y reading.LoadFailed is = is
absence_of X Y reading.NoMemory is = is

-- a catalog that was read, and a set that was read with it
pub told_read : (holds now : Option Files) (catalog : Option (List ℕ)) (entry : List ℕ) (named : Named) (result : Result Declarations ReadFault) → now ≡ holds → IfSome holds (λ files. Reads (catalog_from files catalog) (Ok named))
    → IfSome now (λ files. Reads (set_from (record { files = files; catalog = named }) entry) result) → IfSome holds (λ files. Reads (set_of files catalog entry) result)
told_read None now catalog entry named result same named_is reads = tt
told_read (Some files) now catalog entry named result same named_is reads =
    let here : Reads (set_from (record { files = files; catalog = named }) entry) result = subst (λ o. IfSome o (λ files. Reads (set_from (record { files = files; catalog = named }) entry) result)) same reads in
    subst (λ c. Reads (c >>= λ it. set_from (record { files = files; catalog = it }) entry) result) (sym named_is) here

-- what is answered over one thing that was read
pub told_one : {X : Type 0} → (holds : Option Files) (read : Files → Result X Fault) (next : X → Outcome) (x : X) (status : ℕ) (bytes : List ℕ) → IfSome holds (λ files. Reads (read files) (Ok x)) → next x status bytes
    → IfSome holds (λ files. after (read files) next status bytes)
told_one None read next x status bytes reads over = tt
told_one (Some files) read next x status bytes reads over = subst (λ r. after r next status bytes) (sym reads) over

-- and where more is done over what was read
pub told_on : {X : Type 0} → (holds now : Option Files) (read : Files → Result X Fault) (next : Files → X → Outcome) (x : X) (result : Result Answer Stop) → now ≡ holds → IfSome holds (λ files. Reads (read files) (Ok x))
    → IfSome now (λ files. IfOk result (λ a. next files x a.status a.bytes.items)) → IfSome holds (λ files. IfOk result (λ a. after (read files) (next files) a.status a.bytes.items))
told_on None now read next x result same reads over = tt
told_on (Some files) now read next x result same reads over =
    let here = subst (λ o. IfSome o (λ files. IfOk result (λ a. next files x a.status a.bytes.items))) same over in
    subst (λ r. IfOk result (λ a. after r (next files) a.status a.bytes.items)) (sym reads) here
