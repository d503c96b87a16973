-- What the test of two lists answers.
use Rattle.std.proofs.Common.{◌≡◌, Bool, true, false, not, Option, Some, None, is_some, refl, IsTrue}
use Rattle.std.specs.Prelude.{◌↔◌}
use Rattle.std.proofs.lemmas.Bool.{both_ways}
use Rattle.attlist_merge.specs.Lists as lists
use Rattle.attlist_merge.specs.Lists.{Definitions}
use Rattle.attlist_merge.specs.Values.{CoversList, is_right}
use Rattle.attlist_merge.specs.Oddness.{odd_of, shown_by, Tells}
use Rattle.attlist_merge.specs.declared.odd.OddAtt.{OddAtt}
use Rattle.attlist_merge.proofs.Showing.{odd_tells}

pub covered_odd : (a b : Definitions) (r : Bool) → lists.IsKept a → lists.IsKept b → IsTrue r ↔ CoversList a b → not r ≡ is_some (odd_of a b)
covered_odd a b r k l h = by (odd_of a b) (odd_tells a b k l) r h
  where
    by : (o : Option OddAtt) → Tells a b o → (r : Bool) → IsTrue r ↔ CoversList a b → not r ≡ is_some o
    by None t true h = refl
    by None t false h = absurd (both_ways false refl (h.1 t))
    by (Some o) t true h = absurd (both_ways (is_right b (shown_by o a)) t.1 (h.0 refl (shown_by o a) t.0))
    by (Some o) t false h = refl
