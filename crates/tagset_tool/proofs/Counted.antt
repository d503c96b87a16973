-- Sums of what is found at places.
use Rattle.std.proofs.Common.{◌≡◌, ◌∙◌, ◌+◌, ◌<◌, ℕ, List, Some, get_or, length, take, sym, ap, slice_get}
use Rattle.std.specs.List.{sum_by}
use Rattle.std.proofs.lemmas.List.Sums.{sum_by_more}
use Rattle.std.proofs.lemmas.Option.{slice_get_within, slice_get-get_or}

-- what stands at a place is within the list, and goes into the sum
pub sum_next : {X : Type 0} (f : X → ℕ) (xs : List X) (k : ℕ) (e : X) → Some e ≡ slice_get xs k → (k < length xs) × (sum_by f (take (k + 1) xs) ≡ sum_by f (take k xs) + f e)
sum_next f xs k e at =
    let within = slice_get_within xs k e (sym at) in
    let here : Some (get_or xs k e) ≡ Some e = sym (slice_get-get_or xs k e within) ∙ sym at in
    let same : get_or xs k e ≡ e = cc in
    (within, sum_by_more f xs k e within ∙ ap (λ y. sum_by f (take k xs) + f y) same)
