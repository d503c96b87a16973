use Rattle.std.proofs.Common.{◌≡◌, ◌+◌, ◌-◌, ◌<◌, ℕ, List, get_or, length, take, drop, arith, ◌∙◌, sym}
use Rattle.std.proofs.lemmas.List.{ext_get_or, get_or-drop, get_or-take, length-drop, length-take-le}
use Rattle.jats_chars.proofs.text.shift_down.Goals as goal

moved_all : (xs ys : List ℕ) (n left : ℕ) → left + n ≡ length ys → length xs ≡ length ys → ((j d : ℕ) → j < left → get_or xs j d ≡ get_or ys (n + j) d) → take left xs ≡ drop n ys
moved_all xs ys n left fits long moved =
    let front : length (take left xs) ≡ left = length-take-le left xs (omega arith) in
    let back : length (drop n ys) ≡ left = omega (arith, length-drop n ys) in
    ext_get_or 0 (take left xs) (drop n ys) (front ∙ sym back)
    (λ i lt. let below : i < left = omega (arith, front) in get_or-take left xs i 0 below ∙ moved i 0 below ∙ sym (get_or-drop n ys i 0))

pub returns : goal.returns
returns c =
    c.truncate.ensures.items
    ∙ moved_all c.loop-k.chars.items c.args.chars.now.items c.args.dropped (c.len.result - c.args.dropped) (omega (arith, c.args.chars.now.ok.0, c.len.ensures)) (sym c.loop-k.chars.ok.0 ∙ c.loop-k.invariant.len ∙ c.args.chars.now.ok.0) (λ j d lt. c.loop-k.invariant.moved j d (omega arith))
