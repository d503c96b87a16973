-- Steps of the loops that read tokens.
use Rattle.std.proofs.Common.{◌≡◌, ◌∙◌, ℕ, suc, ◌+◌, ◌-◌, ◌<◌, ◌≤◌, List, [], ◌∷◌, ◌++◌, length, take, drop, get_or, Bool, true, false, Option, Some, None, refl, ap, sym, arith, append_assoc, length-append}
use Rattle.std.specs.Prelude.{option_map, option_and_then, nat_eq}
use Rattle.std.specs.List.{starts_with}
use Rattle.std.proofs.Math.Seq.{drop-cons, take-suc, drop-length}
use Rattle.std.proofs.lemmas.Bool.{cond-true, cond-false}
use Rattle.text_fronts.specs.Fronts.{Read, skipped}
use Rattle.text_fronts.proofs.Fronts.{map_some}
use Rattle.article_tree.specs.Tokens.{Raw}
use Rattle.article_tree.specs.Plain.{with_front, cut_at}
use Rattle.article_tree.specs.Taking.{behind, up_to, take_attribute, take_end, ended_or, in_front, take_attributes}
use Rattle.article_tree.proofs.Tags.{attribute_found, attribute_filled}

-- ---- up to a mark

-- these characters in front of those that stand before the mark
abbrev pub put_front : List ℕ → List ℕ × List ℕ → List ℕ × List ℕ
put_front front x = (front ++ x.0, x.1)

front_map : (front : List ℕ) (c : ℕ) (o : Read (List ℕ)) → option_map (put_front front) (option_map (λ x. (c ∷ x.0, x.1)) o) ≡ option_map (put_front (front ++ c ∷ [])) o
front_map front c None = refl
front_map front c (Some x) = ap (λ (t : List ℕ). Some (t, x.1)) (sym (append_assoc front (c ∷ []) x.0))

no_front : (o : Read (List ℕ)) → option_map (put_front []) o ≡ o
no_front None = refl
no_front (Some x) = refl

map_none : {X Y : Type 0} (f : X → Y) (o : Option X) → option_map f o ≡ None → o ≡ None
map_none f None e = refl
map_none f (Some x) e = cc

none_begins : (mark text : List ℕ) → behind mark text ≡ None → starts_with nat_eq text mark ≡ false
none_begins mark text e = by (starts_with nat_eq text mark) refl
  where
    by : (b : Bool) → starts_with nat_eq text mark ≡ b → starts_with nat_eq text mark ≡ false
    by false is = is
    by true is = (let f : None ≡ Some (drop (length mark) text) = sym e ∙ cond-true (starts_with nat_eq text mark) (Some (drop (length mark) text)) None is in cc)

some_begins : (mark text rest : List ℕ) → behind mark text ≡ Some rest → (starts_with nat_eq text mark ≡ true) × (drop (length mark) text ≡ rest)
some_begins mark text rest e = by (starts_with nat_eq text mark) refl
  where
    by : (b : Bool) → starts_with nat_eq text mark ≡ b → (starts_with nat_eq text mark ≡ true) × (drop (length mark) text ≡ rest)
    by true is = (is, (let f : Some (drop (length mark) text) ≡ Some rest = sym (cond-true (starts_with nat_eq text mark) (Some (drop (length mark) text)) None is) ∙ e in cc))
    by false is = (let f : None ≡ Some rest = sym (cond-false (starts_with nat_eq text mark) (Some (drop (length mark) text)) None is) ∙ e in cc)

-- the mark was not found so far
abbrev pub GoneTo : List ℕ → List ℕ → ℕ → Type 0
GoneTo mark text at = option_map (put_front (take at text)) (up_to mark (drop at text)) ≡ up_to mark text

pub gone_none : (mark text : List ℕ) → GoneTo mark text 0
gone_none mark text = no_front (up_to mark text)

pub gone_on : (mark text : List ℕ) (at : ℕ) → at < length text → cut_at mark text at ≡ None → GoneTo mark text at → GoneTo mark text (at + 1)
gone_on mark text at within none gone =
    let c = get_or text at 0 in
    let e : drop at text ≡ c ∷ drop (suc at) text = drop-cons text at 0 within in
    let next : at + 1 ≡ suc at = omega arith in
    let one : up_to mark (drop at text) ≡ option_map (λ x. (c ∷ x.0, x.1)) (up_to mark (drop (suc at) text)) =
    ap (up_to mark) e ∙ cond-false (starts_with nat_eq (c ∷ drop (suc at) text) mark) _ _ (ap (λ (t : List ℕ). starts_with nat_eq t mark) (sym e) ∙ none_begins mark (drop at text) (map_none (with_front (take at text)) (behind mark (drop at text)) none)) in
    rw next (ap (λ (t : List ℕ). option_map (put_front t) (up_to mark (drop (suc at) text))) (take-suc text at 0 within)
    ∙ sym (front_map (take at text) c (up_to mark (drop (suc at) text))) ∙ ap (option_map (put_front (take at text))) (sym one) ∙ gone)

pub gone_found : (mark text : List ℕ) (x : List ℕ × List ℕ) (at : ℕ) → at < length text → cut_at mark text at ≡ Some x → GoneTo mark text at → Some x ≡ up_to mark text
gone_found mark text x at within found gone =
    let m = map_some (with_front (take at text)) (behind mark (drop at text)) x found in
    let rest = m.0 in
    let c = get_or text at 0 in
    let e : drop at text ≡ c ∷ drop (suc at) text = drop-cons text at 0 within in
    let h = some_begins mark (drop at text) rest m.1 in
    let here : up_to mark (drop at text) ≡ Some ([], rest) =
    ap (up_to mark) e ∙ cond-true (starts_with nat_eq (c ∷ drop (suc at) text) mark) _ _ (ap (λ (t : List ℕ). starts_with nat_eq t mark) (sym e) ∙ h.0)
    ∙ ap (λ (t : List ℕ). Some ([], drop (length mark) t)) (sym e) ∙ ap (λ (t : List ℕ). Some ([], t)) h.1 in
    sym (sym gone ∙ ap (option_map (put_front (take at text))) here ∙ ap (λ (t : List ℕ). Some (t, rest)) (append_nil (take at text)) ∙ ap Some m.2)
  where
    append_nil : (xs : List ℕ) → xs ++ [] ≡ xs
    append_nil [] = refl
    append_nil (x ∷ xs) = ap (λ (t : List ℕ). x ∷ t) (append_nil xs)

pub gone_all : (mark text : List ℕ) → GoneTo mark text (length text) → None ≡ up_to mark text
gone_all mark text gone = sym (sym gone ∙ ap (λ (t : List ℕ). option_map (put_front (take (length text) text)) (up_to mark t)) (drop-length text))

-- ---- attributes

-- what is read behind an attribute is shorter
pub attribute_shortens : (text : List ℕ) (x : Raw × List ℕ) → take_attribute text ≡ Some x → length x.1 < length text
attribute_shortens text x e =
    let h = attribute_found text x e in
    let size : length text ≡ length h.0 + length x.1 = ap length h.2 ∙ length-append h.0 x.1 in
    omega (arith, size, attribute_filled h.0 x.0 h.1)

-- these attributes in front of those that are read
abbrev pub behind_these : List Raw → (List Raw × Bool) × List ℕ → (List Raw × Bool) × List ℕ
behind_these done x = ((done ++ x.0.0, x.0.1), x.1)

these_map : (done : List Raw) (raw : Raw) (o : Read (List Raw × Bool)) → option_map (behind_these done) (option_map (in_front raw) o) ≡ option_map (behind_these (done ++ raw ∷ [])) o
these_map done raw None = refl
these_map done raw (Some x) = ap (λ (t : List Raw). Some ((t, x.0.1), x.1)) (sym (append_assoc done (raw ∷ []) x.0.0))

no_these : (o : Read (List Raw × Bool)) → option_map (behind_these []) o ≡ o
no_these None = refl
no_these (Some x) = refl

pub shown : {X Y : Type 0} (f : X → Y) (x : X) (o : Option X) (said : Option Y) → o ≡ Some x → option_map f o ≡ said → said ≡ Some (f x)
shown f x o said is e = sym e ∙ ap (option_map f) is

pub shown_none : {X Y : Type 0} (f : X → Y) (o : Option X) (said : Option Y) → o ≡ None → option_map f o ≡ said → said ≡ None
shown_none f o said is e = sym e ∙ ap (option_map f) is

-- these attributes were read, and this is the rest
pub record ReadTo (text : List ℕ) (done : List Raw) (rest : List ℕ) : Type 0 where
  pub few : length rest + length done ≤ length text
  pub same : option_map (behind_these done) (take_attributes (suc (length text - length done)) rest) ≡ take_attributes (suc (length text)) text

pub read_none : (text : List ℕ) → ReadTo text [] text
read_none text =
    let whole : length text - 0 ≡ length text = omega arith in
    record { few = omega arith; same = ap (λ (n : ℕ). option_map (behind_these []) (take_attributes (suc n) text)) whole ∙ no_these (take_attributes (suc (length text)) text) }

pub read_end : (text rest : List ℕ) (done : List Raw) (x : Bool × List ℕ) → ReadTo text done rest → take_end (skipped rest) ≡ Some x → Some ((done, x.0), x.1) ≡ take_attributes (suc (length text)) text
unfolding take_attributes
read_end text rest done x h e =
    let n = length text - length done in
    sym (sym h.same ∙ ap (λ (o : Read Bool). option_map (behind_these done) (ended_or (λ text. option_and_then (λ a. option_map (in_front a.0) (take_attributes n a.1)) (take_attribute text)) rest o)) e
    ∙ ap (λ (t : List Raw). Some ((t, x.0), x.1)) (append_nil done))
  where
    append_nil : (xs : List Raw) → xs ++ [] ≡ xs
    append_nil [] = refl
    append_nil (x ∷ xs) = ap (λ (t : List Raw). x ∷ t) (append_nil xs)

pub read_no : (text rest : List ℕ) (done : List Raw) → ReadTo text done rest → take_end (skipped rest) ≡ None → take_attribute rest ≡ None → None ≡ take_attributes (suc (length text)) text
unfolding take_attributes
read_no text rest done h e f =
    let n = length text - length done in
    sym (sym h.same ∙ ap (λ (o : Read Bool). option_map (behind_these done) (ended_or (λ text. option_and_then (λ a. option_map (in_front a.0) (take_attributes n a.1)) (take_attribute text)) rest o)) e
    ∙ ap (λ (o : Read Raw). option_map (behind_these done) (option_and_then (λ a. option_map (in_front a.0) (take_attributes n a.1)) o)) f)

pub read_one : (text rest : List ℕ) (done : List Raw) (x : Raw × List ℕ) → ReadTo text done rest → take_end (skipped rest) ≡ None → take_attribute rest ≡ Some x → ReadTo text (done ++ x.0 ∷ []) x.1
unfolding take_attributes
read_one text rest done x h e f =
    let n = length text - length done in
    let size : length (done ++ x.0 ∷ []) ≡ length done + 1 = length-append done (x.0 ∷ []) in
    let short = attribute_shortens rest x f in
    let fewer : n ≡ suc (length text - length (done ++ x.0 ∷ [])) = omega (arith, size, short, h.few) in
    record {
      few = omega (arith, size, short, h.few);
      same = sym (these_map done x.0 (take_attributes (suc (length text - length (done ++ x.0 ∷ []))) x.1))
          ∙ ap (λ (m : ℕ). option_map (behind_these done) (option_map (in_front x.0) (take_attributes m x.1))) (sym fewer)
          ∙ sym (ap (λ (o : Read Bool). option_map (behind_these done) (ended_or (λ text. option_and_then (λ a. option_map (in_front a.0) (take_attributes n a.1)) (take_attribute text)) rest o)) e
          ∙ ap (λ (o : Read Raw). option_map (behind_these done) (option_and_then (λ a. option_map (in_front a.0) (take_attributes n a.1)) o)) f)
          ∙ h.same;
    }
