-- What stands at the place of a text that is read.
use Rattle.std.proofs.Common.{◌≡◌, ◌∙◌, ℕ, ◌+◌, ◌-◌, ◌<◌, ◌≤◌, List, [], ◌∷◌, ◌++◌, length, take, drop, Ok, Some, None, IsTrue, IsSome, option_map, codes, refl, sym, ap, arith, subst, length-append}
use Rattle.std.specs.Prelude.{Option, slice_range}
use Rattle.std.proofs.lemmas.List.{drop-take, drop-drop, length-take-le, length-take, take-append-le, take_all, length-drop}
use Rattle.std.proofs.Math.Seq.{take-add, take-append_seam}
use Rattle.jats_chars.specs.Names.{is_name}
use Rattle.dtd_scanner.specs.Items.{Scans, IsReference}
use Rattle.dtd_scanner.specs.Parts.{contents_of}
use Rattle.dtd_scanner.specs.References.{named}
use Rattle.dtd_scanner.specs.Scanning.{answer_at, item_at}
use Rattle.dtd_scanner.specs.declared.item.Item.{Item}
use Rattle.dtd_scanner.specs.declared.item.ItemKind.{ItemKind}
use Rattle.dtd_scanner.specs.declared.item.ItemKind.TheVariants.{Reference}
use Rattle.dtd_scanner.proofs.Agreement.{scanning}
use Rattle.module_reader.specs.Frames.{Passage, Stands, rest_of}

-- a text that is there is found
pub never_none : {A B : Type 0} (f : A → B) (o : Option A) → IsSome o → None ≡ option_map f o → ⊥
never_none f None there none = cc
never_none f (Some a) there none = cc

-- the name is what stands between the first character and the last
name_between : (name rest : List ℕ) (n : ℕ) → n ≤ length rest → take n rest ≡ codes "%" ++ (name ++ codes ";") → take (n - 2) (drop 1 rest) ≡ name
name_between name rest n within is =
    let k = length name in
    let l = drop 1 rest in
    let long : n ≡ length name + 2 = omega (arith, length-take-le n rest within, simp length-append at (ap length is)) in
    let more : n ≡ 1 + (k + 1) = omega arith in
    let less : n - 2 ≡ k = omega arith in
    let inner : take (k + 1) l ≡ name ++ codes ";" = sym (drop-take 1 (k + 1) rest) ∙ ap (drop 1) (ap (λ m. take m rest) (sym more) ∙ is) in
    let room : k ≤ length l = omega (arith, length-drop 1 rest) in
    let front : length (take k l) ≡ k = length-take-le k l room in
    ap (λ m. take m l) less ∙ sym (take_all k (take k l) (omega (arith, front))) ∙ sym (take-append-le k (take k l) (take 1 (drop k l)) (omega (arith, front))) ∙ ap (take k) (sym (take-add k 1 l) ∙ inner) ∙ take-append_seam name (codes ";")

-- what is scanned at the place
stands_scans : (p : Passage) (kind : ItemKind) (next : ℕ) → Stands p kind next → Scans p.text p.at (Ok (record { kind = kind; end = next }))
stands_scans p kind next stands =
    let e : p.at + (next - p.at) ≡ next = omega (arith, stands.some) in
    (scanning p.text p.at (Ok (record { kind = kind; end = next }))).0 (sym (ap (answer_at p.at) stands.item ∙ ap (λ end. Ok (record { kind = kind; end = end })) e))

named_from : (p : Passage) (next : ℕ) → next ≤ length p.text → IsReference (slice_range p.text p.at next) → IsTrue (is_name (named (next - p.at) (rest_of p)))
named_from p next within (name, is, e) = subst (λ n. IsTrue (is_name n)) (sym (name_between name (rest_of p) (next - p.at) (omega (arith, length-drop p.at p.text)) e)) is

-- a reference has a Name
pub reference_name : (p : Passage) (next : ℕ) → Stands p Reference next → IsTrue (is_name (named (next - p.at) (rest_of p)))
reference_name p next stands = named_from p next stands.within (stands_scans p Reference next stands).is

-- parts of a text that is read
pub named_is : (text : List ℕ) (at next : ℕ) → at + 3 ≤ next → take (next - 1 - (at + 1)) (drop (at + 1) text) ≡ named (next - at) (drop at text)
named_is text at next long =
    let e : next - 1 - (at + 1) ≡ next - at - 2 = omega arith in
    ap (λ k. take k (drop (at + 1) text)) e ∙ ap (take (next - at - 2)) (sym (drop-drop 1 at text))

pub contents_are : (text : List ℕ) (at o next : ℕ) → at + o + 1 ≤ next → take (next - 1 - (at + o)) (drop (at + o) text) ≡ slice_range (drop at text) (0 + o) (next - at - 1)
contents_are text at o next long =
    let z : 0 + o ≡ o = omega arith in
    let e : next - 1 - (at + o) ≡ next - at - 1 - o = omega arith in
    rw z (ap (λ k. take k (drop (at + o) text)) e ∙ ap (take (next - at - 1 - o)) (sym (drop-drop o at text)))
