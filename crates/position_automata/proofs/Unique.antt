-- A content has one judgement.
use Rattle.std.proofs.Common.{◌≡◌, ◌<◌, ◌≤◌, ◌-◌, ℕ, List, [], length, get_or, map, Result, Ok, Err, inl, inr, sym, ap, ◌∙◌, subst, arith}
use Rattle.std.specs.List.{sum_by}
use Rattle.std.proofs.lemmas.Bool.{cases_order}
use Rattle.std.proofs.lemmas.List.{ext_get_or, get_or_default}
use Rattle.content_models.specs.declared.content.Content.{Content}
use Rattle.content_models.specs.declared.content.Content.TheVariants.{Empty, Any, Mixed, Children}
use Rattle.content_models.specs.declared.content.Particle.{Particle}
use Rattle.content_models.specs.Model.{Chars, model}
use Rattle.content_models.specs.Re.{Re}
use Rattle.position_automata.specs.Automata.{states, IsDeterministic, IsSteps, IsFollows, IsAmbiguous}
use Rattle.position_automata.specs.Judged.{Judges, name_at}
use Rattle.position_automata.specs.Marked.{Follows}
use Rattle.position_automata.specs.Places.{letters}
use Rattle.position_automata.proofs.Meaning.{follows_at, to_member, contains_of}
use Rattle.position_automata.proofs.Rising.{rises_of, same_list}
use Rattle.position_automata.proofs.States.{one_state_follows}

-- the name at a position that follows
pub name_of : (r : Re Chars) (i j : ℕ) (a : Chars) → Follows r i a j → name_at (letters r) j ≡ a
name_of r i j a f =
    let s = follows_at r i j a f in
    let e : j - 1 ≡ s.0 = omega (arith, s.1) in
    ap (λ m. get_or (letters r) m []) e ∙ get_or_default (letters r) s.0 [] a s.2 ∙ s.3

-- a state has one list of steps
pub steps_one : (content : Content) (i : ℕ) (s t : List (Chars × ℕ)) → IsSteps content i s → IsSteps content i t → s ≡ t
steps_one Empty i s t a b = a ∙ sym b
steps_one Any i s t a b = a ∙ sym b
steps_one (Mixed listed) i s t a b = a ∙ sym b
steps_one (Children part) i s t a b =
    same_list 0 s t (rises_of (map (λ s. s.1) s) a.0) (rises_of (map (λ s. s.1) t) b.0)
    (λ x m. to_member t x ((b.1 x.0 x.1).1 ((a.1 x.0 x.1).0 (contains_of s x m))))
    (λ x m. to_member s x ((a.1 x.0 x.1).1 ((b.1 x.0 x.1).0 (contains_of t x m))))

follows_one : (content : Content) (m n : ℕ) → IsFollows content m → IsFollows content n → m ≡ n
follows_one content m n a b =
    let e : a.0 ≡ b.0 = ext_get_or [] a.0 b.0 (a.1 ∙ sym b.1) (λ i h.
    let l : i < states content = subst (λ (k : ℕ). i < k) a.1 h in
    steps_one content i (get_or a.0 i []) (get_or b.0 i []) (a.2 i l) (b.2 i l)) in
    a.3 ∙ ap (λ (rows : List (List (Chars × ℕ))). sum_by length rows) e ∙ sym b.3

ambiguous_not : (content : Content) (p q : ℕ) → IsDeterministic content → IsAmbiguous content p q → ⊥
ambiguous_not content p q d a = a.apart ((one_state_follows content).0 d a.state p q a.name a.first a.second)

state_same : (content : Content) (p q p' q' : ℕ) (a : IsAmbiguous content p q) (b : IsAmbiguous content p' q') → a.state ≡ b.state
state_same content p q p' q' a b = elim (cases_order a.state b.state) [
  | inl e ↦ e
  | inr (inl h) ↦ absurd (a.apart (b.least_state a.state p q a.name h a.first a.second))
  | inr (inr h) ↦ absurd (b.apart (a.least_state b.state p' q' b.name h b.first b.second))
]

first_least : (part : Particle) (p q p' q' : ℕ) (a : IsAmbiguous (Children part) p q) (b : IsAmbiguous (Children part) p' q') → p ≤ p'
first_least part p q p' q' a b =
    let e : b.state ≡ a.state = state_same (Children part) p' q' p q b a in
    a.least_first p' q' b.name
    (subst (λ (k : ℕ). Follows (model part) k b.name p') e b.first)
    (subst (λ (k : ℕ). Follows (model part) k b.name q') e b.second)
    b.apart

second_least : (part : Particle) (p q p' q' : ℕ) → p ≡ p' → (a : IsAmbiguous (Children part) p q) (b : IsAmbiguous (Children part) p' q') → q ≤ q'
second_least part p q p' q' same a b =
    let r = model part in
    let e : b.state ≡ a.state = state_same (Children part) p' q' p q b a in
    let n : b.name ≡ a.name =
    sym (name_of r b.state p' b.name b.first) ∙ ap (name_at (letters r)) (sym same) ∙ name_of r a.state p a.name a.first in
    a.least_second q'
    (subst (λ (x : Chars). Follows r a.state x q') n (subst (λ (k : ℕ). Follows r k b.name q') e b.second))
    (λ z. b.apart (sym same ∙ z))

ambiguous_one : (content : Content) (p q p' q' : ℕ) → IsAmbiguous content p q → IsAmbiguous content p' q' → (p ≡ p') × (q ≡ q')
ambiguous_one Empty p q p' q' a b = absurd a.first
ambiguous_one Any p q p' q' a b = absurd (a.apart (a.first.1 ∙ sym a.second.1))
ambiguous_one (Mixed listed) p q p' q' a b = absurd (a.apart (a.first.2 ∙ sym a.second.2))
ambiguous_one (Children part) p q p' q' a b =
    let h : p ≤ p' = first_least part p q p' q' a b in
    let k : p' ≤ p = first_least part p' q' p q b a in
    let e : p ≡ p' = omega arith in
    let l : q ≤ q' = second_least part p q p' q' e a b in
    let m : q' ≤ q = second_least part p' q' p q (sym e) b a in
    (e, omega arith)

pub judges_one : (content : Content) (a b : Result ℕ (ℕ × ℕ)) → Judges content a → Judges content b → a ≡ b
judges_one content (Ok m) (Ok n) a b = ap (λ k. Ok k) (follows_one content m n a.1 b.1)
judges_one content (Ok m) (Err d) a b = absurd (ambiguous_not content d.0 d.1 a.0 b)
judges_one content (Err c) (Ok n) a b = absurd (ambiguous_not content c.0 c.1 b.0 a)
judges_one content (Err c) (Err d) a b =
    let t = ambiguous_one content c.0 c.1 d.0 d.1 a b in
    ap (λ (k : ℕ). Err (k, c.1)) t.0 ∙ ap (λ (k : ℕ). Err (d.0, k)) t.1
