-- The equations of spelling.
use Rattle.std.proofs.Common.{◌≡◌, List, [], ◌∷◌, ◌++◌, ℕ, zero, suc, ◌+◌, ◌<◌, ◌≤◌, length, map, take, get_or, sym, ap, ◌∙◌, arith}
use Rattle.std.proofs.lemmas.List.{append_assoc, append-nil, map-append, take_more}
use Rattle.content_models.specs.Model.{Chars}
use Rattle.content_models.specs.Grammar.{mark}
use Rattle.content_models.specs.Spelling.{behind, joined, group, spell_layer, spelled}
use Rattle.content_models.specs.declared.content.Occurs.{Occurs}
use Rattle.content_models.specs.declared.content.Particle.{Particle}
use Rattle.content_models.specs.declared.content.Particle.TheVariants.{One, Seq, Choice}
use Rattle.content_models.proofs.Layers.{fold-One, fold-Seq, fold-Choice}

pub spelled-One : (n : Chars) (o : Occurs) → spelled (One n o) ≡ n ++ mark o
unfolding spelled
spelled-One = fold-One spell_layer

pub spelled-Seq : (ps : List Particle) (o : Occurs) → spelled (Seq ps o) ≡ group 44 (map spelled ps) o
unfolding spelled
spelled-Seq = fold-Seq spell_layer

pub spelled-Choice : (ps : List Particle) (o : Occurs) → spelled (Choice ps o) ≡ group 124 (map spelled ps) o
unfolding spelled
spelled-Choice = fold-Choice spell_layer

pub ruleset spellings = (spelled-One, spelled-Seq, spelled-Choice)

pub behind-push : (sep : ℕ) (ws : List Chars) (w : Chars) → behind sep (ws ++ w ∷ []) ≡ behind sep ws ++ sep ∷ w
behind-push sep [] w = ap (λ k. sep ∷ k) (append-nil w)
behind-push sep (v ∷ ws) w =
    ap (λ k. sep ∷ (v ++ k)) (behind-push sep ws w) ∙ ap (λ k. sep ∷ k) (sym (append_assoc v (behind sep ws) (sep ∷ w)))

joined-push : (sep : ℕ) (ws : List Chars) (w : Chars) → 0 < length ws → joined sep (ws ++ w ∷ []) ≡ (joined sep ws ++ sep ∷ []) ++ w
joined-push sep [] w h = absurd (omega arith)
joined-push sep (v ∷ ws) w h =
    ap (λ k. v ++ k) (behind-push sep ws w) ∙ sym (append_assoc v (behind sep ws) (sep ∷ w))
    ∙ sym (append_assoc (v ++ behind sep ws) (sep ∷ []) w)

-- one more part, at the start and later
pub part_first : (sep : ℕ) (ps : List Particle) (i : ℕ) (d : Particle) (was out new : Chars) → i < length ps → i ≤ 0
    → out ≡ was ++ joined sep (map spelled (take i ps)) → new ≡ out ++ spelled (get_or ps i d)
    → new ≡ was ++ joined sep (map spelled (take (i + 1) ps))
part_first sep [] i d was out new h z e f = absurd (omega arith)
part_first sep (p ∷ ps) zero d was out new h z e f =
    f ∙ ap (λ k. k ++ spelled p) (e ∙ append-nil was) ∙ ap (λ k. was ++ k) (sym (append-nil (spelled p)))
part_first sep (p ∷ ps) (suc i) d was out new h z e f = absurd (omega arith)

length-front : (ps : List Particle) (i : ℕ) → 0 < i → i < length ps → 0 < length (map spelled (take i ps))
length-front [] i h l = absurd (omega arith)
length-front (p ∷ ps) zero h l = absurd (omega arith)
length-front (p ∷ ps) (suc i) h l = omega arith

pub part_later : (sep : ℕ) (ps : List Particle) (i : ℕ) (d : Particle) (was out mid new : Chars) → i < length ps → 0 < i
    → out ≡ was ++ joined sep (map spelled (take i ps)) → mid ≡ out ++ sep ∷ [] → new ≡ mid ++ spelled (get_or ps i d)
    → new ≡ was ++ joined sep (map spelled (take (i + 1) ps))
part_later sep ps i d was out mid new h z e f g =
    let front = map spelled (take i ps) in
    let w = spelled (get_or ps i d) in
    g ∙ ap (λ k. k ++ w) (f ∙ ap (λ k. k ++ sep ∷ []) e)
    ∙ ap (λ k. k ++ w) (append_assoc was (joined sep front) (sep ∷ []))
    ∙ append_assoc was (joined sep front ++ sep ∷ []) w
    ∙ ap (λ k. was ++ k) (sym (joined-push sep front w (length-front ps i z h)))
    ∙ ap (λ k. was ++ joined sep k) (sym (map-append spelled (take i ps) (get_or ps i d ∷ [])))
    ∙ ap (λ k. was ++ joined sep (map spelled k)) (sym (take_more ps i d h))

-- one more name
pub name_more : (sep : ℕ) (ns : List Chars) (i : ℕ) (name was out mid new : Chars) → i < length ns → name ≡ get_or ns i name
    → out ≡ was ++ behind sep (take i ns) → mid ≡ out ++ sep ∷ [] → new ≡ mid ++ name → new ≡ was ++ behind sep (take (i + 1) ns)
name_more sep ns i name was out mid new h n e f g =
    g ∙ ap (λ k. k ++ name) (f ∙ ap (λ k. k ++ sep ∷ []) e)
    ∙ append_assoc (was ++ behind sep (take i ns)) (sep ∷ []) name
    ∙ append_assoc was (behind sep (take i ns)) (sep ∷ name)
    ∙ ap (λ k. was ++ k) (sym (behind-push sep (take i ns) name))
    ∙ ap (λ k. was ++ behind sep k) (ap (λ m. take i ns ++ m ∷ []) n ∙ sym (take_more ns i name h))
