-- The words of a linear model are local.
use Rattle.std.proofs.Common.{◌≡◌, List, [], ◌∷◌, ◌++◌, ℕ, zero, suc, ◌⊎◌, inl, inr, refl, sym, ap, ◌∙◌, subst}
use Rattle.std.proofs.lemmas.List.{append_assoc, append-nil}
use Rattle.content_models.specs.Re.{Re, Eps, Sym, Cat, Alt, Plus, Times, Generates}
use Rattle.position_automata.proofs.Words.{Local, Holds, Linear}

abbrev pub Split : {A : Type 0} → (p q u v : List A) → A → Type 0
Split {A} p q u v x =
    ((v' : List A) × (p ≡ u ++ x ∷ v') × (v ≡ v' ++ q))
    ⊎ ((u' : List A) × (q ≡ u' ++ x ∷ v) × (u ≡ p ++ u'))

pub split : {A : Type 0} (p q u v : List A) (x : A) → p ++ q ≡ u ++ x ∷ v → Split p q u v x
split [] q u v x e = inr (u, e, refl)
split (y ∷ p) q [] v x e = inl (p, (let h : y ≡ x = cc in cc), cc)
split (y ∷ p) q (z ∷ u) v x e =
    let h : p ++ q ≡ u ++ x ∷ v = cc in
    let k : y ≡ z = cc in
    elim (split p q u v x h) [
      | inl t ↦ inl (t.0, (let h1 = t.1 in cc), t.2)
      | inr t ↦ inr (t.0, t.1, (let h2 = t.2 in cc))
    ]

-- a letter of a word is a letter of the model
pub holds-times : {A : Type 0} (P : List A → Type 0) (Q : Type 0) (x : A)
    → ((u v : List A) → P (u ++ x ∷ v) → Q)
    → (n : ℕ) (u v : List A) → Times P n (u ++ x ∷ v) → Q
holds-times P Q x f zero u v d = f u v d
holds-times P Q x f (suc n) u v d =
    elim (split d.0 d.1 u v x (sym d.2)) [
      | inl t ↦ f u t.0 (subst P t.1 d.3)
      | inr t ↦ holds-times P Q x f n t.0 v (subst (Times P n) t.1 d.4)
    ]

pub holds-word : {A : Type 0} (r : Re A) (x : A) (u v : List A) → Generates r (u ++ x ∷ v) → Holds r x
holds-word Eps x [] v d = let e : x ∷ v ≡ [] = d in cc
holds-word Eps x (y ∷ u) v d = let e : y ∷ (u ++ x ∷ v) ≡ [] = d in cc
holds-word (Sym a) x [] v d = let e : x ∷ v ≡ a ∷ [] = d in cc
holds-word (Sym a) x (y ∷ []) v d = let e : y ∷ x ∷ v ≡ a ∷ [] = d in cc
holds-word (Sym a) x (y ∷ z ∷ u) v d = let e : y ∷ z ∷ (u ++ x ∷ v) ≡ a ∷ [] = d in cc
holds-word (Cat r s) x u v d =
    elim (split d.0 d.1 u v x (sym d.2)) [
      | inl t ↦ inl (holds-word r x u t.0 (subst (Generates r) t.1 d.3))
      | inr t ↦ inr (holds-word s x t.0 v (subst (Generates s) t.1 d.4))
    ]
holds-word (Alt r s) x u v (inl d) = inl (holds-word r x u v d)
holds-word (Alt r s) x u v (inr d) = inr (holds-word s x u v d)
holds-word (Plus r) x u v d =
    holds-times (Generates r) (Holds r x) x (λ p q. holds-word r x p q) d.0 u v d.1

-- what follows a letter in some block, and the blocks after it
abbrev pub Rest : {A : Type 0} → (List A → Type 0) → List A → Type 0
Rest P w = (w ≡ []) ⊎ ((n : ℕ) × Times P n w)

abbrev pub Cut : {A : Type 0} → (List A → Type 0) → A → List A → Type 0
Cut {A} P x v = (b : List A) × (c : List A) × (w : List A) × (v ≡ c ++ w) × P (b ++ x ∷ c) × Rest P w

pub cut : {A : Type 0} (P : List A → Type 0) (x : A) (n : ℕ) (u v : List A) → Times P n (u ++ x ∷ v) → Cut P x v
cut P x zero u v d = (u, v, [], sym (append-nil v), d, inl refl)
cut P x (suc n) u v d =
    elim (split d.0 d.1 u v x (sym d.2)) [
      | inl t ↦ (u, t.0, d.1, t.2, subst P t.1 d.3, inr (n, d.4))
      | inr t ↦ cut P x n t.0 v (subst (Times P n) t.1 d.4)
    ]

-- a block, then the rest
pub block : {A : Type 0} (P : List A → Type 0) (w r : List A) → P w → Rest P r → (n : ℕ) × Times P n (w ++ r)
block P w r p (inl e) = (zero, subst P (sym (ap (λ k. w ++ k) e ∙ append-nil w)) p)
block P w r p (inr t) = (suc t.0, (w, r, refl, p, t.1))

seam : {A : Type 0} (u w v q : List A) (x : A) → v ≡ w ++ q → u ++ x ∷ v ≡ (u ++ x ∷ w) ++ q
seam u w v q x e = ap (λ k. u ++ x ∷ k) e ∙ sym (append_assoc u (x ∷ w) q)

seam_front : {A : Type 0} (u p t w : List A) → u ≡ p ++ t → u ++ w ≡ p ++ (t ++ w)
seam_front u p t w e = ap (λ k. k ++ w) e ∙ append_assoc p t w

pub glue : {A : Type 0} (P : List A → Type 0) (x : A) → Local P
    → (n : ℕ) (u v b c w : List A) → Times P n (u ++ x ∷ v) → P (b ++ x ∷ c) → Rest P w
    → (k : ℕ) × Times P k (u ++ x ∷ (c ++ w))
glue P x l zero u v b c w d p r =
    let t = block P (u ++ x ∷ c) w (l x u v b c d p) r in
    (t.0, subst (Times P t.0) (append_assoc u (x ∷ c) w) t.1)
glue P x l (suc n) u v b c w d p r =
    elim (split d.0 d.1 u v x (sym d.2)) [
      | inl t ↦
          let k = block P (u ++ x ∷ c) w (l x u t.0 b c (subst P t.1 d.3) p) r in
          (k.0, subst (Times P k.0) (append_assoc u (x ∷ c) w) k.1)
      | inr t ↦
          let k = glue P x l n t.0 v b c w (subst (Times P n) t.1 d.4) p r in
          (suc k.0, (d.0, t.0 ++ x ∷ (c ++ w), seam_front u d.0 t.0 (x ∷ (c ++ w)) t.2, d.3, k.1))
    ]

local-cat : {A : Type 0} (r s : Re A) → ((x : A) → Holds r x → Holds s x → ⊥)
    → Local (Generates r) → Local (Generates s) → Local (Generates (Cat r s))
local-cat r s apart lr ls x u v u' v' d e =
    elim (split d.0 d.1 u v x (sym d.2)) [
      | inl t ↦
          elim (split e.0 e.1 u' v' x (sym e.2)) [
            | inl k ↦ (
              u ++ x ∷ k.0,
              e.1,
              seam u k.0 v' e.1 x k.2,
              lr x u t.0 u' k.0 (subst (Generates r) t.1 d.3) (subst (Generates r) k.1 e.3),
              e.4,
            )
            | inr k ↦ absurd (apart x (holds-word r x u t.0 (subst (Generates r) t.1 d.3))
                (holds-word s x k.0 v' (subst (Generates s) k.1 e.4)))
          ]
      | inr t ↦
          elim (split e.0 e.1 u' v' x (sym e.2)) [
            | inl k ↦ absurd (apart x (holds-word r x u' k.0 (subst (Generates r) k.1 e.3))
                (holds-word s x t.0 v (subst (Generates s) t.1 d.4)))
            | inr k ↦ (
              d.0,
              t.0 ++ x ∷ v',
              seam_front u d.0 t.0 (x ∷ v') t.2,
              d.3,
              ls x t.0 v k.0 v' (subst (Generates s) t.1 d.4) (subst (Generates s) k.1 e.4),
            )
          ]
    ]

local-alt : {A : Type 0} (r s : Re A) → ((x : A) → Holds r x → Holds s x → ⊥)
    → Local (Generates r) → Local (Generates s) → Local (Generates (Alt r s))
local-alt r s apart lr ls x u v u' v' (inl d) (inl e) = inl (lr x u v u' v' d e)
local-alt r s apart lr ls x u v u' v' (inl d) (inr e) = absurd (apart x (holds-word r x u v d) (holds-word s x u' v' e))
local-alt r s apart lr ls x u v u' v' (inr d) (inl e) = absurd (apart x (holds-word r x u' v' e) (holds-word s x u v d))
local-alt r s apart lr ls x u v u' v' (inr d) (inr e) = inr (ls x u v u' v' d e)

local-sym : {A : Type 0} (a : A) → Local (λ w. w ≡ a ∷ [])
local-sym a x [] v [] v' d e = e
local-sym a x [] v (y ∷ []) v' d e = cc
local-sym a x [] v (y ∷ z ∷ u') v' d e = cc
local-sym a x (y ∷ []) v u' v' d e = cc
local-sym a x (y ∷ z ∷ u) v u' v' d e = cc

local-eps : {A : Type 0} → Local (λ (w : List A). w ≡ [])
local-eps x [] v u' v' d e = cc
local-eps x (y ∷ u) v u' v' d e = cc

local-plus : {A : Type 0} (P : List A → Type 0) → Local P → Local (λ w. (n : ℕ) × Times P n w)
local-plus P l x u v u' v' d e =
    let c = cut P x e.0 u' v' e.1 in
    let k = glue P x l d.0 u v c.0 c.1 c.2 d.1 c.4 c.5 in
    (k.0, subst (λ w. Times P k.0 (u ++ x ∷ w)) (sym c.3) k.1)

pub local : {A : Type 0} (r : Re A) → Linear r → Local (Generates r)
local Eps l = local-eps
local (Sym a) l = local-sym a
local (Cat r s) l = local-cat r s l.2 (local r l.0) (local s l.1)
local (Alt r s) l = local-alt r s l.2 (local r l.0) (local s l.1)
local (Plus r) l = local-plus (Generates r) (local r l)
