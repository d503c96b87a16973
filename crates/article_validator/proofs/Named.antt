-- A set of names that grows by those of the attributes in turn.
use Rattle.std.proofs.Common.{◌≡◌, ◌∙◌, ℕ, List, [], ◌∷◌, ◌++◌, Bool, true, false, refl, ap, sym, Bor, bytes_eq}
use Rattle.std.specs.Prelude.{if◌then◌else◌, ◌||◌}
use Rattle.std.proofs.lemmas.Slice.Eq.{bytes_eq-Decides}
use Rattle.document_trees.specs.Trees.{Attribute, has_attribute}
use Rattle.article_validator.specs.Specified.{is_in, HaveNames}

-- the names in the set are those of the attributes that are no longer left
abbrev pub NamedTo : List Attribute → List (Bor (List ℕ)) → List Attribute → Type 0
NamedTo atts keys rest = (name : List ℕ) → (is_in keys name || has_attribute rest name) ≡ has_attribute atts name

pub named_none : (atts : List Attribute) (keys : List (Bor (List ℕ))) → keys ≡ [] → NamedTo atts keys atts
named_none atts keys is name = ap (λ ks. is_in ks name || has_attribute atts name) is

pub named_all : (atts : List Attribute) (keys : List (Bor (List ℕ))) (rest : List Attribute) → NamedTo atts keys rest → rest ≡ [] → HaveNames keys atts
named_all atts keys rest h none name = sym (or_false (is_in keys name)) ∙ (ap (λ r. is_in keys name || has_attribute r name) (sym none) ∙ h name)
  where
    or_false : (b : Bool) → (b || false) ≡ b
    or_false true = refl
    or_false false = refl

in_last : (name : List ℕ) (keys : List (Bor (List ℕ))) (key : Bor (List ℕ)) → is_in (keys ++ key ∷ []) name ≡ (is_in keys name || bytes_eq name key.now)
in_last name [] key = or_last (bytes_eq name key.now)
  where
    or_last : (b : Bool) → (b || false) ≡ b
    or_last true = refl
    or_last false = refl
in_last name (k ∷ keys) key = elim (bytes_eq name k.now) as (λ b. (b || is_in (keys ++ key ∷ []) name) ≡ ((b || is_in keys name) || bytes_eq name key.now)) [ true ↦ refl | false ↦ in_last name keys key ]

-- a name that is there already adds nothing
in_already : (keys : List (Bor (List ℕ))) (one name : List ℕ) (b : Bool) → bytes_eq name one ≡ b → is_in keys one ≡ true → is_in keys name ≡ (is_in keys name || b)
in_already keys one name true same there = let here : is_in keys name ≡ true = ap (is_in keys) ((bytes_eq-Decides name one).0 same) ∙ there in rw here refl
in_already keys one name false same there = or_none (is_in keys name)
  where
    or_none : (b : Bool) → b ≡ (b || false)
    or_none true = refl
    or_none false = refl

in_more : (keys : List (Bor (List ℕ))) (key : Bor (List ℕ)) (one name : List ℕ) (b : Bool) → key.now ≡ one → is_in keys one ≡ b → is_in (if b then keys else keys ++ key ∷ []) name ≡ (is_in keys name || bytes_eq name one)
in_more keys key one name true same there = in_already keys one name (bytes_eq name one) refl there
in_more keys key one name false same there = in_last name keys key ∙ ap (λ t. is_in keys name || bytes_eq name t) same

pub named_next : (atts : List Attribute) (keys now : List (Bor (List ℕ))) (key : Bor (List ℕ)) (a : Attribute) (rest : List Attribute) → NamedTo atts keys (a ∷ rest) → key.now ≡ a.0
    → now ≡ (if is_in keys a.0 then keys else keys ++ key ∷ []) → NamedTo atts now rest
named_next atts keys now key a rest h same behind name =
    ap (λ ks. is_in ks name || has_attribute rest name) behind
    ∙ (ap (λ b. b || has_attribute rest name) (in_more keys key a.0 name (is_in keys a.0) same refl) ∙ (or_assoc (is_in keys name) (bytes_eq name a.0) (has_attribute rest name) ∙ h name))
  where
    or_assoc : (a b c : Bool) → ((a || b) || c) ≡ (a || (b || c))
    or_assoc true b c = refl
    or_assoc false b c = refl

pub named_on : (atts : List Attribute) (keys now : List (Bor (List ℕ))) (key : Bor (List ℕ)) (a : Attribute) (left rest : List Attribute) → left ≡ a ∷ rest → NamedTo atts keys left → key.now ≡ a.0
    → now ≡ (if is_in keys a.0 then keys else keys ++ key ∷ []) → NamedTo atts now rest
named_on atts keys now key a left rest is h same behind = named_next atts keys now key a rest (rw is at h) same behind
