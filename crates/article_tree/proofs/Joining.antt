-- Items behind items.
use Rattle.std.proofs.Common.{◌≡◌, ◌∙◌, ℕ, Bool, true, false, List, ◌++◌, ◌&&◌, refl, ap, sym, append_assoc}
use Rattle.document_trees.specs.Trees.{Items, nothing, element, chars, comment, pi}
use Rattle.article_tree.specs.Content.{run, joined}

and_assoc : (p q r : Bool) → ((p && q) && r) ≡ (p && (q && r))
and_assoc true q r = refl
and_assoc false q r = refl

pub run_run : (t u : List ℕ) (p q : Bool) (x : Items) → run t p (run u q x) ≡ run (t ++ u) (p && q) x
run_run t u p q nothing = refl
run_run t u p q (element name atts inside later) = refl
run_run t u p q (chars v r later) = ap (λ (z : List ℕ). chars z (p && (q && r)) later) (sym (append_assoc t u v)) ∙ ap (λ (z : Bool). chars ((t ++ u) ++ v) z later) (sym (and_assoc p q r))
run_run t u p q (comment text later) = refl
run_run t u p q (pi target body later) = refl

-- there are items
abbrev Full : Items → Type 0
Full nothing = ⊥
Full items = Unit {0}

full_run : (t : List ℕ) (p : Bool) (x : Items) → Full (run t p x)
full_run t p nothing = tt
full_run t p (element name atts inside later) = tt
full_run t p (chars v r later) = tt
full_run t p (comment text later) = tt
full_run t p (pi target body later) = tt

full_joined : (t : List ℕ) (p : Bool) (x y : Items) → Full (joined (chars t p x) y)
full_joined t p nothing y = full_run t p y
full_joined t p (element name atts inside later) y = tt
full_joined t p (chars v r later) y = tt
full_joined t p (comment text later) y = tt
full_joined t p (pi target body later) y = tt

chars_joined : (t : List ℕ) (p : Bool) (x y : Items) → Full x → joined (chars t p x) y ≡ chars t p (joined x y)
chars_joined t p nothing y full = absurd full
chars_joined t p (element name atts inside later) y full = refl
chars_joined t p (chars v r later) y full = refl
chars_joined t p (comment text later) y full = refl
chars_joined t p (pi target body later) y full = refl

pub run_joined : (t : List ℕ) (p : Bool) (x y : Items) → joined (run t p x) y ≡ run t p (joined x y)
run_joined t p nothing y = refl
run_joined t p (element name atts inside later) y = refl
run_joined t p (chars u q later) y = by later
  where
    by : (z : Items) → joined (chars (t ++ u) (p && q) z) y ≡ run t p (joined (chars u q z) y)
    by nothing = sym (run_run t u p q y)
    by (element name atts inside more) = refl
    by (chars v r more) = refl
    by (comment text more) = refl
    by (pi target body more) = refl
run_joined t p (comment text later) y = refl
run_joined t p (pi target body later) y = refl

pub joined_nothing : (x : Items) → joined x nothing ≡ x
joined_nothing nothing = refl
joined_nothing (element name atts inside later) = ap (element name atts inside) (joined_nothing later)
joined_nothing (chars t p later) = by later (joined_nothing later)
  where
    by : (z : Items) → joined z nothing ≡ z → joined (chars t p z) nothing ≡ chars t p z
    by nothing h = refl
    by (element name atts inside more) h = ap (chars t p) h
    by (chars v r more) h = ap (chars t p) h
    by (comment text more) h = ap (chars t p) h
    by (pi target body more) h = ap (chars t p) h
joined_nothing (comment text later) = ap (comment text) (joined_nothing later)
joined_nothing (pi target body later) = ap (pi target body) (joined_nothing later)

pub joined_assoc : (x y z : Items) → joined (joined x y) z ≡ joined x (joined y z)
joined_assoc nothing y z = refl
joined_assoc (element name atts inside later) y z = ap (element name atts inside) (joined_assoc later y z)
joined_assoc (chars t p later) y z = by later (joined_assoc later y z)
  where
    by : (x : Items) → joined (joined x y) z ≡ joined x (joined y z) → joined (joined (chars t p x) y) z ≡ joined (chars t p x) (joined y z)
    by nothing h = run_joined t p y z
    by (element name atts inside more) h = ap (chars t p) h
    by (chars v r more) h = chars_joined t p (joined (chars v r more) y) z (full_joined v r more y) ∙ ap (chars t p) h
    by (comment text more) h = ap (chars t p) h
    by (pi target body more) h = ap (chars t p) h
joined_assoc (comment text later) y z = ap (comment text) (joined_assoc later y z)
joined_assoc (pi target body later) y z = ap (pi target body) (joined_assoc later y z)
