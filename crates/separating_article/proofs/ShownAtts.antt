-- Attributes that are put behind others in turn.
use Rattle.std.proofs.Common.{◌≡◌, ◌∙◌, ℕ, ◌+◌, Bool, true, false, subst, List, [], ◌∷◌, ◌++◌, drop, refl, sym, ap, arith, append_assoc, Option, Some, None, Err, slice_get}
use Rattle.std.specs.Char.{encode_utf8}
use Rattle.jats_chars.specs.Classes.{is_space}
use Rattle.std.specs.Prelude.{option_map}
use Rattle.std.specs.Option.{option_map_or}
use Rattle.document_trees.specs.Trees.{Attribute}
use Rattle.attlist_merge.specs.Lists.{Definitions, Entry}
use Rattle.attlist_merge.specs.Oddness.{chosen}
use Rattle.attlist_merge.specs.declared.odd.OddAtt.{OddAtt}
use Rattle.attlist_merge.proofs.Turns.{drop_step, drop_past}
use Rattle.separating_article.specs.Openings.{run_of, value_at, values_by}
use Rattle.separating_article.specs.Sizes.{Spends, atts_size, front_size}
use Rattle.separating_article.specs.Growing.{PutsAtts}
use Rattle.separating_article.specs.declared.fault.BuildOver.{BuildOver}
use Rattle.separating_article.specs.declared.fault.BuildOver.TheVariants.{TextOver, NoMemory}

pub atts_size-append : (x y : List Attribute) → atts_size (x ++ y) ≡ atts_size x + atts_size y
atts_size-append [] y = omega arith
atts_size-append (a ∷ x) y = let h = atts_size-append x y in omega (arith, h)

-- a run in front has one byte
front_one : (plain : Bool) → front_size (option_map run_of (Some plain)) ≡ 1
unfolding encode_utf8 is_space
front_one true = refl
front_one false = refl

pub front_spent : (left : ℕ) (front : Option Bool) (plain : Bool) (r : Option ℕ) → front ≡ Some plain → Spends left 1 r → Spends left (front_size (option_map run_of front)) r
front_spent left front plain r is h = subst (λ n. Spends left n r) (sym (ap (λ o. front_size (option_map run_of o)) is ∙ front_one plain)) h

module _ (odd : Option OddAtt) where
  -- those of the definition at a place
  abbrev pub one_at : Definitions → ℕ → List Attribute
  one_at list i = option_map_or (λ e. chosen (value_at odd e.0) e) (slice_get list i) []

  next_of : (list : Definitions) (i : ℕ) (o : Option Entry) → slice_get list i ≡ o
      → values_by odd (drop i list) ≡ option_map_or (λ e. chosen (value_at odd e.0) e) o [] ++ values_by odd (drop (i + 1) list)
  next_of list i None at = ap (values_by odd) (drop_past list i at)
  next_of list i (Some x) at = ap (values_by odd) (drop_step list i x at)

  pub put_next : (list : Definitions) (i : ℕ) (old mid new : List Attribute) → new ≡ mid ++ one_at list i → mid ++ values_by odd (drop i list) ≡ old ++ values_by odd list
      → new ++ values_by odd (drop (i + 1) list) ≡ old ++ values_by odd list
  put_next list i old mid new put kept =
      let rest = values_by odd (drop (i + 1) list) in
      ap (λ x. x ++ rest) put ∙ append_assoc mid (one_at list i) rest ∙ ap (λ x. mid ++ x) (sym (next_of list i (slice_get list i) refl)) ∙ kept

  sizes_of : (list : Definitions) (i : ℕ) → atts_size (values_by odd (drop i list)) ≡ atts_size (one_at list i) + atts_size (values_by odd (drop (i + 1) list))
  sizes_of list i = ap atts_size (next_of list i (slice_get list i) refl) ∙ atts_size-append (one_at list i) (values_by odd (drop (i + 1) list))

  pub spent_next : (list : Definitions) (i room left rest : ℕ) → rest + atts_size (one_at list i) ≡ left → room + atts_size (values_by odd (drop i list)) ≡ left + atts_size (values_by odd list)
      → room + atts_size (values_by odd (drop (i + 1) list)) ≡ rest + atts_size (values_by odd list)
  spent_next list i room left rest spent kept = let h = sizes_of list i in omega (arith, h)

  pub over_at : (list : Definitions) (i room left : ℕ) (old mid new : List Attribute) (over : BuildOver) → PutsAtts mid new left (one_at list i) (Err over)
      → room + atts_size (values_by odd (drop i list)) ≡ left + atts_size (values_by odd list) → PutsAtts old new room (values_by odd list) (Err over)
  over_at list i room left old mid new TextOver h kept = let s = sizes_of list i in omega (arith, s)
  over_at list i room left old mid new NoMemory h kept = tt
