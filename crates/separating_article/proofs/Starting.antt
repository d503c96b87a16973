-- An element is started with what stands beside its elements.
use Rattle.std.proofs.Common.{◌≡◌, ◌∙◌, ℕ, ◌+◌, Bool, ◌&&◌, List, [], ◌++◌, refl, sym, ap, subst, arith, Option, Some, None, Result, Ok, IfSome, slice_get}
use Rattle.std.specs.Prelude.{is_none, option_map, unwrap_or}
use Rattle.content_models.specs.Model.{Chars}
use Rattle.document_trees.specs.Trees.{Attribute, Items, Node, nothing}
use Rattle.decl_set.specs.Declarations.{Element, name_of, list_in}
use Rattle.decl_set.specs.declared.breaks.Odd.{Odd}
use Rattle.tree_costs.specs.Beside.{put}
use Rattle.separating_article.specs.declared.choosing.Step.{Step}
use Rattle.separating_article.specs.declared.fault.BuildOver.{BuildOver}
use Rattle.separating_article.specs.declared.guide.Guide.{Guide}
use Rattle.separating_article.specs.declared.growing.Chosen.{Chosen}
use Rattle.separating_article.specs.declared.growing.Started.{Started}
use Rattle.separating_article.specs.declared.opening.Way.{Way}
use Rattle.separating_article.specs.Growing.{PutsAtts, StartsBy, Starts, IsChosenAt, begun_size}
use Rattle.separating_article.specs.Choosing.{next_step}
use Rattle.separating_article.specs.Openings.{way_of, path_of, shown, att_of, values_by, run_of, plain_front, front_of, atts_of}
use Rattle.separating_article.specs.Sizes.{atts_size, front_size, names_size}

-- an element that stands at a place has its name
pub at_name : (P : Chars → Type 0) (o : Option Element) (name : Chars) → Some name ≡ option_map name_of o → P name → IfSome o (λ e. P e.0)
at_name P None name q h = tt
at_name P (Some e) name q h = let same : name ≡ e.0 = cc in subst P same h

-- the element at a place is started
pub starts_at : (guide : Guide) (place : ℕ) (separates : Bool) (chosen : Chosen) (left : ℕ) (r : Result (Started × ℕ) BuildOver) → IsChosenAt guide place separates chosen
    → StartsBy guide chosen.name.now chosen.place chosen.way chosen.step left r
    → IfSome (slice_get guide.first.now.elements place) (λ e. Starts guide e.0 place separates left r)
starts_at guide place separates chosen left r is h =
    let name = chosen.name.now in
    let placed = subst (λ (n : ℕ). StartsBy guide name n chosen.way chosen.step left r) is.at h in
    let stepped = subst (λ (s : Option Step). StartsBy guide name place chosen.way s left r) is.step placed in
    at_name (λ n. Starts guide n place separates left r) (slice_get guide.first.now.elements place) name is.name
    (subst (λ (w : Way). StartsBy guide name place w (next_step guide place (path_of w)) left r) is.way stepped)

none_of : {A B : Type 0} (f : A → B) (o : Option A) → is_none (option_map f o) ≡ is_none o
none_of f None = refl
none_of f (Some a) = refl

module _ (guide : Guide) (name : Chars) (way : Way) (place : ℕ) (step : Option Step) (odd : Option Odd) (o : Option Bool) (is : odd ≡ shown guide name way)
    (front_is : o ≡ plain_front guide name odd) where
  front_same : option_map run_of o ≡ front_of guide name way
  front_same = ap (option_map run_of) (front_is ∙ ap (plain_front guide name) is)

  atts_same : values_by (att_of odd) (unwrap_or (list_in guide.first.now name) []) ≡ atts_of guide name way
  atts_same = ap (λ x. values_by (att_of x) (unwrap_or (list_in guide.first.now name) [])) is

  -- tags and a run in front
  abbrev beside : ℕ
  beside = names_size name (is_none o && is_none step) + front_size (option_map run_of o)

  whole : begun_size guide name way step ≡ beside + atts_size (values_by (att_of odd) (unwrap_or (list_in guide.first.now name) []))
  whole =
      let f = front_same in
      let tags : names_size name (is_none (front_of guide name way) && is_none step) ≡ names_size name (is_none o && is_none step) =
      ap (λ b. names_size name (b && is_none step)) (sym (ap is_none f) ∙ none_of run_of o) in
      let run : front_size (front_of guide name way) ≡ front_size (option_map run_of o) = sym (ap front_size f) in
      let values : atts_size (atts_of guide name way) ≡ atts_size (values_by (att_of odd) (unwrap_or (list_in guide.first.now name) [])) = sym (ap atts_size atts_same) in
      omega (arith, tags, run, values)

  pub all_put : (left rest end : ℕ) (old new : List Attribute) (node : Node) → old ≡ [] → rest + beside ≡ left
      → PutsAtts old new rest (values_by (att_of odd) (unwrap_or (list_in guide.first.now name) [])) (Ok end)
      → node ≡ record { name = name; atts = new; items = put (option_map run_of o) nothing }
      → StartsBy guide name place way step left (Ok (record { place = place; node = node; step = step }, end))
  all_put left rest end old new node none spent h made =
      let w = whole in
      let sum = h.1 in (
        ap (λ (x : Node). record { place = place; node = x; step = step }) made
            ∙ ap (λ (x : List Attribute). record { place = place; node = record { name = name; atts = x; items = put (option_map run_of o) nothing }; step = step }) (h.0 ∙ ap (λ l. l ++ values_by (att_of odd) (unwrap_or (list_in guide.first.now name) [])) none ∙ atts_same)
            ∙ ap (λ (x : Items). record { place = place; node = record { name = name; atts = atts_of guide name way; items = x }; step = step }) (ap (λ f. put f nothing) front_same),
        omega (arith, w, spent, sum),
      )
