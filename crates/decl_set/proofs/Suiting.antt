-- A node meets a set where its names are derived and the rest suits.
use Rattle.std.proofs.Common.{◌≡◌, List, Option, Some, None, true, refl, sym, subst}
use Rattle.content_models.specs.declared.content.Content.{Content}
use Rattle.content_models.specs.declared.content.TextKind.{TextKind}
use Rattle.content_models.specs.declared.content.TextKind.TheVariants.{NoItems, White, All}
use Rattle.content_models.specs.Model.{Chars, Derives}
use Rattle.document_trees.specs.Trees.{Attribute, Items, child_names, elements_alone}
use Rattle.document_trees.proofs.Alone.{alone_plain}
use Rattle.decl_set.specs.Declarations.{Declarations, content_in, attributes_in}
use Rattle.decl_set.specs.Validity.{TextAllowed, SuitsContent, Suits, MeetsContent, Meets}

pub record IsMet (set : Declarations) (name : Chars) (atts : List Attribute) (items : Items) : Type 0 where
  pub content : Content
  pub declared : content_in set name ≡ Some content
  pub derived : Derives content (child_names items)
  pub suits : Suits set name atts items

pub met : (set : Declarations) (name : Chars) (atts : List Attribute) (items : Items) → Meets set name atts items → IsMet set name atts items
met set name atts items = by (content_in set name) refl
  where
    by : (o : Option Content) → content_in set name ≡ o → MeetsContent o (attributes_in set name) atts items → IsMet set name atts items
    by None e h = elim h [ ]
    by (Some a) e h = record {
      content = a;
      declared = e;
      derived = h.content;
      suits = subst (λ o. SuitsContent o (attributes_in set name) atts items) (sym e) h.suits;
    }

pub meets : (set : Declarations) (name : Chars) (atts : List Attribute) (items : Items) (a : Content)
    → content_in set name ≡ Some a → Derives a (child_names items) → Suits set name atts items → Meets set name atts items
meets set name atts items a e d s =
    let t = subst (λ o. SuitsContent o (attributes_in set name) atts items) e s in
    subst (λ o. MeetsContent o (attributes_in set name) atts items) (sym e) (record { content = d; suits = t })

-- what suits is declared
pub suited : (set : Declarations) (name : Chars) (atts : List Attribute) (items : Items) → Suits set name atts items
    → (a : Content) × (content_in set name ≡ Some a)
suited set name atts items = by (content_in set name) refl
  where
    by : (o : Option Content) → content_in set name ≡ o → SuitsContent o (attributes_in set name) atts items → (a : Content) × (content_in set name ≡ Some a)
    by None e h = elim h [ ]
    by (Some a) e h = (a, e)

-- elements alone are allowed everywhere
pub allowed_alone : (kind : TextKind) (items : Items) → elements_alone items ≡ true → TextAllowed kind items
allowed_alone NoItems items h = h
allowed_alone White items h = alone_plain items h
allowed_alone All items h = refl
