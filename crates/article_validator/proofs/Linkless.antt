-- Elements without a list of attributes have no links.
use Rattle.std.proofs.Common.{◌≡◌, ◌∙◌, ℕ, List, [], ◌∷◌, ◌++◌, Option, Some, None, refl, ap, sym, bytes_eq}
use Rattle.std.specs.Prelude.{unwrap_or}
use Rattle.std.specs.List.{flat_map}
use Rattle.indexmap.specs.IndexSet.{insert_all}
use Rattle.content_models.specs.declared.content.Content.{Content}
use Rattle.document_trees.specs.Trees.{Attribute, Node}
use Rattle.decl_set.specs.Declarations.{Declarations, content_in, list_in}
use Rattle.attlist_merge.specs.Lists.{Definitions}
use Rattle.article_validator.specs.Links.{ids_in, ids_of, links_by, specified_link}

unlisted : (atts : List Attribute) → flat_map (specified_link []) atts ≡ []
unlisted [] = refl
unlisted (a ∷ atts) = unlisted atts

no_links : (content : Option Content) (atts : List Attribute) → links_by content [] atts ≡ []
no_links None atts = refl
no_links (Some content) atts = ap (λ ls. ls ++ []) (unlisted atts)

-- nothing is kept of them
pub none_kept : (set : Declarations) (node : Node) (keys : List (List ℕ)) → None ≡ list_in set node.name → keys ≡ insert_all bytes_eq keys (ids_in set node)
none_kept set node keys none =
    sym (ap (λ (l : Option Definitions). insert_all bytes_eq keys (flat_map ids_of (links_by (content_in set node.name) (unwrap_or l []) node.atts))) (sym none)
    ∙ ap (λ ls. insert_all bytes_eq keys (flat_map ids_of ls)) (no_links (content_in set node.name) node.atts))
