-- What is required of an element is right for it.
use Rattle.std.proofs.Common.{◌≡◌, Some, None}
use Rattle.content_models.specs.declared.content.Content.{Content}
use Rattle.content_models.specs.Kinds.{text_kind}
use Rattle.content_models.specs.Model.{Chars}
use Rattle.attlist_merge.specs.Shown.{required_of}
use Rattle.attlist_merge.proofs.Samples.{required_right}
use Rattle.decl_set.specs.Asked.{IsKept}
use Rattle.decl_set.specs.Declarations.{Declarations, content_in, attributes_in}
use Rattle.decl_set.proofs.Found.{attributes_defined, attributes_kept}
use Rattle.decl_set.proofs.Suiting.{allowed_alone}
use Rattle.tree_costs.specs.Beside.{IsRight}
use Rattle.tree_costs.proofs.Beside.{required_made, suits_in}

pub required_is_right : (set : Declarations) (e : Chars) (a : Content) → IsKept set → content_in set e ≡ Some a
    → IsRight set e (required_of (attributes_in set e)) None
required_is_right set e a k q =
    let list = attributes_in set e in
    let kept = attributes_kept set e k in
    record {
      attributes = required_made list kept (attributes_defined set e k);
      items = λ inside h. h;
      suits = λ inside h. suits_in set e a (required_of list) inside q (allowed_alone (text_kind a) inside h) (required_right list kept).0;
    }
