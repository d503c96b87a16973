-- Where nothing is odd, what suits the first set suits the second.
use Rattle.std.proofs.Common.{◌≡◌, Bool, true, false, cond, refl, Option, Some, None, true≢false}
use Rattle.std.specs.Prelude.{option_map}
use Rattle.content_models.specs.declared.content.Content.{Content}
use Rattle.content_models.specs.declared.content.TextKind.{TextKind}
use Rattle.content_models.specs.declared.content.TextKind.TheVariants.{NoItems, White, All}
use Rattle.content_models.specs.Model.{Chars}
use Rattle.content_models.specs.Kinds.{text_kind}
use Rattle.document_trees.specs.Trees.{Items}
use Rattle.attlist_merge.specs.Oddness.{odd_of}
use Rattle.attlist_merge.specs.declared.odd.OddAtt.{OddAtt}
use Rattle.attlist_merge.proofs.Covering.{covers_list}
use Rattle.decl_set.specs.Declarations.{Declarations, content_in, attributes_in}
use Rattle.decl_set.specs.Asked.{IsKept}
use Rattle.decl_set.specs.Oddness.{more_text, odd_by, odd_in}
use Rattle.decl_set.specs.Validity.{TextAllowed, SuitsContent}
use Rattle.decl_set.specs.declared.breaks.Odd.TheVariants as odd
use Rattle.decl_set.proofs.Found.{attributes_kept}
use Rattle.decl_set.proofs.Suiting.{allowed_alone}
use Rattle.bound_checker.specs.Beside.{TellsOdd}

less_text : (k l : TextKind) (items : Items) → more_text k l ≡ false → TextAllowed k items → TextAllowed l items
less_text NoItems l items m h = allowed_alone l items h
less_text White NoItems items m h = absurd (true≢false m)
less_text White White items m h = h
less_text White All items m h = refl
less_text All NoItems items m h = absurd (true≢false m)
less_text All White items m h = absurd (true≢false m)
less_text All All items m h = refl

none_mapped : {X Y : Type 0} (f : X → Y) (o : Option X) → option_map f o ≡ None → o ≡ None
none_mapped f None h = refl
none_mapped f (Some x) h = cc

none_either : (m : Bool) (o : Option OddAtt) → cond m (Some odd.Text) (option_map odd.Attribute o) ≡ None → (m ≡ false) × (o ≡ None)
none_either true o h = cc
none_either false o h = (refl, none_mapped odd.Attribute o h)

pub suits_over : (first second : Declarations) (e : Chars) → IsKept first → IsKept second → odd_in first second e ≡ None → TellsOdd first second e None
suits_over first second e kf ks none atts items = by (content_in first e) (content_in second e) none
  where
    by : (a b : Option Content) → odd_by a b (attributes_in first e) (attributes_in second e) ≡ None
        → SuitsContent a (attributes_in first e) atts items → SuitsContent b (attributes_in second e) atts items
    by None b n h = elim h [ ]
    by (Some a) None n h = cc
    by (Some a) (Some b) n h =
        let t = none_either (more_text (text_kind a) (text_kind b)) (odd_of (attributes_in first e) (attributes_in second e)) n in
        record {
          text = less_text (text_kind a) (text_kind b) items t.0 h.text;
          attributes = covers_list (attributes_in first e) (attributes_in second e) (attributes_kept first e kf) (attributes_kept second e ks) t.1 atts h.attributes;
        }
