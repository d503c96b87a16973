-- Examples of flat texts.
use Rattle.std.proofs.Common.{◌≡◌, [], ◌∷◌, ◌++◌, refl}
use Rattle.std.specs.Fmt.{digits}
use Rattle.std.specs.Prelude.{codes}
use Rattle.content_models.specs.Spelling.{flat}
use Rattle.content_models.specs.declared.content.Content.TheVariants.{Empty, Mixed}
use Rattle.attribute_types.specs.Types.{class_of}
use Rattle.attribute_types.specs.declared.types.AttType.TheVariants as kind
use Rattle.attribute_types.specs.declared.types.Preset.TheVariants as preset
use Rattle.attlist_merge.specs.Lists.{Entry}
use Rattle.entity_catalog.specs.declared.ids.Ids.TheVariants.{System, Public}
use Rattle.decl_set.specs.Declarations.{Declarations}
use Rattle.decl_set.specs.declared.entity.EntityDef.TheVariants.{Internal, Unparsed}
use Rattle.dtd_flattener.specs.Flat.{lines_of, flat_text}

image : Entry
image = (codes "type", record { kind = kind.Enumeration (codes "a" ∷ codes "b" ∷ []); preset = preset.Value (codes "a"); class = class_of (kind.Enumeration (codes "a" ∷ codes "b" ∷ [])) (preset.Value (codes "a")) })

title : Entry
title = (codes "title", record { kind = kind.Cdata; preset = preset.Fixed (codes "a & b\n"); class = class_of kind.Cdata (preset.Fixed (codes "a & b\n")) })

article : Declarations
article = record {
  elements = (codes "p", Mixed (codes "i" ∷ [])) ∷ (codes "i", Empty) ∷ [];
  lists = (codes "p", image ∷ title ∷ []) ∷ [];
  entities = (codes "lt", Internal (codes "<")) ∷ (codes "pic", Unparsed (System (codes "a\"b.gif")) (codes "gif")) ∷ [];
  notations = (codes "gif", Public (codes "-//X//GIF") (codes "gif.exe")) ∷ [];
}

written : flat_text article
    ≡ codes "<!NOTATION gif PUBLIC \"-//X//GIF\" \"gif.exe\">\n" ++ (codes "<!ENTITY lt \"&#60;\">\n" ++ (codes "<!ENTITY pic SYSTEM 'a\"b.gif' NDATA gif>\n" ++ (codes "<!ELEMENT p (#PCDATA|i)*>\n"
    ++ (codes "<!ELEMENT i EMPTY>\n" ++ (codes "<!ATTLIST p type (a|b) \"a\">\n" ++ codes "<!ATTLIST p title CDATA #FIXED \"a &#38; b&#10;\">\n")))))
unfolding article image title lines_of flat digits
written = refl
