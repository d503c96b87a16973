-- What else than elements may stand in an element (XML 1.0, 3, Element Valid).
use Rattle.content_models.specs.declared.content.Content.{Content}
use Rattle.content_models.specs.declared.content.Content.TheVariants.{Empty, Any, Mixed, Children}
use Rattle.content_models.specs.declared.content.TextKind.{TextKind}
use Rattle.content_models.specs.declared.content.TextKind.TheVariants.{NoItems, White, All}

-- nothing under EMPTY, white space under a model, and all else
abbrev pub text_kind : Content → TextKind
text_kind Empty = NoItems
text_kind Any = All
text_kind (Mixed _) = All
text_kind (Children _) = White
