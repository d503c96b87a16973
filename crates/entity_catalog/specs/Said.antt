-- What a line says, over its own characters.
use Rattle.entity_catalog.specs.Lines as spec
use Rattle.entity_catalog.specs.declared.lines.Line.{Line}
use Rattle.entity_catalog.specs.declared.lines.Line.TheVariants.{Nothing, System, Public, Malformed}

abbrev pub said : Line → spec.Line
said Nothing = spec.nothing
said (System identifier name) = spec.system identifier.now name.now
said (Public identifier name) = spec.public identifier.now name.now
said Malformed = spec.malformed
