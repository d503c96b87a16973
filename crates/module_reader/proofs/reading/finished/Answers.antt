use Rattle.decl_set.specs.Declarations.{Declarations}
use Rattle.decl_set.specs.Declaring.{end_fault}
use Rattle.module_reader.specs.Stops.{module_text}
use Rattle.module_reader.proofs.EntityMoves.{finish_stops, refused_not_loading, refused_not_absent}
use Rattle.module_reader.proofs.reading.finished.Goals as goal

pub returns-in-Err : goal.returns-in-Err
returns-in-Err c = record {
  told = finish_stops c.args.entry.now c.args.set (end_fault c.args.set) c.end_stop.result c.in-Err.fault c.in-Err.ensures c.end_stop.ensures.refuses c.end_stop.ensures.memory;
  load = refused_not_loading Declarations (module_text c.args.entry.now) c.in-Err.fault c.end_stop.result c.end_stop.ensures.refuses;
  absence = refused_not_absent Declarations (module_text c.args.entry.now) c.in-Err.fault c.end_stop.result c.end_stop.ensures.refuses;
  sound = tt;
}
