use Rattle.tagset_tool.proofs.Absences.{absent_unwritten, absent_written}
use Rattle.tagset_tool.proofs.Leaving.{leaves_cut}
use Rattle.tagset_tool.proofs.top.run.Goals as goal

pub returns-in-Err-LoadFailed-clause-absent : goal.returns-in-Err-LoadFailed-clause-absent
returns-in-Err-LoadFailed-clause-absent g c = absent_unwritten _ _ _ _ c.answer_to.ensures.absences

pub returns-in-Err-NoMemory-clause-absent : goal.returns-in-Err-NoMemory-clause-absent
returns-in-Err-NoMemory-clause-absent g c = absent_unwritten _ _ _ _ c.answer_to.ensures.absences

pub returns-in-Ok-write_all-clause-absent : goal.returns-in-Ok-write_all-clause-absent
returns-in-Ok-write_all-clause-absent g c = absent_written _ _ c.in-Ok.answer.bytes.items c.write_all.result _ _ (rw c.as_slice.ensures.value at c.write_all.ensures.appends) c.in-Ok.ensures.absences

pub returns-clause-absent : goal.returns-clause-absent
returns-clause-absent g c = absent_written _ _ c.in-Ok.answer.bytes.items c.write_all.result _ _ (rw c.as_slice.ensures.value at c.write_all.ensures.appends) c.in-Ok.ensures.absences

pub returns-clause-leaves : goal.returns-clause-leaves
returns-clause-leaves g c = leaves_cut _ _ c.as_slice.result.now c.in-Err.ensures.appends.0 c.in-Err.ensures.appends.1
