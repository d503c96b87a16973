use Rattle.std.proofs.Common.{◌≡◌, sym, Some, None}
use Rattle.pe_expansion.specs.Bound.{text_bound}
use Rattle.pe_expansion.proofs.Found.{written_outer}
use Rattle.pe_expansion.proofs.bindings.Bindings.set_outer.Goals.{in-Some, in_default}
use Rattle.pe_expansion.proofs.bindings.Bindings.set_outer.Goals as goal

pub returns : goal.returns
returns c = elim c.match-get_mut.branch [
  | in-Some w ↦
      let found : text_bound c.self.inside.entries.entries c.args.name.now ≡ Some w.in-Some.entity.now = sym w.in-Some.ensures.value in
      rw (w.self-inside-is, (c.get_mut.follows.holds w.give_text.new.entity).0, w.give_text.ensures, ← c.self.view_is) (written_outer c.self.inside.entries.entries c.args.name.now c.args.text w.in-Some.entity.now found)
  | in_default w ↦
      let none : text_bound c.self.inside.entries.entries c.args.name.now ≡ None = sym w.in_default.ensures.value in
      absurd (rw (← c.self.view_is, none) at c.requires)
]
