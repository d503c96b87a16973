-- Declarations that lead from one state of a reading to another.
use Rattle.std.proofs.Common.{◌≡◌, ℕ, List, [], ◌∷◌, ◌++◌, Bool, true, false, Ok, sym, subst}
use Rattle.dtd_scanner.specs.declared.item.ItemKind.{ItemKind}
use Rattle.dtd_scanner.specs.declared.item.ItemKind.TheVariants.{ElementDecl, AttlistDecl, EntityDecl, NotationDecl}
use Rattle.decl_set.specs.Declarations.{Declarations}
use Rattle.module_reader.specs.declared.standing.Standing.{Standing}
use Rattle.module_reader.specs.declared.state.State.{State}
use Rattle.module_reader.specs.Reading.{declared}
use Rattle.module_reader.specs.Sources.{Source}
use Rattle.dtd_flattener.specs.Flat.{Line}
use Rattle.dtd_flattener.proofs.Flatness.{IsFlatBody}

-- whether items of this kind are declarations
abbrev pub is_declaration : ItemKind → Bool
is_declaration ElementDecl = true
is_declaration AttlistDecl = true
is_declaration EntityDecl = true
is_declaration NotationDecl = true
is_declaration other = false

-- the line is a declaration with a flat body, which leads from the one state to the other, wherever it stands
pub record Declares (source : Source) (s : State) (line : Line) (next : State) : Type 0 where
  pub kind : is_declaration line.0 ≡ true
  pub flat : IsFlatBody line.1
  pub leads : (c : Standing) (at : ℕ) → declared source [] c at line.0 s line.1 ≡ Ok next

-- the lines in turn lead from the first state to the last
abbrev pub Leads : Source → State → List Line → State → Type 0
Leads source s [] last = s ≡ last
Leads source s (line ∷ lines) last = (next : State) × Declares source s line next × Leads source next lines last

-- a state with this set
abbrev pub with_set : State → Declarations → State
with_set base set = record base { set = set }

pub leads_on : (source : Source) (s middle last : State) (lines more : List Line) → Leads source s lines middle → Leads source middle more last → Leads source s (lines ++ more) last
leads_on source s middle last [] more leads after = subst (λ (t : State). Leads source t more last) (sym leads) after
leads_on source s middle last (line ∷ lines) more leads after = (leads.0, leads.1, leads_on source leads.0 middle last lines more leads.2 after)
