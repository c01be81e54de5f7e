use Rattle.std.proofs.Common.{sym, subst}
use Rattle.gl_cells.specs.Sheet.{Table, IsWithin}
use Rattle.gl_cells.proofs.TableLemmas.{within_nothing}
use Rattle.gl_cells.proofs.cells.Cells.new.Goals as goal

pub invariant_of-result : goal.invariant_of-result
invariant_of-result c = subst (λ (es : Table). IsWithin es 0) (sym c.new.ensures) within_nothing
