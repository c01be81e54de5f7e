use Rattle.std.proofs.Common.{◌∙◌, ap, sym, subst, length}
use Rattle.gl_calculus.specs.Formulas.Formula.{IsSheet, formula_addresses}
use Rattle.gl_cells.specs.Sheet.{Table, sheet}
use Rattle.gl_cells.proofs.TableLemmas.{formulas_sheet, ordered_sheet}
use Rattle.gl_cells.proofs.cells.Cells.formulas.Goals as goal

pub returns-clause-count : goal.returns-clause-count
returns-clause-count c = c.self.invariant.table.counted ∙ sym (formulas_sheet c.self.inside.map) ∙ ap (λ (es : Table). length (formula_addresses (sheet es))) c.self.view_is

pub returns-clause-ordered : goal.returns-clause-ordered
returns-clause-ordered c = subst (λ (es : Table). IsSheet (sheet es)) c.self.view_is (ordered_sheet c.self.inside.map c.self.invariant.table.ordered)
