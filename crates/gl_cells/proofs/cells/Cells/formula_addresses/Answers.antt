use Rattle.std.proofs.Common.{◌≤◌, ◌∙◌, ap, sym, subst, length}
use Rattle.gl_calculus.specs.Formulas.Formula.{IsSheet, formula_addresses}
use Rattle.gl_calculus.specs.Grid.Limits.{max_formulas}
use Rattle.gl_cells.specs.Sheet.{Table, sheet}
use Rattle.gl_cells.proofs.TableLemmas.{formulas_sheet, ordered_sheet}
use Rattle.gl_cells.proofs.cells.Cells.formula_addresses.Goals as goal

pub returns-clause-few : goal.returns-clause-few
returns-clause-few c = subst (λ n. n ≤ max_formulas) (c.self.invariant.table.counted ∙ sym (formulas_sheet c.self.inside.map) ∙ ap (λ (es : Table). length (formula_addresses (sheet es))) c.self.view_is) c.self.invariant.few_formulas

pub returns-clause-ordered : goal.returns-clause-ordered
returns-clause-ordered c = subst (λ (es : Table). IsSheet (sheet es)) c.self.view_is (ordered_sheet c.self.inside.map c.self.invariant.table.ordered)
