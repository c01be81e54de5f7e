use Rattle.std.proofs.Common.{◌∙◌, ap, arith, length}
use Rattle.gl_calculus.specs.Edits.Sheets.{without}
use Rattle.gl_cells.specs.Sheet.{Table, sheet}
use Rattle.gl_cells.proofs.TableLemmas.{length_sheet, without_sheet}
use Rattle.gl_cells.proofs.cells.Cells.clear.Goals as goal

pub invariant_of-self : goal.invariant_of-self
invariant_of-self c = record {
  table = c.clear_in.ensures.table;
  few_formulas = omega (arith, c.clear_in.ensures.fewer, c.self.invariant.few_formulas);
  few_contents = omega (arith, c.clear_in.ensures.count, c.self.invariant.few_contents);
}

pub returns-clause-cleared : goal.returns-clause-cleared
returns-clause-cleared c = ap sheet c.clear_in.ensures.cleared ∙ without_sheet c.self.inside.map c.args.r.now ∙ ap (λ (es : Table). without (sheet es) c.args.r.now) c.self.view_is

pub returns-clause-count : goal.returns-clause-count
returns-clause-count c =
    let old = ap (λ (es : Table). length (sheet es)) c.self.view_is in
    omega (arith, c.clear_in.ensures.count, old, length_sheet c.self.inside.map, length_sheet c.clear_in.new.map)
