use Rattle.std.proofs.Common.{ap, ◌∙◌}
use Rattle.gl_calculus.specs.Formulas.Formula.{content}
use Rattle.gl_cells.specs.Sheet.{sheet}
use Rattle.gl_flow.proofs.Unknown.{formula_makes, makes_is}
use Rattle.gl_flow.proofs.unknowns.uses_sheets.Goals as goal

pub returns-in-Some : goal.returns-in-Some
returns-in-Some c = c.makes_sheets.ensures ∙ ap formula_makes c.in-Some.ensures ∙ makes_is (sheet c.args.cells.now) (content (sheet c.args.cells.now) c.args.a)

pub returns-in-None : goal.returns-in-None
returns-in-None c = ap formula_makes c.in-None.ensures ∙ makes_is (sheet c.args.cells.now) (content (sheet c.args.cells.now) c.args.a)
