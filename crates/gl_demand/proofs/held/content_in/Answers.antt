use Rattle.std.proofs.Common.{ap, ◌∙◌}
use Rattle.gl_calculus.specs.Formulas.Formula.{content}
use Rattle.gl_calculus.specs.Evaluation.Reference.{held_top}
use Rattle.gl_cells.specs.Sheet.{sheet}
use Rattle.gl_value.specs.View.{value_tree, frame_tree}
use Rattle.gl_demand.proofs.Frames.{nearest_some, nearest_none}
use Rattle.gl_demand.proofs.held.content_in.Goals as goal

pub returns-in-Some-clause-value : goal.returns-in-Some-clause-value
returns-in-Some-clause-value c = nearest_some (content (sheet c.args.cells.now) c.args.a) (frame_tree c.args.env.now) c.args.a (value_tree c.in-Some.v.now) c.in-Some.ensures.value

pub returns-in-Some-content-clause-value : goal.returns-in-Some-content-clause-value
returns-in-Some-content-clause-value c = c.held_top.ensures.value ∙ ap held_top c.in-Some-content.ensures.found ∙ nearest_none (content (sheet c.args.cells.now) c.args.a) (frame_tree c.args.env.now) c.args.a c.in-None.ensures.value

pub returns-in-None-content-clause-value : goal.returns-in-None-content-clause-value
returns-in-None-content-clause-value c = ap held_top c.in-None-content.ensures.found ∙ nearest_none (content (sheet c.args.cells.now) c.args.a) (frame_tree c.args.env.now) c.args.a c.in-None.ensures.value
