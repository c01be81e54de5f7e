use Rattle.gl_script.proofs.Lines.{view_asks, view_large, view_refused, viewable, not_viewable}
use Rattle.gl_script.proofs.requests.view.Goals as goal

pub returns-then-cells-le-MAX_VIEW : goal.returns-then-cells-le-MAX_VIEW
returns-then-cells-le-MAX_VIEW c = λ l h. view_asks l c.args.place.now c.in-Ok.range h c.in-Ok.ensures (viewable c.in-Ok.range c.cells.result c.cells.ensures.value c.if-cells-le-MAX_VIEW.true)

pub returns-else-cells-le-MAX_VIEW : goal.returns-else-cells-le-MAX_VIEW
returns-else-cells-le-MAX_VIEW c = λ l h. view_large l c.args.place.now c.in-Ok.range h c.in-Ok.ensures (not_viewable c.in-Ok.range c.cells.result c.cells.ensures.value c.if-cells-le-MAX_VIEW.false)

pub returns-in-Err : goal.returns-in-Err
returns-in-Err c = λ l h. view_refused l c.args.place.now c.in-Err.fault h c.in-Err.ensures
