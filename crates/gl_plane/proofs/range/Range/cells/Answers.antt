use Rattle.std.proofs.Common.{◌+◌, ◌-◌, ◌*◌, ap, ◌∙◌}
use Rattle.gl_calculus.specs.Grid.Grid.{addr}
use Rattle.gl_plane.proofs.Places.{counted}
use Rattle.gl_plane.proofs.range.Range.cells.Goals as goal

pub returns-clause-value : goal.returns-clause-value
returns-clause-value c =
    ap (λ m. m * c.from-2.result) c.from.ensures ∙ ap (λ n. (c.last.inside.row + 1 - c.first.inside.row) * n) c.from-2.ensures
    ∙ counted c.args.self.now (addr c.first.inside.col c.first.inside.row) (addr c.last.inside.col c.last.inside.row) (c.first.view_is ∙ c.first-first.ensures.value) (c.last.view_is ∙ c.last-last.ensures.value)
