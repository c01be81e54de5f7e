use Rattle.std.proofs.Common.{◌≡◌}
use Rattle.gl_views.specs.Cells.{texts_of}
use Rattle.gl_views.proofs.Widths.{raised}
use Rattle.gl_views.proofs.tables.widen.Given as goal

abbrev pub invariant-loop-i : goal.invariant-loop-i
invariant-loop-i l = l.widths ≡ raised l.fn.widths (texts_of l.row) l.i
