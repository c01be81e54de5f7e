use Rattle.std.proofs.Common.{◌∙◌, sym, ap, length}
use Rattle.gl_cells.specs.Sheet.{Table}
use Rattle.gl_cells.proofs.Listing.{length_listed}
use Rattle.gl_cells.proofs.contents.Contents.len.Goals as goal

pub returns-clause-len : goal.returns-clause-len
returns-clause-len c = c.len.ensures.len ∙ sym (length_listed _ c.self.inside.order.entries c.self.invariant) ∙ ap (λ (es : Table). length es) c.self.view_is
