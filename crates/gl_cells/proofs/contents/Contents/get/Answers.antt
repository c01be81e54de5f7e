use Rattle.std.proofs.Common.{◌∙◌, sym}
use Rattle.gl_cells.proofs.Listing.{seen_listed}
use Rattle.gl_cells.proofs.contents.Contents.get.Goals as goal

pub returns : goal.returns
returns c = record {
  value = c.get.ensures.value ∙ sym (seen_listed _ c.self.inside.order.entries c.args.a c.self.invariant c.self.view_is);
}
