use Rattle.std.proofs.Common.{◌∙◌, sym}
use Rattle.gl_cells.proofs.Listing.{seen_listed}
use Rattle.gl_cells.proofs.contents.Contents.search.Goals as goal

pub returns-in-Some : goal.returns-in-Some
returns-in-Some c = record {
  value = c.in-Some.ensures.value ∙ sym (seen_listed _ c.self.inside.order.entries c.args.a c.self.invariant c.self.view_is);
}

pub returns-in-None : goal.returns-in-None
returns-in-None c = record {
  value = c.in-None.ensures.value ∙ sym (seen_listed _ c.self.inside.order.entries c.args.a c.self.invariant c.self.view_is);
}
