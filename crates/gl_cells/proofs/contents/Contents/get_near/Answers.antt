use Rattle.std.proofs.Common.{◌≡◌, Some, ◌∙◌, sym, subst}
use Rattle.indexmap.specs.IndexMap.{get}
use Rattle.gl_calculus.specs.Grid.Grid.{same_addr}
use Rattle.gl_calculus.proofs.Tests.{addr_exact}
use Rattle.gl_cells.proofs.Listing.{seen_listed}
use Rattle.gl_cells.proofs.contents.Contents.get_near.Goals as goal

pub returns-then-eq : goal.returns-then-eq
returns-then-eq c = record {
  value = subst (λ b. Some c.in-Some.content.now ≡ get same_addr c.self.inside.found b) (addr_exact c.in-Some.b.now c.args.a (sym c.eq.ensures ∙ c.if-eq.true)) (sym c.in-Some.ensures.value) ∙ sym (seen_listed _ c.self.inside.order.entries c.args.a c.self.invariant c.self.view_is);
}
