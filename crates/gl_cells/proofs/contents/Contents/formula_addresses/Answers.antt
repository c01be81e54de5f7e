use Rattle.std.proofs.Common.{◌≡◌, List, IfOk, subst}
use Rattle.gl_calculus.specs.Grid.Grid.{Addr}
use Rattle.gl_cells.proofs.Listing.{formulas_told}
use Rattle.gl_cells.proofs.contents.Contents.formula_addresses.Goals as goal

pub returns : goal.returns
returns c = subst (λ (xs : List Addr). IfOk c.formulas_in.result (λ v. v.items ≡ xs)) (formulas_told _ c.self.inside.order.entries c.self.invariant c.self.view_is) c.formulas_in.ensures
