use Rattle.std.proofs.Common.{◌≡◌, Option, None, IfOk, OnErr, sym, subst}
use Rattle.indexmap.specs.IndexMap.{get}
use Rattle.gl_calculus.specs.Grid.Grid.{same_addr}
use Rattle.gl_cells.specs.declared.content.Content.{Content}
use Rattle.gl_cells.proofs.Listing.{seen_listed, sorted_listed}
use Rattle.gl_cells.proofs.contents.Contents.insert.Goals as goal

pub returns-clause-old : goal.returns-clause-old
returns-clause-old c =
    let seen = seen_listed (get same_addr c.self.inside.found) c.self.inside.order.entries c.args.a c.self.invariant c.self.view_is in
    subst (λ (o : Option Content). IfOk c.insert_in.result (λ was. was ≡ o)) (sym seen) c.insert_in.ensures.old

pub returns-clause-absent : goal.returns-clause-absent
returns-clause-absent c =
    let seen = seen_listed (get same_addr c.self.inside.found) c.self.inside.order.entries c.args.a c.self.invariant c.self.view_is in
    subst (λ (o : Option Content). OnErr c.insert_in.result (o ≡ None)) (sym seen) c.insert_in.ensures.absent

pub returns-clause-ordered : goal.returns-clause-ordered
returns-clause-ordered c = sorted_listed (get same_addr c.insert_in.new.found) c.insert_in.new.order.entries c.insert_in.ensures.listed
