use Rattle.std.proofs.Common.{◌∙◌, sym, ap, is_some}
use Rattle.gl_cells.proofs.Listing.{is_listed, none_told, some_kind}
use Rattle.gl_cells.proofs.Order.{after_from_le, le_from_after}
use Rattle.gl_cells.proofs.contents.Contents.first_from.Goals as goal

pub returns-in-Some-clause-found : goal.returns-in-Some-clause-found
returns-in-Some-clause-found c =
    let k = c.range-rest.ensures.in_range tt in
    let j = rw c.in-Some.ensures.steps at k.1 in
    (after_from_le c.args.from c.in-Some.a.now j.0.0, sym (some_kind _) ∙ ap is_some (is_listed _ c.self.inside.order.entries c.in-Some.a.now c.self.invariant c.self.view_is) ∙ ap is_some j.1)

pub returns-in-Some-clause-least : goal.returns-in-Some-clause-least
returns-in-Some-clause-least c = λ q after some.
    let k = c.range-rest.ensures.in_range tt in
    let there = sym (ap is_some (is_listed _ c.self.inside.order.entries q c.self.invariant c.self.view_is)) ∙ some_kind _ ∙ some in
    let j = k.2 q (le_from_after _ _ after, tt) there in
    after_from_le c.in-Some.a.now q (rw c.in-Some.ensures.steps at j)

pub returns-in-None-clause-none : goal.returns-in-None-clause-none
returns-in-None-clause-none c = λ q after.
    let k = c.range-rest.ensures.in_range tt in
    none_told _ (is_listed _ c.self.inside.order.entries q c.self.invariant c.self.view_is ∙ k.5 c.in-None.ensures.steps.0 q (le_from_after _ _ after, tt))
