use Rattle.std.proofs.Common.{◌∙◌, sym, ap}
use Rattle.std.specs.List.{list_any}
use Rattle.gl_calculus.specs.Grid.Grid.{addresses, covers}
use Rattle.gl_plane.specs.Changes.{reaches}
use Rattle.gl_plane.proofs.Ranges.{shared, apart_from_hull, no_hull}
use Rattle.gl_plane.proofs.changes.Changes.touches.Goals as goal

pub returns-then-overlap : goal.returns-then-overlap
returns-then-overlap c =
    let r = c.args.r.now in
    let same = c.deref.ensures.value ∙ c.self.view_is in
    c.overlap_some.ensures ∙ ap (λ cs. list_any (λ s. list_any (covers s) (addresses r)) cs) same ∙ shared c.args.self.now r

pub returns-else-overlap : goal.returns-else-overlap
returns-else-overlap c =
    let r = c.args.r.now in
    let apart = sym c.overlap.ensures ∙ c.if-overlap.false in
    c.if-overlap.false ∙ apart_from_hull c.self.inside.hull c.in-Some.hull c.self.inside.ranges.items r c.self.invariant.0 c.in-Some.is apart ∙ ap (λ cs. reaches cs r) c.self.view_is

pub returns-in-None : goal.returns-in-None
returns-in-None c =
    let r = c.args.r.now in
    no_hull c.self.inside.hull c.self.inside.ranges.items r c.self.invariant.0 c.in-None.is ∙ ap (λ cs. reaches cs r) c.self.view_is
