use Rattle.std.proofs.Common.{◌∙◌}
use Rattle.gl_plane.proofs.Hulls.{hull_added, hulls_added}
use Rattle.gl_plane.proofs.changes.Changes.add.Goals as goal

pub invariant_of-self-2 : goal.invariant_of-self-2
invariant_of-self-2 c =
    let old = c.self.inside in
    let more = c.args.more.now in
    let all = c.extend_from_slice.new.self.items in
    let same = c.in_ok-extend_from_slice.ensures.items in
    (hull_added old.hull c.widened-self-inside.result old.ranges.items more all c.self.invariant.0 c.widened-self-inside.ensures same, hulls_added old.ranges.items more all old.hulls.items c.widen_all.new.hulls.items c.len.result c.self.invariant.1 c.widen_all.ensures.wider (c.len.ensures ∙ old.ranges.ok.0) c.in_ok-widen_all.ensures.ok same)
