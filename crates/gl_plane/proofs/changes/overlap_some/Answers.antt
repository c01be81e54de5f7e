use Rattle.std.proofs.Common.{◌∙◌, ◌/◌, ◌<◌, length, Some, ap, sym, arith}
use Rattle.std.proofs.lemmas.Option.{slice_get-get_or}
use Rattle.gl_plane.proofs.Hulls.{block_passed}
use Rattle.gl_plane.proofs.changes.overlap_some.Goals as goal

pub loop-i-preserved-then-not-overlap : goal.loop-i-preserved-then-not-overlap
loop-i-preserved-then-not-overlap c =
    let hulls = c.args.hulls.now in
    let hull = c.index-hulls-i.result in
    let there : c.loop-i.i / 64 < length hulls = omega (arith, c.requires.enough, c.loop-i-test.true) in
    let at = slice_get-get_or hulls (c.loop-i.i / 64) hull there ∙ ap Some (sym c.index-hulls-i.is) in
    let apart = sym c.overlap.ensures ∙ c.if-not-overlap.true in
    sym (block_passed c.args.r.now c.args.ranges.now hulls c.loop-i.i hull c.requires c.if-i-eq0.true at apart) ∙ c.loop-i.invariant
