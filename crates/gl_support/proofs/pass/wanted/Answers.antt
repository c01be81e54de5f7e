use Rattle.std.proofs.Common.{◌≡◌, ◌+◌, ◌-◌, ◌<◌, All, length, sym, ◌∙◌, subst, arith}
use Rattle.std.proofs.Math.ListN.{drop_of_length-le}
use Rattle.gl_support.proofs.Places.{none_marked}
use Rattle.gl_support.proofs.Following.{Follows, follows_first, follows_step, reads_below}
use Rattle.gl_support.proofs.pass.wanted.Goals as goal

pub mark_all-requires : goal.mark_all-requires
mark_all-requires g c = subst (λ n. All (λ k. k < n) c.args.seeds.now) (sym c.in_ok-marks.ensures.len) c.requires.seeds_below

pub loop-i-init : goal.loop-i-init
loop-i-init g c =
    let none = c.in_ok-marks.marks.items in
    let unmarked = none_marked none _ (c.in_ok-marks.ensures.items_if_clones_equal (λ b e. e)) in
    record {
      follows = follows_first c.args.rows.now c.args.seeds.now none c.mark_all.new.marks.items (length c.args.rows.now) unmarked c.mark_all.ensures.marks (drop_of_length-le c.args.rows.now {i = length c.args.rows.now} (omega arith));
      size = c.mark_all.ensures.size ∙ c.in_ok-marks.ensures.len;
      low = omega arith;
    }

pub follow-requires : goal.follow-requires
follow-requires g c =
    let some = c.loop-i-test.true in
    let low = c.loop-i.invariant.low in
    let inside : c.loop-i.i - 1 < length c.args.rows.now = omega (arith, some, low) in
    subst (λ n. All (λ k. k < n) c.index-rows-i.result.reads.items) (sym c.loop-i.invariant.size) (reads_below c.args.numbers c.args.rows.now (c.loop-i.i - 1) c.index-rows-i.result c.requires.below c.requires.ordered inside c.index-rows-i.is)

pub loop-i-preserved : goal.loop-i-preserved
loop-i-preserved g c =
    let some = c.loop-i-test.true in
    let low = c.loop-i.invariant.low in
    let inside : c.loop-i.i - 1 < length c.args.rows.now = omega (arith, some, low) in
    let next : c.loop-i.i ≡ c.loop-i.i - 1 + 1 = omega (arith, some) in
    let before = subst (λ i. Follows c.args.rows.now c.args.seeds.now i c.loop-i.marks.items) next c.loop-i.invariant.follows in
    record {
      follows = follows_step c.args.rows.now c.args.seeds.now (c.loop-i.i - 1) c.index-rows-i.result c.loop-i.marks.items c.follow.new.marks.items c.requires.ordered c.requires.apart inside c.index-rows-i.is c.follow.ensures.marks before;
      size = c.follow.ensures.size ∙ c.loop-i.invariant.size;
      low = omega (arith, low);
    }

pub returns-clause-seeds : goal.returns-clause-seeds
returns-clause-seeds g c = c.loop-i.invariant.follows.seeded

pub returns-clause-closed : goal.returns-clause-closed
returns-clause-closed g c =
    let first : c.loop-i.i ≡ 0 = omega (arith, c.loop-i-test.false) in
    let all = subst (λ i. Follows c.args.rows.now c.args.seeds.now i c.loop-i.marks.items) first c.loop-i.invariant.follows in
    all.closed

pub returns-clause-reached : goal.returns-clause-reached
returns-clause-reached g c = c.loop-i.invariant.follows.reached
