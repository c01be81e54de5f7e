use Rattle.std.proofs.Common.{◌<◌, ◌≤◌, List, ℕ, length, sym, ap, subst, arith, ◌∙◌}
use Rattle.gl_support.specs.Reach.{has}
use Rattle.gl_core.specs.Numbers.{Each}
use Rattle.gl_core.specs.Resuming.{IsQueue}
use Rattle.gl_core.proofs.Numbered.{item_at}
use Rattle.gl_core.proofs.Queued.{queue_fits, queue_begun, queue_next, queue_closed}
use Rattle.gl_core.proofs.closure.closure.Goals as goal

pub loop-i-init : goal.loop-i-init
loop-i-init c =
    let l = c.args.ledger.now in
    let seeds = c.args.seeds.items in
    let marks = c.in_ok-marks.marks in
    let count = c.in_ok-marks.ensures.size ∙ c.len.ensures.count in
    record {
      queue = record {
        below = subst (λ (m : ℕ). Each (λ n. n < m) seeds) (sym count) c.requires.below;
        apart = c.requires.apart;
        marked = λ k. c.in_ok-marks.ensures.marks k ∙ ap (λ (ns : List ℕ). has ns k) c.deref.ensures.value;
      };
      count = count;
      so_far = queue_begun l seeds;
    }

pub loop-i-smaller : goal.loop-i-smaller
loop-i-smaller c =
    let fits = queue_fits _ c.loop-i.marks.items c.loop-i.all.items c.loop-i.invariant.queue in
    omega (arith, fits, c.loop-i.invariant.count, c.loop-i-test.true, c.len-in-loop-i.ensures, c.loop-i.all.ok.0)

pub loop-i-preserved : goal.loop-i-preserved
loop-i-preserved c =
    let inside : c.loop-i.i < length c.loop-i.all.items = omega (arith, c.loop-i-test.true, c.len-in-loop-i.ensures, c.loop-i.all.ok.0) in
    let inv = c.loop-i.invariant in
    record {
      queue = subst (λ (m : ℕ). IsQueue m c.add_reads.new.marks.items c.add_reads.new.all.items) (sym c.add_reads.ensures.size) c.in_ok-add_reads.ensures.queue;
      count = c.add_reads.ensures.size ∙ inv.count;
      so_far = queue_next c.args.ledger.now c.args.seeds.items c.loop-i.all.items c.add_reads.new.all.items c.loop-i.i c.index-n.result.now inside (item_at c.loop-i.all.items c.loop-i.i c.index-n.result.now c.index-n.ensures inside) inv.so_far c.in_ok-add_reads.ensures.gets;
    }

pub returns : goal.returns
returns c =
    let inv = c.loop-i.invariant in
    let end : length c.loop-i.all.items ≤ c.loop-i.i = omega (arith, c.loop-i-test.false, c.len-in-loop-i.ensures, c.loop-i.all.ok.0) in
    queue_closed c.args.ledger.now c.args.seeds.items c.loop-i.all.items c.loop-i.marks.items _ c.loop-i.i inv.count inv.queue end c.requires.closed inv.so_far
