use Rattle.std.proofs.Common.{List, ℕ, take, slice_index, sym, subst, ◌∙◌}
use Rattle.gl_core.specs.Resuming.{IsQueue, Gets}
use Rattle.gl_core.proofs.Numbered.{get_of_index}
use Rattle.gl_core.proofs.Indexing.{take_next}
use Rattle.gl_core.proofs.Queued.{gets_more}
use Rattle.gl_core.proofs.closure.add_all.Goals as goal

pub loop-n-preserved : goal.loop-n-preserved
loop-n-preserved c =
    let ns = c.args.numbers.now in
    let i = c.loop-n.n-index in
    let old = c.args.all.now.items in
    let new = c.add.new.all.items in
    let n = slice_index ns i in
    let more = gets_more (take i ns) n old c.loop-n.all.items new c.loop-n.invariant.gets c.in_ok-add.ensures.gets in
    record {
      queue = subst (λ (m : ℕ). IsQueue m c.add.new.marks.items new) c.loop-n.invariant.size c.in_ok-add.ensures.queue;
      size = c.add.ensures.size ∙ c.loop-n.invariant.size;
      gets = subst (λ (t : List ℕ). Gets t old new) (sym (take_next ns i n (get_of_index ns i c.loop-n-test.true))) more;
    }
