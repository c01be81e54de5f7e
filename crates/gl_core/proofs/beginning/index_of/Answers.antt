use Rattle.std.proofs.Common.{◌<◌, ◌+◌, length, take, slice_index, ap, sym, subst, ◌∙◌, arith}
use Rattle.std.proofs.lemmas.Grind.{common_steps}
use Rattle.std.proofs.lemmas.List.{length-set}
use Rattle.gl_core.specs.Numbers.{IsIndex}
use Rattle.gl_core.proofs.Numbered.{all_at, get_of_index}
use Rattle.gl_core.proofs.Indexing.{index_next}
use Rattle.gl_core.proofs.beginning.index_of.Goals as goal

pub loop-p-preserved : goal.loop-p-preserved
loop-p-preserved c =
    let ns = c.args.known.now in
    let p = c.loop-p.p in
    let at = c.loop-p.at.items in
    let n = slice_index ns p in
    let there = get_of_index ns p c.loop-p-test.true in
    let within : n < length at = subst (λ m. n < m) (sym c.loop-p.invariant.size) (all_at (λ m. m < c.args.numbers) ns c.requires.there p n there) in
    record {
      index = subst (IsIndex (take (p + 1) ns)) (sym c.put.ensures) (index_next ns at p n c.requires.apart there c.loop-p-test.true within c.loop-p.invariant.index);
      size = ap length c.put.ensures ∙ length-set at n (p + 1) ∙ c.loop-p.invariant.size;
    }

pub loop-p-init : goal.loop-p-init
loop-p-init c = grind (arith, common_steps)

pub put-requires-clause-there : goal.put-requires-clause-there
put-requires-clause-there c = grind (arith, common_steps)

pub returns : goal.returns
returns c = grind (arith, common_steps)
