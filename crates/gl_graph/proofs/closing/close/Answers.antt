use Rattle.std.proofs.Common.{arith}
use Rattle.std.proofs.lemmas.Grind.{common_steps}
use Rattle.gl_graph.proofs.Closed.{close_start, close_on, close_opens}
use Rattle.gl_graph.proofs.closing.close.Goals as goal

pub loop-mark-init : goal.loop-mark-init
loop-mark-init c = record { closing = close_start c.args.marks.now.items c.args.places.now.items c.requires.opens c.args.mark c.requires.shut; start = c.requires.start }

pub loop-mark-preserved-in-Some : goal.loop-mark-preserved-in-Some
loop-mark-preserved-in-Some c = record {
  closing = (close_on c.args.marks.now.items c.args.places.now.items c.requires.opens c.args.mark c.requires.shut c.loop-mark.marks.items c.loop-mark.places.items c.pop.new.self.items c.in-Some.node c.in-Some.ensures.items c.loop-mark.invariant.closing).1;
  start = omega (arith, c.loop-mark-test.true, c.in-Some.ensures.len, c.len.ensures);
}

pub returns-clause-opens : goal.returns-clause-opens
returns-clause-opens c = close_opens c.args.marks.now.items c.args.places.now.items c.requires.opens c.args.mark c.requires.shut c.loop-mark.marks.items c.loop-mark.places.items c.loop-mark.invariant.closing

pub index_mut-requires : goal.index_mut-requires
index_mut-requires c = grind (arith, common_steps)
