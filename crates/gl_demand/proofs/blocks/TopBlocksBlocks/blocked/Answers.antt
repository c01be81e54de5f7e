use Rattle.std.proofs.Common.{Some, sym, ◌∙◌, ap}
use Rattle.gl_calculus.proofs.Tests.{addr_exact}
use Rattle.gl_cells.specs.Sheet.{sheet}
use Rattle.gl_demand.proofs.Firsts.{empty_top, none_blocks, first_blocks, second_blocks}
use Rattle.gl_demand.proofs.blocks.TopBlocksBlocks.blocked.Goals as goal

pub returns-then-contents-eq0 : goal.returns-then-contents-eq0
returns-then-contents-eq0 c = empty_top (sheet c.args.self.now.cells.now) c.args.area.now c.args.root (sym c.contents.ensures.count ∙ c.if-contents-eq0.true)

pub returns-in-None : goal.returns-in-None
returns-in-None c = none_blocks (sheet c.args.self.now.cells.now) c.args.area.now c.args.root c.contents.ensures.ordered c.in-None.ensures

pub returns-then-eq : goal.returns-then-eq
returns-then-eq c = second_blocks (sheet c.args.self.now.cells.now) c.args.area.now c.args.root c.contents.ensures.ordered c.next_in-then-eq.result (ap Some (sym (addr_exact c.in-Some.a c.args.root (sym c.eq.ensures ∙ c.if-eq.true))) ∙ c.in-Some.ensures) c.next_in-then-eq.ensures

pub returns-else-eq : goal.returns-else-eq
returns-else-eq c = first_blocks (sheet c.args.self.now.cells.now) c.args.area.now c.args.root c.contents.ensures.ordered c.in-Some.a c.in-Some.ensures (sym c.eq.ensures ∙ c.if-eq.false)
