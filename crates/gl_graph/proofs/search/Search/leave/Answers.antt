use Rattle.std.proofs.Common.{◌+◌, sym, ap, ◌∙◌, arith}
use Rattle.std.specs.Prelude.{if◌then◌else◌}
use Rattle.gl_graph.specs.declared.mark.Mark.TheVariants.{Plain, Circle}
use Rattle.gl_graph.proofs.States.{frame_high, frame_place, turn_back, turn_out}
use Rattle.gl_graph.proofs.search.Search.leave.Goals as goal

pub overflow_add-height : goal.overflow_add-height
overflow_add-height g c = let u = frame_high (g.G.Graph.left c.args.graph.now) (g.G.Graph.weight c.args.graph.now) (g.G.Graph.size c.args.graph.now) c.args.self.now.marks.items c.args.self.now.open.items c.args.self.now.starts.items c.args.self.now.frames.items c.args.frame c.requires.state in omega (arith, u, c.weight.ensures.small, c.size-size.ensures)

pub close-requires-clause-start : goal.close-requires-clause-start
close-requires-clause-start g c = let u = frame_place (g.G.Graph.left c.args.graph.now) (g.G.Graph.weight c.args.graph.now) (g.G.Graph.size c.args.graph.now) c.args.self.now.marks.items c.args.self.now.open.items c.args.self.now.starts.items c.args.self.now.frames.items c.args.frame c.requires.state in omega (arith, u)

pub returns-then-is_last : goal.returns-then-is_last
returns-then-is_last g c = turn_out (g.G.Graph.left c.args.graph.now) (g.G.Graph.weight c.args.graph.now) (g.G.Graph.size c.args.graph.now) c.args.self.now.marks.items c.args.self.now.open.items c.args.self.now.starts.items c.args.self.now.frames.items c.args.frame c.requires.state c.requires.done c.args.self.now.starts.len (omega (arith, c.args.self.now.starts.ok.0)) c.pop.new.self.items c.close.new.marks.items c.close.new.places.items c.mark_for-mark.result (omega (arith, c.weight.ensures.value, c.weight.ensures.small)) (sym c.is_last.ensures ∙ c.if-is_last.true) c.pop.ensures.rest (c.mark_for-mark.ensures ∙ ap (λ t. if c.args.frame.looped then Circle else Plain (t + c.args.frame.high)) c.weight.ensures.value) c.close.ensures.closed c.close.ensures.opens c.close.ensures.left

pub returns-else-is_last : goal.returns-else-is_last
returns-else-is_last g c = turn_back (g.G.Graph.left c.args.graph.now) (g.G.Graph.weight c.args.graph.now) (g.G.Graph.size c.args.graph.now) c.args.self.now.marks.items c.args.self.now.open.items c.args.self.now.starts.items c.args.self.now.frames.items c.args.frame c.requires.state c.requires.done (sym c.is_last.ensures ∙ c.if-is_last.false)
