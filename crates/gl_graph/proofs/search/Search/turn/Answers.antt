use Rattle.gl_graph.proofs.States.{frame_inside}
use Rattle.gl_graph.proofs.search.Search.turn.Goals as goal

pub next-requires : goal.next-requires
next-requires g c = frame_inside (g.G.Graph.left c.args.graph.now) (g.G.Graph.weight c.args.graph.now) (g.G.Graph.size c.args.graph.now) c.args.self.now.marks.items c.args.self.now.open.items c.args.self.now.starts.items c.args.self.now.frames.items c.args.frame c.requires.state
