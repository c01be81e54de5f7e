use Rattle.std.proofs.Common.{◌≡◌, true}
use Rattle.gl_graph.specs.Search.{mark_of, is_new, work, IsState}
use Rattle.gl_graph.proofs.search.Search.visit.Given as goal

abbrev pub invariant-loop-frame : goal.invariant-loop-frame
invariant-loop-frame g l = record {
  state : IsState (g.G.Graph.left l.graph) (g.G.Graph.weight l.graph) (g.G.Graph.size l.graph) l.self.marks.items l.self.open.items l.self.starts.items l.self.frames.items;
  known : is_new (mark_of l.self.marks.items l.node) ≡ true → ⊥;
}

abbrev pub decreases-loop-frame : goal.decreases-loop-frame
decreases-loop-frame g l = work (g.G.Graph.left l.graph) l.self.marks.items l.self.frames.items
