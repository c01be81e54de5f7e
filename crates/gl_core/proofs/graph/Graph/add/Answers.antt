use Rattle.std.proofs.Common.{length, take, refl}
use Rattle.gl_core.proofs.Graphed.{below_wider, have_longer, graph_of_all}
use Rattle.gl_core.proofs.graph.Graph.add.Goals as goal

pub lengthen-requires : goal.lengthen-requires
lengthen-requires c = c.requires.first.sound

pub add_rows-requires-clause-below : goal.add_rows-requires-clause-below
add_rows-requires-clause-below c = below_wider c.args.numbers (length c.lengthen.new.rests.reads.items) c.in_ok-lengthen.ensures.room c.args.rows.now c.requires.below

pub add_rows-requires-clause-first : goal.add_rows-requires-clause-first
add_rows-requires-clause-first c =
    let g = c.args.self.now in
    have_longer (take g.rows c.args.rows.now) g.rests c.lengthen.new.rests c.in_ok-lengthen.ensures.longer c.in_ok-lengthen.ensures.same c.requires.first.rows

pub returns-clause-graph : goal.returns-clause-graph
returns-clause-graph c = graph_of_all c.args.rows.now (record { rests = c.add_rows.new.rests; rows = length c.args.rows.now }) c.in_ok-add_rows.ensures.sound refl c.in_ok-add_rows.ensures.all
