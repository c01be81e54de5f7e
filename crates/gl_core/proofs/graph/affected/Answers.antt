use Rattle.std.proofs.Common.{arith}
use Rattle.gl_plane.specs.Changes.{reaches}
use Rattle.gl_core.proofs.Graphed.{dropped_rows, rows_of_all, graph_of_all, have_longer}
use Rattle.gl_core.proofs.graph.affected.Goals as goal

pub returns-clause-dropped : goal.returns-clause-dropped
returns-clause-dropped c =
    let rs = c.args.rows.now in
    let g = c.add.new.self in
    let added = c.in_ok-add.ensures in
    dropped_rows rs g.rests added.graph.sound (rows_of_all rs g added.all added.graph) c.requires.closed (reaches c.args.changes.now) c.in_ok-gone.gone.items c.in_ok-gone.ensures.dropped

pub returns-clause-graph : goal.returns-clause-graph
returns-clause-graph c =
    let rs = c.args.rows.now in
    let g = c.add.new.self in
    let added = c.in_ok-add.ensures in
    let gone = c.in_ok-gone.ensures in
    graph_of_all rs (record { rests = c.affected.new.self; rows = g.rows }) gone.sound added.all
    (have_longer rs g.rests c.affected.new.self (omega (arith, gone.size)) gone.same (rows_of_all rs g added.all added.graph))
