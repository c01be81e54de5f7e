use Rattle.std.proofs.Common.{IfSome, subst}
use Rattle.gl_calculus.specs.Grid.Grid.{Addr}
use Rattle.gl_calculus.specs.Edits.Replicas.{register_at, IsOlder}
use Rattle.gl_merge.specs.Index.{registers}
use Rattle.gl_merge.specs.Replica.{ReplicaValue, registers_of}
use Rattle.gl_merge.proofs.Clocks.{next_wins, past_registers}
use Rattle.gl_merge.proofs.replica.Replica.next.Goals as goal

pub returns-clause-latest : goal.returns-clause-latest
returns-clause-latest c =
    let es = c.self.inside.edits.items in
    let ix = c.self.inside.index.items in
    let past = past_registers c.self.inside.clock es ix c.self.invariant.index.stands c.self.invariant.past in
    subst (λ (r : ReplicaValue). IfSome c.new.result (λ t. (a : Addr) → IsOlder (register_at (registers_of r) a) t)) c.self.view_is
    (next_wins c.self.inside.clock c.self.inside.site c.new.result (registers es ix) c.new.ensures past)
