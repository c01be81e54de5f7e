use Rattle.std.proofs.Common.{length, ap, sym, subst, arith}
use Rattle.gl_calculus.specs.Grid.Grid.{AreInOrder}
use Rattle.gl_merge.specs.Index.{registers}
use Rattle.gl_merge.specs.Replica.{ReplicaValue, registers_of}
use Rattle.gl_merge.proofs.Listed.{listed_places, registers_length}
use Rattle.gl_merge.proofs.Registers.{places_of}
use Rattle.gl_merge.proofs.replica.Replica.len.Goals as goal

pub returns-clause-count : goal.returns-clause-count
returns-clause-count c =
    let n = registers_length c.self.inside.edits.items c.self.inside.index.items c.self.invariant.index.stands in
    let same = ap (λ (r : ReplicaValue). length (registers_of r)) c.self.view_is in
    omega (arith, n, same, c.len.ensures)

pub returns-clause-ordered : goal.returns-clause-ordered
returns-clause-ordered c =
    let es = c.self.inside.edits.items in
    let ix = c.self.inside.index.items in
    let o : AreInOrder (places_of (registers es ix)) = subst AreInOrder (sym (listed_places es ix c.self.invariant.index.stands)) c.self.invariant.index.ordered in
    subst (λ (r : ReplicaValue). AreInOrder (places_of (registers_of r))) c.self.view_is o
