use Rattle.std.proofs.Common.{◌≡◌, ◌+◌, ℕ, List, ◌∷◌, [], drop, slice_index, refl, subst, arith}
use Rattle.gl_core.specs.Rested.{AreBegunBut, FollowsTo}
use Rattle.gl_core.proofs.Numbered.{get_of_index}
use Rattle.gl_core.proofs.Carried.{drop_next, drop_all}
use Rattle.gl_core.proofs.Followed.{follows_more}
use Rattle.gl_core.proofs.entries.Entries.follow.Goals as goal

pub loop-n-init : goal.loop-n-init
loop-n-init c = record { left = record { known = refl; marks = refl; begun = c.requires.begun; table = c.requires.table } }

pub reread-requires-clause-table : goal.reread-requires-clause-table
reread-requires-clause-table c = c.loop-n.invariant.left.table

pub loop-n-preserved : goal.loop-n-preserved
loop-n-preserved c =
    let l = c.args.ledger.now in
    let ns = c.args.changed.now in
    let i = c.loop-n.n-index in
    let left = c.loop-n.invariant.left in
    let begun = subst (λ (xs : List ℕ). AreBegunBut l xs c.loop-n.self) (drop_next ns i (slice_index ns i) (get_of_index ns i c.loop-n-test.true)) left.begun in
    record { left = follows_more l (drop (i + 1) ns) c.args.self.now c.loop-n.self c.reread.new.self left.known left.marks (c.reread.ensures (drop (i + 1) ns) begun) }

pub returns : goal.returns
returns c = subst (λ (xs : List ℕ). FollowsTo c.args.ledger.now xs c.args.self.now c.loop-n.self) (drop_all c.args.changed.now c.loop-n.n-index (omega (arith, c.loop-n-test.false))) c.loop-n.invariant.left
