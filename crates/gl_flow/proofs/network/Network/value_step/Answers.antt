use Rattle.std.proofs.Common.{refl, ◌∙◌, arith}
use Rattle.std.proofs.lemmas.Grind.{common_steps}
use Rattle.gl_flow.specs.Plans.{plan}
use Rattle.gl_flow.proofs.Stepping.{piece_read, pieces_within, value_taken, value_passed}
use Rattle.gl_flow.proofs.network.Network.value_step.Goals as goal

pub piece_step-requires-clause-read : goal.piece_step-requires-clause-read
piece_step-requires-clause-read c =
    let s = c.args.self.now in
    (piece_read s.pieces.items c.args.k c.loop-part.part c.index-pieces.result.now c.index.result.now s.sound.read (pieces_within s.pieces.items s.places.items c.args.k s.sound.same_pieces c.requires) c.index-pieces.ensures (omega (arith, c.loop-part-test.true, c.loop-part.auto.part-end, c.len-part-end.ensures)) c.index.ensures).0

pub piece_step-requires-clause-last : goal.piece_step-requires-clause-last
piece_step-requires-clause-last c =
    let s = c.args.self.now in
    (piece_read s.pieces.items c.args.k c.loop-part.part c.index-pieces.result.now c.index.result.now s.sound.read (pieces_within s.pieces.items s.places.items c.args.k s.sound.same_pieces c.requires) c.index-pieces.ensures (omega (arith, c.loop-part-test.true, c.loop-part.auto.part-end, c.len-part-end.ensures)) c.index.ensures).1

pub returns-in-Some-clause-some : goal.returns-in-Some-clause-some
returns-in-Some-clause-some c =
    let s = c.args.self.now in
    c.loop-part.invariant
    ∙ value_taken s.pieces.items (plan s) refl c.args.k c.loop-part.part c.index-pieces.result.now c.index.result.now (pieces_within s.pieces.items s.places.items c.args.k s.sound.same_pieces c.requires) c.index-pieces.ensures (omega (arith, c.loop-part-test.true, c.loop-part.auto.part-end, c.len-part-end.ensures)) c.index.ensures
    c.loop-part.offset c.in-Some.node c.in-Some.next c.in-Some.ensures.some

pub loop-part-preserved : goal.loop-part-preserved
loop-part-preserved c =
    let s = c.args.self.now in
    c.loop-part.invariant
    ∙ value_passed s.pieces.items (plan s) refl c.args.k c.loop-part.part c.index-pieces.result.now c.index.result.now (pieces_within s.pieces.items s.places.items c.args.k s.sound.same_pieces c.requires) c.index-pieces.ensures (omega (arith, c.loop-part-test.true, c.loop-part.auto.part-end, c.len-part-end.ensures)) c.index.ensures
    c.loop-part.offset c.in_default.ensures.none

pub index-pieces-requires : goal.index-pieces-requires
index-pieces-requires c = grind (arith, common_steps)

pub returns-clause-none : goal.returns-clause-none
returns-clause-none c = grind (arith, common_steps)
