use Rattle.std.proofs.Common.{map, arith}
use Rattle.gl_cells.specs.Sheet.{sheet}
use Rattle.gl_demand.specs.View.{key_tree, budget_tree}
use Rattle.gl_cert.specs.Notes.{claims}
use Rattle.gl_cert.specs.View.{cert_tree}
use Rattle.gl_explain.proofs.Endings.{few_ended, says_some, explained_abort, explained_cert}
use Rattle.gl_explain.proofs.Tops.{trees_length}
use Rattle.gl_explain.proofs.explaining.ended.Goals as goal
use Rattle.gl_calculus.specs.Evaluation.World.{world}

pub returns-in-Some : goal.returns-in-Some
returns-in-Some c = λ version n m h.
    let S = sheet c.args.evaluator.now.cells.now in
    let w = c.args.evaluator.now.oracle.now in
    let a = c.args.a in
    let done = claims c.args.notes in
    let up = map key_tree c.args.loops.keys in
    explained_abort (world version S w) a (key_tree c.args.root.now) c.requires.root n m done up (budget_tree c.in-Some.b) h c.in-Some.ensures.some

pub made-requires-clause-said : goal.made-requires-clause-said
made-requires-clause-said c =
    let S = sheet c.args.evaluator.now.cells.now in
    let w = c.args.evaluator.now.oracle.now in
    let a = c.args.a in
    let done = claims c.args.notes in
    let up = map key_tree c.args.loops.keys in
    let (version, n, m, h) = c.requires.ended in
    says_some (world version S w) a (key_tree c.args.root.now) c.requires.root n m done up h c.in-None.ensures.none c.args.notes.sound

pub made-requires-clause-few_notes : goal.made-requires-clause-few_notes
made-requires-clause-few_notes c =
    let S = sheet c.args.evaluator.now.cells.now in
    let w = c.args.evaluator.now.oracle.now in
    let a = c.args.a in
    let done = claims c.args.notes in
    let up = map key_tree c.args.loops.keys in
    let (version, n, m, h) = c.requires.ended in
    omega (arith, few_ended (world version S w) (key_tree c.args.root.now) n m done up h)

pub made-requires-clause-few_loops : goal.made-requires-clause-few_loops
made-requires-clause-few_loops c =
    let S = sheet c.args.evaluator.now.cells.now in
    let w = c.args.evaluator.now.oracle.now in
    let a = c.args.a in
    let done = claims c.args.notes in
    let up = map key_tree c.args.loops.keys in
    let (version, n, m, h) = c.requires.ended in
    omega (arith, few_ended (world version S w) (key_tree c.args.root.now) n m done up h, trees_length c.args.loops.keys)

pub returns-in-Ok : goal.returns-in-Ok
returns-in-Ok c = λ version n m h.
    let S = sheet c.args.evaluator.now.cells.now in
    let w = c.args.evaluator.now.oracle.now in
    let a = c.args.a in
    let done = claims c.args.notes in
    let up = map key_tree c.args.loops.keys in
    explained_cert (world version S w) a (key_tree c.args.root.now) c.requires.root n m done up (cert_tree c.in-Ok.cert) h c.in-Ok.ensures.notes c.in-Ok.ensures.loops c.in-Ok.ensures.shown c.args.notes.keys c.requires.sound
