use Rattle.std.proofs.Common.{◌<◌, ◌+◌, drop, length, sym, subst, ◌∙◌, arith}
use Rattle.gl_calculus.specs.Evaluation.World.{world}
use Rattle.gl_calculus.specs.Evaluation.Evaluation.{program}
use Rattle.gl_calculus.specs.Evaluation.Key.{same_key}
use Rattle.gl_calculus.specs.Evaluation.SameOutcome.{same_outcome}
use Rattle.gl_calculus.proofs.Tests.{key_equality}
use Rattle.gl_calculus.specs.Explanation.Certificate.{is_proper}
use Rattle.laws_calculus.proofs.Explanation.Checking.{Passed, one_passed, one_strays}
use Rattle.gl_ast.specs.View.{version_tree}
use Rattle.gl_cells.specs.Sheet.{sheet}
use Rattle.gl_cert.specs.Claims.{claim_tree, claim_trees}
use Rattle.gl_cert.specs.Notes.{claims}
use Rattle.gl_cert.proofs.Tables.{claims_from, claim_sound}
use Rattle.gl_cert.proofs.straying.first_stray.Goals as goal

pub note_follows-requires : goal.note_follows-requires
note_follows-requires g c =
    let lt : c.loop-i.i < length c.args.list.now = omega arith in
    record { sound = claim_sound c.args.list.now c.loop-i.i c.index-list-i.result c.requires.sound lt c.index-list-i.is }

pub returns-in-Ok-false-clause-stray : goal.returns-in-Ok-false-clause-stray
returns-in-Ok-false-clause-stray g c =
    let S = sheet c.args.evaluator.now.cells.now in
    let P = program (world (version_tree c.args.evaluator.now.version) S c.args.evaluator.now.oracle.now) in
    let list = c.args.list.now in
    let i = c.loop-i.i in
    let x = c.index-list-i.result in
    let all = claim_trees list in
    let done = claims c.loop-i.notes in
    let rest = claim_trees (drop (i + 1) list) in
    let lt : i < length list = omega arith in
    let here = subst (λ r. Passed same_key same_outcome (is_proper S) P key_equality all done r i) (claims_from list i x lt c.index-list-i.is) c.loop-i.invariant.passed in
    sym (one_strays same_key same_outcome (is_proper S) P key_equality all done rest (claim_tree x) i here (sym c.in-Ok-false.ensures.follows ∙ c.in-Ok-false.field-0-test))

pub loop-i-preserved : goal.loop-i-preserved
loop-i-preserved g c =
    let S = sheet c.args.evaluator.now.cells.now in
    let P = program (world (version_tree c.args.evaluator.now.version) S c.args.evaluator.now.oracle.now) in
    let list = c.args.list.now in
    let i = c.loop-i.i in
    let x = c.index-list-i.result in
    let all = claim_trees list in
    let done = claims c.loop-i.notes in
    let rest = claim_trees (drop (i + 1) list) in
    let lt : i < length list = omega arith in
    let here = subst (λ r. Passed same_key same_outcome (is_proper S) P key_equality all done r i) (claims_from list i x lt c.index-list-i.is) c.loop-i.invariant.passed in
    let more = one_passed same_key same_outcome (is_proper S) P key_equality all done rest (claim_tree x) i here (sym c.in-Ok-true.ensures.follows ∙ c.in-Ok-true.field-0-test) in
    record {
      passed = subst (λ ns. Passed same_key same_outcome (is_proper S) P key_equality all ns rest (i + 1)) (sym (c.in-Ok-true.ensures.noted c.in-Ok-true.field-0-test)) more;
      steps = omega (arith, c.loop-i.invariant.steps, c.note_follows.ensures.steps);
      later = omega (arith, c.loop-i.invariant.later, c.note_follows.ensures.later);
    }
