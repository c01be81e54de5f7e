use Rattle.std.proofs.Common.{◌≡◌, sym, subst}
use Rattle.gl_calculus.specs.Evaluation.Key.{same_key}
use Rattle.gl_calculus.specs.Explanation.Walk.{noted}
use Rattle.gl_machine.specs.Ahead.Reading.{keys_from}
use Rattle.gl_demand.specs.Lacking.{IsNext}
use Rattle.gl_demand.specs.Reading.{ahead_tree}
use Rattle.gl_demand.specs.View.{key_tree}
use Rattle.gl_cert.specs.Notes.{claims}
use Rattle.gl_demand.specs.Marks.{mark_tree}
use Rattle.gl_explain.specs.Marks.{IsMark}
use Rattle.gl_explain.proofs.Marks.{marked_still, mark_onward}
use Rattle.gl_explain.proofs.reading.read_on.Goals as goal
use Rattle.gl_demand.specs.Evaluators.{world_of}

pub returns-in-Ok-Some-clause-mark : goal.returns-in-Ok-Some-clause-mark
returns-in-Ok-Some-clause-mark g c =
    let W = world_of c.args.evaluator.now in
    let done = claims c.args.notes.now in
    let k = key_tree c.args.key.now in
    let m = mark_tree c.args.mark in
    let x = c.in-Ok-Some.lacked in
    let is = subst (IsNext (noted same_key done) (keys_from W.sheet W.oracle m.0) m.1) c.in-Ok-Some.field-0-is c.in-Ok-Some.ensures in
    marked_still (λ n. n ≡ (ahead_tree c.args.mark.ahead, x.place)) (IsMark W done k) (λ n e. subst (IsMark W done k) (sym e) (mark_onward W done k m x.place is.1 c.requires.mark)) c.by_mark.result c.by_mark.ensures.mark

pub returns-in-Ok-clause-mark : goal.returns-in-Ok-clause-mark
returns-in-Ok-clause-mark g c =
    let is = IsMark (world_of c.args.evaluator.now) (claims c.args.notes.now) (key_tree c.args.key.now) in
    marked_still (λ m. m ≡ (ahead_tree c.in-Ok.turn.ahead, 0)) is (λ m e. subst is (sym e) c.in-Ok.ensures.ahead) c.by_turn.result c.by_turn.ensures.mark
