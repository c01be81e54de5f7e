use Rattle.std.proofs.Common.{◌≡◌, Some, None, map, ap, sym, ◌∙◌}
use Rattle.std.proofs.lemmas.Result.{IfOk-weaker}
use Rattle.gl_calculus.specs.Computation.Lists.{has_member}
use Rattle.gl_calculus.specs.Evaluation.Evaluation.{program}
use Rattle.gl_calculus.specs.Evaluation.Key.{Key, same_key}
use Rattle.gl_calculus.specs.Evaluation.SameOutcome.{same_outcome}
use Rattle.gl_calculus.specs.Explanation.Certificate.{is_proper, judged, says_so, says}
use Rattle.gl_calculus.specs.Explanation.Walk.{first_free}
use Rattle.gl_demand.specs.View.{key_tree}
use Rattle.gl_cert.specs.Notes.{claims}
use Rattle.gl_cert.specs.View.{cert_tree, verdict_tree}
use Rattle.gl_cert.proofs.Judged.{free_is, says_is}
use Rattle.gl_cert.proofs.checking.check_loops.Goals as goal
use Rattle.gl_demand.specs.Evaluators.{world_of}

pub returns-in-Ok-None-clause-verdict : goal.returns-in-Ok-None-clause-verdict
returns-in-Ok-None-clause-verdict g c =
    let W = world_of c.args.evaluator.now in
    let a = c.args.a in
    let t = cert_tree c.args.c.now in
    let ns = claims c.args.notes.now in
    let set = map key_tree c.in_ok-loops.loops.keys in
    let alike : (j : Key) → has_member same_key j set ≡ has_member same_key j t.loops = λ j. c.in_ok-loops.ensures j ∙ ap (λ ks. has_member same_key j (map key_tree ks)) c.deref.ensures.value in
    let free = free_is W ns t.notes set t.loops c.requires.noted alike (map key_tree c.deref-2.result.now) None (ap (map key_tree) c.deref-2.ensures.value) (sym c.in-Ok-None.field-0-is ∙ c.in-Ok-None.ensures.free) in
    IfOk-weaker c.check_shown.result
    (λ x. verdict_tree x ≡ judged None None (says_so t.shown (says W.sheet W.oracle a ns set)))
    (λ x. verdict_tree x ≡ judged None (first_free same_key same_outcome (is_proper W.sheet) (program W) t.notes t.loops t.loops) (says_so t.shown (says W.sheet W.oracle a t.notes t.loops)))
    (λ x e. e ∙ ap (λ o. judged None None (says_so t.shown o)) (says_is W ns t.notes set t.loops c.requires.noted alike a) ∙ ap (λ o. judged None o (says_so t.shown (says W.sheet W.oracle a t.notes t.loops))) (sym free))
    c.check_shown.ensures

pub returns-in-Ok-Some-clause-verdict : goal.returns-in-Ok-Some-clause-verdict
returns-in-Ok-Some-clause-verdict g c =
    let W = world_of c.args.evaluator.now in
    let a = c.args.a in
    let t = cert_tree c.args.c.now in
    let ns = claims c.args.notes.now in
    let set = map key_tree c.in_ok-loops.loops.keys in
    let alike : (j : Key) → has_member same_key j set ≡ has_member same_key j t.loops = λ j. c.in_ok-loops.ensures j ∙ ap (λ ks. has_member same_key j (map key_tree ks)) c.deref.ensures.value in
    let free = free_is W ns t.notes set t.loops c.requires.noted alike (map key_tree c.deref-2.result.now) (Some c.in-Ok-Some.at) (ap (map key_tree) c.deref-2.ensures.value) (sym c.in-Ok-Some.field-0-is ∙ c.in-Ok-Some.ensures.free) in
    ap (λ o. judged None o (says_so t.shown (says W.sheet W.oracle a t.notes t.loops))) (sym free)
