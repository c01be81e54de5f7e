use Rattle.std.proofs.Common.{◌∷◌, [], List, ℕ, set, true, vec_len, sym, subst, arith, ◌∙◌}
use Rattle.gl_support.proofs.Distinct.{at_marked}
use Rattle.gl_core.specs.Resuming.{IsQueue, Gets}
use Rattle.gl_core.proofs.Marks.{there_has}
use Rattle.gl_core.proofs.Queued.{queue_push, gets_new, gets_known}
use Rattle.gl_core.proofs.closure.add.Goals as goal

pub returns-in_ok-push-clause-queue : goal.returns-in_ok-push-clause-queue
returns-in_ok-push-clause-queue c =
    let marks = c.args.marks.now in
    let n = c.args.n in
    let off = at_marked marks.items n c.index.result.now (omega (arith, c.requires.below, marks.ok.0)) c.index.ensures ∙ c.if-not-index.true in
    subst (λ (ns : List ℕ). IsQueue (vec_len marks) (set marks.items n true) ns) (sym c.in_ok-push.ensures.items) (queue_push (vec_len marks) marks.items c.args.all.now.items n c.requires.queue c.requires.below marks.ok.0 off)

pub returns-in_ok-push-clause-gets : goal.returns-in_ok-push-clause-gets
returns-in_ok-push-clause-gets c =
    let xs = c.args.all.now.items in
    subst (λ (ns : List ℕ). Gets (c.args.n ∷ []) xs ns) (sym c.in_ok-push.ensures.items) (gets_new xs c.args.n)

pub returns-else-not-index-clause-gets : goal.returns-else-not-index-clause-gets
returns-else-not-index-clause-gets c =
    let marks = c.args.marks.now in
    let n = c.args.n in
    let xs = c.args.all.now.items in
    let on = at_marked marks.items n c.index.result.now (omega (arith, c.requires.below, marks.ok.0)) c.index.ensures ∙ c.if-not-index.false in
    gets_known xs n (there_has xs n (sym (c.requires.queue.marked n) ∙ on))
