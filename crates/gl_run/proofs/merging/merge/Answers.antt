use Rattle.std.specs.Prelude.{codes}
use Rattle.std.proofs.Common.{rules, ◌≡◌, ℕ, Some, Vec, Global, inl, inr, refl}
use Rattle.std.proofs.lemmas.Result.{IfOk-weaker}
use Rattle.gl_protocol.specs.Scripts.Commands as C
use Rattle.gl_protocol.specs.Scripts.Commands.{error_line}
use Rattle.gl_merge.specs.Edit.{edit_tree}
use Rattle.gl_run.specs.Merged.{IsMerged, TouchesMerged}
use Rattle.gl_run.specs.Script.{known_of, script_of}
use Rattle.gl_protocol.specs.Run.Touched.{touched_by}
use Rattle.gl_run.proofs.Joining.{alone_merged, conflict_merged}
use Rattle.gl_run.proofs.Spending.{touches_kept}
use Rattle.gl_run.proofs.merging.merge.Goals as goal

pub merge_later-requires : goal.merge_later-requires
merge_later-requires c = rw c.in-Some-Wins.field-0-is at c.in-Some-Wins.ensures

pub merge_known-requires : goal.merge_known-requires
merge_known-requires c = inl (rw c.in-Some-Loses.field-0-is at c.in-Some-Loses.ensures)

pub merge_known-requires-in-Some-Same : goal.merge_known-requires-in-Some-Same
merge_known-requires-in-Some-Same c = inr (rw c.in-Some-Same.field-0-is at c.in-Some-Same.ensures)

pub returns-in-Some-Conflict : goal.returns-in-Some-Conflict
returns-in-Some-Conflict c =
    let s = script_of c.args.script.now in
    let e = edit_tree c.args.e in
    let W : Vec ℕ Global → Type 0 = λ reply. reply.items ≡ error_line (codes "conflict") in
    let Q : Vec ℕ Global → Type 0 = λ reply. IsMerged s e s reply.items in
    let K = known_of c.args.script.now in
    let T : Vec ℕ Global → Type 0 = λ reply. TouchesMerged reply.items e K K in
    record {
      does = IfOk-weaker c.error_line.result W Q (λ reply p. conflict_merged s e reply.items (rw c.in-Some-Conflict.field-0-is at c.in-Some-Conflict.ensures) p) c.error_line.ensures;
      touches = IfOk-weaker c.error_line.result W T (λ reply p. touches_kept (touched_by K.script (C.Request.Merge e)) K K refl (Some (codes "conflict")) reply.items p) c.error_line.ensures;
      err = search rules;
    }

pub returns-in-None : goal.returns-in-None
returns-in-None c =
    let s = script_of c.args.script.now in
    let e = edit_tree c.args.e in
    let W : Vec ℕ Global → Type 0 = λ reply. reply.items ≡ error_line (codes "site") in
    let Q : Vec ℕ Global → Type 0 = λ reply. IsMerged s e s reply.items in
    let K = known_of c.args.script.now in
    let T : Vec ℕ Global → Type 0 = λ reply. TouchesMerged reply.items e K K in
    record {
      does = IfOk-weaker c.error_line-in-None.result W Q (λ reply p. alone_merged s e reply.items c.in-None.ensures p) c.error_line-in-None.ensures;
      touches = IfOk-weaker c.error_line-in-None.result W T (λ reply p. touches_kept (touched_by K.script (C.Request.Merge e)) K K refl (Some (codes "site")) reply.items p) c.error_line-in-None.ensures;
      err = search rules;
    }
