use Rattle.std.specs.Prelude.{codes}
use Rattle.std.proofs.Common.{rules, ◌≡◌, ℕ, Some, IfOk, Vec, Global, is_some, sym, ap, subst}
use Rattle.std.proofs.lemmas.Result.{IfOk-weaker}
use Rattle.gl_protocol.specs.Scripts.Commands as C
use Rattle.gl_protocol.specs.Scripts.Commands.{error_line}
use Rattle.gl_calculus.specs.Grid.Grid.{Addr}
use Rattle.gl_merge.specs.Edit.{edit_tree}
use Rattle.gl_protocol.specs.Run.Known.{Known}
use Rattle.gl_run.specs.Merged.{HasRoom, IsFull, IsLater, IsMerged, TouchesMerged}
use Rattle.gl_run.specs.Script.{known_of, script_of}
use Rattle.gl_protocol.specs.Run.Touched.{touched_by}
use Rattle.gl_run.proofs.Joining.{some_there, full_merged}
use Rattle.gl_run.proofs.Spending.{touches_kept}
use Rattle.gl_run.proofs.merging.merge_later.Goals as goal

pub make_room-requires : goal.make_room-requires
make_room-requires c = let q = some_there c.args.script.now c.requires.0 c.requires.1 in ap is_some q.1

pub put_later-requires-clause-later : goal.put_later-requires-clause-later
put_later-requires-clause-later c = subst (λ (K : Known). IsLater K.script (edit_tree c.args.e)) (sym c.in-Ok.ensures.known) c.requires

pub put_later-requires-clause-room : goal.put_later-requires-clause-room
put_later-requires-clause-room c = subst (λ (a : Addr). HasRoom c.make_room.new.script a) c.place.ensures c.in-Ok.ensures.room

pub returns-in-Ok : goal.returns-in-Ok
returns-in-Ok c =
    record {
      does = subst (λ (K : Known). IfOk c.put_later.result (λ reply. IsMerged K.script (edit_tree c.args.e) (script_of c.put_later.new.script) reply.items)) c.in-Ok.ensures.known c.put_later.ensures.does;
      touches = subst (λ (K : Known). IfOk c.put_later.result (λ reply. TouchesMerged reply.items (edit_tree c.args.e) K (known_of c.put_later.new.script))) c.in-Ok.ensures.known c.put_later.ensures.touches;
      err = search rules;
    }

pub returns-in-Err-Edits : goal.returns-in-Err-Edits
returns-in-Err-Edits c =
    let z = c.make_room.new.script in
    let e = c.args.e in
    let same = c.in-Err-Edits.ensures.known in
    let later : IsLater (script_of z) (edit_tree e) = subst (λ (K : Known). IsLater K.script (edit_tree e)) (sym same) c.requires in
    let full = subst (λ (a : Addr). IsFull z a) c.place.ensures (rw c.in-Err-Edits.field-0-is at c.in-Err-Edits.ensures.room) in
    let W : Vec ℕ Global → Type 0 = λ reply. reply.items ≡ error_line (codes "edits") in
    let Q : Vec ℕ Global → Type 0 = λ reply. IsMerged (script_of z) (edit_tree e) (script_of z) reply.items in
    let K = known_of c.args.script.now in
    let K' = known_of c.make_room.new.script in
    let T : Vec ℕ Global → Type 0 = λ reply. TouchesMerged reply.items (edit_tree e) K K' in
    record {
      does = subst (λ (K : Known). IfOk c.error_line.result (λ reply. IsMerged K.script (edit_tree e) (script_of z) reply.items)) same
          (IfOk-weaker c.error_line.result W Q (λ reply p. full_merged z e later reply.items full p) c.error_line.ensures);
      touches = IfOk-weaker c.error_line.result W T (λ reply p. touches_kept (touched_by K.script (C.Request.Merge (edit_tree e))) K K' c.in-Err-Edits.ensures.known (Some (codes "edits")) reply.items p) c.error_line.ensures;
      err = search rules;
    }
