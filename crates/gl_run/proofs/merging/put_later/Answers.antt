use Rattle.std.proofs.Common.{rules, ◌≡◌, ◌∙◌, ℕ, List, Option, Err, option_map, Vec, Global, sym, ap, subst, append-nil}
use Rattle.std.proofs.lemmas.Result.{IfOk-weaker}
use Rattle.gl_calculus.specs.Grid.Grid.{Addr}
use Rattle.gl_calculus.specs.Formulas.Formula as F
use Rattle.gl_protocol.specs.Scripts.Commands as C
use Rattle.gl_protocol.specs.Scripts.Commands.{Read, Is}
use Rattle.gl_protocol.specs.Scripts.Script.{allowed_change}
use Rattle.gl_cells.specs.Content.{content_tree}
use Rattle.gl_calc.specs.View.{View, sheet_of}
use Rattle.gl_merge.specs.Edit.{edit_tree}
use Rattle.gl_run.specs.Changed.{Puts, Marks}
use Rattle.gl_run.specs.Merged.{IsMerged, TouchesMerged}
use Rattle.gl_run.specs.Replies.{IsRefusal, put_word}
use Rattle.gl_run.specs.Script.{known_of, script_of}
use Rattle.gl_protocol.specs.Run.Touched.{touched_by, touched_by_one}
use Rattle.gl_run.proofs.Joining.{later_takes, later_merged, put_merged, later_touches, proper_shared}
use Rattle.gl_run.proofs.Spending.{touches_marks, touches_by_word}
use Rattle.gl_run.proofs.merging.put_later.Goals as goal

pub put_change-requires : goal.put_change-requires
put_change-requires c = proper_shared c.in_ok-content.content c.args.e.content (c.in_ok-content.ensures ∙ ap (option_map content_tree) c.content.ensures.value) c.content.ensures.proper

pub take-requires : goal.take-requires
take-requires c = later_takes c.args.script.now c.args.e c.put_change.new.calc c.requires.later c.requires.room

pub returns-in-Ok : goal.returns-in-Ok
returns-in-Ok c =
    let x = c.args.script.now in
    let S = sheet_of x.calc in
    let y = c.put_change.new.calc in
    let same = c.in_ok-content.ensures ∙ ap (option_map content_tree) c.content.ensures.value in
    let puts : allowed_change S c.args.e.place (edit_tree c.args.e).content ≡ Is (sheet_of y) =
    ap (λ (o : Option F.Content). allowed_change S c.args.e.place o) (sym same) ∙ ap (λ (a : Addr). allowed_change S a (option_map content_tree c.in_ok-content.content)) (sym c.place.ensures) ∙ c.in-Ok.ensures.puts in
    let z = c.take.new.script in
    let e = edit_tree c.args.e in
    let places : touched_by_one S c.place.result (option_map content_tree c.in_ok-content.content) ≡ touched_by (script_of x) (C.Request.Merge e) =
    ap (λ (o : Option F.Content). touched_by_one S c.place.result o) same ∙ ap (λ (a : Addr). touched_by_one S a e.content) c.place.ensures ∙ sym (later_touches (script_of x) e c.requires.later) in
    let marks = subst (λ (ps : List Addr). Marks ps x.calc y) places c.in-Ok.ensures.marks in
    record {
      does = later_merged x c.args.e c.requires.later y c.in_ok-reply.reply.items c.requires.room (script_of c.take.new.script) puts c.take.ensures.takes c.in_ok-reply.ensures;
      touches = touches_marks x z (touched_by (script_of x) (C.Request.Merge e)) c.in_ok-reply.reply.items c.in_ok-reply.ensures (subst (λ (v : View). Marks (touched_by (script_of x) (C.Request.Merge e)) x.calc v) (sym c.take.ensures.calc) marks);
      err = tt;
    }

pub returns-in-Err : goal.returns-in-Err
returns-in-Err c =
    let x = c.args.script.now in
    let S = sheet_of x.calc in
    let y = c.put_change.new.calc in
    let f = c.in-Err.fault in
    let same = c.in_ok-content.ensures ∙ ap (option_map content_tree) c.content.ensures.value in
    let is : allowed_change S c.place.result (option_map content_tree c.in_ok-content.content) ≡ allowed_change S c.args.e.place (edit_tree c.args.e).content =
    ap (λ (o : Option F.Content). allowed_change S c.place.result o) same ∙ ap (λ (a : Addr). allowed_change S a (edit_tree c.args.e).content) c.place.ensures in
    let puts : Puts (Err f) (allowed_change S c.args.e.place (edit_tree c.args.e).content) S (sheet_of y) = subst (λ (g : Read F.Cells). Puts (Err f) g S (sheet_of y)) is c.in-Err.ensures.puts in
    let W : Vec ℕ Global → Type 0 = λ reply. IsRefusal (put_word f) reply.items in
    let Q : Vec ℕ Global → Type 0 = λ reply. IsMerged (script_of x) (edit_tree c.args.e) (script_of (record x { calc = y })) reply.items in
    let K = known_of x in
    let K' = known_of (record x { calc = c.put_change.new.calc }) in
    let e = edit_tree c.args.e in
    let h = c.in-Err.ensures.marks in
    let T : Vec ℕ Global → Type 0 = λ reply. TouchesMerged reply.items e K K' in
    record {
      does = IfOk-weaker c.put_refusal.result W Q (λ reply p. put_merged x c.args.e c.requires.later y reply.items c.requires.room f puts p) c.put_refusal.ensures;
      touches = IfOk-weaker c.put_refusal.result W T
          (λ reply p. touches_by_word (touched_by K.script (C.Request.Merge e)) K K' h.tables h.made_for reply.items (put_word c.in-Err.fault) p (h.touched ∙ append-nil K.touched)) c.put_refusal.ensures;
      err = search rules;
    }
