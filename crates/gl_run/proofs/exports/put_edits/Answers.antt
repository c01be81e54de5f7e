use Rattle.std.proofs.Common.{◌∙◌, ◌++◌, List, take, sym, ap, arith, append_assoc}
use Rattle.std.specs.String.{string_bytes}
use Rattle.gl_calculus.specs.Edits.Replicas.{Edit}
use Rattle.gl_language.specs.Texts.Text.{Bytes}
use Rattle.gl_protocol.specs.Replies.Tables.{line, edit_text}
use Rattle.gl_calc.proofs.Marks.{take_whole}
use Rattle.gl_merge.specs.Edit.{edit_tree, told}
use Rattle.gl_merge.specs.Replica.{registers_of}
use Rattle.gl_run.specs.Replies.{edit_lines}
use Rattle.gl_run.proofs.Joining.{lines_more, told_there}
use Rattle.gl_run.proofs.exports.put_edits.Goals as goal

pub loop-i-preserved : goal.loop-i-preserved
loop-i-preserved c =
    let rs = registers_of c.args.replica.now in
    let i = c.loop-i.i in
    let e = edit_tree c.in-Some.e.now in
    let old = string_bytes c.args.out.now in
    let there = told_there rs i e (sym (ap told c.in-Some.is) ∙ c.register.ensures) in
    c.in_ok-put_edit.ensures ∙ ap (λ (t : Bytes). t ++ line (edit_text e)) c.loop-i.invariant ∙ append_assoc old (edit_lines (take i rs)) (line (edit_text e))
    ∙ ap (λ (t : Bytes). old ++ t) (sym (ap edit_lines there ∙ lines_more (take i rs) e))

pub returns : goal.returns
returns c =
    let rs = registers_of c.args.replica.now in
    c.loop-i.invariant ∙ ap (λ (es : List Edit). string_bytes c.args.out.now ++ edit_lines es) (take_whole rs c.loop-i.i (omega (arith, c.len-i-end.ensures.count)))
