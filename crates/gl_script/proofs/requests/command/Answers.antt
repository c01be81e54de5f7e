use Rattle.std.proofs.Common.{◌∙◌, sym, subst}
use Rattle.std.specs.Prelude.{IsFalse}
use Rattle.gl_language.specs.Texts.Text.{Bytes}
use Rattle.gl_protocol.specs.Scripts.Commands as C
use Rattle.gl_protocol.specs.Scripts.Commands.{is_comment}
use Rattle.gl_script.specs.Command.{Answers}
use Rattle.gl_script.proofs.Headers.{not_utf8}
use Rattle.gl_script.proofs.requests.command.Goals as goal

pub returns-then-is_comment : goal.returns-then-is_comment
returns-then-is_comment c = C.ReadsLine.comment (sym c.is_comment.ensures ∙ c.if-is_comment.true)

pub returns-in-Ok : goal.returns-in-Ok
returns-in-Ok c =
    let same = c.in-Ok.ensures.cases.0 in
    subst (λ (l : Bytes). Answers l c.command_of_text.result) same (c.command_of_text.ensures (subst (λ (l : Bytes). IsFalse (is_comment l)) (sym same) (sym c.is_comment.ensures ∙ c.if-is_comment.false)))

pub returns-in-Err : goal.returns-in-Err
returns-in-Err c = (C.ReadsLine.utf8 (sym c.is_comment.ensures ∙ c.if-is_comment.false) (not_utf8 c.args.line.now c.in-Err.ensures.cases.0), tt)
