use Rattle.std.proofs.Common.{◌≡◌, Some, sym, subst}
use Rattle.gl_language.specs.Texts.Text.{Bytes}
use Rattle.gl_protocol.specs.Framing.Header.{payload_len}
use Rattle.gl_script.specs.Command.{IsHeader}
use Rattle.gl_script.proofs.Headers.{not_utf8}
use Rattle.gl_script.proofs.HeaderWords.{no_header}
use Rattle.gl_script.proofs.imports.header_place.Goals as goal

pub returns-in-Ok : goal.returns-in-Ok
returns-in-Ok c =
    let same = c.in-Ok.ensures.cases.0 in
    λ n h. subst (λ (l : Bytes). IsHeader l c.place_in.result n) same (c.place_in.ensures n (subst (λ (l : Bytes). payload_len l ≡ Some n) (sym same) h))

pub returns-in-Err : goal.returns-in-Err
returns-in-Err c = λ n h. absurd (no_header c.args.header.now n (not_utf8 c.args.header.now c.in-Err.ensures.cases.0) h)
