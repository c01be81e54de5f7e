use Rattle.std.proofs.Common.{◌≡◌, true, arith}
use Rattle.gl_protocol.specs.Framing.Pieces.{is_number}
use Rattle.gl_script.proofs.Headers.{count_read, count_past, count_off}
use Rattle.gl_script.proofs.header.count_of.Goals as goal

pub returns-in-Ok-clause-value : goal.returns-in-Ok-clause-value
returns-in-Ok-clause-value c =
    let e : is_number c.args.text.now ≡ true = grind arith in
    count_read c.args.text.now c.parse.result c.in-Ok.count c.parse.ensures.value.0 c.in-Ok.is e c.if-count-le-MAX_PAYLOAD.true

pub returns-in_default-clause-value : goal.returns-in_default-clause-value
returns-in_default-clause-value c =
    let e : is_number c.args.text.now ≡ true = grind arith in
    count_past c.args.text.now c.parse.result c.in-Ok.count c.parse.ensures.value.0 c.in-Ok.is e c.if-count-le-MAX_PAYLOAD.false

pub returns-in_default-2-clause-value : goal.returns-in_default-2-clause-value
returns-in_default-2-clause-value c =
    let e : is_number c.args.text.now ≡ true = grind arith in
    count_off c.args.text.now c.in_default.field-0 c.in_default.ensures.value.0 e
