use Rattle.std.proofs.Common.{◌≡◌, true, arith}
use Rattle.gl_protocol.specs.Framing.Pieces.{is_number}
use Rattle.gl_script.proofs.Stamped.{time_read, time_past}
use Rattle.gl_script.proofs.numbers.time_of.Goals as goal

pub returns-in-Ok : goal.returns-in-Ok
returns-in-Ok c =
    let e : is_number c.args.digits.now ≡ true = grind arith in
    time_read c.args.digits.now c.parse.result c.in-Ok.time c.in_times.result c.parse.ensures.value.0 c.in-Ok.is e c.in_times.ensures

pub returns-in-Err : goal.returns-in-Err
returns-in-Err c =
    let e : is_number c.args.digits.now ≡ true = grind arith in
    time_past c.args.digits.now c.in-Err.field-0 c.in-Err.ensures.value.0 e
