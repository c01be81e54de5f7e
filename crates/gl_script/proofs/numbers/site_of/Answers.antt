use Rattle.std.proofs.Common.{◌≡◌, true, arith}
use Rattle.gl_protocol.specs.Framing.Pieces.{is_number}
use Rattle.gl_script.proofs.Stamped.{site_is}
use Rattle.gl_script.proofs.numbers.site_of.Goals as goal

pub returns : goal.returns
returns c =
    let e : is_number c.args.digits.now ≡ true = grind arith in
    site_is c.args.digits.now c.parse.result c.ok.result c.parse.ensures.value.0 c.ok.ensures.value e
