use Rattle.std.proofs.Common.{◌≡◌, length, ap, sym, arith}
use Rattle.std.proofs.lemmas.Fmt.{decimal_digit}
use Rattle.gl_funs.proofs.Characters.{digits_are}
use Rattle.gl_funs.proofs.texts.digits.Goals as goal

pub returns-in-Some-clause-digits : goal.returns-in-Some-clause-digits
returns-in-Some-clause-digits c =
    sym (digits_are c.args.n c.in-Some.power c.ranges.n.fits c.in-Some.ensures.power_le c.in-Some.ensures.next_power_gt)

pub returns-in-None-clause-digits : goal.returns-in-None-clause-digits
returns-in-None-clause-digits c =
    let none : c.args.n ≡ 0 = c.in-None.ensures.none in
    rw none (sym (ap length (decimal_digit 0 (omega arith))))
