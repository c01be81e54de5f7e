use Rattle.std.proofs.Common.{◌∙◌, sym, arith}
use Rattle.gl_script.proofs.Headers.{number_led}
use Rattle.gl_script.proofs.header.is_number.Goals as goal

pub returns-then-first-ne48 : goal.returns-then-first-ne48
returns-then-first-ne48 c = c.are_digits.ensures ∙ sym (number_led c.args.digits.now (omega arith) (omega arith))
