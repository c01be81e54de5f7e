use Rattle.std.proofs.Common.{◌≡◌, ◌∙◌, ap}
use Rattle.std.proofs.lemmas.Int.{to_z-of_z}
use Rattle.std.specs.Fmt.{signed_decimal}
use Rattle.std.specs.Int.{w64}
use Rattle.std.specs.Rc.{rc_str_bytes}
use Rattle.gl_funs.proofs.Characters.{signed_short}
use Rattle.gl_funs.proofs.texts.integer_text.Goals as goal

pub returns-clause-short : goal.returns-clause-short
returns-clause-short c =
    let text : rc_str_bytes c.in_ok-from_string.field-0 ≡ signed_decimal c.args.n = c.in_ok-from_string.ensures.ok ∙ c.in_ok-to_string.ensures.ok ∙ ap signed_decimal (to_z-of_z w64 c.args.n c.ranges.n) in
    rw text (signed_short c.args.n c.ranges.n)
