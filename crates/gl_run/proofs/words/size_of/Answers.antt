use Rattle.std.proofs.Common.{◌∙◌, sym}
use Rattle.gl_run.proofs.Sizes.{size_led, size_read, size_off}
use Rattle.gl_run.proofs.words.size_of.Goals as goal

pub returns-then-is_led-clause-size : goal.returns-then-is_led-clause-size
returns-then-is_led-clause-size c =
    let led = rw c.as_bytes.ensures.value at (sym c.is_led.ensures ∙ c.if-is_led.true) in
    size_led c.args.word.now led

pub returns-in-Ok-clause-size : goal.returns-in-Ok-clause-size
returns-in-Ok-clause-size c =
    let led = rw c.as_bytes.ensures.value at (sym c.is_led.ensures ∙ c.if-is_led.false) in
    c.in_limits.ensures.value ∙ size_read c.args.word.now c.parse.result c.parse.ensures.value.0 led c.in-Ok.n c.in-Ok.is

pub returns-in-Err-clause-size : goal.returns-in-Err-clause-size
returns-in-Err-clause-size c =
    let led = rw c.as_bytes.ensures.value at (sym c.is_led.ensures ∙ c.if-is_led.false) in
    size_off c.args.word.now c.parse.result c.parse.ensures.value.0 led c.in-Err.field-0 c.in-Err.is
