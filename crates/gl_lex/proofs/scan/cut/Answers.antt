use Rattle.std.proofs.Common.{subst}
use Rattle.gl_lex.specs.declared.scan.Bad.TheVariants as bad
use Rattle.gl_lex.specs.Front.{Refuses}
use Rattle.gl_lex.proofs.Letters.{quote_is}
use Rattle.gl_lex.proofs.scan.cut.Goals as goal

pub returns-in-Ok-None : goal.returns-in-Ok-None
returns-in-Ok-None c =
    let front = quote_is c.args.bytes.now c.requires.some c.if-b-ne34.false in
    let refused = rw c.in-Ok-None.field-0-is at c.in-Ok-None.ensures in
    subst (λ z. Refuses z bad.Text) front refused
