use Rattle.std.proofs.Common.{refl, sym}
use Rattle.gl_lex.proofs.Fronts.{first}
use Rattle.gl_lex.proofs.Signs.{sign_is, sign_is_not}
use Rattle.gl_lex.proofs.scan.signed.Goals as goal

pub returns-in-Some : goal.returns-in-Some
returns-in-Some c = sign_is c.args.bytes.now c.in-Some.s (first c.args.bytes.now) c.byte.result c.sign_len.result c.requires.some refl c.byte.ensures (sym c.in-Some.ensures) c.sign_len.ensures

pub returns-in-None : goal.returns-in-None
returns-in-None c = sign_is_not c.args.bytes.now (first c.args.bytes.now) c.byte.result refl c.byte.ensures (sym c.in-None.ensures) c.requires.digit c.requires.upper c.requires.lower c.requires.quote
