use Rattle.std.proofs.Common.{◌≡◌, ◌<◌, ◌^◌, drop}
use Rattle.gl_language.specs.Reading.Token.{digits_value}
use Rattle.gl_lex.specs.Front.{value_from}
use Rattle.gl_lex.proofs.scan.number_of.Given as goal

abbrev pub invariant-loop-b : goal.invariant-loop-b
invariant-loop-b l = (value_from l.n (drop l.b-index l.digits) ≡ digits_value l.digits) × (l.n < 2 ^ 63)
