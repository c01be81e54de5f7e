use Rattle.std.proofs.Common.{◌-◌, length}
use Rattle.gl_lex.proofs.Lexing.{ReadSoFar}
use Rattle.gl_lex.proofs.lexer.tokens.Given as goal

abbrev pub invariant-loop-at : goal.invariant-loop-at
invariant-loop-at l = ReadSoFar l.bytes l.found.items l.at

abbrev pub decreases-loop-at : goal.decreases-loop-at
decreases-loop-at l = length l.bytes - l.at
