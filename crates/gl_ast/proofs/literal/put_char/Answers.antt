use Rattle.std.proofs.Common.{arith}
use Rattle.gl_ast.proofs.Escapes.{char_rules}
use Rattle.gl_ast.proofs.literal.put_char.Goals as goal

pub returns-in-10 : goal.returns-in-10
returns-in-10 c = grind (arith, char_rules)

pub returns-in-13 : goal.returns-in-13
returns-in-13 c = grind (arith, char_rules)

pub returns-in-34 : goal.returns-in-34
returns-in-34 c = grind (arith, char_rules)

pub returns-in-9 : goal.returns-in-9
returns-in-9 c = grind (arith, char_rules)

pub returns-in-92 : goal.returns-in-92
returns-in-92 c = grind (arith, char_rules)
