use Rattle.std.proofs.Common.{arith}
use Rattle.gl_parse.proofs.AllRead.{whole_rules}
use Rattle.gl_parse.proofs.whole.whole.Goals as goal

pub returns-else-is_empty : goal.returns-else-is_empty
returns-else-is_empty c = grind (arith, whole_rules)

pub returns-then-is_empty : goal.returns-then-is_empty
returns-then-is_empty c = grind (arith, whole_rules)
