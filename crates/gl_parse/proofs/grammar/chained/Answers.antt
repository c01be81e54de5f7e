use Rattle.std.proofs.Common.{arith}
use Rattle.gl_parse.proofs.Rulesets.{chained_rules}
use Rattle.gl_parse.proofs.grammar.chained.Goals as goal

pub returns-clause-tree : goal.returns-clause-tree
returns-clause-tree c = grind (arith, chained_rules)

pub returns-then-is_empty-clause-tree : goal.returns-then-is_empty-clause-tree
returns-then-is_empty-clause-tree c = grind (arith, chained_rules)
