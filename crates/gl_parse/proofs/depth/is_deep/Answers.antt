use Rattle.std.proofs.Common.{arith}
use Rattle.gl_parse.proofs.Deeper.{deep_rules}
use Rattle.gl_parse.proofs.depth.is_deep.Goals as goal

pub returns : goal.returns
returns c = grind (arith, deep_rules)
