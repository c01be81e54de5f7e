use Rattle.std.proofs.Common.{arith}
use Rattle.std.proofs.lemmas.Grind.{common_steps}
use Rattle.gl_calc.proofs.tables.Tables.take_base.Goals as goal

pub take_before-requires : goal.take_before-requires
take_before-requires c = grind (arith, common_steps)
