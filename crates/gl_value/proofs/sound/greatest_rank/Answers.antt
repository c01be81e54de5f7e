use Rattle.std.proofs.Common.{arith}
use Rattle.std.proofs.lemmas.Grind.{common_steps}
use Rattle.gl_value.proofs.sound.greatest_rank.Goals as goal

pub loop-x-preserved : goal.loop-x-preserved
loop-x-preserved c = grind (arith, common_steps)

pub rank_above-requires : goal.rank_above-requires
rank_above-requires c = grind (arith, common_steps)

pub returns : goal.returns
returns c = grind (arith, common_steps)
