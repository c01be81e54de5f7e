-- Why a root has its permit, in the words of the calculus.
use Rattle.gl_calculus.specs.Calculation.Calculation as C
use Rattle.gl_grant.specs.Obstacle.{obstacle_tree}
use Rattle.gl_calc.specs.declared.answers.Why.{Why}
use Rattle.gl_calc.specs.declared.answers.Why.TheVariants.{NoEntry, Permitted, Blocked}

abbrev pub why_tree : Why → C.Why
why_tree NoEntry = C.Why.NoEntry
why_tree Permitted = C.Why.Permitted
why_tree (Blocked o) = C.Why.Blocked (obstacle_tree o)
