use Rattle.laws_calculus.proofs.Calculus.Proved.{grant_gives_permits, only_grant_gives}
use Rattle.laws_calculus.proofs.calculation.permits.Goals as goal

pub returns-clause-given : goal.returns-clause-given
returns-clause-given g = grant_gives_permits

pub returns-clause-only : goal.returns-clause-only
returns-clause-only g = only_grant_gives
