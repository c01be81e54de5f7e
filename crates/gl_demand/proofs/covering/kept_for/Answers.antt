use Rattle.gl_demand.proofs.covering.kept_for.Goals as goal

pub returns-then-is_home-clause-home : goal.returns-then-is_home-clause-home
returns-then-is_home-clause-home c = c.is_home.ensures c.if-is_home.true
