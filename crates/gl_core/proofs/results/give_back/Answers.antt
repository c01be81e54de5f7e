use Rattle.gl_core.proofs.results.give_back.Goals as goal

pub returns-in-Ok-clause-carry : goal.returns-in-Ok-clause-carry
returns-in-Ok-clause-carry c = c.new.ensures c.in-Ok.copy
