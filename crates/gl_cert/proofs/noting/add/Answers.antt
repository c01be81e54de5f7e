use Rattle.std.proofs.Common.{ap, ◌∙◌}
use Rattle.gl_cert.specs.Claims.{claim_trees}
use Rattle.gl_cert.proofs.Tables.{insert_claims}
use Rattle.gl_cert.proofs.noting.add.Goals as goal

pub returns-in-Ok-clause-ok : goal.returns-in-Ok-clause-ok
returns-in-Ok-clause-ok c = ap claim_trees c.in-Ok.ensures.entries ∙ insert_claims c.args.outcomes.now.entries c.args.key c.args.outcome c.requires
