use Rattle.std.proofs.Common.{arith}
use Rattle.std.proofs.lemmas.Grind.{common_steps}
use Rattle.gl_views.proofs.values.put_content.Goals as goal

pub returns-in_ok-put-in-Form : goal.returns-in_ok-put-in-Form
returns-in_ok-put-in-Form c = grind (arith, common_steps)
