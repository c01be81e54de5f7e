use Rattle.std.proofs.Common.{arith}
use Rattle.std.proofs.lemmas.Grind.{elements}
use Rattle.gl_core.proofs.quiet.seen_status.Goals as goal

pub returns-in-Some-Resolved : goal.returns-in-Some-Resolved
returns-in-Some-Resolved c = grind (arith, elements)
