use Rattle.std.proofs.Common.{arith}
use Rattle.std.proofs.lemmas.Grind.{common_steps}
use Rattle.gl_undo.proofs.Places.{apart_on}
use Rattle.gl_undo.proofs.steps.Step.contents.Goals as goal

pub returns-clause-apart : goal.returns-clause-apart
returns-clause-apart c = apart_on c.args.side c.loop-c.list.items c.self.inside.changes.items (grind (arith, common_steps)) c.self.invariant.apart
