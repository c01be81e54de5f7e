use Rattle.std.proofs.Common.{rules}
use Rattle.gl_run.proofs.session.answering.is_refusal.Goals as goal

pub returns : goal.returns
returns c = search rules
