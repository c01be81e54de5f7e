use Rattle.std.proofs.Common.{◌∙◌}
use Rattle.gl_core.proofs.Resolved.{resolved_by}
use Rattle.gl_core.proofs.quiet.is_resolved.Goals as goal

pub returns : goal.returns
returns c = c.is_some.ensures ∙ resolved_by c.args.entries.now c.requires c.args.n c.resolved.result c.resolved.ensures
