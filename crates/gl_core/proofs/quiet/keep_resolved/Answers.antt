use Rattle.std.proofs.Common.{rules}
use Rattle.std.proofs.lemmas.Fn.{filter_same}
use Rattle.gl_core.specs.Table.{has_outcome}
use Rattle.gl_core.proofs.quiet.keep_resolved.Goals as goal

pub returns : goal.returns
returns c = filter_same _ (λ r. has_outcome c.args.entries.now r.by) _ (λ x b f call. search rules) _ _ c.retain.ensures.filtered
