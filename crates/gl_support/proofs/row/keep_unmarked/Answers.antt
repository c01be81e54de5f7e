use Rattle.std.proofs.Common.{rules, not}
use Rattle.std.proofs.lemmas.Fn.{filter_same}
use Rattle.gl_support.specs.Reach.{is_marked}
use Rattle.gl_support.proofs.row.keep_unmarked.Goals as goal

pub returns : goal.returns
returns g c = filter_same _ (λ r. not (is_marked c.args.gone.now r.by)) _ (λ x b f call. search rules) _ _ c.retain.ensures.filtered
