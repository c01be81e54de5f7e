use Rattle.std.proofs.Common.{sym, ap, ◌∙◌}
use Rattle.gl_calc.specs.Progress.{either, last_of}
use Rattle.gl_calc.proofs.Following.{last_slice}
use Rattle.gl_calc.proofs.holding.table_of.Goals as goal

pub returns-in-None : goal.returns-in-None
returns-in-None c = c.last.ensures.value ∙ sym (last_slice c.args.tables.now) ∙ sym (ap (λ o. either o (last_of c.args.tables.now)) c.in-None.is)
