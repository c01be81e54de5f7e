use Rattle.std.proofs.Common.{ap, ◌∙◌}
use Rattle.gl_value.specs.View.{sheet_tree}
use Rattle.gl_demand.specs.View.{key_tree}
use Rattle.gl_core.specs.Shorts.{short_in}
use Rattle.gl_core.proofs.Shorts.{settle_numbered}
use Rattle.gl_core.proofs.short.short_form.Goals as goal

pub returns-in-Ok-clause-short : goal.returns-in-Ok-clause-short
returns-in-Ok-clause-short c =
    ap (λ k. short_in c.sheet_near.new.self (key_tree k)) c.in-Settle.is
    ∙ settle_numbered c.sheet_near.new.self (sheet_tree c.in-Settle.s.value) c.in-Ok.n c.in-Ok.ensures.apart c.in-Ok.ensures.number
