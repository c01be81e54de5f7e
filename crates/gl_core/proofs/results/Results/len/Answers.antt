use Rattle.std.proofs.Common.{length, ap, sym, subst, ◌∙◌}
use Rattle.gl_calculus.specs.Computation.Lists.{AreDistinct}
use Rattle.gl_calculus.specs.Computation.Notes.{note_keys}
use Rattle.gl_calculus.specs.Calculation.Memory.{Notes}
use Rattle.gl_core.proofs.Filtered.{notes_apart, length-written}
use Rattle.gl_core.proofs.results.Results.len.Goals as goal

pub returns-clause-count : goal.returns-clause-count
returns-clause-count c =
    let l = c.self.inside.ledger in
    c.len.ensures ∙ l.rows.ok.0 ∙ sym (length-written l) ∙ ap (λ (ns : Notes). length ns) c.self.view_is

pub returns-clause-apart : goal.returns-clause-apart
returns-clause-apart c = subst (λ (ns : Notes). AreDistinct (note_keys ns)) c.self.view_is (notes_apart c.self.inside.ledger c.self.invariant.0)
