use Rattle.std.proofs.Common.{sym, subst, ◌∙◌}
use Rattle.gl_calculus.specs.Computation.Notes.{note_keys}
use Rattle.gl_calculus.specs.Computation.Lists.{AreDistinct}
use Rattle.gl_calculus.specs.Calculation.Memory.{Notes}
use Rattle.gl_calculus.specs.Evaluation.World.{world}
use Rattle.gl_core.specs.Results.{AreResults}
use Rattle.gl_core.proofs.Filtered.{notes_apart}
use Rattle.gl_core.proofs.Kept.{the_notes, resolved_closed}
use Rattle.gl_core.proofs.quiet.Quiet.into_results.Goals as goal

pub of-requires-clause-results : goal.of-requires-clause-results
of-requires-clause-results c =
    let (version, S, w, h) = c.requires.for_it in
    subst (λ (ns : Notes). AreResults ns) (sym c.resolved_notes-ledger.ensures.kept) (resolved_closed (world version S w) c.args.self h c.resolved_notes-ledger.ensures.sound)

pub of-requires-clause-carry : goal.of-requires-clause-carry
of-requires-clause-carry c = c.resolved_notes-ledger.ensures.carry

pub returns-clause-notes : goal.returns-clause-notes
returns-clause-notes c = λ version S w f q.
    the_notes (world version S w) c.args.self c.resolved_notes-ledger.ensures.sound c.of.result (subst (λ (ns : Notes). AreDistinct (note_keys ns)) (sym c.of.ensures) (notes_apart c.resolved_notes-ledger.result.0 c.resolved_notes-ledger.ensures.ledger)) (c.of.ensures ∙ c.resolved_notes-ledger.ensures.kept) f q
