-- The certificates and the verdicts that those of the code stand for.
use Rattle.std.specs.Prelude.{map}
use Rattle.gl_calculus.specs.Explanation.Certificate as E
use Rattle.gl_calculus.specs.Explanation.Certificate.{Certificate}
use Rattle.gl_value.specs.Made.{shown_tree}
use Rattle.gl_demand.specs.View.{key_tree}
use Rattle.gl_cert.specs.Claims.{claim_trees}
use Rattle.gl_cert.specs.declared.cert.Cert.{Cert}
use Rattle.gl_cert.specs.declared.verdict.Verdict.{Verdict}
use Rattle.gl_cert.specs.declared.verdict.Verdict.TheVariants.{Accepted, Note, Loop, Wrong}

abbrev pub cert_tree : Cert → Certificate
cert_tree c = record { notes = claim_trees c.notes.items; loops = map key_tree c.loops.items; shown = shown_tree c.shown }

abbrev pub verdict_tree : Verdict → E.Verdict
verdict_tree Accepted = E.Verdict.Accepted
verdict_tree (Note at) = E.Verdict.Note at
verdict_tree (Loop at) = E.Verdict.Loop at
verdict_tree Wrong = E.Verdict.Wrong
