-- A table of notes as a list of claims.
use Rattle.std.specs.Prelude.{List}
use Rattle.gl_calculus.specs.Evaluation.Key as K
use Rattle.gl_calculus.specs.Explanation.Walk.{Claim}
use Rattle.gl_cert.specs.Claims.{claim_trees}
use Rattle.gl_cert.specs.declared.notes.Notes.{Notes}

-- the claims in the order in which they were noted
abbrev pub claims : Notes → List (Claim K.Key K.Outcome)
claims n = claim_trees n.outcomes.entries
