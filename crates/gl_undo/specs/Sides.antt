-- The sides of a step.
use Rattle.std.specs.Prelude.{map, Option}
use Rattle.gl_calculus.specs.Formulas.Formula.{Content}
use Rattle.gl_calculus.specs.Edits.Replicas.{Changes}
use Rattle.gl_calculus.specs.Edits.Steps as E
use Rattle.gl_undo.specs.declared.changes.Side.{Side}
use Rattle.gl_undo.specs.declared.changes.Side.TheVariants.{Before, After}

abbrev pub content_on : Side → E.Change → Option Content
content_on Before c = c.before
content_on After c = c.after

-- the addresses of a step, each with its content on this side
abbrev pub changes_on : Side → E.Step → Changes
changes_on side s = map (λ (c : E.Change). (c.place, content_on side c)) s
