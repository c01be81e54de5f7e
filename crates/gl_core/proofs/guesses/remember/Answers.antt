use Rattle.std.proofs.Common.{sym, subst}
use Rattle.gl_core.specs.Words.{HasWord}
use Rattle.gl_core.proofs.Words.{inserted_has, inserted_keeps}
use Rattle.gl_core.proofs.guesses.remember.Goals as goal

pub returns-in-Ok-clause-has : goal.returns-in-Ok-clause-has
returns-in-Ok-clause-has c = subst (λ es. HasWord es c.args.word) (sym c.in-Ok.ensures.entries) (inserted_has c.args.word c.args.n c.args.guesses.now.entries)

pub returns-in-Ok-clause-keeps : goal.returns-in-Ok-clause-keeps
returns-in-Ok-clause-keeps c u h = subst (λ es. HasWord es u) (sym c.in-Ok.ensures.entries) (inserted_keeps c.args.word c.args.n c.args.guesses.now.entries u h)
