use Rattle.std.proofs.Common.{◌∙◌}
use Rattle.gl_core.proofs.Words.{unfound}
use Rattle.gl_core.proofs.guesses.guess.Goals as goal

pub returns : goal.returns
returns c = unfound c.args.guesses.now.entries c.args.word c.copied.result (c.copied.ensures ∙ c.get.ensures.value)
