use Rattle.std.proofs.Common.{sym, subst}
use Rattle.gl_core.specs.Words.{HasWord}
use Rattle.gl_core.proofs.Words.{has_found, inserted_keeps}
use Rattle.gl_core.proofs.guesses.replace.Goals as goal

pub unreachable-requires : goal.unreachable-requires
unreachable-requires c = has_found c.args.guesses.now.entries c.args.word c.requires c.in-Err.ensures.absent

pub returns : goal.returns
returns c = record { keeps = λ u h. subst (λ es. HasWord es u) (sym c.in-Ok.ensures.entries) (inserted_keeps c.args.word c.args.n c.args.guesses.now.entries u h) }
