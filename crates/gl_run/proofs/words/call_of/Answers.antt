use Rattle.std.proofs.Common.{arith}
use Rattle.std.proofs.lemmas.Grind.{common_steps}
use Rattle.gl_run.proofs.WordCounts.{one_word, three_words, five_words}
use Rattle.gl_run.proofs.words.call_of.Goals as goal

pub returns-in_default-clause-call : goal.returns-in_default-clause-call
returns-in_default-clause-call c = one_word c.args.words.now (omega arith) (omega arith)

pub returns-in_default-2-clause-call : goal.returns-in_default-2-clause-call
returns-in_default-2-clause-call c = three_words c.args.words.now (omega arith) (omega arith)

pub returns-in_default-3-clause-call : goal.returns-in_default-3-clause-call
returns-in_default-3-clause-call c = five_words c.args.words.now (omega arith)

pub returns-in-empty-clause-call : goal.returns-in-empty-clause-call
returns-in-empty-clause-call c = grind (arith, common_steps)

pub returns-in-len2-clause-call : goal.returns-in-len2-clause-call
returns-in-len2-clause-call c = grind (arith, common_steps)

pub returns-in-len4-clause-call : goal.returns-in-len4-clause-call
returns-in-len4-clause-call c = grind (arith, common_steps)
