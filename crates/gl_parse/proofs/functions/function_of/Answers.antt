use Rattle.std.proofs.Common.{sym, ◌∙◌, arith}
use Rattle.gl_parse.proofs.Words.{found_next, word_rules}
use Rattle.gl_parse.proofs.functions.function_of.Goals as goal

pub loop-fun-preserved : goal.loop-fun-preserved
loop-fun-preserved c = found_next c.args.word.now _ c.loop-fun.fun-index _ _ c.loop-fun-test.true (sym c.is_word.ensures ∙ c.if-is_word.false) c.loop-fun.invariant

pub returns : goal.returns
returns c = grind (arith, word_rules)
