use Rattle.std.proofs.Common.{◌≡◌, drop}
use Rattle.gl_language.specs.Reading.Grammar as G
use Rattle.gl_parse.proofs.Words.{found_in}
use Rattle.gl_parse.proofs.functions.function_of.Given as goal

abbrev pub invariant-loop-fun : goal.invariant-loop-fun
invariant-loop-fun l = found_in l.word (drop l.fun-index l.fun-items) ≡ G.function_of l.word
