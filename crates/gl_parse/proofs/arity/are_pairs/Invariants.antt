use Rattle.std.proofs.Common.{◌≡◌, length}
use Rattle.gl_language.specs.Texts.Text.{Bytes}
use Rattle.gl_language.specs.Reading.Grammar as G
use Rattle.gl_parse.specs.Raws.{plains}
use Rattle.gl_parse.proofs.arity.are_pairs.Given as goal

abbrev pub invariant-loop-rest : goal.invariant-loop-rest
invariant-loop-rest l = (text : Bytes) → G.are_pairs (plains text l.rest) ≡ G.are_pairs (plains text l.xs)

abbrev pub decreases-loop-rest : goal.decreases-loop-rest
decreases-loop-rest l = length l.rest
