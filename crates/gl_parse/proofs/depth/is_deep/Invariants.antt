use Rattle.std.proofs.Common.{◌≡◌, ◌≤◌, length}
use Rattle.gl_language.specs.Reading.Grammar.{is_deep_from}
use Rattle.gl_lex.specs.View.{tokens_in}
use Rattle.gl_parse.proofs.depth.is_deep.Given as goal

abbrev pub invariant-loop-first : goal.invariant-loop-first
invariant-loop-first l = record {
  same : is_deep_from l.unclosed l.row (tokens_in l.text l.rest) ≡ is_deep_from 0 0 (tokens_in l.text l.tokens);
  unclosed : l.unclosed ≤ 64;
  row : l.row ≤ 8;
}

abbrev pub decreases-loop-first : goal.decreases-loop-first
decreases-loop-first l = length l.rest
