use Rattle.std.proofs.Common.{◌+◌, ◌<◌, length, ℕ, ◌*◌}
use Rattle.gl_ast.specs.declared.Level.{Level}
use Rattle.gl_ast.specs.declared.Level.TheVariants.{Cat, Sum, Prod}
use Rattle.gl_ast.specs.View.{level_tree}
use Rattle.gl_lex.specs.View.{tokens_in}
use Rattle.gl_parse.specs.Raws.{raw_tree, plains, pairs}
use Rattle.gl_parse.specs.Reading.{SoFar, ArgumentsSoFar}
use Rattle.gl_parse.proofs.grammar.+grammar.Given as goal

abbrev pub rank : Level → ℕ
rank Cat = 4
rank Sum = 2
rank Prod = 0

abbrev pub decreases-atom : goal.decreases-atom
decreases-atom l = 10 * length l.tokens.now

abbrev pub decreases-unary : goal.decreases-unary
decreases-unary l = 10 * length l.tokens.now + 1

abbrev pub decreases-operand : goal.decreases-operand
decreases-operand l = 10 * length l.tokens.now + rank l.level + 2

abbrev pub decreases-chain : goal.decreases-chain
decreases-chain l = 10 * length l.tokens.now + rank l.level + 3

abbrev pub decreases-expr : goal.decreases-expr
decreases-expr l = 10 * length l.tokens.now + 8

abbrev pub decreases-parens : goal.decreases-parens
decreases-parens l = 10 * length l.tokens.now + 9

abbrev pub invariant-chain-loop-op : goal.invariant-chain-loop-op
invariant-chain-loop-op l = record {
  so_far : SoFar (level_tree l.level) (tokens_in l.text l.tokens) (raw_tree l.text l.first) (pairs l.text l.others.items) (tokens_in l.text l.rest);
  shorter : length l.rest < length l.tokens;
}

abbrev pub decreases-chain-loop-op : goal.decreases-chain-loop-op
decreases-chain-loop-op l = length l.rest

abbrev pub decreases-arguments : goal.decreases-arguments
decreases-arguments l = 10 * length l.tokens.now + 9

abbrev pub decreases-call : goal.decreases-call
decreases-call l = 10 * length l.tokens.now

abbrev pub invariant-arguments-loop-behind : goal.invariant-arguments-loop-behind
invariant-arguments-loop-behind l = record {
  so_far : ArgumentsSoFar (tokens_in l.text l.tokens) (plains l.text l.all.items) (tokens_in l.text l.rest);
  shorter : length l.rest < length l.tokens;
}

abbrev pub decreases-arguments-loop-behind : goal.decreases-arguments-loop-behind
decreases-arguments-loop-behind l = length l.rest
