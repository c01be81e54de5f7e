use Rattle.std.proofs.Common.{arith}
use Rattle.std.proofs.lemmas.Grind.{common_steps}
use Rattle.gl_ast.specs.Forms.{formula_tree-Text, formula_tree-Var, formula_tree-Neg, formula_tree-Chain, formula_tree-Compare, formula_tree-Call, formula_tree-Let}
use Rattle.gl_ast.proofs.canonical.+print.Goals as goal

pub body-returns-in-Text : goal.body-returns-in-Text
body-returns-in-Text t c = rw (c.in-Text.is, formula_tree-Text c.in-Text.t, ← c.deref.ensures.value) c.put_literal.ensures

pub body-returns-in-Var : goal.body-returns-in-Var
body-returns-in-Var t c = rw (c.in-Var.is, formula_tree-Var c.in-Var.v, ← c.deref-in-Var.ensures.value) c.put.ensures

pub body-returns-in-Neg : goal.body-returns-in-Neg
body-returns-in-Neg t c = rw (c.in-Neg.is, formula_tree-Neg c.in-Neg.x, ← c.deref-in-Neg.ensures, ← c.one_more.ensures) c.negated.ensures

pub body-returns-in-Chain : goal.body-returns-in-Chain
body-returns-in-Chain t c = rw (c.in-Chain.is, formula_tree-Chain c.in-Chain.level c.in-Chain.x c.in-Chain.rest, ← c.deref-in-Chain.ensures, ← c.deref-in-Chain-2.ensures.value) c.chain.ensures

pub body-returns-in-Compare : goal.body-returns-in-Compare
body-returns-in-Compare t c = rw (c.in-Compare.is, formula_tree-Compare c.in-Compare.op c.in-Compare.x c.in-Compare.y, ← c.deref-in-Compare.ensures, ← c.deref-in-Compare-2.ensures) c.comparison.ensures

pub body-returns-in-Call : goal.body-returns-in-Call
body-returns-in-Call t c = rw (c.in-Call.is, formula_tree-Call c.in-Call.g c.in-Call.xs, ← c.deref-in-Call.ensures.value) c.call.ensures

pub body-returns-in-Let : goal.body-returns-in-Let
body-returns-in-Let t c = rw (c.in-Let.is, formula_tree-Let c.in-Let.v c.in-Let.x c.in-Let.y, ← c.deref-in-Let.ensures.value, ← c.deref-in-Let-2.ensures, ← c.deref-in-Let-3.ensures) c.binding.ensures

pub chain-returns : goal.chain-returns
chain-returns t c = grind (arith, common_steps)

pub comparison-returns : goal.comparison-returns
comparison-returns t c = grind (arith, common_steps)

pub call-returns : goal.call-returns
call-returns t c = grind (arith, common_steps)

pub binding-returns : goal.binding-returns
binding-returns t c = grind (arith, common_steps)

pub arguments-loop-x-preserved : goal.arguments-loop-x-preserved
arguments-loop-x-preserved t c = grind (arith, common_steps)

pub arguments-returns : goal.arguments-returns
arguments-returns t c = grind (arith, common_steps)

pub operands-loop-operand-preserved : goal.operands-loop-operand-preserved
operands-loop-operand-preserved t c = grind (arith, common_steps)

pub operands-returns : goal.operands-returns
operands-returns t c = grind (arith, common_steps)

pub placed-returns-in_ok-body : goal.placed-returns-in_ok-body
placed-returns-in_ok-body t c = grind (arith, common_steps)
