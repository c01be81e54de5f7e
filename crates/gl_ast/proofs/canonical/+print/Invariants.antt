use Rattle.std.proofs.Common.{◌≡◌, ◌++◌, drop, ◌+◌, ◌*◌, max}
use denote.Param.Weighed.{most}
use Rattle.gl_ast.proofs.Formula.TheLaws.{the_size}
use Rattle.std.specs.List.{join_with_byte}
use Rattle.std.specs.String.{string_bytes}
use Rattle.gl_language.specs.Texts.Text.{operands_text, texts}
use Rattle.gl_ast.specs.View.{argument_trees, operand_trees}
use Rattle.gl_ast.proofs.Printing.{to_come}
use Rattle.gl_ast.proofs.canonical.+print.Given as goal

abbrev pub invariant-operands-loop-operand : goal.invariant-operands-loop-operand
invariant-operands-loop-operand l =
    string_bytes l.out ++ operands_text l.at (operand_trees (drop l.operand-index l.all)) ≡ string_bytes l.initial.out ++ operands_text l.at (operand_trees l.all)

abbrev pub invariant-arguments-loop-x : goal.invariant-arguments-loop-x
invariant-arguments-loop-x l =
    string_bytes l.out ++ to_come l.more (texts (argument_trees (drop l.x-index l.all))) ≡ string_bytes l.initial.out ++ join_with_byte 44 (texts (argument_trees l.all))

-- each form is larger than those in it, and the others come in the order of their calls
abbrev pub decreases-body : goal.decreases-body
decreases-body l = 4 * the_size l.f.now

abbrev pub decreases-placed : goal.decreases-placed
decreases-placed l = 4 * the_size l.f.now + 1

abbrev pub decreases-negated : goal.decreases-negated
decreases-negated l = 4 * the_size l.x.now + 2

abbrev pub decreases-operands : goal.decreases-operands
decreases-operands l = 4 * most (λ o. the_size o.1) l.all.now + 2

abbrev pub decreases-chain : goal.decreases-chain
decreases-chain l = 4 * max (the_size l.x.now) (most (λ o. the_size o.1) l.rest.now) + 3

abbrev pub decreases-comparison : goal.decreases-comparison
decreases-comparison l = 4 * max (the_size l.x.now) (the_size l.y.now) + 2

abbrev pub decreases-arguments : goal.decreases-arguments
decreases-arguments l = 4 * most the_size l.all.now + 1

abbrev pub decreases-call : goal.decreases-call
decreases-call l = 4 * most the_size l.xs.now + 2

abbrev pub decreases-binding : goal.decreases-binding
decreases-binding l = 4 * max (the_size l.x.now) (the_size l.y.now) + 1
