use Rattle.gl_parse.proofs.Building.{ArgumentsSoFar, OperandsSoFar}
use Rattle.gl_parse.proofs.build.+build.Given as goal

abbrev pub invariant-build_operands-loop-operand : goal.invariant-build_operands-loop-operand
invariant-build_operands-loop-operand l = OperandsSoFar l.text l.rest l.operand-index l.built.items

abbrev pub invariant-build_arguments-loop-raw : goal.invariant-build_arguments-loop-raw
invariant-build_arguments-loop-raw l = ArgumentsSoFar l.text l.xs l.raw-index l.built.items
