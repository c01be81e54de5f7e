use Rattle.std.proofs.Common.{arith}
use Rattle.gl_language.specs.Reading.Grammar.{function_of}
use Rattle.gl_parse.proofs.Building.{built_number, built_text, built_bool, built_at, built_spill, built_corners, built_var, built_neg, built_chain, built_compare, built_let, built_apply, argument_built, operand_built, built_call}
use Rattle.gl_parse.proofs.build.+build.Goals as goal

pub build_arguments-loop-raw-preserved : goal.build_arguments-loop-raw-preserved
build_arguments-loop-raw-preserved t c = argument_built c.args.text.now c.args.xs.now c.loop-raw.raw-index c.loop-raw.built.items _ c.raw-item.result c.in_ok-next.next c.loop-raw-test.true c.raw-item.is c.in_ok-push.ensures.items c.in_ok-next.ensures c.loop-raw.invariant

pub build_operands-loop-operand-preserved : goal.build_operands-loop-operand-preserved
build_operands-loop-operand-preserved t c =
    operand_built c.args.text.now c.args.rest.now c.loop-operand.operand-index c.loop-operand.built.items _ c.operand-item.result c.in_ok-next.next c.loop-operand-test.true c.operand-item.is c.in_ok-push.ensures.items c.in_ok-next.ensures c.loop-operand.invariant

pub build_call-returns : goal.build_call-returns
build_call-returns t c = λ s. built_call _ _ _ (function_of c.args.word.now) c.called.ensures (c.in_ok-xs.ensures s)

pub build-returns-in-Bool : goal.build-returns-in-Bool
build-returns-in-Bool t c = built_bool c.args.text.now c.args.raw.now c.in-Bool.b c.in-Bool.is

pub build-returns-in-At : goal.build-returns-in-At
build-returns-in-At t c = built_at c.args.text.now c.args.raw.now c.in-At.a c.in-At.is

pub build-returns-in-Spill : goal.build-returns-in-Spill
build-returns-in-Spill t c = built_spill c.args.text.now c.args.raw.now c.in-Spill.a c.in-Spill.is

pub build-returns-in-Corners : goal.build-returns-in-Corners
build-returns-in-Corners t c = built_corners c.args.text.now c.args.raw.now c.in-Corners.a c.in-Corners.b _ c.in-Corners.is c.area.ensures

pub build-returns-in-Text : goal.build-returns-in-Text
build-returns-in-Text t c = built_text c.args.text.now c.args.raw.now c.in-Text.t _ c.in-Text.is c.quoted.ensures

pub build-returns-in-Var : goal.build-returns-in-Var
build-returns-in-Var t c = built_var c.args.text.now c.args.raw.now c.in-Var.name _ _ c.in-Var.is c.spelling.ensures c.variable.ensures

pub build-returns-in_ok-build_boxed-in-Neg : goal.build-returns-in_ok-build_boxed-in-Neg
build-returns-in_ok-build_boxed-in-Neg t c = built_neg c.args.text.now c.args.raw.now c.in-Neg.f _ _ c.in-Neg.is c.deref.ensures c.in_ok-build_boxed-in-Neg.ensures

pub build-returns-in_ok-build_operands-in-Chain : goal.build-returns-in_ok-build_operands-in-Chain
build-returns-in_ok-build_operands-in-Chain t c =
    built_chain c.args.text.now c.args.raw.now c.in-Chain.level c.in-Chain.f c.in-Chain.rest _ _ _ _ c.in-Chain.is c.deref-in-Chain.ensures c.deref-in-Chain-2.ensures.value c.in_ok-f-in-Chain.ensures c.in_ok-build_operands-in-Chain.ensures

pub build-returns-in_ok-build_boxed-in-Compare : goal.build-returns-in_ok-build_boxed-in-Compare
build-returns-in_ok-build_boxed-in-Compare t c =
    built_compare c.args.text.now c.args.raw.now c.in-Compare.op c.in-Compare.f c.in-Compare.g _ _ _ _ c.in-Compare.is c.deref-in-Compare.ensures c.deref-in-Compare-2.ensures c.in_ok-f-in-Compare.ensures c.in_ok-build_boxed-in-Compare.ensures

pub build-returns-in-Apply : goal.build-returns-in-Apply
build-returns-in-Apply t c = built_apply c.args.text.now c.args.raw.now c.in-Apply.word c.in-Apply.xs _ _ _ c.in-Apply.is c.spelling-in-Apply.ensures c.deref-in-Apply.ensures.value c.build_call.ensures

pub build-returns-in_ok-build_boxed-in-Let : goal.build-returns-in_ok-build_boxed-in-Let
build-returns-in_ok-build_boxed-in-Let t c =
    built_let c.args.text.now c.args.raw.now c.in-Let.name c.in-Let.f c.in-Let.body _ _ _ _ _ _ c.in-Let.is c.spelling-in-Let.ensures c.deref-in-Let.ensures c.deref-in-Let-2.ensures c.in_ok-name-in-Let.ensures c.in_ok-f-in-Let.ensures c.in_ok-build_boxed-in-Let.ensures

pub build-returns-in-Number : goal.build-returns-in-Number
build-returns-in-Number t c = grind (arith, built_number)
