use Rattle.std.proofs.Common.{◌≡◌, drop}
use Rattle.gl_language.specs.Reading.Grammar.{bad_name_in, bad_name_in_operands}
use Rattle.gl_parse.specs.Raws.{links, raws_of, pairs, plains}
use Rattle.gl_parse.specs.Faults.{scope}
use Rattle.gl_parse.proofs.names.+names.Given as goal

abbrev pub invariant-bad_name_in_operands-loop-operand : goal.invariant-bad_name_in_operands-loop-operand
invariant-bad_name_in_operands-loop-operand l = record {
  same : l.scope.items ≡ l.initial.scope.items;
  none : bad_name_in_operands (scope l.text l.initial.scope.items) (links (pairs l.text (drop l.operand-index l.rest))) ≡ bad_name_in_operands (scope l.text l.initial.scope.items) (links (pairs l.text l.rest));
}

abbrev pub invariant-bad_name_in_arguments-loop-raw : goal.invariant-bad_name_in_arguments-loop-raw
invariant-bad_name_in_arguments-loop-raw l = record {
  same : l.scope.items ≡ l.initial.scope.items;
  none : bad_name_in (scope l.text l.initial.scope.items) (raws_of (plains l.text (drop l.raw-index l.xs))) ≡ bad_name_in (scope l.text l.initial.scope.items) (raws_of (plains l.text l.xs));
}
