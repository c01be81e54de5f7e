use Rattle.std.proofs.Common.{◌≡◌, ◌∙◌, true, ap, sym}
use Rattle.gl_calculus.specs.Values.Functions.{no_fault, first_fault, truth_fault, is_column_beside}
use Rattle.gl_value.specs.View.{value_tree}
use Rattle.gl_arrays.proofs.OneColumn.{is_column, column_is, filter_tests}
use Rattle.gl_arrays.proofs.filters.can_filter.Goals as goal

pub returns-clause-value : goal.returns-clause-value
returns-clause-value c =
    let v = value_tree c.args.v.now in
    let keep = value_tree c.args.keep.now in
    let column : is_column_beside keep v ≡ true = sym c.is_column_beside.ensures ∙ c.if-not-is_column_beside.false in
    let all = column_is keep c.requires (is_column keep v column).0 in
    filter_tests c.no_fault.result v keep c.in_ok-no_error.ensures c.in_ok-no_error-2.ensures column (c.no_fault.ensures ∙ ap (λ xs. no_fault (first_fault truth_fault xs)) (sym all))
