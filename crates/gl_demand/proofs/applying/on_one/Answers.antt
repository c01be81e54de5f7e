use Rattle.std.proofs.Common.{◌≡◌, [], ◌∷◌, ◌∙◌, IfOk, rules, sym, subst}
use Rattle.gl_ast.specs.View.{fun_tree}
use Rattle.gl_calculus.specs.Values.Functions as F
use Rattle.gl_calculus.specs.Values.Functions.{apply}
use Rattle.gl_calculus.specs.Values.Operators.{magnitude}
use Rattle.gl_value.specs.Forms.{value_tree-One}
use Rattle.gl_value.specs.View.{value_tree}
use Rattle.gl_value.specs.declared.Value.{One}
use Rattle.gl_demand.proofs.Arities.{not_on_one}
use Rattle.gl_demand.proofs.applying.on_one.Goals as goal

pub returns-in-Not-clause-value : goal.returns-in-Not-clause-value
unfolding apply
returns-in-Not-clause-value c =
    subst (λ f. IfOk c.lift1.result (λ r. value_tree r ≡ apply (fun_tree f) (value_tree c.args.v.now ∷ []))) (sym c.in-Not.is)
    (c.lift1.ensures.value F.negation (search rules))

pub returns-in-IsError-clause-value : goal.returns-in-IsError-clause-value
unfolding apply
returns-in-IsError-clause-value c =
    subst (λ f. IfOk c.lift1-in-IsError.result (λ r. value_tree r ≡ apply (fun_tree f) (value_tree c.args.v.now ∷ []))) (sym c.in-IsError.is)
    (c.lift1-in-IsError.ensures.value F.is_error (search rules))

pub returns-in-IsBlank-clause-value : goal.returns-in-IsBlank-clause-value
unfolding apply
returns-in-IsBlank-clause-value c =
    subst (λ f. IfOk c.lift1-in-IsBlank.result (λ r. value_tree r ≡ apply (fun_tree f) (value_tree c.args.v.now ∷ []))) (sym c.in-IsBlank.is)
    (c.lift1-in-IsBlank.ensures.value F.is_blank (search rules))

pub returns-in-Abs-clause-value : goal.returns-in-Abs-clause-value
unfolding apply
returns-in-Abs-clause-value c =
    subst (λ f. IfOk c.lift1-in-Abs.result (λ r. value_tree r ≡ apply (fun_tree f) (value_tree c.args.v.now ∷ []))) (sym c.in-Abs.is)
    (c.lift1-in-Abs.ensures.value magnitude (search rules))

pub returns-in-Len-clause-value : goal.returns-in-Len-clause-value
unfolding apply
returns-in-Len-clause-value c =
    subst (λ f. IfOk c.lift1-in-Len.result (λ r. value_tree r ≡ apply (fun_tree f) (value_tree c.args.v.now ∷ []))) (sym c.in-Len.is)
    (c.lift1-in-Len.ensures.value F.text_length (search rules))

pub returns-in-Rows-clause-value : goal.returns-in-Rows-clause-value
unfolding apply
returns-in-Rows-clause-value c =
    subst (λ f. value_tree (One c.extent_rows.result) ≡ apply (fun_tree f) (value_tree c.args.v.now ∷ [])) (sym c.in-Rows.is) (value_tree-One c.extent_rows.result ∙ c.extent_rows.ensures.value)

pub returns-in-Columns-clause-value : goal.returns-in-Columns-clause-value
unfolding apply
returns-in-Columns-clause-value c =
    subst (λ f. value_tree (One c.extent_columns.result) ≡ apply (fun_tree f) (value_tree c.args.v.now ∷ [])) (sym c.in-Columns.is) (value_tree-One c.extent_columns.result ∙ c.extent_columns.ensures.value)

pub returns-in-Transpose-clause-value : goal.returns-in-Transpose-clause-value
unfolding apply
returns-in-Transpose-clause-value c =
    subst (λ f. IfOk c.transpose.result (λ r. value_tree r ≡ apply (fun_tree f) (value_tree c.args.v.now ∷ []))) (sym c.in-Transpose.is) c.transpose.ensures.value

pub returns-in-Unique-clause-value : goal.returns-in-Unique-clause-value
unfolding apply
returns-in-Unique-clause-value c =
    subst (λ f. IfOk c.unique.result (λ r. value_tree r ≡ apply (fun_tree f) (value_tree c.args.v.now ∷ []))) (sym c.in-Unique.is) c.unique.ensures.value

pub returns-in_default : goal.returns-in_default
returns-in_default c =
    record {
      value = c.wrong_number.ensures.value ∙ not_on_one c.args.fun (value_tree c.args.v.now) c.requires.fixed c.in_default.not-Not c.in_default.not-IsError c.in_default.not-IsBlank c.in_default.not-Abs c.in_default.not-Len c.in_default.not-Rows c.in_default.not-Columns c.in_default.not-Transpose c.in_default.not-Unique;
      sound = c.wrong_number.ensures.sound;
    }
