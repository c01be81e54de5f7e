use Rattle.std.proofs.Common.{◌≡◌, [], ◌∷◌, ◌∙◌, IfOk, rules, sym, subst, take}
use Rattle.gl_ast.specs.View.{fun_tree}
use Rattle.gl_calculus.specs.Values.Functions as F
use Rattle.gl_calculus.specs.Values.Functions.{apply}
use Rattle.gl_calculus.specs.Values.Operators as O
use Rattle.gl_value.specs.View.{value_tree}
use Rattle.gl_demand.proofs.Arities.{not_on_two}
use Rattle.gl_demand.proofs.applying.on_two.Goals as goal

pub returns-in-Mod-clause-value : goal.returns-in-Mod-clause-value
unfolding apply
returns-in-Mod-clause-value c =
    subst (λ f. IfOk c.lift2.result (λ r. value_tree r ≡ apply (fun_tree f) (value_tree c.args.u.now ∷ value_tree c.args.v.now ∷ []))) (sym c.in-Mod.is)
    (c.lift2.ensures.value (O.numeric O.modulo) (search rules))

pub returns-in-Left-clause-value : goal.returns-in-Left-clause-value
unfolding apply
returns-in-Left-clause-value c =
    subst (λ f. IfOk c.lift2-in-Left.result (λ r. value_tree r ≡ apply (fun_tree f) (value_tree c.args.u.now ∷ value_tree c.args.v.now ∷ []))) (sym c.in-Left.is)
    (c.lift2-in-Left.ensures.value (F.text_part take) (search rules))

pub returns-in-Right-clause-value : goal.returns-in-Right-clause-value
unfolding apply
returns-in-Right-clause-value c =
    subst (λ f. IfOk c.lift2-in-Right.result (λ r. value_tree r ≡ apply (fun_tree f) (value_tree c.args.u.now ∷ value_tree c.args.v.now ∷ []))) (sym c.in-Right.is)
    (c.lift2-in-Right.ensures.value (F.text_part F.take_last) (search rules))

pub returns-in-Sequence-clause-value : goal.returns-in-Sequence-clause-value
unfolding apply
returns-in-Sequence-clause-value c =
    subst (λ f. IfOk c.sequence.result (λ r. value_tree r ≡ apply (fun_tree f) (value_tree c.args.u.now ∷ value_tree c.args.v.now ∷ []))) (sym c.in-Sequence.is) c.sequence.ensures.value

pub returns-in-Filter-clause-value : goal.returns-in-Filter-clause-value
unfolding apply
returns-in-Filter-clause-value c =
    subst (λ f. IfOk c.filter.result (λ r. value_tree r ≡ apply (fun_tree f) (value_tree c.args.u.now ∷ value_tree c.args.v.now ∷ []))) (sym c.in-Filter.is) c.filter.ensures.value

pub returns-in_default : goal.returns-in_default
returns-in_default c =
    record {
      value = c.wrong_number.ensures.value ∙ not_on_two c.args.fun (value_tree c.args.u.now) (value_tree c.args.v.now) c.requires.fixed c.in_default.not-Mod c.in_default.not-Left c.in_default.not-Right c.in_default.not-Sequence c.in_default.not-Filter;
      sound = c.wrong_number.ensures.sound;
    }
