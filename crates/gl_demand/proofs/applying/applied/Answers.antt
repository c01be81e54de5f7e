use Rattle.std.proofs.Common.{◌≡◌, ◌∙◌, IfOk, ap, sym, subst, map, length}
use Rattle.gl_ast.specs.View.{fun_tree}
use Rattle.gl_calculus.specs.Formulas.Fit.{takes_any}
use Rattle.gl_calculus.specs.Values.Functions.{apply}
use Rattle.gl_calculus.specs.Values.Value as V
use Rattle.gl_value.specs.Forms.{value_tree-One}
use Rattle.gl_value.specs.View.{value_tree}
use Rattle.gl_value.specs.declared.Value.{One}
use Rattle.gl_demand.specs.Fit.{Takes}
use Rattle.gl_demand.proofs.Fitting.{few, some_beside, some_below}
use Rattle.gl_demand.proofs.applying.applied.Goals as goal

pub returns-in-Sum-clause-value : goal.returns-in-Sum-clause-value
unfolding apply
returns-in-Sum-clause-value c =
    subst (λ f. value_tree (One c.sum.result) ≡ apply (fun_tree f) (map value_tree c.args.values.now)) (sym c.in-Sum.is) (value_tree-One c.sum.result ∙ ap V.Value.One c.sum.ensures.value)

pub returns-in-Count-clause-value : goal.returns-in-Count-clause-value
unfolding apply
returns-in-Count-clause-value c =
    subst (λ f. value_tree (One c.count.result) ≡ apply (fun_tree f) (map value_tree c.args.values.now)) (sym c.in-Count.is) (value_tree-One c.count.result ∙ ap V.Value.One c.count.ensures.value)

pub returns-in-Min-clause-value : goal.returns-in-Min-clause-value
unfolding apply
returns-in-Min-clause-value c =
    subst (λ f. value_tree (One c.least.result) ≡ apply (fun_tree f) (map value_tree c.args.values.now)) (sym c.in-Min.is) (value_tree-One c.least.result ∙ ap V.Value.One c.least.ensures.value)

pub returns-in-Max-clause-value : goal.returns-in-Max-clause-value
unfolding apply
returns-in-Max-clause-value c =
    subst (λ f. value_tree (One c.greatest.result) ≡ apply (fun_tree f) (map value_tree c.args.values.now)) (sym c.in-Max.is) (value_tree-One c.greatest.result ∙ ap V.Value.One c.greatest.ensures.value)

pub returns-in-And-clause-value : goal.returns-in-And-clause-value
unfolding apply
returns-in-And-clause-value c =
    subst (λ f. value_tree (One c.all.result) ≡ apply (fun_tree f) (map value_tree c.args.values.now)) (sym c.in-And.is) (value_tree-One c.all.result ∙ ap V.Value.One c.all.ensures.value)

pub returns-in-Or-clause-value : goal.returns-in-Or-clause-value
unfolding apply
returns-in-Or-clause-value c =
    subst (λ f. value_tree (One c.any.result) ≡ apply (fun_tree f) (map value_tree c.args.values.now)) (sym c.in-Or.is) (value_tree-One c.any.result ∙ ap V.Value.One c.any.ensures.value)

pub returns-in-HStack-clause-value : goal.returns-in-HStack-clause-value
unfolding apply
returns-in-HStack-clause-value c =
    subst (λ f. IfOk c.hstack.result (λ r. value_tree r ≡ apply (fun_tree f) (map value_tree c.args.values.now))) (sym c.in-HStack.is) c.hstack.ensures.value

pub returns-in-VStack-clause-value : goal.returns-in-VStack-clause-value
unfolding apply
returns-in-VStack-clause-value c =
    subst (λ f. IfOk c.vstack.result (λ r. value_tree r ≡ apply (fun_tree f) (map value_tree c.args.values.now))) (sym c.in-VStack.is) c.vstack.ensures.value

pub sum-requires : goal.sum-requires
sum-requires c = (few (fun_tree c.args.fun) (length c.args.values.now) c.requires.number (ap (λ f. takes_any (fun_tree f)) c.in-Sum.is), c.requires.sound)

pub count-requires : goal.count-requires
count-requires c = (few (fun_tree c.args.fun) (length c.args.values.now) c.requires.number (ap (λ f. takes_any (fun_tree f)) c.in-Count.is), c.requires.sound)

pub least-requires : goal.least-requires
least-requires c = (few (fun_tree c.args.fun) (length c.args.values.now) c.requires.number (ap (λ f. takes_any (fun_tree f)) c.in-Min.is), c.requires.sound)

pub greatest-requires : goal.greatest-requires
greatest-requires c = (few (fun_tree c.args.fun) (length c.args.values.now) c.requires.number (ap (λ f. takes_any (fun_tree f)) c.in-Max.is), c.requires.sound)

pub all-requires : goal.all-requires
all-requires c = (few (fun_tree c.args.fun) (length c.args.values.now) c.requires.number (ap (λ f. takes_any (fun_tree f)) c.in-And.is), c.requires.sound)

pub any-requires : goal.any-requires
any-requires c = (few (fun_tree c.args.fun) (length c.args.values.now) c.requires.number (ap (λ f. takes_any (fun_tree f)) c.in-Or.is), c.requires.sound)

pub hstack-requires : goal.hstack-requires
hstack-requires c =
    let n = length c.args.values.now in
    (some_beside n (subst (λ f. Takes (fun_tree f) n) c.in-HStack.is c.requires.number), few (fun_tree c.args.fun) n c.requires.number (ap (λ f. takes_any (fun_tree f)) c.in-HStack.is), c.requires.sound)

pub vstack-requires : goal.vstack-requires
vstack-requires c =
    let n = length c.args.values.now in
    (some_below n (subst (λ f. Takes (fun_tree f) n) c.in-VStack.is c.requires.number), few (fun_tree c.args.fun) n c.requires.number (ap (λ f. takes_any (fun_tree f)) c.in-VStack.is), c.requires.sound)
