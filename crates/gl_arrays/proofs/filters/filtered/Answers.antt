use Rattle.std.proofs.Common.{◌≡◌, ◌∙◌, [], map, ap, subst, sym, arith, refl, IfOk}
use Rattle.std.proofs.lemmas.List.{nil_from_length}
use Rattle.gl_calculus.specs.Values.ErrKind.{ErrKind}
use Rattle.gl_calculus.specs.Values.Functions.{some_rows, value_or_error}
use Rattle.gl_value.specs.Forms.{scalar_tree-Err, value_tree-One}
use Rattle.gl_value.specs.View.{value_tree}
use Rattle.gl_arrays.specs.Parts.{row}
use Rattle.gl_arrays.proofs.Listed.{kept_are, some_listed}
use Rattle.gl_arrays.proofs.filters.filtered.Goals as goal

pub returns-then-len-eq0-clause-value : goal.returns-then-len-eq0-clause-value
returns-then-len-eq0-clause-value c =
    let v = value_tree c.args.v.now in
    let keep = value_tree c.args.keep.now in
    let ks = c.in_ok-kept.kept.items in
    let none : ks ≡ [] = nil_from_length ks (omega arith) in
    let are = kept_are v keep c.requires.value c.requires.keep c.requires.column ∙ ap (map (row v)) (sym c.in_ok-kept.ensures.rows ∙ none) in
    rw (are, value_tree-One, scalar_tree-Err) refl

pub returns-clause-value : goal.returns-clause-value
returns-clause-value c =
    let v = value_tree c.args.v.now in
    let keep = value_tree c.args.keep.now in
    let ks = c.deref.result.now in
    let are = ap (map (row v)) (c.deref.ensures.value ∙ c.in_ok-kept.ensures.rows) ∙ sym (kept_are v keep c.requires.value c.requires.keep c.requires.column) in
    subst (λ t. IfOk c.listed_rows.result (λ r. value_tree r ≡ t)) (some_listed ErrKind.Na v ks c.requires.value (omega arith) ∙ ap (λ rs. value_or_error (some_rows ErrKind.Na rs)) are) c.listed_rows.ensures.value
