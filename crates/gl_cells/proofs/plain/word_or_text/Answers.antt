use Rattle.std.proofs.Common.{◌≡◌, ◌∙◌, ◌≤◌, nat_le, List, ℕ, length, true, refl, sym, ap, subst, arith}
use Rattle.std.specs.Str.{IsUtf8, is_utf8}
use Rattle.std.proofs.lemmas.Bool.Decides.{nat_tests}
use Rattle.std.proofs.lemmas.Str.{is_utf8-from_IsUtf8}
use Rattle.gl_calculus.specs.Formulas.Formula.{Const}
use Rattle.gl_calculus.specs.Grid.Limits.{max_text}
use Rattle.gl_calculus.specs.Values.Value as V
use Rattle.gl_language.specs.Reading.Content.{IsProperContent}
use Rattle.gl_value.specs.Forms.{scalar_tree-Text}
use Rattle.gl_cells.proofs.plain.word_or_text.Goals as goal

proper_text : (t : List ℕ) → IsUtf8 t → length t ≤ max_text → IsProperContent (Const (V.Scalar.Text t))
proper_text t u h =
    let e : is_utf8 t ≡ true = is_utf8-from_IsUtf8 t u in
    let f : nat_le (length t) max_text ≡ true = grind (arith, nat_tests) in
    rw (e, f) refl

pub returns-in_ok-from_str-in_default-clause-proper : goal.returns-in_ok-from_str-in_default-clause-proper
returns-in_ok-from_str-in_default-clause-proper c = λ short.
    let e = scalar_tree-Text c.in_ok-from_str-in_default.field-0 ∙ ap V.Scalar.Text c.in_ok-from_str-in_default.ensures.ok in
    subst (λ x. IsProperContent (Const x)) (sym e) (proper_text c.args.text.now c.utf8.text short)
