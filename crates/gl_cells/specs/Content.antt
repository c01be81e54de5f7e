-- The content of the calculus that a content of the code stands for.
use Rattle.std.specs.Prelude.{ℕ, Bool, true, false, if◌then◌else◌}
use Rattle.std.specs.Rc.{rc_value}
use Rattle.gl_calculus.specs.Formulas.Formula as F
use Rattle.gl_ast.specs.View.{formula_tree}
use Rattle.gl_value.specs.View.{scalar_tree}
use Rattle.gl_cells.specs.declared.content.Content.{Content}
use Rattle.gl_cells.specs.declared.content.Content.TheVariants.{Const, Form}

abbrev pub content_tree : Content → F.Content
content_tree (Const x) = F.Const (scalar_tree x)
content_tree (Form f) = F.Form (formula_tree (rc_value f))

abbrev pub is_formula : F.Content → Bool
is_formula (F.Const x) = false
is_formula (F.Form f) = true

-- what it adds to the number of formulas
abbrev pub form_weight : F.Content → ℕ
form_weight c = if is_formula c then 1 else 0
