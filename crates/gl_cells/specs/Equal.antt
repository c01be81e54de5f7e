-- Contents are equal where their trees are.
use Rattle.std.specs.Prelude.{◌≡◌, true}
use Rattle.std.specs.Rc.{rc_value}
use Rattle.gl_calculus.specs.Formulas.Formula as F
use Rattle.gl_ast.specs.Equal.{formula_equal}
use Rattle.gl_ast.specs.View.{formula_tree}
use Rattle.gl_value.proofs.Equal.{scalar_equal}
use Rattle.gl_value.specs.View.{scalar_tree}
use Rattle.gl_cells.specs.Content.{content_tree}
use Rattle.gl_cells.specs.declared.content.Content.{Content}
use Rattle.gl_cells.specs.declared.content.Content.TheVariants.{Const, Form}
use Rattle.gl_cells.specs.contracts.content.ContentPartialEq.TheImpl.{ghosts as content}

pub content_alike : (x y : Content) → content_tree y ≡ content_tree x → content.eq x y ≡ true
content_alike (Const x) (Const y) h = (scalar_equal x y).1 (let e : scalar_tree x ≡ scalar_tree y = cc in e)
content_alike (Form f) (Form g) h = (formula_equal (rc_value f) (rc_value g)).1 (let e : formula_tree (rc_value f) ≡ formula_tree (rc_value g) = cc in e)
content_alike (Const x) (Form g) h = let no : F.Form (formula_tree (rc_value g)) ≡ F.Const (scalar_tree x) = h in cc
content_alike (Form f) (Const y) h = let no : F.Const (scalar_tree y) ≡ F.Form (formula_tree (rc_value f)) = h in cc
