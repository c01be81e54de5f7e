-- Contents are equal exactly where their trees are, and stamps where neither is earlier.
use Rattle.std.proofs.Common.{◌≡◌, ◌↔◌, false, IsTrue, ap, arith}
use Rattle.std.proofs.lemmas.Grind.{common_steps}
use Rattle.std.specs.Rc.{rc_value}
use Rattle.gl_calculus.specs.Formulas.Formula as F
use Rattle.gl_calculus.specs.Edits.Replicas.{Stamp, is_earlier}
use Rattle.gl_ast.specs.Equal.{formula_equal}
use Rattle.gl_ast.specs.View.{formula_tree}
use Rattle.gl_value.proofs.Equal.{scalar_equal}
use Rattle.gl_value.specs.View.{scalar_tree}
use Rattle.gl_cells.specs.Content.{content_tree}
use Rattle.gl_cells.specs.declared.content.Content.{Content}
use Rattle.gl_cells.specs.declared.content.Content.TheVariants.{Const, Form}
use Rattle.gl_cells.specs.contracts.content.ContentPartialEq.TheImpl.{ghosts as content}

pub content_equal : (c d : Content) → IsTrue (content.eq c d) ↔ (content_tree c ≡ content_tree d)
content_equal (Const x) (Const y) = (λ h. ap F.Const ((scalar_equal x y).0 h), λ h. (scalar_equal x y).1 (let e : scalar_tree x ≡ scalar_tree y = cc in e))
content_equal (Form f) (Form g) = (λ h. ap F.Form ((formula_equal (rc_value f) (rc_value g)).0 h), λ h. (formula_equal (rc_value f) (rc_value g)).1 (let e : formula_tree (rc_value f) ≡ formula_tree (rc_value g) = cc in e))
content_equal (Const x) (Form g) = (λ h. cc h, λ h. let no : F.Const (scalar_tree x) ≡ F.Form (formula_tree (rc_value g)) = h in cc)
content_equal (Form f) (Const y) = (λ h. cc h, λ h. let no : F.Form (formula_tree (rc_value f)) ≡ F.Const (scalar_tree y) = h in cc)

pub stamp_same : (s t : Stamp) → is_earlier s t ≡ false → is_earlier t s ≡ false → s ≡ t
stamp_same s t h k =
    let a : s.time ≡ t.time = grind (arith, common_steps) in
    let b : s.site ≡ t.site = grind (arith, common_steps) in
    λ i. record { time = a i; site = b i }
