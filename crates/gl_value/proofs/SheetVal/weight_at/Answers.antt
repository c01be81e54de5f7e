use Rattle.std.proofs.Common.{◌≡◌, ap, sym, subst, ◌∙◌, true, Some, None}
use Rattle.gl_calculus.specs.Values.Sheet.{override_at}
use Rattle.gl_value.specs.Forms.{sheet_tree_is}
use Rattle.gl_value.specs.Sound.{sheet_facts}
use Rattle.gl_value.specs.View.{value_tree, override_trees}
use Rattle.gl_value.proofs.Weights.{weight_of, weighs, sound_of, sounds}
use Rattle.gl_value.proofs.SheetVal.weight_at.Goals as goal

pub weight-requires : goal.weight-requires
weight-requires c =
    let s = c.args.self.now in
    let e : Some (value_tree c.in-Some.v.now) ≡ override_at (override_trees s.overrides.items) c.args.a = rw (sheet_tree_is s) at c.in-Some.ensures in
    subst (λ o. sound_of o ≡ true) (sym e) (sounds (override_trees s.overrides.items) c.args.a (sheet_facts s c.requires).overrides)

pub returns-in-Some : goal.returns-in-Some
returns-in-Some c =
    let s = c.args.self.now in
    let e : Some (value_tree c.in-Some.v.now) ≡ override_at (override_trees s.overrides.items) c.args.a = rw (sheet_tree_is s) at c.in-Some.ensures in
    c.weight.ensures.value ∙ ap weight_of e ∙ sym (weighs (override_trees s.overrides.items) c.args.a)

pub returns-in-None : goal.returns-in-None
returns-in-None c =
    let s = c.args.self.now in
    let e : None ≡ override_at (override_trees s.overrides.items) c.args.a = rw (sheet_tree_is s) at c.in-None.ensures in
    ap weight_of e ∙ sym (weighs (override_trees s.overrides.items) c.args.a)
