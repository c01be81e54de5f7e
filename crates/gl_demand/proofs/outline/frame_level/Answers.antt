use Rattle.std.proofs.Common.{◌≡◌, map, sym, ap, ◌∙◌}
use Rattle.gl_calculus.specs.Values.Value as V
use Rattle.gl_value.specs.Forms.{sheet_tree_is, frame_tree-In}
use Rattle.gl_value.specs.View.{frame_tree}
use Rattle.gl_demand.specs.Outline.{plain_override, level_word, frame_level}
use Rattle.gl_demand.proofs.Outlines.{listed_trees}
use Rattle.gl_demand.proofs.outline.frame_level.Goals as goal

pub returns-in-In : goal.returns-in-In
returns-in-In c =
    let v = c.in-In.s.value in
    let w = c.in-In.field-1 in
    let told = c.own_level.ensures in
    let own : c.own_level.result ≡ level_word v.weight (map plain_override v.overrides.items) = rw c.deref.ensures at told in
    own
    ∙ ap (level_word v.weight) (sym (listed_trees v.overrides.items))
    ∙ ap (λ x. frame_level (V.In x w.value)) (sym (sheet_tree_is v))
    ∙ ap frame_level (sym (ap frame_tree c.in-In.is ∙ frame_tree-In c.in-In.s w))
