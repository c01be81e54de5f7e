use Rattle.std.proofs.Common.{sym, ap, ◌∙◌}
use Rattle.gl_plane.specs.Digest.{mixed}
use Rattle.gl_value.specs.Forms.{sheet_tree_is}
use Rattle.gl_value.specs.View.{frame_tree, override_trees}
use Rattle.gl_demand.specs.Outline.{listed, level_word, frame_level, sheet_outline}
use Rattle.gl_demand.proofs.Outlines.{listed_trees}
use Rattle.gl_demand.proofs.outline.sheet_outline.Goals as goal

pub returns : goal.returns
returns c =
    let s = c.args.s.now in
    let own = c.own_level.ensures ∙ ap (level_word s.weight) (sym (listed_trees s.overrides.items)) in
    let levels =
    c.mixed-levels.ensures
    ∙ ap (λ x. mixed x c.own_level.result) c.frame_level.ensures
    ∙ ap (mixed (frame_level (frame_tree s.env))) own in
    c.mixed.ensures
    ∙ ap (λ x. mixed x c.range_word.result) levels
    ∙ ap (mixed (mixed (frame_level (frame_tree s.env)) (level_word s.weight (listed (override_trees s.overrides.items))))) c.range_word.ensures
    ∙ ap sheet_outline (sym (sheet_tree_is s))
