use Rattle.std.proofs.Common.{map, sym, ap, ◌∙◌}
use Rattle.gl_plane.specs.Digest.{mixed}
use Rattle.gl_value.specs.View.{frame_tree}
use Rattle.gl_value.specs.Forms.{sheet_tree_is}
use Rattle.gl_demand.specs.Outline.{plain_override, level_word}
use Rattle.gl_demand.proofs.Outlines.{listed_trees}
use Rattle.gl_core.specs.Words.{frame_word, sheet_word}
use Rattle.gl_core.proofs.guesses.+words.Goals as goal

pub sheet_word-returns : goal.sheet_word-returns
sheet_word-returns t c =
    let s = c.args.s.now in
    let level =
    c.level_word.ensures
    ∙ ap (λ os. level_word s.weight (map plain_override os)) c.deref.ensures.value
    ∙ ap (level_word s.weight) (sym (listed_trees s.overrides.items)) in
    c.mixed.ensures
    ∙ ap (λ x. mixed x c.level_word.result) c.frame_word.ensures
    ∙ ap (mixed (frame_word (frame_tree s.env))) level
    ∙ ap sheet_word (sym (sheet_tree_is s))
