use Rattle.std.proofs.Common.{◌≡◌, ◌∙◌, ◌++◌, ◌∷◌, [], map, ap}
use Rattle.std.proofs.lemmas.List.{map-append}
use Rattle.gl_value.specs.Made.{shown_tree}
use Rattle.gl_run.proofs.Viewing.{row_on}
use Rattle.gl_run.proofs.tables.push_row.Goals as goal

pub loop-col-preserved : goal.loop-col-preserved
loop-col-preserved c =
    let x = c.in_ok-shown_at.field-0 in
    let old = map shown_tree c.args.items.now.items in
    let items = c.loop-col.items.items in
    let more : map shown_tree c.push.new.self.items ≡ map shown_tree items ++ shown_tree x ∷ [] = ap (map shown_tree) c.in_ok-push.ensures.items ∙ map-append shown_tree items (x ∷ []) in
    row_on c.args.calc.now c.args.range.now c.args.row c.loop-col.col old (map shown_tree items) (shown_tree x) (map shown_tree c.push.new.self.items) c.loop-col.invariant c.in_ok-shown_at.ensures more
