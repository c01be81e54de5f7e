use Rattle.std.proofs.Common.{◌≡◌, ◌∙◌, ◌+◌, ◌++◌, ◌∷◌, [], List, map, take, drop, sym, ap, subst, Vec, String, Global}
use Rattle.std.proofs.lemmas.List.{map-append, take-map, drop-map}
use Rattle.gl_calculus.specs.Calculation.Calculation.{Shown}
use Rattle.gl_language.specs.Texts.Text.{Bytes}
use Rattle.gl_value.specs.Made.{shown_tree}
use Rattle.gl_views.specs.Cells.{cell_of, texts_of, rows_of}
use Rattle.gl_views.proofs.InRows.{IsBegun, next_row}
use Rattle.gl_views.proofs.tables.cell_rows.Goals as goal

pub loop-i-preserved : goal.loop-i-preserved
loop-i-preserved c =
    let cols = c.args.cols in
    let left = map shown_tree c.loop-i.left.now in
    let all = map shown_tree c.args.items.now in
    let old = rows_of c.loop-i.texts.items in
    let row : texts_of c.in_ok-row_cells.field-0.items ≡ map cell_of (take cols left) =
    c.in_ok-row_cells.ensures ∙ ap (λ xs. map cell_of (map shown_tree xs)) (c.split_at.ensures.front ∙ ap (λ n. take n c.loop-i.left.now) c.from.ensures) ∙ ap (map cell_of) (sym (take-map shown_tree cols c.loop-i.left.now)) in
    let done : rows_of c.push.new.self.items ≡ old ++ map cell_of (take cols left) ∷ [] =
    ap rows_of c.in_ok-push.ensures.items ∙ map-append (λ (r : Vec (String Global) Global). texts_of r.items) c.loop-i.texts.items (c.in_ok-row_cells.field-0 ∷ []) ∙ ap (λ r. old ++ r ∷ []) row in
    let rest : map shown_tree c.split_at.result.1.now ≡ drop cols left =
    ap (map shown_tree) (c.split_at.ensures.back ∙ ap (λ n. drop n c.loop-i.left.now) c.from.ensures) ∙ sym (drop-map shown_tree cols c.loop-i.left.now) in
    subst (λ (d : List (List Bytes)). IsBegun c.args.rows cols (c.loop-i._i + 1) d (map shown_tree c.split_at.result.1.now) all) (sym done)
    (subst (λ (z : List Shown). IsBegun c.args.rows cols (c.loop-i._i + 1) (old ++ map cell_of (take cols left) ∷ []) z all) (sym rest)
    (next_row c.args.rows cols c.loop-i._i old left all c.loop-i.invariant c.loop-i-test.true))
