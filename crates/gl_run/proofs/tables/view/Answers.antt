use Rattle.std.proofs.Common.{◌≡◌, ◌∙◌, ℕ, ◌+◌, ◌-◌, List, Vec, Global, map, ap}
use Rattle.gl_calculus.specs.Grid.Grid.{Addr, extents}
use Rattle.gl_protocol.specs.Replies.Tables.{table_text}
use Rattle.gl_value.specs.Made.{shown_tree}
use Rattle.gl_value.specs.declared.Shown.{Shown}
use Rattle.gl_views.specs.Rows.{in_rows}
use Rattle.gl_run.proofs.Viewing.{view_replies}
use Rattle.gl_run.proofs.tables.view.Goals as goal

pub returns : goal.returns
returns c =
    let r = c.args.range.now in
    let items = c.in_ok-items.items.items in
    let rows : c.row.result + 1 - c.row-2.result ≡ (extents r).rows =
    ap (λ n. n + 1 - c.row-2.result) (c.row.ensures.value ∙ ap (λ (a : Addr). a.row) c.last.ensures.value) ∙ ap (λ n. r.last.row + 1 - n) (c.row-2.ensures.value ∙ ap (λ (a : Addr). a.row) c.first.ensures.value) in
    let cols : c.col.result + 1 - c.col-2.result ≡ (extents r).cols =
    ap (λ n. n + 1 - c.col-2.result) (c.col.ensures.value ∙ ap (λ (a : Addr). a.col) c.last-2.ensures.value) ∙ ap (λ n. r.last.col + 1 - n) (c.col-2.ensures.value ∙ ap (λ (a : Addr). a.col) c.first-2.ensures.value) in
    let text : ℕ → ℕ → List Shown → List ℕ = λ m n xs. table_text n (in_rows m n (map shown_tree xs)) in
    let same =
    ap (λ m. text m (c.col.result + 1 - c.col-2.result) c.deref.result.now) rows
    ∙ ap (λ n. text (extents r).rows n c.deref.result.now) cols
    ∙ ap (λ xs. text (extents r).rows (extents r).cols xs) c.deref.ensures.value in
    view_replies c.args.calc.now r (map shown_tree items) c.into_bytes.result.items c.in_ok-items.ensures.shown (ap (λ (v : Vec ℕ Global). v.items) c.into_bytes.ensures.value ∙ c.in_ok-text.ensures ∙ same)
