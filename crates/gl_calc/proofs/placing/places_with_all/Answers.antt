use Rattle.std.proofs.Common.{◌∙◌, ◌+◌, List, ◌∷◌, ap, sym, drop}
use Rattle.std.proofs.lemmas.List.{drop_more}
use Rattle.gl_calculus.specs.Grid.Grid.{Addr}
use Rattle.gl_calculus.specs.Edits.Sheets.{with_content, with_contents}
use Rattle.laws_calculus.proofs.SheetEdits.SheetOrders.{order_with}
use Rattle.gl_cells.specs.declared.content.Content.{Content}
use Rattle.gl_cells.specs.Content.{content_tree}
use Rattle.gl_cells.specs.Sheet.{sheet}
use Rattle.gl_calc.proofs.placing.places_with_all.Goals as goal

pub loop-a-preserved : goal.loop-a-preserved
loop-a-preserved c = λ S o k.
    let r = c.loop-a.invariant S o k in
    let x = c.loop-a-item.result in
    let all = c.args.list.now in
    record {
      now = with_content r.now x.0 (content_tree x.1);
      ordered = order_with r.now x.0 (content_tree x.1) r.ordered;
      known = c.places_with-places.ensures r.now (content_tree x.1) r.ordered c.is_formula.ensures r.known;
      same = ap (λ (cs : List (Addr × Content)). with_contents r.now (sheet cs)) (sym (drop_more all c.loop-a.a-index x c.loop-a-test.true ∙ ap (λ (y : Addr × Content). y ∷ drop (c.loop-a.a-index + 1) all) (sym c.loop-a-item.is))) ∙ r.same;
    }
