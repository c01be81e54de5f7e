use Rattle.std.proofs.Common.{◌≡◌, ◌∙◌, ◌∷◌, [], ◌+◌, ◌<◌, drop, length, nat_eq, refl, sym, ap, subst, arith}
use Rattle.std.proofs.Math.ListN.{drop_of_length-le}
use Rattle.std.proofs.lemmas.List.{drop_more}
use Rattle.gl_calculus.specs.Computation.Lists.{has_member}
use Rattle.gl_machine.specs.InOrder.{gone_after}
use Rattle.gl_support.specs.Rows.{notes_of, gone_numbers, gone_with}
use Rattle.gl_support.specs.declared.row.Row.{Row}
use Rattle.gl_support.proofs.Places.{none_marked}
use Rattle.gl_support.proofs.pass.mark.Goals as goal

pub loop-row-init : goal.loop-row-init
loop-row-init g c = record {
  gone = ([], none_marked c.in_ok-gone.gone.items _ (c.in_ok-gone.ensures.items_if_clones_equal (λ b e. e)), refl);
  size = c.in_ok-gone.ensures.len;
}

pub mark_gone-requires : goal.mark_gone-requires
mark_gone-requires g c =
    let rows = c.args.rows.now in
    let i = c.loop-row.row-index in
    let row = c.row-item.result in
    let inside : i < length rows = omega arith in
    let below : row.by < c.args.numbers = subst (λ (r : Row _ _). r.by < c.args.numbers) (sym c.row-item.is) (c.requires i row inside) in
    subst (λ n. row.by < n) (sym c.loop-row.invariant.size) below

pub loop-row-preserved : goal.loop-row-preserved
loop-row-preserved g c =
    let rows = c.args.rows.now in
    let i = c.loop-row.row-index in
    let row = c.row-item.result in
    let touched = g.T.Touched.touches c.args.changed.now in
    let so_far = c.loop-row.invariant.gone in
    let inside : i < length rows = omega arith in
    let rest : drop i rows ≡ row ∷ drop (i + 1) rows = drop_more rows i row inside ∙ ap (λ r. r ∷ drop (i + 1) rows) (sym c.row-item.is) in
    record {
      gone = (gone_with touched so_far.0 row, c.mark_gone.ensures.marks so_far.0 so_far.1, ap (λ rs. gone_after nat_eq touched so_far.0 (notes_of rs)) (sym rest) ∙ so_far.2);
      size = c.mark_gone.ensures.size ∙ c.loop-row.invariant.size;
    }

pub returns : goal.returns
returns g c =
    let rows = c.args.rows.now in
    let i = c.loop-row.row-index in
    let touched = g.T.Touched.touches c.args.changed.now in
    let so_far = c.loop-row.invariant.gone in
    let none : drop i rows ≡ [] = drop_of_length-le rows {i = i} (omega arith) in
    let all : so_far.0 ≡ gone_numbers touched rows = ap (λ rs. gone_after nat_eq touched so_far.0 (notes_of rs)) (sym none) ∙ so_far.2 in
    λ k. so_far.1 k ∙ ap (has_member nat_eq k) all
