use Rattle.std.proofs.Common.{◌≡◌, true, sym, subst, ap, ◌∙◌, arith}
use Rattle.std.proofs.lemmas.Grind.{common_steps}
use Rattle.gl_cells.specs.Sheet.{sheet}
use Rattle.gl_flow.specs.Places.{are_in_order}
use Rattle.gl_flow.specs.Pieces.{piece_lists, rows_read}
use Rattle.gl_flow.specs.Grid.{number_lists, IsShaped}
use Rattle.gl_flow.specs.Rivals.{AreBottoms}
use Rattle.gl_flow.specs.Planning.{plan_of}
use Rattle.gl_flow.proofs.Made.{ordered_places, made, network_sound}
use Rattle.gl_flow.proofs.making.network_of.Goals as goal

pub shapes_of-requires-clause-ordered : goal.shapes_of-requires-clause-ordered
shapes_of-requires-clause-ordered c = subst (λ t. are_in_order t ≡ true) (sym c.deref.ensures.value) (ordered_places (sheet c.args.cells.now) c.args.places.items c.contents-contents.ensures.ordered c.requires.places)

pub grid_of-requires-clause-ordered : goal.grid_of-requires-clause-ordered
grid_of-requires-clause-ordered c = subst (λ t. are_in_order t ≡ true) (sym c.deref-6.ensures.value) (ordered_places (sheet c.args.cells.now) c.args.places.items c.contents-contents.ensures.ordered c.requires.places)

pub invariant_of-result : goal.invariant_of-result
invariant_of-result c =
    let plan = plan_of c.args.places.items c.in_ok-pieces.pieces.items c.in_ok-areas.areas.items c.in_ok-columns.columns.items in
    let S = sheet c.args.cells.now in
    record {
      sound = network_sound S plan c.in_ok-bottoms.bottoms.items
          (made S plan c.last_row-rows.result c.deref-2.result.now c.deref-4.result.now c.deref-6.result.now c.deref-7.result.now (piece_lists c.deref-5.result.now) c.contents-contents.ensures.ordered c.requires.places
          c.deref-2.ensures.value c.in_ok-areas.ensures.value c.deref-4.ensures.value c.in_ok-pieces.ensures (ap piece_lists c.deref-5.ensures.value) c.last_row-rows.ensures.sound c.last_row-rows.ensures.value
          c.deref-6.ensures.value c.deref-7.ensures.value c.in_ok-columns.ensures.sources)
          c.requires.few
          (subst (λ t. IsShaped t (number_lists c.in_ok-columns.columns.items)) (c.last_row-rows.ensures.value ∙ ap (λ t. rows_read (piece_lists t)) c.deref-5.ensures.value) c.in_ok-columns.ensures.shaped)
          (subst (λ t. AreBottoms t c.in_ok-bottoms.bottoms.items) c.deref-8.ensures.value c.in_ok-bottoms.ensures);
    }

pub areas_of-requires-clause-same : goal.areas_of-requires-clause-same
areas_of-requires-clause-same c = grind (arith, common_steps)
