use Rattle.std.proofs.Common.{◌≡◌, ◌<◌, ◌++◌, ◌∷◌, [], List, Some, length, map, take, slice_get, slice_index, refl, sym, ap, ◌∙◌, arith}
use Rattle.gl_calculus.specs.Values.Value.{Top}
use Rattle.gl_calculus.specs.Evaluation.Key as K
use Rattle.gl_value.specs.Forms.{frame_tree-Top}
use Rattle.gl_core.proofs.Numbered.{get_of_index, item_at, map_push}
use Rattle.gl_core.proofs.Indexing.{take_next}
use Rattle.gl_core.proofs.Converted.{keys_next}
use Rattle.gl_core.proofs.resuming.are_cells.Goals as goal

pub loop-i-init : goal.loop-i-init
loop-i-init c = record { cells = refl }

pub loop-i-preserved : goal.loop-i-preserved
loop-i-preserved c =
    let ks = c.args.book.now in
    let ns = c.args.known.now in
    let ps = c.args.places.now in
    let i = c.loop-i.i in
    let a = c.index-places-i.result in
    let at : slice_get ks (slice_index ns i) ≡ Some (K.Cell Top a) = (c.if-not-is_at.ensures refl).0 ∙ ap (λ e. Some (K.Cell e a)) frame_tree-Top in
    let there : slice_get ps i ≡ Some a = item_at ps i a c.index-places-i.is (omega (arith, c.loop-i-test.true, c.if-known-places.false)) in
    record {
      cells = keys_next ks ns i (slice_index ns i) (K.Cell Top a) (get_of_index ns i c.loop-i-test.true) at
          ∙ ap (λ (js : List K.Key). js ++ K.Cell Top a ∷ []) c.loop-i.invariant.cells
          ∙ sym (ap (map (K.Cell Top)) (take_next ps i a there) ∙ map_push (K.Cell Top) (take i ps) a);
    }
