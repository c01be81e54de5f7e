use Rattle.std.proofs.Common.{◌∙◌, IsTrue}
use Rattle.gl_calculus.specs.Values.Value as V
use Rattle.gl_calculus.specs.Evaluation.Sound.{is_sound_value}
use Rattle.gl_value.specs.Forms.{value_tree-Array, array_tree_is}
use Rattle.gl_value.specs.View.{item_trees}
use Rattle.gl_lift.proofs.Present.{element_present}
use Rattle.gl_lift.proofs.Soundness.{element_sound}
use Rattle.gl_lift.proofs.elements.element.Goals as goal

pub returns-in-Array : goal.returns-in-Array
returns-in-Array c =
    let a = c.in-Array.a.value in
    let sound : IsTrue (is_sound_value (V.Value.Array a.size (item_trees a.items.items))) = rw (c.in-Array.is, value_tree-Array, array_tree_is) at c.requires in
    let same = rw (c.deref.ensures, array_tree_is) at c.item.ensures in
    let value = same ∙ element_present a.size (item_trees a.items.items) c.args.i c.args.j sound in
    record {
      sound = element_sound c.item.result (V.Value.Array a.size (item_trees a.items.items)) c.args.i c.args.j sound value;
      value = rw (c.in-Array.is, value_tree-Array, array_tree_is) value;
    }
