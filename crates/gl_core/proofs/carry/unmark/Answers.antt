use Rattle.std.proofs.Common.{◌≡◌, ◌<◌, ◌+◌, length, set, inl, inr, sym, ap, ◌∙◌, arith}
use Rattle.gl_machine.specs.Ahead.Reading.{Nothing}
use Rattle.gl_demand.specs.Marks.{PlainMark, mark_tree, mark_trees}
use Rattle.gl_core.proofs.Passed.{below_or}
use Rattle.gl_core.proofs.Numbered.{length-map}
use Rattle.gl_core.proofs.Reading.{map_set}
use Rattle.gl_core.proofs.Carried.{set_past}
use Rattle.gl_core.proofs.carry.unmark.Goals as goal

pub returns-in-Some : goal.returns-in-Some
returns-in-Some c = map_set mark_tree c.args.marks.now.items c.args.q c.none.result ∙ ap (λ (m : PlainMark). set (mark_trees c.args.marks.now.items) c.args.q m) c.none.ensures

pub returns-in-None : goal.returns-in-None
returns-in-None c = elim (below_or c.args.q (length c.args.marks.now.items)) [
  | inl h ↦ absurd (cc (c.in-None.ensures.variant.1 (omega (arith, h, c.args.marks.now.ok.0))))
  | inr h ↦ sym (set_past (mark_trees c.args.marks.now.items) c.args.q (Nothing, 0) (let n = length-map mark_tree c.args.marks.now.items in omega (arith, n, h)))
]
