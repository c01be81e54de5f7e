-- What a key that waits was reading, and a place in it.
use Rattle.std.specs.Prelude.{ℕ, List, map}
use Rattle.gl_machine.specs.Ahead.Reading.{Ahead}
use Rattle.gl_demand.specs.Reading.{ahead_tree}
use Rattle.gl_demand.specs.declared.mark.Mark.{Mark}

-- what was being read, and the place from which on its keys are ahead
abbrev pub PlainMark : Type 0
PlainMark = Ahead × ℕ

abbrev pub mark_tree : Mark → PlainMark
mark_tree m = (ahead_tree m.ahead, m.place)

abbrev pub mark_trees : List Mark → List PlainMark
mark_trees ms = map mark_tree ms
