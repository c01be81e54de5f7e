use Rattle.std.proofs.Common.{◌≡◌, length}
use Rattle.gl_funs.specs.Elements.{elements_left}
use Rattle.gl_funs.proofs.elements.ElementsIterator.next.Given as goal

abbrev pub invariant-loop-x : goal.invariant-loop-x
invariant-loop-x l = elements_left l.initial.self.items.now l.initial.self.values.now ≡ elements_left l.self.items.now l.self.values.now

abbrev pub decreases-loop-x : goal.decreases-loop-x
decreases-loop-x l = length l.self.values.now
