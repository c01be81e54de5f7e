use Rattle.std.proofs.Common.{◌≡◌, ◌++◌, filter}
use Rattle.std.specs.Map.{keys_of}
use Rattle.gl_cells.proofs.contents.formulas_in.Given as goal

abbrev pub invariant-loop-a : goal.invariant-loop-a
invariant-loop-a l = l.places.items ++ keys_of (filter (λ k. k.1) l.a-iterator) ≡ keys_of (filter (λ k. k.1) l.order.entries)
