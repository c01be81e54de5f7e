use Rattle.std.proofs.Common.{◌≡◌, drop}
use Rattle.std.specs.Prelude.{bytes_eq}
use Rattle.std.specs.List.{list_any}
use Rattle.gl_parse.specs.Raws.{letters}
use Rattle.gl_parse.specs.Faults.{scope}
use Rattle.gl_parse.proofs.names.is_bound.Given as goal

abbrev pub invariant-loop-bound : goal.invariant-loop-bound
invariant-loop-bound l = list_any (bytes_eq (letters l.text l.name)) (scope l.text (drop l.bound-index l.scope)) ≡ list_any (bytes_eq (letters l.text l.name)) (scope l.text l.scope)
