use Rattle.std.proofs.Common.{◌≡◌, ◌≤◌, ◌&&◌, drop}
use Rattle.std.specs.List.{find}
use Rattle.gl_cells.specs.Search.{is_in_play}
use Rattle.gl_demand.specs.Filling.{comes_before}
use Rattle.gl_demand.proofs.Overridden.{places}
use Rattle.gl_demand.proofs.filling.next_override.Given as goal

-- none of the overrides so far is looked for
abbrev pub invariant-loop-i : goal.invariant-loop-i
invariant-loop-i l = record {
  from : l.first ≤ l.i;
  same : find (λ b. is_in_play l.r l.after b && comes_before l.before b) (places (drop l.i l.s.overrides.items))
      ≡ find (λ b. is_in_play l.r l.after b && comes_before l.before b) (places l.s.overrides.items);
}
