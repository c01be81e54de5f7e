use Rattle.std.proofs.Common.{IfSome, MatchOption, IsSome}
use Rattle.std.specs.BTreeMap.{is_at}
use Rattle.std.specs.Map.{lookup}
use Rattle.gl_calculus.specs.Grid.Grid.{Addr}
use Rattle.gl_plane.specs.Parts.{IsAddr}
use Rattle.gl_cells.specs.Search.{AtOrAfter, InPlay}
use Rattle.gl_cells.specs.Sheet.{addr_cmp}
use Rattle.gl_cells.proofs.Order.{places_left}
use Rattle.gl_cells.proofs.search.next_in.Given as goal

-- what is left of the range starts at `at`
abbrev pub invariant-loop-at : goal.invariant-loop-at
invariant-loop-at l = record {
  inside : IfSome l.at (InPlay l.r.first l.r.last l.fn.after);
  on_grid : IfSome l.at IsAddr;
  rest : (q : Addr) → InPlay l.r.first l.r.last l.fn.after q → IsSome (lookup (is_at (addr_cmp q)) l.map) → MatchOption l.at ⊥ (λ f. AtOrAfter f q);
}

abbrev pub decreases-loop-at : goal.decreases-loop-at
decreases-loop-at l = places_left l.at
