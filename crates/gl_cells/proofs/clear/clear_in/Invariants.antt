use Rattle.std.proofs.Common.{◌≡◌, ◌+◌, ◌≤◌, IsSome, not, filter}
use Rattle.std.specs.Prelude.{length}
use Rattle.std.specs.BTreeMap.{is_at}
use Rattle.std.specs.Map.{lookup}
use Rattle.gl_calculus.specs.Grid.Grid.{Addr, covers}
use Rattle.gl_cells.specs.Search.{Covers, After}
use Rattle.gl_cells.specs.Sheet.{addr_cmp, IsTable}
use Rattle.gl_cells.proofs.clear.clear_in.Given as goal

abbrev pub invariant-loop-a : goal.invariant-loop-a
invariant-loop-a l = record {
  table : IsTable l.map l.forms;
  fewer : l.forms ≤ l.fn.forms;
  count : l.count + length l.map ≡ length l.fn.map;
  gone : (q : Addr) → Covers l.r.first l.r.last q → IsSome (lookup (is_at (addr_cmp q)) l.map) → After l.after q;
  kept : filter (λ e. not (covers l.r e.0)) l.map ≡ filter (λ e. not (covers l.r e.0)) l.fn.map;
}

abbrev pub decreases-loop-a : goal.decreases-loop-a
decreases-loop-a l = length l.map
