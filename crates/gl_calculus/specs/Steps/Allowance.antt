-- The steps that keys of a kind allow.
use Rattle.std.specs.Prelude.{◌≡◌, ℕ, ◌+◌, ◌≤◌, List, length}
use Rattle.gl_calculus.specs.Computation.Lists.{Member, AreDistinct}
use Rattle.gl_calculus.specs.Computation.Reads.{IsReads}
use Rattle.gl_calculus.specs.Steps.Counted.{Counted, counted_keys, AreReads, sum_reads}
use Rattle.gl_calculus.specs.Grid.Limits.{max_demanded}
use Rattle.gl_calculus.specs.Evaluation.Key.{Key, same_key}
use Rattle.gl_calculus.specs.Evaluation.World.{World}
use Rattle.gl_calculus.specs.Evaluation.Evaluation.{program}

-- The steps go from n to m: at most 1 and the number of its reads for each of some keys of the
-- kind, however these reads are found.
pub record Allows (W : World) (kind : Key → Type 0) (n m : ℕ) : Type 0 where
  pub keys : List Key
  pub distinct : AreDistinct keys
  pub few : length keys ≤ max_demanded
  pub each : (k : Key) → Member k keys → kind k
  pub most : (cs : List (Counted Key)) → counted_keys cs ≡ keys →
      AreReads same_key (program W) cs → m ≤ n + sum_reads cs
  pub later : n ≤ m

-- the reads of the key are there
abbrev pub HasReads : World → Key → Type 0
HasReads W k = (rs : List Key) × IsReads same_key (program W) k rs
