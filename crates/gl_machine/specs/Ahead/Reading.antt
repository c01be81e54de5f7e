-- What was being read where an evaluation stopped, and which keys stand behind a place in it.
use Rattle.std.specs.Prelude.{ℕ, List, [], map, drop}
use Rattle.gl_calculus.specs.Grid.Grid.{Addr, Range, addresses}
use Rattle.gl_calculus.specs.Formulas.Formula.{Cells, content}
use Rattle.gl_calculus.specs.Values.Value.{Oracle, Frame}
use Rattle.gl_calculus.specs.Evaluation.Facts.{fact}
use Rattle.gl_calculus.specs.Evaluation.Key.{Key}
use Rattle.gl_calculus.specs.Evaluation.Reference.{own_content}
use Rattle.gl_machine.specs.Ahead.Demands.{range_keys, round_keys, held_reads, reads_keys}

-- nothing that tells more than the needed key, a range in a frame, a round of a settling over a region, or the first reads of the formula of an address in a frame
pub data Ahead : Type 0 where
  Nothing : Ahead
  Area : Frame → Range → Ahead
  Round : Frame → Range → Ahead
  Own : Frame → Addr → Ahead

-- the keys that it demands from its i-th address on
abbrev pub keys_from : Cells → Oracle → Ahead → ℕ → List Key
keys_from S w Nothing i = []
keys_from S w (Area e r) i = range_keys (fact S w) e (map (fact S w) (drop i (addresses r)))
keys_from S w (Round e r) i = round_keys e (map (fact S w) (drop i (addresses r)))
keys_from S w (Own e a) i = reads_keys (fact S w) e (drop i (held_reads (own_content (content S a) e a)))
