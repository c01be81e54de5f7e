-- What a state of the machine says of the keys.
use Rattle.std.specs.Prelude.{◌≡◌, ◌≤◌, List, Bool, Some, None, length}
use Rattle.gl_calculus.specs.Computation.Lists.{Member, AreDistinct}
use Rattle.gl_calculus.specs.Computation.Query.{Query, Need, found, Has, Loops, IsAsked}
use Rattle.gl_calculus.specs.Computation.Demanded.{Demanded}
use Rattle.gl_machine.specs.Machine.{Idle, Waiting, Resolved, Entry, at, table, IsKnown}
use Rattle.gl_calculus.specs.Computation.Reads.{IsReads}
use Rattle.gl_machine.specs.Reads.{first_without}

-- What a state says of the keys, after any picks.
pub record IsRight {K O A : Type 0} (same : K → K → Bool) (program : K → Query K O A O) (seeds : List K) (st : List (Entry K O)) : Type 0 where
  -- a resolved outcome is the key's, and all its reads are resolved
  pub resolved : (k : K) (o : O) → at same st k ≡ Some (Resolved o) → Has program k o
  pub reads_resolved : (k j : K) (o : O) → at same st k ≡ Some (Resolved o) → IsAsked program (program k) j → (x : O) × (at same st j ≡ Some (Resolved x))
  -- a waiting key waits for the first key that its evaluation lacks, by the outcomes that are known
  pub waits_by_level : (k j : K) → at same st k ≡ Some (Waiting j) → found (table same st) (program k) ≡ Need j
  -- a waiting key waits for a read of it that is known and not resolved, and each read before that one is resolved
  pub waits_for_read : (k j : K) → at same st k ≡ Some (Waiting j) → IsAsked program (program k) j × IsKnown same st j × (table same st j ≡ None)
  pub waits_for_first : (k j : K) → at same st k ≡ Some (Waiting j) → (rs : List K) → IsReads same program k rs → first_without (table same st) rs ≡ Some j
  -- each known key is demanded
  pub known_demanded : (k : K) → IsKnown same st k → Demanded program seeds k

-- What it says where nothing is idle.
pub record IsQuiet {K O A : Type 0} (same : K → K → Bool) (program : K → Query K O A O) (seeds : List K) (st : List (Entry K O)) : Type 0 where
  pub none_idle : (k : K) → at same st k ≡ Some Idle → ⊥
  -- the known keys are exactly the demanded ones
  pub known_demanded : (k : K) → IsKnown same st k → Demanded program seeds k
  pub demanded_known : (k : K) → Demanded program seeds k → IsKnown same st k
  -- the waiting ones are exactly those of them that loop, and the others have their outcomes
  pub waiting_loops : (k j : K) → at same st k ≡ Some (Waiting j) → Loops program k
  pub looping_waits : (k : K) → Demanded program seeds k → Loops program k → (j : K) × (at same st k ≡ Some (Waiting j))
  pub resolved_has : (k : K) (o : O) → at same st k ≡ Some (Resolved o) → Has program k o
  pub having_resolved : (k : K) (o : O) → Demanded program seeds k → Has program k o → at same st k ≡ Some (Resolved o)
  -- and no list of distinct demanded keys is longer than the state
  pub no_more : (xs : List K) → AreDistinct xs → ((k : K) → Member k xs → Demanded program seeds k) → length xs ≤ length st
