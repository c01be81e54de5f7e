-- Which keys are demanded.
use Rattle.std.specs.Prelude.{List}
use Rattle.gl_calculus.specs.Computation.Lists.{Member}
use Rattle.gl_calculus.specs.Computation.Query.{Query, IsAsked}

-- the demanded keys: the least set that holds the seeds and each key that a member asks for
pub data Demanded {K O A : Type 0} (program : K → Query K O A O) (seeds : List K) : K → Type 0 where
  Seed : {k : K} → Member k seeds → Demanded program seeds k
  Read : {k j : K} → Demanded program seeds k → IsAsked program (program k) j →
      Demanded program seeds j
