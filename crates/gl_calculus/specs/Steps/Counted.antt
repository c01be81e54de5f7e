-- Keys with their reads, counted.
use Rattle.std.specs.Prelude.{ℕ, suc, ◌+◌, List, [], ◌∷◌, Bool, length, map}
use Rattle.gl_calculus.specs.Computation.Query.{Query}
use Rattle.gl_calculus.specs.Computation.Reads.{IsReads}

-- a key beside its reads
abbrev pub Counted : Type 0 → Type 0
Counted K = K × List K

abbrev pub counted_keys : {K : Type 0} → List (Counted K) → List K
counted_keys cs = map (λ c. c.0) cs

-- the sum of 1 and the number of reads
abbrev pub sum_reads : {K : Type 0} → List (Counted K) → ℕ
sum_reads [] = 0
sum_reads (c ∷ cs) = suc (length c.1) + sum_reads cs

-- each stands beside its reads
abbrev pub AreReads : {K O A : Type 0} →
    (K → K → Bool) → (K → Query K O A O) → List (Counted K) → Type 0
AreReads same program [] = Unit {0}
AreReads same program (c ∷ cs) = IsReads same program c.0 c.1 × AreReads same program cs
