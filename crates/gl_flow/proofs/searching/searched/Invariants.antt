use Rattle.gl_flow.specs.Plans.{plan}
use Rattle.gl_flow.specs.Searching.{SearchesIn, IsSearched}
use Rattle.gl_flow.proofs.searching.searched.Given as goal

abbrev pub invariant-loop-k : goal.invariant-loop-k
invariant-loop-k l = record { knows : SearchesIn l.net l.search; far : IsSearched (plan l.net) l.k l.height }
