-- Evaluations, the form in which programs are written: what stands at a place is seen only by
-- looking at it. So one program serves all places with whatever stands there.
use Rattle.std.specs.Prelude.{List, ◌++◌}
use Rattle.gl_calculus.specs.Computation.Query.{Query, Return, Look, Ask, Found, Ready, Need}

-- One level of evaluation with a result R: it is done, looks at a place in A and goes on with the
-- facts F that stand there, or demands a key in K and goes on with its outcome in O.
pub data Evaluation (K O A F R : Type 0) : Type 0 where
  Done : R → Evaluation K O A F R
  LookAt : A → (F → Evaluation K O A F R) → Evaluation K O A F R
  Demand : K → (O → Evaluation K O A F R) → Evaluation K O A F R

-- one evaluation, and then another on its result
abbrev pub bind : {K O A F R S : Type 0} →
    Evaluation K O A F R → (R → Evaluation K O A F S) → Evaluation K O A F S
bind (Done r) g = g r
bind (LookAt a c) g = LookAt a (λ x. bind (c x) g)
bind (Demand k c) g = Demand k (λ o. bind (c o) g)

-- the query that the evaluation is where these facts stand at the places
abbrev pub given : {K O A F R : Type 0} → (A → F) → Evaluation K O A F R → Query K O A R
given facts (Done r) = Return r
given facts (LookAt a c) = Look a (given facts (c (facts a)))
given facts (Demand k c) = Ask k (λ o. given facts (c o))

-- how a walk goes on after its first part
abbrev pub then_found : {K R S : Type 0} → Found K R → (R → Found K S) → Found K S
then_found (Ready r) g = g r
then_found (Need k) g = Need k

abbrev pub then_list : {K R X : Type 0} → List X → Found K R → (R → List X) → List X
then_list xs (Ready r) g = xs ++ g r
then_list xs (Need k) g = xs
