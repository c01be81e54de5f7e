-- What a check over a set of the loops finds is what the definition says of their list.
use Rattle.std.proofs.Common.{◌≡◌, ℕ, List, Option, sym, ap, ◌∙◌}
use Rattle.gl_calculus.specs.Computation.Lists.{has_member}
use Rattle.gl_calculus.specs.Grid.Grid.{Addr}
use Rattle.gl_calculus.specs.Evaluation.Key.{Key, Outcome, same_key}
use Rattle.gl_calculus.specs.Evaluation.SameOutcome.{same_outcome}
use Rattle.gl_calculus.specs.Evaluation.World.{World}
use Rattle.gl_calculus.specs.Evaluation.Evaluation.{program}
use Rattle.gl_calculus.proofs.Tests.{key_equality}
use Rattle.gl_calculus.specs.Explanation.Walk.{Claim, first_free}
use Rattle.gl_calculus.specs.Explanation.Certificate.{is_proper, says}
use Rattle.laws_calculus.proofs.Explanation.Checking.{free_same}
use Rattle.laws_calculus.proofs.Explanation.Judging.{says_same}

module _ (W : World) (ns ms : List (Claim Key Outcome)) (set ls : List Key) (same : ns ≡ ms) (alike : (j : Key) → has_member same_key j set ≡ has_member same_key j ls) where
  abbrev free : List (Claim Key Outcome) → List Key → List Key → Option ℕ
  free xs ks js = first_free same_key same_outcome (is_proper W.sheet) (program W) xs ks js

  pub free_is : (js : List Key) (o : Option ℕ) → js ≡ ls → o ≡ free ns set js → free ms ls ls ≡ o
  free_is js o e h =
      sym (h ∙ free_same same_key same_outcome (is_proper W.sheet) (program W) key_equality ns set ls alike js ∙ ap (free ns ls) e ∙ ap (λ xs. free xs ls ls) same)

  pub says_is : (a : Addr) → says W.sheet W.oracle a ns set ≡ says W.sheet W.oracle a ms ls
  says_is a = says_same W.sheet W.oracle a ns set ls alike ∙ ap (λ xs. says W.sheet W.oracle a xs ls) same
