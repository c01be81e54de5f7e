-- The whole answer of a worked sheet: A1 =SEQUENCE(3,1), B1 =A1#*2 settles after three rounds.
use Rattle.std.proofs.Common.{◌≡◌, ◌⊎◌, inl, inr, [], ◌∷◌, refl, sym, subst, arith}
use Rattle.gl_calculus.specs.Values.Functions.{apply}
use Rattle.gl_calculus.specs.Evaluation.World.{world}
use Rattle.gl_calculus.specs.Evaluation.Evaluation.{program, evaluation, cell_value}
use Rattle.gl_calculus.specs.Grid.Grid.{addr}
use Rattle.gl_calculus.specs.Values.Value.{Oracle, Top}
use Rattle.gl_calculus.specs.Formulas.Formula.{Version}
use Rattle.gl_calculus.specs.Computation.Lists.{Member}
use Rattle.gl_calculus.specs.Computation.Query.{EachAsked, no_ask, look, ask}
use Rattle.laws_calculus.proofs.Query.Asked.{demanded_has}
use Rattle.gl_calculus.specs.Evaluation.Key.{Key, Cell, Outcome, Settled, Abort}
use Rattle.gl_calculus.specs.Calculation.Calculation as C
use Rattle.gl_calculus.specs.Calculation.Calculation.{IsAnswer, IsUnspent, Reaches, first, later, SpendsWork, DemandedIn, settled, array, other, none}
use Rattle.gl_examples.proofs.Worked.Few.{two_at_most}
use Rattle.gl_examples.proofs.Worked.Examples.{spilled_product, spilled_product_first, spilled_product_second}

abbrev a1 : Key
a1 = Cell Top (addr 1 1)

abbrev b1 : Key
b1 = Cell Top (addr 2 1)

abbrev OneOfBoth : Key → Type 0
OneOfBoth k = (k ≡ a1) ⊎ (k ≡ b1)

abbrev asks_one_of_both : Oracle → Key → Type 0
asks_one_of_both w j = EachAsked OneOfBoth (program (world Version.One spilled_product w) j)

-- A1 asks nothing; B1 asks nothing without an entry for A1, and with a permitted one A1 alone
b1_in_round0 : asks_one_of_both [] b1
unfolding program evaluation cell_value apply
b1_in_round0 = look (look no_ask)

b1_in_round1 : asks_one_of_both spilled_product_first b1
unfolding program evaluation cell_value apply
b1_in_round1 = look (look (ask (inl refl) (elim [ Outcome.Value v ↦ no_ask | Settled o ↦ no_ask | Abort b ↦ no_ask ])))

b1_in_round2 : asks_one_of_both spilled_product_second b1
unfolding program evaluation cell_value apply
b1_in_round2 = look (look (ask (inl refl) (elim [ Outcome.Value v ↦ no_ask | Settled o ↦ no_ask | Abort b ↦ no_ask ])))

-- the demanded keys are the two cells
module _ (w : Oracle) (b1_asks : asks_one_of_both w b1) where
  asks : (j : Key) → OneOfBoth j → asks_one_of_both w j
  unfolding program evaluation cell_value apply
  asks j (inl e) = subst (λ i. asks_one_of_both w i) (sym e) (look no_ask)
  asks j (inr e) = subst (λ i. asks_one_of_both w i) (sym e) b1_asks

  seeds_are : (k : Key) → Member k (a1 ∷ b1 ∷ []) → OneOfBoth k
  seeds_are k (inl e) = inl e
  seeds_are k (inr (inl e)) = inr e
  seeds_are k (inr (inr e)) = absurd e

  demanded : {k : Key} → DemandedIn (world Version.One spilled_product w) k → OneOfBoth k
  demanded d = demanded_has (program (world Version.One spilled_product w)) OneOfBoth _ seeds_are asks d

  within_work : SpendsWork (world Version.One spilled_product w) → ⊥
  within_work m = omega (arith, m.1, two_at_most a1 b1 m.0 m.2 (λ x c. demanded (m.3 x c)))

unspent0 : IsUnspent (world Version.One spilled_product [])
unfolding program evaluation cell_value apply
unspent0 = record { work = within_work [] b1_in_round0; no_abort = (inr (_, (1, refl), refl), (inr (_, (1, refl), refl), tt)) }

unspent1 : IsUnspent (world Version.One spilled_product spilled_product_first)
unfolding program evaluation cell_value apply
unspent1 = record { work = within_work spilled_product_first b1_in_round1; no_abort = (inr (_, (1, refl), refl), (inr (_, (2, refl), refl), tt)) }

unspent2 : IsUnspent (world Version.One spilled_product spilled_product_second)
unfolding program evaluation cell_value apply
unspent2 = record { work = within_work spilled_product_second b1_in_round2; no_abort = (inr (_, (1, refl), refl), (inr (_, (2, refl), refl), tt)) }

reaches1 : Reaches Version.One spilled_product 1 spilled_product_first
unfolding program evaluation cell_value apply
reaches1 = later first (record { unspent = unspent0; is_next = (_, array _ (1, refl) (other (inr (_, (1, refl), refl)) none), refl); moves = λ e. cc; not_last = λ e. omega arith })

reaches2 : Reaches Version.One spilled_product 2 spilled_product_second
unfolding program evaluation cell_value apply
reaches2 = later reaches1 (record { unspent = unspent1; is_next = (_, array _ (1, refl) (array _ (2, refl) none), refl); moves = λ e. cc; not_last = λ e. omega arith })

answer : IsAnswer Version.One spilled_product (C.Answer.Settled spilled_product_second 3)
unfolding program evaluation cell_value apply
answer = record { round = 2; oracle = spilled_product_second; reached = reaches2; ends = settled unspent2 (_, array _ (1, refl) (array _ (2, refl) none), refl) }
