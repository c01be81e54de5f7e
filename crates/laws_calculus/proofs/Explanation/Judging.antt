-- What a check needs of keys and of what is shown.
use Rattle.std.proofs.Common.{◌≡◌, Bool, true, false, List, Option, Some, None, IsTrue, IsFalse, refl, sym, ap, ◌∙◌}
use Rattle.gl_calculus.specs.Computation.Lists.{has_member}
use Rattle.gl_calculus.specs.Grid.Grid.{Addr}
use Rattle.gl_calculus.specs.Values.Value.{Oracle}
use Rattle.gl_calculus.specs.Formulas.Formula.{Formula, Cells, content}
use Rattle.gl_calculus.specs.Evaluation.Key.{Key, Cell, Settle, same_key, Outcome}
use Rattle.gl_calculus.specs.Evaluation.Reference.{Held, Given, Computed, own_content, is_computed}
use Rattle.gl_calculus.specs.Evaluation.Sound.{IsProperKey}
use Rattle.gl_calculus.specs.Explanation.Walk.{Claim, noted}
use Rattle.gl_calculus.specs.Explanation.Certificate.{is_proper, says, shown_by_key, shown_by_note, key_at}
use Rattle.laws_calculus.proofs.Explanation.Explaining.{proper_test}

computed_is : (h : Option Held) → is_computed h ≡ true → (f : Formula) × (h ≡ Some (Computed f))
computed_is None e = absurd (cc e)
computed_is (Some (Given v)) e = absurd (cc e)
computed_is (Some (Computed f)) e = (f, refl)

pub test_proper : (S : Cells) (k : Key) → is_proper S k ≡ true → IsProperKey S k
test_proper S (Cell e a) h = computed_is (own_content (content S a) e a) h
test_proper S (Settle s) h = tt

-- a test that answers by what proper keys are
pub proper_is : (S : Cells) (k : Key) (b : Bool) → (IsTrue b → IsProperKey S k) → (IsFalse b → IsProperKey S k → ⊥) → b ≡ is_proper S k
proper_is S k b good bad = by b (is_proper S k) refl refl
  where
    by : (d c : Bool) → b ≡ d → is_proper S k ≡ c → b ≡ is_proper S k
    by true c p q = p ∙ sym (proper_test S k (good p))
    by false true p q = absurd (bad p (test_proper S k q))
    by false false p q = p ∙ sym q

-- what is said is told by which keys are among the loops
pub says_same : (S : Cells) (w : Oracle) (a : Addr) (notes : List (Claim Key Outcome)) (ls ms : List Key) → ((j : Key) → has_member same_key j ls ≡ has_member same_key j ms) → says S w a notes ls ≡ says S w a notes ms
says_same S w a notes ls ms h = by (key_at S w a)
  where
    by : (o : Option Key) → shown_by_key w a (content S a) notes ls o ≡ shown_by_key w a (content S a) notes ms o
    by None = refl
    by (Some k) = ap (shown_by_note w a (content S a) (noted same_key notes k)) (h k)
