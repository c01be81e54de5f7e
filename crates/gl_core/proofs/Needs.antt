-- A key that needs another.
use Rattle.std.proofs.Common.{◌≡◌, ℕ, List, set, slice_get, Some, Result, Ok, Err, OnOk, IfOk, sym, subst}
use Rattle.gl_core.specs.Table.{IsNeed, for_known}
use Rattle.gl_core.specs.declared.answers.Picked.{Picked}
use Rattle.gl_core.specs.declared.answers.Picked.TheVariants as Answer
use Rattle.gl_core.specs.declared.status.Status.{Status}
use Rattle.gl_core.specs.declared.status.Status.TheVariants.{Waiting}

pub needs_known : {E : Type 0} (known : List ℕ) (ss : List Status) (p on j : ℕ) → slice_get known j ≡ Some on → (known' : List ℕ) (ss' : List Status) (r : Result Picked E) →
    known' ≡ known → IfOk r (λ picked. picked ≡ Answer.Waits) → OnOk r (ss' ≡ set ss p (Waiting j)) → IfOk r (λ picked. IsNeed known ss p on picked known' ss')
needs_known known ss p on j d known' ss' (Ok a) k w s =
    subst (λ x. IsNeed known ss p on x known' ss') (sym w) (subst (λ (x : List ℕ). IsNeed known ss p on Answer.Waits x ss') (sym k) (subst (IsNeed known ss p on Answer.Waits known) (sym s) (for_known j d)))
needs_known known ss p on j d known' ss' (Err e) k w s = tt
