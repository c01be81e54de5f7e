-- What a key needs, by places.
use Rattle.std.proofs.Common.{◌≡◌, ℕ, ◌<◌, ◌++◌, ◌∷◌, [], List, length, set, slice_get, Some, sym, subst}
use Rattle.gl_calculus.specs.Computation.Lists.{Member}
use Rattle.gl_calculus.specs.Grid.Limits.{max_demanded}
use Rattle.gl_core.specs.Table.{IsNeed, for_known, for_new}
use Rattle.gl_core.specs.declared.answers.Picked.{Picked}
use Rattle.gl_core.specs.declared.answers.Picked.TheVariants as Answer
use Rattle.gl_core.specs.declared.status.Status.{Status}
use Rattle.gl_core.specs.declared.status.Status.TheVariants.{Idle, Waiting}

pub known_need : (known : List ℕ) (ss : List Status) (p on j : ℕ) (picked : Picked) (known' : List ℕ) (ss' : List Status) → slice_get known j ≡ Some on → picked ≡ Answer.Waits → known' ≡ known → ss' ≡ set ss p (Waiting j) → IsNeed known ss p on picked known' ss'
known_need known ss p on j picked known' ss' e a b d =
    subst (λ (x : Picked). IsNeed known ss p on x known' ss') (sym a) (subst (λ (x : List ℕ). IsNeed known ss p on Answer.Waits x ss') (sym b) (subst (λ (x : List Status). IsNeed known ss p on Answer.Waits known x) (sym d) (for_known j e)))

pub new_need : (known : List ℕ) (ss : List Status) (p on : ℕ) (known' : List ℕ) (ss' : List Status) → (Member on known → ⊥) → length known < max_demanded → known' ≡ known ++ on ∷ [] → ss' ≡ set (ss ++ Idle ∷ []) p (Waiting (length known)) → IsNeed known ss p on Answer.Waits known' ss'
new_need known ss p on known' ss' non few b d =
    subst (λ (x : List ℕ). IsNeed known ss p on Answer.Waits x ss') (sym b) (subst (λ (x : List Status). IsNeed known ss p on Answer.Waits (known ++ on ∷ []) x) (sym d) (for_new non few))
