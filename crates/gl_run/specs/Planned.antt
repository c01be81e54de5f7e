-- What the writes of a call do, where it is known beforehand which of them fail.
use Rattle.std.specs.Prelude.{◌≡◌, ◌⊎◌, ℕ, Bool, Result, Err, MatchResult, Option, Some, IfSome}
use Rattle.gl_protocol.specs.Run.Plans.{WritePlan, must_fail, behind_write, EndsAtFault, EndsByPlan}
use Rattle.gl_run.specs.declared.session.Stop.{Stop}
use Rattle.gl_run.specs.declared.session.Stop.TheVariants.{WriteFault}

-- no call failed: the first that fails from then on is the first of all
abbrev pub Unfailed : {P : Type 0} → (P → Bool) → (P → ℕ → P) → Option P → Option P → Type 0
Unfailed {P} fails next old now = IfSome old (λ p. (q : P) × (now ≡ Some q) ×
    ((u : P) → EndsAtFault fails next q u → EndsAtFault fails next p u))

-- no write failed
abbrev pub NoneFailed : Option WritePlan → Option WritePlan → Type 0
NoneFailed old now = Unfailed must_fail behind_write old now

-- one failed, and was the last
abbrev pub LastFailed : Option WritePlan → Option WritePlan → Type 0
LastFailed old now = EndsByPlan must_fail behind_write old now

-- what is answered is what was given where no write failed, else that one did, which was the last
abbrev pub SendsByPlan : {X : Type 0} → Option WritePlan → Option WritePlan → Result X Stop → Result X Stop → Type 0
SendsByPlan old now given r = (r ≡ given) × NoneFailed old now ⊎ (r ≡ Err WriteFault) × LastFailed old now

-- no write failed where the call goes on, and the last one did where it stops for that
abbrev pub GoesByPlan : {X : Type 0} → Option WritePlan → Option WritePlan → Result X Stop → Type 0
GoesByPlan old now r = MatchResult r (λ _. NoneFailed old now) (λ stop. stop ≡ WriteFault → LastFailed old now)
