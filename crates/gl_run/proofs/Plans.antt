-- Calls of which it is known beforehand whether they fail.
use Rattle.std.proofs.Common.{ℕ, inl, inr, Bool, Option, None, Some, Result, Ok, Err, MatchResult, refl, sym, subst}
use Rattle.gl_protocol.specs.Run.Plans.{Plan, is_listed, behind, WritePlan, must_fail, behind_write, EndsAtFault, EndsByPlan}
use Rattle.gl_port.specs.Plan.{ReadsBy, WritesBy}
use Rattle.gl_run.specs.Planned.{Unfailed, NoneFailed, LastFailed, SendsByPlan, GoesByPlan}
use Rattle.gl_run.specs.declared.session.Stop.{Stop}
use Rattle.gl_run.specs.declared.session.Stop.TheVariants.{NoMemory}

module _ {P : Type 0} (fails : P → Bool) (next : P → ℕ → P) where
  pub unfailed_none : (o : Option P) → Unfailed fails next o o
  unfailed_none None = tt
  unfailed_none (Some p) = (p, refl, λ u h. h)

  pub unfailed_both : (o m n : Option P) → Unfailed fails next o m → Unfailed fails next m n → Unfailed fails next o n
  unfailed_both None m n h k = tt
  unfailed_both (Some p) m n h k =
      let s : Unfailed fails next (Some h.0) n = subst (λ z. Unfailed fails next z n) h.1 k in
      (s.0, s.1, λ u e. h.2 u (s.2 u e))

  pub ends_both : (o m n : Option P) → Unfailed fails next o m → EndsByPlan fails next m n → EndsByPlan fails next o n
  ends_both None m n h k = tt
  ends_both (Some p) m n h k =
      let s : EndsByPlan fails next (Some h.0) n = subst (λ z. EndsByPlan fails next z n) h.1 k in
      (s.0, s.1, h.2 s.0 s.2)

abbrev behind_read : Plan → ℕ → Plan
behind_read p n = behind p

pub read_goes : (E : Type 0) (m n : Option Plan) (k : ℕ) → ReadsBy {E = E} m n (Ok k) → Unfailed is_listed behind_read m n
read_goes E None n k r = tt
read_goes E (Some p) n k r = (behind p, r.0, λ u e. EndsAtFault.goes_on k r.1.0 e)

pub read_ends : (E : Type 0) (m n : Option Plan) (x : E) → ReadsBy {E = E} m n (Err x) → EndsByPlan is_listed behind_read m n
read_ends E None n x r = tt
read_ends E (Some p) n x r = (behind p, r.0, EndsAtFault.fault r.1)

pub write_goes : (E : Type 0) (m n : Option WritePlan) (k : ℕ) → WritesBy {E = E} m n (Ok k) → NoneFailed m n
write_goes E None n k r = tt
write_goes E (Some p) n k r = (behind_write p k, r.3, λ u e. EndsAtFault.goes_on k r.0 e)

pub write_ends : (E : Type 0) (m n : Option WritePlan) (x : E) → WritesBy {E = E} m n (Err x) → LastFailed m n
write_ends E None n x r = tt
write_ends E (Some p) n x r = (behind_write p 0, r.1, EndsAtFault.fault r.0)

-- what was collected is written at the end of a call
pub goes_ok : {X : Type 0} (o m n : Option WritePlan) (x : X) (r : Result X Stop) → NoneFailed o m → SendsByPlan m n (Ok x) r → GoesByPlan o n r
goes_ok o m n x r h (inl s) = subst (GoesByPlan o n) (sym s.0) (unfailed_both must_fail behind_write o m n h s.1)
goes_ok o m n x r h (inr s) = subst (GoesByPlan o n) (sym s.0) (λ _. ends_both must_fail behind_write o m n h s.1)

pub goes_full : {X : Type 0} (o m n : Option WritePlan) (r : Result X Stop) → NoneFailed o m → SendsByPlan m n (Err NoMemory) r → GoesByPlan o n r
goes_full o m n r h (inl s) = subst (GoesByPlan o n) (sym s.0) (λ e. absurd (cc e))
goes_full o m n r h (inr s) = subst (GoesByPlan o n) (sym s.0) (λ _. ends_both must_fail behind_write o m n h s.1)

-- the same with nothing given
pub sent_plan : {X : Type 0} {x : X} (m n : Option WritePlan) (r : Result X Stop) → SendsByPlan m n (Ok x) r → MatchResult r (λ _. NoneFailed m n) (λ _. LastFailed m n)
sent_plan m n r (inl s) = subst (λ z. MatchResult z (λ _. NoneFailed m n) (λ _. LastFailed m n)) (sym s.0) s.1
sent_plan m n r (inr s) = subst (λ z. MatchResult z (λ _. NoneFailed m n) (λ _. LastFailed m n)) (sym s.0) s.1
