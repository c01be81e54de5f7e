-- The rounds of a sheet value, one after another.
use Rattle.std.proofs.Common.{◌≡◌, ◌≢◌, ◌⊎◌, inl, inr, ℕ, zero, suc, ◌-◌, ◌≤◌, ◌<◌, Bool, true, false, [], ◌∷◌, Some, None, Result, Ok, Err, refl, ap, sym, subst, ◌∙◌, arith}
use Rattle.gl_calculus.specs.Computation.Query.{Ready}
use Rattle.gl_calculus.specs.Grid.Grid.{Addr, Range}
use Rattle.gl_calculus.specs.Values.Value.{Oracle, SheetValue, region}
use Rattle.gl_calculus.specs.Values.Same.{same_oracle}
use Rattle.gl_calculus.specs.Evaluation.Oracle.{Sizes, grant, first_difference}
use Rattle.gl_calculus.specs.Evaluation.Key.{Eval, CopyRounds}
use Rattle.gl_calculus.specs.Evaluation.Evaluation.{rounds, settled_or, next_in}
use Rattle.gl_calculus.proofs.Tests.{oracle_equality, entry_same}
use Rattle.gl_calculus.proofs.Grants.{split}
use Rattle.gl_rounds.specs.Rounds.{Calls, Reaches, first, later}
use Rattle.gl_rounds.specs.Answers.{Settles, RunsOut, Breaks, Answers}
use Rattle.gl_rounds.specs.declared.Settled.{Settled}
use Rattle.gl_rounds.specs.declared.IterFault.{IterFault}
use Rattle.gl_rounds.specs.declared.IterFault.TheVariants as fault
use Rattle.gl_demand.specs.Walk.{Inputs, Trail, walk}
use Rattle.gl_demand.specs.Walks.{Walks, trail_tree}
use Rattle.gl_demand.specs.Blocks.{has_content_in}
use Rattle.gl_demand.specs.Settling.{region_facts, round_arrays, halt_of}
use Rattle.gl_demand.specs.declared.trail.Trail as Code
use Rattle.gl_demand.specs.declared.trail.Halt.{Halt}
use Rattle.gl_demand.proofs.Walking.{over, Same, same_part, same_on, walk-on, halts}
use Rattle.gl_demand.proofs.Walking as walking
use Rattle.gl_demand.proofs.Granting.{next_granted}

-- ---- one round

not_same_by : (p q : Oracle) → p ≢ q → (same_oracle p q ≡ true) ⊎ (same_oracle p q ≡ false) → same_oracle p q ≡ false
not_same_by p q n (inl e) = absurd (n (oracle_equality.0 p q e))
not_same_by p q n (inr e) = e

no_difference : (o : Oracle) → first_difference o o ≡ None
no_difference [] = refl
no_difference (x ∷ xs) = rw (entry_same x, no_difference xs) refl

differs : (o p : Oracle) (a : Addr) → first_difference o p ≡ Some a → p ≢ o
differs o p a h e = let q : None ≡ Some a = sym (no_difference o) ∙ subst (λ u. first_difference o u ≡ Some a) e h in absurd (cc q)

module _ (w : Inputs) (s : SheetValue) where
  -- the oracle after these arrays
  abbrev pub next : Sizes → Oracle
  next zs = grant (region s) (has_content_in w.cells s) zs

  abbrev pub rounds_from : ℕ → Oracle → Eval Oracle
  rounds_from n o = rounds s (region_facts w s) n o

  abbrev on : ℕ → Oracle → Sizes → Eval Oracle
  on n o zs = settled_or (rounds s (region_facts w s) n) o (next_in s (region_facts w s) zs) (same_oracle (next_in s (region_facts w s) zs) o)

  is_next : (zs : Sizes) → next_in s (region_facts w s) zs ≡ next zs
  is_next zs = next_granted w.cells w.oracle s zs

  goes : (n : ℕ) (o : Oracle) (zs : Sizes) (t u : Trail) → walk w (round_arrays w s o) t ≡ (Ready (Ok zs), u) → next zs ≢ o → Same w (rounds_from (suc n) o) t (rounds_from n (next zs)) u
  goes n o zs t u h k v m =
      let p = next_in s (region_facts w s) zs in
      let no : same_oracle p o ≡ false = not_same_by p o (λ e. k (sym (is_next zs) ∙ e)) (split (same_oracle p o)) in
      same_on w (on n o) (round_arrays w s o) t zs u h v m
      ∙ ap (λ b. walk (over w v) (settled_or (rounds s (region_facts w s) n) o p b) u) no
      ∙ ap (λ q. walk (over w v) (rounds_from n q) u) (is_next zs)

  stays : (n : ℕ) (o : Oracle) (zs : Sizes) (t u : Trail) → walk w (round_arrays w s o) t ≡ (Ready (Ok zs), u) → next zs ≡ o → walk w (rounds_from (suc n) o) t ≡ (Ready (Ok o), u)
  stays n o zs t u h k =
      let p = next_in s (region_facts w s) zs in
      let yes : same_oracle p o ≡ true = subst (λ q. same_oracle q o ≡ true) (sym (is_next zs ∙ k)) (oracle_equality.1 o) in
      walk-on w (on n o) (round_arrays w s o) t zs u h ∙ ap (λ b. walk w (settled_or (rounds s (region_facts w s) n) o p b) u) yes

-- ---- all rounds

module _ {S : Type 0} (gives : Oracle → Sizes → Type 0) (fails : Oracle → Halt → Type 0) (calls : Calls S Code.Trail Halt) (w : Inputs) (s : SheetValue) (budget : ℕ) (x : S) (c : Code.Trail)
    (means : (d : Code.Trail) (o : Oracle) (r : Result Sizes Halt) (y : S) (e : Code.Trail) → calls x d o r y e → (y ≡ x) × Walks w (round_arrays w s o) (λ zs. zs) d r e) (some : 1 ≤ budget) where
  record Reached (i : ℕ) (o : Oracle) (y : S) (d : Code.Trail) : Type 0 where
    same : y ≡ x
    few : i < budget
    walked : Same w (rounds_from w s budget []) (trail_tree c) (rounds_from w s (budget - i) o) (trail_tree d)

  reached : (i : ℕ) (o : Oracle) (y : S) (d : Code.Trail) → Reaches gives calls (region s) (has_content_in w.cells s) budget x c i o y d → Reached i o y d
  reached _ _ _ _ first = let e : budget ≡ budget - 0 = omega arith in record { same = refl; few = omega (arith, some); walked = same_part w (rounds_from w s budget []) (rounds_from w s (budget - 0) []) (trail_tree c) (ap (λ n. rounds_from w s n []) e) }
  reached _ _ _ _ (later {i = i} {w = o} {zs = zs} {t = y} {t' = y'} {d = d} {d' = d'} r g k n b) =
      let p = reached i o y d r in
      let m = means d o (Ok zs) y' d' (subst (λ u. calls u d o (Ok zs) y' d') p.same k) in
      let e : budget - i ≡ suc (budget - suc i) = omega (arith, p.few) in
      record {
        same = m.0;
        few = omega (arith, p.few, b);
        walked = λ v q. p.walked v q ∙ ap (λ n. walk (over w v) (rounds_from w s n o) (trail_tree d)) e ∙ goes w s (budget - suc i) o zs (trail_tree d) (trail_tree d') m.1 n v q;
      }

  settles : (o : Oracle) (n : ℕ) (y : S) (d : Code.Trail) → Settles gives fails calls (region s) (has_content_in w.cells s) budget x c o n y d → walk w (rounds_from w s budget []) (trail_tree c) ≡ (Ready (Ok o), trail_tree d)
  settles o n y d h =
      let p = reached h.round o h.call.object h.call.count h.call.reached in
      let m = means h.call.count o (Ok h.sizes) y d (subst (λ u. calls u h.call.count o (Ok h.sizes) y d) p.same h.call.called) in
      let e : budget - h.round ≡ suc (budget - suc h.round) = omega (arith, p.few) in
      p.walked w.known (λ k o d. d) ∙ ap (λ n. walk w (rounds_from w s n o) (trail_tree h.call.count)) e ∙ stays w s (budget - suc h.round) o h.sizes (trail_tree h.call.count) (trail_tree d) m.1 h.stays

  runs_out : (a : Addr) (y : S) (d : Code.Trail) → RunsOut gives fails calls (region s) (has_content_in w.cells s) budget x c a y d → walk w (rounds_from w s budget []) (trail_tree c) ≡ (Ready (Err CopyRounds), trail_tree d)
  runs_out a y d h =
      let p = reached h.round h.oracle h.call.object h.call.count h.call.reached in
      let m = means h.call.count h.oracle (Ok h.sizes) y d (subst (λ u. calls u h.call.count h.oracle (Ok h.sizes) y d) p.same h.call.called) in
      let e : budget - h.round ≡ suc zero = omega (arith, h.spent) in
      p.walked w.known (λ k o d. d) ∙ ap (λ n. walk w (rounds_from w s n h.oracle) (trail_tree h.call.count)) e ∙ goes w s zero h.oracle h.sizes (trail_tree h.call.count) (trail_tree d) m.1 (differs h.oracle (next w s h.sizes) a h.differs) w.known (λ k o d. d)

  breaks : (f : Halt) (y : S) (d : Code.Trail) → Breaks gives fails calls (region s) (has_content_in w.cells s) budget x c f y d → Walks {T = Oracle} w (rounds_from w s budget []) (λ o. o) c (Err f) d
  breaks f y d h =
      let p = reached h.round h.oracle h.call.object h.call.count h.call.reached in
      let m = means h.call.count h.oracle (Err f) y d (subst (λ u. calls u h.call.count h.oracle (Err f) y d) p.same h.call.called) in
      let e : budget - h.round ≡ suc (budget - suc h.round) = omega (arith, p.few) in
      walking.later w (rounds_from w s budget []) (rounds_from w s (suc (budget - suc h.round)) h.oracle) (λ (o : Oracle). o) c h.call.count d (Err f)
      (λ v q. p.walked v q ∙ ap (λ n. walk (over w v) (rounds_from w s n h.oracle) (trail_tree h.call.count)) e)
      (halts w (on w s (budget - suc h.round) h.oracle) (round_arrays w s h.oracle) (λ (zs : Sizes). zs) (λ (o : Oracle). o) h.call.count d f m.1)

  all_halt_at : (f : IterFault Halt) (y : S) (d : Code.Trail) → Answers gives fails calls (region s) (has_content_in w.cells s) budget x c (Err f) y d → Walks {T = Oracle} w (rounds_from w s budget []) (λ o. o) c (Err (halt_of f)) d
  all_halt_at (fault.Rounds a) y d h = runs_out a y d h
  all_halt_at (fault.Round e) y d h = breaks e y d h
  all_halt_at fault.NoMemory y d h = tt

  module _ (bound : Range) (edge : bound ≡ region s) (held : Addr → Bool) (blocks : held ≡ has_content_in w.cells s) where
    placed : (r : Result Settled (IterFault Halt)) (y : S) (d : Code.Trail) → Answers gives fails calls bound held budget x c r y d → Answers gives fails calls (region s) (has_content_in w.cells s) budget x c r y d
    placed r y d h = subst (λ b. Answers gives fails calls b (has_content_in w.cells s) budget x c r y d) edge (subst (λ f. Answers gives fails calls bound f budget x c r y d) blocks h)

    -- what settled rounds are, and others
    pub all_settle : (r : Result Settled (IterFault Halt)) (v : Settled) (y : S) (d : Code.Trail) → r ≡ Ok v → Answers gives fails calls bound held budget x c r y d → walk w (rounds_from w s budget []) (trail_tree c) ≡ (Ready (Ok v.oracle), trail_tree d)
    all_settle r v y d e h = settles v.oracle v.rounds y d (subst (λ q. Answers gives fails calls (region s) (has_content_in w.cells s) budget x c q y d) e (placed r y d h))

    pub all_halt : (r : Result Settled (IterFault Halt)) (f : IterFault Halt) (y : S) (d : Code.Trail) → r ≡ Err f → Answers gives fails calls bound held budget x c r y d → Walks {T = Oracle} w (rounds_from w s budget []) (λ o. o) c (Err (halt_of f)) d
    all_halt r f y d e h = all_halt_at f y d (subst (λ q. Answers gives fails calls (region s) (has_content_in w.cells s) budget x c q y d) e (placed r y d h))
