-- One round more, and the ways to end.
use Rattle.std.proofs.Common.{◌≡◌, ◌≢◌, ◌↔◌, ℕ, suc, ◌+◌, Bool, [], Some, Err, ap, sym, ◌∙◌, subst, arith}
use Rattle.gl_calculus.specs.Grid.Grid.{Addr, Range}
use Rattle.gl_calculus.specs.Values.Value.{Oracle}
use Rattle.gl_calculus.specs.Evaluation.Oracle.{Sizes, grant, first_difference}
use Rattle.gl_rounds.specs.Rounds.{Calls, Reaches, first, later}
use Rattle.gl_rounds.specs.Answers.{Settles, RunsOut, Goes, Once, Answers}
use Rattle.gl_rounds.specs.declared.IterFault.{IterFault}
use Rattle.gl_rounds.specs.declared.IterFault.TheVariants.{Rounds, Round, NoMemory}

module _ {S C F : Type 0} (gives : Oracle → Sizes → Type 0) (fails : Oracle → F → Type 0) (calls : Calls S C F) (bound : Range) (held : Addr → Bool) (budget : ℕ) (s : S) (c : C) where
  -- at the start
  pub begins : (w : Oracle) → w ≡ [] → Reaches gives calls bound held budget s c 0 w s c
  begins w e = subst (λ v. Reaches gives calls bound held budget s c 0 v s c) (sym e) first

  module _ (i : ℕ) (w : Oracle) (t : S) (d : C) (reached : Reaches gives calls bound held budget s c i w t d) (given : Oracle → Sizes → Type 0) (failing : Oracle → F → Type 0)
      (kept : (v : Oracle) (zs : Sizes) → given v zs ↔ gives v zs) (same : (v : Oracle) (e : F) → failing v e ↔ fails v e) (t' : S) (d' : C) where
    pub goes_on : (next : Oracle) (n : ℕ) → Goes given failing calls bound held w t d next t' d' → (w ≡ next → ⊥) → n ≡ i + 1 → n ≢ budget → Reaches gives calls bound held budget s c n next t' d'
    goes_on next n g moves count more =
        let number : suc i ≡ n = omega arith in
        let step : Reaches gives calls bound held budget s c (suc i) (grant bound held g.sizes) t' d' =
        later reached ((kept w g.sizes).0 g.given) g.called (λ e. moves (sym e ∙ sym g.granted)) (λ e. more (sym number ∙ e)) in
        subst (λ v. Reaches gives calls bound held budget s c n v t' d') (sym g.granted) (subst (λ k. Reaches gives calls bound held budget s c k (grant bound held g.sizes) t' d') number step)

    pub settles : (next : Oracle) (n : ℕ) → Goes given failing calls bound held w t d next t' d' → w ≡ next → n ≡ i + 1 → Settles gives fails calls bound held budget s c w n t' d'
    settles next n g stays count = record {
      round = i;
      sizes = g.sizes;
      call = record { object = t; count = d; reached = reached; called = g.called };
      given = (kept w g.sizes).0 g.given;
      counted = omega arith;
      stays = sym g.granted ∙ sym stays;
    }

    pub runs_out : (next : Oracle) (n : ℕ) (a : Addr) → Goes given failing calls bound held w t d next t' d' → Some a ≡ first_difference w next → n ≡ i + 1 → n ≡ budget → RunsOut gives fails calls bound held budget s c a t' d'
    runs_out next n a g differs count spent = record {
      round = i;
      oracle = w;
      sizes = g.sizes;
      call = record { object = t; count = d; reached = reached; called = g.called };
      given = (kept w g.sizes).0 g.given;
      spent = let number : suc i ≡ n = omega arith in number ∙ spent;
      differs = ap (first_difference w) (sym g.granted) ∙ sym differs;
    }

    -- what ends a round ends them all
    pub breaks_off : (f : IterFault F) → Once given failing calls bound held w t d (Err f) t' d' → Answers gives fails calls bound held budget s c (Err f) t' d'
    breaks_off (Rounds a) h = absurd h
    breaks_off (Round e) h = record { round = i; oracle = w; call = record { object = t; count = d; reached = reached; called = h.called }; failed = (same w e).0 h.failed }
    breaks_off NoMemory h = record { round = i; oracle = w; sizes = h.sizes; call = record { object = t; count = d; reached = reached; called = h.called } }
