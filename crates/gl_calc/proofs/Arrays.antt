-- The arrays of a round, found formula by formula.
use Rattle.std.proofs.Common.{◌≡◌, List, [], ◌∷◌, ◌++◌, map, inl, inr, Option, Some, None, Ok, Err, refl, sym, ap, subst, ◌∙◌, append_assoc}
use Rattle.std.proofs.lemmas.List.{append-nil}
use Rattle.std.specs.List.{AllByRecursion}
use Rattle.gl_calculus.specs.Computation.Lists.{Member}
use Rattle.gl_machine.specs.Machine.{Status, Idle, Waiting, Resolved, at}
use Rattle.gl_calculus.specs.Grid.Grid.{Addr, Size, AreInOrder}
use Rattle.gl_calculus.specs.Values.Value.{One, Array, Top}
use Rattle.gl_calculus.specs.Evaluation.Oracle.{Sizes}
use Rattle.gl_calculus.specs.Evaluation.Key.{Key, Cell, same_key, Budget, Outcome, Settled, Abort}
use Rattle.gl_calculus.specs.Calculation.Calculation.{DemandedIn, is_abort, TopFails, TopHas, Arrays, none, array, other, FirstAbort, here, behind}
use Rattle.gl_calculus.specs.Evaluation.World.{World}
use Rattle.gl_demand.proofs.Ordered.{order_without}
use Rattle.gl_core.specs.State.{State}
use Rattle.gl_calc.specs.Shown.{IsRound}
use Rattle.gl_calc.specs.Visits.{sizes_by, budget_by, Visits, Collects}
use Rattle.gl_calc.specs.declared.ending.RoundFault.{RoundFault}
use Rattle.gl_calc.specs.declared.ending.RoundFault.TheVariants as fault

module _ (W : World) where
  -- what was found so far goes on with what is found among the formulas that are left, all of which are demanded
  pub record Goes (places : List Addr) (sizes : Sizes) (rest : List Addr) : Type 0 where
    pub left : (a : Addr) → Member a rest → DemandedIn W (Cell Top a)
    pub arrays : (zs : Sizes) → Arrays W rest zs → Arrays W places (sizes ++ zs)
    pub unspent : AllByRecursion (TopFails W is_abort) rest → AllByRecursion (TopFails W is_abort) places
    pub spent : (a : Addr) (b : Budget) → FirstAbort W rest a b → FirstAbort W places a b

  pub begins : (places : List Addr) → ((a : Addr) → Member a places → DemandedIn W (Cell Top a)) → Goes places [] places
  begins places h = record { left = h; arrays = λ zs r. r; unspent = λ h. h; spent = λ a b h. h }

  pub goes_to_end : (places : List Addr) (sizes : Sizes) → Goes places sizes [] → Collects W places (Ok sizes)
  goes_to_end places sizes g = (subst (λ ys. Arrays W places ys) (append-nil sizes) (g.arrays [] none), g.unspent tt)

module _ (W : World) (st : State) (round : IsRound W st) where
  -- ---- a formula that didn't end as spent

  abbrev Found : Addr → Option (Status Key Outcome) → Type 0
  Found a s = TopFails W is_abort a × ((rest : List Addr) (zs : Sizes) → Arrays W rest zs → Arrays W (a ∷ rest) (sizes_by a s ++ zs))

  found_outcome : (a : Addr) (o : Outcome) → TopHas W a o → budget_by (Some (Resolved o)) ≡ None → Found a (Some (Resolved o))
  found_outcome a (Outcome.Value (Array z xs)) h e = (inr (Outcome.Value (Array z xs), h, refl), λ rest zs r. array xs h r)
  found_outcome a (Outcome.Value (One x)) h e = (inr (Outcome.Value (One x), h, refl), λ rest zs r. other (inr (Outcome.Value (One x), h, refl)) r)
  found_outcome a (Settled v) h e = (inr (Settled v, h, refl), λ rest zs r. other (inr (Settled v, h, refl)) r)
  found_outcome a (Abort b) h e = absurd (cc e)

  found_by : (a : Addr) (s : Option (Status Key Outcome)) → DemandedIn W (Cell Top a) → at same_key st (Cell Top a) ≡ s → budget_by s ≡ None → Found a s
  found_by a None d q e = (let (s, k) = round.demanded_known (Cell Top a) d in let both : None ≡ Some s = sym q ∙ k in absurd (cc both))
  found_by a (Some Idle) d q e = absurd (round.none_idle (Cell Top a) q)
  found_by a (Some (Waiting j)) d q e = (let l = round.waiting_loops (Cell Top a) j q in (inl l, λ rest zs r. other (inl l) r))
  found_by a (Some (Resolved o)) d q e = found_outcome a o (round.resolved_has (Cell Top a) o q) e

  pub goes_on : (places : List Addr) (sizes more : Sizes) (a : Addr) (rest : List Addr) (u : Unit {0}) → Goes W places sizes (a ∷ rest) → Visits a (at same_key st (Cell Top a)) sizes (Ok u) more → Goes W places more rest
  goes_on places sizes more a rest u g v =
      let f = found_by a (at same_key st (Cell Top a)) (g.left a (inl refl)) refl v.0 in
      let s = sizes_by a (at same_key st (Cell Top a)) in
      record {
        left = λ b m. g.left b (inr m);
        arrays = λ zs r. subst (λ ys. Arrays W places ys) (sym (append_assoc sizes s zs) ∙ ap (λ ys. ys ++ zs) (sym v.1)) (g.arrays (s ++ zs) (f.1 rest zs r));
        unspent = λ h. g.unspent (f.0, h);
        spent = λ c b h. g.spent c b (behind f.0 h);
      }

  -- ---- the first that did

  spent_by : (a : Addr) (s : Option (Status Key Outcome)) (b : Budget) → at same_key st (Cell Top a) ≡ s → budget_by s ≡ Some b → TopHas W a (Abort b)
  spent_by a None b q e = absurd (cc e)
  spent_by a (Some Idle) b q e = absurd (cc e)
  spent_by a (Some (Waiting j)) b q e = absurd (cc e)
  spent_by a (Some (Resolved (Outcome.Value (One x)))) b q e = absurd (cc e)
  spent_by a (Some (Resolved (Outcome.Value (Array z xs)))) b q e = absurd (cc e)
  spent_by a (Some (Resolved (Settled v))) b q e = absurd (cc e)
  spent_by a (Some (Resolved (Abort c))) b q e = (let s : c ≡ b = cc e in subst (λ u. TopHas W a (Abort u)) s (round.resolved_has (Cell Top a) (Abort c) q))

  pub stops : (places : List Addr) (sizes more : Sizes) (a : Addr) (rest : List Addr) (e : RoundFault) → Goes W places sizes (a ∷ rest) → Visits a (at same_key st (Cell Top a)) sizes (Err e) more → Collects W places (Err e)
  stops places sizes more a rest fault.Work g v = absurd v
  stops places sizes more a rest (fault.Depth c) g (p, q) = g.spent c Budget.Depth (subst (λ u. FirstAbort W (a ∷ rest) u Budget.Depth) (sym p) (here (spent_by a (at same_key st (Cell Top a)) Budget.Depth refl q)))
  stops places sizes more a rest (fault.CopyRounds c) g (p, q) = g.spent c Budget.CopyRounds (subst (λ u. FirstAbort W (a ∷ rest) u Budget.CopyRounds) (sym p) (here (spent_by a (at same_key st (Cell Top a)) Budget.CopyRounds refl q)))
  stops places sizes more a rest fault.NoMemory g v = tt

-- ---- the addresses of the arrays stay in order before those that are left

roots_more : (zs : Sizes) (a : Addr) (z : Size) (rest : List Addr) → map (λ x. x.0) (zs ++ (a, z) ∷ []) ++ rest ≡ map (λ x. x.0) zs ++ a ∷ rest
roots_more [] a z rest = refl
roots_more (y ∷ ys) a z rest = ap (λ l. y.0 ∷ l) (roots_more ys a z rest)

pub still_in_order : (zs more : Sizes) (a : Addr) (s : Option (Status Key Outcome)) (rest : List Addr) → more ≡ zs ++ sizes_by a s → AreInOrder (map (λ x. x.0) zs ++ a ∷ rest) → AreInOrder (map (λ x. x.0) more ++ rest)
still_in_order zs more a (Some (Resolved (Outcome.Value (Array z xs)))) rest e o = subst (λ l. AreInOrder (map (λ x. x.0) l ++ rest)) (sym e) (subst AreInOrder (sym (roots_more zs a z rest)) o)
still_in_order zs more a (Some (Resolved (Outcome.Value (One x)))) rest e o = subst (λ l. AreInOrder (map (λ x. x.0) l ++ rest)) (sym (e ∙ append-nil zs)) (order_without a (map (λ x. x.0) zs) rest o)
still_in_order zs more a (Some (Resolved (Settled v))) rest e o = subst (λ l. AreInOrder (map (λ x. x.0) l ++ rest)) (sym (e ∙ append-nil zs)) (order_without a (map (λ x. x.0) zs) rest o)
still_in_order zs more a (Some (Resolved (Abort b))) rest e o = subst (λ l. AreInOrder (map (λ x. x.0) l ++ rest)) (sym (e ∙ append-nil zs)) (order_without a (map (λ x. x.0) zs) rest o)
still_in_order zs more a (Some Idle) rest e o = subst (λ l. AreInOrder (map (λ x. x.0) l ++ rest)) (sym (e ∙ append-nil zs)) (order_without a (map (λ x. x.0) zs) rest o)
still_in_order zs more a (Some (Waiting j)) rest e o = subst (λ l. AreInOrder (map (λ x. x.0) l ++ rest)) (sym (e ∙ append-nil zs)) (order_without a (map (λ x. x.0) zs) rest o)
still_in_order zs more a None rest e o = subst (λ l. AreInOrder (map (λ x. x.0) l ++ rest)) (sym (e ∙ append-nil zs)) (order_without a (map (λ x. x.0) zs) rest o)
