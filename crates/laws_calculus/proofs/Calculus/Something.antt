-- Under an oracle to which the calculation settles every address shows something.
use Rattle.std.proofs.Common.{◌≡◌, ◌⊎◌, inl, inr, ℕ, ◌+◌, ◌-◌, List, [], ◌∷◌, Bool, true, false, if◌then◌else◌, Option, Some, None, Result, Ok, IsFalse, refl, sym, subst, ap, add_comm}
use Rattle.std.specs.List.{AllByRecursion}
use Rattle.gl_calculus.specs.Computation.Lists.{Member}
use Rattle.gl_calculus.specs.Computation.Query.{Query, Return, Look, Ask, next, run, val}
use Rattle.gl_calculus.specs.Computation.Evaluation.{Evaluation, Done, LookAt, Demand, bind, given}
use Rattle.laws_calculus.proofs.Query.Levels.{val-add}
use Rattle.gl_calculus.specs.Grid.Grid.{Addr, Size, single}
use Rattle.gl_calculus.specs.Values.Value.{Permit, Entry, Oracle, Scalar, Blank, Scalars, Value, One, Array, Top}
use Rattle.gl_calculus.specs.Formulas.Formula.{Version, Formula, Content, Const, Form, Cells, IsSheet, content, formula_addresses}
use Rattle.gl_calculus.specs.Evaluation.Oracle.{Cover, cover, spills_over}
use Rattle.gl_calculus.specs.Evaluation.Facts.{Fact, fact, facts, fact_at}
use Rattle.gl_calculus.specs.Evaluation.Key.{Cell, Budget, Outcome, Settled, Abort, Eval, on_result, give, ◌>>=◌}
use Rattle.gl_calculus.specs.Evaluation.Reference.{own, value_of, held_top, covered, shown, shown_by, spilled, deref}
use Rattle.gl_calculus.specs.Evaluation.World.{World, world}
use Rattle.gl_calculus.specs.Evaluation.Evaluation.{program}
use Rattle.gl_calculus.specs.Calculation.Calculation as C
use Rattle.gl_calculus.specs.Calculation.Consistency.{Owns}
use Rattle.gl_calculus.specs.Calculation.Calculation.{is_abort, TopLoops, TopFails, IsNext, IsUnspent, Ends, settled, IsAnswer, Shown, IsShown, cycle, value}
use Rattle.laws_calculus.proofs.Calculus.Proper.{fact_at_single}
use Rattle.laws_calculus.proofs.Calculus.Settles.{fixed_consistent, formula_listed}

module _ {K O A : Type 0} (program : K → Query K O A O) where
  -- what a query gives it gives at more levels
  grow : {R : Type 0} (n d : ℕ) (q : Query K O A R) (r : R) → run (val program n) q ≡ Some r → run (val program (n + d)) q ≡ Some r
  grow n d (Return x) r e = e
  grow n d (Look a q) r e = grow n d q r e
  grow n d (Ask k c) r e =
      (elim (val program n k) as (λ v. val program n k ≡ v → next None v (λ o. run (val program n) (c o)) ≡ Some r → next None (val program (n + d) k) (λ o. run (val program (n + d)) (c o)) ≡ Some r) [
        | None ↦ λ u z. absurd (cc z)
        | Some o ↦ λ u z. rw (val-add program n d k o u) (grow n d (c o) r z)
      ]) refl e

-- one evaluation, and then another on its result
run_bind : {K O A F R S : Type 0} (known : K → Option O) (at_place : A → F) (p : Evaluation K O A F R) (g : R → Evaluation K O A F S) (r : R) → run known (given at_place p) ≡ Some r → run known (given at_place (bind p g)) ≡ run known (given at_place (g r))
run_bind known at_place (Done x) g r e = let h : x ≡ r = cc e in ap (λ u. run known (given at_place (g u))) h
run_bind known at_place (LookAt a c) g r e = run_bind known at_place (c (at_place a)) g r e
run_bind known at_place (Demand k c) g r e =
    (elim (known k) as (λ v. next None v (λ o. run known (given at_place (c o))) ≡ Some r → next None v (λ o. run known (given at_place (bind (c o) g))) ≡ run known (given at_place (g r))) [
      | None ↦ λ z. absurd (cc z)
      | Some o ↦ λ z. run_bind known at_place (c o) g r z
    ]) e

abbrev entry : Addr → Size → Permit → Entry
entry a s p = record { root = a; size = s; permit = p }

-- a covering root has an entry
covering : (w : Oracle) (a : Addr) (c : Cover) → cover w a ≡ Some c → (z : Size) × (p : Permit) × Member (entry c.root z p) w
covering [] a c e = absurd (cc e)
covering (x ∷ xs) a c e =
    (elim (spills_over a x) as (λ b. (if b then Some (record { root = x.root; rows = a.row - x.root.row; cols = a.col - x.root.col }) else cover xs a) ≡ Some c → (z : Size) × (p : Permit) × Member (entry c.root z p) (x ∷ xs)) [
      | true ↦ λ h. let r : x.root ≡ c.root = cc h in (x.size, x.permit, inl (ap (λ u. entry u x.size x.permit) (sym r)))
      | false ↦ λ h. let (z, p, m) = covering xs a c h in (z, p, inr m)
    ]) e

module _ (W : World) (sheet : IsSheet W.sheet) (unspent : IsUnspent W) (fixed : IsNext W W.oracle) where
  abbrev reads : ℕ → Eval Scalar → Option (Result Scalar Budget)
  reads n p = run (val (program W) n) (given (facts W.sheet W.oracle) p)

  abbrev Reads : Eval Scalar → Type 0
  Reads p = (n : ℕ) × (y : Scalar) × (reads n p ≡ Some (Ok y))

  by_root : (c : Cover) (x : Fact) (n : ℕ) (v : Option Value) → run (val (program W) n) (given (facts W.sheet W.oracle) (own Top x)) ≡ Some (Ok v) → reads n (own Top x >>= λ u. give (spilled u c.rows c.cols)) ≡ Some (Ok (spilled v c.rows c.cols))
  by_root c x n v h = run_bind (val (program W) n) (facts W.sheet W.oracle) (own Top x) (on_result (λ (u : Option Value). give {R = Scalar} (spilled u c.rows c.cols))) (Ok v) h

  -- what a root shows that may cover an address
  covered_reads : (a : Addr) (o : Option Cover) → cover W.oracle a ≡ o → Reads (covered Top o)
  covered_reads a None e = (0, Blank, refl)
  covered_reads a (Some c) e =
      let (z, p, m) = covering W.oracle a c e in
      let o : (xs : Scalars) × Owns W c.root (Array z xs) = ((fixed_consistent W sheet fixed).entries c.root z).0 (p, m) in
      let v : Option Value = Some (Array z o.0) in
      let x : Fact = fact_at (facts W.sheet W.oracle (single c.root)) c.root in
      let h : run (val (program W) o.1.0) (given (facts W.sheet W.oracle) (own Top x)) ≡ Some (Ok v) = subst (λ u. run (val (program W) o.1.0) (given (facts W.sheet W.oracle) (own Top u)) ≡ Some (Ok v)) (sym (fact_at_single W.sheet W.oracle c.root)) o.1.1 in
      (o.1.0, spilled v c.rows c.cols, by_root c x o.1.0 v h)

  abort_fails : (rest : List Addr) (a : Addr) → Member a rest → AllByRecursion (TopFails W is_abort) rest → TopFails W is_abort a
  abort_fails [] a m fs = absurd m
  abort_fails (b ∷ rest) a (inl e) (f, fs) = subst (TopFails W is_abort) (sym e) f
  abort_fails (b ∷ rest) a (inr m) (f, fs) = abort_fails rest a m fs

  -- what an address shows by its content, or that it loops
  abbrev Shows : Addr → Option Content → Type 0
  Shows a c = ((f : Formula) × (content W.sheet a ≡ Some (Form f)) × TopLoops W a) ⊎ Reads (value_of Top a (held_top c) >>= shown_by Top (fact W.sheet W.oracle a))

  by_outcome : (a : Addr) (f : Formula) (o : Outcome) (n : ℕ) → val (program W) n (Cell Top a) ≡ Some o → is_abort o ≡ false → Reads (value_of Top a (held_top (Some (Form f))) >>= shown_by Top (fact W.sheet W.oracle a))
  by_outcome a f (Outcome.Value v) n h t = (n, shown (fact W.sheet W.oracle a).status v, rw h refl)
  by_outcome a f (Settled o) n h t =
      let c : Reads (covered Top (cover W.oracle a)) = covered_reads a (cover W.oracle a) refl in
      let e : val (program W) (n + c.0) (Cell Top a) ≡ Some (Settled o) = val-add (program W) n c.0 (Cell Top a) (Settled o) h in
      let g : reads (n + c.0) (covered Top (cover W.oracle a)) ≡ Some (Ok c.1) = subst (λ m. reads m (covered Top (cover W.oracle a)) ≡ Some (Ok c.1)) (add_comm c.0 n) (grow (program W) c.0 n (given (facts W.sheet W.oracle) (covered Top (cover W.oracle a))) (Ok c.1) c.2) in
      (n + c.0, c.1, rw e g)
  by_outcome a f (Abort b) n h t = absurd (cc t)

  shows_by : (a : Addr) (c : Option Content) → content W.sheet a ≡ c → Shows a c
  shows_by a None e = inr (covered_reads a (cover W.oracle a) refl)
  shows_by a (Some (Const x)) e = inr (0, x, refl)
  shows_by a (Some (Form f)) e = by_end (abort_fails (formula_addresses W.sheet) a (formula_listed W.sheet a f e) unspent.no_abort)
    where
      by_end : TopFails W is_abort a → Shows a (Some (Form f))
      by_end (inl l) = inl (f, e, l)
      by_end (inr (o, (n, h), t)) = inr (by_outcome a f o n h (no_true (is_abort o) t))
        where
          no_true : (b : Bool) → IsFalse b → b ≡ false
          no_true b t = t

  pub shows_something : (a : Addr) → (x : Shown) × IsShown W a x
  shows_something a = by (shows_by a (content W.sheet a) refl)
    where
      by : Shows a (content W.sheet a) → (x : Shown) × IsShown W a x
      by (inl (f, e, l)) = (Shown.Cycle, cycle f e l)
      by (inr r) =
          let y : Scalar = r.1 in
          let h : reads r.0 (deref Top (fact_at (facts W.sheet W.oracle (single a)) a)) ≡ Some (Ok r.1) = subst (λ u. reads r.0 (deref Top u) ≡ Some (Ok r.1)) (sym (fact_at_single W.sheet W.oracle a)) r.2 in
          (Shown.Value y, value (r.0, run_bind (val (program W) r.0) (facts W.sheet W.oracle) (deref Top (fact_at (facts W.sheet W.oracle (single a)) a)) (on_result (λ (u : Scalar). give {R = Value} (One u))) (Ok r.1) h))

settled_unspent : (version : Version) (S : Cells) (i : ℕ) (v w : Oracle) (n : ℕ) → Ends version S i v (C.Answer.Settled w n) → IsUnspent (world version S w) × IsNext (world version S w) w
settled_unspent version S i v w n (settled u next) = (u, next)

pub settled_shows : (W : World) (n : ℕ) → IsSheet W.sheet → IsAnswer W.version W.sheet (C.Answer.Settled W.oracle n) → (a : Addr) → (x : Shown) × IsShown W a x
settled_shows W n o r a = let (u, next) = settled_unspent W.version W.sheet r.round r.oracle W.oracle n r.ends in shows_something W o u next a
