-- The rounds that iteration makes are those of the calculation.
use Rattle.std.proofs.Common.{slice_get, ◌≡◌, ℕ, suc, List, [], Some, None, Result, Err, refl, sym, subst, ◌∙◌}
use Rattle.gl_calculus.specs.Grid.Grid.{Addr, Range, grid}
use Rattle.gl_calculus.specs.Values.Value.{Oracle}
use Rattle.gl_calculus.specs.Evaluation.Oracle.{Sizes, grant}
use Rattle.gl_calculus.specs.Formulas.Formula as F
use Rattle.gl_calculus.specs.Formulas.Formula.{Cells}
use Rattle.gl_calculus.specs.Calculation.Calculation as C
use Rattle.gl_calculus.specs.Calculation.Calculation.{has_content, round_budget, IsUnspent, GoesOn, Ends, settled, rounds, work, abort, IsAnswer, Reaches}
use Rattle.gl_calculus.specs.Evaluation.Key.{Budget}
use Rattle.gl_calculus.specs.Calculation.Memory as M
use Rattle.gl_calculus.specs.Calculation.Memory.{base, IsTableOf, AreTables}
use Rattle.gl_calculus.specs.Steps.Costs.{Finishes, Breaks}
use Rattle.gl_ast.specs.View.{version_tree}
use Rattle.gl_ast.specs.declared.Version.{Version}
use Rattle.gl_cells.specs.Sheet.{Table, sheet}
use Rattle.gl_rounds.specs.Rounds as R
use Rattle.gl_rounds.specs.Answers as A
use Rattle.gl_rounds.specs.declared.IterFault.{IterFault}
use Rattle.gl_rounds.specs.declared.IterFault.TheVariants as iter
use Rattle.gl_calculus.specs.Steps.Rounds.{Comes, first, later, Costs}
use Rattle.gl_calculus.specs.Evaluation.World.{world}
use Rattle.gl_calc.specs.Progress.{Progress, next_base, before_of}
use Rattle.gl_calc.specs.Round.{Gives, Fails, Keeps, Calls}
use Rattle.gl_calc.specs.Answers.{spent_tree}
use Rattle.gl_calc.specs.Ending.{spent_by, IsSettledTable}
use Rattle.gl_calc.specs.declared.answers.SpentKind.{SpentKind}
use Rattle.gl_calc.specs.declared.answers.SpentKind.TheVariants as spent
use Rattle.gl_calc.specs.declared.ending.RoundFault.{RoundFault}
use Rattle.gl_calc.specs.declared.ending.RoundFault.TheVariants as fault
use Rattle.gl_calc.proofs.Following.{Follows, follows_first, follows_base, follows_next, follows_all, finished_by, finished_before}

-- the rounds that come are those that the calculation reaches
pub comes_reaches : (version : F.Version) (S : Cells) (tables : List M.Table) (touched : List Addr) (n i m : ℕ) (w : Oracle) (t : M.Table) → Comes version S tables touched n i w t m → Reaches version S i w
comes_reaches version S tables touched n _ _ _ _ first = C.Reaches.first
comes_reaches version S tables touched n _ _ _ _ (later {i = i} {m = m} {w = w} {before = b} c t h f g) = C.Reaches.later (comes_reaches version S tables touched n i m w b c) g

pub costs_answer : (version : F.Version) (S : Cells) (tables : List M.Table) (touched : List Addr) (r : C.Answer) (n m : ℕ) → Costs version S tables touched r n m → IsAnswer version S r
costs_answer version S tables touched r n m c = record { round = c.round; oracle = c.oracle; reached = comes_reaches version S tables touched n c.round c.before c.oracle c.table c.comes; ends = c.ends }

-- what a calculation leaves, with its steps
pub record Leaves (version : F.Version) (S : Cells) (tables : List M.Table) (touched : List Addr) (r : C.Answer) (p : Progress) (n m : ℕ) : Type 0 where
  pub costs : Costs version S tables touched r n m
  pub made : AreTables version S p.made

module _ (V : F.Version) (S : Cells) (tables : List M.Table) (touched : List Addr) (n : ℕ) where
  -- the rounds so far, with their tables
  record Stands (i : ℕ) (w : Oracle) (p : Progress) (m : ℕ) : Type 0 where
    pub before : M.Table
    pub comes : Comes V S tables touched n i w before m
    pub follows : Follows V S tables i before p

  module _ (i : ℕ) (w : Oracle) (p : Progress) (m : ℕ) (s : Stands i w p m) where
    reaches : Reaches V S i w
    reaches = comes_reaches V S tables touched n i m w s.before s.comes

    steps : (q : Progress) (k : ℕ) → Keeps V S touched p w q m k → Finishes (world V S w) (base (slice_get tables i) touched s.before) i m k
    steps q k h = subst (λ b. Finishes (world V S w) b i m k) (follows_base V S tables i s.before p touched s.follows) (h.steps i)

    next : (q : Progress) (k : ℕ) → (C.SpendsWork (world V S w) → ⊥) → (h : Keeps V S touched p w q m k) → Follows V S tables (suc i) h.table q
    next q k f h = follows_next V S tables i w s.before h.table p q s.follows (reaches, f) h.is_table h.earlier h.made h.beyond

    goes : (v : Oracle) (q : Progress) (k : ℕ) → GoesOn V S i w v → Keeps V S touched p w q m k → Stands (suc i) v q k
    goes v q k g h = record { before = h.table; comes = later s.comes h.table h.is_table (steps q k h) g; follows = next q k g.unspent.work h }

    ends_broken : (q : Progress) → C.SpendsWork (world V S w) → q.made ≡ p.made → AreTables V S q.made
    ends_broken q b e = subst (AreTables V S) (sym e) (follows_all V S tables i s.before p s.follows (λ j v d. finished_before V S tables i j w v reaches b d))

    settles : (q : Progress) (k : ℕ) → IsUnspent (world V S w) → C.IsNext (world V S w) w → Keeps V S touched p w q m k → Leaves V S tables touched (C.Settled w (suc i)) q n k × ((t : M.Table) × (before_of q ≡ Some t) × IsSettledTable V S (suc i) t)
    settles q k u x h =
        let e : Ends V S i w (C.Settled w (suc i)) = settled u x in
        let costs : Costs V S tables touched (C.Settled w (suc i)) n k = record { round = i; oracle = w; table = s.before; before = m; comes = s.comes; ends = e; last = steps q k h } in
        let o : w ≡ h.table.oracle = sym h.is_table.oracle in (
          record { costs = costs; made = follows_all V S tables (suc i) h.table q (next q k u.work h) (λ j v d. finished_by V S tables i j w v _ reaches e d) },
          (
            h.table,
            (next q k u.work h).last,
            record {
              table = subst (λ v. IsTableOf (world V S v) h.table) o h.is_table;
              unspent = subst (λ u. IsUnspent (world V S u)) o u;
              answer = subst (λ v. IsAnswer V S (C.Settled v (suc i))) o (costs_answer V S tables touched (C.Settled w (suc i)) n k costs);
            },
          ),
        )

    runs_out : (v : Oracle) (a : Addr) (q : Progress) (k : ℕ) → IsUnspent (world V S w) → (e : Ends V S i w (C.Spent (C.Rounds a))) → Keeps V S touched p w q m k → Leaves V S tables touched (C.Spent (C.Rounds a)) q n k
    runs_out v a q k u e h = record {
      costs = record { round = i; oracle = w; table = s.before; before = m; comes = s.comes; ends = e; last = steps q k h };
      made = follows_all V S tables (suc i) h.table q (next q k u.work h) (λ j x d. finished_by V S tables i j w x _ reaches e d);
    }

    breaks_work : (q : Progress) (k : ℕ) → C.SpendsWork (world V S w) → q.made ≡ p.made → Breaks (world V S w) (next_base p touched) m k → Leaves V S tables touched (C.Spent C.Work) q n k
    breaks_work q k b e h = record {
      costs = record { round = i; oracle = w; table = s.before; before = m; comes = s.comes; ends = work b; last = subst (λ x. Breaks (world V S w) x m k) (follows_base V S tables i s.before p touched s.follows) h };
      made = ends_broken q b e;
    }

    breaks_depth : (a : Addr) (q : Progress) (k : ℕ) → (C.SpendsWork (world V S w) → ⊥) → Ends V S i w (C.Spent (C.Depth a)) → Keeps V S touched p w q m k → Leaves V S tables touched (C.Spent (C.Depth a)) q n k
    breaks_depth a q k f e h = record {
      costs = record { round = i; oracle = w; table = s.before; before = m; comes = s.comes; ends = e; last = steps q k h };
      made = follows_all V S tables (suc i) h.table q (next q k f h) (λ j x d. finished_by V S tables i j w x _ reaches e d);
    }

    breaks_copies : (a : Addr) (q : Progress) (k : ℕ) → (C.SpendsWork (world V S w) → ⊥) → Ends V S i w (C.Spent (C.CopyRounds a)) → Keeps V S touched p w q m k → Leaves V S tables touched (C.Spent (C.CopyRounds a)) q n k
    breaks_copies a q k f e h = record {
      costs = record { round = i; oracle = w; table = s.before; before = m; comes = s.comes; ends = e; last = steps q k h };
      made = follows_all V S tables (suc i) h.table q (next q k f h) (λ j x d. finished_by V S tables i j w x _ reaches e d);
    }

module _ {T : Type 0} (version : T → Version) (table : T → Table) (marks : T → List Addr) (progress : T → Progress) (s : T) (n : ℕ) (budget : ℕ) (allowed : budget ≡ round_budget (sheet (table s))) (tables : List M.Table) (begun : progress s ≡ record { earlier = tables; made = []; beyond = None }) where
  abbrev pub V : F.Version
  V = version_tree (version s)

  abbrev pub S : Cells
  S = sheet (table s)

  abbrev pub CallsOf : T → ℕ → Oracle → Result Sizes RoundFault → T → ℕ → Type 0
  CallsOf t c w r u d = (version u ≡ version t) × (table u ≡ table t) × (marks u ≡ marks t) × Calls (version_tree (version t)) (sheet (table t)) (marks t) (progress t) w r (progress u) c d

  abbrev Same : T → Type 0
  Same t = (version t ≡ version s) × (table t ≡ table s) × (marks t ≡ marks s)

  -- what is said of the same version, sheet and marks
  same : (t : T) → Same t → (P : F.Version → Cells → List Addr → Type 0) → P (version_tree (version t)) (sheet (table t)) (marks t) → P V S (marks s)
  same t (p, q, r) P x = subst (λ v. P (version_tree v) S (marks s)) p (subst (λ u. P (version_tree (version t)) (sheet u) (marks s)) q (subst (λ m. P (version_tree (version t)) (sheet (table t)) m) r x))

  comes : (i : ℕ) (w : Oracle) (t : T) (d : ℕ) → R.Reaches (λ u. Gives (world V S u)) CallsOf grid (has_content S) budget s n i w t d → Same t × Stands V S tables (marks s) n i w (progress t) d
  comes _ _ _ _ R.first = ((refl, refl, refl), record { before = M.no_table; comes = first; follows = subst (Follows V S tables 0 M.no_table) (sym begun) (follows_first V S tables) })
  comes _ _ _ _ (R.later {i = i} {w = w} {zs = zs} {t = t} {t' = u} {d = c} {d' = d} r g k moves more) =
      let (e, m) = comes i w t c r in (
        (k.0 ∙ e.0, k.1 ∙ e.1, k.2 ∙ e.2),
        goes V S tables (marks s) n i w (progress t) c m (grant grid (has_content S) zs) (progress u) d
            (record { unspent = g.0; is_next = (zs, g.1, refl); moves = moves; not_last = λ x. more (x ∙ sym allowed) })
            (same t e (λ v x y. Keeps v x y (progress t) w (progress u) c d) k.3),
      )

  pub settles_at : (w : Oracle) (i : ℕ) (t : T) (d : ℕ) → A.Settles (λ u. Gives (world V S u)) (λ u. Fails (world V S u)) CallsOf grid (has_content S) budget s n w i t d → Leaves V S tables (marks s) (C.Settled w i) (progress t) n d × ((x : M.Table) × (before_of (progress t) ≡ Some x) × IsSettledTable V S i x)
  settles_at w i t d h =
      let (e, m) = comes h.round w h.call.object h.call.count h.call.reached in
      let keeps = same h.call.object e (λ v x y. Keeps v x y (progress h.call.object) w (progress t) h.call.count d) h.call.called.3 in
      subst (λ r. Leaves V S tables (marks s) (C.Settled w r) (progress t) n d × ((x : M.Table) × (before_of (progress t) ≡ Some x) × IsSettledTable V S r x)) (sym h.counted)
      (settles V S tables (marks s) n h.round w (progress h.call.object) h.call.count m (progress t) d h.given.0 (h.sizes, h.given.1, sym h.stays) keeps)

  runs_out_at : (a : Addr) (t : T) (d : ℕ) → A.RunsOut (λ u. Gives (world V S u)) (λ u. Fails (world V S u)) CallsOf grid (has_content S) budget s n a t d → Leaves V S tables (marks s) (C.Spent (C.Rounds a)) (progress t) n d
  runs_out_at a t d h =
      let (e, m) = comes h.round h.oracle h.call.object h.call.count h.call.reached in
      runs_out V S tables (marks s) n h.round h.oracle (progress h.call.object) h.call.count m (grant grid (has_content S) h.sizes) a (progress t) d h.given.0
      (rounds (grant grid (has_content S) h.sizes) h.given.0 (h.sizes, h.given.1, refl) h.differs (h.spent ∙ allowed))
      (same h.call.object e (λ v x y. Keeps v x y (progress h.call.object) h.oracle (progress t) h.call.count d) h.call.called.3)

  breaks_at : (e : RoundFault) (k : SpentKind) (t : T) (d : ℕ) → spent_by (iter.Round e) ≡ Some k → A.Breaks (λ u. Gives (world V S u)) (λ u. Fails (world V S u)) CallsOf grid (has_content S) budget s n e t d → Leaves V S tables (marks s) (C.Spent (spent_tree k)) (progress t) n d
  breaks_at fault.Work k t d e h =
      let (i, m) = comes h.round h.oracle h.call.object h.call.count h.call.reached in
      let b : spent.Work ≡ k = cc e in
      subst (λ u. Leaves V S tables (marks s) (C.Spent (spent_tree u)) (progress t) n d) b
      (breaks_work V S tables (marks s) n h.round h.oracle (progress h.call.object) h.call.count m (progress t) d h.failed h.call.called.3.0
      (same h.call.object i (λ v x y. Breaks (world v x h.oracle) (next_base (progress h.call.object) y) h.call.count d) h.call.called.3.1))
  breaks_at (fault.Depth a) k t d e h =
      let (i, m) = comes h.round h.oracle h.call.object h.call.count h.call.reached in
      let b : spent.Depth a ≡ k = cc e in
      subst (λ u. Leaves V S tables (marks s) (C.Spent (spent_tree u)) (progress t) n d) b
      (breaks_depth V S tables (marks s) n h.round h.oracle (progress h.call.object) h.call.count m a (progress t) d h.failed.0 (abort {b = Budget.Depth} h.failed.0 h.failed.1)
      (same h.call.object i (λ v x y. Keeps v x y (progress h.call.object) h.oracle (progress t) h.call.count d) h.call.called.3))
  breaks_at (fault.CopyRounds a) k t d e h =
      let (i, m) = comes h.round h.oracle h.call.object h.call.count h.call.reached in
      let b : spent.CopyRounds a ≡ k = cc e in
      subst (λ u. Leaves V S tables (marks s) (C.Spent (spent_tree u)) (progress t) n d) b
      (breaks_copies V S tables (marks s) n h.round h.oracle (progress h.call.object) h.call.count m a (progress t) d h.failed.0 (abort {b = Budget.CopyRounds} h.failed.0 h.failed.1)
      (same h.call.object i (λ v x y. Keeps v x y (progress h.call.object) h.oracle (progress t) h.call.count d) h.call.called.3))
  breaks_at fault.NoMemory k t d e h = absurd (cc e)

  spends_at : (f : IterFault RoundFault) (k : SpentKind) (t : T) (d : ℕ) → spent_by f ≡ Some k → A.Answers (λ u. Gives (world V S u)) (λ u. Fails (world V S u)) CallsOf grid (has_content S) budget s n (Err f) t d → Leaves V S tables (marks s) (C.Spent (spent_tree k)) (progress t) n d
  spends_at (iter.Rounds a) k t d e h = (let b : spent.Rounds a ≡ k = cc e in subst (λ u. Leaves V S tables (marks s) (C.Spent (spent_tree u)) (progress t) n d) b (runs_out_at a t d h))
  spends_at (iter.Round f) k t d e h = breaks_at f k t d e h
  spends_at iter.NoMemory k t d e h = absurd (cc e)

  -- the same where the bound is said otherwise
  pub settles_within : (bound : Range) → bound ≡ grid → (w : Oracle) (i : ℕ) (t : T) (d : ℕ) → A.Settles (λ u. Gives (world V S u)) (λ u. Fails (world V S u)) CallsOf bound (has_content S) budget s n w i t d → Leaves V S tables (marks s) (C.Settled w i) (progress t) n d × ((x : M.Table) × (before_of (progress t) ≡ Some x) × IsSettledTable V S i x)
  settles_within bound e w i t d h = settles_at w i t d (subst (λ b. A.Settles (λ u. Gives (world V S u)) (λ u. Fails (world V S u)) CallsOf b (has_content S) budget s n w i t d) e h)

  pub spends_within : (bound : Range) → bound ≡ grid → (f : IterFault RoundFault) (k : SpentKind) (t : T) (d : ℕ) → spent_by f ≡ Some k → A.Answers (λ u. Gives (world V S u)) (λ u. Fails (world V S u)) CallsOf bound (has_content S) budget s n (Err f) t d → Leaves V S tables (marks s) (C.Spent (spent_tree k)) (progress t) n d
  spends_within bound e f k t d p h = spends_at f k t d p (subst (λ b. A.Answers (λ u. Gives (world V S u)) (λ u. Fails (world V S u)) CallsOf b (has_content S) budget s n (Err f) t d) e h)
