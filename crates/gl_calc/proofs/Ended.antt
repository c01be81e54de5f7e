-- What a calculation leaves, what is held after it, and what is answered where nothing was touched since.
use Rattle.std.proofs.Common.{slice_get, ◌≡◌, ℕ, List, [], Option, Some, option_map, Err, refl, sym, ap, subst, ◌∙◌}
use Rattle.gl_calculus.specs.Grid.Grid.{Addr}
use Rattle.gl_calculus.specs.Values.Value.{Oracle}
use Rattle.gl_calculus.specs.Formulas.Formula as F
use Rattle.gl_calculus.specs.Formulas.Formula.{Cells, IsSheet}
use Rattle.gl_calculus.specs.Calculation.Calculation as C
use Rattle.gl_calculus.specs.Calculation.Calculation.{IsAnswer, Ends}
use Rattle.gl_calculus.specs.Calculation.Memory.{Table, base, AreTables}
use Rattle.gl_calculus.specs.Steps.Costs.{Finishes}
use Rattle.laws_calculus.proofs.Calculus.Keeps.{nothing_asked}
use Rattle.laws_calculus.proofs.Calculus.Settles.{settled_consistent}
use Rattle.laws_calculus.proofs.Calculus.Something.{settled_shows}
use Rattle.gl_ast.specs.View.{version_tree}
use Rattle.gl_ast.specs.declared.Version.{Version}
use Rattle.gl_cells.specs.Sheet as cells
use Rattle.gl_cells.specs.declared.fault.PutFault.{PutFault}
use Rattle.gl_cells.specs.declared.fault.PutFault.TheVariants as fault
use Rattle.gl_calculus.specs.Steps.Rounds.{Comes, first, later, Costs}
use Rattle.gl_calculus.specs.Evaluation.World.{world}
use Rattle.gl_calc.specs.Answers.{Answers, Takes, spent_tree}
use Rattle.gl_calc.specs.Progress.{Progress, either, last_of, before_of}
use Rattle.gl_calc.specs.Ending.{IsSettledTable, HasLast, EndsWith}
use Rattle.gl_calc.specs.Held.{answer_of, IsHeld, IsKept, held_by, HoldsLatest}
use Rattle.gl_calc.specs.declared.answers.Answer.{Answer}
use Rattle.gl_calc.specs.declared.answers.Answer.TheVariants.{Settled, Spent}
use Rattle.gl_calc.specs.declared.answers.SpentKind.{SpentKind}
use Rattle.gl_calc.specs.declared.answers.SpentKind.TheVariants as spent
use Rattle.gl_calc.specs.declared.ending.Answered.{Answered}
use Rattle.gl_calc.specs.declared.ending.Ended.{Ended}
use Rattle.gl_calc.proofs.Rounds.{comes_reaches, costs_answer, Leaves}
use Rattle.gl_calc.proofs.Finished.{none_taken}
use Rattle.gl_calc.proofs.Telling.{settled_tells}

pub settled_held : (version : F.Version) (S : Cells) (rounds : ℕ) (t : Table) → IsSheet S → IsSettledTable version S rounds t → IsHeld version S t
settled_held version S rounds t o h = record {
  table = h.table;
  unspent = h.unspent;
  permits = (settled_consistent (world version S t.oracle) rounds o h.answer).permits;
  tells = settled_tells version S rounds t o h;
}

pub settled_answers : (version : F.Version) (S : Cells) (rounds : ℕ) (t : Table) (old new : Option (F.Version × Oracle)) → IsSheet S → IsSettledTable version S rounds t → new ≡ Some (version, t.oracle) → Answers version S (Settled rounds) old new
settled_answers version S rounds t old new o h e = (t.oracle, h.answer, e, settled_consistent (world version S t.oracle) rounds o h.answer, settled_shows (world version S t.oracle) rounds o h.answer)

pub takes_answer : (version : F.Version) (S : Cells) (tables : List Table) (touched : List Addr) (k : SpentKind) (n m : ℕ) → Takes version S tables touched (Spent k) n m → IsAnswer version S (C.Spent (spent_tree k))
takes_answer version S tables touched k n m c = costs_answer version S tables touched (C.Spent (spent_tree k)) n m c

-- what is held after a calculation: the table that it settled to, or what was held before
module _ (S : Cells) (tables : List Table) where
  pub held_latest : (x : Answer) (version : Version) (beyond : Option Table) (held : Option Answered) → HasLast (version_tree version) S x (either beyond (last_of tables)) → HoldsLatest (version_tree version) S tables x (held_by x version beyond held)
  held_latest (Settled rounds) version beyond held (t, e, h) = (record { version = version; own = beyond }, refl, refl, (t, e, h))
  held_latest (Spent k) version beyond held h = tt

  pub held_kept : (x : Answer) (version : Version) (beyond : Option Table) (held : Option Answered) → IsSheet S → HasLast (version_tree version) S x (either beyond (last_of tables)) → IsKept S tables held → IsKept S tables (held_by x version beyond held)
  held_kept (Settled rounds) version beyond held o (t, e, h) k = (t, e, settled_held (version_tree version) S rounds t o h)
  held_kept (Spent s) version beyond held o h k = k

  pub held_answers : (x : Answer) (version : Version) (beyond : Option Table) (held : Option Answered) (before : List Table) (touched : List Addr) (n m : ℕ) (old : Option (F.Version × Oracle)) → IsSheet S → HasLast (version_tree version) S x (either beyond (last_of tables)) → Takes (version_tree version) S before touched x n m → answer_of tables held ≡ old → Answers (version_tree version) S x old (answer_of tables (held_by x version beyond held))
  held_answers (Settled rounds) version beyond held before touched n m old o (t, e, h) k q =
      settled_answers (version_tree version) S rounds t old (answer_of tables (Some (record { version = version; own = beyond }))) o h (ap (option_map (λ (u : Table). (version_tree version, u.oracle))) e)
  held_answers (Spent s) version beyond held before touched n m old o h k q = (takes_answer (version_tree version) S before touched s n m k, q)

  -- where nothing was touched since the latest calculation
  pub latest_answers : (version : F.Version) (x : Answer) (held : Option Answered) (before : List Table) (touched : List Addr) (n m : ℕ) → IsSheet S → HoldsLatest version S tables x held → Takes version S before touched x n m → Answers version S x (answer_of tables held) (answer_of tables held)
  latest_answers version (Settled rounds) held before touched n m o (h, e, v, (t, q, s)) k =
      let p : answer_of tables (Some h) ≡ Some (version, t.oracle) = ap (option_map (λ (u : Table). (version_tree h.version, u.oracle))) q ∙ ap (λ u. Some (u, t.oracle)) v in
      settled_answers version S rounds t (answer_of tables held) (answer_of tables held) o s (ap (answer_of tables) e ∙ p)
  latest_answers version (Spent s) held before touched n m o h k = (takes_answer version S before touched s n m k, refl)

-- the work is finished, unless it is what was spent
unless_work : (version : F.Version) (S : Cells) (i : ℕ) (w : Oracle) (r : C.Answer) → Ends version S i w r → (r ≡ C.Spent C.Work → ⊥) → C.SpendsWork (world version S w) → ⊥
unless_work version S i w _ (C.work s) f = absurd (f refl)
unless_work version S i w _ (C.abort n g) f = n
unless_work version S i w _ (C.settled u x) f = u.work
unless_work version S i w _ (C.rounds v u x d l) f = u.work

-- and then the same rounds take no step
module _ (version : F.Version) (S : Cells) (tables before : List Table) (touched : List Addr) (made : AreTables version S tables) where
  again : (n a : ℕ) (i : ℕ) (w : Oracle) (t : Table) (m : ℕ) → Comes version S before touched a i w t m → Comes version S tables [] n i w t n
  again n a _ _ _ _ first = first
  again n a _ _ _ _ (later {i = i} {m = m} {w = w} {before = b} c t h f g) =
      later (again n a i w b m c) t h (nothing_asked version S tables b i w n made (comes_reaches version S before touched a i m w b c, g.unspent.work)) g

  module _ (n a m : ℕ) where
    settles_again : (w : Oracle) (rounds : ℕ) → Costs version S before touched (C.Settled w rounds) a m → Costs version S tables [] (C.Settled w rounds) n n
    settles_again w rounds c = record {
      round = c.round;
      oracle = c.oracle;
      table = c.table;
      before = n;
      comes = again n a c.round c.oracle c.table c.before c.comes;
      ends = c.ends;
      last = nothing_asked version S tables c.table c.round c.oracle n made
          (comes_reaches version S before touched a c.round c.before c.oracle c.table c.comes, unless_work version S c.round c.oracle (C.Settled w rounds) c.ends (λ q. cc q));
    }

    spends_again : (k : SpentKind) → Costs version S before touched (C.Spent (spent_tree k)) a m → Costs version S tables [] (C.Spent (spent_tree k)) n n
    spends_again k c = by k c.ends
      where
        come : Comes version S tables [] n c.round c.oracle c.table n
        come = again n a c.round c.oracle c.table c.before c.comes

        no_step : (j : C.SpentKind) → Ends version S c.round c.oracle (C.Spent j) → (C.Spent j ≡ C.Spent C.Work → ⊥) → Finishes (world version S c.oracle) (base (slice_get tables c.round) [] c.table) c.round n n
        no_step j e f = nothing_asked version S tables c.table c.round c.oracle n made
            (comes_reaches version S before touched a c.round c.before c.oracle c.table c.comes, unless_work version S c.round c.oracle (C.Spent j) e f)

        by : (j : SpentKind) → Ends version S c.round c.oracle (C.Spent (spent_tree j)) → Costs version S tables [] (C.Spent (spent_tree j)) n n
        by spent.Work e = record { round = c.round; oracle = c.oracle; table = c.table; before = n; comes = come; ends = e; last = none_taken (world version S c.oracle) (base (slice_get tables c.round) [] c.table) n }
        by (spent.Rounds b) e = record { round = c.round; oracle = c.oracle; table = c.table; before = n; comes = come; ends = e; last = no_step (C.Rounds b) e (λ q. cc q) }
        by (spent.Depth b) e = record { round = c.round; oracle = c.oracle; table = c.table; before = n; comes = come; ends = e; last = no_step (C.Depth b) e (λ q. cc q) }
        by (spent.CopyRounds b) e = record { round = c.round; oracle = c.oracle; table = c.table; before = n; comes = come; ends = e; last = no_step (C.CopyRounds b) e (λ q. cc q) }

    pub takes_again : (x : Answer) → Takes version S before touched x a m → Takes version S tables [] x n n
    takes_again (Settled rounds) (w, c) = (w, settles_again w rounds c)
    takes_again (Spent k) c = spends_again k c

-- how the whole ends, by what the rounds leave
module _ (version : F.Version) (S : Cells) (tables : List Table) (touched : List Addr) (n m : ℕ) (x : Ended) (p : Progress) (e : x.tables.items ≡ p.made) where
  pub settled_ends : (rounds : ℕ) (w : Oracle) → x.answer ≡ Settled rounds → x.beyond ≡ p.beyond → Leaves version S tables touched (C.Settled w rounds) p n m × ((t : Table) × (before_of p ≡ Some t) × IsSettledTable version S rounds t) → EndsWith version S tables touched x n m
  settled_ends rounds w a b (l, (t, d, h)) = record {
    takes = subst (λ y. Takes version S tables touched y n m) (sym a) (w, l.costs);
    made = subst (AreTables version S) (sym e) l.made;
    last = subst (λ y. HasLast version S y (either x.beyond (last_of x.tables.items))) (sym a) (t, ap (λ o. either o (last_of x.tables.items)) b ∙ ap (λ ts. either p.beyond (last_of ts)) e ∙ d, h);
  }

  pub spent_ends : (k : SpentKind) → x.answer ≡ Spent k → Leaves version S tables touched (C.Spent (spent_tree k)) p n m → EndsWith version S tables touched x n m
  spent_ends k a l = record {
    takes = subst (λ y. Takes version S tables touched y n m) (sym a) l.costs;
    made = subst (AreTables version S) (sym e) l.made;
    last = subst (λ y. HasLast version S y (either x.beyond (last_of x.tables.items))) (sym a) tt;
  }

-- a refused edit leaves the sheet
pub refused_same : (e : PutFault) (old goal new : Cells) → cells.Answers (Err e) old goal new → new ≡ old
refused_same fault.Formulas old goal new h = h.0
refused_same fault.Contents old goal new h = h.0
refused_same fault.NoMemory old goal new h = h
