-- The answer of a calculation whose forecast is yes.
use Rattle.std.proofs.Common.{◌≡◌, ◌⊎◌, inl, inr, ℕ, zero, suc, ◌+◌, ◌≤◌, ◌<◌, true, false, IsFalse, List, [], ◌∷◌, length, map, Some, None, refl, sym, ◌∙◌, subst, ap, arith}
use Rattle.std.specs.List.{AllByRecursion, list_any}
use Rattle.std.proofs.lemmas.List.{length-map}
use Rattle.std.proofs.lemmas.Bool.{cases_order}
use Rattle.gl_calculus.specs.Computation.Lists.{Member, AreDistinct}
use Rattle.gl_calculus.specs.Computation.Query.{IsAsked}
use Rattle.gl_calculus.specs.Computation.Demanded.{Seed, Read}
use Rattle.laws_calculus.proofs.Query.Levels.{Has-Loops}
use Rattle.laws_calculus.proofs.Query.Quiet.{distinct_within}
use Rattle.gl_calculus.specs.Grid.Limits.{max_formulas}
use Rattle.gl_calculus.specs.Grid.Grid.{Addr, same_addr, AreInOrder}
use Rattle.gl_calculus.specs.Values.Value.{Entry, Oracle, Top}
use Rattle.gl_calculus.specs.Values.Same.{same_oracle}
use Rattle.gl_calculus.specs.Formulas.Formula.{Version, Cells, IsSheet, formula_addresses}
use Rattle.gl_calculus.specs.Evaluation.Oracle.{IsInOrder, entry_at}
use Rattle.gl_calculus.specs.Evaluation.Key.{Key, Cell, Outcome, Settled, Abort}
use Rattle.gl_calculus.specs.Evaluation.World.{world}
use Rattle.gl_calculus.specs.Evaluation.Evaluation.{program}
use Rattle.gl_calculus.specs.Calculation.Calculation as C
use Rattle.gl_calculus.specs.Calculation.Calculation.{is_abort, TopHas, TopFails, DemandedIn, SpendsWork, IsUnspent, IsNext, Reaches, first, later, settled, IsAnswer, IsShown, cycle, Cycle}
use Rattle.gl_calculus.proofs.Grants.{Before, before_trans, not_same, split, clash}
use Rattle.gl_calculus.proofs.Tests.{addr_exact, oracle_equality}
use Rattle.laws_calculus.proofs.Calculus.Settles.{formula_content, formula_listed}
use Rattle.laws_calculus.specs.Forecast.{YesSettles}
use Rattle.gl_calculus.specs.Forecast as Fo
use Rattle.gl_calculus.specs.Forecast.{Node, nodes, dependences, cell_shape, Leads, once, further, Path, ends, goes, IsHeight, uses_sheets, yes}
use Rattle.laws_calculus.proofs.Forecast.Nodes.{within, of_formula, value_cell, entry_cell}
use Rattle.gl_calculus.specs.Formulas.Fit.{AreFit}
use Rattle.laws_calculus.proofs.Forecast.Reading.{Comes}
use Rattle.laws_calculus.proofs.Forecast.Values.{Both, asks}
use Rattle.laws_calculus.proofs.Forecast.Settling as St
use Rattle.laws_calculus.proofs.Forecast.Oracles.{IsFit, entry_member, member_entry, unboxed, shaped_formula, after, order_tail}

-- ---- oracles by their entries

before_or : (a b : Addr) → (a ≡ b) ⊎ (Before a b ⊎ Before b a)
before_or a b = by (cases_order a.row b.row) (cases_order a.col b.col)
  where
    by : (a.row ≡ b.row) ⊎ ((a.row < b.row) ⊎ (b.row < a.row)) → (a.col ≡ b.col) ⊎ ((a.col < b.col) ⊎ (b.col < a.col)) → (a ≡ b) ⊎ (Before a b ⊎ Before b a)
    by (inl r) (inl c) = inl (ap (λ u. record { col = u; row = a.row }) c ∙ ap (λ u. record { col = b.col; row = u }) r)
    by (inl r) (inr (inl c)) = inr (inl (inr (r, c)))
    by (inl r) (inr (inr c)) = inr (inr (inr (sym r, c)))
    by (inr (inl r)) c = inr (inl (inl r))
    by (inr (inr r)) c = inr (inr (inl r))

-- an address before all roots has no entry
early : (w : Oracle) (a : Addr) → ((x : Entry) → Member x w → Before a x.root) → entry_at w a ≡ None
early w a h =
    (elim (entry_at w a) as (λ o. entry_at w a ≡ o → o ≡ None) [
      | None ↦ λ u. refl
      | Some x ↦ λ u. let (m, r) = entry_member w a x u in absurd (not_same a x.root (h x m) (sym r))
    ]) refl

behind : (x : Entry) (w : Oracle) (a : Addr) → Before x.root a → entry_at (x ∷ w) a ≡ entry_at w a
behind x w a b = by (split (same_addr a x.root))
  where
    by : (same_addr a x.root ≡ true) ⊎ (same_addr a x.root ≡ false) → entry_at (x ∷ w) a ≡ entry_at w a
    by (inl e) = absurd (not_same x.root a b (sym (addr_exact a x.root e)))
    by (inr e) = rw e refl

pub same_by_entries : (w w' : Oracle) → IsInOrder w → IsInOrder w' → ((a : Addr) → entry_at w a ≡ entry_at w' a) → w ≡ w'
same_by_entries [] [] o o' h = refl
same_by_entries (x ∷ w) [] o o' h = let e : Some x ≡ None = sym (member_entry (x ∷ w) o x (inl refl)) ∙ h x.root in absurd (cc e)
same_by_entries [] (y ∷ w') o o' h = let e : None ≡ Some y = h y.root ∙ member_entry (y ∷ w') o' y (inl refl) in absurd (cc e)
same_by_entries (x ∷ w) (y ∷ w') o o' h = by (before_or x.root y.root) (same_by_entries w w' (order_tail x.root (map (λ x. x.root) w) o) (order_tail y.root (map (λ x. x.root) w') o'))
  where
    here : entry_at (x ∷ w) x.root ≡ Some x
    here = member_entry (x ∷ w) o x (inl refl)

    there : entry_at (y ∷ w') y.root ≡ Some y
    there = member_entry (y ∷ w') o' y (inl refl)

    lacks : (z : Entry) (v : Oracle) (a : Addr) → AreInOrder (z.root ∷ map (λ x. x.root) v) → Before a z.root → entry_at (z ∷ v) a ≡ None
    lacks z v a q b = early (z ∷ v) a (λ u m. first_or u m)
      where
        first_or : (u : Entry) → (u ≡ z) ⊎ Member u v → Before a u.root
        first_or u (inl e) = subst (λ t. Before a t.root) (sym e) b
        first_or u (inr m) = before_trans a z.root u.root b (after z.root v q u m)

    by : (x.root ≡ y.root) ⊎ (Before x.root y.root ⊎ Before y.root x.root) → (((a : Addr) → entry_at w a ≡ entry_at w' a) → w ≡ w') → x ∷ w ≡ y ∷ w'
    by (inl r) go =
        let e : Some x ≡ Some y = sym here ∙ h x.root ∙ ap (entry_at (y ∷ w')) r ∙ there in
        let d : x ≡ y = cc e in
        ap (λ u. u ∷ w) d ∙ ap (λ u. y ∷ u) (go rest)
      where
        rest : (a : Addr) → entry_at w a ≡ entry_at w' a
        rest a = place (before_or x.root a)
          where
            tail_none : (z : Entry) (v : Oracle) → AreInOrder (z.root ∷ map (λ x. x.root) v) → (a ≡ z.root) ⊎ Before a z.root → entry_at v a ≡ None
            tail_none z v q (inl e) = early v a (λ u m. subst (λ t. Before t u.root) (sym e) (after z.root v q u m))
            tail_none z v q (inr b) = early v a (λ u m. before_trans a z.root u.root b (after z.root v q u m))

            place : (x.root ≡ a) ⊎ (Before x.root a ⊎ Before a x.root) → entry_at w a ≡ entry_at w' a
            place (inl e) = tail_none x w o (inl (sym e)) ∙ sym (tail_none y w' o' (inl (sym e ∙ r)))
            place (inr (inl b)) = sym (behind x w a b) ∙ h a ∙ behind y w' a (subst (λ u. Before u a) r b)
            place (inr (inr b)) = tail_none x w o (inr b) ∙ sym (tail_none y w' o' (inr (subst (λ u. Before a u) r b)))
    by (inr (inl b)) go = let e : Some x ≡ None = sym here ∙ h x.root ∙ lacks y w' x.root o' b in absurd (cc e)
    by (inr (inr b)) go = let e : None ≡ Some y = sym (lacks x w y.root o b) ∙ h y.root ∙ there in absurd (cc e)

-- ---- the entries on a path

module _ (S : Cells) (no_circle : (n : Node) → Member n (nodes S) → Leads S n n → ⊥) where
  -- the cells of the entries on a path from the node
  record OnPath (n : Node) (k : ℕ) : Type 0 where
    pub cells : List Addr
    pub count : length cells ≡ k
    pub distinct : AreDistinct cells
    pub each : (a : Addr) → Member a cells → Member (Fo.Node.Entry a) (nodes S) × ((Fo.Node.Entry a ≡ n) ⊎ Leads S n (Fo.Node.Entry a))

  leads_on : (m n x : Node) → Member n (dependences S m) → (x ≡ n) ⊎ Leads S n x → Leads S m x
  leads_on m n x d (inl e) = once (subst (λ u. Member u (dependences S m)) (sym e) d)
  leads_on m n x d (inr l) = further d l

  on_path : (n : Node) (k : ℕ) → Member n (nodes S) → Path S n k → OnPath n k
  on_path (Fo.Node.Value a) k i ends = record { cells = []; count = refl; distinct = tt; each = λ b m. absurd m }
  on_path (Fo.Node.Entry a) k i ends = record { cells = a ∷ []; count = refl; distinct = (λ m. m, tt); each = λ b m. one b m }
    where
      one : (b : Addr) → (b ≡ a) ⊎ ⊥ → Member (Fo.Node.Entry b) (nodes S) × ((Fo.Node.Entry b ≡ Fo.Node.Entry a) ⊎ Leads S (Fo.Node.Entry a) (Fo.Node.Entry b))
      one b (inl e) = (subst (λ u. Member (Fo.Node.Entry u) (nodes S)) (sym e) i, inl (ap Fo.Node.Entry e))
      one b (inr m) = absurd m
  on_path (Fo.Node.Value a) _ i (goes {n = n} {h = h} d p) =
      let r = on_path n h (within S (Fo.Node.Value a) n i d) p in
      record {
        cells = r.cells;
        count = omega (arith, r.count);
        distinct = r.distinct;
        each = λ b m. let q = r.each b m in (q.0, inr (leads_on (Fo.Node.Value a) n (Fo.Node.Entry b) d q.1));
      }
  on_path (Fo.Node.Entry a) _ i (goes {n = n} {h = h} d p) =
      let r = on_path n h (within S (Fo.Node.Entry a) n i d) p in
      record {
        cells = a ∷ r.cells;
        count = omega (arith, r.count);
        distinct = (λ m. no_circle (Fo.Node.Entry a) i (leads_on (Fo.Node.Entry a) n (Fo.Node.Entry a) d (r.each a m).1), r.distinct);
        each = λ b m. more r b m;
      }
    where
      more : (r : OnPath n h) → (b : Addr) → (b ≡ a) ⊎ Member b r.cells → Member (Fo.Node.Entry b) (nodes S) × ((Fo.Node.Entry b ≡ Fo.Node.Entry a) ⊎ Leads S (Fo.Node.Entry a) (Fo.Node.Entry b))
      more r b (inl e) = (subst (λ u. Member (Fo.Node.Entry u) (nodes S)) (sym e) i, inl (ap Fo.Node.Entry e))
      more r b (inr m) = let q = r.each b m in (q.0, inr (leads_on (Fo.Node.Entry a) n (Fo.Node.Entry b) d q.1))

  -- a path has no more entries than there are formula cells
  pub path_within : (n : Node) (k : ℕ) → Member n (nodes S) → Path S n k → k ≤ length (formula_addresses S)
  path_within n k i p =
      let r = on_path n k i p in
      let l : length r.cells ≤ length (formula_addresses S) = distinct_within r.cells (formula_addresses S) r.distinct (λ a m. entry_cell S a (r.each a m).0) in
      omega (arith, l, r.count)

-- ---- the answer

module _ (version : Version) (S : Cells) (sheet : IsSheet S) (fit : AreFit S) (few : length (formula_addresses S) ≤ max_formulas) (plain : IsFalse (list_any (uses_sheets S) (formula_addresses S))) (no_circle : (n : Node) → Member n (nodes S) → Leads S n n → ⊥) where
  cell_of : (w : Oracle) → Key → Type 0
  cell_of w k = (a : Addr) × (k ≡ Cell Top a) × Member a (formula_addresses S)

  seed_of : (rest : List Addr) (k : Key) → Member k (map (Cell Top) rest) → (a : Addr) × (k ≡ Cell Top a) × Member a rest
  seed_of [] k m = absurd m
  seed_of (a ∷ rest) k (inl e) = (a, e, inl refl)
  seed_of (a ∷ rest) k (inr m) = let (b, e, i) = seed_of rest k m in (b, e, inr i)

  demanded_cell : (w : Oracle) → IsFit S w → (k : Key) → DemandedIn (world version S w) k → cell_of w k
  unfolding cell_of
  demanded_cell w fits k (Seed m) = seed_of (formula_addresses S) k m
  demanded_cell w fits j (Read {k = k} d i) = by (demanded_cell w fits k d)
    where
      by : (a : Addr) × (k ≡ Cell Top a) × Member a (formula_addresses S) → (a : Addr) × (j ≡ Cell Top a) × Member a (formula_addresses S)
      by (a, e, m) =
          let (f, c) = formula_content S sheet a m in
          let n : Member (Fo.Node.Value a) (nodes S) = of_formula S a (Fo.Node.Value a) m (inl refl) in
          let (g, q, u) = asks version S fit plain w w fits fits a f c (λ r v. refl) (λ g v. St.ended version S sheet fit plain no_circle w fits g (value_cell S g (within S (Fo.Node.Value a) (Fo.Node.Value g) n v))) j (subst (λ t. IsAsked (program (world version S w)) (program (world version S w) t) j) e i) in
          (g, q, value_cell S g (within S (Fo.Node.Value a) (Fo.Node.Value g) n u))

  key_member : (rest : List Addr) (a : Addr) → Member a rest → Member (Cell Top a) (map (Cell Top) rest)
  key_member [] a m = absurd m
  key_member (b ∷ rest) a (inl e) = inl (ap (Cell Top) e)
  key_member (b ∷ rest) a (inr m) = inr (key_member rest a m)

  no_work : (w : Oracle) → IsFit S w → SpendsWork (world version S w) → ⊥
  unfolding cell_of
  no_work w fits (ks, l, d, h) =
      let m : length ks ≤ length (map (Cell Top) (formula_addresses S)) = distinct_within ks (map (Cell Top) (formula_addresses S)) d (λ k i. let (a, e, j) = demanded_cell w fits k (h k i) in subst (λ u. Member u (map (Cell Top) (formula_addresses S))) (sym e) (key_member (formula_addresses S) a j)) in
      let c : length (map (Cell Top) (formula_addresses S)) ≡ length (formula_addresses S) = length-map (formula_addresses S) (Cell Top) in
      absurd (omega (arith, l, m, c, few))

  no_aborts : (w : Oracle) → IsFit S w → (rest : List Addr) → ((a : Addr) → Member a rest → Member a (formula_addresses S)) → AllByRecursion (TopFails (world version S w) is_abort) rest
  no_aborts w fits [] h = tt
  no_aborts w fits (a ∷ rest) h = (inr (by (St.ended version S sheet fit plain no_circle w fits a (h a (inl refl)))), no_aborts w fits rest (λ b m. h b (inr m)))
    where
      value_only : (o : Outcome) → Comes S (Cell Top a) o → is_abort o ≡ false
      value_only (Outcome.Value v) c = refl
      value_only (Settled o) c = absurd c
      value_only (Abort b) c = absurd c

      by : Both version S fit plain w w a → (o : Outcome) × TopHas (world version S w) a o × IsFalse (is_abort o)
      by b = (b.outcome, b.first, value_only b.outcome b.comes)

  unspent : (w : Oracle) → IsFit S w → IsUnspent (world version S w)
  unspent w fits = record { work = no_work w fits; no_abort = no_aborts w fits (formula_addresses S) (λ a m. m) }

  no_cycle : (w : Oracle) → IsFit S w → (a : Addr) → IsShown (world version S w) a Cycle → ⊥
  no_cycle w fits a (cycle f e l) = let b = St.ended version S sheet fit plain no_circle w fits a (formula_listed S a f e) in Has-Loops (program (world version S w)) (Cell Top a) b.outcome b.first l

  module _ (h : ℕ) (height : IsHeight S h) where
    orc : ℕ → Oracle
    orc = St.oracle version S sheet fit plain no_circle

    fitted : (i : ℕ) → IsFit S (orc i)
    unfolding orc
    fitted i = St.fitting version S sheet fit plain no_circle i

    nexts : (i : ℕ) → IsNext (world version S (orc i)) (orc (suc i))
    unfolding orc
    nexts i = St.follows version S sheet fit plain no_circle i

    h_within : h ≤ length (formula_addresses S)
    h_within = by height.reached
      where
        by : (h ≡ 0) ⊎ ((n : Node) × Member n (nodes S) × Path S n h) → h ≤ length (formula_addresses S)
        by (inl e) = omega (arith, e)
        by (inr (n, m, p)) = path_within S no_circle n h m p

    entries_stay : (a : Addr) → entry_at (orc h) a ≡ entry_at (orc (suc h)) a
    unfolding orc
    entries_stay a = by (cell_shape S a) refl
      where
        by : (o : Fo.Shape) → cell_shape S a ≡ o → entry_at (orc h) a ≡ entry_at (orc (suc h)) a
        by None e = unboxed S (orc h) (fitted h) a e ∙ sym (unboxed S (orc (suc h)) (fitted (suc h)) a e)
        by (Some z) e =
            let (f, c) = shaped_formula S a z e in
            let i : Member (Fo.Node.Entry a) (nodes S) = of_formula S a (Fo.Node.Entry a) (formula_listed S a f c) (inr (rw e (inl refl))) in
            St.stable version S sheet fit plain no_circle (Fo.Node.Entry a) i h (λ k p. height.most (Fo.Node.Entry a) k i p)

    fixed : orc h ≡ orc (suc h)
    fixed = same_by_entries (orc h) (orc (suc h)) (fitted h).in_order (fitted (suc h)).in_order entries_stay

    -- settled in time, with no cycle
    abbrev pub Settles : Type 0
    Settles = (w : Oracle) × (i : ℕ) × IsAnswer version S (C.Settled w i) × (i ≤ suc h) × ((a : Addr) → IsShown (world version S w) a Cycle → ⊥)

    settle_at : (i : ℕ) → i ≤ h → Reaches version S i (orc i) → orc (suc i) ≡ orc i → Settles
    settle_at i l r e =
        let n : IsNext (world version S (orc i)) (orc i) = subst (λ u. IsNext (world version S (orc i)) u) e (nexts i) in
        (orc i, suc i, record { round = i; oracle = orc i; reached = r; ends = settled (unspent (orc i) (fitted i)) n }, omega (arith, l), no_cycle (orc i) (fitted i))

    differs : (i : ℕ) → same_oracle (orc (suc i)) (orc i) ≡ false → orc (suc i) ≡ orc i → ⊥
    differs i e q = clash (subst (λ u. same_oracle u (orc i) ≡ true) (sym q) (oracle_equality.1 (orc i))) e

    go : (d i : ℕ) → i + d ≡ h → Reaches version S i (orc i) → Settles
    go zero i l r = settle_at i (omega (arith, l)) r (let e : h ≡ i = omega (arith, l) in subst (λ k. orc (suc k) ≡ orc k) e (sym fixed))
    go (suc d) i l r =
        (elim (same_oracle (orc (suc i)) (orc i)) as (λ b. same_oracle (orc (suc i)) (orc i) ≡ b → Settles) [
          | true ↦ λ e. settle_at i (omega (arith, l)) r (oracle_equality.0 (orc (suc i)) (orc i) e)
          | false ↦ λ e.
              go d (suc i) (omega (arith, l))
              (later r (record { unspent = unspent (orc i) (fitted i); is_next = nexts i; moves = differs i e; not_last = λ q. absurd (omega (arith, q, l, h_within)) }))
        ]) refl

    pub settles : Settles
    unfolding orc
    settles = go h 0 (omega arith) (subst (λ u. Reaches version S 0 u) (sym (St.begins version S sheet fit plain no_circle)) first)

pub yes_settles : YesSettles
yes_settles version S h sheet fit few (yes plain no_circle height) = settles version S sheet fit few plain no_circle h height
