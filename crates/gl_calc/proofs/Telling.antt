-- What the table of a settled calculation tells of formula cells.
use Rattle.std.proofs.Common.{◌≡◌, ◌⊎◌, inl, inr, ℕ, Bool, true, false, if◌then◌else◌, ◌-◌, List, [], ◌∷◌, Option, Some, None, option_map, refl, sym, subst, ap, ◌∙◌}
use Rattle.std.specs.List.{AllByRecursion}
use Rattle.gl_calculus.specs.Computation.Lists.{Member}
use Rattle.gl_calculus.specs.Computation.Demanded.{Seed}
use Rattle.gl_calculus.specs.Computation.Notes.{note_keys}
use Rattle.laws_calculus.proofs.Query.Levels.{Has-Loops}
use Rattle.gl_calculus.specs.Grid.Grid.{Addr, Size, grid}
use Rattle.gl_calculus.specs.Values.Value.{Permit, Oracle, Value, Array, Frame, Top}
use Rattle.gl_calculus.specs.Formulas.Formula.{Version, Cells, IsSheet, formula_addresses}
use Rattle.gl_calculus.specs.Evaluation.Oracle.{sizes_of, Cover, cover, spills_over}
use Rattle.gl_calculus.specs.Evaluation.Key as K
use Rattle.gl_calculus.specs.Evaluation.Key.{Cell, Outcome, Settled, Abort, same_key}
use Rattle.gl_calculus.specs.Evaluation.World.{World, world}
use Rattle.gl_calculus.specs.Evaluation.Evaluation.{program}
use Rattle.gl_calculus.specs.Calculation.Calculation as C
use Rattle.gl_calculus.specs.Calculation.Calculation.{has_content, is_abort, TopHas, TopFails, DemandedIn, IsNext, Ends, settled}
use Rattle.gl_calculus.specs.Calculation.Memory.{Table, Notes, IsTableOf}
use Rattle.laws_calculus.proofs.Calculus.Fits.{outcomes_fit}
use Rattle.gl_calculus.proofs.Grants.{grant_permits}
use Rattle.laws_calculus.proofs.Calculus.Proved.{one_outcome}
use Rattle.laws_calculus.proofs.Calculus.Settles.{formula_order, formula_listed, size_of_entry, array_order, array_has}
use Rattle.gl_calculus.proofs.Tests.{key_equality}
use Rattle.gl_plane.specs.Entries.{offsets}
use Rattle.gl_core.specs.Results.{outcome_in}
use Rattle.gl_calc.specs.Ending.{IsSettledTable}
use Rattle.gl_calc.specs.Shown.{HasValue, TellsValues}
use Rattle.gl_calc.proofs.Formulas.{key_member}
use Rattle.gl_calc.proofs.Shows.{top_has}

-- a key that has a note has an outcome there
noted : (ns : Notes) (k : K.Key) → Member k (note_keys ns) → (o : Outcome) × (Some o ≡ outcome_in ns k)
noted [] k m = absurd m
noted (n ∷ ns) k m = by (same_key k n.key) refl m (noted ns k)
  where
    by : (b : Bool) → same_key k n.key ≡ b → (k ≡ n.key) ⊎ Member k (note_keys ns) → (Member k (note_keys ns) → (o : Outcome) × (Some o ≡ outcome_in ns k)) → (o : Outcome) × (Some o ≡ (if b then Some n.outcome else outcome_in ns k))
    by true t m r = (n.outcome, refl)
    by false t (inl i) r = let no : false ≡ true = sym t ∙ ap (λ u. same_key u n.key) i ∙ key_equality.1 n.key in absurd (cc no)
    by false t (inr i) r = r i

fails_at : (W : World) (rest : List Addr) (a : Addr) → Member a rest → AllByRecursion (TopFails W is_abort) rest → TopFails W is_abort a
fails_at W [] a m fs = absurd m
fails_at W (b ∷ rest) a (inl e) (f, fs) = subst (TopFails W is_abort) (sym e) f
fails_at W (b ∷ rest) a (inr m) (f, fs) = fails_at W rest a m fs

-- a covering root has an entry
covering : (w : Oracle) (a : Addr) (c : Cover) → cover w a ≡ Some c → (z : Size) × (p : Permit) × Member (record { root = c.root; size = z; permit = p }) w
covering [] a c e = absurd (cc e)
covering (x ∷ xs) a c e =
    (elim (spills_over a x) as (λ b. (if b then Some (record { root = x.root; rows = a.row - x.root.row; cols = a.col - x.root.col }) else cover xs a) ≡ Some c → (z : Size) × (p : Permit) × Member (record { root = c.root; size = z; permit = p }) (x ∷ xs)) [
      | true ↦ λ h. let r : x.root ≡ c.root = cc h in (x.size, x.permit, inl (ap (λ u. record { root = u; size = x.size; permit = x.permit }) (sym r)))
      | false ↦ λ h. let (z, p, m) = covering xs a c h in (z, p, inr m)
    ]) e

settled_next : (version : Version) (S : Cells) (i : ℕ) (v w : Oracle) (n : ℕ) → Ends version S i v (C.Answer.Settled w n) → IsNext (world version S w) w
settled_next version S i v w n (settled u next) = next

module _ (W : World) where
  -- what is no spent budget is a value
  only_value : (a : Addr) (o : Outcome) → TopHas W a o → (is_abort o ≡ true → ⊥) → (v : Value) × (o ≡ Outcome.Value v)
  only_value a (Outcome.Value v) h f = (v, refl)
  only_value a (Settled s) h f = let no : false ≡ true = outcomes_fit W (Cell Top a) (Settled s) h in absurd (cc no)
  only_value a (Abort b) h f = absurd (f refl)

  unspent_value : (a : Addr) (o : Outcome) → TopHas W a o → TopFails W is_abort a → (v : Value) × (o ≡ Outcome.Value v)
  unspent_value a o h (inl l) = absurd (Has-Loops (program W) (Cell Top a) o h l)
  unspent_value a o h (inr (p, g, t)) = only_value a o h (λ e. (let no : false ≡ true = sym t ∙ ap is_abort (one_outcome W (Cell Top a) p o g h) ∙ e in absurd (cc no)))

  -- a covering root is a formula cell with an array
  root_has : IsSheet W.sheet → IsNext W W.oracle → (a : Addr) (c : Cover) → cover W.oracle a ≡ Some c → Member c.root (formula_addresses W.sheet) × (v : Value) × TopHas W c.root (Outcome.Value v)
  root_has o (zs, arrays, e) a c d =
      let sizes : sizes_of W.oracle ≡ zs = ap sizes_of e ∙ (grant_permits grid (has_content W.sheet) zs (array_order W (formula_addresses W.sheet) zs arrays (formula_order W.sheet o))).0 in
      let (z, p, m) = covering W.oracle a c d in
      let (n, t) = array_has W (formula_addresses W.sheet) zs arrays c.root z (subst (λ u. Member (c.root, z) u) sizes (size_of_entry W.oracle c.root z p m)) in
      (n, Array z t.0, t.1)

  -- a formula cell with a value has it in the table
  value_told : (t : Table) (a : Addr) (v : Value) → IsTableOf W t → Member a (formula_addresses W.sheet) → TopHas W a (Outcome.Value v) → HasValue t a
  value_told t a v q m h =
      let demanded : DemandedIn W (Cell Top a) = Seed (key_member (formula_addresses W.sheet) a m) in
      let (o, e) = noted t.notes (Cell Top a) (q.complete (Cell Top a) (Outcome.Value v) demanded h) in
      let same : o ≡ Outcome.Value v = one_outcome W (Cell Top a) o (Outcome.Value v) (top_has W t Top a o refl q e) h in
      (v, subst (λ u. Some u ≡ outcome_in t.notes (Cell Top a)) same e)

pub settled_tells : (version : Version) (S : Cells) (rounds : ℕ) (t : Table) → IsSheet S → IsSettledTable version S rounds t → TellsValues S t
settled_tells version S rounds t o h = record {
  formulas = λ a f d p e. unspent_value (world version S t.oracle) a p (top_has (world version S t.oracle) t Top a p refl h.table e) (fails_at (world version S t.oracle) (formula_addresses S) a (formula_listed S a f d) h.unspent.no_abort);
  roots = λ a c d.
      let next : IsNext (world version S t.oracle) t.oracle = settled_next version S h.answer.round h.answer.oracle t.oracle rounds h.answer.ends in
      let (m, v, g) = root_has (world version S t.oracle) o next a c d in
      value_told (world version S t.oracle) t c.root v h.table m g;
}

-- a cover that is found, with its rows and columns, is of a root that the table tells a value of
pub cover_told : (t : Table) (a root : Addr) (rows cols : ℕ) → ((c : Cover) → cover t.oracle a ≡ Some c → HasValue t c.root) → Some (root, rows, cols) ≡ option_map offsets (cover t.oracle a) → HasValue t root
cover_told t a root rows cols h q = by (cover t.oracle a) refl q
  where
    by : (o : Option Cover) → cover t.oracle a ≡ o → Some (root, rows, cols) ≡ option_map offsets o → HasValue t root
    by None d m = absurd (cc m)
    by (Some c) d m =
        let u : (root, rows, cols) ≡ offsets c = cc m in
        subst (HasValue t) (sym (ap (λ (x : Addr × ℕ × ℕ). x.0) u)) (h c d)

-- where a value is told, the outcome that is found is that value
pub told_value : (t : Table) (e : Frame) (a : Addr) (o : Outcome) → e ≡ Top → HasValue t a → Some o ≡ outcome_in t.notes (Cell e a) → (v : Value) × (o ≡ Outcome.Value v)
told_value t e a o q (v, h) d =
    let same : Some o ≡ Some (Outcome.Value v) = subst (λ u. Some o ≡ outcome_in t.notes (Cell u a)) q d ∙ sym h in
    (v, cc same)

-- and one is found
pub told_some : (t : Table) (e : Frame) (a : Addr) → e ≡ Top → HasValue t a → None ≡ outcome_in t.notes (Cell e a) → ⊥
told_some t e a q (v, h) d =
    let no : None ≡ Some (Outcome.Value v) = subst (λ u. None ≡ outcome_in t.notes (Cell u a)) q d ∙ sym h in
    absurd (cc no)
