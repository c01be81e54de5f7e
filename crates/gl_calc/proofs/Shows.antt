-- What an address shows by what is seen of formula cells.
use Rattle.std.proofs.Common.{◌≡◌, ◌⊎◌, inl, inr, Bool, true, false, if◌then◌else◌, ℕ, [], ◌∷◌, Option, Some, None, refl, sym, ap, subst, ◌∙◌, option_map}
use Rattle.gl_calculus.specs.Computation.Query.{val, Has}
use Rattle.gl_calculus.specs.Grid.Grid.{Addr}
use Rattle.gl_calculus.specs.Values.Value.{Permit, Blank, Value, Frame, Top}
use Rattle.gl_calculus.specs.Formulas.Formula.{Formula, Form, content}
use Rattle.gl_calculus.specs.Evaluation.Oracle.{status, Cover, cover}
use Rattle.gl_calculus.specs.Evaluation.Key as K
use Rattle.gl_calculus.specs.Evaluation.Key.{Cell, Outcome, same_key}
use Rattle.gl_calculus.specs.Evaluation.Reference.{shown, spilled}
use Rattle.gl_calculus.specs.Evaluation.World.{World}
use Rattle.gl_calculus.specs.Evaluation.Evaluation.{program}
use Rattle.gl_calculus.specs.Calculation.Calculation as C
use Rattle.gl_calculus.specs.Calculation.Calculation.{IsShown, TopHas, TopLoops}
use Rattle.gl_plane.specs.Entries.{offsets}
use Rattle.gl_calculus.specs.Computation.Lists.{Member}
use Rattle.gl_calculus.specs.Computation.Demanded.{Seed}
use Rattle.gl_calculus.specs.Computation.Notes.{Note}
use Rattle.gl_calculus.specs.Computation.Notes.{note_keys}
use Rattle.laws_calculus.proofs.Query.Remember.{note_has}
use Rattle.gl_calculus.specs.Grid.Grid.{Range}
use Rattle.gl_calculus.specs.Formulas.Formula.{formula_addresses}
use Rattle.gl_calculus.specs.Calculation.Memory.{Table, Notes, IsTableOf}
use Rattle.gl_calculus.specs.Calculation.Calculation.{DemandedIn}
use Rattle.laws_calculus.proofs.Calculus.Settles.{formula_listed}
use Rattle.gl_calculus.proofs.Tests.{key_equality}
use Rattle.laws_calculus.proofs.Calculus.Shows.{formula_shows, blank_shows, element_shows}
use Rattle.gl_core.specs.Results.{outcome_in}
use Rattle.gl_calc.proofs.Formulas.{key_member}

-- ---- notes by their outcomes

note_of_outcome : (ns : Notes) (k : K.Key) (o : Outcome) → outcome_in ns k ≡ Some o → (n : Note K.Key Outcome Range) × Member n ns × (n.key ≡ k) × (n.outcome ≡ o)
note_of_outcome [] k o e = absurd (cc e)
note_of_outcome (n ∷ ns) k o e = by (same_key k n.key) refl e (note_of_outcome ns k o)
  where
    by : (b : Bool) → same_key k n.key ≡ b → (if b then Some n.outcome else outcome_in ns k) ≡ Some o → (outcome_in ns k ≡ Some o → (m : Note K.Key Outcome Range) × Member m ns × (m.key ≡ k) × (m.outcome ≡ o)) → (m : Note K.Key Outcome Range) × Member m (n ∷ ns) × (m.key ≡ k) × (m.outcome ≡ o)
    by true t d r = let q : n.outcome ≡ o = cc d in (n, inl refl, sym (key_equality.0 k n.key t), q)
    by false t d r = let (m, i, j, q) = r d in (m, inr i, j, q)

unnoted : (ns : Notes) (k : K.Key) → outcome_in ns k ≡ None → Member k (note_keys ns) → ⊥
unnoted [] k e m = m
unnoted (n ∷ ns) k e m = by (same_key k n.key) refl e m (unnoted ns k)
  where
    by : (b : Bool) → same_key k n.key ≡ b → (if b then Some n.outcome else outcome_in ns k) ≡ None → (k ≡ n.key) ⊎ Member k (note_keys ns) → (outcome_in ns k ≡ None → Member k (note_keys ns) → ⊥) → ⊥
    by true t d m r = absurd (cc d)
    by false t d (inl i) r = let no : false ≡ true = sym t ∙ ap (λ u. same_key u n.key) i ∙ key_equality.1 n.key in absurd (cc no)
    by false t d (inr i) r = r d i

module _ (W : World) where
  -- what a formula cell has of which a table has a note, and one of which it has none
  pub top_has : (t : Table) (e : Frame) (a : Addr) (o : Outcome) → e ≡ Top → IsTableOf W t → Some o ≡ outcome_in t.notes (Cell e a) → TopHas W a o
  top_has t e a o q h f =
      let (n, m, i, j) = note_of_outcome t.notes (Cell e a) o (sym f) in
      let has = note_has same_key (program W) n.key n.outcome n.reads n.looked (h.true_notes n m) in
      subst (λ u. Has (program W) (Cell u a) o) q (subst (λ u. Has (program W) (Cell e a) u) j (subst (λ k. Has (program W) k n.outcome) i has))

  top_loops : (t : Table) (e : Frame) (a : Addr) (f : Formula) → e ≡ Top → content W.sheet a ≡ Some (Form f) → IsTableOf W t → None ≡ outcome_in t.notes (Cell e a) → TopLoops W a
  top_loops t e a f q d h none n = by (val (program W) n (Cell Top a)) refl
    where
      demanded : DemandedIn W (Cell Top a)
      demanded = Seed (key_member (formula_addresses W.sheet) a (formula_listed W.sheet a f d))

      by : (v : Option Outcome) → val (program W) n (Cell Top a) ≡ v → v ≡ None
      by None g = refl
      by (Some o) g = absurd (unnoted t.notes (Cell Top a) (sym (none ∙ ap (λ u. outcome_in t.notes (Cell u a)) q)) (h.complete (Cell Top a) o demanded (n, g)))

  pub cycle_seen : (t : Table) (e : Frame) (a : Addr) (f : Formula) → e ≡ Top → content W.sheet a ≡ Some (Form f) → IsTableOf W t → None ≡ outcome_in t.notes (Cell e a) → IsShown W a C.Shown.Cycle
  cycle_seen t e a f q d h none = C.cycle f d (top_loops t e a f q d h none)

  pub outcome_seen : (t : Table) (e : Frame) (a : Addr) (f : Formula) (o : Outcome) (p : Option Permit) (x : C.Shown) → e ≡ Top → content W.sheet a ≡ Some (Form f) → IsTableOf W t → Some o ≡ outcome_in t.notes (Cell e a) → p ≡ status W.oracle a → (v : Value) × (o ≡ Outcome.Value v) × (x ≡ C.Shown.Value (shown p v)) → IsShown W a x
  outcome_seen t e a f o p x q d h g s (v, m, y) =
      subst (λ u. IsShown W a u) (sym (y ∙ ap (λ u. C.Shown.Value (shown u v)) s))
      (formula_shows W a f v d (subst (λ u. TopHas W a u) m (top_has t e a o q h g)))

  -- what is shown by what is found of a cover
  pub covered_seen : (a root : Addr) (rows cols : ℕ) (x : C.Shown) → content W.sheet a ≡ None → Some (root, rows, cols) ≡ option_map offsets (cover W.oracle a) → (v : Value) × TopHas W root (Outcome.Value v) × (x ≡ C.Shown.Value (spilled (Some v) rows cols)) → IsShown W a x
  covered_seen a root rows cols x e q (v, h, y) = by (cover W.oracle a) refl q
    where
      by : (o : Option Cover) → cover W.oracle a ≡ o → Some (root, rows, cols) ≡ option_map offsets o → IsShown W a x
      by None d m = absurd (cc m)
      by (Some c) d m =
          let t : (root, rows, cols) ≡ offsets c = cc m in
          subst (λ u. IsShown W a u) (sym (y ∙ ap (λ (u : Addr × ℕ × ℕ). C.Shown.Value (spilled (Some v) u.1 u.2)) t))
          (element_shows W a c v e d (subst (λ (u : Addr × ℕ × ℕ). TopHas W u.0 (Outcome.Value v)) t h))

  pub uncovered_seen : (a : Addr) → content W.sheet a ≡ None → None ≡ option_map offsets (cover W.oracle a) → IsShown W a (C.Shown.Value Blank)
  uncovered_seen a e q = blank_shows W a e (by (cover W.oracle a) q)
    where
      by : (o : Option Cover) → None ≡ option_map offsets o → o ≡ None
      by None m = refl
      by (Some c) m = absurd (cc m)
