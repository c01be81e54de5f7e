-- Under two oracles of rounds a cell has the same value, where what it depends on has.
use Rattle.std.proofs.Common.{◌≡◌, inl, inr, ℕ, zero, suc, Bool, false, IsTrue, IsFalse, List, [], ◌∷◌, ◌++◌, Option, Some, Ok, Err, refl, sym, subst}
use Rattle.std.specs.List.{AllByRecursion, list_any, flat_map}
use Rattle.gl_calculus.specs.Computation.Lists.{Member}
use Rattle.gl_calculus.specs.Computation.Query.{Has, Gives, IsAsked}
use Rattle.gl_calculus.specs.Computation.Evaluation.{Done, bind, given}
use Rattle.laws_calculus.proofs.Query.Levels.{Has-one}
use Rattle.gl_calculus.specs.Grid.Grid.{Addr, single}
use Rattle.gl_calculus.specs.Values.Value.{Oracle, Top}
use Rattle.gl_calculus.specs.Formulas.Formula.{Version, Formula, Content, Form, Cells, content, formula_addresses}
use Rattle.gl_calculus.specs.Evaluation.Oracle.{entry_at}
use Rattle.gl_calculus.specs.Evaluation.Facts.{fact, facts, fact_at}
use Rattle.gl_calculus.specs.Evaluation.Key.{Key, Cell, Outcome, Settled, Abort, as_value}
use Rattle.gl_calculus.specs.Evaluation.Reference.{held_top}
use Rattle.gl_calculus.specs.Evaluation.World.{world}
use Rattle.gl_calculus.specs.Evaluation.Evaluation.{program, evaluation, cell_value, eval}
use Rattle.laws_calculus.proofs.Calculus.Proper.{fact_at_single}
use Rattle.laws_calculus.proofs.Calculus.Settles.{formula_listed}
use Rattle.gl_calculus.specs.Formulas.Fit.{is_fit, AreFit}
use Rattle.laws_calculus.proofs.Sound.References.{content_fit}
use Rattle.gl_calculus.specs.Forecast as Fo
use Rattle.gl_calculus.specs.Forecast.{Node, Entry, pieces, content_pieces, piece_nodes, piece_makes, dependences, uses_sheets, spilled_shape}
use Rattle.laws_calculus.proofs.Forecast.Alike.{Alike, both_return, both_look, alike_bind, alike_weaken, alike_asked, gives_both}
use Rattle.laws_calculus.proofs.Forecast.Oracles.{IsFit}
use Rattle.laws_calculus.proofs.Forecast.Shapes.{Fits}
use Rattle.laws_calculus.proofs.Forecast.Calls.{any_fits}
use Rattle.laws_calculus.proofs.Forecast.Reading as R
use Rattle.laws_calculus.proofs.Forecast.Reading.{Comes, Gets}
use Rattle.laws_calculus.proofs.Forecast.Evaluating as G
use Rattle.laws_calculus.proofs.Sound.Values.{IsSoundValue}
use Rattle.gl_calculus.proofs.Grants.{neither}

-- ---- lists

any_false : {X : Type 0} (test : X → Bool) (xs : List X) → list_any test xs ≡ false → (x : X) → Member x xs → test x ≡ false
any_false test [] e x m = absurd m
any_false test (y ∷ ys) e x (inl d) = subst (λ u. test u ≡ false) (sym d) (neither (test y) (list_any test ys) e).0
any_false test (y ∷ ys) e x (inr m) = any_false test ys (neither (test y) (list_any test ys) e).1 x m

pub flat_member : {X Y : Type 0} (g : X → List Y) (xs : List X) (x : X) (y : Y) → Member x xs → Member y (g x) → Member y (flat_map g xs)
flat_member g [] x y m n = absurd m
flat_member {X} {Y} g (z ∷ xs) x y (inl e) n = front (g z) (flat_map g xs) (subst (λ u. Member y (g u)) e n)
  where
    front : (us vs : List Y) → Member y us → Member y (us ++ vs)
    front [] vs m = absurd m
    front (u ∷ us) vs (inl e) = inl e
    front (u ∷ us) vs (inr m) = inr (front us vs m)
flat_member {X} {Y} g (z ∷ xs) x y (inr m) n = back (g z) (flat_member g xs x y m n)
  where
    back : (us : List Y) → Member y (flat_map g xs) → Member y (us ++ flat_map g xs)
    back [] m = m
    back (u ∷ us) m = inr (back us m)

all_from : {X : Type 0} (P : X → Type 0) (xs : List X) → ((x : X) → Member x xs → P x) → AllByRecursion P xs
all_from P [] h = tt
all_from P (x ∷ xs) h = (h x (inl refl), all_from P xs (λ y m. h y (inr m)))

module _ (version : Version) (S : Cells) (fit : AreFit S) (none : IsFalse (list_any (uses_sheets S) (formula_addresses S))) where
  -- what a cell comes to under both oracles
  pub record Both (w w' : Oracle) (a : Addr) : Type 0 where
    pub outcome : Outcome
    pub first : Has (program (world version S w)) (Cell Top a) outcome
    pub second : Has (program (world version S w')) (Cell Top a) outcome
    pub comes : Comes S (Cell Top a) outcome

  module _ (w w' : Oracle) (fits : IsFit S w) (fits' : IsFit S w') (a : Addr) (f : Formula) (e : content S a ≡ Some (Form f)) (same : (r : Addr) → Member (Entry r) (dependences S (Fo.Node.Value a)) → entry_at w r ≡ entry_at w' r) (known : (g : Addr) → Member (Fo.Node.Value g) (dependences S (Fo.Node.Value a)) → Both w w' g) where
    needs : List Node
    needs = dependences S (Fo.Node.Value a)

    fine : (n : ℕ) → G.AllFine version S fit w w' fits fits' (dependences S (Fo.Node.Value a)) same n (pieces f)
    fine n =
        all_from _ (pieces f)
        (λ p m. (
          λ k i. flat_member (piece_nodes S) (content_pieces S (content S a)) p k (subst (λ c. Member p (content_pieces S c)) (sym e) m) i,
          any_false piece_makes (pieces f) (subst (λ c. list_any piece_makes (content_pieces S c) ≡ false) e (any_false (uses_sheets S) (formula_addresses S) none a (formula_listed S a f e))) p m,
        ))

    -- an outcome within the shape to so many levels
    abbrev Within : ℕ → Outcome → Type 0
    Within n (Outcome.Value v) = IsSoundValue v × Fits (spilled_shape S (suc n) a) v
    Within n o = ⊥

    fit_formula : IsTrue (is_fit f)
    fit_formula = let h = content_fit S a fit in rw e at h

    IsNeeded : Key → Type 0
    IsNeeded = R.IsNeeded S fit w w' fits fits' (dependences S (Fo.Node.Value a)) same

    cell_alike : (n : ℕ) → Alike IsNeeded (Comes S) (Within n) (program (world version S w) (Cell Top a)) (program (world version S w') (Cell Top a))
    unfolding program evaluation cell_value IsNeeded
    cell_alike n =
        let p : fact_at (facts S w (single a)) a ≡ fact S w a = fact_at_single S w a in
        let p' : fact_at (facts S w' (single a)) a ≡ fact S w' a = fact_at_single S w' a in
        let one = λ (c : Option Content). given (facts S w) (bind (cell_value version Top (held_top c)) (λ r. Done (as_value r))) in
        let two = λ (c : Option Content). given (facts S w') (bind (cell_value version Top (held_top c)) (λ r. Done (as_value r))) in
        let body : Alike IsNeeded (Comes S) (Within n) (one (Some (Form f))) (two (Some (Form f))) =
        alike_bind IsNeeded (Comes S) (Gets (λ v. IsSoundValue v × Fits (Fo.shape (spilled_shape S n) [] f) v)) (Within n) (facts S w) (facts S w') (λ r. Done (as_value r)) (λ r. Done (as_value r))
        (elim [ Ok v ↦ λ k. both_return {r = Outcome.Value v} (k.0, subst (λ c. Fits (Fo.content_shape (spilled_shape S n) c) v) (sym e) k.1) | Err b ↦ λ k. absurd k ])
        (eval version Top [] f) (eval version Top [] f)
        (alike_weaken (Gets (G.IsFrom version S fit w w' fits fits' (dependences S (Fo.Node.Value a)) same n [] f)) (Gets (λ v. IsSoundValue v × Fits (Fo.shape (spilled_shape S n) [] f) v)) (elim [ Ok v ↦ λ k. (k.0, k.1) | Err b ↦ λ k. absurd k ])
        (G.eval_good version S fit w w' fits fits' (dependences S (Fo.Node.Value a)) same n [] [] f tt fit_formula (fine n))) in
        both_look
        (subst (λ u. Alike IsNeeded (Comes S) (Within n) (one u.content) (two (fact_at (facts S w' (single a)) a).content)) (sym p)
        (subst (λ u. Alike IsNeeded (Comes S) (Within n) (one (content S a)) (two u.content)) (sym p')
        (subst (λ c. Alike IsNeeded (Comes S) (Within n) (one c) (two c)) (sym e) body)))

    outcomes : (k : Key) → IsNeeded k → (o : Outcome) × Has (program (world version S w)) k o × Has (program (world version S w')) k o × Comes S k o
    unfolding IsNeeded
    outcomes k (g, d, m) = let b = known g m in (b.outcome, subst (λ u. Has (program (world version S w)) u b.outcome) (sym d) b.first, subst (λ u. Has (program (world version S w')) u b.outcome) (sym d) b.second, subst (λ u. Comes S u b.outcome) (sym d) b.comes)

    gives_has : (u : Oracle) (o : Outcome) → Gives (program (world version S u)) (program (world version S u) (Cell Top a)) o → Has (program (world version S u)) (Cell Top a) o
    gives_has u o (n, h) = (suc n, h)

    at_level : (n : ℕ) → (o : Outcome) × Has (program (world version S w)) (Cell Top a) o × Has (program (world version S w')) (Cell Top a) o × Within n o
    at_level n = let (o, h, h', k) = gives_both (program (world version S w)) (program (world version S w')) IsNeeded (Comes S) outcomes (cell_alike n) in (o, gives_has w o h, gives_has w' o h', k)

    comes_all : (o : Outcome) → Within 0 o → ((n : ℕ) → Within n o) → Comes S (Cell Top a) o
    comes_all (Outcome.Value v) z h = (z.0, λ n. by n)
      where
        by : (n : ℕ) → Fits (spilled_shape S n a) v
        by zero = any_fits v z.0
        by (suc n) = (h n).1
    comes_all (Settled o) z h = absurd z
    comes_all (Abort b) z h = absurd z

    pub both_values : Both w w' a
    both_values =
        let (o, h, h', k) = at_level 0 in
        record {
          outcome = o;
          first = h;
          second = h';
          comes = comes_all o k (λ n. let (p, q, q', l) = at_level n in subst (Within n) (Has-one (program (world version S w)) (Cell Top a) p o q h) l);
        }

    comes_of : (k : Key) (o : Outcome) → IsNeeded k → Has (program (world version S w)) k o → Comes S k o
    comes_of k o p h = let (x, g, g', c) = outcomes k p in subst (Comes S k) (Has-one (program (world version S w)) k x o g h) c

    -- the keys that the cell asks for
    pub asks : (j : Key) → IsAsked (program (world version S w)) (program (world version S w) (Cell Top a)) j → (g : Addr) × (j ≡ Cell Top g) × Member (Fo.Node.Value g) (dependences S (Fo.Node.Value a))
    unfolding IsNeeded
    asks j i = alike_asked (program (world version S w)) IsNeeded (Comes S) (Within 0) comes_of (cell_alike 0) j i
