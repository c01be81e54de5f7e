-- A calculation has at most one answer, and an address shows at most one thing.
use Rattle.std.proofs.Common.{◌≡◌, ◌⊎◌, inl, inr, ℕ, zero, suc, ◌<◌, List, [], ◌∷◌, Bool, true, Option, Some, None, Result, Ok, refl, sym, ◌∙◌, subst, ap, arith}
use Rattle.std.specs.List.{AllByRecursion}
use Rattle.std.proofs.lemmas.Bool.{cases_order}
use Rattle.gl_calculus.specs.Computation.Query.{Query, Return, Look, Ask, next, run, val, Gives}
use Rattle.gl_calculus.specs.Computation.Evaluation.{given}
use Rattle.laws_calculus.proofs.Query.Levels.{Has-one, Has-Loops}
use Rattle.gl_calculus.specs.Grid.Grid.{Addr, single, grid}
use Rattle.gl_calculus.specs.Values.Value.{Oracle, Scalar, Value, One, Array, Top}
use Rattle.gl_calculus.specs.Formulas.Formula.{Version, Formula, Content, Const, Form, Cells, content, formula_addresses}
use Rattle.gl_calculus.specs.Evaluation.Oracle.{Sizes, grant, first_difference, Cover, cover}
use Rattle.gl_calculus.specs.Evaluation.Key.{Cell, Budget, Outcome, Abort, give, ◌>>=◌}
use Rattle.gl_calculus.specs.Evaluation.Facts.{Fact, fact, facts, fact_at}
use Rattle.gl_calculus.specs.Evaluation.Reference.{own, spilled, deref, at_address}
use Rattle.gl_calculus.specs.Evaluation.World.{World, world}
use Rattle.gl_calculus.specs.Evaluation.Evaluation.{program, evaluation, cell_value}
use Rattle.gl_calculus.specs.Calculation.Calculation as C
use Rattle.gl_calculus.specs.Calculation.Calculation.{Answer, Spent, spent_at, has_content, is_array, is_abort, TopHas, TopFails, Arrays, none, array, other, IsNext, FirstAbort, here, behind, GoesOn, Reaches, first, later, Ends, work, abort, settled, rounds, IsAnswer, TopLoops, Shown, IsShown, cycle, value, blank}
use Rattle.gl_calculus.proofs.Tests.{entry_same}
use Rattle.laws_calculus.proofs.Calculus.Proper.{fact_at_single}
use Rattle.gl_calculus.proofs.Grants.{clash}

no_difference : (w : Oracle) → first_difference w w ≡ None
no_difference [] = refl
no_difference (x ∷ xs) = rw (entry_same x, no_difference xs) refl

module _ (version : Version) (S : Cells) where
  fails_not : (test : Outcome → Bool) (w : Oracle) (a : Addr) (o : Outcome) → test o ≡ true → TopHas (world version S w) a o → TopFails (world version S w) test a → ⊥
  fails_not test w a o t h (inl l) = Has-Loops (program (world version S w)) (Cell Top a) o h l
  fails_not test w a o t h (inr (p, g, f)) = clash (subst (λ u. test u ≡ true) (Has-one (program (world version S w)) (Cell Top a) o p h g) t) f

  one_arrays : (w : Oracle) (rest : List Addr) (ys zs : Sizes) → Arrays (world version S w) rest ys → Arrays (world version S w) rest zs → ys ≡ zs
  one_arrays w [] _ _ none none = refl
  one_arrays w (a ∷ rest) _ _ (array {z = y} {zs = ys} xs g r) (array {z = z} {zs = zs} vs h s) =
      let q : Outcome.Value (Array y xs) ≡ Outcome.Value (Array z vs) = Has-one (program (world version S w)) (Cell Top a) _ _ g h in
      let e : y ≡ z = cc q in
      ap (λ u. (a, u) ∷ ys) e ∙ ap (λ u. (a, z) ∷ u) (one_arrays w rest ys zs r s)
  one_arrays w (a ∷ rest) _ _ (array {z = y} xs g r) (other f s) = absurd (fails_not is_array w a (Outcome.Value (Array y xs)) refl g f)
  one_arrays w (a ∷ rest) _ _ (other f r) (array {z = z} vs h s) = absurd (fails_not is_array w a (Outcome.Value (Array z vs)) refl h f)
  one_arrays w (a ∷ rest) _ _ (other f r) (other g s) = one_arrays w rest _ _ r s

  one_next : (w u v : Oracle) → IsNext (world version S w) u → IsNext (world version S w) v → u ≡ v
  one_next w u v (ys, r, e) (zs, s, f) = e ∙ ap (λ t. grant grid (has_content S) t) (one_arrays w (formula_addresses S) ys zs r s) ∙ sym f

  no_abort_first : (w : Oracle) (rest : List Addr) (a : Addr) (b : Budget) → AllByRecursion (TopFails (world version S w) is_abort) rest → FirstAbort (world version S w) rest a b → ⊥
  no_abort_first w [] a b fs e = elim e [ ]
  no_abort_first w (c ∷ rest) a b (f, fs) (here {b = d} h) = fails_not is_abort w c (Abort d) refl h f
  no_abort_first w (c ∷ rest) a b (f, fs) (behind g r) = no_abort_first w rest a b fs r

  one_abort : (w : Oracle) (rest : List Addr) (a c : Addr) (b d : Budget) → FirstAbort (world version S w) rest a b → FirstAbort (world version S w) rest c d → (a ≡ c) × (b ≡ d)
  one_abort w [] a c b d e _ = elim e [ ]
  one_abort w (e ∷ rest) _ _ b d (here g) (here h) =
      let q : Abort b ≡ Abort d = Has-one (program (world version S w)) (Cell Top e) _ _ g h in
      let s : b ≡ d = cc q in
      (refl, s)
  one_abort w (e ∷ rest) _ _ b d (here g) (behind f r) = absurd (fails_not is_abort w e (Abort b) refl g f)
  one_abort w (e ∷ rest) _ _ b d (behind f r) (here h) = absurd (fails_not is_abort w e (Abort d) refl h f)
  one_abort w (e ∷ rest) a c b d (behind f r) (behind g s) = one_abort w rest a c b d r s

  -- a round that ends doesn't go on
  pub ends_not_on : (i : ℕ) (w next : Oracle) (r : Answer) → Ends version S i w r → GoesOn version S i w next → ⊥
  ends_not_on i w next _ (work s) g = g.unspent.work s
  ends_not_on i w next _ (abort n f) g = no_abort_first w (formula_addresses S) _ _ g.unspent.no_abort f
  ends_not_on i w next _ (settled u n) g = g.moves (one_next w next w g.is_next n)
  ends_not_on i w next _ (rounds v u n d l) g = g.not_last l

  -- a round ends in one way
  one_end : (i : ℕ) (w : Oracle) (r s : Answer) → Ends version S i w r → Ends version S i w s → r ≡ s
  one_end i w _ _ (work a) (work b) = refl
  one_end i w _ _ (work a) (abort n f) = absurd (n a)
  one_end i w _ _ (work a) (settled u n) = absurd (u.work a)
  one_end i w _ _ (work a) (rounds v u n d l) = absurd (u.work a)
  one_end i w _ _ (abort n f) (work b) = absurd (n b)
  one_end i w _ _ (abort {a = a} {b = b} n f) (abort {a = c} {b = d} m g) =
      let (p, q) = one_abort w (formula_addresses S) a c b d f g in
      ap (λ u. Spent (spent_at b u)) p ∙ ap (λ u. Spent (spent_at u c)) q
  one_end i w _ _ (abort n f) (settled u m) = absurd (no_abort_first w (formula_addresses S) _ _ u.no_abort f)
  one_end i w _ _ (abort n f) (rounds v u m d l) = absurd (no_abort_first w (formula_addresses S) _ _ u.no_abort f)
  one_end i w _ _ (settled u n) (work b) = absurd (u.work b)
  one_end i w _ _ (settled u n) (abort m f) = absurd (no_abort_first w (formula_addresses S) _ _ u.no_abort f)
  one_end i w _ _ (settled u n) (settled t m) = refl
  one_end i w _ _ (settled u n) (rounds {a = a} v t m d l) = absurd (differs w v a (one_next w w v n m) d)
    where
      differs : (w v : Oracle) (a : Addr) → w ≡ v → first_difference w v ≡ Some a → ⊥
      differs w v a e d = let q : None ≡ Some a = sym (no_difference w) ∙ subst (λ t. first_difference w t ≡ Some a) (sym e) d in absurd (cc q)
  one_end i w _ _ (rounds v u n d l) (work b) = absurd (u.work b)
  one_end i w _ _ (rounds v u n d l) (abort m f) = absurd (no_abort_first w (formula_addresses S) _ _ u.no_abort f)
  one_end i w _ _ (rounds {a = a} v u n d l) (settled t m) = absurd (differs w v a (one_next w w v m n) d)
    where
      differs : (w v : Oracle) (a : Addr) → w ≡ v → first_difference w v ≡ Some a → ⊥
      differs w v a e d = let q : None ≡ Some a = sym (no_difference w) ∙ subst (λ t. first_difference w t ≡ Some a) (sym e) d in absurd (cc q)
  one_end i w _ _ (rounds {a = a} v u n d l) (rounds {a = c} y t m e k) =
      let q : Some a ≡ Some c = sym d ∙ ap (λ z. first_difference w z) (one_next w v y n m) ∙ e in
      let s : a ≡ c = cc q in
      ap (λ z. Spent (C.SpentKind.Rounds z)) s

  pub one_round : (i : ℕ) (w v : Oracle) → Reaches version S i w → Reaches version S i v → w ≡ v
  one_round zero _ _ first first = refl
  one_round (suc i) w v (later {w = x} r g) (later {w = y} s h) =
      let e : x ≡ y = one_round i x y r s in
      one_next y w v (subst (λ u. IsNext (world version S u) w) e g.is_next) h.is_next

  -- a later round comes after one that goes on
  here_or_before : (i j : ℕ) (w y next : Oracle) → Reaches version S i w → Reaches version S j y → GoesOn version S j y next → (i ≡ j) ⊎ ((i < j) ⊎ (j < i)) → i < suc j → (i < j → (n : Oracle) × GoesOn version S i w n) → (n : Oracle) × GoesOn version S i w n
  here_or_before i j w y next r t g (inl e) l h =
      let r' : Reaches version S j w = subst (λ k. Reaches version S k w) e r in
      let q : y ≡ w = one_round j y w t r' in
      (next, subst (λ k. GoesOn version S k w next) (sym e) (subst (λ u. GoesOn version S j u next) q g))
  here_or_before i j w y next r t g (inr (inl q)) l h = h q
  here_or_before i j w y next r t g (inr (inr q)) l h = absurd (omega (arith, l, q))

  pub goes_on : (i j : ℕ) (w v : Oracle) → Reaches version S i w → Reaches version S j v → i < j → (n : Oracle) × GoesOn version S i w n
  goes_on i zero w v r s l = absurd (omega (arith, l))
  goes_on i (suc j) w v r (later {w = y} t g) l = here_or_before i j w y v r t g (cases_order i j) l (λ q. goes_on i j w y r t q)

  same_round : (r s : Answer) (a : IsAnswer version S r) (b : IsAnswer version S s) → (a.round ≡ b.round) ⊎ ((a.round < b.round) ⊎ (b.round < a.round)) → r ≡ s
  same_round r s a b (inl e) =
      let t : Reaches version S b.round a.oracle = subst (λ k. Reaches version S k a.oracle) e a.reached in
      let q : a.oracle ≡ b.oracle = one_round b.round a.oracle b.oracle t b.reached in
      one_end b.round b.oracle r s (subst (λ u. Ends version S b.round u r) q (subst (λ k. Ends version S k a.oracle r) e a.ends)) b.ends
  same_round r s a b (inr (inl l)) = let (n, g) = goes_on a.round b.round a.oracle b.oracle a.reached b.reached l in absurd (ends_not_on a.round a.oracle n r a.ends g)
  same_round r s a b (inr (inr l)) = let (n, g) = goes_on b.round a.round b.oracle a.oracle b.reached a.reached l in absurd (ends_not_on b.round b.oracle n s b.ends g)

  pub one_answer : (r s : Answer) → IsAnswer version S r → IsAnswer version S s → r ≡ s
  one_answer r s a b = same_round r s a b (cases_order a.round b.round)

-- ---- what is shown

-- a query gives at most one result
pub one_result : {K O A R : Type 0} (program : K → Query K O A O) (q : Query K O A R) (r s : R) → Gives program q r → Gives program q s → r ≡ s
one_result program (Return x) r s (n, e) (m, f) = let g : Some r ≡ Some s = sym e ∙ f in cc g
one_result program (Look a q) r s e f = one_result program q r s e f
one_result program (Ask k c) r s (n, e) (m, f) =
    (elim (val program n k) as (λ v. val program n k ≡ v → next None v (λ o. run (val program n) (c o)) ≡ Some r → r ≡ s) [
      | None ↦ λ u z. absurd (cc z)
      | Some o ↦ λ u z. (elim (val program m k) as (λ v. val program m k ≡ v → next None v (λ o. run (val program m) (c o)) ≡ Some s → r ≡ s) [
        | None ↦ λ t y. absurd (cc y)
        | Some p ↦ λ t y. one_result program (c o) r s (n, z) (m, subst (λ i. run (val program m) (c i) ≡ Some s) (Has-one program k p o (m, t) (n, u)) y)
      ]) refl f
    ]) refl e

module _ (W : World) (a : Addr) where
  abbrev reading : ℕ → Fact → Option (Result Value Budget)
  reading n x = run (val (program W) n) (given (facts W.sheet W.oracle) (deref Top x >>= λ y. give (One y)))

  loops_at : (n : ℕ) (f : Formula) → content W.sheet a ≡ Some (Form f) → val (program W) n (Cell Top a) ≡ None → reading n (fact W.sheet W.oracle a) ≡ None
  loops_at n f c l = rw (c, l) refl

  -- a formula that loops shows no scalar
  looping_shows_none : (f : Formula) (x : Scalar) → content W.sheet a ≡ Some (Form f) → TopLoops W a → Gives (program W) (given (facts W.sheet W.oracle) (at_address Top a)) (Ok (One x)) → ⊥
  looping_shows_none f x c l (n, e) =
      let p : reading n (fact_at (facts W.sheet W.oracle (single a)) a) ≡ None = subst (λ u. reading n u ≡ None) (sym (fact_at_single W.sheet W.oracle a)) (loops_at n f c (l n)) in
      let q : None ≡ Some (Ok (One x)) = sym p ∙ e in
      absurd (cc q)

  constant_ends : (r : Addr) (y : Scalar) → content W.sheet r ≡ Some (Const y) → val (program W) 1 (Cell Top r) ≡ None → ⊥
  unfolding program evaluation cell_value
  constant_ends r y u e = absurd (cc (rw (fact_at_single W.sheet W.oracle r, u) at e))

  nothing_ends : (r : Addr) → content W.sheet r ≡ None → val (program W) 1 (Cell Top r) ≡ None → ⊥
  unfolding program evaluation cell_value
  nothing_ends r u e = absurd (cc (rw (fact_at_single W.sheet W.oracle r, u) at e))

  covered_reading : ℕ → Cover → Fact → Option (Result Value Budget)
  covered_reading n c x = run (val (program W) n) (given (facts W.sheet W.oracle) ((own Top x >>= λ (v : Option Value). give {R = Scalar} (spilled v c.rows c.cols)) >>= λ y. give {R = Value} (One y)))

  -- no more does an address under a root that loops
  under_loop_shows_none : (c : Cover) (x : Scalar) → content W.sheet a ≡ None → cover W.oracle a ≡ Some c → TopLoops W c.root → Gives (program W) (given (facts W.sheet W.oracle) (at_address Top a)) (Ok (One x)) → ⊥
  unfolding covered_reading
  under_loop_shows_none c x d q l (n, e) = by (content W.sheet c.root) refl
    where
      root_none : (o : Option Content) → content W.sheet c.root ≡ o → covered_reading n c (fact W.sheet W.oracle c.root) ≡ None
      root_none (Some (Form f)) u = rw (u, l n) refl
      root_none (Some (Const y)) u = absurd (constant_ends c.root y u (l 1))
      root_none None u = absurd (nothing_ends c.root u (l 1))

      by : (o : Option Content) → content W.sheet c.root ≡ o → ⊥
      by o u =
          let r : covered_reading n c (fact_at (facts W.sheet W.oracle (single c.root)) c.root) ≡ None = subst (λ t. covered_reading n c t ≡ None) (sym (fact_at_single W.sheet W.oracle c.root)) (root_none o u) in
          let p : reading n (fact W.sheet W.oracle a) ≡ None = rw (d, q) r in
          let p' : reading n (fact_at (facts W.sheet W.oracle (single a)) a) ≡ None = subst (λ t. reading n t ≡ None) (sym (fact_at_single W.sheet W.oracle a)) p in
          let z : None ≡ Some (Ok (One x)) = sym p' ∙ e in
          absurd (cc z)

  pub one_shown : (x y : Shown) → IsShown W a x → IsShown W a y → x ≡ y
  one_shown _ _ (cycle f c l) (cycle g d k) = refl
  one_shown _ _ (cycle f c l) (value {x = y} h) = absurd (looping_shows_none f y c l h)
  one_shown _ _ (value {x = x} h) (cycle f c l) = absurd (looping_shows_none f x c l h)
  one_shown _ _ (blank c d q l) (blank c' d' q' l') = refl
  one_shown _ _ (blank c d q l) (cycle f e k) = let z : None ≡ Some (Form f) = sym d ∙ e in absurd (cc z)
  one_shown _ _ (cycle f e k) (blank c d q l) = let z : None ≡ Some (Form f) = sym d ∙ e in absurd (cc z)
  one_shown _ _ (blank c d q l) (value {x = y} h) = absurd (under_loop_shows_none c y d q l h)
  one_shown _ _ (value {x = y} h) (blank c d q l) = absurd (under_loop_shows_none c y d q l h)
  one_shown _ _ (value {x = x} h) (value {x = y} g) =
      let e : Ok (One x) ≡ Ok (One y) = one_result (program W) (given (facts W.sheet W.oracle) (at_address Top a)) _ _ h g in
      let f : x ≡ y = cc e in
      ap (λ u. Shown.Value u) f
