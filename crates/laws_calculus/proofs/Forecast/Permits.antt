-- A root has the same permit in two rounds where its size is the same and so are the entries of its rivals.
use Rattle.std.proofs.Common.{◌≡◌, ◌≢◌, ◌⊎◌, inl, inr, ◌≤◌, nat_le, true, ◌&&◌, IsTrue, IsFalse, Some, refl, sym, ◌∙◌, subst, ap}
use Rattle.gl_calculus.specs.Computation.Lists.{Member}
use Rattle.gl_calculus.specs.Grid.Grid.{Addr, is_before, Range, Size, area, covers, meets, grid, lies_in}
use Rattle.gl_calculus.specs.Values.Value.{Permit, Permitted, Refused, Entry, Oracle}
use Rattle.gl_calculus.specs.Formulas.Formula.{Cells, formula_addresses}
use Rattle.gl_calculus.specs.Evaluation.Oracle.{entry_at, area_of}
use Rattle.gl_calculus.specs.Calculation.Calculation.{has_content}
use Rattle.gl_calculus.proofs.Tests.{both, and_true}
use Rattle.gl_calculus.proofs.Grants.{before_of, not_same, clash}
use Rattle.laws_calculus.proofs.Calculus.Settles.{formula_listed}
use Rattle.gl_calculus.specs.Forecast.{cell_shape, has_box, rivals}
use Rattle.laws_calculus.proofs.Forecast.Oracles.{IsFit, entry_member, member_entry, wider_meets, filtered, shaped_formula}

swap : (r s : Range) → meets r s ≡ true → meets s r ≡ true
swap r s e =
    let (h, g) = both (nat_le r.first.row s.last.row && nat_le s.first.row r.last.row) (nat_le r.first.col s.last.col && nat_le s.first.col r.last.col) e in
    let (p, q) = both (nat_le r.first.row s.last.row) (nat_le s.first.row r.last.row) h in
    let (u, v) = both (nat_le r.first.col s.last.col) (nat_le s.first.col r.last.col) g in
    and_true _ _ (and_true _ _ q p) (and_true _ _ v u)

module _ (S : Cells) (w w' : Oracle) (fit : IsFit S w) (fit' : IsFit S w') where
  -- the entries of earlier cells whose boxes meet this one
  abbrev pub SameRivals : Addr → Size → Type 0
  SameRivals a z = (r : Addr) → Member r (rivals S a (area a z)) → entry_at w r ≡ entry_at w' r

  rival : (a : Addr) (z : Size) (x y : Entry) → cell_shape S a ≡ Some z → x.root ≡ a → x.size.rows ≤ z.rows → x.size.cols ≤ z.cols → Member y w' → is_before y.root a ≡ true → meets (area_of x) (area_of y) ≡ true → Member y.root (rivals S a (area a z))
  rival a z x y e r l k n b t =
      let (u, d, l', k') = fit'.boxed y n in
      let (f, c) = shaped_formula S y.root u d in
      let t1 : meets (area a x.size) (area_of y) ≡ true = subst (λ v. meets (area v x.size) (area_of y) ≡ true) r t in
      let t2 : meets (area a z) (area_of y) ≡ true = wider_meets a x.size z (area_of y) l k t1 in
      let t3 : meets (area y.root u) (area a z) ≡ true = wider_meets y.root y.size u (area a z) l' k' (swap (area a z) (area_of y) t2) in
      let t4 : meets (area a z) (area y.root u) ≡ true = swap (area y.root u) (area a z) t3 in
      filtered (λ v. is_before v a && has_box S (meets (area a z)) v) (formula_addresses S) y.root (formula_listed S y.root f c) (rw (b, d, t4) refl)

  never : (a : Addr) (z : Size) (x x' : Entry) → cell_shape S a ≡ Some z → SameRivals a z → Member x w → Member x' w' → x.root ≡ a → x'.root ≡ a → x.size ≡ x'.size → x.permit ≡ Permitted → x'.permit ≡ Refused → ⊥
  never a z x x' e same m m' r r' s p p' = by (fit'.permits.refused x' m' p')
    where
      areas : area_of x ≡ area_of x'
      areas = ap (λ u. area u x.size) (r ∙ sym r') ∙ ap (area x'.root) s

      by : IsFalse (lies_in (area_of x') grid)
          ⊎ ((b : Addr) × IsTrue (covers (area_of x') b) × IsTrue (has_content S b) × (b ≢ x'.root))
          ⊎ ((y : Entry) × Member y w' × (y.permit ≡ Permitted) × IsTrue (is_before y.root x'.root) × IsTrue (meets (area_of x') (area_of y))) → ⊥
      by (inl f) = clash (subst (λ u. lies_in u grid ≡ true) areas (fit.permits.inside x m p)) f
      by (inr (inl (b, c, h, n))) = n (fit.permits.alone x b m p (subst (λ u. covers u b ≡ true) (sym areas) c) h ∙ r ∙ sym r')
      by (inr (inr (y, n, q, b, t))) =
          let t' : meets (area_of x) (area_of y) ≡ true = subst (λ u. meets u (area_of y) ≡ true) (sym areas) t in
          let (v, d, l, k) = fit.boxed x m in
          let g : Some v ≡ Some z = sym d ∙ ap (cell_shape S) r ∙ e in
          let g' : v ≡ z = cc g in
          let i : Member y.root (rivals S a (area a z)) = rival a z x y e r (subst (λ u. x.size.rows ≤ u.rows) g' l) (subst (λ u. x.size.cols ≤ u.cols) g' k) n (subst (λ u. is_before y.root u ≡ true) r' b) t' in
          let o : entry_at w y.root ≡ Some y = same y.root i ∙ member_entry w' fit'.in_order y n in
          let j : Member y w = (entry_member w y.root y o).0 in
          not_same y.root x'.root (before_of y.root x'.root b) (sym (fit.permits.apart x y m j p q t') ∙ r ∙ sym r')

-- so both rounds have the same entry
pub same_entries : (S : Cells) (w w' : Oracle) (fit : IsFit S w) (fit' : IsFit S w') (a : Addr) (z : Size) (x x' : Entry) → cell_shape S a ≡ Some z → SameRivals S w w' fit fit' a z → Member x w → Member x' w' → x.root ≡ a → x'.root ≡ a → x.size ≡ x'.size → x ≡ x'
same_entries S w w' fit fit' a z x x' e same m m' r r' s = by x.permit x'.permit refl refl
  where
    equal : x.permit ≡ x'.permit → x ≡ x'
    equal p = ap (λ u. record { root = u; size = x.size; permit = x.permit }) (r ∙ sym r') ∙ ap (λ u. record { root = x'.root; size = u; permit = x.permit }) s ∙ ap (λ u. record { root = x'.root; size = x'.size; permit = u }) p

    by : (p p' : Permit) → x.permit ≡ p → x'.permit ≡ p' → x ≡ x'
    by Permitted Permitted h h' = equal (h ∙ sym h')
    by Refused Refused h h' = equal (h ∙ sym h')
    by Permitted Refused h h' = absurd (never S w w' fit fit' a z x x' e same m m' r r' s h h')
    by Refused Permitted h h' = absurd (never S w' w fit' fit a z x' x e (λ u i. sym (same u i)) m' m r' r (sym s) h' h)
