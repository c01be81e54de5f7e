-- The areas over a column, while its rows are passed downwards.
use Rattle.std.proofs.Common.{◌≡◌, ◌⊎◌, inl, inr, ℕ, zero, suc, ◌+◌, ◌-◌, ◌<◌, ◌≤◌, nat_le, Bool, true, false, ◌&&◌, cond, List, [], ◌∷◌, ◌++◌, length, get_or, refl, sym, subst, ap, ◌∙◌, arith, append-nil, length-append}
use Rattle.std.specs.Prelude.{Option, Some, None, slice_get}
use Rattle.std.specs.Option.{option_to_list}
use Rattle.std.proofs.lemmas.Bool.{and_parts, and_from, cases_eq, cases_order, le-leb}
use Rattle.std.proofs.lemmas.List.{get_or_append_left, get_or_push}
use Rattle.std.proofs.lemmas.Option.{slice_get_within}
use Rattle.gl_calculus.specs.Computation.Lists.{Member}
use Rattle.gl_calculus.specs.Grid.Limits.{max_formulas}
use Rattle.gl_calculus.specs.Grid.Grid.{Addr, addr, Range}
use Rattle.gl_graph.specs.Search.{Rises, passes, last_of}
use Rattle.gl_graph.proofs.Rising.{member_push, member_before, member_last, rises_push, rises_before, rises_last}
use Rattle.gl_graph.proofs.Cut.{last_push, by_last}
use Rattle.gl_flow.specs.Places.{are_in_order, StandsAt}
use Rattle.gl_flow.specs.Columns.{IsGreatest, none, some, BoxAt, AreRooted, CoversAt, IsLast, IsColumn, in_column, has_ended, IsOver, IsDown, IsStack, new_over, AreAbove, AreBelow, is_in_row, one_more}
use Rattle.gl_flow.proofs.Placing.{in_order, before_is}
use borrow.Author.Tests.{ltb-true, ltb-false, leb-true, leb-false}

-- the same property otherwise said
pub greatest_same : {P Q : ℕ → Type 0} {n : ℕ} → ((k : ℕ) → P k → Q k) → ((k : ℕ) → Q k → P k) → IsGreatest P n → IsGreatest Q n
greatest_same to back (none h) = none (λ k q. h k (back k q))
greatest_same to back (some p h) = some (to _ p) (λ j q. h j (back j q))

module _ (boxes : List (Option Range)) (column row : ℕ) where
  abbrev ends : ℕ → Bool
  ends k = has_ended row (slice_get boxes k)

  ended : (k : ℕ) (b : Range) → BoxAt boxes k b → ends k ≡ true → b.last.row < row
  ended k b at e = ltb-true b.last.row row (sym (ap (has_ended row) at) ∙ e)

  lasts : (k : ℕ) (b : Range) → BoxAt boxes k b → ends k ≡ false → row ≤ b.last.row
  lasts k b at e = let u = ltb-false b.last.row row (sym (ap (has_ended row) at) ∙ e) in omega (arith, u)

  module _ (next : ℕ) where
    pub cut_on : (stack rest : List ℕ) (r : Option ℕ) → stack ≡ rest ++ option_to_list r → passes ends (last_of stack) ≡ true → IsStack boxes column row next stack → IsStack boxes column row next rest
    cut_on stack rest None e h s = subst (λ t. IsStack boxes column row next t) (e ∙ append-nil rest) s
    cut_on stack rest (Some x) e h s = record {
      rises = rises_before rest x (subst Rises e s.rises);
      from = λ k m. s.from k (subst (λ t. Member k t) (sym e) (member_before k x rest m));
      all = λ k d. by k d (member_push k x rest (subst (λ t. Member k t) e (s.all k d)));
    }
      where
        over : ends x ≡ true
        over = sym (ap (passes ends) (ap last_of e ∙ last_push rest x)) ∙ h

        by : (k : ℕ) → IsDown boxes column row next k → Member k rest ⊎ (k ≡ x) → Member k rest
        by k d (inl m) = m
        by k d (inr u) = absurd (omega (arith, ended k d.0.box d.0.at (subst (λ t. ends t ≡ true) (sym u) over), d.1))

    pub cut_top : (stack : List ℕ) → passes ends (last_of stack) ≡ false → IsStack boxes column row next stack → IsGreatest (IsDown boxes column row next) (one_more (last_of stack))
    cut_top stack h s = by (by_last stack)
      where
        by : (stack ≡ []) ⊎ ((rest : List ℕ) × (x : ℕ) × (stack ≡ rest ++ x ∷ [])) → IsGreatest (IsDown boxes column row next) (one_more (last_of stack))
        by (inl e) = subst (λ t. IsGreatest (IsDown boxes column row next) (one_more (last_of t))) (sym e) (none (λ k d. subst (λ t. Member k t) e (s.all k d)))
        by (inr (rest, x, e)) = subst (λ t. IsGreatest (IsDown boxes column row next) (one_more t)) (sym last) (some (o, lasts x o.box o.at stays) (λ j d. low j (member_push j x rest (subst (λ t. Member j t) e (s.all j d)))))
          where
            last : last_of stack ≡ Some x
            last = ap last_of e ∙ last_push rest x

            stays : ends x ≡ false
            stays = sym (ap (passes ends) last) ∙ h

            o : IsOver boxes column next x
            o = s.from x (subst (λ t. Member x t) (sym e) (member_last x rest))

            low : (j : ℕ) → Member j rest ⊎ (j ≡ x) → j ≤ x
            low j (inl m) = let u = rises_last rest x (subst Rises e s.rises) j m in omega (arith, u)
            low j (inr d) = omega (arith, d)

-- ---- the formula cells of a row

-- one of the first is one of one more, and the other way round but for the last
over_more : (boxes : List (Option Range)) (column next k : ℕ) → IsOver boxes column next k → IsOver boxes column (next + 1) k
over_more boxes column next k o = record { box = o.box; at = o.at; early = omega (arith, o.early); within = o.within }

module _ (boxes : List (Option Range)) (column row next : ℕ) where
  abbrev added : List ℕ
  added = new_over column next (slice_get boxes next)

  added_is : (k : ℕ) → Member k added → (k ≡ next) × IsOver boxes column (next + 1) next
  added_is k m = by (slice_get boxes next) refl m
    where
      by : (o : Option (Option Range)) → slice_get boxes next ≡ o → Member k (new_over column next o) → (k ≡ next) × IsOver boxes column (next + 1) next
      by None e m = absurd m
      by (Some None) e m = absurd m
      by (Some (Some b)) e m = inner (in_column b column) refl m
        where
          inner : (t : Bool) → in_column b column ≡ t → Member k (cond t (next ∷ []) []) → (k ≡ next) × IsOver boxes column (next + 1) next
          inner true u (inl d) = (d, record { box = b; at = e; early = omega arith; within = u })
          inner true u (inr m) = absurd m
          inner false u m = absurd m

  is_added : IsOver boxes column (next + 1) next → Member next added
  is_added o = subst (λ t. Member next (new_over column next t)) (sym o.at) (subst (λ t. Member next (cond t (next ∷ []) [])) (sym o.within) (inl refl))

  -- it adds nothing, or itself
  added_cases : (added ≡ []) ⊎ (added ≡ next ∷ [])
  added_cases = by (slice_get boxes next)
    where
      by : (o : Option (Option Range)) → (new_over column next o ≡ []) ⊎ (new_over column next o ≡ next ∷ [])
      by None = inl refl
      by (Some None) = inl refl
      by (Some (Some b)) = inner (in_column b column)
        where
          inner : (t : Bool) → (cond t (next ∷ []) [] ≡ []) ⊎ (cond t (next ∷ []) [] ≡ next ∷ [])
          inner true = inr refl
          inner false = inl refl

  pub covered : (stack new : List ℕ) → new ≡ stack ++ added → IsStack boxes column row next stack → IsStack boxes column row (next + 1) new
  covered stack new e s = by added_cases
    where
      older : (k : ℕ) → IsDown boxes column row (next + 1) k → (k ≡ next → ⊥) → IsDown boxes column row next k
      older k (o, l) d = (record { box = o.box; at = o.at; early = omega (arith, o.early, d); within = o.within }, l)

      by : (added ≡ []) ⊎ (added ≡ next ∷ []) → IsStack boxes column row (next + 1) new
      by (inl u) = subst (λ t. IsStack boxes column row (next + 1) t) (sym (e ∙ ap (λ t. stack ++ t) u ∙ append-nil stack)) (record {
        rises = s.rises;
        from = λ k m. over_more boxes column next k (s.from k m);
        all = λ k d. all k d (cases_eq k next);
      })
        where
          all : (k : ℕ) → IsDown boxes column row (next + 1) k → (k ≡ next) ⊎ (k ≡ next → ⊥) → Member k stack
          all k d (inl v) = absurd (subst (λ t. Member next t) u (is_added (subst (λ t. IsOver boxes column (next + 1) t) v d.0)))
          all k d (inr v) = s.all k (older k d v)
      by (inr u) = subst (λ t. IsStack boxes column row (next + 1) t) (sym (e ∙ ap (λ t. stack ++ t) u)) (record {
        rises = rises_push stack next s.rises (λ k m. (s.from k m).early);
        from = λ k m. from k (member_push k next stack m);
        all = λ k d. all k d (cases_eq k next);
      })
        where
          from : (k : ℕ) → Member k stack ⊎ (k ≡ next) → IsOver boxes column (next + 1) k
          from k (inl m) = over_more boxes column next k (s.from k m)
          from k (inr d) = subst (λ t. IsOver boxes column (next + 1) t) (sym d) (added_is next (subst (λ t. Member next t) (sym u) (inl refl))).1

          all : (k : ℕ) → IsDown boxes column row (next + 1) k → (k ≡ next) ⊎ (k ≡ next → ⊥) → Member k (stack ++ next ∷ [])
          all k d (inl v) = subst (λ t. Member t (stack ++ next ∷ [])) (sym v) (member_last next stack)
          all k d (inr v) = member_before k next stack (s.all k (older k d v))

-- while the formula cells of a row are put on
pub record AreEntered (places : List Addr) (boxes : List (Option Range)) (column row next : ℕ) (stack : List ℕ) : Type 0 where
  pub stacked : IsStack boxes column row next stack
  pub above : AreAbove places (row + 1) next

module _ (places : List Addr) (boxes : List (Option Range)) (column row : ℕ) where
  pub enter_start : (next : ℕ) (stack : List ℕ) → AreAbove places row next → IsStack boxes column row next stack → AreEntered places boxes column row next stack
  enter_start next stack h s = record { stacked = s; above = record { few = h.few; above = λ k a i l. let u = h.above k a i l in omega (arith, u) } }

  there : (next : ℕ) (o : Option Addr) → slice_get places next ≡ o → is_in_row row o ≡ true → (a : Addr) × StandsAt places a next × (a.row ≤ row)
  there next None e h = absurd (cc h)
  there next (Some a) e h = (a, e, leb-true a.row row h)

  pub enter_within : (next : ℕ) → is_in_row row (slice_get places next) ≡ true → next < length places
  enter_within next h = let (a, e, l) = there next (slice_get places next) refl h in slice_get_within places next a e

  pub enter_on : (next : ℕ) (stack new : List ℕ) → is_in_row row (slice_get places next) ≡ true → new ≡ stack ++ new_over column next (slice_get boxes next) →
      AreEntered places boxes column row next stack → AreEntered places boxes column row (next + 1) new
  enter_on next stack new h e s = record {
    stacked = covered boxes column row next stack new e s.stacked;
    above = record { few = let u = enter_within next h in omega (arith, u); above = λ k a i l. by k a i (cases_eq k next) l };
  }
    where
      by : (k : ℕ) (a : Addr) → StandsAt places a k → (k ≡ next) ⊎ (k ≡ next → ⊥) → k < next + 1 → a.row < row + 1
      by k a i (inl d) l =
          let (b, u, m) = there next (slice_get places next) refl h in
          let v : Some a ≡ Some b = sym i ∙ ap (slice_get places) d ∙ u in
          let w : a ≡ b = cc v in
          let z : a.row ≡ b.row = ap (λ (t : Addr). t.row) w in
          omega (arith, m, z)
      by k a i (inr d) l = s.above.above k a i (omega (arith, l, d))

  past : (ps : List Addr) (n : ℕ) → slice_get ps n ≡ None → n < length ps → ⊥
  past [] n e l = absurd (omega (arith, l))
  past (p ∷ ps) zero e l = absurd (cc e)
  past (p ∷ ps) (suc n) e l = past ps n e (omega (arith, l))

  pub enter_done : (next : ℕ) → are_in_order places ≡ true → is_in_row row (slice_get places next) ≡ false → AreBelow places row next
  enter_done next o h k a i l = by (cases_eq k next) (slice_get places next) refl h
    where
      same : (b : Addr) → k ≡ next → slice_get places next ≡ Some b → a ≡ b
      same b d u = let w : Some a ≡ Some b = sym i ∙ ap (slice_get places) d ∙ u in cc w

      rows : (b : Addr) → (b.row < a.row) ⊎ ((b.row ≡ a.row) × (b.col < a.col)) → b.row ≤ a.row
      rows b (inl r) = omega (arith, r)
      rows b (inr r) = let u = r.0 in omega (arith, u)

      by : (k ≡ next) ⊎ (k ≡ next → ⊥) → (p : Option Addr) → slice_get places next ≡ p → is_in_row row p ≡ false → row < a.row
      by d None u v = let m = slice_get_within places k a i in absurd (past places next u (omega (arith, m, l)))
      by (inl d) (Some b) u v =
          let z : a.row ≡ b.row = ap (λ (t : Addr). t.row) (same b d u) in
          let q = leb-false b.row row v in
          omega (arith, q, z)
      by (inr d) (Some b) u v =
          let q = leb-false b.row row v in
          let r = rows b (before_is b a (in_order places b a next k o u i (omega (arith, l, d)))) in
          omega (arith, q, r)

-- ---- the rows of a column

pub record IsPassed (places : List Addr) (boxes : List (Option Range)) (column row next : ℕ) (stack numbers : List ℕ) : Type 0 where
  pub above : AreAbove places row next
  pub stacked : IsStack boxes column row next stack
  pub size : length numbers + 1 ≡ row
  pub last : (r : ℕ) → 1 ≤ r → r < row → IsLast boxes (addr column r) (get_or numbers (r - 1) 0)

-- the number on the top is small
pub top_small : (places : List Addr) (boxes : List (Option Range)) (column row next : ℕ) (stack : List ℕ) → length places ≤ max_formulas → next ≤ length places → IsStack boxes column row next stack → one_more (last_of stack) ≤ max_formulas
top_small places boxes column row next stack few l s = by (by_last stack)
  where
    by : (stack ≡ []) ⊎ ((rest : List ℕ) × (x : ℕ) × (stack ≡ rest ++ x ∷ [])) → one_more (last_of stack) ≤ max_formulas
    by (inl e) = subst (λ t. one_more (last_of t) ≤ max_formulas) (sym e) (omega arith)
    by (inr (rest, x, e)) =
        let o = s.from x (subst (λ t. Member x t) (sym e) (member_last x rest)) in
        let u = o.early in
        let v : x + 1 ≤ max_formulas = omega (arith, u, l, few) in
        subst (λ t. one_more t ≤ max_formulas) (sym (ap last_of e ∙ last_push rest x)) (omega (arith, v))

module _ (places : List Addr) (boxes : List (Option Range)) (column : ℕ) (rooted : AreRooted places boxes) where
  pub pass_start : IsPassed places boxes column 1 0 [] []
  pass_start = record {
    above = record { few = omega arith; above = λ k a i l. absurd (omega (arith, l)) };
    stacked = record { rises = tt; from = λ k m. absurd m; all = λ k d. let l = d.0.early in absurd (omega (arith, l)) };
    size = refl;
    last = λ r l m. absurd (omega (arith, l, m));
  }

  module _ (row next : ℕ) (above : AreAbove places (row + 1) next) (below : AreBelow places row next) where
    to : (k : ℕ) → IsDown boxes column row next k → CoversAt boxes (addr column row) k
    to k (o, l) =
        let b = o.box in
        let u = above.above k b.first (rooted.roots k b o.at) o.early in
        (b, o.at, and_from (nat_le b.first.row row && nat_le row b.last.row) (in_column b column) (and_from (nat_le b.first.row row) (nat_le row b.last.row) (le-leb b.first.row row (omega (arith, u))) (le-leb row b.last.row l)) o.within)

    back : (k : ℕ) → CoversAt boxes (addr column row) k → IsDown boxes column row next k
    back k (b, at, e) =
        let (p, q) = and_parts (nat_le b.first.row row && nat_le row b.last.row) (in_column b column) e in
        let (r, s) = and_parts (nat_le b.first.row row) (nat_le row b.last.row) p in
        (record { box = b; at = at; early = early b at (leb-true b.first.row row r); within = q }, leb-true row b.last.row s)
      where
        early : (b : Range) → BoxAt boxes k b → b.first.row ≤ row → k < next
        early b at r = by (cases_order k next)
          where
            by : (k ≡ next) ⊎ ((k < next) ⊎ (next < k)) → k < next
            by (inl d) = let u = below k b.first (rooted.roots k b at) (omega (arith, d)) in absurd (omega (arith, u, r))
            by (inr (inl l)) = l
            by (inr (inr l)) = let u = below k b.first (rooted.roots k b at) (omega (arith, l)) in absurd (omega (arith, u, r))

    pub pass_on : (number old : ℕ) (before stack numbers new : List ℕ) → IsGreatest (IsDown boxes column row next) number → IsStack boxes column row next stack → new ≡ numbers ++ number ∷ [] →
        IsPassed places boxes column row old before numbers → IsPassed places boxes column (row + 1) next stack new
    pass_on number old before stack numbers new g s e h = record {
      above = above;
      stacked = record { rises = s.rises; from = s.from; all = λ k d. let l = d.1 in s.all k (d.0, omega (arith, l)) };
      size = let u = ap length e ∙ length-append numbers (number ∷ []) in let v = h.size in omega (arith, u, v);
      last = λ r l m. by r l m (cases_eq r row);
    }
      where
        by : (r : ℕ) → 1 ≤ r → r < row + 1 → (r ≡ row) ⊎ (r ≡ row → ⊥) → IsLast boxes (addr column r) (get_or new (r - 1) 0)
        by r l m (inl d) =
            let v = h.size in
            let i : length numbers ≡ r - 1 = omega (arith, v, d) in
            let u : get_or new (r - 1) 0 ≡ number = ap (λ t. get_or t (r - 1) 0) e ∙ get_or_push numbers number 0 (r - 1) i in
            subst (λ t. IsLast boxes (addr column t) (get_or new (r - 1) 0)) (sym d) (subst (λ t. IsLast boxes (addr column row) t) (sym u) (greatest_same to back g))
        by r l m (inr d) =
            let v = h.size in
            let u : get_or new (r - 1) 0 ≡ get_or numbers (r - 1) 0 = ap (λ t. get_or t (r - 1) 0) e ∙ get_or_append_left numbers (number ∷ []) 0 (r - 1) (omega (arith, v, l, m, d)) in
            subst (λ t. IsLast boxes (addr column r) t) (sym u) (h.last r l (omega (arith, m, d)))

  pub pass_done : (rows row next : ℕ) (stack numbers : List ℕ) → row ≡ rows + 1 → IsPassed places boxes column row next stack numbers → IsColumn boxes column rows numbers
  pass_done rows row next stack numbers e h = record {
    size = let u = h.size in omega (arith, u, e);
    last = λ r l m. h.last r l (omega (arith, m, e));
  }
