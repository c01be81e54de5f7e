-- What a calculator keeps across its calls.
use Rattle.std.proofs.Common.{◌≡◌, ◌⊎◌, inl, inr, ℕ, suc, ◌+◌, ◌≤◌, Bool, true, false, not, cond, if◌then◌else◌, List, [], ◌∷◌, ◌++◌, length, slice_get, vec_len, vec_capacity, Vec, Global, Option, Some, None, IsSome, IfSome, option_map, Result, Ok, Err, OnErr, refl, sym, ap, subst, ◌∙◌, arith}
use Rattle.gl_calculus.specs.Computation.Lists.{Member}
use Rattle.gl_calculus.specs.Grid.Grid.{Addr, Range, same_addr, is_before, covers, grid}
use Rattle.gl_calculus.specs.Values.Value.{Oracle}
use Rattle.gl_calculus.specs.Formulas.Formula as F
use Rattle.gl_calculus.specs.Formulas.Formula.{Content, Cells, IsSheet, content, formula_addresses}
use Rattle.gl_calculus.specs.Calculation.Calculation as C
use Rattle.gl_calculus.specs.Calculation.Calculation.{has_content, Reaches}
use Rattle.gl_calculus.specs.Calculation.Differences.{AreApart}
use Rattle.gl_calculus.specs.Calculation.Memory as M
use Rattle.gl_calculus.specs.Calculation.Memory.{Table, AreTables}
use Rattle.gl_calculus.specs.Evaluation.Oracle.{grant}
use Rattle.laws_calculus.proofs.Calculus.Apart.{apart}
use Rattle.laws_calculus.proofs.Calculus.Settles.{array_order}
use Rattle.gl_calc.proofs.Formulas.{formulas_in_order}
use Rattle.laws_calculus.proofs.Calculus.Proved.{grant_gives_permits}
use Rattle.gl_calculus.specs.Edits.Sheets.{with_content, with_contents, without, places_in}
use Rattle.gl_calculus.specs.Evaluation.World.{world}
use Rattle.laws_calculus.proofs.SheetEdits.SheetChanges.{sets_these, clears_these}
use Rattle.gl_ast.specs.View.{version_tree}
use Rattle.gl_ast.specs.declared.Version.{Version}
use Rattle.gl_calc.specs.Answers.{Answers, Takes}
use Rattle.gl_calc.specs.Ending.{EndsWith}
use Rattle.gl_calc.specs.Kept.{AreEarlier}
use Rattle.gl_calc.specs.Progress.{either, last_of}
use Rattle.gl_calc.specs.Held.{table_of, answer_of, IsHeld, IsKept, HasOwn, IsOfLatest, Parts, Stands, HoldsLatest, held_by, IsCalc}
use Rattle.gl_calc.specs.declared.answers.Answer.{Answer}
use Rattle.gl_calc.specs.declared.answers.Answer.TheVariants.{Settled, Spent}
use Rattle.gl_calc.specs.declared.ending.Answered.{Answered}
use Rattle.gl_calc.specs.declared.ending.Ended.{Ended}
use Rattle.gl_calc.proofs.Called.{table_earlier}
use Rattle.gl_calc.proofs.Ended.{held_latest, held_kept, held_answers, latest_answers, takes_again}

pub same_true : (u v : F.Version) → M.same_version u v ≡ true → u ≡ v
same_true F.Version.One F.Version.One e = refl
same_true F.Version.One F.Version.Two e = absurd (cc e)
same_true F.Version.Two F.Version.One e = absurd (cc e)
same_true F.Version.Two F.Version.Two e = refl

standing_is : (b : Bool) (ended : Option Answer) (x : Answer) → Some x ≡ (if b then ended else None) → (b ≡ true) × (ended ≡ Some x)
standing_is true ended x e = (refl, sym e)
standing_is false ended x e = absurd (cc e)

own_latest : (r : Option Answered) (v : F.Version) (x : Option Answer) → HasOwn r → IsOfLatest r v x
own_latest None v x h = tt
own_latest (Some a) v x h = inl h

-- ---- where nothing was touched, and what is kept of before

module _ (S : Cells) (held : Option Answered) (tables : List Table) (version : F.Version) (touched : Vec Addr Global) (ended : Option Answer) (h : IsCalc S held tables version touched ended) where
  stands_at : (x : Answer) → ended ≡ Some x → (touched.items ≡ []) × Stands version S tables x × HoldsLatest version S tables x held
  stands_at x e = subst (λ o. IfSome o (λ y. (touched.items ≡ []) × Stands version S tables y × HoldsLatest version S tables y held)) e h.stands

  module _ (u : F.Version) (x : Answer) (b : Bool) (k : b ≡ M.same_version u version) (s : Some x ≡ (if b then ended else None)) where
    versions : u ≡ version
    versions = same_true u version (sym k ∙ (standing_is b ended x s).0)

    pub standing_answers : Answers u S x (answer_of tables held) (answer_of tables held)
    standing_answers =
        let (m, st, l) = stands_at x (standing_is b ended x s).1 in
        subst (λ v. Answers v S x (answer_of tables held) (answer_of tables held)) (sym versions) (latest_answers S tables version x held st.before st.touched st.first st.last st.ordered l st.takes)

    pub standing_takes : (n : ℕ) → Takes u S (if M.same_version u version then tables else []) touched.items x n n
    standing_takes n =
        let (m, st, l) = stands_at x (standing_is b ended x s).1 in
        let y : M.same_version u version ≡ true = sym k ∙ (standing_is b ended x s).0 in
        subst (λ c. Takes u S (if c then tables else []) touched.items x n n) (sym y) (subst (λ ts. Takes u S tables ts x n n) (sym m) (subst (λ v. Takes v S tables [] x n n) (sym versions)
        (takes_again version S tables st.before st.touched st.made n st.first st.last x st.takes)))

    pub standing_tables : AreTables u S tables
    standing_tables = let (m, st, l) = stands_at x (standing_is b ended x s).1 in subst (λ v. AreTables v S tables) (sym versions) st.made

    pub standing_made : (version ≡ u) × (touched.items ≡ [])
    standing_made = let (m, st, l) = stands_at x (standing_is b ended x s).1 in (sym versions, m)

  -- the held answer has its own table, unless the latest calculation stands
  has_own : ended ≡ None → HasOwn held
  has_own e = by held (subst (λ o. IsOfLatest held version o) e h.latest)
    where
      by : (g : Option Answered) → IsOfLatest g version None → HasOwn g
      by None l = tt
      by (Some a) (inl o) = o
      by (Some a) (inr (v, o)) = absurd (cc o)

  -- the tables with which a calculation begins
  pub tables_passed : (u : F.Version) (b : Bool) → b ≡ M.same_version u version → (if b then ended else None) ≡ None → (new : List Table) → (HasOwn held → new ≡ tables) → (if b then new else []) ≡ (if M.same_version u version then tables else [])
  tables_passed u b k s new same = by b s ∙ ap (λ c. if c then tables else []) k
    where
      by : (c : Bool) → (if c then ended else None) ≡ None → (if c then new else []) ≡ (if c then tables else [])
      by true e = same (has_own e)
      by false e = refl

  pub passed_earlier : (u : F.Version) (b : Bool) → b ≡ M.same_version u version → (if b then ended else None) ≡ None → (new : List Table) → (HasOwn held → new ≡ tables) → AreEarlier u S (if b then new else []) touched.items
  passed_earlier u b k s new same = subst (λ ts. AreEarlier u S ts touched.items) (sym (tables_passed u b k s new same)) (by (M.same_version u version) refl)
    where
      by : (c : Bool) → M.same_version u version ≡ c → AreEarlier u S (if c then tables else []) touched.items
      by true e = subst (λ v. AreEarlier v S tables touched.items) (sym (same_true u version e)) h.earlier
      by false e = λ t m. absurd m

  -- after want of memory there are no tables
  pub emptied : (new none : List Table) (r : Option Answered) → none ≡ [] → Parts tables held new r → IsCalc S r none version touched None
  emptied new none r e p = record {
    room = h.room;
    earlier = λ t m. absurd (subst (Member t) e m);
    answer = p.kept S none h.answer;
    latest = own_latest r version None (p.has_own S h.answer);
    stands = tt;
  }

pub on_err : {X E : Type 0} (r : Result X E) (P : Type 0) → P → OnErr r P
on_err (Ok x) P p = tt
on_err (Err e) P p = p

-- ---- after a calculation

reached_apart : (version : F.Version) (S : Cells) → IsSheet S → (i : ℕ) (w : Oracle) → Reaches version S i w → AreApart w
reached_apart version S o _ _ C.Reaches.first = λ x y m n s t e. absurd m
reached_apart version S o _ _ (C.Reaches.later {w = v} {next = w} r g) =
    let (zs, a, e) = g.is_next in
    let sizes = array_order (world version S v) (formula_addresses S) zs a (formulas_in_order S o) in
    subst AreApart (sym e) (apart grid (has_content S) (grant grid (has_content S) zs) (grant_gives_permits grid (has_content S) zs sizes).1)

slice_of : {X : Type 0} (xs : List X) (x : X) → Member x xs → (j : ℕ) × (slice_get xs j ≡ Some x)
slice_of [] x m = absurd m
slice_of (y ∷ ys) x (inl e) = (0, ap Some (sym e))
slice_of (y ∷ ys) x (inr m) = let (j, d) = slice_of ys x m in (suc j, d)

tables_earlier : (version : F.Version) (S : Cells) → IsSheet S → (tables : List Table) → AreTables version S tables → AreEarlier version S tables []
tables_earlier version S o tables a t m =
    let (j, e) = slice_of tables t m in
    let (w, f, h) = a.each j t e in
    table_earlier (world version S w) t (reached_apart version S o j w f.0) h

module _ (version : Version) (S : Cells) (before : List Table) (touched : List Addr) (x : Ended) (n m : ℕ) (o : IsSheet S) (ends : EndsWith (version_tree version) S before touched x n m) (r : Option Answered) where
  abbrev left : Option Answered
  left = held_by x.answer version x.beyond r

  pub left_answers : (old : Option (F.Version × Oracle)) → answer_of x.tables.items r ≡ old → Answers (version_tree version) S x.answer old (answer_of x.tables.items left)
  left_answers old e = held_answers S x.tables.items x.answer version x.beyond r before touched n m old o ends.last ends.takes e

  left_latest : (y : Answer) → IsOfLatest (held_by y version x.beyond r) (version_tree version) (Some y) ⊎ (held_by y version x.beyond r ≡ r)
  left_latest (Settled rounds) = inl (inr (refl, refl))
  left_latest (Spent k) = inr refl

  pub left_calc : (marks : Vec Addr Global) → marks.items ≡ [] → vec_len marks + length S ≤ vec_capacity marks → IsKept S x.tables.items r → HasOwn r → IsCalc S left x.tables.items (version_tree version) marks (Some x.answer)
  left_calc marks none room kept own = record {
    room = room;
    earlier = subst (λ ts. AreEarlier (version_tree version) S x.tables.items ts) (sym none) (tables_earlier (version_tree version) S o x.tables.items ends.made);
    answer = held_kept S x.tables.items x.answer version x.beyond r o ends.last kept;
    latest = by (left_latest x.answer);
    stands = (none, record { ordered = o; made = ends.made; before = before; touched = touched; first = n; last = m; takes = ends.takes }, held_latest S x.tables.items x.answer version x.beyond r ends.last);
  }
    where
      by : IsOfLatest left (version_tree version) (Some x.answer) ⊎ (left ≡ r) → IsOfLatest left (version_tree version) (Some x.answer)
      by (inl l) = l
      by (inr e) = subst (λ h. IsOfLatest h (version_tree version) (Some x.answer)) (sym e) (own_latest r (version_tree version) (Some x.answer) own)

-- ---- after an edit

in_first : (xs ys : List Addr) (a : Addr) → Member a xs → Member a (xs ++ ys)
in_first [] ys a m = absurd m
in_first (x ∷ xs) ys a (inl e) = inl e
in_first (x ∷ xs) ys a (inr m) = inr (in_first xs ys a m)

in_second : (xs ys : List Addr) (a : Addr) → Member a ys → Member a (xs ++ ys)
in_second [] ys a m = m
in_second (x ∷ xs) ys a m = inr (in_second xs ys a m)

pub edited : (S T : Cells) (held : Option Answered) (tables : List Table) (version : F.Version) (touched marks : Vec Addr Global) (ended : Option Answer) (more : List Addr) → IsCalc S held tables version touched ended → marks.items ≡ touched.items ++ more →
    ((b : Addr) → (Member b more → ⊥) → content T b ≡ content S b) → vec_len marks + length T ≤ vec_capacity marks → IsCalc T None tables version marks None
edited S T held tables version touched marks ended more h e same room = record {
  room = room;
  earlier = subst (λ ts. AreEarlier version T tables ts) (sym e) (λ t m. (let k = h.earlier t m in record {
    cells = k.cells;
    same = λ a f. same a (λ n. f (in_second touched.items more a n)) ∙ k.same a (λ n. f (in_first touched.items more a n));
    true_notes = k.true_notes;
    apart = k.apart;
  }));
  answer = tt;
  latest = tt;
  stands = tt;
}

pub set_same : (S : Cells) (a : Addr) (c : Content) (b : Addr) → (Member b (a ∷ []) → ⊥) → content (with_content S a c) b ≡ content S b
set_same S a c b f = sets_these S ((a, c) ∷ []) b f

pub set_length : (S : Cells) (a : Addr) (c : Content) → length (with_content S a c) ≤ length S + 1
set_length [] a c = omega arith
set_length (x ∷ xs) a c = by (same_addr a x.0) (is_before a x.0) (set_length xs a c)
  where
    by : (s b : Bool) → length (with_content xs a c) ≤ length xs + 1 → length (if s then (a, c) ∷ xs else if b then (a, c) ∷ x ∷ xs else x ∷ with_content xs a c) ≤ length (x ∷ xs) + 1
    by true b h = omega arith
    by false true h = omega arith
    by false false h = omega (arith, h)

pub sets_length : (S xs : Cells) → length (with_contents S xs) ≤ length S + length xs
sets_length S [] = omega arith
sets_length S (x ∷ xs) = let a = sets_length (with_content S x.0 x.1) xs in let b = set_length S x.0 x.1 in omega (arith, a, b)

pub clear_length : (S : Cells) (r : Range) → length (places_in S r) + length (without S r) ≡ length S
clear_length [] r = refl
clear_length (x ∷ xs) r = by (covers r x.0) (clear_length xs r)
  where
    by : (b : Bool) → length (places_in xs r) + length (without xs r) ≡ length xs → length (cond b (x.0 ∷ places_in xs r) (places_in xs r)) + length (cond (not b) (x ∷ without xs r) (without xs r)) ≡ length (x ∷ xs)
    by true h = omega (arith, h)
    by false h = omega (arith, h)

pub clear_same : (S : Cells) (r : Range) (b : Addr) → (Member b (places_in S r) → ⊥) → content (without S r) b ≡ content S b
clear_same S r b f = clears_these S r b f

-- ---- the held answer with its own table

pub parts_of : (old new : List Table) (a b : Answered) → b.version ≡ a.version → b.own ≡ table_of old a → (IsSome a.own → new ≡ old) → Parts old (Some a) new (Some b)
parts_of old new a b v e s = record {
  answer = λ S rest (t, d, h). ap (λ o. option_map (λ (u : Table). (version_tree b.version, u.oracle)) (either o (last_of rest))) (e ∙ d) ∙ ap (λ u. Some (version_tree u, t.oracle)) v ∙ sym (ap (option_map (λ (u : Table). (version_tree a.version, u.oracle))) d);
  kept = λ S rest (t, d, h). (t, ap (λ o. either o (last_of rest)) (e ∙ d), subst (λ u. IsHeld (version_tree u) S t) (sym v) h);
  has_own = λ S (t, d, h). subst IsSome (sym (e ∙ d)) refl;
  same = s;
}

pub parts_none : (old : List Table) → Parts old None old None
parts_none old = record { answer = λ S rest k. refl; kept = λ S rest k. tt; has_own = λ S k. tt; same = λ h. refl }
