-- The tables that rounds make are those of the calculation.
use Rattle.std.proofs.Common.{◌≡◌, ◌⊎◌, inl, inr, ℕ, zero, suc, ◌+◌, ◌-◌, ◌≤◌, ◌<◌, nat_lt, Bool, true, false, if◌then◌else◌, List, [], ◌∷◌, ◌++◌, length, slice_get, option_to_list, Option, Some, None, refl, sym, ap, subst, ◌∙◌, arith}
use Rattle.std.proofs.lemmas.Bool.{cases_order, ltb-true}
use borrow.Author.Tests.{ltb-false}
use Rattle.gl_calculus.specs.Grid.Grid.{Addr}
use Rattle.gl_calculus.specs.Values.Value.{Oracle}
use Rattle.gl_calculus.specs.Formulas.Formula.{Version, Cells}
use Rattle.gl_calculus.specs.Grid.Limits.{kept_rounds}
use Rattle.gl_calculus.specs.Calculation.Calculation.{Answer, SpendsWork, Reaches, IsFinished, Ends}
use Rattle.gl_calculus.specs.Calculation.Memory.{Table, no_table, base, IsTableOf, AreTables}
use Rattle.gl_calculus.specs.Evaluation.World.{world}
use Rattle.laws_calculus.proofs.Calculus.Single.{one_round, goes_on, ends_not_on}
use Rattle.gl_calc.specs.Progress.{Progress, first_of, rest_of, last_of, either, before_of, base_by, next_base, made_with, beyond_with}

first_slice : {X : Type 0} (xs : List X) → first_of xs ≡ slice_get xs 0
first_slice [] = refl
first_slice (x ∷ xs) = refl

rest_slice : {X : Type 0} (xs : List X) (j : ℕ) → slice_get (rest_of xs) j ≡ slice_get xs (suc j)
rest_slice [] j = refl
rest_slice (x ∷ xs) j = refl

last_put : {X : Type 0} (xs : List X) (x : X) → last_of (xs ++ x ∷ []) ≡ Some x
last_put [] x = refl
last_put (y ∷ []) x = refl
last_put (y ∷ z ∷ zs) x = last_put (z ∷ zs) x

pub last_slice : {X : Type 0} (xs : List X) → last_of xs ≡ slice_get xs (length xs - 1)
last_slice [] = refl
last_slice (x ∷ []) = refl
last_slice (x ∷ y ∷ ys) =
    let e : length (y ∷ ys) - 1 ≡ length ys = omega arith in
    let f : length (x ∷ y ∷ ys) - 1 ≡ suc (length ys) = omega arith in
    last_slice (y ∷ ys) ∙ ap (slice_get (y ∷ ys)) e ∙ sym (ap (slice_get (x ∷ y ∷ ys)) f)

put_length : {X : Type 0} (xs : List X) (x : X) → length (xs ++ x ∷ []) ≡ suc (length xs)
put_length [] x = refl
put_length (y ∷ ys) x = ap suc (put_length ys x)

-- an item of a list with one more
put_slice : {X : Type 0} (xs : List X) (x y : X) (j : ℕ) → slice_get (xs ++ x ∷ []) j ≡ Some y → (slice_get xs j ≡ Some y) ⊎ ((j ≡ length xs) × (x ≡ y))
put_slice [] x y zero e = inr (refl, (let q : x ≡ y = cc e in q))
put_slice [] x y (suc j) e = absurd (cc e)
put_slice (z ∷ zs) x y zero e = inl e
put_slice (z ∷ zs) x y (suc j) e = by (put_slice zs x y j e)
  where
    by : (slice_get zs j ≡ Some y) ⊎ ((j ≡ length zs) × (x ≡ y)) → (slice_get zs j ≡ Some y) ⊎ ((suc j ≡ suc (length zs)) × (x ≡ y))
    by (inl d) = inl d
    by (inr (p, q)) = inr (ap suc p, q)

slice_there : {X : Type 0} (xs : List X) (j : ℕ) → j < length xs → (x : X) × (slice_get xs j ≡ Some x)
slice_there [] j l = absurd (omega (arith, l))
slice_there (x ∷ xs) zero l = (x, refl)
slice_there (x ∷ xs) (suc j) l = slice_there xs j (omega (arith, l))

-- what a list ends with, where one was taken from its end
pub popped : {X : Type 0} (old new : List X) (r : Option X) → old ≡ new ++ option_to_list r → (r ≡ None → length old ≡ 0) → r ≡ last_of old
popped old new (Some x) e n = sym (ap last_of e ∙ last_put new x)
popped [] new None e n = refl
popped (y ∷ ys) new None e n = absurd (cc (n refl))

-- so many tables stand after so many rounds
abbrev pub AreAsMany : ℕ → ℕ → Type 0
AreAsMany many i = ((many ≡ i) × (i ≤ kept_rounds)) ⊎ ((many ≡ kept_rounds) × (kept_rounds < i))

-- no round comes before the first
abbrev before_round : ℕ → Table → Option Table
before_round zero before = None
before_round (suc i) before = Some before

base_is : (o : Option Table) (touched : List Addr) (i : ℕ) (before : Table) → (i ≡ 0 → before ≡ no_table) → base_by o touched (before_round i before) ≡ base o touched before
base_is (Some t) touched i before f = refl
base_is None touched zero before f = ap (λ t. (t, [])) (sym (f refl))
base_is None touched (suc i) before f = refl

module _ (version : Version) (S : Cells) (tables : List Table) where
  -- so many rounds were made, and this is the table of the last one
  pub record Follows (i : ℕ) (before : Table) (p : Progress) : Type 0 where
    pub earlier : (j : ℕ) → slice_get p.earlier j ≡ slice_get tables (i + j)
    pub last : before_of p ≡ before_round i before
    pub first : i ≡ 0 → before ≡ no_table
    pub each : (j : ℕ) (t : Table) → slice_get p.made j ≡ Some t → (v : Oracle) × IsFinished version S j v × IsTableOf (world version S v) t
    pub count : AreAsMany (length p.made) i

  pub follows_first : Follows 0 no_table (record { earlier = tables; made = []; beyond = None })
  follows_first = record { earlier = λ j. (let e : j ≡ 0 + j = omega arith in ap (slice_get tables) e); last = refl; first = λ e. refl; each = λ j t e. absurd (cc e); count = inl (refl, omega arith) }

  pub follows_base : (i : ℕ) (before : Table) (p : Progress) (touched : List Addr) → Follows i before p → next_base p touched ≡ base (slice_get tables i) touched before
  follows_base i before p touched h =
      let zero_more : i + 0 ≡ i = omega arith in
      let here : first_of p.earlier ≡ slice_get tables i = first_slice p.earlier ∙ h.earlier 0 ∙ ap (slice_get tables) zero_more in
      ap (λ o. base_by o touched (before_of p)) here ∙ ap (λ b. base_by (slice_get tables i) touched b) h.last
      ∙ base_is (slice_get tables i) touched i before h.first

  module _ (i : ℕ) (w : Oracle) (before t : Table) (p q : Progress) (h : Follows i before p) (finished : IsFinished version S i w) (is_table : IsTableOf (world version S w) t) (earlier : q.earlier ≡ rest_of p.earlier) (made : q.made ≡ made_with p.made t) (beyond : q.beyond ≡ beyond_with p.made t) where
    abbrev has_room : Bool
    has_room = nat_lt (length p.made) kept_rounds

    still_earlier : (j : ℕ) → slice_get q.earlier j ≡ slice_get tables (suc i + j)
    still_earlier j =
        let next : i + suc j ≡ suc i + j = omega arith in
        ap (λ ts. slice_get ts j) earlier ∙ rest_slice p.earlier j ∙ h.earlier (suc j) ∙ ap (slice_get tables) next

    last_by : (b : Bool) → either (if b then None else Some t) (last_of (if b then p.made ++ t ∷ [] else p.made)) ≡ Some t
    last_by true = last_put p.made t
    last_by false = refl

    room_many : has_room ≡ true → length p.made ≡ i
    room_many e = by h.count (ltb-true _ _ e)
      where
        by : AreAsMany (length p.made) i → length p.made < kept_rounds → length p.made ≡ i
        by (inl (e, l)) r = e
        by (inr (e, l)) r = absurd (omega (arith, e, r))

    each_by : (b : Bool) → has_room ≡ b → (j : ℕ) (x : Table) → slice_get (if b then p.made ++ t ∷ [] else p.made) j ≡ Some x → (v : Oracle) × IsFinished version S j v × IsTableOf (world version S v) x
    each_by true e j x d = by (put_slice p.made t x j d)
      where
        by : (slice_get p.made j ≡ Some x) ⊎ ((j ≡ length p.made) × (t ≡ x)) → (v : Oracle) × IsFinished version S j v × IsTableOf (world version S v) x
        by (inl f) = h.each j x f
        by (inr (f, g)) = (w, subst (λ k. IsFinished version S k w) (sym (f ∙ room_many e)) finished, subst (IsTableOf (world version S w)) g is_table)
    each_by false e j x d = h.each j x d

    count_by : (b : Bool) → has_room ≡ b → AreAsMany (length (if b then p.made ++ t ∷ [] else p.made)) (suc i)
    count_by true e =
        let many = put_length p.made t in
        let same = room_many e in
        let room = ltb-true _ _ e in
        inl (omega (arith, many, same), omega (arith, same, room))
    count_by false e = by h.count (ltb-false _ _ e)
      where
        by : AreAsMany (length p.made) i → kept_rounds ≤ length p.made → AreAsMany (length p.made) (suc i)
        by (inl (e, l)) r = inr (omega (arith, e, l, r), omega (arith, e, l, r))
        by (inr (e, l)) r = inr (e, omega (arith, l))

    pub follows_next : Follows (suc i) t q
    follows_next = record {
      earlier = still_earlier;
      last = ap (λ o. either o (last_of q.made)) beyond ∙ ap (λ ts. either (beyond_with p.made t) (last_of ts)) made ∙ last_by has_room;
      first = λ e. absurd (cc e);
      each = λ j x e. each_by has_room refl j x (subst (λ ts. slice_get ts j ≡ Some x) made e);
      count = subst (λ ts. AreAsMany (length ts) (suc i)) (sym made) (count_by has_room refl);
    }

  -- where no round beyond these is finished, these are the tables of the calculation
  pub follows_all : (i : ℕ) (before : Table) (p : Progress) → Follows i before p → ((j : ℕ) (v : Oracle) → IsFinished version S j v → j < i) → AreTables version S p.made
  follows_all i before p h below = record { each = h.each; all = λ j v f l. there h.count j l (below j v f); few = few h.count }
    where
      there : AreAsMany (length p.made) i → (j : ℕ) → j < kept_rounds → j < i → (t : Table) × (slice_get p.made j ≡ Some t)
      there (inl (e, l)) j k b = slice_there p.made j (omega (arith, e, b))
      there (inr (e, l)) j k b = slice_there p.made j (omega (arith, e, k))

      few : AreAsMany (length p.made) i → length p.made ≤ kept_rounds
      few (inl (e, l)) = omega (arith, e, l)
      few (inr (e, l)) = omega (arith, e)

  -- the rounds that are finished come no later than the one that ends the calculation
  pub finished_by : (i j : ℕ) (w v : Oracle) (r : Answer) → Reaches version S i w → Ends version S i w r → IsFinished version S j v → j < suc i
  finished_by i j w v r a e f = by (cases_order i j)
    where
      by : (i ≡ j) ⊎ ((i < j) ⊎ (j < i)) → j < suc i
      by (inl q) = omega (arith, q)
      by (inr (inl l)) = let (n, g) = goes_on version S i j w v a f.0 l in absurd (ends_not_on version S i w n r e g)
      by (inr (inr l)) = omega (arith, l)

  -- and before it, where its own work is spent
  pub finished_before : (i j : ℕ) (w v : Oracle) → Reaches version S i w → SpendsWork (world version S w) → IsFinished version S j v → j < i
  finished_before i j w v a s f = by (cases_order i j) (finished_by i j w v _ a (Ends.work s) f)
    where
      by : (i ≡ j) ⊎ ((i < j) ⊎ (j < i)) → j < suc i → j < i
      by (inl q) l =
          let same : w ≡ v = one_round version S j w v (subst (λ k. Reaches version S k w) q a) f.0 in
          absurd (f.1 (subst (λ u. SpendsWork (world version S u)) same s))
      by (inr (inl k)) l = absurd (omega (arith, k, l))
      by (inr (inr k)) l = k

-- what is begun with where no table of the round is left from before
pub before_base : (p : Progress) (t : Table) (touched : List Addr) → p.earlier ≡ [] → p.beyond ≡ Some t → (t, []) ≡ next_base p touched
before_base p t touched e b = sym (ap (λ ts. base_by (first_of ts) touched (before_of p)) e ∙ ap (λ o. base_by None touched (either o (last_of p.made))) b)

pub last_base : (p : Progress) (made : List Table) (touched : List Addr) → made ≡ p.made → p.earlier ≡ [] → p.beyond ≡ None → next_base (record { earlier = []; made = made; beyond = None }) touched ≡ next_base p touched
last_base p made touched m e b =
    ap (λ ts. base_by None touched (last_of ts)) m ∙ sym (ap (λ ts. base_by (first_of ts) touched (before_of p)) e ∙ ap (λ o. base_by None touched (either o (last_of p.made))) b)
