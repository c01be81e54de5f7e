-- The first address with content in a frame, by the contents of the sheet and the overrides of each frame outward.
use Rattle.std.proofs.Common.{◌≡◌, ◌⊎◌, inl, inr, ℕ, suc, ◌≤◌, Bool, true, false, ◌&&◌, ◌||◌, not, cond, is_some, List, [], ◌∷◌, ◌++◌, map, filter, length, slice_get, Option, Some, None, refl, ap, sym, subst, ◌∙◌, arith, append_assoc, zero, ◌+◌, ◌<◌}
use Rattle.std.specs.List.{find}
use Rattle.gl_calculus.specs.Computation.Lists.{Member}
use Rattle.gl_calculus.specs.Grid.Grid.{Addr, Range, same_addr, is_before, AreInOrder, addresses, covers}
use Rattle.gl_calculus.specs.Values.Value.{Overrides, SheetValue, sheet_value, region, Frame, Top, In}
use Rattle.gl_calculus.specs.Values.Value as V
use Rattle.gl_calculus.specs.Values.Sheet.{override_at}
use Rattle.gl_calculus.specs.Formulas.Formula.{Content, Const, Form, Cells, IsSheet, content}
use Rattle.gl_calculus.specs.Evaluation.Facts.{fact}
use Rattle.gl_machine.specs.Ahead.Demands.{own_keys, held_keys}
use Rattle.gl_calculus.specs.Evaluation.Reference.{Held, override_or, held_top, content_in, own_content}
use Rattle.gl_calculus.proofs.Tests.{both, and_true, addr_exact, addr_same}
use Rattle.gl_calculus.proofs.Grants.{Before, before_of, of_before, before_trans, not_same, clash}
use Rattle.gl_cells.specs.Search.{is_in_play, comes_after}
use Rattle.gl_value.specs.View.{override_trees}
use Rattle.gl_value.specs.declared.Value.{Value}
use Rattle.gl_demand.specs.Blocks.{has_content_in}
use Rattle.gl_demand.specs.Held.{or_else, override_in}
use Rattle.gl_demand.specs.Filling.{IsFirst, comes_before, next_override, is_overridden, is_overridden_by, IsFirstWith, is_content, is_filled, is_held, HasNone}
use Rattle.gl_demand.proofs.Ordered.{tail, behind, addresses_order}
use Rattle.gl_demand.proofs.Firsts as F
use Rattle.gl_demand.proofs.Overridden.{places, listed, unlisted}

either : (x y : Bool) → (x || y) ≡ true → (x ≡ true) ⊎ (y ≡ true)
either true y e = inl refl
either false y e = inr e

or_first : (x y : Bool) → x ≡ true → (x || y) ≡ true
or_first true y e = refl
or_first false y e = absurd (cc e)

or_second : (x y : Bool) → y ≡ true → (x || y) ≡ true
or_second true y e = refl
or_second false y e = e

-- ---- first addresses

-- the same by the order of rows and columns
to_first : (p : Addr → Bool) (o : Option Addr) → IsFirst p o → F.First (λ b. p b ≡ true) o
to_first p None h = h
to_first p (Some a) h = (h.0, λ b e l. h.1 b e (of_before b a l))

of_first : (p : Addr → Bool) (o : Option Addr) → F.First (λ b. p b ≡ true) o → IsFirst p o
of_first p None h = h
of_first p (Some a) h = (h.0, λ b e l. h.1 b e (before_of b a l))

pub first_alike : (p q : Addr → Bool) → ((b : Addr) → p b ≡ q b) → (o : Option Addr) → IsFirst p o → IsFirst q o
first_alike p q same None h = λ b e. h b (same b ∙ e)
first_alike p q same (Some a) h = (sym (same a) ∙ h.0, λ b e l. h.1 b (same b ∙ e) l)

-- ---- the overrides of one sheet value

abbrev is_between : Range → Option Addr → Option Addr → Addr → Bool
is_between r after before b = is_in_play r after b && comes_before before b

abbrev pub reached : (Addr → Bool) → List (Addr × Value) → Range → Option Addr → Addr → Bool
reached p os r after b = p b || is_overridden_by (override_trees os) r after b

listed_in : (os : List (Addr × Value)) (r : Range) (after : Option Addr) (b : Addr) → is_overridden_by (override_trees os) r after b ≡ true → (is_in_play r after b ≡ true) × Member b (places os)
listed_in os r after b h =
    let (f, g) = both (is_in_play r after b) (is_some (override_at (override_trees os) b)) h in
    (f, listed os b g)

first_between : (os : List (Addr × Value)) (r : Range) (after before o : Option Addr) → AreInOrder (places os) → o ≡ next_override os r after before → F.First (λ b. Member b (places os) × (is_between r after before b ≡ true)) o
first_between os r after before o d e = subst (F.First (λ b. Member b (places os) × (is_between r after before b ≡ true))) (sym e) (F.find_first (is_between r after before) (places os) d)

-- an override comes before the best so far
pub sooner_is : (p : Addr → Bool) (os : List (Addr × Value)) (r : Range) (after best : Option Addr) (a : Addr) → AreInOrder (places os) → IsFirst p best → Some a ≡ next_override os r after best → IsFirst (reached p os r after) (Some a)
sooner_is p os r after best a d h e =
    let f = first_between os r after best (Some a) d e in
    let (play, before) = both (is_in_play r after a) (comes_before best a) f.0.1 in (
      or_second (p a) (is_overridden_by (override_trees os) r after a) (and_true (is_in_play r after a) (is_some (override_at (override_trees os) a)) play (unlisted os a f.0.0)),
      λ b k l. by best h f before b l (either (p b) (is_overridden_by (override_trees os) r after b) k),
    )
  where
    by : (best : Option Addr) → IsFirst p best → F.First (λ b. Member b (places os) × (is_between r after best b ≡ true)) (Some a) → comes_before best a ≡ true → (b : Addr) → is_before b a ≡ true → (p b ≡ true) ⊎ (is_overridden_by (override_trees os) r after b ≡ true) → ⊥
    by None h f before b l (inl k) = h b k
    by (Some c) h f before b l (inl k) = h.1 b k (of_before b c (before_trans b a c (before_of b a l) (before_of a c before)))
    by None h f before b l (inr k) =
        let (play, m) = listed_in os r after b k in
        f.1 b (m, and_true (is_in_play r after b) true play refl) (before_of b a l)
    by (Some c) h f before b l (inr k) =
        let (play, m) = listed_in os r after b k in
        f.1 b (m, and_true (is_in_play r after b) (is_before b c) play (of_before b c (before_trans b a c (before_of b a l) (before_of a c before)))) (before_of b a l)

-- no override does
pub stays_best : (p : Addr → Bool) (os : List (Addr × Value)) (r : Range) (after best : Option Addr) → AreInOrder (places os) → IsFirst p best → None ≡ next_override os r after best → IsFirst (reached p os r after) best
stays_best p os r after None d h e =
    let f = first_between os r after None None d e in
    λ b k. elim (either (p b) (is_overridden_by (override_trees os) r after b) k) [
      | inl q ↦ h b q
      | inr q ↦ (let (play, m) = listed_in os r after b q in f b (m, and_true (is_in_play r after b) true play refl))
    ]
stays_best p os r after (Some c) d h e =
    let f = first_between os r after (Some c) None d e in (
      or_first (p c) (is_overridden_by (override_trees os) r after c) h.0,
      λ b k l. elim (either (p b) (is_overridden_by (override_trees os) r after b) k) [
        | inl q ↦ h.1 b q l
        | inr q ↦ (let (play, m) = listed_in os r after b q in f b (m, and_true (is_in_play r after b) (is_before b c) play l))
      ],
    )

-- ---- outward

join : (p play : Bool) (o u : Option V.Value) → ((p || (play && is_some o)) || (play && is_some u)) ≡ (p || (play && is_some (or_else o u)))
join true play o u = refl
join false false o u = refl
join false true (Some v) u = refl
join false true None u = refl

-- nothing is overridden at the top
pub at_top : (p : Addr → Bool) (r : Range) (after o : Option Addr) → IsFirst p o → IsFirstWith Top r after p o
at_top p r after o h = first_alike p (λ b. p b || (is_in_play r after b && false)) (λ b. none (p b) (is_in_play r after b)) o h
  where
    none : (x y : Bool) → x ≡ (x || (y && false))
    none true y = refl
    none false true = refl
    none false false = refl

pub one_outward : (p : Addr → Bool) (q : Range) (os : Overrides) (e : Frame) (k w : ℕ) (oracle : V.Oracle) (r : Range) (after o : Option Addr) → IsFirstWith e r after (λ b. p b || is_overridden_by os r after b) o → IsFirstWith (In (sheet_value q os e k w) oracle) r after p o
one_outward p q os e k w oracle r after o h =
    first_alike (λ b. (p b || is_overridden_by os r after b) || is_overridden e r after b) (λ b. p b || is_overridden (In (sheet_value q os e k w) oracle) r after b)
    (λ b. join (p b) (is_in_play r after b) (override_at os b) (override_in e b)) o h

-- ---- with the contents of the sheet

pub content_first : (S : Cells) (r : Range) (after o : Option Addr) → IsSheet S → o ≡ find (is_in_play r after) (map (λ c. c.0) S) → IsFirst (is_content S r after) o
content_first S r after o d e =
    of_first (is_content S r after) o
    (F.first_iff (λ b. Member b (map (λ c. c.0) S) × (is_in_play r after b ≡ true)) (λ b. is_content S r after b ≡ true) o
    (λ b h. and_true (is_in_play r after b) (is_some (content S b)) h.1 (F.unlisted S b h.0))
    (λ b h. let (f, g) = both (is_in_play r after b) (is_some (content S b)) h in (F.listed S b g, f))
    (subst (F.First (λ b. Member b (map (λ c. c.0) S) × (is_in_play r after b ≡ true))) (sym e) (F.find_first (is_in_play r after) (map (λ c. c.0) S) d)))

held_some : (c : Option Content) → is_some (held_top c) ≡ is_some c
held_some None = refl
held_some (Some (Const x)) = refl
held_some (Some (Form f)) = refl

given_or : (o u : Option V.Value) (h : Option Held) (c : Bool) → is_some h ≡ (c || is_some u) → is_some (override_or o h) ≡ (c || is_some (or_else o u))
given_or (Some v) u h true k = refl
given_or (Some v) u h false k = refl
given_or None u h c k = k

or_false : (c : Bool) → c ≡ (c || false)
or_false true = refl
or_false false = refl

content_some : (c : Option Content) (e : Frame) (a : Addr) → is_some (content_in c e a) ≡ (is_some c || is_some (override_in e a))
content_some c Top a = held_some c ∙ or_false (is_some c)
content_some c (In (sheet_value r os e k w) o) a = given_or (override_at os a) (override_in e a) (content_in c e a) (is_some c) (content_some c e a)

by_play : (play c u : Bool) (h : Option Held) → (play ≡ true → is_some h ≡ (c || u)) → ((play && c) || (play && u)) ≡ (play && is_some h)
by_play false c u h k = refl
by_play true c u h k = sym (k refl)

own_in : (b : Bool) (h : Option Held) → b ≡ true → is_some (cond b h None) ≡ is_some h
own_in true h e = refl
own_in false h e = absurd (cc e)

-- what is found in the sheet, in the sheet value and outward is what is filled
pub filled_first : (S : Cells) (s : SheetValue) (r : Range) (after o : Option Addr) → ((b : Addr) → covers r b ≡ true → covers (region s) b ≡ true)
    → IsFirstWith (In s []) r after (is_content S r after) o → IsFirst (is_filled S s r after) o
filled_first S s r after o inside h =
    first_alike (λ b. is_content S r after b || is_overridden (In s []) r after b) (is_filled S s r after)
    (λ b. by_play (is_in_play r after b) (is_some (content S b)) (is_some (override_in (In s []) b)) (own_content (content S b) (In s []) b)
    (λ t. own_in (covers (region s) b) (content_in (content S b) (In s []) b) (inside b (both (covers r b) (comes_after after b) t).0) ∙ content_some (content S b) (In s []) b))
    o h

-- ---- which addresses have none

pub before_it : (b : Bool) → not b ≡ false → b ≡ true
before_it true h = refl
before_it false h = absurd (cc h)

-- an address without content demands nothing
pub no_keys : (S : Cells) (w : V.Oracle) (e : Frame) (a : Addr) → own_content (content S a) e a ≡ None → own_keys e (fact S w a) ≡ []
no_keys S w e a h = ap (held_keys e a) h

-- an address at this place of the range, or behind it, that comes before the next one has no content
abbrev pub NoneFrom : Cells → Frame → Range → Option Addr → ℕ → Type 0
NoneFrom S e r next i = (k : ℕ) (b : Addr) → i ≤ k → slice_get (addresses r) k ≡ Some b → HasNone S e next b

none_by : (o : Option Held) → (is_some o ≡ true → ⊥) → o ≡ None
none_by None h = refl
none_by (Some x) h = absurd (h refl)

none_before : (S : Cells) (e : Frame) (r : Range) (after next : Option Addr) (b : Addr) → IsFirst (is_held S e r after) next → is_in_play r after b ≡ true → HasNone S e next b
none_before S e r after None b f p h = none_by (own_content (content S b) e b) (λ t. f b (and_true (is_in_play r after b) (is_some (own_content (content S b) e b)) p t))
none_before S e r after (Some c) b f p h = none_by (own_content (content S b) e b) (λ t. f.1 b (and_true (is_in_play r after b) (is_some (own_content (content S b) e b)) p t) h)

member_get : (xs : List Addr) (k : ℕ) (b : Addr) → slice_get xs k ≡ Some b → Member b xs
member_get [] k b h = absurd (cc h)
member_get (x ∷ xs) zero b h = inl (cc h)
member_get (x ∷ xs) (suc k) b h = inr (member_get xs k b h)

later_get : (xs : List Addr) (i k : ℕ) (a b : Addr) → AreInOrder xs → slice_get xs i ≡ Some a → slice_get xs k ≡ Some b → i < k → Before a b
later_get [] i k a b o g h l = absurd (cc g)
later_get (x ∷ xs) i zero a b o g h l = absurd (omega (arith, l))
later_get (x ∷ xs) zero (suc k) a b o g h l =
    let e : x ≡ a = cc g in
    subst (λ y. Before y b) e (behind x xs o b (member_get xs k b h))
later_get (x ∷ xs) (suc i) (suc k) a b o g h l = later_get xs i k a b (tail x xs o) g h (omega (arith, l))

-- from the first address with content
pub none_at_start : (S : Cells) (e : Frame) (r : Range) (next : Option Addr) (i : ℕ) → IsFirst (is_held S e r None) next → NoneFrom S e r next i
none_at_start S e r next i f k b l g = none_before S e r None next b f (and_true (covers r b) true (F.member_covered r b (member_get (addresses r) k b g)) refl)

-- from the first one behind this place
pub none_behind : (S : Cells) (e : Frame) (r : Range) (next : Option Addr) (i : ℕ) (a : Addr) → Some a ≡ slice_get (addresses r) i → IsFirst (is_held S e r (Some a)) next → NoneFrom S e r next (i + 1)
none_behind S e r next i a is f k b l g =
    let late = later_get (addresses r) i k a b (addresses_order r) (sym is) g (omega (arith, l)) in
    none_before S e r (Some a) next b f (and_true (covers r b) (is_before a b) (F.member_covered r b (member_get (addresses r) k b g)) (of_before a b late))

-- with the same next one
pub none_onward : (S : Cells) (e : Frame) (r : Range) (next : Option Addr) (i : ℕ) → NoneFrom S e r next i → NoneFrom S e r next (i + 1)
none_onward S e r next i f k b l g = f k b (omega (arith, l)) g

-- ---- all of them, one after the other

filter_alike : (p q : Addr → Bool) (xs : List Addr) → ((b : Addr) → Member b xs → p b ≡ q b) → filter p xs ≡ filter q xs
filter_alike p q [] h = refl
filter_alike p q (x ∷ xs) h =
    ap (λ l. cond (p x) (x ∷ l) l) (filter_alike p q xs (λ b m. h b (inr m)))
    ∙ ap (λ c. cond c (x ∷ filter q xs) (filter q xs)) (h x (inl refl))

pub none_pass : (p : Addr → Bool) (xs : List Addr) → ((b : Addr) → Member b xs → p b ≡ false) → filter p xs ≡ []
none_pass p [] h = refl
none_pass p (x ∷ xs) h = ap (λ c. cond c (x ∷ filter p xs) (filter p xs)) (h x (inl refl)) ∙ none_pass p xs (λ b m. h b (inr m))

not_first : (a x : Addr) (t : Bool) → is_before a x ≡ t → (Before a x → ⊥) → t ≡ false
not_first a x true e h = absurd (h (before_of a x e))
not_first a x false e h = refl

module _ (p : Addr → Bool) (x : Addr) (xs : List Addr) (a : Addr) (d : AreInOrder (x ∷ xs)) (t : p a ≡ true) where
  abbrev behind_it : List Addr → List Addr
  behind_it ys = filter (λ b. is_before a b && p b) ys

  it_is_first : a ≡ x → filter p (x ∷ xs) ≡ a ∷ behind_it (x ∷ xs)
  it_is_first e =
      let px : p x ≡ true = subst (λ y. p y ≡ true) e t in
      let no : is_before a x ≡ false = not_first a x (is_before a x) refl (λ l. not_same a x l e) in
      ap (λ c. cond c (x ∷ filter p xs) (filter p xs)) px
      ∙ ap (λ y. y ∷ filter p xs) (sym e)
      ∙ ap (λ l. a ∷ l) (filter_alike p (λ b. is_before a b && p b) xs (λ b n. sym (ap (λ c. c && p b) (of_before a b (subst (λ y. Before y b) (sym e) (behind x xs d b n))))))
      ∙ ap (λ l. a ∷ l) (sym (ap (λ c. cond (c && p x) (x ∷ behind_it xs) (behind_it xs)) no))

  right : (u v : Bool) → v ≡ false → (u && v) ≡ false
  right true v e = e
  right false v e = refl

  it_is_later : (Member a xs → filter p xs ≡ a ∷ behind_it xs) → ((b : Addr) → p b ≡ true → Before b a → ⊥) → (c : Bool) → p x ≡ c → (a ≡ x) ⊎ Member a xs → filter p (x ∷ xs) ≡ a ∷ behind_it (x ∷ xs)
  it_is_later rest h c e (inl q) = it_is_first q
  it_is_later rest h true e (inr n) = absurd (h x e (behind x xs d a n))
  it_is_later rest h false e (inr n) =
      ap (λ c. cond c (x ∷ filter p xs) (filter p xs)) e
      ∙ rest n
      ∙ ap (λ l. a ∷ l) (sym (ap (λ c. cond c (x ∷ behind_it xs) (behind_it xs)) (right (is_before a x) (p x) e)))

-- those that pass are the first one, and then those behind it
first_and_rest : (p : Addr → Bool) (xs : List Addr) (a : Addr) → AreInOrder xs → Member a xs → p a ≡ true → ((b : Addr) → p b ≡ true → Before b a → ⊥) → filter p xs ≡ a ∷ filter (λ b. is_before a b && p b) xs
first_and_rest p [] a d m t h = absurd m
first_and_rest p (x ∷ xs) a d m t h = it_is_later p x xs a d t (λ n. first_and_rest p xs a (tail x xs d) n t h) h (p x) refl m

inside_by : (S : Cells) (s : SheetValue) (b : Addr) (c : Bool) → covers (region s) b ≡ c → is_some (cond c (content_in (content S b) (In s []) b) None) ≡ true → c ≡ true
inside_by S s b true e g = refl
inside_by S s b false e g = absurd (cc g)

-- what has content lies in the region
pub filled_inside : (S : Cells) (s : SheetValue) (b : Addr) → has_content_in S s b ≡ true → covers (region s) b ≡ true
filled_inside S s b h = inside_by S s b (covers (region s) b) refl h

with_true : (x y : Bool) → y ≡ true → (x && y) ≡ x
with_true true y e = e
with_true false y e = refl

and_false : (x : Bool) → (x && false) ≡ false
and_false true = refl
and_false false = refl

alike_by : (x y z h : Bool) → (h ≡ true → x ≡ y) → ((x && z) && h) ≡ ((y && z) && h)
alike_by x y z true f = ap (λ v. (v && z) && true) (f refl)
alike_by x y z false f = and_false (x && z) ∙ sym (and_false (y && z))

-- in the part of a range that lies in the region, and in the range
pub in_part_first : (S : Cells) (s : SheetValue) (r part : Range) (after o : Option Addr) → ((b : Addr) → covers part b ≡ (covers r b && covers (region s) b)) → IsFirst (is_filled S s part after) o → IsFirst (is_filled S s r after) o
in_part_first S s r part after o h f =
    first_alike (is_filled S s part after) (is_filled S s r after)
    (λ b. alike_by (covers part b) (covers r b) (comes_after after b) (has_content_in S s b) (λ e. h b ∙ with_true (covers r b) (covers (region s) b) (filled_inside S s b e))) o f

-- where the range and the region share no address
pub none_shared : (S : Cells) (s : SheetValue) (r : Range) (after : Option Addr) → ((b : Addr) → (covers r b && covers (region s) b) ≡ false) → IsFirst (is_filled S s r after) None
none_shared S s r after h b e =
    let (p, t) = both (is_in_play r after b) (has_content_in S s b) e in
    clash (and_true (covers r b) (covers (region s) b) (both (covers r b) (comes_after after b) p).0 (filled_inside S s b t)) (h b)

-- the same in frames
pub held_at_top : (S : Cells) (r : Range) (after o : Option Addr) → IsFirst (is_content S r after) o → IsFirst (is_held S Top r after) o
held_at_top S r after o f = first_alike (is_content S r after) (is_held S Top r after) (λ b. ap (λ c. is_in_play r after b && c) (sym (held_some (content S b)))) o f

own_same : (c : Option Content) (s : SheetValue) (w : V.Oracle) (b : Addr) → own_content c (In s []) b ≡ own_content c (In s w) b
own_same c (sheet_value q os e k n) w b = refl

pub held_in_copy : (S : Cells) (s : SheetValue) (w : V.Oracle) (r : Range) (after o : Option Addr) → IsFirst (is_filled S s r after) o → IsFirst (is_held S (In s w) r after) o
held_in_copy S s w r after o f = first_alike (is_filled S s r after) (is_held S (In s w) r after) (λ b. ap (λ h. is_in_play r after b && is_some h) (own_same (content S b) s w b)) o f

module _ (S : Cells) (s : SheetValue) where
  abbrev pub left : Option Addr → Addr → Bool
  left after b = comes_after after b && has_content_in S s b

  -- the addresses of the region that are left are those in play
  filled_left : (after : Option Addr) (b : Addr) → Member b (addresses (region s)) → left after b ≡ is_filled S s (region s) after b
  filled_left after b m = ap (λ c. (c && comes_after after b) && has_content_in S s b) (sym (F.member_covered (region s) b m))

  inside : (after : Option Addr) (b : Addr) → is_filled S s (region s) after b ≡ true → covers (region s) b ≡ true
  inside after b h = (both (covers (region s) b) (comes_after after b) (both (is_in_play (region s) after b) (has_content_in S s b) h).0).0

  chained : (after : Option Addr) (a b : Addr) → comes_after after a ≡ true → (is_before a b && (comes_after after b && has_content_in S s b)) ≡ (is_before a b && has_content_in S s b)
  chained None a b h = refl
  chained (Some c) a b h = by (is_before a b) refl
    where
      by : (t : Bool) → is_before a b ≡ t → (t && (is_before c b && has_content_in S s b)) ≡ (t && has_content_in S s b)
      by false e = refl
      by true e = ap (λ x. x && has_content_in S s b) (of_before c b (before_trans c a b (before_of c a h) (before_of a b e)))

  in_play : (after : Option Addr) (b : Addr) → left after b ≡ true → is_filled S s (region s) after b ≡ true
  in_play after b e =
      let (f, g) = both (comes_after after b) (has_content_in S s b) e in
      and_true (is_in_play (region s) after b) (has_content_in S s b) (and_true (covers (region s) b) (comes_after after b) (filled_inside S s b g) f) g

  -- the first that is left, and the others
  left_step : (after : Option Addr) (a : Addr) → IsFirst (is_filled S s (region s) after) (Some a) → filter (left after) (addresses (region s)) ≡ a ∷ filter (left (Some a)) (addresses (region s))
  left_step after a h =
      let all = addresses (region s) in
      let m = F.covered_member (region s) a (inside after a h.0) in
      let first = to_first (is_filled S s (region s) after) (Some a) h in
      let t : left after a ≡ true = filled_left after a m ∙ h.0 in
      let (c, u) = both (comes_after after a) (has_content_in S s a) t in
      first_and_rest (left after) all a (addresses_order (region s)) m t (λ b e l. first.1 b (in_play after b e) l)
      ∙ ap (λ l. a ∷ l) (filter_alike (λ b. is_before a b && left after b) (left (Some a)) all (λ b n. chained after a b c))

  pub fewer_left : (after : Option Addr) (a : Addr) → IsFirst (is_filled S s (region s) after) (Some a) → length (filter (left after) (addresses (region s))) ≡ suc (length (filter (left (Some a)) (addresses (region s))))
  fewer_left after a h = ap length (left_step after a h)

  -- one more
  pub one_filled : (after : Option Addr) (a : Addr) (fs : List Addr) → IsFirst (is_filled S s (region s) after) (Some a)
      → fs ++ filter (left after) (addresses (region s)) ≡ filter (has_content_in S s) (addresses (region s))
      → (fs ++ a ∷ []) ++ filter (left (Some a)) (addresses (region s)) ≡ filter (has_content_in S s) (addresses (region s))
  one_filled after a fs h k =
      append_assoc fs (a ∷ []) (filter (left (Some a)) (addresses (region s))) ∙ ap (λ l. fs ++ l) (sym (left_step after a h)) ∙ k

  -- no more
  pub all_filled : (after : Option Addr) (fs : List Addr) → IsFirst (is_filled S s (region s) after) None
      → fs ++ filter (left after) (addresses (region s)) ≡ filter (has_content_in S s) (addresses (region s)) → fs ≡ filter (has_content_in S s) (addresses (region s))
  all_filled after fs h k =
      let none : filter (left after) (addresses (region s)) ≡ [] = none_pass (left after) (addresses (region s)) (λ b m. no b m (left after b) refl) in
      sym (nil fs) ∙ ap (λ l. fs ++ l) (sym none) ∙ k
    where
      no : (b : Addr) → Member b (addresses (region s)) → (c : Bool) → left after b ≡ c → c ≡ false
      no b m true e = absurd (h b (sym (filled_left after b m) ∙ e))
      no b m false e = refl

      nil : (xs : List Addr) → xs ++ [] ≡ xs
      nil [] = refl
      nil (x ∷ xs) = ap (λ l. x ∷ l) (nil xs)

one_filtered : (c : Bool) (p : Addr → Bool) (x : Addr) (xs : List Addr) → length (filter p xs) ≤ length xs → length (cond c (x ∷ filter p xs) (filter p xs)) ≤ length (x ∷ xs)
one_filtered true p x xs l = omega (arith, l)
one_filtered false p x xs l = omega (arith, l)

filter_length : (p : Addr → Bool) (xs : List Addr) → length (filter p xs) ≤ length xs
filter_length p [] = omega arith
filter_length p (x ∷ xs) = one_filtered (p x) p x xs (filter_length p xs)

-- there are no more than addresses
pub few_filled : (p : Addr → Bool) (xs fs : List Addr) (n : ℕ) → length xs ≤ n → fs ≡ filter p xs → length fs ≤ n
few_filled p xs fs n l e = let k = filter_length p xs in let f : length fs ≡ length (filter p xs) = ap length e in omega (arith, l, k, f)

-- ---- what stands in the way

module _ (has : Addr → Bool) (r : Range) (root : Addr) where
  abbrev pub is_other : Addr → Bool
  is_other b = has b && not (same_addr b root)

  not_true : (c : Bool) → not c ≡ true → c ≡ false
  not_true true h = absurd (cc h)
  not_true false h = refl

  not_of : (c : Bool) → c ≡ false → not c ≡ true
  not_of true h = absurd (cc h)
  not_of false h = refl

  record Other (b : Addr) : Type 0 where
    inside : covers r b ≡ true
    held : has b ≡ true
    apart : same_addr b root ≡ false

  others_first : F.First Other (find is_other (addresses r))
  others_first =
      F.first_iff (λ b. Member b (addresses r) × (is_other b ≡ true)) Other (find is_other (addresses r))
      (λ b h. let (t, n) = both (has b) (not (same_addr b root)) h.1 in record { inside = F.member_covered r b h.0; held = t; apart = not_true (same_addr b root) n })
      (λ b o. (F.covered_member r b o.inside, and_true (has b) (not (same_addr b root)) o.held (not_of (same_addr b root) o.apart)))
      (F.find_first is_other (addresses r) (addresses_order r))

  playing : (b : Addr) → Other b → (is_in_play r None b && has b) ≡ true
  playing b o = and_true (is_in_play r None b) (has b) (and_true (covers r b) true o.inside refl) o.held

  other : (after : Option Addr) (b : Addr) → (is_in_play r after b && has b) ≡ true → same_addr b root ≡ false → Other b
  other after b h n =
      let (p, t) = both (is_in_play r after b) (has b) h in
      record { inside = (both (covers r b) (comes_after after b) p).0; held = t; apart = n }

  pub none_other : IsFirst (λ b. is_in_play r None b && has b) None → None ≡ find is_other (addresses r)
  none_other f = F.one_first Other None (find is_other (addresses r)) (λ b o. f b (playing b o)) others_first

  pub first_other : (a : Addr) → IsFirst (λ b. is_in_play r None b && has b) (Some a) → same_addr a root ≡ false → Some a ≡ find is_other (addresses r)
  first_other a h n =
      let f = to_first (λ b. is_in_play r None b && has b) (Some a) h in
      F.one_first Other (Some a) (find is_other (addresses r)) (other None a f.0 n, λ b o l. f.1 b (playing b o) l) others_first

  apart_by : (c : Bool) (b : Addr) → same_addr b root ≡ c → Before root b → c ≡ false
  apart_by true b e l = absurd (not_same root b l (sym (addr_exact b root e)))
  apart_by false b e l = refl

  later_by : (b : Addr) → (root ≡ b) ⊎ (Before root b ⊎ Before b root) → same_addr b root ≡ false → (Before b root → ⊥) → is_before root b ≡ true
  later_by b (inl e) n h = absurd (clash (subst (λ x. same_addr x root ≡ true) e (addr_same root)) n)
  later_by b (inr (inl l)) n h = of_before root b l
  later_by b (inr (inr l)) n h = absurd (h l)

  -- behind a root that is the first content
  pub second_other : (o : Option Addr) → IsFirst (λ b. is_in_play r None b && has b) (Some root) → IsFirst (λ b. is_in_play r (Some root) b && has b) o → o ≡ find is_other (addresses r)
  second_other o h k =
      let f = to_first (λ b. is_in_play r None b && has b) (Some root) h in
      F.one_first Other o (find is_other (addresses r))
      (F.first_iff (λ b. (is_in_play r (Some root) b && has b) ≡ true) Other o
      (λ b g. let (p, t) = both (is_in_play r (Some root) b) (has b) g in let (c, l) = both (covers r b) (is_before root b) p in other (Some root) b g (apart_by (same_addr b root) b refl (before_of root b l)))
      (λ b q. and_true (is_in_play r (Some root) b) (has b) (and_true (covers r b) (is_before root b) q.inside (later_by b (F.order root b) q.apart (λ l. f.1 b (playing b q) l))) q.held)
      (to_first (λ b. is_in_play r (Some root) b && has b) o k))
      others_first
