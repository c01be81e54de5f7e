-- Known keys whose rows went or moved.
use Rattle.std.proofs.Common.{◌≡◌, ◌⊎◌, ◌<◌, ◌+◌, ◌≢◌, ◌||◌, ℕ, suc, nat_eq, Bool, true, false, List, [], ◌∷◌, length, set, slice_get, slice_index, Option, Some, None, inl, inr, refl, sym, ap, ◌∙◌, subst, arith}
use Rattle.gl_calculus.specs.Computation.Lists.{Member}
use Rattle.gl_calculus.specs.Grid.Grid.{Range}
use Rattle.gl_calculus.specs.Evaluation.Key as K
use Rattle.gl_support.specs.declared.row.Row.{Row}
use Rattle.gl_demand.specs.declared.outcome.Outcome.{Outcome}
use Rattle.gl_demand.specs.Marks.{mark_trees}
use Rattle.gl_demand.specs.declared.mark.Mark.{Mark}
use Rattle.gl_core.specs.Statuses.{has}
use Rattle.gl_core.specs.Numbers.{Each, numbers_of, IsIndex, IsRowOf}
use Rattle.gl_core.specs.Ledger.{IsLedger}
use Rattle.gl_core.specs.Marks.{TellNothing}
use Rattle.gl_core.specs.Table.{IsTable, IsBegun, AreBegun, status_by, marks_of}
use Rattle.gl_core.specs.Carry.{IsCarry, CanFollow, IsRestedBut}
use Rattle.gl_core.specs.Rested.{IsRested, AreBegunBut, IsBegunAgain, FollowsTo}
use Rattle.gl_core.specs.declared.ledger.Ledger.{Ledger}
use Rattle.gl_core.specs.declared.entries.Entries.{Entries}
use Rattle.gl_core.specs.declared.carry.Carry.{Carry}
use Rattle.gl_core.specs.declared.carry.Carry.TheVariants.{Seeds, Numbers}
use Rattle.gl_core.specs.declared.status.Status.{Status}
use Rattle.gl_core.specs.declared.status.Status.TheVariants.{Idle, Waiting, Resolved}
use Rattle.gl_core.proofs.Trees.{same_or_other}
use Rattle.gl_core.proofs.Tables.{not_same}
use Rattle.gl_core.proofs.Wakes.{get_set_same, get_set_other, get_within, get_there}
use Rattle.gl_core.proofs.Places.{member_at, place_of, one_place}
use Rattle.gl_core.proofs.Numbered.{index_apart, index_there, index_other, map_get, get_map}
use Rattle.gl_core.proofs.Marks.{has_there}
use Rattle.gl_core.proofs.Whole.{row_number}

-- what a number begins with by its row
begun_by : (rows : List (Row Outcome Range)) (n : ℕ) (v : Option ℕ) → IsRowOf rows n v → IsBegun rows n (status_by v)
begun_by rows n None h = h
begun_by rows n (Some r) h = h

more_left : (ns : List ℕ) (n m : ℕ) → m ≢ n → {P : Type 0} → (has (n ∷ ns) m ≡ true) ⊎ P → (has ns m ≡ true) ⊎ P
more_left ns n m d (inl h) = inl (subst (λ (b : Bool). (b || has ns m) ≡ true) (not_same m n d) h)
more_left ns n m d (inr p) = inr p

module _ (l : Ledger) (e e' : Entries) (t : IsTable e) (n : ℕ) (ns : List ℕ) (b : AreBegunBut l (n ∷ ns) e) where
  -- a number that is not known
  pub follows_none : (Member n e.known.items → ⊥) → FollowsTo l ns e e
  follows_none unknown = record {
    known = refl;
    marks = refl;
    begun = record {
      begun = λ p m s d f. more_left ns n m (λ i. unknown (subst (λ (k : ℕ). Member k e.known.items) i (member_at e.known.items p m d))) (b.begun p m s d f);
      none = λ p m d f. more_left ns n m (λ i. unknown (subst (λ (k : ℕ). Member k e.known.items) i (member_at e.known.items p m d))) (b.none p m d f);
    };
    table = t;
  }

  module _ (p : ℕ) (v : Option ℕ) (there : slice_get e.known.items p ≡ Some n) (row : IsRowOf l.rows.items n v) (again : IsBegunAgain p v e e') where
    before : (q m : ℕ) → slice_get e'.known.items q ≡ Some m → slice_get e.known.items q ≡ Some m
    before q m d = ap (λ (xs : List ℕ). slice_get xs q) (sym again.known) ∙ d

    within : p < length e.statuses.items.items
    within = let h = get_within e.known.items p n there in omega (arith, h, t.statuses)

    same : (q m : ℕ) → q ≡ p → slice_get e.known.items q ≡ Some m → m ≡ n
    same q m i d = let f : Some m ≡ Some n = sym d ∙ ap (slice_get e.known.items) i ∙ there in cc

    other : (q m : ℕ) → q ≢ p → slice_get e.known.items q ≡ Some m → m ≢ n
    other q m i d f = i (one_place e.known.items (index_apart e.known.items e.at.items t.index) q p n (d ∙ ap Some f) there)

    pub follows_one : FollowsTo l ns e e'
    follows_one = record {
      known = again.known;
      marks = again.marks;
      begun = record { begun = begun; none = none };
      table = again.table;
    }
      where
        begun : (q m : ℕ) (s : Status) → slice_get e'.known.items q ≡ Some m → slice_get e'.statuses.items.items q ≡ Some s → (has ns m ≡ true) ⊎ IsBegun l.rows.items m s
        begun q m s d f = elim (same_or_other q p) [
          | inl i ↦
              let g : Some (status_by v) ≡ Some s = sym (get_set_same e.statuses.items.items p (status_by v) within) ∙ ap (slice_get (set e.statuses.items.items p (status_by v))) (sym i) ∙ ap (λ (xs : List Status). slice_get xs q) (sym again.statuses) ∙ f in
              let is : status_by v ≡ s = cc in
              inr (subst (IsBegun l.rows.items m) is (subst (λ (k : ℕ). IsBegun l.rows.items k (status_by v)) (sym (same q m i (before q m d))) (begun_by l.rows.items n v row)))
          | inr i ↦
              let g : slice_get e.statuses.items.items q ≡ Some s = sym (get_set_other e.statuses.items.items p q (status_by v) i) ∙ ap (λ (xs : List Status). slice_get xs q) (sym again.statuses) ∙ f in
              more_left ns n m (other q m i (before q m d)) (b.begun q m s (before q m d) g)
        ]

        none : (q m : ℕ) → slice_get e'.known.items q ≡ Some m → (Member m (numbers_of l.rows.items) → ⊥) → (has ns m ≡ true) ⊎ (slice_index e'.passed.items q ≡ 0)
        none q m d f = elim (same_or_other q p) [
          | inl i ↦ inr (ap (λ (xs : List ℕ). slice_index xs q) again.passed ∙ ap (slice_index (set e.passed.items p 0)) i ∙ index_there e.passed.items p 0 (let h = get_within e.known.items p n there in omega (arith, h, t.passed)))
          | inr i ↦ kept q m i (more_left ns n m (other q m i (before q m d)) (b.none q m (before q m d) f))
        ]
          where
            kept : (q m : ℕ) → q ≢ p → (has ns m ≡ true) ⊎ (slice_index e.passed.items q ≡ 0) → (has ns m ≡ true) ⊎ (slice_index e'.passed.items q ≡ 0)
            kept q m i (inl h) = inl h
            kept q m i (inr h) = inr (ap (λ (xs : List ℕ). slice_index xs q) again.passed ∙ index_other e.passed.items p q 0 i ∙ h)

-- one after the other
pub follows_more : (l : Ledger) (ns : List ℕ) (a b c : Entries) → b.known.items ≡ a.known.items → b.marks.items ≡ a.marks.items → FollowsTo l ns b c → FollowsTo l ns a c
follows_more l ns a b c k m f = record { known = f.known ∙ k; marks = f.marks ∙ m; begun = f.begun; table = f.table }

-- ---- where all were followed

pub all_followed : (l : Ledger) (e e' : Entries) → FollowsTo l [] e e' → Each (λ n. n < length l.book) e.known.items → TellNothing (marks_of e) → ((n : ℕ) → Member n (numbers_of l.rows.items) → Member n e.known.items) → IsRested l e'
all_followed l e e' f below marks all = record {
  table = f.table;
  below = subst (λ (ns : List ℕ). Each (λ n. n < length l.book) ns) (sym f.known) below;
  begun = λ p n s d g. elim (f.begun.begun p n s d g) [
    | inl h ↦ absurd (cc h)
    | inr h ↦ h
  ];
  none = λ p n d g. elim (f.begun.none p n d g) [
    | inl h ↦ absurd (cc h)
    | inr h ↦ h
  ];
  marks = λ q m d. marks q m (ap (λ (ms : List Mark). slice_get (mark_trees ms) q) (sym f.marks) ∙ d);
  all = λ n m. subst (λ (ns : List ℕ). Member n ns) (sym f.known) (all n m);
}

-- ---- rows of the other numbers stand where they stood

module _ (l l' : Ledger) (h : IsLedger l) (h' : IsLedger l') (ns : List ℕ) (same : (n : ℕ) → (Member n ns → ⊥) → slice_index l'.row_of.items n ≡ slice_index l.row_of.items n) where
  -- a number that is not among those that changed
  module _ (n : ℕ) (others : Member n ns → ⊥) where
    stands : (r : ℕ) → slice_get (numbers_of l.rows.items) r ≡ Some n → slice_get (numbers_of l'.rows.items) r ≡ Some n
    stands r d = h'.index.back n r (same n others ∙ h.index.there r n d)

    stood : (r : ℕ) → slice_get (numbers_of l'.rows.items) r ≡ Some n → slice_get (numbers_of l.rows.items) r ≡ Some n
    stood r d = h.index.back n r (sym (same n others) ∙ h'.index.there r n d)

    had : Member n (numbers_of l'.rows.items) → Member n (numbers_of l.rows.items)
    had m = let (r, d) = place_of (numbers_of l'.rows.items) n m in member_at (numbers_of l.rows.items) r n (stood r d)

    has_still : Member n (numbers_of l.rows.items) → Member n (numbers_of l'.rows.items)
    has_still m = let (r, d) = place_of (numbers_of l.rows.items) n m in member_at (numbers_of l'.rows.items) r n (stands r d)

    still_begun : (s : Status) → IsBegun l.rows.items n s → IsBegun l'.rows.items n s
    still_begun Idle b = λ m. b (had m)
    still_begun (Waiting p) b = b
    still_begun (Resolved r) (x, d, i) =
        let (y, f, j) = map_get (λ (z : Row Outcome Range). z.by) l'.rows.items r n (stands r (get_map (λ (z : Row Outcome Range). z.by) l.rows.items r x d ∙ ap Some i)) in
        (y, f, j)

  pub begun_but : (e : Entries) → IsRested l e → AreBegunBut l' ns e
  begun_but e b = record {
    begun = λ p n s d f. by n (λ o. still_begun n o s (b.begun p n s d f));
    none = λ p n d f. by n (λ o. b.none p n d (λ m. f (has_still n o m)));
  }
    where
      by : (n : ℕ) → {P : Type 0} → ((Member n ns → ⊥) → P) → (has ns n ≡ true) ⊎ P
      by n {P} f = at (has ns n) refl
        where
          at : (b : Bool) → has ns n ≡ b → (has ns n ≡ true) ⊎ P
          at true e = inl e
          at false e = inr (f (λ m. let no : false ≡ true = sym e ∙ has_there ns n m in cc no))

-- ---- what is left to the next round

-- the number of a row that was there before
pub numbers_from : (old new : List (Row Outcome Range)) → ((r : Row Outcome Range) → Member r new → Member r old) → (n : ℕ) → Member n (numbers_of new) → Member n (numbers_of old)
numbers_from old new f n m =
    let (p, d) = place_of (numbers_of new) n m in
    let (r, e, i) = map_get (λ (z : Row Outcome Range). z.by) new p n d in
    subst (λ (k : ℕ). Member k (numbers_of old)) i (row_number old r (f r (member_at new p r e)))

pub can_follow : (l l' : Ledger) → IsLedger l → IsLedger l' → l'.book ≡ l.book → (ns : List ℕ) → ((n : ℕ) → (Member n ns → ⊥) → slice_index l'.row_of.items n ≡ slice_index l.row_of.items n) → ((n : ℕ) → Member n (numbers_of l'.rows.items) → Member n (numbers_of l.rows.items)) →
    (k : Carry) → IsCarry l k → CanFollow l' ns k
can_follow l l' h h' b ns same from (Seeds e) r = record {
  table = r.table;
  below = subst (λ (ks : List K.Key). Each (λ n. n < length ks) e.known.items) (sym b) r.below;
  begun = begun_but l l' h h' ns same e r;
  marks = r.marks;
  all = λ n m. r.all n (from n m);
}
can_follow l l' h h' b ns same from (Numbers xs) r = tt

-- the same of the same book and rows
pub same_carry : (l l' : Ledger) → l'.book ≡ l.book → l'.rows.items ≡ l.rows.items → (k : Carry) → IsCarry l k → IsCarry l' k
same_carry l l' b s (Seeds e) r = record {
  table = r.table;
  below = subst (λ (ks : List K.Key). Each (λ n. n < length ks) e.known.items) (sym b) r.below;
  begun = subst (λ (rs : List (Row Outcome Range)). AreBegun rs e.known.items e.statuses.items.items) (sym s) r.begun;
  none = λ p n d f. r.none p n d (λ m. f (subst (λ (rs : List (Row Outcome Range)). Member n (numbers_of rs)) (sym s) m));
  marks = r.marks;
  all = λ n m. r.all n (subst (λ (rs : List (Row Outcome Range)). Member n (numbers_of rs)) s m);
}
same_carry l l' b s (Numbers xs) r = tt

-- keys that were followed are left as they are
pub followed_rested : (l : Ledger) (ns : List ℕ) (e e' : Entries) → IsRestedBut l ns e → FollowsTo l [] e e' → IsRested l e'
followed_rested l ns e e' b f = all_followed l e e' f b.below b.marks b.all
