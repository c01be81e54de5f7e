-- What keys that wait were reading.
use Rattle.std.proofs.Common.{◌≡◌, ◌⊎◌, ◌++◌, ◌∷◌, [], ℕ, zero, suc, List, map, set, slice_get, Option, Some, inl, inr, refl, sym, ap, ◌∙◌, subst}
use Rattle.gl_calculus.specs.Computation.Query.{Query, Need, found}
use Rattle.gl_calculus.specs.Grid.Grid.{Range}
use Rattle.gl_calculus.specs.Formulas.Formula.{Cells}
use Rattle.gl_calculus.specs.Values.Value.{Oracle}
use Rattle.gl_calculus.specs.Evaluation.Key as K
use Rattle.gl_machine.specs.Ahead.Ahead.{first_lacked, IsAhead, LackSame}
use Rattle.gl_machine.specs.Ahead.Demands.{is_value}
use Rattle.gl_machine.specs.Ahead.Reading.{Ahead, Nothing, keys_from}
use Rattle.laws_calculus.proofs.Ahead.Onward.{ahead_onward}
use Rattle.gl_demand.specs.Marks.{PlainMark, mark_tree, mark_trees}
use Rattle.gl_core.specs.Marks.{IsMark, MarksStay, MarksBy, TellNothing}
use Rattle.gl_demand.specs.declared.mark.Mark.{Mark}
use Rattle.gl_core.proofs.Numbered.{map_push}

-- ---- lists in which one item is put, or goes last

pub get_set : {X : Type 0} (xs : List X) (p q : ℕ) (v x : X) → slice_get (set xs p v) q ≡ Some x → (slice_get xs q ≡ Some x) ⊎ ((q ≡ p) × (x ≡ v))
get_set [] p q v x e = inl e
get_set (y ∷ xs) zero zero v x e = let d : v ≡ x = cc in inr (refl, sym d)
get_set (y ∷ xs) zero (suc q) v x e = inl e
get_set (y ∷ xs) (suc p) zero v x e = inl e
get_set (y ∷ xs) (suc p) (suc q) v x e = elim (get_set xs p q v x e) [
  | inl a ↦ inl a
  | inr a ↦ inr (ap suc a.0, a.1)
]

pub get_push : {X : Type 0} (xs : List X) (v : X) (q : ℕ) (x : X) → slice_get (xs ++ v ∷ []) q ≡ Some x → (slice_get xs q ≡ Some x) ⊎ (x ≡ v)
get_push [] v zero x e = let d : v ≡ x = cc in inr (sym d)
get_push [] v (suc q) x e = absurd (cc e)
get_push (y ∷ xs) v zero x e = inl e
get_push (y ∷ xs) v (suc q) x e = get_push xs v q x e

pub map_set : {X Y : Type 0} (f : X → Y) (xs : List X) (p : ℕ) (v : X) → map f (set xs p v) ≡ set (map f xs) p (f v)
map_set f [] p v = refl
map_set f (x ∷ xs) zero v = refl
map_set f (x ∷ xs) (suc p) v = ap (λ t. f x ∷ t) (map_set f xs p v)

-- ---- which marks there are

pub all_stay : (old new : List PlainMark) → new ≡ old → MarksStay old new
all_stay old new e q m d = inl (ap (λ (ms : List PlainMark). slice_get ms q) (sym e) ∙ d)

pub pushed_stay : (old new : List PlainMark) → new ≡ old ++ (Nothing, 0) ∷ [] → MarksStay old new
pushed_stay old new e q m d = elim (get_push old (Nothing, 0) q m (ap (λ (ms : List PlainMark). slice_get ms q) (sym e) ∙ d)) [
  | inl a ↦ inl a
  | inr a ↦ inr (ap (λ (x : PlainMark). x.0) a)
]

pub stay_by : (P : PlainMark → Type 0) (p : ℕ) (old new : List PlainMark) → MarksStay old new → MarksBy P p old new
stay_by P p old new s q m d = elim (s q m d) [
  | inl a ↦ inl a
  | inr a ↦ inr (inl a)
]

pub marked_by : (p : ℕ) (v : PlainMark) (old between new : List PlainMark) → MarksStay old between → new ≡ set between p v → MarksBy (λ m. m ≡ v) p old new
marked_by p v old between new s e q m d = elim (get_set between p q v m (ap (λ (ms : List PlainMark). slice_get ms q) (sym e) ∙ d)) [
  | inl a ↦ stay_by (λ m. m ≡ v) p old between s q m a
  | inr a ↦ inr (inr a)
]

-- the place of one moves on
pub moved_by : (p place : ℕ) (v : PlainMark) (old between new : List PlainMark) → MarksStay old between → slice_get old p ≡ Some v → ((m : PlainMark) → slice_get between p ≡ Some m → new ≡ set between p (m.0, place)) → (x : PlainMark) → slice_get between p ≡ Some x → MarksBy (λ m. m ≡ (v.0, place)) p old new
moved_by p place v old between new s here moved x d q m e = elim (get_set between p q (x.0, place) m (ap (λ (ms : List PlainMark). slice_get ms q) (sym (moved x d)) ∙ e)) [
  | inl a ↦ stay_by (λ m. m ≡ (v.0, place)) p old between s q m a
  | inr a ↦ by a.0 a.1 (s p x d)
]
  where
    by : q ≡ p → m ≡ (x.0, place) → (slice_get old p ≡ Some x) ⊎ (x.0 ≡ Nothing) → (slice_get old q ≡ Some m) ⊎ (m.0 ≡ Nothing) ⊎ ((q ≡ p) × (m ≡ (v.0, place)))
    by a b (inl f) =
        let g : Some x ≡ Some v = sym f ∙ here in
        let k : x ≡ v = cc in
        inr (inr (a, b ∙ ap (λ (y : PlainMark). (y.0, place)) k))
    by a b (inr f) = inr (inl (ap (λ (y : PlainMark). y.0) b ∙ f))

pub by_more : (P Q : PlainMark → Type 0) (p : ℕ) (old new : List PlainMark) → ((m : PlainMark) → P m → Q m) → MarksBy P p old new → MarksBy Q p old new
by_more P Q p old new f b q m d = by (b q m d)
  where
    by : (slice_get old q ≡ Some m) ⊎ (m.0 ≡ Nothing) ⊎ ((q ≡ p) × P m) → (slice_get old q ≡ Some m) ⊎ (m.0 ≡ Nothing) ⊎ ((q ≡ p) × Q m)
    by (inl a) = inl a
    by (inr (inl a)) = inr (inl a)
    by (inr (inr a)) = inr (inr (a.0, f m a.1))

-- marks that tell nothing, and stay, tell nothing
pub nothing_stays : (old new : List PlainMark) → TellNothing old → MarksStay old new → TellNothing new
nothing_stays old new n s q m d = elim (s q m d) [
  | inl a ↦ n q m a
  | inr a ↦ a
]

pub nothing_told : (ms : List PlainMark) → ms ≡ [] → TellNothing ms
nothing_told ms e q m d = let no : slice_get [] q ≡ Some m = ap (λ (xs : List PlainMark). slice_get xs q) (sym e) ∙ d in absurd (cc no)

pub none_pushed : (ms : List Mark) (x : Mark) → mark_tree x ≡ (Nothing, 0) → mark_trees (ms ++ x ∷ []) ≡ mark_trees ms ++ (Nothing, 0) ∷ []
none_pushed ms x e = map_push mark_tree ms x ∙ ap (λ (m : PlainMark). mark_trees ms ++ m ∷ []) e

pub same_marks : (ms ms' : List Mark) → ms' ≡ ms → MarksStay (mark_trees ms) (mark_trees ms')
same_marks ms ms' e = all_stay (mark_trees ms) (mark_trees ms') (ap (λ (x : List Mark). mark_trees x) e)

-- ---- what is ahead by a mark

module _ (S : Cells) (w : Oracle) (q : Query K.Key K.Outcome Range K.Outcome) (f : K.Key → Option K.Outcome) where
  pub nothing_ahead : (m : PlainMark) → m.0 ≡ Nothing → IsMark S w q f m
  nothing_ahead m e = subst (λ (a : Ahead). IsAhead is_value q f (keys_from S w a m.1)) (sym e) (λ g h i d. absurd (cc d))

  -- the first lacked is needed
  pub lacked_needed : (m : PlainMark) (i : K.Key) → IsMark S w q f m → first_lacked is_value f (keys_from S w m.0 m.1) ≡ Some i → found f q ≡ Need i
  lacked_needed m i a e = a f (λ k o d. d) i e

  -- the place moves on
  pub mark_onward : (m : PlainMark) (n : ℕ) → LackSame is_value f (keys_from S w m.0 m.1) (keys_from S w m.0 n) → IsMark S w q f m → IsMark S w q f (m.0, n)
  mark_onward m n l a = (ahead_onward K.Key K.Outcome Range K.Outcome is_value q f (keys_from S w m.0 m.1) (keys_from S w m.0 n)).1 l a
