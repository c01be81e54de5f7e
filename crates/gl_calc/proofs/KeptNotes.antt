-- What is kept of notes goes by the places that are touched, however they are told.
use Rattle.std.proofs.Common.{◌≡◌, inl, inr, ◌||◌, Bool, true, false, not, List, [], ◌∷◌, length, refl, sym, ap, subst, ◌∙◌}
use Rattle.std.specs.List.{list_any}
use Rattle.gl_calculus.specs.Computation.Lists.{Member, AreDistinct}
use Rattle.gl_calculus.specs.Computation.Notes.{note_keys}
use Rattle.laws_calculus.proofs.Query.Ordered.{key_of}
use Rattle.gl_calculus.specs.Computation.Notes.{Note}
use Rattle.gl_machine.specs.Remembered.{AreClosed, AreSingle, AreTheKept, IsDropped}
use Rattle.gl_machine.specs.Remembered as R
use Rattle.gl_calculus.specs.Grid.Grid.{Addr, same_addr, Range, addresses}
use Rattle.gl_calculus.specs.Values.Value.{Oracle}
use Rattle.gl_calculus.specs.Evaluation.Oracle.{status, cover}
use Rattle.gl_calculus.specs.Evaluation.Key.{Key, Outcome}
use Rattle.gl_calculus.specs.Calculation.Memory.{Table, Notes, same_status, same_cover, differs_at, differs_in}
use Rattle.gl_plane.specs.Changes.{is_covered, reaches}
use Rattle.gl_calc.specs.Kept.{AreRanges, AreKept}

dropped_same : {K O A : Type 0} (p q : A → Bool) → ((a : A) → p a ≡ q a) → (ns : List (Note K O A)) (k : K) → IsDropped p ns k → IsDropped q ns k
dropped_same p q e ns _ (R.Touched n a m i l t) = R.Touched n a m i l (sym (e a) ∙ t)
dropped_same p q e ns _ (R.Reads n j m i r d) = R.Reads n j m i r (dropped_same p q e ns j d)

kept_same : {K O A : Type 0} (p q : A → Bool) → ((a : A) → p a ≡ q a) → (ns ms : List (Note K O A)) → AreTheKept p ns ms → AreTheKept q ns ms
kept_same p q e ns ms h = (
  (λ n m. (let (i, f) = h.0 n m in (i, λ d. f (dropped_same q p (λ a. sym (e a)) ns n.key d)))),
  (λ n m f. h.1 n m (λ d. f (dropped_same p q e ns n.key d))),
)

any_same : {X : Type 0} (p q : X → Bool) → ((x : X) → p x ≡ q x) → (xs : List X) → list_any p xs ≡ list_any q xs
any_same p q e [] = refl
any_same p q e (x ∷ xs) = rw (e x, any_same p q e xs) refl

-- the changes of a round are what was touched and what the oracles tell apart
differs_as : (ranges changes : List Range) (touched : List Addr) (before w : Oracle) → AreRanges ranges touched → ((a : Addr) → is_covered changes a ≡ (is_covered ranges a || differs_at [] before w a)) → (a : Addr) → is_covered changes a ≡ differs_at touched before w a
differs_as ranges changes touched before w h e a = e a ∙ ap (λ b. b || differs_at [] before w a) (h a) ∙ by (list_any (same_addr a) touched) (not (same_status (status w a) (status before a))) (not (same_cover (cover w a) (cover before a)))
  where
    by : (x b c : Bool) → (x || (false || b || c)) ≡ (x || b || c)
    by true b c = refl
    by false b c = refl

pub kept_notes : (ranges changes : List Range) (touched : List Addr) (t : Table) (w : Oracle) (notes kept : Notes) → notes ≡ t.notes → AreRanges ranges touched → ((a : Addr) → is_covered changes a ≡ (is_covered ranges a || differs_at [] t.oracle w a)) → AreTheKept (reaches changes) notes kept → AreClosed notes → AreSingle notes → AreKept (t, touched) w kept
kept_notes ranges changes touched t w notes kept s h e k closed single = record {
  kept = kept_same (reaches changes) (differs_in touched t.oracle w) (λ r. any_same (is_covered changes) (differs_at touched t.oracle w) (differs_as ranges changes touched t.oracle w h e) (addresses r)) t.notes kept
      (subst (λ ns. AreTheKept (reaches changes) ns kept) s k);
  closed = subst AreClosed s closed;
  single = subst AreSingle s single;
}

no_notes : (notes : Notes) → length notes ≡ 0 → notes ≡ []
no_notes [] e = refl
no_notes (n ∷ ns) e = absurd (cc e)

-- nothing is kept of nothing
pub kept_of_none : (touched : List Addr) (t : Table) (w : Oracle) (notes : Notes) → notes ≡ t.notes → length notes ≡ 0 → AreKept (t, touched) w notes
kept_of_none touched t w notes s e =
    let none : notes ≡ [] = no_notes notes e in
    let tables : t.notes ≡ [] = sym s ∙ none in
    record {
      kept = subst (λ ns. AreTheKept (differs_in touched t.oracle w) t.notes ns) (sym none) (subst (λ ns. AreTheKept (differs_in touched t.oracle w) ns []) (sym tables) ((λ n m. absurd m), (λ n m f. absurd m)));
      closed = subst AreClosed (sym tables) (λ n m. absurd m);
      single = subst AreSingle (sym tables) (λ n k m. absurd m);
    }

-- notes of distinct keys are one for each key
pub single_of : (ns : Notes) → AreDistinct (note_keys ns) → AreSingle ns
single_of [] d n m i j e = absurd i
single_of (x ∷ xs) d n m (inl a) (inl b) e = a ∙ sym b
single_of (x ∷ xs) d n m (inl a) (inr j) e = absurd (d.0 (subst (λ k. Member k (note_keys xs)) (sym e ∙ ap (λ (u : Note Key Outcome Range). u.key) a) (key_of xs m j)))
single_of (x ∷ xs) d n m (inr i) (inl b) e = absurd (d.0 (subst (λ k. Member k (note_keys xs)) (e ∙ ap (λ (u : Note Key Outcome Range). u.key) b) (key_of xs n i)))
single_of (x ∷ xs) d n m (inr i) (inr j) e = single_of xs d.1 n m i j e
