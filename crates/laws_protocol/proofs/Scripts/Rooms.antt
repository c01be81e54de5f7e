-- What comes with a step has room beside all that is there.
use Rattle.std.proofs.Common.{◌≡◌, ◌∙◌, Bool, true, false, cond, [], ◌∷◌, map, filter, length, Option, Some, None, refl, sym, ap, subst, arith}
use Rattle.std.specs.List.{AllByRecursion}
use Rattle.gl_calculus.specs.Grid.Grid.{Addr, Range, same_addr, covers}
use Rattle.gl_calculus.specs.Formulas.Formula.{Content, Cells, IsSheet, content, formula_addresses}
use Rattle.gl_calculus.proofs.Tests.{addr_exact, addr_same}
use Rattle.gl_calculus.specs.Edits.Replicas.{Changes}
use Rattle.gl_calculus.specs.Edits.Steps.{step_of, befores, afters}
use Rattle.gl_calculus.specs.Edits.Sheets.{with_content, with_contents, without}
use Rattle.gl_calculus.specs.Edits.Sheets.{and_content, coming, with_change, with_changes, settings, removals}
use Rattle.laws_calculus.proofs.SheetEdits.SameSheets.{same_sheets}
use Rattle.laws_calculus.proofs.SheetEdits.SheetChanges.{found}
use Rattle.laws_calculus.proofs.SheetEdits.SheetOrders.{order_with_all}
use Rattle.laws_calculus.proofs.SheetEdits.TakenBack.{after_changes, found_changes, is_changed, unchanged, taken_back, done_again, contents_are_changes, cleared_by_removals}
use Rattle.laws_protocol.specs.Replies.{IsWithinLimits}
use Rattle.laws_protocol.specs.Rooms.{HasRoom}
use Rattle.laws_protocol.proofs.Scripts.Counts.{AreOver, IsConst, length_all_over, formulas_consts}

-- both ways
pub record Rooms (S T : Cells) (cs : Changes) : Type 0 where
  pub back : HasRoom T (befores (step_of S cs))
  pub on : HasRoom S (afters (step_of S cs))

-- ---- one content

pub rooms_set : (S T : Cells) (a : Addr) (c : Content) → IsSheet S → IsWithinLimits S → IsWithinLimits T → with_content S a c ≡ T → Rooms S T ((a, Some c) ∷ [])
rooms_set S T a c o s t e = record { back = by (content S a) refl; on = subst IsWithinLimits (sym e) t }
  where
    by : (k : Option Content) → content S a ≡ k → IsWithinLimits (with_contents T (and_content a k []))
    by (Some b) f =
        let back : with_change (with_content S a c) a (content S a) ≡ S = taken_back S ((a, Some c) ∷ []) o in
        let same : with_content T a b ≡ S = ap (λ (Z : Cells). with_content Z a b) (sym e) ∙ ap (λ (k : Option Content). with_change (with_content S a c) a k) (sym f) ∙ back in
        subst IsWithinLimits (sym same) s
    by None f = t

-- ---- a range

nothing_comes : (X : Cells) → coming (map (λ (c : Addr × Content). (c.0, None)) X) ≡ []
nothing_comes [] = refl
nothing_comes (x ∷ X) = nothing_comes X

-- what was there, at the addresses of some contents
abbrev was : Cells → Cells → Changes
was S X = map (λ (c : Addr × Content). (c.0, content S c.0)) X

befores_removed : (S X : Cells) → befores (step_of S (map (λ (c : Addr × Content). (c.0, None)) X)) ≡ was S X
befores_removed S [] = refl
befores_removed S (x ∷ X) = ap (λ (cs : Changes). (x.0, content S x.0) ∷ cs) (befores_removed S X)

-- each of them is there
abbrev AreThere : Cells → Cells → Type 0
AreThere S X = AllByRecursion (λ (c : Addr × Content). content S c.0 ≡ None → ⊥) X

there_settings : (S X : Cells) → AreThere S X → settings (coming (was S X)) ≡ was S X
there_settings S [] h = refl
there_settings S (x ∷ X) h = by (content S x.0) refl (there_settings S X h.1)
  where
    by : (k : Option Content) → content S x.0 ≡ k → settings (coming (was S X)) ≡ was S X → settings (and_content x.0 k (coming (was S X))) ≡ (x.0, k) ∷ was S X
    by (Some b) e ih = ap (λ (cs : Changes). (x.0, Some b) ∷ cs) ih
    by None e ih = absurd (h.0 e)

there_more : (x : Addr × Content) (S X : Cells) → AreThere S X → AreThere (x ∷ S) X
there_more x S [] h = tt
there_more x S (y ∷ X) h = (by (same_addr y.0 x.0) refl, there_more x S X h.1)
  where
    by : (t : Bool) → same_addr y.0 x.0 ≡ t → content (x ∷ S) y.0 ≡ None → ⊥
    by true e k = let some : Some x.1 ≡ None = sym (ap (λ (t : Bool). cond t (Some x.1) (content S y.0)) e) ∙ k in cc some
    by false e k = h.0 (sym (ap (λ (t : Bool). cond t (Some x.1) (content S y.0)) e) ∙ k)

here_some : (x : Addr × Content) (S : Cells) → content (x ∷ S) x.0 ≡ None → ⊥
here_some x S k = let some : Some x.1 ≡ None = sym (ap (λ (t : Bool). cond t (Some x.1) (content S x.0)) (addr_same x.0)) ∙ k in cc some

all_there : (p : Addr × Content → Bool) (S : Cells) → AreThere S (filter p S)
all_there p [] = tt
all_there p (x ∷ S) = by (p x) (there_more x S (filter p S) (all_there p S))
  where
    by : (t : Bool) → AreThere (x ∷ S) (filter p S) → AreThere (x ∷ S) (cond t (x ∷ filter p S) (filter p S))
    by true h = (here_some x S, h)
    by false h = h

pub rooms_clear : (S : Cells) (r : Range) → IsSheet S → IsWithinLimits S → Rooms S (without S r) (removals S r)
rooms_clear S r o s =
    let X = filter (λ (c : Addr × Content). covers r c.0) S in
    let T = without S r in
    let d = step_of S (removals S r) in
    let comes : settings (coming (befores d)) ≡ befores d = subst (λ (cs : Changes). settings (coming cs) ≡ cs) (sym (befores_removed S X)) (there_settings S X (all_there (λ (c : Addr × Content). covers r c.0) S)) in
    let back : with_contents T (coming (befores d)) ≡ S =
    contents_are_changes (coming (befores d)) T ∙ ap (with_changes T) comes ∙ ap (λ (Z : Cells). with_changes Z (befores d)) (cleared_by_removals S r o) ∙ taken_back S (removals S r) o in
    let none : coming (afters d) ≡ [] = ap coming (done_again S (removals S r)) ∙ nothing_comes X in
    record { back = subst IsWithinLimits (sym back) s; on = subst (λ (ks : Cells). IsWithinLimits (with_contents S ks)) (sym none) s }

-- ---- constants at several addresses

-- what was there at the addresses of an import, and those of its contents that stand where nothing was
abbrev before_them : Cells → Cells → Cells
before_them S cs = coming (was S cs)

abbrev if_new : Option Content → Addr × Content → Cells → Cells
if_new None x X = x ∷ X
if_new (Some b) x X = X

abbrev new_ones : Cells → Cells → Cells
new_ones S [] = []
new_ones S (c ∷ cs) = if_new (content S c.0) c (new_ones S cs)

new_consts : (S cs : Cells) → AllByRecursion IsConst cs → AllByRecursion IsConst (new_ones S cs)
new_consts S [] h = tt
new_consts S (c ∷ cs) h = by (content S c.0) (new_consts S cs h.1)
  where
    by : (k : Option Content) → AllByRecursion IsConst (new_ones S cs) → AllByRecursion IsConst (if_new k c (new_ones S cs))
    by None ih = (h.0, ih)
    by (Some b) ih = ih

module _ (S : Cells) (b : Addr) where
  -- where nothing was, nothing comes back
  none_back : (cs : Cells) (p : Option Content) → content S b ≡ None → after_changes (settings (before_them S cs)) b p ≡ p
  none_back [] p e = refl
  none_back (c ∷ cs) p e = by (content S c.0) refl (none_back cs p e)
    where
      by : (k : Option Content) → content S c.0 ≡ k → after_changes (settings (before_them S cs)) b p ≡ p → after_changes (settings (and_content c.0 k (before_them S cs))) b p ≡ p
      by None f ih = ih
      by (Some v) f ih = ap (after_changes (settings (before_them S cs)) b) (other (same_addr b c.0) refl) ∙ ih
        where
          other : (t : Bool) → same_addr b c.0 ≡ t → found b c.0 (Some v) p ≡ p
          other true g = let no : None ≡ Some v = sym e ∙ ap (content S) (addr_exact b c.0 g) ∙ f in cc no
          other false g = ap (λ (t : Bool). cond t (Some v) p) g

  none_new : (cs : Cells) (p : Option Content) → content S b ≡ None → after_changes (settings cs) b p ≡ after_changes (settings (new_ones S cs)) b p
  none_new [] p e = refl
  none_new (c ∷ cs) p e = by (content S c.0) refl (λ q. none_new cs q e)
    where
      by : (k : Option Content) → content S c.0 ≡ k → ((q : Option Content) → after_changes (settings cs) b q ≡ after_changes (settings (new_ones S cs)) b q) → after_changes (settings cs) b (found b c.0 (Some c.1) p) ≡ after_changes (settings (if_new k c (new_ones S cs))) b p
      by None f ih = ih (found b c.0 (Some c.1) p)
      by (Some v) f ih = ap (after_changes (settings cs) b) (other (same_addr b c.0) refl) ∙ ih p
        where
          other : (t : Bool) → same_addr b c.0 ≡ t → found b c.0 (Some c.1) p ≡ p
          other true g = let no : None ≡ Some v = sym e ∙ ap (content S) (addr_exact b c.0 g) ∙ f in cc no
          other false g = ap (λ (t : Bool). cond t (Some c.1) p) g

  -- where something was, it comes back
  some_back : (cs : Cells) (v : Content) (p : Option Content) → content S b ≡ Some v → (is_changed (settings cs) b ≡ false → p ≡ Some v) → after_changes (settings (before_them S cs)) b p ≡ Some v
  some_back [] v p e h = h refl
  some_back (c ∷ cs) v p e h = by (same_addr b c.0) refl (λ q f. some_back cs v q e f)
    where
      by : (t : Bool) → same_addr b c.0 ≡ t → ((q : Option Content) → (is_changed (settings cs) b ≡ false → q ≡ Some v) → after_changes (settings (before_them S cs)) b q ≡ Some v) → after_changes (settings (and_content c.0 (content S c.0) (before_them S cs))) b p ≡ Some v
      by true g ih =
          let at_c : content S c.0 ≡ Some v = ap (content S) (sym (addr_exact b c.0 g)) ∙ e in
          let now : found b c.0 (Some v) p ≡ Some v = ap (λ (t : Bool). cond t (Some v) p) g in
          ap (λ (k : Option Content). after_changes (settings (and_content c.0 k (before_them S cs))) b p) at_c ∙ ih (found b c.0 (Some v) p) (λ n. now)
      by false g ih = kept (content S c.0)
        where
          rest : (q : Option Content) → q ≡ p → after_changes (settings (before_them S cs)) b q ≡ Some v
          rest q f = ih q (λ n. f ∙ h (ap (λ (t : Bool). cond t true (is_changed (settings cs) b)) g ∙ n))

          kept : (k : Option Content) → after_changes (settings (and_content c.0 k (before_them S cs))) b p ≡ Some v
          kept None = rest p refl
          kept (Some w) = rest (found b c.0 (Some w) p) (ap (λ (t : Bool). cond t (Some w) p) g)

  some_new : (cs : Cells) (v : Content) (p : Option Content) → content S b ≡ Some v → after_changes (settings (new_ones S cs)) b p ≡ p
  some_new [] v p e = refl
  some_new (c ∷ cs) v p e = by (content S c.0) refl (some_new cs v p e)
    where
      by : (k : Option Content) → content S c.0 ≡ k → after_changes (settings (new_ones S cs)) b p ≡ p → after_changes (settings (if_new k c (new_ones S cs))) b p ≡ p
      by (Some w) f ih = ih
      by None f ih = ap (after_changes (settings (new_ones S cs)) b) (other (same_addr b c.0) refl) ∙ ih
        where
          other : (t : Bool) → same_addr b c.0 ≡ t → found b c.0 (Some c.1) p ≡ p
          other true g = let no : Some v ≡ None = sym e ∙ ap (content S) (addr_exact b c.0 g) ∙ f in cc no
          other false g = ap (λ (t : Bool). cond t (Some c.1) p) g

  both_sheets : (cs : Cells) → after_changes (settings (before_them S cs)) b (after_changes (settings cs) b (content S b)) ≡ after_changes (settings (new_ones S cs)) b (content S b)
  both_sheets cs = by (content S b) refl
    where
      by : (k : Option Content) → content S b ≡ k → after_changes (settings (before_them S cs)) b (after_changes (settings cs) b (content S b)) ≡ after_changes (settings (new_ones S cs)) b (content S b)
      by None e = none_back cs (after_changes (settings cs) b (content S b)) e ∙ none_new cs (content S b) e
      by (Some v) e =
          some_back cs v (after_changes (settings cs) b (content S b)) e (λ n. unchanged (settings cs) b (content S b) n ∙ e) ∙ sym (some_new cs v (content S b) e ∙ e)

-- with what was there in place of what came, it is the sheet with the new ones alone
over_is_new : (S cs : Cells) → IsSheet S → with_contents (with_contents S cs) (before_them S cs) ≡ with_contents S (new_ones S cs)
over_is_new S cs o =
    same_sheets (with_contents (with_contents S cs) (before_them S cs)) (with_contents S (new_ones S cs)) (order_with_all (before_them S cs) (with_contents S cs) (order_with_all cs S o)) (order_with_all (new_ones S cs) S o)
    (λ b.
    ap (λ (Z : Cells). content Z b) (contents_are_changes (before_them S cs) (with_contents S cs)) ∙ found_changes (settings (before_them S cs)) (with_contents S cs) b
    ∙ ap (after_changes (settings (before_them S cs)) b) (ap (λ (Z : Cells). content Z b) (contents_are_changes cs S) ∙ found_changes (settings cs) S b) ∙ both_sheets S b cs
    ∙ sym (ap (λ (Z : Cells). content Z b) (contents_are_changes (new_ones S cs) S) ∙ found_changes (settings (new_ones S cs)) S b))

-- all that was there is there
some_stays : (cs : Changes) (b : Addr) (p : Option Content) → AllByRecursion (λ (c : Addr × Option Content). c.1 ≡ None → ⊥) cs → (p ≡ None → ⊥) → after_changes cs b p ≡ None → ⊥
some_stays [] b p all h = h
some_stays (c ∷ cs) b p all h = some_stays cs b (found b c.0 c.1 p) all.1 (by (same_addr b c.0))
  where
    by : (t : Bool) → cond t c.1 p ≡ None → ⊥
    by true = all.0
    by false = h

settings_some : (cs : Cells) → AllByRecursion (λ (c : Addr × Option Content). c.1 ≡ None → ⊥) (settings cs)
settings_some [] = tt
settings_some (c ∷ cs) = ((λ k. cc k), settings_some cs)

back_over : (S T : Cells) (cs : Cells) → ((b : Addr) → (content S b ≡ None → ⊥) → content T b ≡ None → ⊥) → AreOver T (before_them S cs)
back_over S T [] h = tt
back_over S T (c ∷ cs) h = by (content S c.0) refl (back_over S T cs h)
  where
    by : (k : Option Content) → content S c.0 ≡ k → AreOver T (before_them S cs) → AreOver T (and_content c.0 k (before_them S cs))
    by None e ih = ih
    by (Some v) e ih = (h c.0 (λ f. let no : Some v ≡ None = sym e ∙ f in cc no), ih)

before_settings : (S cs : Cells) → befores (step_of S (settings cs)) ≡ was S cs
before_settings S [] = refl
before_settings S (c ∷ cs) = ap (λ (ds : Changes). (c.0, content S c.0) ∷ ds) (before_settings S cs)

coming_settings : (cs : Cells) → coming (settings cs) ≡ cs
coming_settings [] = refl
coming_settings (c ∷ cs) = ap (λ (X : Cells). c ∷ X) (coming_settings cs)

pub rooms_import : (S T cs : Cells) → IsSheet S → IsWithinLimits S → IsWithinLimits T → AllByRecursion IsConst cs → with_contents S cs ≡ T → Rooms S T (settings cs)
rooms_import S T cs o s t consts e =
    let d = step_of S (settings cs) in
    let U = with_contents S cs in
    let M = with_contents U (before_them S cs) in
    let few = formulas_consts (new_ones S cs) S (new_consts S cs consts) in
    let forms = ap (λ (Z : Cells). length (formula_addresses Z)) (over_is_new S cs o) in
    let stays : (b : Addr) → (content S b ≡ None → ⊥) → content U b ≡ None → ⊥ =
    λ b h k. some_stays (settings cs) b (content S b) (settings_some cs) h (sym (ap (λ (Z : Cells). content Z b) (contents_are_changes cs S) ∙ found_changes (settings cs) S b) ∙ k) in
    let long = length_all_over (before_them S cs) U (order_with_all cs S o) (back_over S U cs stays) in
    let size = ap (λ (Z : Cells). length Z) e in
    let within : IsWithinLimits M = (omega (arith, few, forms, s.0), omega (arith, long, size, t.1)) in
    let whole : with_contents T (coming (befores d)) ≡ M = ap (λ (Z : Cells). with_contents Z (coming (befores d))) (sym e) ∙ ap (λ (ds : Changes). with_contents U (coming ds)) (before_settings S cs) in
    let on : with_contents S (coming (afters d)) ≡ T = ap (λ (ds : Changes). with_contents S (coming ds)) (done_again S (settings cs)) ∙ ap (with_contents S) (coming_settings cs) ∙ e in
    record { back = subst IsWithinLimits (sym whole) within; on = subst IsWithinLimits (sym on) t }
