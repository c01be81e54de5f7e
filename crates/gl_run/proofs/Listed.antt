-- The addresses of listed changes.
use Rattle.std.proofs.Common.{◌≡◌, Bool, true, false, cond, List, [], ◌∷◌, ◌++◌, map, filter, Option, None, option_map, refl, sym, ap, subst}
use Rattle.gl_calculus.specs.Computation.Lists.{AreDistinct}
use Rattle.gl_calculus.specs.Grid.Grid.{Addr, Range, covers, AreInOrder}
use Rattle.gl_calculus.specs.Formulas.Formula.{Cells, IsSheet}
use Rattle.gl_calculus.specs.Formulas.Formula as F
use Rattle.gl_calculus.specs.Edits.Replicas.{Changes}
use Rattle.gl_cells.specs.Content.{content_tree}
use Rattle.gl_cells.specs.declared.content.Content.{Content}
use Rattle.gl_calculus.specs.Edits.Sheets.{places_in}
use Rattle.gl_calculus.specs.Edits.Sheets.{settings, removals}
use Rattle.laws_calculus.proofs.SheetEdits.SheetOrders.{order_filter}
use Rattle.gl_undo.specs.View.{AreProperChanges, changes_tree, places}
use Rattle.gl_run.proofs.Restoring.{plain_places}

pub listed_places : (vs : List (Addr × Option Content)) → plain_places (changes_tree vs) ≡ places vs
listed_places [] = refl
listed_places (v ∷ vs) = ap (λ (bs : List Addr). v.0 ∷ bs) (listed_places vs)

pub apart_tree : (vs : List (Addr × Option Content)) → AreDistinct (places vs) → AreDistinct (plain_places (changes_tree vs))
apart_tree vs d = subst AreDistinct (sym (listed_places vs)) d

pub places_of_settings : (cs : Cells) → plain_places (settings cs) ≡ map (λ (c : Addr × F.Content). c.0) cs
places_of_settings [] = refl
places_of_settings (c ∷ cs) = ap (λ (bs : List Addr). c.0 ∷ bs) (places_of_settings cs)

pub order_of_settings : (cs : Cells) → IsSheet cs → AreInOrder (plain_places (settings cs))
order_of_settings cs o = subst AreInOrder (sym (places_of_settings cs)) o

-- ---- what is removed

abbrev pub nothing_at : Addr → Addr × Option F.Content
nothing_at a = (a, None)

pub removals_listed : (S : Cells) (r : Range) → removals S r ≡ map nothing_at (places_in S r)
removals_listed [] r = refl
removals_listed (x ∷ S) r = by (covers r x.0) (removals_listed S r)
  where
    by : (t : Bool) → removals S r ≡ map nothing_at (places_in S r)
        → map (λ (c : Addr × F.Content). nothing_at c.0) (cond t (x ∷ filter (λ (c : Addr × F.Content). covers r c.0) S) (filter (λ (c : Addr × F.Content). covers r c.0) S)) ≡ map nothing_at (cond t (x.0 ∷ places_in S r) (places_in S r))
    by true ih = ap (λ (cs : Changes). (x.0, None) ∷ cs) ih
    by false ih = ih

places_removed : (T : Cells) → plain_places (map (λ (c : Addr × F.Content). nothing_at c.0) T) ≡ map (λ (c : Addr × F.Content). c.0) T
places_removed [] = refl
places_removed (c ∷ T) = ap (λ (bs : List Addr). c.0 ∷ bs) (places_removed T)

pub order_of_removals : (S : Cells) (r : Range) → IsSheet S → AreInOrder (plain_places (removals S r))
order_of_removals S r o = subst AreInOrder (sym (places_removed (filter (λ (c : Addr × F.Content). covers r c.0) S))) (order_filter (λ (c : Addr × F.Content). covers r c.0) S o)

pub tree_more : (vs : List (Addr × Option Content)) (a : Addr) → changes_tree (vs ++ (a, None) ∷ []) ≡ changes_tree vs ++ nothing_at a ∷ []
tree_more [] a = refl
tree_more (v ∷ vs) a = ap (λ (cs : Changes). (v.0, option_map content_tree v.1) ∷ cs) (tree_more vs a)

pub nothing_more : (ps : List Addr) (a : Addr) → map nothing_at (ps ++ a ∷ []) ≡ map nothing_at ps ++ nothing_at a ∷ []
nothing_more [] a = refl
nothing_more (p ∷ ps) a = ap (λ (cs : Changes). nothing_at p ∷ cs) (nothing_more ps a)

pub proper_more : (vs : List (Addr × Option Content)) (a : Addr) → AreProperChanges vs → AreProperChanges (vs ++ (a, None) ∷ [])
proper_more [] a h = (tt, tt)
proper_more (v ∷ vs) a h = (h.0, proper_more vs a h.1)
