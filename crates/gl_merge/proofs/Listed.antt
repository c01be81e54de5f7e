-- The registers that an index lists.
use Rattle.std.proofs.Common.{◌≡◌, ◌∙◌, ℕ, zero, suc, List, [], ◌∷◌, length, Option, Some, None, option_map, slice_get, refl, sym, ap, subst}
use Rattle.std.proofs.lemmas.List.{length-map}
use Rattle.std.specs.List.{AllByRecursion}
use Rattle.std.proofs.lemmas.Option.{slice_get-map}
use Rattle.gl_calculus.specs.Grid.Grid.{Addr}
use Rattle.gl_calculus.specs.Edits.Replicas.{register_at}
use Rattle.gl_merge.specs.Edit.{EditValue, edit_tree}
use Rattle.gl_merge.specs.Index.{Index, places, and_edit, listed, trees, registers, StandsAt, IsIndex}
use Rattle.gl_merge.specs.Spot.{IsFoundAt, IsGapAt}
use Rattle.gl_merge.proofs.Registers.{places_of, register_found, register_gap}

pub listed_cons : (es : List EditValue) (p : Addr × ℕ) (ix : Index) (e : EditValue) → slice_get es p.1 ≡ Some e → listed es (p ∷ ix) ≡ e ∷ listed es ix
listed_cons es p ix e h = ap (λ (o : Option EditValue). and_edit o (listed es ix)) h

pub listed_places : (es : List EditValue) (ix : Index) → AllByRecursion (StandsAt es) ix → places_of (registers es ix) ≡ places ix
listed_places es [] h = refl
listed_places es (p ∷ ix) h =
    ap (λ (xs : List EditValue). places_of (trees xs)) (listed_cons es p ix h.0.0 h.0.1)
    ∙ ap (λ (a : Addr). a ∷ places_of (registers es ix)) h.0.2
    ∙ ap (λ (ps : List Addr). p.0 ∷ ps) (listed_places es ix h.1)

pub listed_length : (es : List EditValue) (ix : Index) → AllByRecursion (StandsAt es) ix → length (listed es ix) ≡ length ix
listed_length es [] h = refl
listed_length es (p ∷ ix) h = ap (λ (xs : List EditValue). length xs) (listed_cons es p ix h.0.0 h.0.1) ∙ ap suc (listed_length es ix h.1)

-- what stands at a place of the index
pub listed_get : (es : List EditValue) (ix : Index) (i : ℕ) (p : Addr × ℕ) → AllByRecursion (StandsAt es) ix → slice_get ix i ≡ Some p → slice_get (listed es ix) i ≡ slice_get es p.1
listed_get es [] i p h e = cc e
listed_get es (q ∷ ix) zero p h e =
    let s : q ≡ p = cc e in
    ap (λ (xs : List EditValue). slice_get xs 0) (listed_cons es q ix h.0.0 h.0.1) ∙ sym h.0.1 ∙ ap (λ (z : Addr × ℕ). slice_get es z.1) s
listed_get es (q ∷ ix) (suc i) p h e = ap (λ (xs : List EditValue). slice_get xs (suc i)) (listed_cons es q ix h.0.0 h.0.1) ∙ listed_get es ix i p h.1 e

pub listed_past : (es : List EditValue) (ix : Index) (i : ℕ) → AllByRecursion (StandsAt es) ix → slice_get ix i ≡ None → None ≡ slice_get (listed es ix) i
listed_past es [] i h e = refl
listed_past es (q ∷ ix) zero h e = cc e
listed_past es (q ∷ ix) (suc i) h e = listed_past es ix i h.1 e ∙ sym (ap (λ (xs : List EditValue). slice_get xs (suc i)) (listed_cons es q ix h.0.0 h.0.1))

pub listed_all : (P : EditValue → Type 0) (es : List EditValue) (ix : Index) → AllByRecursion (StandsAt es) ix → ((i : ℕ) (e : EditValue) → slice_get es i ≡ Some e → P e) → AllByRecursion P (listed es ix)
listed_all P es [] h f = tt
listed_all P es (p ∷ ix) h f = subst (AllByRecursion P) (sym (listed_cons es p ix h.0.0 h.0.1)) (f p.1 h.0.0 h.0.1, listed_all P es ix h.1 f)

-- the place of an address in the index is that of its register
module _ (es : List EditValue) (ix : Index) (h : IsIndex es ix) (a : Addr) (i : ℕ) where
  pub found_in : IsFoundAt (places ix) a i → IsFoundAt (places_of (registers es ix)) a i
  found_in f = subst (λ (ps : List Addr). IsFoundAt ps a i) (sym (listed_places es ix h.stands)) f

  pub gap_in : IsGapAt (places ix) a i → IsGapAt (places_of (registers es ix)) a i
  gap_in g = subst (λ (ps : List Addr). IsGapAt ps a i) (sym (listed_places es ix h.stands)) g

  pub found_register : IsFoundAt (places ix) a i → register_at (registers es ix) a ≡ option_map edit_tree (slice_get (listed es ix) i)
  found_register f = register_found (registers es ix) a i (found_in f) ∙ slice_get-map edit_tree (listed es ix) i

  pub gap_register : IsGapAt (places ix) a i → register_at (registers es ix) a ≡ None
  gap_register g = register_gap (registers es ix) a i (gap_in g)

pub registers_length : (es : List EditValue) (ix : Index) → AllByRecursion (StandsAt es) ix → length (registers es ix) ≡ length ix
registers_length es ix h = length-map (listed es ix) edit_tree ∙ listed_length es ix h
