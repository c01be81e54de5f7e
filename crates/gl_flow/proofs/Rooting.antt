-- The areas of formula cells, one after another.
use Rattle.std.proofs.Common.{◌≡◌, ℕ, ◌+◌, ◌<◌, List, [], ◌∷◌, ◌++◌, map, take, length, get_or, refl, sym, ap, ◌∙◌, arith}
use Rattle.std.specs.Prelude.{Option, Some, None, slice_get, option_map}
use Rattle.std.proofs.lemmas.List.{map-append, length-map}
use Rattle.std.proofs.lemmas.Grind.{take_at_read}
use Rattle.std.proofs.lemmas.Option.{slice_get-map, slice_get_read}
use Rattle.gl_calculus.specs.Grid.Grid.{Addr, Range, area}
use Rattle.gl_calculus.specs.Formulas.Formula.{Cells}
use Rattle.gl_calculus.specs.Forecast.{Shape, box, cell_shape}
use Rattle.gl_flow.specs.Places.{StandsAt}
use Rattle.gl_flow.specs.Columns.{BoxAt, AreRooted}

shape_is : (S : Cells) (places : List Addr) (shapes : List Shape) (k : ℕ) (a : Addr) (s : Shape) → shapes ≡ map (cell_shape S) places → length shapes ≡ length places → k < length places → a ≡ get_or places k a → s ≡ get_or shapes k s → s ≡ cell_shape S a
shape_is S places shapes k a s e n l is has =
    let u : Some s ≡ Some (cell_shape S a) =
    sym (slice_get_read shapes (length shapes) k s refl (omega (arith, n, l)) has) ∙ ap (λ t. slice_get t k) e ∙ slice_get-map (cell_shape S) places k
    ∙ ap (option_map (cell_shape S)) (slice_get_read places (length places) k a refl l is) in
    cc u

pub areas_on : (S : Cells) (places : List Addr) (shapes : List Shape) (k : ℕ) (a : Addr) (s : Shape) (areas new : List (Option Range)) → shapes ≡ map (cell_shape S) places → length shapes ≡ length places → k < length places → a ≡ get_or places k a → s ≡ get_or shapes k s →
    new ≡ areas ++ option_map (area a) s ∷ [] → areas ≡ map (box S) (take k places) → new ≡ map (box S) (take (k + 1) places)
areas_on S places shapes k a s areas new e n l is has d h =
    let u : box S a ≡ option_map (area a) s = ap (option_map (area a)) (sym (shape_is S places shapes k a s e n l is has)) in
    let v : take (k + 1) places ≡ take k places ++ a ∷ [] = (take_at_read places k a l).1 ∙ ap (λ t. take k places ++ t ∷ []) (sym is) in
    d ∙ ap (λ t. t ++ option_map (area a) s ∷ []) h ∙ ap (λ t. map (box S) (take k places) ++ t ∷ []) (sym u)
    ∙ sym (map-append (box S) (take k places) (a ∷ [])) ∙ ap (map (box S)) (sym v)

pub rooted : (S : Cells) (places : List Addr) (boxes : List (Option Range)) → boxes ≡ map (box S) places → AreRooted places boxes
rooted S places boxes e = record { roots = λ k b at. root k b at (slice_get places k) refl; same = ap length e ∙ length-map places (box S) }
  where
    root : (k : ℕ) (b : Range) → BoxAt boxes k b → (o : Option Addr) → slice_get places k ≡ o → StandsAt places b.first k
    root k b at None u = let v : None ≡ Some (Some b) = ap (option_map (box S)) (sym u) ∙ sym (slice_get-map (box S) places k) ∙ ap (λ t. slice_get t k) (sym e) ∙ at in absurd (cc v)
    root k b at (Some a) u = by (cell_shape S a) refl
      where
        here : Some (box S a) ≡ Some (Some b)
        here = ap (option_map (box S)) (sym u) ∙ sym (slice_get-map (box S) places k) ∙ ap (λ t. slice_get t k) (sym e) ∙ at

        by : (s : Shape) → cell_shape S a ≡ s → StandsAt places b.first k
        by None w = let v : Some None ≡ Some (Some b) = ap (λ t. Some (option_map (area a) t)) (sym w) ∙ here in absurd (cc v)
        by (Some s) w =
            let v : Some (Some (area a s)) ≡ Some (Some b) = ap (λ t. Some (option_map (area a) t)) (sym w) ∙ here in
            let x : area a s ≡ b = cc v in
            u ∙ ap (λ (r : Range). Some r.first) x
