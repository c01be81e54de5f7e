-- What the network of a sheet keeps.
use Rattle.std.proofs.Common.{◌≡◌, ℕ, ◌≤◌, true, List, [], ◌∷◌, map, length, refl, sym, subst, ap, ◌∙◌, arith}
use Rattle.std.specs.Prelude.{Option, Some, None}
use Rattle.std.proofs.lemmas.List.{length-map}
use Rattle.std.proofs.lemmas.Option.{slice_get_within}
use Rattle.gl_calculus.specs.Grid.Limits.{max_formulas}
use Rattle.gl_calculus.specs.Grid.Grid.{Addr, Range}
use Rattle.gl_calculus.specs.Formulas.Formula.{Content, Const, Form, Cells, IsSheet, content, formula_addresses}
use Rattle.laws_calculus.proofs.Calculus.Settles.{formula_order}
use Rattle.gl_calculus.specs.Forecast as Fo
use Rattle.gl_calculus.specs.Forecast.{box, content_pieces}
use Rattle.gl_flow.specs.Contents.{formula_in}
use Rattle.gl_flow.specs.Places.{are_in_order}
use Rattle.gl_flow.specs.Columns.{none, some}
use Rattle.gl_flow.specs.Pieces.{without_calls, pieces_in, rows_read, AreRead}
use Rattle.gl_flow.specs.Grid.{IsShaped, IsSource, formula, constant, blank, AreSources}
use Rattle.gl_flow.specs.Rivals.{AreBottoms}
use Rattle.gl_flow.specs.Network.{Plan}
use Rattle.gl_flow.specs.Planning.{IsNetwork, IsPlanOf}
use Rattle.gl_flow.proofs.Placing.{order_test}
use Rattle.gl_flow.proofs.Dependences.{each_read, each_formula}

-- the formula cells of a sheet stand in order
pub ordered_places : (S : Cells) (places : List Addr) → IsSheet S → places ≡ formula_addresses S → are_in_order places ≡ true
ordered_places S places o e = subst (λ t. are_in_order t ≡ true) (sym e) (order_test (formula_addresses S) (formula_order S o))

-- what stands in a content without calls, by its formula
pieces_same : (S : Cells) (c : Option Content) → pieces_in (formula_in c) ≡ without_calls (content_pieces S c)
pieces_same S (Some (Form f)) = refl
pieces_same S (Some (Const x)) = refl
pieces_same S None = refl

all_same : (S : Cells) (ps : List Addr) → map (λ a. pieces_in (formula_in (content S a))) ps ≡ map (λ a. without_calls (content_pieces S (content S a))) ps
all_same S [] = refl
all_same S (p ∷ ps) =
    ap (λ t. t ∷ map (λ a. pieces_in (formula_in (content S a))) ps) (pieces_same S (content S p))
    ∙ ap (λ t. without_calls (content_pieces S (content S p)) ∷ t) (all_same S ps)

pub planned : (S : Cells) (plan : Plan) → IsSheet S → plan.places ≡ formula_addresses S → plan.boxes ≡ map (box S) plan.places →
    plan.pieces ≡ map (λ a. pieces_in (formula_in (content S a))) plan.places → AreRead plan.pieces → AreSources S plan.places plan.boxes (rows_read plan.pieces) plan.columns → IsPlanOf S (rows_read plan.pieces) plan
planned S plan o e boxes pieces read sources = record {
  ordered = o;
  places = e;
  in_order = ordered_places S plan.places o e;
  boxes = boxes;
  pieces = pieces ∙ all_same S plan.places;
  read = read;
  lowest = refl;
  sources = sources;
}

-- what an address reads of is a formula cell
source_within : (S : Cells) (places : List Addr) (boxes : List (Option Range)) (a : Addr) (m : ℕ) → length boxes ≡ length places → IsSource S places boxes a m → m ≤ length places
source_within S places boxes a m e (formula {k = k} s) = let l = slice_get_within places k a s in omega (arith, l)
source_within S places boxes a m e (constant c) = omega arith
source_within S places boxes a m e (blank c (none g)) = omega arith
source_within S places boxes a m e (blank c (some {k = k} (b, at, covers) g)) = let l = slice_get_within boxes k (Some b) at in omega (arith, l, e)

pub network_sound : (S : Cells) (plan : Plan) (bottoms : List ℕ) → IsPlanOf S (rows_read plan.pieces) plan → length plan.places ≤ max_formulas → IsShaped (rows_read plan.pieces) plan.columns → AreBottoms plan.boxes bottoms → IsNetwork plan bottoms
network_sound S plan bottoms h few shaped low = record {
  few = few;
  in_order = h.in_order;
  same_boxes = boxes;
  same_pieces = ap length h.pieces ∙ length-map plan.places (λ a. without_calls (content_pieces S (content S a)));
  read = λ k ps r at m. let (i, l) = each_formula plan.pieces k ps h.read at in let (j, n) = each_read ps (Fo.Piece.Reads r) i m in (j, omega (arith, l, n));
  shaped = shaped;
  sources = λ a i. source_within S plan.places plan.boxes a _ boxes (h.sources a i);
  bottoms = low;
}
  where
    boxes : length plan.boxes ≡ length plan.places
    boxes = ap length h.boxes ∙ length-map plan.places (box S)

-- what the calls in turn give, with what each of them was given
pub made : (S : Cells) (plan : Plan) (rows : ℕ) (first second third : List Addr) (boxes : List (Option Range)) (pieces : List (List Fo.Piece)) →
    IsSheet S → plan.places ≡ formula_addresses S → first ≡ plan.places → plan.boxes ≡ map (box S) first → second ≡ plan.places → plan.pieces ≡ map (λ a. pieces_in (formula_in (content S a))) second →
    pieces ≡ plan.pieces → AreRead pieces → rows ≡ rows_read pieces → third ≡ plan.places → boxes ≡ plan.boxes → AreSources S third boxes rows plan.columns → IsPlanOf S (rows_read plan.pieces) plan
made S plan rows first second third boxes pieces o e a b c d f read r g h sources =
    planned S plan o e (b ∙ ap (map (box S)) a) (d ∙ ap (map (λ a. pieces_in (formula_in (content S a)))) c) (subst AreRead f read)
    (subst (λ t. AreSources S plan.places plan.boxes t plan.columns) (r ∙ ap rows_read f) (subst (λ t. AreSources S plan.places t rows plan.columns) h (subst (λ t. AreSources S t boxes rows plan.columns) g sources)))
