-- What keys that wait will need next: what each was reading, and a place in it.
use Rattle.std.specs.Prelude.{◌≡◌, ◌⊎◌, ℕ, List, slice_get, Option, Some}
use Rattle.std.proofs.Common.{inl, inr, refl}
use base.Stored.{Coded, coded_unit, coded⊎, coded×, coded_ℕ}
use Rattle.std.specs.Coded.{code_by}
use Rattle.gl_calculus.specs.Computation.Query.{Query}
use Rattle.gl_calculus.specs.Grid.Grid.{Addr, Range}
use Rattle.gl_calculus.specs.Formulas.Formula.{Cells}
use Rattle.gl_calculus.specs.Values.Value.{Oracle, Frame}
use Rattle.gl_machine.specs.Codes.{coded_frame, coded_range, coded_addr}
use Rattle.gl_calculus.specs.Evaluation.Key as K
use Rattle.gl_machine.specs.Ahead.Ahead.{IsAhead}
use Rattle.gl_machine.specs.Ahead.Demands.{is_value}
use Rattle.gl_machine.specs.Ahead.Reading.{Ahead, Nothing, Area, Round, Own, keys_from}
use Rattle.gl_demand.specs.Marks.{PlainMark}

-- the keys from there on are ahead of the query, over these outcomes
abbrev pub IsMark : Cells → Oracle → Query K.Key K.Outcome Range K.Outcome → (K.Key → Option K.Outcome) → PlainMark → Type 0
IsMark S w q f m = IsAhead is_value q f (keys_from S w m.0 m.1)

-- each mark is one that stood there, or tells nothing
abbrev pub MarksStay : List PlainMark → List PlainMark → Type 0
MarksStay old new = (q : ℕ) (m : PlainMark) → slice_get new q ≡ Some m → (slice_get old q ≡ Some m) ⊎ (m.0 ≡ Nothing)

-- each mark is one that stood there, or tells nothing, or stands at this place and is right
abbrev pub MarksBy : (PlainMark → Type 0) → ℕ → List PlainMark → List PlainMark → Type 0
MarksBy IsRight p old new = (q : ℕ) (m : PlainMark) → slice_get new q ≡ Some m → (slice_get old q ≡ Some m) ⊎ (m.0 ≡ Nothing) ⊎ ((q ≡ p) × IsRight m)

-- none of them tells anything
abbrev pub TellNothing : List PlainMark → Type 0
TellNothing ms = (q : ℕ) (m : PlainMark) → slice_get ms q ≡ Some m → m.0 ≡ Nothing

-- ---- codes, by which values of models are told apart

abbrev Parts : Type 0
Parts = Unit {0} ⊎ (Frame × Range) ⊎ (Frame × Range) ⊎ (Frame × Addr)

abbrev to_parts : Ahead → Parts
to_parts Nothing = inl tt
to_parts (Area e r) = inr (inl (e, r))
to_parts (Round e r) = inr (inr (inl (e, r)))
to_parts (Own e a) = inr (inr (inr (e, a)))

abbrev of_parts : Parts → Ahead
of_parts (inl x) = Nothing
of_parts (inr (inl x)) = Area x.0 x.1
of_parts (inr (inr (inl x))) = Round x.0 x.1
of_parts (inr (inr (inr x))) = Own x.0 x.1

pub back : (a : Ahead) → of_parts (to_parts a) ≡ a
back Nothing = refl
back (Area e r) = refl
back (Round e r) = refl
back (Own e a) = refl

abbrev pub coded_mark : Coded PlainMark
coded_mark = coded× (code_by Parts (coded⊎ coded_unit (coded⊎ (coded× coded_frame coded_range) (coded⊎ (coded× coded_frame coded_range) (coded× coded_frame coded_addr)))) to_parts of_parts back) coded_ℕ
