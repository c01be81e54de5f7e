-- The texts of explanations and of forecasts. None is cut.
use Rattle.std.specs.Prelude.{◌++◌, length, [], flat_map, codes}
use Rattle.std.specs.Fmt.{decimal}
use Rattle.gl_calculus.specs.Values.Value as V
use Rattle.gl_calculus.specs.Values.Value.{Top, In, region}
use Rattle.gl_calculus.specs.Evaluation.Key as K
use Rattle.gl_calculus.specs.Evaluation.Key.{Key, Cell, Settle, Outcome}
use Rattle.gl_calculus.specs.Calculation.Calculation.{Cycle}
use Rattle.gl_calculus.specs.Grid.Notation.{address_text}
use Rattle.gl_language.specs.Texts.Text.{Bytes, range_text, size_text, scalar_text, shown_text}
use Rattle.gl_calculus.specs.Explanation.Certificate.{Certificate}
use Rattle.gl_calculus.specs.Forecast.{Forecast, Yes, Circle, Unknown}
use Rattle.gl_protocol.specs.Replies.Tables.{line}

-- ---- explanations

-- a cell of the sheet by its address, one of a copy after the word `copy`, and a settling by its
-- region
abbrev pub key_text : Key → Bytes
key_text (Cell Top a) = address_text a
key_text (Cell (In s w) a) = codes "copy " ++ address_text a
key_text (Settle s) = codes "settle " ++ range_text (region s)

-- a scalar as it is shown, an array by its size, and a settling by how many entries its oracle has;
-- a spent budget has no text, since no certificate notes one
abbrev pub outcome_text : Outcome → Bytes
outcome_text (K.Outcome.Value (V.One x)) = scalar_text x
outcome_text (K.Outcome.Value (V.Array z xs)) = size_text z
outcome_text (K.Outcome.Settled w) = decimal (length w)
outcome_text (K.Outcome.Abort b) = []

abbrev pub note_line : Key → Outcome → Bytes
note_line k o = line (key_text k ++ codes " " ++ outcome_text o)

abbrev pub loop_line : Key → Bytes
loop_line k = line (key_text k ++ codes " " ++ shown_text Cycle)

-- how many notes and loops there are, a line for each, what is shown, and the word of a verdict
abbrev pub explanation_text : Bytes → Certificate → Bytes
explanation_text verdict c =
    line (codes "explain " ++ decimal (length c.notes) ++ codes " " ++ decimal (length c.loops)) ++
    flat_map (λ n. note_line n.0 n.1) c.notes ++ flat_map loop_line c.loops ++
    line (codes "shown " ++ shown_text c.shown) ++ line verdict

-- ---- forecasts

abbrev pub forecast_line : Forecast → Bytes
forecast_line (Yes h) = line (codes "yes " ++ decimal h)
forecast_line (Circle a) = line (codes "circle " ++ address_text a)
forecast_line (Unknown a) = line (codes "unknown " ++ address_text a)
