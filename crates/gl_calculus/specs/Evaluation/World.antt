-- What an evaluation goes by.
use Rattle.gl_calculus.specs.Values.Value.{Oracle}
use Rattle.gl_calculus.specs.Formulas.Formula.{Version, Cells}

-- the version of the script, the contents of the sheet, and the oracle of a round
pub record World : Type 0 where
  pub version : Version
  pub sheet : Cells
  pub oracle : Oracle

abbrev pub world : Version → Cells → Oracle → World
world version S w = record { version = version; sheet = S; oracle = w }
