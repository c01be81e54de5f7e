-- The addresses that have content.
use Rattle.std.specs.Prelude.{Bool, [], is_some}
use Rattle.gl_calculus.specs.Grid.Grid.{Addr}
use Rattle.gl_calculus.specs.Values.Value.{SheetValue, In}
use Rattle.gl_calculus.specs.Formulas.Formula.{Cells, content}
use Rattle.gl_calculus.specs.Evaluation.Reference.{own_content}

-- in the sheet
abbrev pub has_content : Cells → Addr → Bool
has_content S a = is_some (content S a)

-- in a frame of the sheet value
abbrev pub has_content_in : Cells → SheetValue → Addr → Bool
has_content_in S s a = is_some (own_content (content S a) (In s []) a)
