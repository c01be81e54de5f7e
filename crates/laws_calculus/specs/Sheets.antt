-- What stands at an address after an edit of a sheet.
use Rattle.std.specs.Prelude.{◌≡◌, map, Some, if◌then◌else◌}
use Rattle.gl_calculus.specs.Computation.Lists.{Member}
use Rattle.gl_calculus.specs.Formulas.Formula.{Cells, Content, content}
use Rattle.gl_calculus.specs.Grid.Grid.{Addr, same_addr, Range}
use Rattle.gl_calculus.specs.Edits.Sheets.{with_content, with_contents, without, places_in}

-- What stands at an address after an edit: an edit of one content, of several, and the clearing of a range leave each address that they don't name as it is.
abbrev pub SetsOne : Type 0
SetsOne = (S : Cells) (a : Addr) (c : Content) (b : Addr) → content (with_content S a c) b ≡ (if same_addr b a then Some c else content S b)

abbrev pub SetsThese : Type 0
SetsThese = (S xs : Cells) (b : Addr) → (Member b (map (λ x. x.0) xs) → ⊥) → content (with_contents S xs) b ≡ content S b

abbrev pub ClearsThese : Type 0
ClearsThese = (S : Cells) (r : Range) (b : Addr) → (Member b (places_in S r) → ⊥) → content (without S r) b ≡ content S b
