-- Edits of a sheet.
use Rattle.std.specs.Prelude.{not, List, [], ◌∷◌, filter, if◌then◌else◌, map, Option, Some, None}
use Rattle.std.specs.Prelude.{fold}
use Rattle.gl_calculus.specs.Grid.Grid.{Addr, same_addr, is_before, Range, covers, single}
use Rattle.gl_calculus.specs.Formulas.Formula.{Cells, Content}
use Rattle.gl_calculus.specs.Edits.Replicas.{Changes}
use Rattle.gl_calculus.specs.Formulas.Formula as F

abbrev pub with_content : Cells → Addr → F.Content → Cells
with_content [] a c = (a, c) ∷ []
with_content (x ∷ xs) a c =
    if same_addr a x.0 then (a, c) ∷ xs
    else if is_before a x.0 then (a, c) ∷ x ∷ xs else x ∷ with_content xs a c

abbrev pub with_contents : Cells → Cells → Cells
with_contents = fold (λ (S : Cells) (x : Addr × Content). with_content S x.0 x.1)

abbrev pub without : Cells → Range → Cells
without S r = filter (λ x. not (covers r x.0)) S

-- the addresses of the contents in a range
abbrev pub places_in : Cells → Range → List Addr
places_in S r = filter (covers r) (map (λ x. x.0) S)

abbrev pub with_change : Cells → Addr → Option Content → Cells
with_change S a (Some c) = with_content S a c
with_change S a None = without S (single a)

abbrev pub with_changes : Cells → Changes → Cells
with_changes = fold (λ (S : Cells) (c : Addr × Option Content). with_change S c.0 c.1)

abbrev pub settings : Cells → Changes
settings cs = map (λ c. (c.0, Some c.1)) cs

-- the contents that come with changes
abbrev pub and_content : Addr → Option Content → Cells → Cells
and_content a (Some c) S = (a, c) ∷ S
and_content a None S = S

abbrev pub coming : Changes → Cells
coming [] = []
coming (c ∷ cs) = and_content c.0 c.1 (coming cs)

-- the changes that clear a range
abbrev pub removals : Cells → Range → Changes
removals S r = map (λ c. (c.0, None)) (filter (λ c. covers r c.0) S)
