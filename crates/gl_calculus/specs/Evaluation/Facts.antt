-- What the sheet and the oracle of the top say of an address. Evaluation sees nothing else of them.
use Rattle.std.specs.Prelude.{List, map, Option, None, find, unwrap_or}
use Rattle.gl_calculus.specs.Grid.Grid.{Addr, same_addr, Range, addresses}
use Rattle.gl_calculus.specs.Values.Value.{Permit, Oracle}
use Rattle.gl_calculus.specs.Formulas.Formula.{Content, Cells, content}
use Rattle.gl_calculus.specs.Evaluation.Oracle.{status, Cover, cover}

pub record Fact : Type 0 where
  pub address : Addr
  pub content : Option Content
  pub status : Option Permit
  pub cover : Option Cover

abbrev pub fact : Cells → Oracle → Addr → Fact
fact S w a = record { address = a; content = content S a; status = status w a; cover = cover w a }

-- those of a range, address by address in row-major order
abbrev pub facts : Cells → Oracle → Range → List Fact
facts S w r = map (fact S w) (addresses r)

-- the fact of an address among these
abbrev pub find_fact : List Fact → Addr → Option Fact
find_fact xs a = find (λ x. same_addr x.address a) xs

-- the same, where an address without fact holds nothing
abbrev pub fact_at : List Fact → Addr → Fact
fact_at xs a =
    unwrap_or (find_fact xs a) (record { address = a; content = None; status = None; cover = None })
