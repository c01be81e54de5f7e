-- A support as the list of its triples.
use Rattle.std.specs.Prelude.{List, map}
use Rattle.gl_support.specs.Affected as plain
use Rattle.gl_support.specs.declared.triple.Triple.{Triple}
use Rattle.gl_support.specs.declared.support.Support.{Support}

abbrev pub plain_triple : {K A : Type 0} → Triple K A → plain.Triple K A
plain_triple t = record { by = t.by; reads = t.reads.items; looked = t.looked.items }

-- in the order of adding
abbrev pub triples_of : {K A : Type 0} → Support K A → List (plain.Triple K A)
triples_of s = map plain_triple s.triples.items
