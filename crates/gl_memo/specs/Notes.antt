-- A table of results as a list of pairs.
use Rattle.std.specs.Prelude.{List}
use Rattle.gl_memo.specs.declared.memo.Noted.{Noted}
use Rattle.gl_memo.specs.declared.memo.Memo.{Memo}

-- the keys with their notes, in the order of the first insertions
abbrev pub notes_of : {K O A : Type 0} → Memo K O A → List (K × Noted K O A)
notes_of m = m.map.entries
