-- The notation of addresses, as bytes: columns A to ZZ, where A is 1, Z is 26, AA is 27 and ZZ is
-- 702, then the row in decimal.
use Rattle.std.specs.Prelude.{ℕ, ◌+◌, ◌-◌, ◌/◌, ◌%◌, nat_le, List, [], ◌∷◌, ◌++◌, if◌then◌else◌}
use Rattle.std.specs.Fmt.{decimal}
use Rattle.gl_calculus.specs.Grid.Grid.{Addr}

abbrev pub column_text : ℕ → List ℕ
column_text c =
    if nat_le c 26 then (64 + c) ∷ [] else (64 + (c - 1) / 26) ∷ (65 + (c - 1) % 26) ∷ []

abbrev pub address_text : Addr → List ℕ
address_text a = column_text a.col ++ decimal a.row
