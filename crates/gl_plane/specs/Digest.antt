-- A digest of an oracle's entries, from the first to the last.
use Rattle.std.specs.Prelude.{ℕ, ◌+◌, ◌*◌, ◌%◌, ◌^◌, [], ◌∷◌, bit_xor}
use Rattle.std.specs.Int.{w64, rotate_left}
use Rattle.gl_calculus.specs.Grid.Grid.{Addr}
use Rattle.gl_calculus.specs.Values.Value.{Permit, Permitted, Refused, Entry, Oracle}

-- the digest with one word more: the factor is odd, so other words give other digests
abbrev pub mixed : ℕ → ℕ → ℕ
mixed digest word = (bit_xor (rotate_left w64 digest 5) word * 11400714819323198485) % 2 ^ 64

abbrev pub permit_bit : Permit → ℕ
permit_bit Permitted = 1
permit_bit Refused = 0

-- an address as a word
abbrev pub address_word : Addr → ℕ
address_word a = a.row * 65536 + a.col

-- how large the array is and whether it may spill, as a word
abbrev pub shape_word : Entry → ℕ
shape_word x = (x.size.rows * 65536 + x.size.cols) * 2 + permit_bit x.permit

-- the digest with one entry more
abbrev pub stirred : ℕ → Entry → ℕ
stirred digest x = mixed (mixed digest (address_word x.root)) (shape_word x)

abbrev pub digest_from : ℕ → Oracle → ℕ
digest_from digest [] = digest
digest_from digest (x ∷ xs) = digest_from (stirred digest x) xs

abbrev pub digest_of : Oracle → ℕ
digest_of = digest_from 0
