-- Sizes by their parts.
use Rattle.std.proofs.Common.{◌≡◌, ℕ}
use Rattle.gl_calculus.specs.Grid.Grid.{Size, size}

pub size_is : (m n : ℕ) (s : Size) → m ≡ s.rows → n ≡ s.cols → size m n ≡ s
size_is m n s e f = λ i. record { rows = e i; cols = f i }
