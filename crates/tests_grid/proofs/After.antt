-- A list of arrays with one more behind the last.
use Rattle.std.proofs.Common.{◌≡◌, ℕ, zero, suc, [], ◌∷◌, ◌++◌, length, slice_get, Some, true}
use Rattle.gl_calculus.specs.Grid.Grid.{Addr, Size, is_before}
use Rattle.gl_calculus.specs.Evaluation.Oracle.{Sizes, AreSizes}

pub in_order_alone : (xs : Sizes) (x : Addr × Size) → length xs ≡ 0 → AreSizes (xs ++ x ∷ [])
in_order_alone [] x e = tt
in_order_alone (y ∷ ys) x e = absurd (cc e)

pub in_order_after : (xs : Sizes) (i : ℕ) (l x : Addr × Size) → AreSizes xs → slice_get xs i ≡ Some l → length xs ≡ suc i → is_before l.0 x.0 ≡ true → AreSizes (xs ++ x ∷ [])
in_order_after [] i l x o s e b = absurd (cc e)
in_order_after (y ∷ []) zero l x o s e b = let q : y ≡ l = cc s in (rw q b, tt)
in_order_after (y ∷ []) (suc i) l x o s e b = absurd (cc s)
in_order_after (y ∷ z ∷ zs) zero l x o s e b = absurd (cc e)
in_order_after (y ∷ z ∷ zs) (suc i) l x o s e b = (o.0, in_order_after (z ∷ zs) i l x o.1 s (cc e) b)
