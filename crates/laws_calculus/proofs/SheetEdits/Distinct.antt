-- Addresses in order are distinct.
use Rattle.std.proofs.Common.{inl, inr, List, [], ◌∷◌, subst, sym, IsTrue}
use Rattle.gl_calculus.specs.Computation.Lists.{Member, AreDistinct}
use Rattle.gl_calculus.specs.Grid.Grid.{Addr, is_before, AreInOrder}
use Rattle.laws_calculus.proofs.Edits.Orders.{before_not, tail}
use Rattle.laws_calculus.proofs.SheetEdits.SameSheets.{before_all}

-- the first is before each other
before_each : (a b : Addr) (bs : List Addr) → AreInOrder (a ∷ bs) → Member b bs → IsTrue (is_before a b)
before_each a b [] o m = absurd m
before_each a b (x ∷ bs) o (inl e) = subst (λ (z : Addr). IsTrue (is_before a z)) (sym e) o.0
before_each a b (x ∷ bs) o (inr m) = before_all a x b o.0 (before_each x b bs o.1 m)

pub distinct_in_order : (bs : List Addr) → AreInOrder bs → AreDistinct bs
distinct_in_order [] o = tt
distinct_in_order (a ∷ bs) o = ((λ m. before_not a (before_each a a bs o m)), distinct_in_order bs (tail a bs o))
