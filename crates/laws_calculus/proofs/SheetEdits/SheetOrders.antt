-- Edits keep the order of a sheet.
use Rattle.std.proofs.Common.{◌≡◌, Bool, true, false, cond, List, [], ◌∷◌, map, filter, refl, sym, subst, arith, IsTrue}
use Rattle.std.proofs.lemmas.Grind.{common_steps}
use Rattle.std.specs.List.{AllByRecursion}
use Rattle.gl_calculus.specs.Grid.Grid.{Addr, same_addr, is_before, AreInOrder}
use Rattle.gl_calculus.specs.Formulas.Formula.{Content, Cells, IsSheet}
use Rattle.gl_calculus.proofs.Tests.{addr_exact}
use Rattle.gl_calculus.specs.Edits.Sheets.{with_content, with_contents}

abbrev places : Cells → List Addr
places S = map (λ (x : Addr × Content). x.0) S

abbrev Above : Addr → List Addr → Type 0
Above a bs = AllByRecursion (λ b. IsTrue (is_before a b)) bs

before_all : (a b c : Addr) → IsTrue (is_before a b) → IsTrue (is_before b c) → IsTrue (is_before a c)
before_all a b c h k = grind (arith, common_steps)

behind_apart : (a b : Addr) → same_addr a b ≡ false → is_before a b ≡ false → IsTrue (is_before b a)
behind_apart a b h k = grind (arith, common_steps)

above_more : (a b : Addr) (cs : List Addr) → IsTrue (is_before a b) → Above b cs → Above a cs
above_more a b [] h k = tt
above_more a b (c ∷ cs) h k = (before_all a b c h k.0, above_more a b cs h k.1)

above : (a : Addr) (bs : List Addr) → AreInOrder (a ∷ bs) → Above a bs
above a [] o = tt
above a (b ∷ bs) o = (o.0, above_more a b bs o.0 (above b bs o.1))

tail : (a : Addr) (bs : List Addr) → AreInOrder (a ∷ bs) → AreInOrder bs
tail a [] o = tt
tail a (b ∷ bs) o = o.1

in_front : (a : Addr) (bs : List Addr) → Above a bs → AreInOrder bs → AreInOrder (a ∷ bs)
in_front a [] h o = tt
in_front a (b ∷ bs) h o = (h.0, o)

-- ---- a content is set

above_with : (b : Addr) (S : Cells) (a : Addr) (c : Content) → IsTrue (is_before b a) → Above b (places S) → Above b (places (with_content S a c))
above_with b [] a c h k = (h, tt)
above_with b (x ∷ S) a c h k = by (same_addr a x.0) (is_before a x.0) (above_with b S a c h k.1)
  where
    by : (p q : Bool) → Above b (places (with_content S a c)) → Above b (places (cond p ((a, c) ∷ S) (cond q ((a, c) ∷ x ∷ S) (x ∷ with_content S a c))))
    by true q ih = (h, k.1)
    by false true ih = (h, k)
    by false false ih = (k.0, ih)

pub order_with : (S : Cells) (a : Addr) (c : Content) → IsSheet S → IsSheet (with_content S a c)
order_with [] a c o = tt
order_with (x ∷ S) a c o = by (same_addr a x.0) (is_before a x.0) refl refl (order_with S a c (tail x.0 (places S) o))
  where
    by : (p q : Bool) → same_addr a x.0 ≡ p → is_before a x.0 ≡ q → IsSheet (with_content S a c) → IsSheet (cond p ((a, c) ∷ S) (cond q ((a, c) ∷ x ∷ S) (x ∷ with_content S a c)))
    by true q e f ih = subst (λ (b : Addr). AreInOrder (b ∷ places S)) (sym (addr_exact a x.0 e)) o
    by false true e f ih = (f, o)
    by false false e f ih = in_front x.0 (places (with_content S a c)) (above_with x.0 S a c (behind_apart a x.0 e f) (above x.0 (places S) o)) ih

pub order_with_all : (cs S : Cells) → IsSheet S → IsSheet (with_contents S cs)
order_with_all [] S o = o
order_with_all (x ∷ cs) S o = order_with_all cs (with_content S x.0 x.1) (order_with S x.0 x.1 o)

-- ---- contents are dropped

above_filter : (b : Addr) (p : Addr × Content → Bool) (S : Cells) → Above b (places S) → Above b (places (filter p S))
above_filter b p [] k = tt
above_filter b p (x ∷ S) k = by (p x) (above_filter b p S k.1)
  where
    by : (t : Bool) → Above b (places (filter p S)) → Above b (places (cond t (x ∷ filter p S) (filter p S)))
    by true ih = (k.0, ih)
    by false ih = ih

pub order_filter : (p : Addr × Content → Bool) (S : Cells) → IsSheet S → IsSheet (filter p S)
order_filter p [] o = tt
order_filter p (x ∷ S) o = by (p x) (order_filter p S (tail x.0 (places S) o))
  where
    by : (t : Bool) → IsSheet (filter p S) → IsSheet (cond t (x ∷ filter p S) (filter p S))
    by true ih = in_front x.0 (places (filter p S)) (above_filter x.0 p S (above x.0 (places S) o)) ih
    by false ih = ih
