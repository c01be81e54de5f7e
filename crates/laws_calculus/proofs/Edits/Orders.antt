-- Registers in the order of their addresses.
use Rattle.std.proofs.Common.{◌≡◌, ◌∙◌, inl, inr, List, [], ◌∷◌, map, refl, sym, ap, subst, arith, IsTrue}
use Rattle.std.proofs.lemmas.Grind.{common_steps}
use Rattle.gl_calculus.specs.Computation.Lists.{Member}
use Rattle.gl_calculus.specs.Grid.Grid.{Addr, is_before, AreInOrder}
use Rattle.gl_calculus.specs.Edits.Replicas.{Edit}

abbrev pub places : List Edit → List Addr
places rs = map (λ (r : Edit). r.place) rs

before_all : (a b c : Addr) → IsTrue (is_before a b) → IsTrue (is_before b c) → IsTrue (is_before a c)
before_all a b c h k = grind (arith, common_steps)

pub before_not : (a : Addr) → IsTrue (is_before a a) → ⊥
before_not a h = grind (arith, common_steps)

pub tail : (a : Addr) (bs : List Addr) → AreInOrder (a ∷ bs) → AreInOrder bs
tail a [] o = tt
tail a (b ∷ bs) o = o.1

-- the first is before each other
pub behind : (r : Edit) (rs : List Edit) (s : Edit) → AreInOrder (places (r ∷ rs)) → Member s rs → IsTrue (is_before r.place s.place)
behind r [] s o m = absurd m
behind r (x ∷ rs) s o (inl e) = subst (λ (z : Edit). IsTrue (is_before r.place z.place)) (sym e) o.0
behind r (x ∷ rs) s o (inr m) = before_all r.place x.place s.place o.0 (behind x rs s o.1 m)

-- an address has one register
pub one_place : (rs : List Edit) (r s : Edit) → AreInOrder (places rs) → Member r rs → Member s rs → r.place ≡ s.place → r ≡ s
one_place [] r s o m n e = absurd m
one_place (x ∷ rs) r s o (inl m) (inl n) e = m ∙ sym n
one_place (x ∷ rs) r s o (inl m) (inr n) e = absurd (before_not s.place (subst (λ (a : Addr). IsTrue (is_before a s.place)) (ap (λ (z : Edit). z.place) (sym m) ∙ e) (behind x rs s o n)))
one_place (x ∷ rs) r s o (inr m) (inl n) e = absurd (before_not r.place (subst (λ (a : Addr). IsTrue (is_before a r.place)) (ap (λ (z : Edit). z.place) (sym n) ∙ sym e) (behind x rs r o m)))
one_place (x ∷ rs) r s o (inr m) (inr n) e = one_place rs r s (tail x.place (places rs) o) m n e

-- registers with the same members are the same
pub same_members : (rs ss : List Edit) → AreInOrder (places rs) → AreInOrder (places ss) → ((r : Edit) → Member r rs → Member r ss) → ((r : Edit) → Member r ss → Member r rs) → rs ≡ ss
same_members [] [] o p f g = refl
same_members [] (s ∷ ss) o p f g = absurd (g s (inl refl))
same_members (r ∷ rs) [] o p f g = absurd (f r (inl refl))
same_members (r ∷ rs) (s ∷ ss) o p f g =
    let e : r ≡ s = first (f r (inl refl)) (g s (inl refl)) in
    ap (λ (z : Edit). z ∷ rs) e ∙ ap (λ (zs : List Edit). s ∷ zs) (same_members rs ss (tail r.place (places rs) o) (tail s.place (places ss) p)
    (λ x m. further s x ss (behind_first r s x rs e o m) (f x (inr m))) (λ x m. further r x rs (behind_first s r x ss (sym e) p m) (g x (inr m))))
  where
    first : Member r (s ∷ ss) → Member s (r ∷ rs) → r ≡ s
    first (inl h) k = h
    first (inr h) (inl k) = sym k
    first (inr h) (inr k) = absurd (before_not r.place (before_all r.place s.place r.place (behind r rs s o k) (behind s ss r p h)))

    behind_first : (x y z : Edit) (zs : List Edit) → x ≡ y → AreInOrder (places (x ∷ zs)) → Member z zs → IsTrue (is_before y.place z.place)
    behind_first x y z zs h q m = subst (λ (w : Edit). IsTrue (is_before w.place z.place)) h (behind x zs z q m)

    further : (y z : Edit) (zs : List Edit) → IsTrue (is_before y.place z.place) → Member z (y ∷ zs) → Member z zs
    further y z zs b (inl h) = absurd (before_not z.place (subst (λ (w : Edit). IsTrue (is_before w.place z.place)) (sym h) b))
    further y z zs b (inr h) = h
