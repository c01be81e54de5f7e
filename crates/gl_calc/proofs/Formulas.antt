-- The formulas of a sheet: they stand in row-major order, and are proper keys.
use Rattle.std.proofs.Common.{◌≡◌, ◌⊎◌, inl, inr, suc, List, [], ◌∷◌, length, map, true, false, Some, refl, sym, ◌∙◌, subst, ap, IsTrue}
use Rattle.gl_calculus.specs.Computation.Lists.{Member, AreDistinct}
use Rattle.gl_calculus.specs.Grid.Grid.{Addr, same_addr, AreInOrder}
use Rattle.gl_calculus.specs.Values.Value.{Top}
use Rattle.gl_calculus.specs.Formulas.Formula.{Formula, Content, Const, Form, Cells, IsSheet, content, formula_addresses}
use Rattle.gl_calculus.specs.Evaluation.Key.{Key, Cell}
use Rattle.gl_calculus.specs.Evaluation.Sound.{IsProperKey, is_sound_key}
use Rattle.gl_calculus.proofs.Tests.{addr_exact, addr_same}
use Rattle.gl_calculus.proofs.Grants.{Before, before_of, of_before, before_trans, not_same, split}

pub order_tail : (a : Addr) (rest : List Addr) → AreInOrder (a ∷ rest) → AreInOrder rest
order_tail a [] o = tt
order_tail a (b ∷ rest) (p, o) = o

pub after_head : (a : Addr) (rest : List Addr) → AreInOrder (a ∷ rest) → (b : Addr) → Member b rest → Before a b
after_head a [] o b m = absurd m
after_head a (c ∷ rest) (p, o) b (inl e) = subst (λ u. Before a u) (sym e) (before_of a c p)
after_head a (c ∷ rest) (p, o) b (inr m) = before_trans a c b (before_of a c p) (after_head c rest o b m)

order_cons : (a : Addr) (rest : List Addr) → ((b : Addr) → Member b rest → Before a b) → AreInOrder rest → AreInOrder (a ∷ rest)
order_cons a [] h o = tt
order_cons a (b ∷ rest) h o = (of_before a b (h b (inl refl)), o)

pub formula_member : (S : Cells) (a : Addr) → Member a (formula_addresses S) → Member a (map (λ c. c.0) S)
formula_member [] a m = m
formula_member ((b, Form f) ∷ S) a (inl e) = inl e
formula_member ((b, Form f) ∷ S) a (inr m) = inr (formula_member S a m)
formula_member ((b, Const x) ∷ S) a m = inr (formula_member S a m)

pub formulas_in_order : (S : Cells) → IsSheet S → AreInOrder (formula_addresses S)
formulas_in_order [] o = tt
formulas_in_order ((b, Form f) ∷ S) o = order_cons b (formula_addresses S) (λ a m. after_head b (map (λ c. c.0) S) o a (formula_member S a m)) (formulas_in_order S (order_tail b (map (λ c. c.0) S) o))
formulas_in_order ((b, Const x) ∷ S) o = formulas_in_order S (order_tail b (map (λ c. c.0) S) o)

other_content : (b a : Addr) (c : Content) (S : Cells) → Before b a → content ((b, c) ∷ S) a ≡ content S a
other_content b a c S p = by (split (same_addr a b))
  where
    by : (same_addr a b ≡ true) ⊎ (same_addr a b ≡ false) → content ((b, c) ∷ S) a ≡ content S a
    by (inl e) = absurd (not_same b a p (sym (addr_exact a b e)))
    by (inr e) = rw e refl

formula_content : (S : Cells) → IsSheet S → (a : Addr) → Member a (formula_addresses S) → (f : Formula) × (content S a ≡ Some (Form f))
formula_content [] o a m = absurd m
formula_content ((b, Form f) ∷ S) o a (inl e) = (f, subst (λ u. content ((b, Form f) ∷ S) u ≡ Some (Form f)) (sym e) (rw (addr_same b) refl))
formula_content ((b, Form f) ∷ S) o a (inr m) =
    let (g, p) = formula_content S (order_tail b (map (λ c. c.0) S) o) a m in
    (g, other_content b a (Form f) S (after_head b (map (λ c. c.0) S) o a (formula_member S a m)) ∙ p)
formula_content ((b, Const x) ∷ S) o a m =
    let (g, p) = formula_content S (order_tail b (map (λ c. c.0) S) o) a m in
    (g, other_content b a (Const x) S (after_head b (map (λ c. c.0) S) o a (formula_member S a m)) ∙ p)

-- ---- their keys

pub key_member : (bs : List Addr) (a : Addr) → Member a bs → Member (Cell Top a) (map (Cell Top) bs)
key_member [] a m = m
key_member (b ∷ bs) a (inl e) = inl (ap (Cell Top) e)
key_member (b ∷ bs) a (inr m) = inr (key_member bs a m)

member_key : (bs : List Addr) (k : Key) → Member k (map (Cell Top) bs) → (a : Addr) × Member a bs × (k ≡ Cell Top a)
member_key [] k m = absurd m
member_key (b ∷ bs) k (inl e) = (b, inl refl, e)
member_key (b ∷ bs) k (inr m) = let (a, n, e) = member_key bs k m in (a, inr n, e)

pub keys_distinct : (bs : List Addr) → AreInOrder bs → AreDistinct (map (Cell Top) bs)
keys_distinct [] o = tt
keys_distinct (a ∷ bs) o =
    (λ m. (let (b, n, e) = member_key bs (Cell Top a) m in let s : a ≡ b = cc e in not_same a b (after_head a bs o b n) s), keys_distinct bs (order_tail a bs o))

pub keys_proper : (S : Cells) → IsSheet S → (k : Key) → Member k (map (Cell Top) (formula_addresses S)) → IsProperKey S k
keys_proper S o k m =
    let (a, n, e) = member_key (formula_addresses S) k m in
    let (f, p) = formula_content S o a n in
    subst (IsProperKey S) (sym e) (f, rw p refl)

pub keys_sound : (bs : List Addr) (k : Key) → Member k (map (Cell Top) bs) → IsTrue (is_sound_key k)
keys_sound bs k m = let (a, n, e) = member_key bs k m in subst (λ j. IsTrue (is_sound_key j)) (sym e) refl

pub keys_length : (bs : List Addr) → length (map (Cell Top) bs) ≡ length bs
keys_length [] = refl
keys_length (a ∷ bs) = ap suc (keys_length bs)
