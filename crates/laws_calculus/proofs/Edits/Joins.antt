-- The join of edits is one, and a replica keeps it.
use Rattle.std.proofs.Common.{◌≡◌, ◌≤◌, ◌∙◌, inl, inr, max, List, [], ◌∷◌, refl, sym, ap, subst, arith, IsTrue}
use Rattle.std.proofs.lemmas.Grind.{common_steps}
use Rattle.gl_calculus.specs.Computation.Lists.{Member}
use Rattle.gl_calculus.specs.Grid.Grid.{AreInOrder}
use Rattle.gl_calculus.specs.Edits.Replicas.{Stamp, Edit, is_earlier}
use Rattle.gl_calculus.specs.Edits.Joins.{IsUpTo, latest}
use Rattle.laws_calculus.specs.Edits.{OneJoin, NoneTaken, TakenAlike}
use Rattle.laws_calculus.proofs.Edits.Orders.{places, one_place, same_members}

earlier_not : (s : Stamp) → IsTrue (is_earlier s s) → ⊥
earlier_not s h = grind (arith, common_steps)

not_both : (s t : Stamp) → IsTrue (is_earlier s t) → IsTrue (is_earlier t s) → ⊥
not_both s t h k = grind (arith, common_steps)

-- a register of one join is one of the other
module _ (rs ss : List Edit) (o : AreInOrder (places rs)) (up : (r : Edit) → Member r rs → (s : Edit) × Member s ss × IsUpTo r s) (back : (s : Edit) → Member s ss → (r : Edit) × Member r rs × IsUpTo s r) where
  round : (r s q : Edit) → Member r rs → Member s ss → Member q rs → IsUpTo r s → IsUpTo s q → Member r ss
  round r s q m n l (inl e) u = subst (λ (z : Edit). Member z ss) (sym e) n
  round r s q m n l (inr (p, h)) (inl e) =
      let same : r ≡ q = one_place rs r q o m l (p ∙ ap (λ (z : Edit). z.place) e) in
      absurd (earlier_not r.stamp (subst (λ (z : Edit). IsTrue (is_earlier r.stamp z.stamp)) (e ∙ sym same) h))
  round r s q m n l (inr (p, h)) (inr (t, k)) =
      let same : r ≡ q = one_place rs r q o m l (p ∙ t) in
      absurd (not_both r.stamp s.stamp h (subst (λ (z : Edit). IsTrue (is_earlier s.stamp z.stamp)) (sym same) k))

  pub in_both : (r : Edit) → Member r rs → Member r ss
  in_both r m = let u = up r m in let b = back u.0 u.1 in round r u.0 b.0 m u.1 b.1 u.2 b.2

pub one_join : OneJoin
one_join ds es rs ss same h k =
    let up : (r : Edit) → Member r rs → (s : Edit) × Member s ss × IsUpTo r s = λ r m. k.greatest r (same.0 r (h.among r m)) in
    let back : (s : Edit) → Member s ss → (r : Edit) × Member r rs × IsUpTo s r = λ s m. h.greatest s (same.1 s (k.among s m)) in
    same_members rs ss h.ordered k.ordered (in_both rs ss h.ordered up back) (in_both ss rs k.ordered back up)

pub none_taken : NoneTaken
none_taken n = record { join = record { ordered = tt; among = λ r m. m; greatest = λ e m. absurd m }; clock = refl }

-- ---- the greatest time

time_within : (e : Edit) (es : List Edit) → Member e es → e.stamp.time ≤ latest es
time_within e [] m = absurd m
time_within e (d ∷ es) (inl h) = subst (λ (z : Edit). z.stamp.time ≤ max d.stamp.time (latest es)) (sym h) (omega arith)
time_within e (d ∷ es) (inr m) = let ih = time_within e es m in omega arith

latest_within : (ds es : List Edit) → ((e : Edit) → Member e ds → Member e es) → latest ds ≤ latest es
latest_within [] es f = omega arith
latest_within (d ∷ ds) es f = let h = time_within d es (f d (inl refl)) in let ih = latest_within ds es (λ e m. f e (inr m)) in omega arith

pub taken_alike : TakenAlike
taken_alike ds es q r same h k =
    let up = latest_within ds es same.0 in
    let down = latest_within es ds same.1 in
    let times : latest ds ≡ latest es = omega arith in
    (one_join ds es q.registers r.registers same h.join k.join, h.clock ∙ times ∙ sym k.clock)
