-- A replica that takes one more edit.
use Rattle.std.proofs.Common.{◌≡◌, ◌≢◌, ◌∙◌, ◌⊎◌, inl, inr, ℕ, max, Bool, true, false, cond, List, [], ◌∷◌, ◌++◌, map, Some, refl, sym, ap, subst, arith, IsTrue, append-nil, append_assoc}
use Rattle.std.proofs.lemmas.Grind.{common_steps}
use Rattle.std.specs.List.{AllByRecursion}
use Rattle.gl_calculus.specs.Computation.Lists.{Member}
use Rattle.gl_calculus.specs.Grid.Grid.{Addr, same_addr, is_before, AreInOrder}
use Rattle.gl_calculus.proofs.Tests.{addr_exact}
use Rattle.gl_calculus.specs.Edits.Replicas.{Stamp, Edit, Replica, new_replica, taking, taking_all, AreTakeable, Judged, Wins, Loses, Same, Conflict, IsJudged, IsTakeable, is_earlier, register_at, with_edit}
use Rattle.gl_calculus.specs.Edits.Joins.{IsUpTo, HasTaken, latest}
use Rattle.laws_calculus.specs.Edits.{OneMoreTaken, AllTaken}
use Rattle.laws_calculus.proofs.Edits.Joins.{none_taken}
use Rattle.laws_calculus.proofs.Edits.Orders.{places, tail}

earlier_all : (s t u : Stamp) → IsTrue (is_earlier s t) → IsTrue (is_earlier t u) → IsTrue (is_earlier s u)
earlier_all s t u h k = grind (arith, common_steps)

later_not : (s t : Stamp) → IsTrue (is_earlier t s) → is_earlier s t ≡ false
later_not s t h = grind (arith, common_steps)

same_not : (s t : Stamp) → s ≡ t → is_earlier s t ≡ false
same_not s t h = subst (λ (u : Stamp). is_earlier s u ≡ false) h (itself s)
  where
    itself : (s : Stamp) → is_earlier s s ≡ false
    itself s = grind (arith, common_steps)

up_all : (d e f : Edit) → IsUpTo d e → IsUpTo e f → IsUpTo d f
up_all d e f (inl h) k = subst (λ (z : Edit). IsUpTo z f) (sym h) k
up_all d e f (inr h) (inl k) = subst (λ (z : Edit). IsUpTo d z) k (inr h)
up_all d e f (inr h) (inr k) = inr (h.0 ∙ k.0, earlier_all d.stamp e.stamp f.stamp h.1 k.1)

abbrev Above : Addr → List Edit → Type 0
Above a rs = AllByRecursion (λ (r : Edit). IsTrue (is_before a r.place)) rs

before_all : (a b c : Addr) → IsTrue (is_before a b) → IsTrue (is_before b c) → IsTrue (is_before a c)
before_all a b c h k = grind (arith, common_steps)

behind_apart : (a b : Addr) → same_addr a b ≡ false → is_before a b ≡ false → IsTrue (is_before b a)
behind_apart a b h k = grind (arith, common_steps)

above_more : (a b : Addr) (rs : List Edit) → IsTrue (is_before a b) → Above b rs → Above a rs
above_more a b [] h k = tt
above_more a b (r ∷ rs) h k = (before_all a b r.place h k.0, above_more a b rs h k.1)

above : (a : Addr) (rs : List Edit) → AreInOrder (a ∷ places rs) → Above a rs
above a [] o = tt
above a (r ∷ rs) o = (o.0, above_more a r.place rs o.0 (above r.place rs o.1))

in_front : (a : Addr) (rs : List Edit) → Above a rs → AreInOrder (places rs) → AreInOrder (a ∷ places rs)
in_front a [] h o = tt
in_front a (r ∷ rs) h o = (h.0, o)

-- what an edit makes of registers
record Takes (rs : List Edit) (e : Edit) (ws : List Edit) : Type 0 where
  pub ordered : AreInOrder (places ws)
  pub above : (a : Addr) → IsTrue (is_before a e.place) → Above a rs → Above a ws
  pub among : (w : Edit) → Member w ws → (w ≡ e) ⊎ Member w rs
  pub taken : (w : Edit) × Member w ws × IsUpTo e w
  pub kept : (r : Edit) → Member r rs → (w : Edit) × Member w ws × IsUpTo r w

-- one of them is there already
same_edit : (d e : Edit) → d.place ≡ e.place → d.stamp ≡ e.stamp → d.content ≡ e.content → d ≡ e
same_edit d e p s c = λ i. record { stamp = s i; place = p i; content = c i }

module _ (x : Edit) (rs : List Edit) (e : Edit) (o : AreInOrder (places (x ∷ rs))) (p : e.place ≡ x.place) where
  wins : IsTrue (is_earlier x.stamp e.stamp) → Takes (x ∷ rs) e (e ∷ rs)
  wins h = record {
    ordered = subst (λ (a : Addr). AreInOrder (a ∷ places rs)) (sym p) o;
    above = λ a b k. (b, k.1);
    among = λ w m. elim m as (λ _. (w ≡ e) ⊎ Member w (x ∷ rs)) [ inl k ↦ inl k | inr k ↦ inr (inr k) ];
    taken = (e, inl refl, inl refl);
    kept = λ r m. elim m as (λ _. (w : Edit) × Member w (e ∷ rs) × IsUpTo r w) [
      | inl k ↦ (e, inl refl, subst (λ (z : Edit). IsUpTo z e) (sym k) (inr (sym p, h)))
      | inr k ↦ (r, inr k, inl refl)
    ];
  }

  stays : IsUpTo e x → Takes (x ∷ rs) e (x ∷ rs)
  stays u = record {
    ordered = o;
    above = λ a b k. k;
    among = λ w m. inr m;
    taken = (x, inl refl, u);
    kept = λ r m. (r, m, inl refl);
  }

  at_place : (j : Judged) → IsJudged (Some x) e j → (j ≢ Conflict) → Takes (x ∷ rs) e ((cond (is_earlier x.stamp e.stamp) e x) ∷ rs)
  at_place Wins h n = rw h (wins h)
  at_place Loses h n = rw (later_not x.stamp e.stamp h) (stays (inr (p, h)))
  at_place Same h n = rw (same_not x.stamp e.stamp h.0) (stays (inl (same_edit e x p (sym h.0) (sym h.1))))
  at_place Conflict h n = absurd (n refl)

takes : (rs : List Edit) (e : Edit) → AreInOrder (places rs) → IsTakeable (register_at rs e.place) e → Takes rs e (with_edit rs e)
takes [] e o t = record { ordered = tt; above = λ a b k. (b, tt); among = λ w m. elim m as (λ _. (w ≡ e) ⊎ ⊥) [ inl k ↦ inl k | inr k ↦ absurd k ]; taken = (e, inl refl, inl refl); kept = λ r m. absurd m }
takes (x ∷ rs) e o t = by (same_addr e.place x.place) (is_before e.place x.place) refl refl t (takes rs e (tail x.place (places rs) o))
  where
    by : (a b : Bool) → same_addr e.place x.place ≡ a → is_before e.place x.place ≡ b → IsTakeable (cond a (Some x) (register_at rs e.place)) e → (IsTakeable (register_at rs e.place) e → Takes rs e (with_edit rs e))
        → Takes (x ∷ rs) e (cond a ((cond (is_earlier x.stamp e.stamp) e x) ∷ rs) (cond b (e ∷ x ∷ rs) (x ∷ with_edit rs e)))
    by true b h k u ih = at_place x rs e o (addr_exact e.place x.place h) u.0 u.1 u.2
    by false true h k u ih = record {
      ordered = (k, o);
      above = λ a c l. (c, l);
      among = λ w m. m;
      taken = (e, inl refl, inl refl);
      kept = λ r m. (r, inr m, inl refl);
    }
    by false false h k u ih =
        let t = ih u in
        record {
          ordered = in_front x.place (with_edit rs e) (t.above x.place (behind_apart e.place x.place h k) (above x.place rs o)) t.ordered;
          above = λ a c l. (l.0, t.above a c l.1);
          among = λ w m. elim m as (λ _. (w ≡ e) ⊎ Member w (x ∷ rs)) [
            | inl l ↦ inr (inl l)
            | inr l ↦ elim (t.among w l) as (λ _. (w ≡ e) ⊎ Member w (x ∷ rs)) [ inl f ↦ inl f | inr f ↦ inr (inr f) ]
          ];
          taken = (t.taken.0, inr t.taken.1, t.taken.2);
          kept = λ r m. elim m as (λ _. (w : Edit) × Member w (x ∷ with_edit rs e) × IsUpTo r w) [
            | inl l ↦ (x, inl refl, inl l)
            | inr l ↦ let q = t.kept r l in (q.0, inr q.1, q.2)
          ];
        }

-- ---- lists with one more

pub member_last : (es : List Edit) (e : Edit) → Member e (es ++ e ∷ [])
member_last [] e = inl refl
member_last (d ∷ es) e = inr (member_last es e)

pub member_front : (es : List Edit) (e d : Edit) → Member d es → Member d (es ++ e ∷ [])
member_front [] e d m = absurd m
member_front (x ∷ es) e d (inl h) = inl h
member_front (x ∷ es) e d (inr h) = inr (member_front es e d h)

member_either : (es : List Edit) (e d : Edit) → Member d (es ++ e ∷ []) → (d ≡ e) ⊎ Member d es
member_either [] e d (inl h) = inl h
member_either [] e d (inr h) = absurd h
member_either (x ∷ es) e d (inl h) = inr (inl h)
member_either (x ∷ es) e d (inr h) = elim (member_either es e d h) as (λ _. (d ≡ e) ⊎ Member d (x ∷ es)) [ inl k ↦ inl k | inr k ↦ inr (inr k) ]

latest_more : (es : List Edit) (e : Edit) → max (latest es) e.stamp.time ≡ latest (es ++ e ∷ [])
latest_more [] e = grind (arith, common_steps)
latest_more (d ∷ es) e = let ih = latest_more es e in grind (arith, common_steps)

pub one_more_taken : OneMoreTaken
one_more_taken es r e h t =
    let k = takes r.registers e h.join.ordered t in
    record {
      join = record {
        ordered = k.ordered;
        among = λ w m. elim (k.among w m) as (λ _. Member w (es ++ e ∷ [])) [
          | inl f ↦ subst (λ (z : Edit). Member z (es ++ e ∷ [])) (sym f) (member_last es e)
          | inr f ↦ member_front es e w (h.join.among w f)
        ];
        greatest = λ d m. elim (member_either es e d m) as (λ _. (w : Edit) × Member w (with_edit r.registers e) × IsUpTo d w) [
          | inl f ↦ (k.taken.0, k.taken.1, subst (λ (z : Edit). IsUpTo z k.taken.0) (sym f) k.taken.2)
          | inr f ↦ let g = h.join.greatest d f in let q = k.kept g.0 g.1 in (q.0, q.1, up_all d g.0 q.0 g.2 q.2)
        ];
      };
      clock = ap (λ (n : ℕ). max n e.stamp.time) h.clock ∙ latest_more es e;
    }

-- from what it has taken on
all_from : (ds es : List Edit) (r : Replica) → HasTaken ds r → AreTakeable r es → HasTaken (ds ++ es) (taking_all r es)
all_from ds [] r h t = subst (λ (zs : List Edit). HasTaken zs r) (sym (append-nil ds)) h
all_from ds (e ∷ es) r h t =
    subst (λ (zs : List Edit). HasTaken zs (taking_all (taking r e) es)) (append_assoc ds (e ∷ []) es)
    (all_from (ds ++ e ∷ []) es (taking r e) (one_more_taken ds r e h t.0) t.1)

pub all_taken : AllTaken
all_taken n es t = all_from [] es (new_replica n) (none_taken n) t

pub order_with_edit : (rs : List Edit) (e : Edit) → AreInOrder (map (λ (r : Edit). r.place) rs) → IsTakeable (register_at rs e.place) e → AreInOrder (map (λ (r : Edit). r.place) (with_edit rs e))
order_with_edit rs e o t = (takes rs e o t).ordered
