-- What is affected is what one pass over notes in order drops.
use Rattle.std.proofs.Common.{◌≡◌, ◌⊎◌, inl, inr, List, [], ◌∷◌, Bool, true, false, cond, refl, sym, ap, ◌∙◌, subst}
use Rattle.std.specs.List.{list_any}
use Rattle.gl_calculus.specs.Computation.Lists.{Member, AreDistinct, IsEquality, has_member}
use Rattle.gl_calculus.specs.Computation.Notes.{Note}
use Rattle.gl_machine.specs.InOrder.{AreOrdered, must_go, gone_after}
use Rattle.gl_calculus.specs.Computation.Notes.{note_keys}
use Rattle.gl_calculus.proofs.Members.{any_member, member_any, either, left, right}
use Rattle.laws_calculus.proofs.Query.Quiet.{seen_member}
use Rattle.gl_support.specs.Affected.{Triple, is_touched, IsAffected, Looked, Read, notes_of_triples, AffectedAreGone}
use Rattle.gl_support.proofs.Keys.{has_member-any}
use Rattle.gl_support.proofs.Closure.{iff}

has_it : {K : Type 0} (same : K → K → Bool) → IsEquality same → (k : K) (ks : List K) → Member k ks → has_member same k ks ≡ true
has_it same eq k ks m = has_member-any same k ks ∙ member_any (same k) ks k m (eq.1 k)

module _ {K O A : Type 0} (same : K → K → Bool) (eq : IsEquality same) (touched : A → Bool) where
  abbrev next : List K → Note K O A → List K
  next gone n = cond (must_go same touched gone n) (n.key ∷ gone) gone

  stays_next : (gone : List K) (n : Note K O A) (k : K) → Member k gone → Member k (next gone n)
  stays_next gone n k m = (elim (must_go same touched gone n) as (λ b. Member k (cond b (n.key ∷ gone) gone)) [ true ↦ inr m | false ↦ m ])

  back_next : (gone : List K) (n : Note K O A) (k : K) → Member k (next gone n) → (k ≡ n.key) ⊎ Member k gone
  back_next gone n k = elim (must_go same touched gone n) as (λ b. Member k (cond b (n.key ∷ gone) gone) → (k ≡ n.key) ⊎ Member k gone) [ true ↦ λ m. m | false ↦ λ m. inr m ]

  goes_next : (gone : List K) (n : Note K O A) → must_go same touched gone n ≡ true → Member n.key (next gone n)
  goes_next gone n e = subst (λ b. Member n.key (cond b (n.key ∷ gone) gone)) (sym e) (inl refl)

  -- what is gone stays gone
  stays : (gone : List K) (notes : List (Note K O A)) (k : K) → Member k gone → Member k (gone_after same touched gone notes)
  stays gone [] k m = m
  stays gone (n ∷ notes) k m = stays (next gone n) notes k (stays_next gone n k m)

  -- and only keys of notes go
  newly : (gone : List K) (notes : List (Note K O A)) (k : K) → Member k (gone_after same touched gone notes) → Member k gone ⊎ Member k (note_keys notes)
  newly gone [] k m = inl m
  newly gone (n ∷ notes) k m = by (newly (next gone n) notes k m)
    where
      by_next : (k ≡ n.key) ⊎ Member k gone → Member k gone ⊎ Member k (note_keys (n ∷ notes))
      by_next (inl e) = inr (inl e)
      by_next (inr o) = inl o

      by : Member k (next gone n) ⊎ Member k (note_keys notes) → Member k gone ⊎ Member k (note_keys (n ∷ notes))
      by (inl o) = by_next (back_next gone n k o)
      by (inr o) = inr (inr o)

  -- a note that must go beside all that are gone in the end is gone
  closed : (before gone : List K) (notes : List (Note K O A)) → AreOrdered before notes → AreDistinct (note_keys notes) → ((k : K) → Member k before → Member k (note_keys notes) → ⊥) →
      (n : Note K O A) → Member n notes → must_go same touched (gone_after same touched gone notes) n ≡ true → Member n.key (gone_after same touched gone notes)
  closed before gone [] o d fresh n m e = absurd m
  closed before gone (x ∷ notes) o d fresh n (inr m) e = closed (x.key ∷ before) (next gone x) notes o.1 d.1 later n m e
    where
      later : (k : K) → (k ≡ x.key) ⊎ Member k before → Member k (note_keys notes) → ⊥
      later k (inl q) i = d.0 (subst (λ u. Member u (note_keys notes)) q i)
      later k (inr b) i = fresh k b (inr i)
  closed before gone (x ∷ notes) o d fresh n (inl q) e = subst (λ u. Member u.key all) (sym q) (stays (next gone x) notes x.key (goes_next gone x (early (either (list_any touched x.looked) (list_any (λ j. has_member same j all) x.reads) (subst (λ u. must_go same touched all u ≡ true) q e)))))
    where
      all : List K
      all = gone_after same touched (next gone x) notes

      -- what it read is gone already
      sooner : (j : K) → Member j x.reads → Member j all → Member j gone
      sooner j i g = by (newly gone (x ∷ notes) j g)
        where
          by : Member j gone ⊎ Member j (note_keys (x ∷ notes)) → Member j gone
          by (inl h) = h
          by (inr h) = absurd (fresh j (o.0 j i) h)

      early : (list_any touched x.looked ≡ true) ⊎ (list_any (λ j. has_member same j all) x.reads ≡ true) → must_go same touched gone x ≡ true
      early (inl t) = left (list_any touched x.looked) (list_any (λ j. has_member same j gone) x.reads) t
      early (inr t) =
          let (j, i, h) = any_member (λ j. has_member same j all) x.reads t in
          right (list_any touched x.looked) (list_any (λ j. has_member same j gone) x.reads) (member_any (λ j. has_member same j gone) x.reads j i (has_it same eq j gone (sooner j i (seen_member same eq all j h))))

  -- a property of each note that must go beside keys that have it is one of all that are gone
  all_gone : (P : K → Type 0) (gone : List K) (notes : List (Note K O A)) → ((k : K) → Member k gone → P k) →
      ((n : Note K O A) → Member n notes → list_any touched n.looked ≡ true → P n.key) →
      ((n : Note K O A) (j : K) → Member n notes → Member j n.reads → P j → P n.key) →
      (k : K) → Member k (gone_after same touched gone notes) → P k
  all_gone P gone [] h t r k m = h k m
  all_gone P gone (x ∷ notes) h t r k m = all_gone P (next gone x) notes (by (must_go same touched gone x) refl) (λ n i. t n (inr i)) (λ n j i. r n j (inr i)) k m
    where
      here : must_go same touched gone x ≡ true → P x.key
      here e = by_cause (either (list_any touched x.looked) (list_any (λ j. has_member same j gone) x.reads) e)
        where
          by_cause : (list_any touched x.looked ≡ true) ⊎ (list_any (λ j. has_member same j gone) x.reads ≡ true) → P x.key
          by_cause (inl a) = t x (inl refl) a
          by_cause (inr a) = let (j, i, g) = any_member (λ j. has_member same j gone) x.reads a in r x j (inl refl) i (h j (seen_member same eq gone j g))

      by : (b : Bool) → must_go same touched gone x ≡ b → (j : K) → Member j (cond b (x.key ∷ gone) gone) → P j
      by true e j (inl q) = subst P (sym q) (here e)
      by true e j (inr i) = h j i
      by false e j i = h j i

abbrev note_of : {K A : Type 0} → Triple K A → Note K (Unit {0}) A
note_of t = record { key = t.by; outcome = tt; reads = t.reads; looked = t.looked }

-- a property of all keys that looked at what changed, and of each that read a key with it, is one of all that are affected
pub affected_has : {K A : Type 0} (same : K → K → Bool) (touches : A → A → Bool) (ts : List (Triple K A)) (changed : List A) (P : K → Type 0) →
    ((x y : K) → same x y ≡ true → P y → P x) →
    ((t : Triple K A) → Member t ts → is_touched touches t.looked changed ≡ true → P t.by) →
    ((t : Triple K A) (j : K) → Member t ts → Member j t.reads → P j → P t.by) →
    (k : K) → IsAffected same touches ts changed k → P k
affected_has same touches ts changed P alike looked read k (Looked t m e l) = alike k t.by e (looked t m l)
affected_has same touches ts changed P alike looked read k (Read t j m e r f) = alike k t.by e (read t j m r (affected_has same touches ts changed P alike looked read j f))

module _ {K A : Type 0} (same : K → K → Bool) (touches : A → A → Bool) (changed : List A) where
  noted : (ts : List (Triple K A)) (t : Triple K A) → Member t ts → Member (note_of t) (notes_of_triples ts)
  noted [] t m = m
  noted (u ∷ ts) t (inl e) = inl (ap note_of e)
  noted (u ∷ ts) t (inr m) = inr (noted ts t m)

  of_note : (ts : List (Triple K A)) (n : Note K (Unit {0}) A) → Member n (notes_of_triples ts) → (t : Triple K A) × Member t ts × (n ≡ note_of t)
  of_note [] n m = absurd m
  of_note (u ∷ ts) n (inl e) = (u, inl refl, e)
  of_note (u ∷ ts) n (inr m) = let (t, i, e) = of_note ts n m in (t, inr i, e)

pub affected_gone : (K A : Type 0) → AffectedAreGone K A
affected_gone K A same touches ts changed ks k eq d o h = iff (has_member same k ks) (has_member same k gone) forth back
  where
    touched : A → Bool
    touched a = list_any (touches a) changed

    notes : List (Note K (Unit {0}) A)
    notes = notes_of_triples ts

    gone : List K
    gone = gone_after same touched [] notes

    goes : (n : Note K (Unit {0}) A) → Member n notes → must_go same touched gone n ≡ true → Member n.key gone
    goes = closed same eq touched [] [] notes o d (λ j m i. absurd m)

    reached : (j : K) → IsAffected same touches ts changed j → Member j gone
    reached = affected_has same touches ts changed (λ j. Member j gone) (λ x y e m. subst (λ u. Member u gone) (sym (eq.0 x y e)) m)
        (λ t m l. goes (note_of t) (noted same touches changed ts t m) (left (list_any touched t.looked) (list_any (λ i. has_member same i gone) t.reads) l))
        (λ t i m r f. goes (note_of t) (noted same touches changed ts t m)
        (right (list_any touched t.looked) (list_any (λ i. has_member same i gone) t.reads) (member_any (λ i. has_member same i gone) t.reads i r (has_it same eq i gone f))))

    forth : has_member same k ks ≡ true → has_member same k gone ≡ true
    forth e = has_it same eq k gone (reached k (h.least k e))

    looked : (n : Note K (Unit {0}) A) → Member n notes → list_any touched n.looked ≡ true → has_member same n.key ks ≡ true
    looked n m l = let (t, i, e) = of_note same touches changed ts n m in ap (λ u. has_member same u.key ks) e ∙ h.closed.touched t i (subst (λ u. list_any touched u.looked ≡ true) e l)

    read : (n : Note K (Unit {0}) A) (j : K) → Member n notes → Member j n.reads → has_member same j ks ≡ true → has_member same n.key ks ≡ true
    read n j m r g = let (t, i, e) = of_note same touches changed ts n m in ap (λ u. has_member same u.key ks) e ∙ h.closed.read t j i (subst (λ u. Member j u.reads) e r) g

    back : has_member same k gone ≡ true → has_member same k ks ≡ true
    back e = all_gone same eq touched (λ j. has_member same j ks ≡ true) [] notes (λ j m. absurd m) looked read k (seen_member same eq gone k e)
