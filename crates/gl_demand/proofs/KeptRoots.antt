-- The root that is kept from one blank of a range to the next.
use Rattle.std.proofs.Common.{◌≡◌, ℕ, Bool, true, false, cond, ◌||◌, List, [], ◌∷◌, ◌++◌, Option, Some, None, Result, Ok, Err, IfOk, IfErr, IfSome, OnOk, IsTrue, option_map, refl, ap, sym, subst, ◌∙◌}
use Rattle.std.specs.List.{list_any}
use Rattle.std.proofs.lemmas.Bool.{eq-eqb}
use Rattle.std.proofs.lemmas.List.Folds.{list_any-append}
use Rattle.indexmap.specs.IndexSet.{insert_key}
use Rattle.gl_calculus.specs.Computation.Query.{Ready, Need, next}
use Rattle.gl_calculus.specs.Grid.Grid.{Addr, same_addr}
use Rattle.gl_calculus.specs.Values.Value as V
use Rattle.gl_calculus.specs.Values.Value.{Frame}
use Rattle.gl_calculus.specs.Evaluation.Sound.{is_sound_value}
use Rattle.gl_calculus.specs.Evaluation.Facts.{Fact, fact, find_fact}
use Rattle.gl_calculus.specs.Evaluation.Key.{Key, Cell, Outcome, Settled, Budget, same_key, own_value}
use Rattle.gl_calculus.specs.Evaluation.Reference.{Held, Given, Computed, own_content, value_of, own, spilled}
use Rattle.gl_calculus.proofs.Tests.{addr_same, key_equality}
use Rattle.gl_machine.specs.Seen.{covered_seen}
use Rattle.gl_value.specs.View.{scalar_tree, value_tree}
use Rattle.gl_value.specs.declared.Scalar.{Scalar}
use Rattle.gl_value.specs.declared.Value.{Value}
use Rattle.gl_demand.specs.Walk.{Trail, Inputs, Numbered, by_number, same_numbered, with_number, reading, walk}
use Rattle.gl_demand.specs.Walks.{trail_tree}
use Rattle.gl_demand.specs.Seen.{AreSeen, ReadsOne}
use Rattle.gl_demand.specs.Covering.{IsRead, IsKept, kept_home}
use Rattle.gl_demand.specs.declared.covering.Kept.{Kept}
use Rattle.gl_demand.specs.declared.covering.Roots.{Roots}
use Rattle.gl_demand.specs.declared.trail.Trail as Code
use Rattle.gl_demand.specs.declared.trail.Halt.{Halt}
use Rattle.gl_demand.specs.declared.trail.Halt.TheVariants as halt
use Rattle.gl_demand.proofs.Seeing.{seen_again, walk_again}
use Rattle.gl_demand.proofs.References.{covered_ok}

-- ---- keys that are read once more

same_itself : (k : Key) (n : Option ℕ) → by_number n n (same_key k k) ≡ true
same_itself k None = key_equality.1 k
same_itself k (Some n) = eq-eqb n n refl

or_true : (a b : Bool) → b ≡ true → (a || (b || false)) ≡ true
or_true true b h = refl
or_true false true h = refl
or_true false false h = absurd (cc h)

or_first : (a b : Bool) → a ≡ true → (a || b) ≡ true
or_first true b h = refl
or_first false b h = absurd (cc h)

module _ (x : Numbered) (same : same_numbered x x ≡ true) where
  has_inserted : (b : Bool) (ks : List Numbered) → list_any (same_numbered x) ks ≡ b → list_any (same_numbered x) (cond b ks (ks ++ x ∷ [])) ≡ true
  has_inserted true ks h = h
  has_inserted false ks h = list_any-append (same_numbered x) ks (x ∷ []) ∙ or_true (list_any (same_numbered x) ks) (same_numbered x x) same

  has_still : (b : Bool) (ks : List Numbered) (y : Numbered) → list_any (same_numbered x) ks ≡ true → list_any (same_numbered x) (cond b ks (ks ++ y ∷ [])) ≡ true
  has_still true ks y h = h
  has_still false ks y h = list_any-append (same_numbered x) ks (y ∷ []) ∙ or_first (list_any (same_numbered x) ks) (list_any (same_numbered x) (y ∷ [])) h

  stays : (ks : List Numbered) → list_any (same_numbered x) ks ≡ true → insert_key same_numbered ks x ≡ ks
  stays ks h = ap (λ b. cond b ks (ks ++ x ∷ [])) h

  insert_again : (ks : List Numbered) → insert_key same_numbered (insert_key same_numbered ks x) x ≡ insert_key same_numbered ks x
  insert_again ks = stays (insert_key same_numbered ks x) (has_inserted (list_any (same_numbered x) ks) ks refl)

  insert_later : (ks : List Numbered) (y : Numbered) → insert_key same_numbered ks x ≡ ks → insert_key same_numbered (insert_key same_numbered ks y) x ≡ insert_key same_numbered ks y
  insert_later ks y h =
      let has = subst (λ l. list_any (same_numbered x) l ≡ true) h (has_inserted (list_any (same_numbered x) ks) ks refl) in
      stays (insert_key same_numbered ks y) (has_still (list_any (same_numbered y) ks) ks y has)

-- the same with these reads
abbrev with_reads : Trail → List Numbered → Trail
with_reads t rs = record { reads = rs; looked = t.looked }

-- what holds anyhow holds of what comes to a result
pub anyway : {T E P : Type 0} (r : Result T E) → P → OnOk r P
anyway (Ok x) p = p
anyway (Err e) p = tt

module _ (w : Inputs) where
  itself : (k : Key) → same_numbered (with_number w.number k) (with_number w.number k) ≡ true
  itself k = same_itself k (w.number k)

  reading_again : (k : Key) (t : Trail) → reading w k (reading w k t) ≡ reading w k t
  reading_again k t = ap (with_reads t) (insert_again (with_number w.number k) (itself k) t.reads)

  reading_later : (k j : Key) (t : Trail) → reading w k t ≡ t → reading w k (reading w j t) ≡ reading w j t
  reading_later k j t h = ap (with_reads t) (insert_later (with_number w.number k) (itself k) t.reads (with_number w.number j) (ap (λ z. z.reads) h))

  -- ---- own values that are read once more

  own_stays : (o : Outcome) (t u : Trail) → walk w (own_value o) u ≡ ((walk w (own_value o) t).0, u)
  own_stays (Outcome.Value v) t u = refl
  own_stays (Settled o) t u = refl
  own_stays (Outcome.Abort b) t u = refl

  own_leaves : (o : Outcome) (t : Trail) → (walk w (own_value o) t).1 ≡ t
  own_leaves (Outcome.Value v) t = refl
  own_leaves (Settled o) t = refl
  own_leaves (Outcome.Abort b) t = refl

  -- a trail over which each key stays that was read up to the end of another walk
  abbrev Stays : Trail → Trail → Trail → Type 0
  Stays t u v = (k : Key) → reading w k t ≡ u → reading w k v ≡ v

  module _ (e : Frame) (a : Addr) (r : Result (Option V.Value) Budget) (t u v : Trail) (on : Stays t u v) where
    demanded_on : (o : Option Outcome) → next (Need (Cell e a), reading w (Cell e a) t) o (λ q. walk w (own_value q) (reading w (Cell e a) t)) ≡ (Ready r, u)
        → next (Need (Cell e a), reading w (Cell e a) v) o (λ q. walk w (own_value q) (reading w (Cell e a) v)) ≡ (Ready r, v)
    demanded_on None h = let no : Need (Cell e a) ≡ Ready r = ap (λ z. z.0) h in absurd (cc no)
    demanded_on (Some q) h =
        let left : reading w (Cell e a) t ≡ u = sym (own_leaves q (reading w (Cell e a) t)) ∙ ap (λ z. z.1) h in
        own_stays q (reading w (Cell e a) t) (reading w (Cell e a) v)
        ∙ ap (λ z. (z.0, reading w (Cell e a) v)) h
        ∙ ap (λ z. (Ready r, z)) (on (Cell e a) left)

    value_on : (h : Option Held) → walk w (value_of e a h) t ≡ (Ready r, u) → walk w (value_of e a h) v ≡ (Ready r, v)
    value_on None h = ap (λ z. (z.0, v)) h
    value_on (Some (Given x)) h = ap (λ z. (z.0, v)) h
    value_on (Some (Computed f)) h = demanded_on (w.known (Cell e a)) h

  own_again : (e : Frame) (x : Fact) (r : Result (Option V.Value) Budget) (t u : Trail) → walk w (own e x) t ≡ (Ready r, u) → walk w (own e x) u ≡ (Ready r, u)
  own_again e x r t u h =
      value_on e x.address r t u u (λ k i. subst (λ z. reading w k z ≡ z) i (reading_again k t)) (own_content x.content e x.address) h

  own_later : (e : Frame) (x : Fact) (r : Result (Option V.Value) Budget) (t : Trail) (j : Key) → walk w (own e x) t ≡ (Ready r, t) → walk w (own e x) (reading w j t) ≡ (Ready r, reading w j t)
  own_later e x r t j h =
      value_on e x.address r t t (reading w j t) (λ k i. reading_later k j t i) (own_content x.content e x.address) h

  -- ---- the root that is kept

  root_seen : (roots : List Addr) (s : List Fact) (root : Addr) → AreSeen w roots (fact w.cells w.oracle root ∷ s) → list_any (same_addr root) roots ≡ true
  root_seen roots s root h =
      by (list_any (same_addr root) roots) (sym (ap (λ c. cond c (Some (fact w.cells w.oracle root)) (find_fact s root)) (addr_same root)) ∙ h root)
    where
      by : (b : Bool) → Some (fact w.cells w.oracle root) ≡ cond b (Some (fact w.cells w.oracle root)) None → b ≡ true
      by true e = refl
      by false e = absurd (cc e)

  -- a root that was looked at just now, and its own value
  pub is_read : (e : Frame) (root : Addr) (v : Option Value) (roots : List Addr) (s : List Fact) (mid new : Code.Trail) → AreSeen w roots (fact w.cells w.oracle root ∷ s)
      → walk w (own e (fact w.cells w.oracle root)) (trail_tree mid) ≡ (Ready (Ok (option_map value_tree v)), trail_tree new) → IfSome v (λ x. IsTrue (is_sound_value (value_tree x)))
      → IsRead w e root v roots new
  is_read e root v roots s mid new m h sound = record {
    seen = root_seen roots s root m;
    own = own_again e (fact w.cells w.oracle root) (Ok (option_map value_tree v)) (trail_tree mid) (trail_tree new) h;
    sound = sound;
  }

  -- it is kept, if anything is
  pub keeps : (e home : Frame) (root : Addr) (v : Option Value) (last : Option Kept) (roots : List Addr) (t : Code.Trail) → IsRead w home root v roots t
      → IfSome last (λ k. k.root ≡ root) → IfSome last (λ k. k.value ≡ v) → IfSome last (λ k. home ≡ kept_home k.top e)
      → IfSome last (λ k. IsRead w (kept_home k.top e) k.root k.value roots t)
  keeps e home root v None roots t h is value at = tt
  keeps e home root v (Some k) roots t h is value at =
      subst (λ f. IsRead w f k.root k.value roots t) at
      (subst (λ b. IsRead w home b k.value roots t) (sym is)
      (subst (λ x. IsRead w home root x roots t) (sym value) h))

  -- what is kept is so behind another key too
  pub kept_later : (e : Frame) (r : Roots) (old new : Code.Trail) (j : Key) → trail_tree new ≡ reading w j (trail_tree old) → IsKept w e r old → IsKept w e r new
  kept_later e r old new j read h = by r.last h
    where
      by : (o : Option Kept) → IfSome o (λ k. IsRead w (kept_home k.top e) k.root k.value r.seen.keys old) → IfSome o (λ k. IsRead w (kept_home k.top e) k.root k.value r.seen.keys new)
      by None h = tt
      by (Some k) h = record {
        seen = h.seen;
        own = subst (λ t. walk w (own (kept_home k.top e) (fact w.cells w.oracle k.root)) t ≡ (Ready (Ok (option_map value_tree k.value)), t)) (sym read)
            (own_later (kept_home k.top e) (fact w.cells w.oracle k.root) (Ok (option_map value_tree k.value)) (trail_tree old) j h.own);
        sound = h.sound;
      }

  pub kept_none : (e : Frame) (r : Roots) (t : Code.Trail) → r.last ≡ None → IsKept w e r t
  kept_none e r t h = subst (λ o. IfSome o (λ k. IsRead w (kept_home k.top e) k.root k.value r.seen.keys t)) (sym h) tt

  -- what is kept of this root in this home
  pub kept_is : (e home : Frame) (root : Addr) (r : Roots) (t : Code.Trail) (k : Kept) → IsKept w e r t → r.last ≡ Some k → k.root ≡ root → home ≡ kept_home k.top e → IsRead w home root k.value r.seen.keys t
  kept_is e home root r t k h last is at =
      subst (λ b. IsRead w home b k.value r.seen.keys t) is
      (subst (λ f. IsRead w f k.root k.value r.seen.keys t) (sym at)
      (subst (λ o. IfSome o (λ k. IsRead w (kept_home k.top e) k.root k.value r.seen.keys t)) last h))

  -- what a root shows that was read
  pub covered_read : (e : Frame) (s : List Fact) (root : Addr) (i j : ℕ) (v : Option Value) (roots : List Addr) (t : Code.Trail) (r : Result Scalar Halt) → IsRead w e root v roots t → AreSeen w roots s
      → IfOk r (λ x. scalar_tree x ≡ spilled (option_map value_tree v) i j) → IfErr r (λ h. h ≡ halt.NoMemory)
      → ReadsOne w (covered_seen e s (Some (record { root = root; rows = i; cols = j }))) t r roots t
  covered_read e s root i j v roots t r h m c d =
      covered_ok w e s root i j roots t t t v r (walk_again w roots s root (trail_tree t) h.seen m) (seen_again w roots s root h.seen m) h.own c d
