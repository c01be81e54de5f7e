-- The least closed set of numbers is that of keys.
use Rattle.std.proofs.Common.{◌≡◌, ◌∙◌, ℕ, ◌<◌, Bool, true, false, ◌&&◌, ◌||◌, List, ◌∷◌, map, length, get_or, filter, refl, sym, ap, subst, inl, inr}
use Rattle.std.specs.Cmp.{IsEquivalence}
use Rattle.std.specs.List.{list_any, IsDistinct, AllZip}
use Rattle.std.specs.Prelude.{Vec, []}
use Rattle.std.specs.declared.alloc.Global.{Global}
use Rattle.indexmap.specs.IndexSet.{insert_all}
use Rattle.gl_calculus.specs.Computation.Lists.{Member, has_member, distinct}
use Rattle.gl_calculus.proofs.Members.{any_member, member_any}
use Rattle.gl_support.specs.Affected.{Triple, is_touched, IsClosed, IsAffected, Looked, Read, AreAffected}
use Rattle.gl_support.specs.Nodes.{stands_at, reads_at, marked_keys}
use Rattle.gl_support.specs.Reach.{is_marked, has, row_of, IsFollowed, Seed, Edge, IsLeast}
use Rattle.gl_support.proofs.Keys.{has_member-any, any_alike, any_congr, AllZip-trans, filter_alike, any_insert_all, distinct-insert_all}
use Rattle.gl_support.proofs.Places.{and_true, stands_somewhere, marked_there, marked_place, stand_alike, stands_self, stands_once, filter-marked}

and_both : (a b : Bool) → a ≡ true → b ≡ true → (a && b) ≡ true
and_both true b h g = g
and_both false b h g = let no : false ≡ true = h in cc

pub iff : (a b : Bool) → (a ≡ true → b ≡ true) → (b ≡ true → a ≡ true) → a ≡ b
iff true b f g = sym (f refl)
iff false true f g = g refl
iff false false f g = refl

by_members : {K A : Type 0} {same : K → K → Bool} (laws : IsEquivalence same) (ts : List (Triple K A)) (t : Triple K A) → Member t ts → list_any (same t.by) (map (λ u. u.by) ts) ≡ true
by_members laws [] t h = absurd h
by_members {K} {A} {same} laws (u ∷ us) t h =
    elim h as (λ _. (same t.by u.by || list_any (same t.by) (map (λ v. v.by) us)) ≡ true) [
      | inl e ↦ ap (λ b. b || list_any (same t.by) (map (λ v. v.by) us)) (ap (λ (x : Triple K A). same t.by x.by) (sym e) ∙ laws.refl t.by)
      | inr later ↦ ap (λ b. same t.by u.by || b) (by_members laws us t later) ∙ or_right (same t.by u.by)
    ]
  where
    or_right : (b : Bool) → (b || true) ≡ true
    or_right true = refl
    or_right false = refl

module _ {K A : Type 0} {same : K → K → Bool} (laws : IsEquivalence same) (touches : A → A → Bool) (ts : List (Triple K A)) (changed : List A)
    (ks : List K) (keys : AllZip (λ x y. same x y ≡ true) (insert_all same [] (map (λ t. t.by) ts)) ks) (apart : IsDistinct same ks)
    (graph : List (Vec ℕ Global)) (edges : (a c : ℕ) → has (row_of graph a) c ≡ list_any (λ t. reads_at same ks t.reads a && stands_at same ks t.by c) ts)
    (seeds : List Bool) (seeded : (c : ℕ) → is_marked seeds c ≡ list_any (λ t. is_touched touches t.looked changed && stands_at same ks t.by c) ts)
    (marks : List Bool) (least : IsLeast graph seeds marks) (size : length marks ≡ length ks)
    (found : List K) (is : AllZip (λ x y. same x y ≡ true) (marked_keys marks ks) found) where
  there : (k : K) → has_member same k found ≡ list_any (same k) (marked_keys marks ks)
  there k = has_member-any same k found ∙ sym (any_alike laws k (marked_keys marks ks) found is)

  -- the key of each triple stands somewhere
  place_of : (t : Triple K A) → Member t ts → (i : ℕ) × (stands_at same ks t.by i ≡ true)
  place_of t m = stands_somewhere same ks t.by (sym (any_alike laws t.by (insert_all same [] (map (λ u. u.by) ts)) ks keys) ∙ any_insert_all laws t.by [] (map (λ u. u.by) ts) ∙ by_members laws ts t m)

  closed : IsClosed same touches ts changed (λ k. has_member same k found)
  closed = record {
    alike = λ x y h. has_member-any same x found ∙ any_congr laws x y found h ∙ sym (has_member-any same y found);
    touched = λ t m h.
        let p = place_of t m in
        let seed : is_marked seeds p.0 ≡ true = seeded p.0 ∙ member_any (λ u. is_touched touches u.looked changed && stands_at same ks u.by p.0) ts t m (and_both _ _ h p.1) in
        there t.by ∙ marked_there same marks ks t.by p.0 p.1 (least.closed.seeded p.0 seed);
    read = λ t k m r h.
        let p = place_of t m in
        let q = marked_place laws marks ks k apart (sym (there k) ∙ h) in
        let reads : reads_at same ks t.reads q.0 ≡ true = member_any (λ u. stands_at same ks u q.0) t.reads k r q.1 in
        let edge : has (row_of graph q.0) p.0 ≡ true = edges q.0 p.0 ∙ member_any (λ u. reads_at same ks u.reads q.0 && stands_at same ks u.by p.0) ts t m (and_both _ _ reads p.1) in
        there t.by ∙ marked_there same marks ks t.by p.0 p.1 (least.closed.edges q.0 p.0 edge q.2);
  }

  -- what keys stand at a node that is reached are affected
  at_node : (i : ℕ) → IsFollowed graph seeds i → (k : K) → stands_at same ks k i ≡ true → IsAffected same touches ts changed k
  at_node i (Seed h) k at =
      let w = any_member (λ t. is_touched touches t.looked changed && stands_at same ks t.by i) ts (sym (seeded i) ∙ h) in
      let b = and_true (is_touched touches w.0.looked changed) (stands_at same ks w.0.by i) w.2 in
      Looked w.0 w.1 (stand_alike laws ks k w.0.by i at b.1) b.0
  at_node i (Edge a e f) k at =
      let w = any_member (λ t. reads_at same ks t.reads a && stands_at same ks t.by i) ts (sym (edges a i) ∙ e) in
      let b = and_true (reads_at same ks w.0.reads a) (stands_at same ks w.0.by i) w.2 in
      let r = any_member (λ j. stands_at same ks j a) w.0.reads b.0 in
      Read w.0 r.0 w.1 (stand_alike laws ks k w.0.by i at b.1) r.1 (at_node a f r.0 r.2)

  smallest : (k : K) → has_member same k found ≡ true → IsAffected same touches ts changed k
  smallest k h =
      let p = marked_place laws marks ks k apart (sym (there k) ∙ h) in
      at_node p.0 (least.least p.0 p.2) k p.1

  -- a key is found exactly where its place is marked
  at_place : (j : ℕ) (d : K) → j < length ks → has_member same (get_or ks j d) found ≡ is_marked marks j
  at_place j d h =
      let self = stands_self laws ks j d apart h in
      iff (has_member same (get_or ks j d) found) (is_marked marks j)
      (λ e. let p = marked_place laws marks ks (get_or ks j d) apart (sym (there (get_or ks j d)) ∙ e) in ap (is_marked marks) (stands_once same ks (get_or ks j d) j p.0 self p.1) ∙ p.2)
      (λ m. there (get_or ks j d) ∙ marked_there same marks ks (get_or ks j d) j self m)

  ordered : AllZip (λ x y. same x y ≡ true) (filter (λ k. has_member same k found) (distinct same (map (λ t. t.by) ts))) found
  ordered =
      let test : K → Bool = λ k. has_member same k found in
      let alike = filter_alike laws test closed.alike (insert_all same [] (map (λ t. t.by) ts)) ks keys in
      let marked : filter test ks ≡ marked_keys marks ks = filter-marked test marks ks size at_place in
      let zipped = subst (λ (us : List K). AllZip (λ x y. same x y ≡ true) (filter test (insert_all same [] (map (λ t. t.by) ts))) us) marked alike in
      let all = AllZip-trans laws (filter test (insert_all same [] (map (λ t. t.by) ts))) (marked_keys marks ks) found zipped is in
      subst (λ (us : List K). AllZip (λ x y. same x y ≡ true) (filter test us) found) (distinct-insert_all laws (map (λ t. t.by) ts)) all

  pub are_affected : AreAffected same touches ts changed found
  are_affected = record { closed = closed; least = smallest; order = ordered }
