-- Starts that are cut at a place.
use Rattle.std.proofs.Common.{◌≡◌, ◌⊎◌, inl, inr, ℕ, ◌-◌, ◌<◌, ◌≤◌, nat_lt, Bool, true, false, List, [], ◌∷◌, ◌++◌, length, Option, Some, None, refl, sym, subst, ap, ◌∙◌, arith, append-nil, length-append}
use Rattle.std.specs.Prelude.{slice_get}
use Rattle.std.specs.Option.{option_to_list}
use Rattle.gl_calculus.specs.Computation.Lists.{Member}
use Rattle.gl_graph.specs.Search.{Rises, AreCut, passes, last_of}
use Rattle.gl_graph.proofs.Rising.{member_push, member_before, rises_before, rises_last}
use borrow.Author.Tests.{ltb-true, ltb-false}

get_last : (ss : List ℕ) (s : ℕ) → slice_get (ss ++ s ∷ []) (length ss) ≡ Some s
get_last [] s = refl
get_last (x ∷ xs) s = get_last xs s

pub last_push : (ss : List ℕ) (s : ℕ) → last_of (ss ++ s ∷ []) ≡ Some s
last_push ss s = let n : length (ss ++ s ∷ []) - 1 ≡ length ss = omega (arith, length-append ss (s ∷ [])) in ap (slice_get (ss ++ s ∷ [])) n ∙ get_last ss s

pub some_last : (test : ℕ → Bool) (ss : List ℕ) → passes test (last_of ss) ≡ true → 0 < length ss
some_last test [] e = absurd (cc e)
some_last test (x ∷ xs) e = omega arith

-- a list is empty or has a last
pub by_last : (ss : List ℕ) → (ss ≡ []) ⊎ ((rest : List ℕ) × (s : ℕ) × (ss ≡ rest ++ s ∷ []))
by_last [] = inl refl
by_last (x ∷ xs) = inr (by (by_last xs))
  where
    by : (xs ≡ []) ⊎ ((rest : List ℕ) × (s : ℕ) × (xs ≡ rest ++ s ∷ [])) → (rest : List ℕ) × (s : ℕ) × (x ∷ xs ≡ rest ++ s ∷ [])
    by (inl e) = ([], x, ap (λ t. x ∷ t) e)
    by (inr (rest, s, e)) = (x ∷ rest, s, ap (λ t. x ∷ t) e)

-- what is left of the starts while the last are dropped
pub record Cutting (first : List ℕ) (at : ℕ) (ss : List ℕ) : Type 0 where
  pub rises : Rises ss
  pub from : (b : ℕ) → Member b ss → Member b first
  pub kept : (b : ℕ) → Member b first → b ≤ at → Member b ss

pub cut_on : (first ss rest : List ℕ) (at : ℕ) (r : Option ℕ) → ss ≡ rest ++ option_to_list r → passes (λ s. nat_lt at s) (last_of ss) ≡ true → Cutting first at ss → Cutting first at rest
cut_on first ss rest at None e h c = subst (λ t. Cutting first at t) (e ∙ append-nil rest) c
cut_on first ss rest at (Some x) e h c = record {
  rises = rises_before rest x (subst Rises e c.rises);
  from = λ b m. c.from b (subst (λ t. Member b t) (sym e) (member_before b x rest m));
  kept = λ b m l. by b l (member_push b x rest (subst (λ t. Member b t) e (c.kept b m l)));
}
  where
    behind : at < x
    behind = ltb-true at x (sym (ap (passes (λ s. nat_lt at s)) (ap last_of e ∙ last_push rest x)) ∙ h)

    by : (b : ℕ) → b ≤ at → Member b rest ⊎ (b ≡ x) → Member b rest
    by b l (inl m) = m
    by b l (inr d) = absurd (omega (arith, behind, l, d))

pub cut_done : (first ss : List ℕ) (at : ℕ) → passes (λ s. nat_lt at s) (last_of ss) ≡ false → Cutting first at ss → AreCut first at ss
cut_done first ss at h c = record { rises = c.rises; from = λ b m. (c.from b m, low b m (by_last ss)); kept = c.kept }
  where
    low : (b : ℕ) → Member b ss → (ss ≡ []) ⊎ ((rest : List ℕ) × (s : ℕ) × (ss ≡ rest ++ s ∷ [])) → b ≤ at
    low b m (inl e) = absurd (subst (λ t. Member b t) e m)
    low b m (inr (rest, s, e)) = by (member_push b s rest (subst (λ t. Member b t) e m))
      where
        ends : s ≤ at
        ends = ltb-false at s (sym (ap (passes (λ u. nat_lt at u)) (ap last_of e ∙ last_push rest s)) ∙ h)

        by : Member b rest ⊎ (b ≡ s) → b ≤ at
        by (inl i) = omega (arith, ends, rises_last rest s (subst Rises e c.rises) b i)
        by (inr d) = omega (arith, ends, d)
