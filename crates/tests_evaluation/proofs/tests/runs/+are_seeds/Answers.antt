use Rattle.std.proofs.Common.{◌≡◌, List, [], ◌∷◌, map, false, true≢false, inl, inr, subst, sym, ◌∙◌}
use Rattle.std.proofs.lemmas.Bool.{or_parts}
use Rattle.std.specs.List.{list_any}
use Rattle.gl_calculus.specs.Computation.Lists.{Member, AreDistinct}
use Rattle.gl_demand.specs.View.{key_tree}
use Rattle.gl_demand.specs.Equal.{key_equal}
use Rattle.gl_demand.specs.contracts.key.KeyPartialEq.TheImpl.{ghosts as key}
use Rattle.gl_demand.specs.declared.key.Key.{Key}
use Rattle.tests_evaluation.proofs.tests.runs.+are_seeds.Goals as goal

not_among : (k : Key) (ks : List Key) → list_any (λ x. key.eq x k) ks ≡ false → Member (key_tree k) (map key_tree ks) → ⊥
not_among k [] h m = m
not_among k (x ∷ xs) h (inl e) = true≢false (sym ((key_equal x k).1 (sym e)) ∙ (or_parts (key.eq x k) (list_any (λ y. key.eq y k) xs) h).0)
not_among k (x ∷ xs) h (inr m) = not_among k xs (or_parts (key.eq x k) (list_any (λ y. key.eq y k) xs) h).1 m

pub returns-clause-apart : goal.returns-clause-apart
returns-clause-apart t c = λ h.
    subst (λ ks. AreDistinct (map key_tree ks)) (sym c.in-Some.ensures.cases.0)
    (not_among c.in-Some.first.now c.in-Some.rest.now (sym c.if-contains.ensures.value), c.are_seeds.ensures.apart h)
