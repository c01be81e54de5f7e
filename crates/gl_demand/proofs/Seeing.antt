-- Roots that are looked at once, and what a reference reads.
use Rattle.std.proofs.Common.{◌≡◌, Bool, true, false, cond, ◌||◌, List, [], ◌∷◌, ◌++◌, Option, Some, None, Ok, refl, ap, sym, subst, ◌∙◌}
use Rattle.std.specs.List.{list_any}
use Rattle.std.proofs.lemmas.List.Folds.{list_any-append}
use Rattle.gl_calculus.specs.Computation.Query.{Ready}
use Rattle.gl_calculus.specs.Grid.Grid.{Addr, same_addr, single}
use Rattle.gl_calculus.specs.Evaluation.Facts.{Fact, fact, find_fact}
use Rattle.gl_machine.specs.Seen.{seen_or_looked}
use Rattle.gl_calculus.proofs.Tests.{addr_exact, addr_same}
use Rattle.laws_calculus.proofs.Calculus.Proper.{fact_at_single}
use Rattle.gl_demand.specs.Walk.{Inputs, Trail, walk, looking}
use Rattle.gl_demand.specs.Seen.{AreSeen}

same_back : (a b : Addr) (c : Bool) → same_addr a b ≡ c → same_addr b a ≡ c
same_back a b true h = subst (λ x. same_addr x a ≡ true) (addr_exact a b h) (addr_same a)
same_back a b false h = by (same_addr b a) refl
  where
    by : (d : Bool) → same_addr b a ≡ d → d ≡ false
    by true e = sym (subst (λ x. same_addr a x ≡ true) (sym (addr_exact b a e)) (addr_same a)) ∙ h
    by false e = refl

module _ (w : Inputs) where
  pub none_seen : AreSeen w [] []
  none_seen a = refl

  seen_step : (c m : Bool) (root b : Addr) (o : Option Fact) → same_addr root b ≡ c → (c ≡ true → m ≡ true) → (c ≡ false → o ≡ cond m (Some (fact w.cells w.oracle b)) None) → cond c (Some (fact w.cells w.oracle root)) o ≡ cond m (Some (fact w.cells w.oracle b)) None
  seen_step true m root b o e h k = ap (λ x. Some (fact w.cells w.oracle x)) (addr_exact root b e) ∙ sym (ap (λ n. cond n (Some (fact w.cells w.oracle b)) None) (h refl))
  seen_step false m root b o e h k = k refl

  pub seen_again : (roots : List Addr) (seen : List Fact) (root : Addr) → list_any (same_addr root) roots ≡ true → AreSeen w roots seen → AreSeen w roots (fact w.cells w.oracle root ∷ seen)
  seen_again roots seen root has h b =
      seen_step (same_addr root b) (list_any (same_addr b) roots) root b (find_fact seen b) refl
      (λ e. subst (λ x. list_any (same_addr x) roots ≡ true) (addr_exact root b e) has) (λ e. h b)

  last_test : (o c : Bool) → c ≡ false → (o || (c || false)) ≡ o
  last_test true false h = refl
  last_test false false h = refl
  last_test true true h = refl
  last_test false true h = absurd (cc h)

  last_true : (o c : Bool) → c ≡ true → (o || (c || false)) ≡ true
  last_true true c h = refl
  last_true false true h = refl
  last_true false false h = absurd (cc h)

  pub seen_more : (roots : List Addr) (seen : List Fact) (root : Addr) → AreSeen w roots seen → AreSeen w (roots ++ root ∷ []) (fact w.cells w.oracle root ∷ seen)
  seen_more roots seen root h b =
      seen_step (same_addr root b) (list_any (same_addr b) (roots ++ root ∷ [])) root b (find_fact seen b) refl
      (λ e. list_any-append (same_addr b) roots (root ∷ []) ∙ last_true (list_any (same_addr b) roots) (same_addr b root) (same_back root b true e))
      (λ e. h b ∙ ap (λ m. cond m (Some (fact w.cells w.oracle b)) None) (sym (list_any-append (same_addr b) roots (root ∷ []) ∙ last_test (list_any (same_addr b) roots) (same_addr b root) (same_back root b false e))))

  -- the first look, and a later one
  pub walk_again : (roots : List Addr) (seen : List Fact) (root : Addr) (t : Trail) → list_any (same_addr root) roots ≡ true → AreSeen w roots seen → walk w (seen_or_looked root (find_fact seen root)) t ≡ (Ready (Ok (fact w.cells w.oracle root)), t)
  walk_again roots seen root t has h = ap (λ o. walk w (seen_or_looked root o) t) (h root ∙ ap (λ m. cond m (Some (fact w.cells w.oracle root)) None) has)

  pub walk_first : (roots : List Addr) (seen : List Fact) (root : Addr) (t : Trail) → list_any (same_addr root) roots ≡ false → AreSeen w roots seen → walk w (seen_or_looked root (find_fact seen root)) t ≡ (Ready (Ok (fact w.cells w.oracle root)), looking (single root) t)
  walk_first roots seen root t has h =
      ap (λ o. walk w (seen_or_looked root o) t) (h root ∙ ap (λ m. cond m (Some (fact w.cells w.oracle root)) None) has)
      ∙ ap (λ x. (Ready (Ok x), looking (single root) t)) (fact_at_single w.cells w.oracle root)
