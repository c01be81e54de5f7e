-- What stands at an address after an edit.
use Rattle.std.proofs.Common.{◌≡◌, ◌∙◌, ◌⊎◌, inl, inr, Bool, true, false, cond, not, [], ◌∷◌, Option, Some, None, refl, sym, ap, subst}
use Rattle.std.proofs.lemmas.Grind.{common_steps}
use Rattle.std.proofs.Common.{arith}
use Rattle.gl_calculus.specs.Computation.Lists.{Member}
use Rattle.gl_calculus.specs.Grid.Grid.{Addr, same_addr, is_before, Range, single, covers}
use Rattle.gl_calculus.specs.Formulas.Formula.{Content, Cells, IsSheet, content}
use Rattle.gl_calculus.specs.Edits.Replicas.{Changes}
use Rattle.gl_calculus.proofs.Tests.{addr_exact}
use Rattle.gl_calculus.proofs.Grants.{split}
use Rattle.gl_calculus.specs.Edits.Sheets.{with_content, without, places_in}
use Rattle.gl_calculus.specs.Edits.Sheets.{with_change, with_changes}
use Rattle.laws_calculus.proofs.SheetEdits.SheetOrders.{order_with, order_filter}
use Rattle.laws_calculus.specs.Sheets.{SetsOne, SetsThese, ClearsThese}

abbrev pub found : Addr → Addr → Option Content → Option Content → Option Content
found b a c o = cond (same_addr b a) c o

found_with : (S : Cells) (a b : Addr) (c : Content) → content (with_content S a c) b ≡ found b a (Some c) (content S b)
found_with [] a b c = refl
found_with (x ∷ S) a b c = by (same_addr a x.0) (is_before a x.0) refl (found_with S a b c)
  where
    hidden : a ≡ x.0 → cond (same_addr b a) (Some c) (content S b) ≡ cond (same_addr b a) (Some c) (content (x ∷ S) b)
    hidden e = again (same_addr b a) refl
      where
        again : (t : Bool) → same_addr b a ≡ t → cond t (Some c) (content S b) ≡ cond t (Some c) (content (x ∷ S) b)
        again true h = refl
        again false h = sym (ap (λ (t : Bool). cond t (Some x.1) (content S b)) (ap (same_addr b) (sym e) ∙ h))

    apart : same_addr a x.0 ≡ false → (same_addr b x.0 ≡ true → same_addr b a ≡ false)
    apart e h = let same : b ≡ x.0 = addr_exact b x.0 h in subst (λ (z : Addr). same_addr z a ≡ false) (sym same) (grind (arith, common_steps, e))

    by : (p q : Bool) → same_addr a x.0 ≡ p → content (with_content S a c) b ≡ found b a (Some c) (content S b)
        → content (cond p ((a, c) ∷ S) (cond q ((a, c) ∷ x ∷ S) (x ∷ with_content S a c))) b ≡ found b a (Some c) (content (x ∷ S) b)
    by true q e ih = hidden (addr_exact a x.0 e)
    by false true e ih = refl
    by false false e ih = again (same_addr b x.0) refl
      where
        again : (t : Bool) → same_addr b x.0 ≡ t → cond t (Some x.1) (content (with_content S a c) b) ≡ found b a (Some c) (cond t (Some x.1) (content S b))
        again true h = sym (ap (λ (t : Bool). cond t (Some c) (Some x.1)) (apart e h))
        again false h = ih

pub either_way : (t : Bool) (o : Option Content) → o ≡ cond t o o
either_way true o = refl
either_way false o = refl

pub found_without : (S : Cells) (r : Range) (b : Addr) → content (without S r) b ≡ cond (covers r b) None (content S b)
found_without [] r b = either_way (covers r b) None
found_without (x ∷ S) r b = by (covers r x.0) (same_addr b x.0) refl refl (found_without S r b)
  where
    by : (p s : Bool) → covers r x.0 ≡ p → same_addr b x.0 ≡ s → content (without S r) b ≡ cond (covers r b) None (content S b)
        → content (cond (not p) (x ∷ without S r) (without S r)) b ≡ cond (covers r b) None (cond s (Some x.1) (content S b))
    by true true e f ih =
        let c : covers r b ≡ true = ap (covers r) (addr_exact b x.0 f) ∙ e in
        ih ∙ ap (λ (t : Bool). cond t None (content S b)) c ∙ sym (ap (λ (t : Bool). cond t None (Some x.1)) c)
    by true false e f ih = ih
    by false true e f ih =
        let c : covers r b ≡ false = ap (covers r) (addr_exact b x.0 f) ∙ e in
        ap (λ (t : Bool). cond t (Some x.1) (content (without S r) b)) f ∙ sym (ap (λ (t : Bool). cond t None (Some x.1)) c)
    by false false e f ih = ap (λ (t : Bool). cond t (Some x.1) (content (without S r) b)) f ∙ ih

other : (S : Cells) (a b : Addr) (c : Content) → (b ≡ a → ⊥) → content (with_content S a c) b ≡ content S b
other S a b c n = found_with S a b c ∙ by (split (same_addr b a))
  where
    by : (same_addr b a ≡ true) ⊎ (same_addr b a ≡ false) → found b a (Some c) (content S b) ≡ content S b
    by (inl e) = absurd (n (addr_exact b a e))
    by (inr e) = ap (λ t. cond t (Some c) (content S b)) e

pub sets_one : SetsOne
sets_one S a c b = found_with S a b c

pub sets_these : SetsThese
sets_these S [] b n = refl
sets_these S (x ∷ xs) b n = sets_these (with_content S x.0 x.1) xs b (λ m. n (inr m)) ∙ other S x.0 b x.1 (λ e. n (inl e))

pub clears_these : ClearsThese
clears_these S r b n = found_without S r b ∙ by (split (covers r b)) (none_there S n)
  where
    none_there : (T : Cells) → (Member b (places_in T r) → ⊥) → covers r b ≡ true → content T b ≡ None
    none_there [] n c = refl
    none_there (x ∷ T) n c = at (same_addr b x.0) (covers r x.0) refl refl n (λ k. none_there T k c)
      where
        at : (s i : Bool) → same_addr b x.0 ≡ s → covers r x.0 ≡ i → (Member b (cond i (x.0 ∷ places_in T r) (places_in T r)) → ⊥)
            → ((Member b (places_in T r) → ⊥) → content T b ≡ None) → cond s (Some x.1) (content T b) ≡ None
        at true true e d k h = absurd (k (inl (addr_exact b x.0 e)))
        at true false e d k h = absurd (cc (sym d ∙ ap (covers r) (sym (addr_exact b x.0 e)) ∙ c))
        at false true e d k h = h (λ m. k (inr m))
        at false false e d k h = h k

    by : (covers r b ≡ true) ⊎ (covers r b ≡ false) → (covers r b ≡ true → content S b ≡ None) → cond (covers r b) None (content S b) ≡ content S b
    by (inl e) h = ap (λ t. cond t None (content S b)) e ∙ sym (h e)
    by (inr e) h = ap (λ t. cond t None (content S b)) e

-- ---- changes

covers_single : (a b : Addr) → covers (single a) b ≡ same_addr b a
covers_single a b = grind (arith, common_steps)

pub found_change : (S : Cells) (a b : Addr) (c : Option Content) → content (with_change S a c) b ≡ found b a c (content S b)
found_change S a b (Some c) = found_with S a b c
found_change S a b None = found_without S (single a) b ∙ ap (λ (t : Bool). cond t None (content S b)) (covers_single a b)

pub order_change : (S : Cells) (a : Addr) (c : Option Content) → IsSheet S → IsSheet (with_change S a c)
order_change S a (Some c) o = order_with S a c o
order_change S a None o = order_filter (λ x. not (covers (single a) x.0)) S o

pub order_changes : (cs : Changes) (S : Cells) → IsSheet S → IsSheet (with_changes S cs)
order_changes [] S o = o
order_changes (c ∷ cs) S o = order_changes cs (with_change S c.0 c.1) (order_change S c.0 c.1 o)
