-- Permits by what blocks, and the contents of a region by its facts.
use Rattle.std.proofs.Common.{◌≡◌, ◌⊎◌, inl, inr, ◌+◌, Bool, true, false, ◌&&◌, ◌||◌, not, is_some, List, [], ◌∷◌, map, filter, cond, count_by, Option, Some, None, if◌then◌else◌, refl, ap, sym, subst, ◌∙◌, arith}
use Rattle.std.specs.List.{list_all, list_any}
use Rattle.std.proofs.lemmas.List.Sums.{sum_by-cons}
use Rattle.gl_calculus.specs.Computation.Lists.{Member}
use Rattle.gl_calculus.specs.Grid.Grid.{Addr, same_addr, Range, area, addresses, covers, lies_in, meets}
use Rattle.gl_calculus.specs.Values.Value.{Permitted, Refused, Oracle, SheetValue, In, region}
use Rattle.gl_calculus.specs.Formulas.Formula.{Content, Cells, content}
use Rattle.gl_calculus.specs.Evaluation.Oracle.{Sizes, is_free, grant_beside, grant}
use Rattle.gl_calculus.specs.Evaluation.Facts.{Fact, fact, facts, find_fact, fact_at}
use Rattle.gl_calculus.specs.Evaluation.Reference.{Held, own_content}
use Rattle.gl_calculus.specs.Evaluation.Evaluation.{held_by, next_in, takes_a_round, copy_budget}
use Rattle.gl_calculus.proofs.Tests.{addr_exact, addr_same}
use Rattle.gl_demand.specs.Blocks.{has_content_in}
use Rattle.gl_demand.specs.Places.{filled_places}
use Rattle.gl_demand.proofs.Firsts.{covered_member}
use Rattle.std.specs.Prelude.{unwrap_or}

-- ---- permits depend on which addresses have content

list_all_alike : (p q : Addr → Bool) → ((a : Addr) → p a ≡ q a) → (xs : List Addr) → list_all p xs ≡ list_all q xs
list_all_alike p q h [] = refl
list_all_alike p q h (x ∷ xs) = ap (λ b. b && list_all p xs) (h x) ∙ ap (λ b. q x && b) (list_all_alike p q h xs)

module _ (bound : Range) (f g : Addr → Bool) (same : (a : Addr) → f a ≡ g a) where
  free_alike : (taken : List Range) (root : Addr) (r : Range) → is_free bound f taken root r ≡ is_free bound g taken root r
  free_alike taken root r =
      ap (λ b. lies_in r bound && b && not (list_any (meets r) taken))
      (list_all_alike (λ b. same_addr b root || not (f b)) (λ b. same_addr b root || not (g b)) (λ b. ap (λ c. same_addr b root || not c) (same b)) (addresses r))

  beside_alike : (taken : List Range) (zs : Sizes) → grant_beside bound f taken zs ≡ grant_beside bound g taken zs
  beside_alike taken [] = refl
  beside_alike taken (z ∷ zs) =
      let r = area z.0 z.1 in
      ap (λ c. record { root = z.0; size = z.1; permit = if c then Permitted else Refused } ∷ grant_beside bound f (if c then r ∷ taken else taken) zs) (free_alike taken z.0 r)
      ∙ ap (λ l. record { root = z.0; size = z.1; permit = if is_free bound g taken z.0 r then Permitted else Refused } ∷ l) (beside_alike (if is_free bound g taken z.0 r then r ∷ taken else taken) zs)

  pub grant_alike : (zs : Sizes) → grant bound f zs ≡ grant bound g zs
  grant_alike zs = beside_alike [] zs

-- the address takes a round in frames of the sheet value
abbrev pub takes : Cells → SheetValue → Addr → Bool
takes S s a = takes_a_round (own_content (content S a) (In s []) a)

-- ---- what the facts of a region say

module _ (S : Cells) (w : Oracle) where
  found_by : (t : Bool) (a b : Addr) (bs : List Addr) → same_addr b a ≡ t → (find_fact (map (fact S w) bs) a ≡ Some (fact S w a)) ⊎ ((find_fact (map (fact S w) bs) a ≡ None) × (Member a bs → ⊥))
      → ((if t then Some (fact S w b) else find_fact (map (fact S w) bs) a) ≡ Some (fact S w a)) ⊎ (((if t then Some (fact S w b) else find_fact (map (fact S w) bs) a) ≡ None) × (Member a (b ∷ bs) → ⊥))
  found_by true a b bs e h = inl (ap (λ x. Some (fact S w x)) (addr_exact b a e))
  found_by false a b bs e (inl h) = inl h
  found_by false a b bs e (inr (h, n)) =
      inr (
        h,
        elim [
          | inl q ↦ (let t : true ≡ false = sym (subst (λ x. same_addr x a ≡ true) q (addr_same a)) ∙ e in absurd (cc t))
          | inr m ↦ n m
        ],
      )

  fact_found : (bs : List Addr) (a : Addr) → (find_fact (map (fact S w) bs) a ≡ Some (fact S w a)) ⊎ ((find_fact (map (fact S w) bs) a ≡ None) × (Member a bs → ⊥))
  fact_found [] a = inr (refl, λ m. absurd m)
  fact_found (b ∷ bs) a = found_by (same_addr b a) a b bs refl (fact_found bs a)

  module _ (s : SheetValue) where
    outside : (t : Bool) (a : Addr) (x : Fact) → covers (region s) a ≡ t → (t ≡ true → ⊥) → x.address ≡ a → is_some (held_by s x) ≡ has_content_in S s a
    outside true a x e n p = absurd (n refl)
    outside false a x e n p =
        ap (λ b. is_some (own_content x.content (In s []) b)) p
        ∙ none x.content
        ∙ sym (none (content S a))
      where
        none : (c : Option Content) → is_some (own_content c (In s []) a) ≡ false
        none c = rw e refl

    held_at_fact : (a : Addr) (o : Option Fact) → (o ≡ Some (fact S w a)) ⊎ ((o ≡ None) × (Member a (addresses (region s)) → ⊥)) → find_fact (facts S w (region s)) a ≡ o → is_some (held_by s (fact_at (facts S w (region s)) a)) ≡ has_content_in S s a
    held_at_fact a o (inl h) e = ap (λ (p : Option Fact). is_some (held_by s (unwrap_or p (record { address = a; content = None; status = None; cover = None })))) (e ∙ h)
    held_at_fact a o (inr (h, n)) e = ap (λ (p : Option Fact). is_some (held_by s (unwrap_or p (record { address = a; content = None; status = None; cover = None })))) (e ∙ h) ∙ (outside (covers (region s) a) a (record { address = a; content = None; status = None; cover = None }) refl (λ t. n (covered_member (region s) a t)) refl)

    pub content_by_facts : (a : Addr) → is_some (held_by s (fact_at (facts S w (region s)) a)) ≡ has_content_in S s a
    content_by_facts a = held_at_fact a (find_fact (facts S w (region s)) a) (fact_found (addresses (region s)) a) refl

    -- the next oracle, as it is granted
    pub next_granted : (zs : Sizes) → next_in s (facts S w (region s)) zs ≡ grant (region s) (has_content_in S s) zs
    next_granted zs = grant_alike (region s) (λ a. is_some (held_by s (fact_at (facts S w (region s)) a))) (has_content_in S s) content_by_facts zs

    -- ---- the budget by the addresses with content

    takes_by : (h : Option Held) (a : Addr) (bs : List Addr) → takes_a_round h ≡ takes S s a → is_some h ≡ has_content_in S s a → count_by (takes S s) (cond (has_content_in S s a) (a ∷ bs) bs) ≡ cond (takes S s a) 1 0 + count_by (takes S s) bs
    takes_by None a bs e k =
        let z : count_by (takes S s) bs ≡ 0 + count_by (takes S s) bs = omega arith in
        ap (λ b. count_by (takes S s) (cond b (a ∷ bs) bs)) (sym k) ∙ z ∙ ap (λ b. cond b 1 0 + count_by (takes S s) bs) e
    takes_by (Some x) a bs e k = ap (λ b. count_by (takes S s) (cond b (a ∷ bs) bs)) (sym k) ∙ sum_by-cons (λ b. cond (takes S s b) 1 0) a bs

    count_filled : (bs : List Addr) → count_by (takes S s) (filter (has_content_in S s) bs) ≡ count_by (takes S s) bs
    count_filled [] = refl
    count_filled (a ∷ bs) =
        takes_by (own_content (content S a) (In s []) a) a (filter (has_content_in S s) bs) refl refl
        ∙ ap (λ n. cond (takes S s a) 1 0 + n) (count_filled bs)
        ∙ sym (sum_by-cons (λ b. cond (takes S s b) 1 0) a bs)

    count_facts : (bs : List Addr) → count_by (takes S s) bs ≡ count_by (λ x. takes_a_round (held_by s x)) (map (fact S w) bs)
    count_facts [] = refl
    count_facts (a ∷ bs) =
        sum_by-cons (λ b. cond (takes S s b) 1 0) a bs
        ∙ ap (λ n. cond (takes S s a) 1 0 + n) (count_facts bs)
        ∙ sym (sum_by-cons (λ x. cond (takes_a_round (held_by s x)) 1 0) (fact S w a) (map (fact S w) bs))

    pub budget_is : count_by (takes S s) (filled_places S s) + 8 ≡ copy_budget s (facts S w (region s))
    budget_is = ap (λ n. n + 8) (count_filled (addresses (region s)) ∙ count_facts (addresses (region s)))
