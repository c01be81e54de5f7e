-- What a walk that ended has spent.
use Rattle.std.proofs.Common.{◌≡◌, ◌⊎◌, inl, inr, ℕ, suc, ◌+◌, ◌≤◌, List, [], ◌∷◌, ◌++◌, length, reverse, map, Bool, true, Option, None, refl, sym, subst, ap, ◌∙◌, arith}
use Rattle.std.proofs.lemmas.List.{length-append, reverse-append}
use Rattle.gl_calculus.specs.Computation.Lists.{Member, AreDistinct, IsEquality, distinct}
use Rattle.gl_calculus.specs.Computation.Query.{Query, Ready, Need, found, asked, looked, Path, Has, Loops, IsTrueTable, EachAsked}
use Rattle.gl_calculus.specs.Computation.Demanded.{Demanded}
use Rattle.gl_calculus.specs.Computation.Reads.{IsReads}
use Rattle.gl_calculus.specs.Steps.Counted.{Counted, counted_keys, AreReads, sum_reads}
use Rattle.laws_calculus.proofs.Query.Levels.{Has-path}
use Rattle.laws_calculus.proofs.Query.Looping.{true_path}
use Rattle.laws_calculus.proofs.Query.Quiet.{end_at}
use Rattle.gl_calculus.specs.Steps.Walk.{Passes}
use Rattle.gl_calculus.specs.Explanation.Walk.{Claim, noted, first_stray, first_free}
use Rattle.laws_calculus.proofs.Explanation.Claims.{both, all_true, true_notes, free_none, needs_member, all_loop}
use Rattle.laws_calculus.proofs.Explanation.Walks as Wa
use Rattle.laws_calculus.proofs.Explanation.Going as Go
use Rattle.laws_calculus.proofs.Explanation.Steps.{whole, last_step, open_within, whole_within}

module _ {K O A : Type 0} (same : K → K → Bool) (eq : IsEquality same) (program : K → Query K O A O) where
  -- a key with an outcome has reads, and so has one that lacks a key that loops
  outcome_reads : (k : K) (o : O) → Has program k o → (rs : List K) × IsReads same program k rs
  outcome_reads k o h = let (ks, ls, p) = Has-path program (Loops program) k o h in (distinct same ks, (ks, ls, Ready o, p, refl))

  loop_reads : (f : K → Option O) → IsTrueTable program f → (k j : K) → found f (program k) ≡ Need j → Loops program j → (rs : List K) × IsReads same program k rs
  loop_reads f t k j e l =
      let p : Path (Has program) (λ x. f x ≡ None) (program k) (asked f (program k)) (looked f (program k)) (Need j) =
      subst (λ u. Path (Has program) (λ x. f x ≡ None) (program k) (asked f (program k)) (looked f (program k)) u) e (true_path program f t (program k)) in
      (distinct same (asked f (program k)), (asked f (program k), looked f (program k), Need j, end_at (Has program) (λ x. f x ≡ None) (Loops program) p l, refl))

  whole_both : (f : K → Option O) (xs ys : List K) → whole same eq program f (xs ++ ys) ≡ whole same eq program f xs + whole same eq program f ys
  whole_both f [] ys = omega arith
  whole_both f (x ∷ xs) ys = omega (arith, whole_both f xs ys)

module _ {K O A : Type 0} (same : K → K → Bool) (same_outcome : O → O → Bool) (allowed : K → Bool) (limit : ℕ) (program : K → Query K O A O) (eq : IsEquality same) (eq_outcome : IsEquality same_outcome) (asks : (k : K) → EachAsked (λ j. allowed j ≡ true) (program k)) (root : K) (fine : allowed root ≡ true) where
  abbrev Walking : ℕ → ℕ → List (Claim K O) → List K → Type 0
  Walking n m done up = Go.IsWalking same same_outcome allowed limit program eq eq_outcome asks root fine n m done up

  abbrev named : List (Claim K O) → List K
  named ns = map (λ c. c.0) ns

  abbrev cost : (K → Option O) → List K → ℕ
  cost f ks = whole same eq program f ks

  in_named : (ns : List (Claim K O)) (k : K) → Member k (named ns) → (o : O) × Member (k, o) ns
  in_named [] k m = absurd m
  in_named (n ∷ ns) k (inl e) = (n.1, inl (ap (λ t. (t, n.1)) e))
  in_named (n ∷ ns) k (inr m) = let (o, i) = in_named ns k m in (o, inr i)

  -- a key of these notes or loops, whose reads are there
  abbrev OnStack : List (Claim K O) → List K → K → Type 0
  OnStack notes loops k = Member k (named notes ++ loops) × ((rs : List K) × IsReads same program k rs)

  -- some keys of a kind allow the steps from n to m
  abbrev pub AllowsBy : (K → Type 0) → ℕ → ℕ → Type 0
  AllowsBy kind n m =
      (ks : List K) × AreDistinct ks × (length ks ≤ limit) × ((k : K) → Member k ks → kind k) ×
      ((cs : List (Counted K)) → counted_keys cs ≡ ks → AreReads same program cs → m ≤ n + sum_reads cs)

  -- each key of notes and loops that pass the tests has reads
  stacked : (notes : List (Claim K O)) (loops : List K) → first_stray same same_outcome allowed program [] notes ≡ None →
      first_free same same_outcome allowed program notes loops loops ≡ None → (k : K) → Member k (named notes ++ loops) → OnStack notes loops k
  stacked notes loops p q k i = (i, each k i)
    where
      true_table : IsTrueTable program (noted same notes)
      true_table = true_notes same same_outcome allowed program eq eq_outcome notes p

      of_note : (k : K) → Member k (named notes) → (rs : List K) × IsReads same program k rs
      of_note k m = let (o, i) = in_named notes k m in outcome_reads same eq program k o (all_true same same_outcome allowed program eq eq_outcome [] notes (λ j x z. absurd (cc z)) p (k, o) i)

      of_loop : (k : K) → Member k loops → (rs : List K) × IsReads same program k rs
      of_loop k m =
          let w = free_none same same_outcome allowed program eq eq_outcome notes loops loops q k m in
          let (j, d, i) = needs_member same same_outcome allowed program eq eq_outcome loops (found (noted same notes) (program k)) (both (allowed k) _ w).1 in
          loop_reads same eq program (noted same notes) true_table k j d (all_loop same same_outcome allowed program eq eq_outcome notes loops true_table q j i)

      either : (k : K) → Member k (named notes) ⊎ Member k loops → (rs : List K) × IsReads same program k rs
      either k (inl m) = of_note k m
      either k (inr m) = of_loop k m

      each : (k : K) → Member k (named notes ++ loops) → (rs : List K) × IsReads same program k rs
      each k m = either k (Wa.in_either same same_outcome allowed limit program eq eq_outcome asks root fine (named notes) loops k m)

  named_both : (xs ys : List (Claim K O)) → named (xs ++ ys) ≡ named xs ++ named ys
  named_both [] ys = refl
  named_both (x ∷ xs) ys = ap (λ t. x.0 ∷ t) (named_both xs ys)

  named_keys : (ns : List (Claim K O)) → named ns ≡ Go.keys same same_outcome allowed limit program eq eq_outcome asks root fine ns
  named_keys [] = refl
  named_keys (n ∷ ns) = ap (λ t. n.0 ∷ t) (named_keys ns)

  named_back : (ns : List (Claim K O)) → named (reverse ns) ≡ reverse (named ns)
  named_back [] = refl
  named_back (n ∷ ns) =
      ap named (reverse-append (n ∷ []) ns) ∙ named_both (reverse ns) (n ∷ []) ∙ ap (λ t. t ++ n.0 ∷ []) (named_back ns)
      ∙ sym (reverse-append (n.0 ∷ []) (named ns))

  -- the keys of a walk, as they are handed out
  handed : (done ns : List (Claim K O)) (up st : List K) → done ≡ reverse ns → up ≡ reverse st → (k : K) →
      Member k (st ++ Go.keys same same_outcome allowed limit program eq eq_outcome asks root fine ns) → Member k (named done ++ up)
  handed done ns up st p q k m = by (Wa.in_either same same_outcome allowed limit program eq eq_outcome asks root fine st (Go.keys same same_outcome allowed limit program eq eq_outcome asks root fine ns) k m)
    where
      by : Member k st ⊎ Member k (Go.keys same same_outcome allowed limit program eq eq_outcome asks root fine ns) → Member k (named done ++ up)
      by (inl i) =
          Wa.in_back same same_outcome allowed limit program eq eq_outcome asks root fine (named done) up k
          (subst (Member k) (sym q) (Wa.into_aux same same_outcome allowed limit program eq eq_outcome asks root fine st [] k (inl i)))
      by (inr i) =
          Wa.in_front same same_outcome allowed limit program eq eq_outcome asks root fine (named done) up k
          (subst (Member k) (sym (ap named p ∙ named_back ns)) (Wa.into_aux same same_outcome allowed limit program eq eq_outcome asks root fine (named ns) [] k (inl (subst (Member k) (sym (named_keys ns)) i))))

  key_count : (ns : List (Claim K O)) → length (Go.keys same same_outcome allowed limit program eq eq_outcome asks root fine ns) ≡ length ns
  key_count [] = refl
  key_count (n ∷ ns) = ap suc (key_count ns)

  abbrev Found' : List (Claim K O) → List K → Type 0
  Found' done up = Wa.Sound same same_outcome allowed limit program eq eq_outcome asks root fine done up

  -- a walk that ended with an empty stack
  pub emptied_spent : (n m : ℕ) (done : List (Claim K O)) → Walking n m done [] → Found' done [] → AllowsBy (OnStack done []) n m
  emptied_spent n m done w s =
      let d : w.stack ≡ [] = Go.none_turned w.stack w.stacked in
      let ks = Go.keys same same_outcome allowed limit program eq eq_outcome asks root fine w.notes in
      let h = subst (Go.IsWithin same same_outcome allowed limit program eq eq_outcome asks root fine n m w.notes) d w.within in
      let true_table = Wa.good_true same same_outcome allowed limit program eq eq_outcome asks root fine w.notes w.holds.good in (
        ks,
        subst (λ st. AreDistinct (st ++ ks)) d w.holds.distinct,
        omega (arith, w.room, key_count w.notes),
        λ k i. stacked done [] s.stray s.free k (handed done w.notes [] [] w.order refl k i),
        λ cs e a. omega (arith, h, whole_within same eq program (noted same w.notes) true_table ks cs e a),
      )

  -- one with a top, after a turn more: its keys, if each is of a kind
  pub topped_spent : (n m l : ℕ) (done : List (Claim K O)) (us : List K) (k : K) (t : Go.HasTop same same_outcome allowed limit program eq eq_outcome asks root fine done us k n m) → l ≤ m + 1 → (kind : K → Type 0) →
      ((j : K) → Member j ((k ∷ t.rest) ++ Go.keys same same_outcome allowed limit program eq eq_outcome asks root fine t.notes) → kind j) → AllowsBy kind n l
  topped_spent n m l done us k t h kind each =
      let ks = Go.keys same same_outcome allowed limit program eq eq_outcome asks root fine t.notes in
      let true_table = Wa.good_true same same_outcome allowed limit program eq eq_outcome asks root fine t.notes t.holds.good in (
        (k ∷ t.rest) ++ ks,
        t.holds.distinct,
        omega (arith, t.room, length-append (k ∷ t.rest) ks, key_count t.notes),
        each,
        λ cs e a. omega (arith, h, t.within, last_step same eq program (noted same t.notes) ks k t.rest, whole_both same eq program (noted same t.notes) (k ∷ t.rest) ks, whole_within same eq program (noted same t.notes) true_table ((k ∷ t.rest) ++ ks) cs e a),
      )

  -- one that ended in a circle
  pub circled_spent : (n m l : ℕ) (done : List (Claim K O)) (us : List K) (k : K) → Walking n m done (us ++ k ∷ []) → Found' done (us ++ k ∷ []) → l ≤ m + 1 →
      AllowsBy (OnStack done (us ++ k ∷ [])) n l
  circled_spent n m l done us k w s h =
      let t = Go.has_top same same_outcome allowed limit program eq eq_outcome asks root fine n m done us k w in
      let up = Go.whole_stack same same_outcome allowed limit program eq eq_outcome asks root fine us t.rest k t.below in
      topped_spent n m l done us k t h (OnStack done (us ++ k ∷ []))
      (λ j i. stacked done (us ++ k ∷ []) s.stray s.free j (handed done t.notes (us ++ k ∷ []) (k ∷ t.rest) t.order up j i))

  -- one that ended at the limit
  pub exhausted_spent : (n m l : ℕ) (done : List (Claim K O)) (us : List K) (k : K) → Walking n m done (us ++ k ∷ []) → l ≤ m + 1 →
      AllowsBy (Demanded program (root ∷ [])) n l
  exhausted_spent n m l done us k w h =
      let t = Go.has_top same same_outcome allowed limit program eq eq_outcome asks root fine n m done us k w in
      topped_spent n m l done us k t h (Demanded program (root ∷ [])) t.holds.demanded

  -- ---- as far as it came

  -- a key that was on the stack
  abbrev Stacked : List (Claim K O) → List K → K → Type 0
  Stacked notes stack k = Member k (stack ++ named notes)

  -- the steps as the keys allow that were on the stack of the walk after some of its turns
  abbrev pub AllowsSoFar : ℕ → ℕ → Type 0
  AllowsSoFar n m = (notes : List (Claim K O)) × (stack : List K) × Passes same limit program (root ∷ []) notes stack × AllowsBy (Stacked notes stack) n m

  as_stacked : (notes : List (Claim K O)) (st : List K) (k : K) → Member k (st ++ Go.keys same same_outcome allowed limit program eq eq_outcome asks root fine notes) → Stacked notes st k
  as_stacked notes st k m = subst (λ ns. Member k (st ++ ns)) (sym (named_keys notes)) m

  -- without a turn more
  pub so_far_spent : (n m : ℕ) (done : List (Claim K O)) (up : List K) → Walking n m done up → AllowsSoFar n m
  so_far_spent n m done up w =
      let ks = Go.keys same same_outcome allowed limit program eq eq_outcome asks root fine w.notes in
      let true_table = Wa.good_true same same_outcome allowed limit program eq eq_outcome asks root fine w.notes w.holds.good in (
        w.notes,
        w.stack,
        w.passed,
        (
          w.stack ++ ks,
          w.holds.distinct,
          omega (arith, w.room, length-append w.stack ks, key_count w.notes),
          as_stacked w.notes w.stack,
          λ cs e a. omega (arith, w.within, open_within same eq program (noted same w.notes) w.stack, whole_both same eq program (noted same w.notes) w.stack ks, whole_within same eq program (noted same w.notes) true_table (w.stack ++ ks) cs e a),
        ),
      )

  -- and after one that took a step at most
  pub turned_spent : (n m l : ℕ) (done : List (Claim K O)) (us : List K) (k : K) → Walking n m done (us ++ k ∷ []) → l ≤ m + 1 → AllowsSoFar n l
  turned_spent n m l done us k w h =
      let t = Go.has_top same same_outcome allowed limit program eq eq_outcome asks root fine n m done us k w in
      (t.notes, k ∷ t.rest, t.passed, topped_spent n m l done us k t h (Stacked t.notes (k ∷ t.rest)) (as_stacked t.notes (k ∷ t.rest)))
