-- What the walk finds: claims that follow one from another, and keys that wait for each other.
use Rattle.std.proofs.Common.{◌≡◌, ◌⊎◌, inl, inr, ℕ, zero, suc, ◌+◌, ◌==◌, List, [], ◌∷◌, ◌++◌, length, reverse, Bool, true, false, cond, Option, Some, None, refl, sym, subst, ap, ◌∙◌, arith}
use mathlib.Core.List.{reverse_aux}
use Rattle.std.proofs.lemmas.Bool.{eqb-true}
use Rattle.std.proofs.lemmas.List.{length-append}
use mathlib.Core.Path.{fun_ext}
use Rattle.gl_calculus.specs.Computation.Lists.{Member, AreDistinct, IsEquality, has_member, MoreThan}
use Rattle.gl_calculus.specs.Computation.Query.{Query, Found, Ready, Need, found, asked, looked, Path, Has, IsTrueTable, EachAsked}
use Rattle.gl_calculus.specs.Computation.Demanded.{Demanded, Seed, Read}
use Rattle.laws_calculus.proofs.Query.Levels.{path_over}
use Rattle.laws_calculus.proofs.Query.Looping.{true_path, needs_asked, needs_fails}
use Rattle.laws_calculus.proofs.Query.Quiet.{seen_member}
use Rattle.laws_calculus.proofs.Query.Steps.{needs_more}
use Rattle.laws_calculus.proofs.Query.Asked.{asked_has}
use Rattle.gl_calculus.specs.Explanation.Walk.{Claim, noted, follows, is_unnoted, first_stray, waits, first_free, Walked, Explained, Exhausted, turn, walk}
use Rattle.laws_calculus.proofs.Explanation.Claims.{follows_has, more}

module _ {K O A : Type 0} (same : K → K → Bool) (same_outcome : O → O → Bool) (allowed : K → Bool) (limit : ℕ) (program : K → Query K O A O) (eq : IsEquality same) (eq_outcome : IsEquality same_outcome) (asks : (k : K) → EachAsked (λ j. allowed j ≡ true) (program k)) (root : K) (fine : allowed root ≡ true) where
  abbrev pub table : List (Claim K O) → K → Option O
  table ns = noted same ns

  -- claims, the last first, of which each follows from those behind it
  abbrev pub Good : List (Claim K O) → Type 0
  Good [] = Unit {0}
  Good (n ∷ ns) = (follows same same_outcome allowed program ns n ≡ true) × Good ns

  -- each key of the stack but the top first lacks the one above it
  abbrev pub Chained : List (Claim K O) → List K → Type 0
  Chained ns [] = Unit {0}
  Chained ns (k ∷ []) = Unit {0}
  Chained ns (j ∷ k ∷ rest) = (found (table ns) (program k) ≡ Need j) × Chained ns (k ∷ rest)

  abbrev pub keys : List (Claim K O) → List K
  keys [] = []
  keys (n ∷ ns) = n.0 ∷ keys ns

  pub record Holds (ns : List (Claim K O)) (stack : List K) : Type 0 where
    pub good : Good ns
    pub chained : Chained ns stack
    -- all keys differ, are allowed and are demanded
    pub distinct : AreDistinct (stack ++ keys ns)
    pub allowed_all : (k : K) → Member k stack → allowed k ≡ true
    pub demanded : (k : K) → Member k (stack ++ keys ns) → Demanded program (root ∷ []) k

  pub good_true : (ns : List (Claim K O)) → Good ns → IsTrueTable program (table ns)
  good_true [] g = λ k o e. absurd (cc e)
  good_true (n ∷ ns) g = more same same_outcome allowed program eq eq_outcome n ns (follows_has same same_outcome allowed program eq eq_outcome ns n (good_true ns g.1) g.0) (good_true ns g.1)

  -- a key without claim
  pub unnoted : (ns : List (Claim K O)) (k : K) → (Member k (keys ns) → ⊥) → table ns k ≡ None
  unnoted [] k h = refl
  unnoted (n ∷ ns) k h =
      (elim (same k n.0) as (λ b. same k n.0 ≡ b → cond b (Some n.1) (table ns k) ≡ None) [
        | true ↦ λ u. absurd (h (inl (eq.0 k n.0 u)))
        | false ↦ λ u. unnoted ns k (λ m. h (inr m))
      ]) refl

  pub not_noted : (ns : List (Claim K O)) (k : K) → table ns k ≡ None → Member k (keys ns) → ⊥
  not_noted [] k e m = m
  not_noted (n ∷ ns) k e m =
      (elim (same k n.0) as (λ b. same k n.0 ≡ b → cond b (Some n.1) (table ns k) ≡ None → ⊥) [
        | true ↦ λ u z. absurd (cc z)
        | false ↦ λ u z. by u (λ i. not_noted ns k z i) m
      ]) refl e
    where
      by : same k n.0 ≡ false → (Member k (keys ns) → ⊥) → (k ≡ n.0) ⊎ Member k (keys ns) → ⊥
      by u h (inl d) = let f : same k n.0 ≡ true = subst (λ t. same k t ≡ true) d (eq.1 k) in absurd (cc (f, u))
      by u h (inr i) = h i

  -- ---- lists

  pub member_has : (xs : List K) (j : K) → Member j xs → has_member same j xs ≡ true
  member_has [] j m = absurd m
  member_has (x ∷ xs) j m =
      (elim (same j x) as (λ b. same j x ≡ b → cond b true (has_member same j xs) ≡ true) [
        | true ↦ λ u. refl
        | false ↦ λ u. by u (member_has xs j) m
      ]) refl
    where
      by : same j x ≡ false → (Member j xs → has_member same j xs ≡ true) → (j ≡ x) ⊎ Member j xs → has_member same j xs ≡ true
      by u h (inl e) = let f : same j x ≡ true = subst (λ t. same j t ≡ true) e (eq.1 j) in absurd (cc (f, u))
      by u h (inr i) = h i

  pub in_front : {X : Type 0} (xs ys : List X) (x : X) → Member x xs → Member x (xs ++ ys)
  in_front [] ys x m = absurd m
  in_front (z ∷ xs) ys x (inl e) = inl e
  in_front (z ∷ xs) ys x (inr m) = inr (in_front xs ys x m)

  pub in_back : {X : Type 0} (xs ys : List X) (x : X) → Member x ys → Member x (xs ++ ys)
  in_back [] ys x m = m
  in_back (z ∷ xs) ys x m = inr (in_back xs ys x m)

  pub in_either : {X : Type 0} (xs ys : List X) (x : X) → Member x (xs ++ ys) → Member x xs ⊎ Member x ys
  in_either [] ys x m = inr m
  in_either {X} (z ∷ xs) ys x (inl e) = inl (inl e)
  in_either {X} (z ∷ xs) ys x (inr m) = by (in_either xs ys x m)
    where
      by : Member x xs ⊎ Member x ys → Member x (z ∷ xs) ⊎ Member x ys
      by (inl i) = inl (inr i)
      by (inr i) = inr i

  -- one moved to the middle
  moved : (k : K) (xs ys : List K) → AreDistinct (k ∷ (xs ++ ys)) → AreDistinct (xs ++ k ∷ ys)
  moved k [] ys d = d
  moved k (x ∷ xs) ys (n, (m, d)) = (λ i. apart (in_either xs (k ∷ ys) x i), moved k xs ys (λ i. n (inr i), d))
    where
      apart : Member x xs ⊎ Member x (k ∷ ys) → ⊥
      apart (inl i) = m (in_front xs ys x i)
      apart (inr (inl e)) = n (inl (sym e))
      apart (inr (inr i)) = m (in_back xs ys x i)

  pub into_aux : {X : Type 0} (xs ys : List X) (x : X) → Member x xs ⊎ Member x ys → Member x (reverse_aux xs ys)
  into_aux [] ys x (inl m) = absurd m
  into_aux [] ys x (inr m) = m
  into_aux (z ∷ xs) ys x (inl (inl e)) = into_aux xs (z ∷ ys) x (inr (inl e))
  into_aux (z ∷ xs) ys x (inl (inr m)) = into_aux xs (z ∷ ys) x (inl m)
  into_aux (z ∷ xs) ys x (inr m) = into_aux xs (z ∷ ys) x (inr (inr m))

  pub from_aux : {X : Type 0} (xs ys : List X) (x : X) → Member x (reverse_aux xs ys) → Member x xs ⊎ Member x ys
  from_aux [] ys x m = inr m
  from_aux {X} (z ∷ xs) ys x m = by (from_aux xs (z ∷ ys) x m)
    where
      by : Member x xs ⊎ Member x (z ∷ ys) → Member x (z ∷ xs) ⊎ Member x ys
      by (inl i) = inl (inr i)
      by (inr (inl e)) = inl (inl e)
      by (inr (inr i)) = inr i

  -- ---- claims in the order in which they were made

  or_else : {X : Type 0} → Option X → Option X → Option X
  or_else (Some x) y = Some x
  or_else None y = y

  table_aux : (ns tail : List (Claim K O)) (k : K) → Good ns → noted same (reverse_aux ns tail) k ≡ or_else (table ns k) (noted same tail k)
  unfolding or_else
  table_aux [] tail k g = refl
  table_aux (n ∷ ns) tail k g =
      table_aux ns (n ∷ tail) k g.1
      ∙ (elim (same k n.0) as (λ b. same k n.0 ≡ b → or_else (table ns k) (cond b (Some n.1) (noted same tail k)) ≡ or_else (cond b (Some n.1) (table ns k)) (noted same tail k)) [
        | true ↦ λ u. let e : table ns k ≡ None = ap (table ns) (eq.0 k n.0 u) ∙ free ns n g.0 in rw e refl
        | false ↦ λ u. refl
      ]) refl
    where
      is_none : (o : Option O) → is_unnoted o ≡ true → o ≡ None
      is_none None e = refl
      is_none (Some o) e = absurd (cc e)

      both' : (b c : Bool) → cond b c false ≡ true → (b ≡ true) × (c ≡ true)
      both' true c e = (refl, e)
      both' false c e = absurd (cc e)

      free : (ns : List (Claim K O)) (n : Claim K O) → follows same same_outcome allowed program ns n ≡ true → table ns n.0 ≡ None
      free ns n e = is_none (table ns n.0) (both' (is_unnoted (table ns n.0)) _ (both' (allowed n.0) _ e).1).0

  or_none : {X : Type 0} (o : Option X) → or_else o None ≡ o
  unfolding or_else
  or_none None = refl
  or_none (Some x) = refl

  pub same_table : (ns : List (Claim K O)) → Good ns → noted same (reverse ns) ≡ table ns
  same_table ns g = fun_ext (λ k. table_aux ns [] k g ∙ or_none (table ns k))

  stray_aux : (ns tail : List (Claim K O)) → Good ns → first_stray same same_outcome allowed program ns tail ≡ None → first_stray same same_outcome allowed program [] (reverse_aux ns tail) ≡ None
  stray_aux [] tail g e = e
  stray_aux (n ∷ ns) tail g e = stray_aux ns (n ∷ tail) g.1 (rw (g.0, e) refl)

  no_stray : (ns : List (Claim K O)) → Good ns → first_stray same same_outcome allowed program [] (reverse ns) ≡ None
  no_stray ns g = stray_aux ns [] g refl

  free_all : (notes : List (Claim K O)) (loops ks : List K) → ((k : K) → Member k ks → waits same same_outcome allowed program notes loops k ≡ true) → first_free same same_outcome allowed program notes loops ks ≡ None
  free_all notes loops [] h = refl
  free_all notes loops (k ∷ ks) h = rw (h k (inl refl), free_all notes loops ks (λ j m. h j (inr m))) refl

  -- ---- turns

  chained_on : (ns ms : List (Claim K O)) (stack : List K) → ((k : K) (o : O) → table ns k ≡ Some o → table ms k ≡ Some o) → ((k : K) → Member k stack → table ms k ≡ None) → Chained ns stack → Chained ms stack
  chained_on ns ms [] h n c = tt
  chained_on ns ms (k ∷ []) h n c = tt
  chained_on ns ms (j ∷ k ∷ rest) h n c = (
    needs_more (table ns) (table ms) h (subst (λ t. Path (λ k o. table ns k ≡ Some o) (λ k. table ns k ≡ None) (program k) (asked (table ns) (program k)) (looked (table ns) (program k)) t) c.0 (path_over (table ns) (program k))) (n j (inl refl)),
    chained_on ns ms (k ∷ rest) h (λ x m. n x (inr m)) c.1,
  )

  chained_tail : (ns : List (Claim K O)) (k : K) (rest : List K) → Chained ns (k ∷ rest) → Chained ns rest
  chained_tail ns k [] c = tt
  chained_tail ns k (j ∷ rest) c = c.1

  -- the top is noted and taken off
  pub noted_holds : (ns : List (Claim K O)) (k : K) (rest : List K) (o : O) → Holds ns (k ∷ rest) → found (table ns) (program k) ≡ Ready o → Holds ((k, o) ∷ ns) rest
  noted_holds ns k rest o h f = record {
    good = (rw (h.allowed_all k (inl refl), free, f) (eq_outcome.1 o), h.good);
    chained = chained_on ns ((k, o) ∷ ns) rest grows (λ x m. unnoted ((k, o) ∷ ns) x (λ i. apart x m i)) (chained_tail ns k rest h.chained);
    distinct = moved k rest (keys ns) h.distinct;
    allowed_all = λ x m. h.allowed_all x (inr m);
    demanded = λ x m. h.demanded x (back x (in_either rest (k ∷ keys ns) x m));
  }
    where
      free : table ns k ≡ None
      free = unnoted ns k (λ m. h.distinct.0 (in_back rest (keys ns) k m))

      grows : (x : K) (p : O) → table ns x ≡ Some p → table ((k, o) ∷ ns) x ≡ Some p
      grows x p e =
          (elim (same x k) as (λ b. same x k ≡ b → cond b (Some o) (table ns x) ≡ Some p) [
            | true ↦ λ u. let d : table ns x ≡ None = ap (table ns) (eq.0 x k u) ∙ free in absurd (cc (d, e))
            | false ↦ λ u. e
          ]) refl

      whole : AreDistinct (rest ++ k ∷ keys ns)
      whole = moved k rest (keys ns) h.distinct

      -- a key of one part is none of the other
      parts : (xs ys : List K) (x : K) → AreDistinct (xs ++ ys) → Member x xs → Member x ys → ⊥
      parts [] ys x d m i = absurd m
      parts (z ∷ xs) ys x (a, d) (inl e) i = a (in_back xs ys z (subst (λ t. Member t ys) e i))
      parts (z ∷ xs) ys x (a, d) (inr m) i = parts xs ys x d m i

      apart : (x : K) → Member x rest → Member x (k ∷ keys ns) → ⊥
      apart x m i = parts rest (k ∷ keys ns) x whole m i

      back : (x : K) → Member x rest ⊎ Member x (k ∷ keys ns) → Member x ((k ∷ rest) ++ keys ns)
      back x (inl m) = inr (in_front rest (keys ns) x m)
      back x (inr (inl e)) = inl e
      back x (inr (inr m)) = inr (in_back rest (keys ns) x m)

  pub lacks_path : (ns : List (Claim K O)) (k j : K) → found (table ns) (program k) ≡ Need j → Good ns → Path (Has program) (λ x. table ns x ≡ None) (program k) (asked (table ns) (program k)) (looked (table ns) (program k)) (Need j)
  lacks_path ns k j f g = subst (λ t. Path (Has program) (λ x. table ns x ≡ None) (program k) (asked (table ns) (program k)) (looked (table ns) (program k)) t) f (true_path program (table ns) (good_true ns g) (program k))

  -- a key that isn't on is put on
  pub put_holds : (ns : List (Claim K O)) (k j : K) (rest : List K) → Holds ns (k ∷ rest) → found (table ns) (program k) ≡ Need j → has_member same j (k ∷ rest) ≡ false → Holds ns (j ∷ k ∷ rest)
  put_holds ns k j rest h f e = record {
    good = h.good;
    chained = (f, h.chained);
    distinct = (λ m. new (in_either (k ∷ rest) (keys ns) j m), h.distinct);
    allowed_all = λ x m. fine_or x m;
    demanded = λ x m. asked_or x m;
  }
    where
      p : Path (Has program) (λ x. table ns x ≡ None) (program k) (asked (table ns) (program k)) (looked (table ns) (program k)) (Need j)
      p = lacks_path ns k j f h.good

      new : Member j (k ∷ rest) ⊎ Member j (keys ns) → ⊥
      new (inl m) = let t : has_member same j (k ∷ rest) ≡ true = member_has (k ∷ rest) j m in absurd (cc (t, e))
      new (inr m) = not_noted ns j (needs_fails program p) m

      fine_or : (x : K) → (x ≡ j) ⊎ Member x (k ∷ rest) → allowed x ≡ true
      fine_or x (inl d) = subst (λ t. allowed t ≡ true) (sym d) (asked_has program (λ i. allowed i ≡ true) (program k) j (needs_asked program p) (asks k))
      fine_or x (inr m) = h.allowed_all x m

      asked_or : (x : K) → (x ≡ j) ⊎ Member x ((k ∷ rest) ++ keys ns) → Demanded program (root ∷ []) x
      asked_or x (inl d) = subst (Demanded program (root ∷ [])) (sym d) (Read (h.demanded k (inl refl)) (needs_asked program p))
      asked_or x (inr m) = h.demanded x m

  -- ---- the end

  -- what a walk that ended in a circle, or with an empty stack, has found
  pub record Sound (notes : List (Claim K O)) (loops : List K) : Type 0 where
    pub stray : first_stray same same_outcome allowed program [] notes ≡ None
    pub free : first_free same same_outcome allowed program notes loops loops ≡ None
    -- the key that it began with has a claim, or is among the loops and has none
    pub rooted : ((o : O) × (noted same notes root ≡ Some o)) ⊎ (Member root loops × (noted same notes root ≡ None))

  abbrev pub TooMany : Type 0
  TooMany = MoreThan limit (Demanded program (root ∷ []))

  abbrev pub Found' : Walked K O → Type 0
  Found' (Explained notes loops) = Sound notes loops
  Found' Exhausted = TooMany

  abbrev pub Rooted : List (Claim K O) → List K → Type 0
  Rooted ns stack = Member root stack ⊎ ((o : O) × (table ns root ≡ Some o))

  -- each key of the stack first lacks one of it
  pub all_wait : (ns : List (Claim K O)) (stack loops : List K) → ((k : K) → Member k stack → allowed k ≡ true) → Chained ns stack → ((k : K) → Member k stack → Member k loops) → (top : K) (rest : List K) → stack ≡ top ∷ rest → (j : K) → found (table ns) (program top) ≡ Need j → Member j loops → (k : K) → Member k stack → (i : K) × (found (table ns) (program k) ≡ Need i) × Member i loops
  all_wait ns [] loops a c l top rest e j f m k i = absurd i
  all_wait ns (x ∷ stack) loops a c l top rest e j f m k (inl d) =
      let q : x ≡ top = cc e in (j, subst (λ t. found (table ns) (program t) ≡ Need j) (sym q ∙ sym d) f, m)
  all_wait ns (x ∷ []) loops a c l top rest e j f m k (inr i) = absurd i
  all_wait ns (x ∷ y ∷ stack) loops a c l top rest e j f m k (inr i) = all_wait ns (y ∷ stack) loops (λ z n. a z (inr n)) c.1 (λ z n. l z (inr n)) y stack refl x c.0 (l x (inl refl)) k i

  pub circle : (ns : List (Claim K O)) (k j : K) (rest : List K) → Holds ns (k ∷ rest) → Rooted ns (k ∷ rest) → found (table ns) (program k) ≡ Need j → has_member same j (k ∷ rest) ≡ true → Sound (reverse ns) (reverse (k ∷ rest))
  circle ns k j rest h r f e = record {
    stray = no_stray ns h.good;
    free = free_all (reverse ns) loops loops (λ x m. waits_one x (in_stack (from_aux (k ∷ rest) [] x m)));
    rooted = by r;
  }
    where
      loops : List K
      loops = reverse (k ∷ rest)

      in_stack : {x : K} → Member x (k ∷ rest) ⊎ ⊥ → Member x (k ∷ rest)
      in_stack (inl m) = m
      in_stack (inr m) = absurd m

      in_loops : (x : K) → Member x (k ∷ rest) → Member x loops
      in_loops x m = into_aux (k ∷ rest) [] x (inl m)

      waits_one : (x : K) → Member x (k ∷ rest) → waits same same_outcome allowed program (reverse ns) loops x ≡ true
      waits_one x m =
          let (i, q, l) = all_wait ns (k ∷ rest) loops h.allowed_all h.chained in_loops k rest refl j f (in_loops j (seen_member same eq (k ∷ rest) j e)) x m in
          let q' : found (noted same (reverse ns)) (program x) ≡ Need i = subst (λ t. found t (program x) ≡ Need i) (sym (same_table ns h.good)) q in
          rw (h.allowed_all x m, q') (member_has loops i l)

      by : Rooted ns (k ∷ rest) → ((o : O) × (noted same (reverse ns) root ≡ Some o)) ⊎ (Member root loops × (noted same (reverse ns) root ≡ None))
      by (inl m) = inr (in_loops root m, ap (λ t. t root) (same_table ns h.good) ∙ unnoted ns root (λ i. parts (k ∷ rest) h.distinct m i))
        where
          parts : (xs : List K) → AreDistinct (xs ++ keys ns) → Member root xs → Member root (keys ns) → ⊥
          parts [] d m i = absurd m
          parts (z ∷ xs) (a, d) (inl e) i = a (in_back xs (keys ns) z (subst (λ t. Member t (keys ns)) e i))
          parts (z ∷ xs) (a, d) (inr m) i = parts xs d m i
      by (inr (o, m)) = inl (o, ap (λ t. t root) (same_table ns h.good) ∙ m)

  -- the walk keeps this
  walks : (n : ℕ) (ns : List (Claim K O)) (stack : List K) (r : Walked K O) → Holds ns stack → Rooted ns stack → walk same limit program n ns stack ≡ Some r → Found' r
  walks zero ns stack r h t e = absurd (cc e)
  walks (suc n) ns [] r h t e = let q : Explained (reverse ns) [] ≡ r = cc e in subst Found' q (record { stray = no_stray ns h.good; free = refl; rooted = by t })
    where
      by : Rooted ns [] → ((o : O) × (noted same (reverse ns) root ≡ Some o)) ⊎ (Member root [] × (noted same (reverse ns) root ≡ None))
      by (inl m) = absurd m
      by (inr (o, m)) = inl (o, ap (λ t. t root) (same_table ns h.good) ∙ m)
  walks (suc n) ns (k ∷ rest) r h t e = by (found (table ns) (program k)) refl e (λ o f. walks n ((k, o) ∷ ns) rest r (noted_holds ns k rest o h f) (still o f t)) (λ j f b. walks n ns (j ∷ k ∷ rest) r (put_holds ns k j rest h f b) (deeper j t))
    where
      deeper : (j : K) → Rooted ns (k ∷ rest) → Rooted ns (j ∷ k ∷ rest)
      deeper j (inl m) = inl (inr m)
      deeper j (inr m) = inr m

      free : table ns k ≡ None
      free = unnoted ns k (λ m. h.distinct.0 (in_back rest (keys ns) k m))

      still : (o : O) → found (table ns) (program k) ≡ Ready o → Rooted ns (k ∷ rest) → Rooted ((k, o) ∷ ns) rest
      still o f (inl (inl d)) = inr (o, let e : same root k ≡ true = subst (λ t. same root t ≡ true) d (eq.1 root) in rw e refl)
      still o f (inl (inr m)) = inl m
      still o f (inr (p, m)) = inr (p, keep (same root k) refl)
        where
          keep : (b : Bool) → same root k ≡ b → cond b (Some o) (table ns root) ≡ Some p
          keep true u = let d : table ns root ≡ None = ap (table ns) (eq.0 root k u) ∙ free in absurd (cc (d, m))
          keep false u = m

      by : (f : Found K O) → found (table ns) (program k) ≡ f → turn same limit program (walk same limit program n) ns k rest f ≡ Some r →
          ((o : O) → found (table ns) (program k) ≡ Ready o → walk same limit program n ((k, o) ∷ ns) rest ≡ Some r → Found' r) →
          ((j : K) → found (table ns) (program k) ≡ Need j → has_member same j (k ∷ rest) ≡ false → walk same limit program n ns (j ∷ k ∷ rest) ≡ Some r → Found' r) → Found' r
      by (Ready o) f z g g' = g o f z
      by (Need j) f z g g' =
          (elim (has_member same j (k ∷ rest)) as (λ b. has_member same j (k ∷ rest) ≡ b → cond b (Some (Explained (reverse ns) (reverse (k ∷ rest)))) (cond (length ns + length (k ∷ rest) == limit) (Some Exhausted) (walk same limit program n ns (j ∷ k ∷ rest))) ≡ Some r → Found' r) [
            | true ↦ λ u y. let q : Explained (reverse ns) (reverse (k ∷ rest)) ≡ r = cc y in subst Found' q (circle ns k j rest h t f u)
            | false ↦ λ u y. (elim (length ns + length (k ∷ rest) == limit) as (λ b. (length ns + length (k ∷ rest) == limit) ≡ b → cond b (Some Exhausted) (walk same limit program n ns (j ∷ k ∷ rest)) ≡ Some r → Found' r) [
              | true ↦ λ v x. let q : Exhausted ≡ r = cc x in subst Found' q (tired u v)
              | false ↦ λ v x. g' j f u x
            ]) refl y
          ]) refl z
        where
          tired : has_member same j (k ∷ rest) ≡ false → (length ns + length (k ∷ rest) == limit) ≡ true → TooMany
          tired u v =
              let h' = put_holds ns k j rest h f u in
              let c : length ns + length (k ∷ rest) ≡ limit = eqb-true (length ns + length (k ∷ rest)) limit v in
              let l : length (keys ns) ≡ length ns = key_count ns in
              let m : length ((j ∷ k ∷ rest) ++ keys ns) ≡ length (j ∷ k ∷ rest) + length (keys ns) = length-append (j ∷ k ∷ rest) (keys ns) in
              ((j ∷ k ∷ rest) ++ keys ns, omega (arith, c, l, m), h'.distinct, h'.demanded)
            where
              key_count : (ns : List (Claim K O)) → length (keys ns) ≡ length ns
              key_count [] = refl
              key_count (n ∷ ns) = ap suc (key_count ns)

  pub begins : Holds [] (root ∷ [])
  begins = record {
    good = tt;
    chained = tt;
    distinct = (λ m. m, tt);
    allowed_all = λ k m. first_only k m;
    demanded = λ k m. Seed m;
  }
    where
      first_only : (k : K) → (k ≡ root) ⊎ ⊥ → allowed k ≡ true
      first_only k (inl e) = subst (λ t. allowed t ≡ true) (sym e) fine
      first_only k (inr m) = absurd m

  -- what the walk from the root finds
  pub walk_finds : (n : ℕ) (r : Walked K O) → walk same limit program n [] (root ∷ []) ≡ Some r → Found' r
  walk_finds n r e = walks n [] (root ∷ []) r begins (inl (inl refl)) e
