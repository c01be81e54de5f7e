-- The open nodes from a place on are closed, the last first.
use Rattle.std.proofs.Common.{◌≡◌, ◌⊎◌, inl, inr, ℕ, ◌+◌, ◌-◌, ◌<◌, ◌≤◌, true, false, List, [], ◌∷◌, ◌++◌, length, set, refl, sym, subst, ap, ◌∙◌, arith, length-append, length-set}
use Rattle.std.specs.Prelude.{slice_index}
use Rattle.std.proofs.lemmas.Bool.{cases_eq, cases_lt}
use Rattle.std.proofs.lemmas.List.{get_or-set_same, get_or-set_other, get_or_append_left, get_or_push}
use Rattle.gl_graph.specs.Search.{mark_of, is_new, is_shut, shut_count, AreOpen, AreClosed}
use Rattle.gl_graph.proofs.Working.{more_shut, known_within}
use Rattle.gl_graph.specs.declared.mark.Mark.{Mark}
use Rattle.gl_graph.specs.declared.mark.Mark.TheVariants.{New, Open, Plain, Circle}

same_place : (i k : ℕ) → Open i ≡ Open k → i ≡ k
same_place i k e = cc e

-- the open nodes that are left are the first ones
pub record Closing (marks : List Mark) (places : List ℕ) (x : Mark) (now : List Mark) (rest : List ℕ) : Type 0 where
  pub closed : AreClosed marks (length rest) x (length places - length rest) now
  pub short : length rest ≤ length places
  pub prefix : (i : ℕ) → i < length rest → slice_index rest i ≡ slice_index places i

module _ (marks : List Mark) (places : List ℕ) (opens : AreOpen (mark_of marks) places) (x : Mark) (shut : is_shut x ≡ true) where
  -- of each node: it is open at a place from this one on, or at none
  pub cases_at : (n m : ℕ) → ((i : ℕ) × (mark_of marks m ≡ Open i) × (n ≤ i)) ⊎ ((i : ℕ) → mark_of marks m ≡ Open i → i < n)
  cases_at n m = by (mark_of marks m) refl
    where
      at : (i : ℕ) → mark_of marks m ≡ Open i → (i < n) ⊎ (n ≤ i) → ((i : ℕ) × (mark_of marks m ≡ Open i) × (n ≤ i)) ⊎ ((i : ℕ) → mark_of marks m ≡ Open i → i < n)
      at i e (inl l) = inr (λ k d. let u : i ≡ k = same_place i k (sym e ∙ d) in omega (arith, u, l))
      at i e (inr l) = inl (i, e, l)

      by : (t : Mark) → mark_of marks m ≡ t → ((i : ℕ) × (mark_of marks m ≡ Open i) × (n ≤ i)) ⊎ ((i : ℕ) → mark_of marks m ≡ Open i → i < n)
      by New e = inr (λ i d. let u : New ≡ Open i = sym e ∙ d in absurd (cc u))
      by (Open i) e = at i e (cases_lt i n)
      by (Plain h) e = inr (λ i d. let u : Plain h ≡ Open i = sym e ∙ d in absurd (cc u))
      by Circle e = inr (λ i d. let u : Circle ≡ Open i = sym e ∙ d in absurd (cc u))

  pub close_start : Closing marks places x marks places
  close_start = record {
    closed = record {
      closed = λ m i e l. absurd (omega (arith, (opens.placed m i e).0, l));
      others = λ m h. refl;
      size = refl;
      more = omega arith;
    };
    short = omega arith;
    prefix = λ i l. refl;
  }

  pub close_on : (now : List Mark) (all rest : List ℕ) (node : ℕ) → all ≡ rest ++ node ∷ [] → Closing marks places x now all → (node < length now) × Closing marks places x (set now node x) rest
  close_on now all rest node e c = (
    inside,
    record {
      closed = record {
        closed = λ m i d l. at m i d l (cases_eq m node);
        others = λ m h. below m h;
        size = length-set now node x ∙ c.closed.size;
        more = omega (arith, c.closed.more, counted, one_more, c.short);
      };
      short = omega (arith, c.short, one_more);
      prefix = λ i l. sym (get_or_append_left rest (node ∷ []) 0 i l) ∙ ap (λ t. slice_index t i) (sym e) ∙ c.prefix i (omega (arith, l, one_more));
    },
  )
    where
      one_more : length all ≡ length rest + 1
      one_more = ap length e ∙ length-append rest (node ∷ [])

      is_node : slice_index places (length rest) ≡ node
      is_node = sym (c.prefix (length rest) (omega (arith, one_more))) ∙ ap (λ t. slice_index t (length rest)) e ∙ get_or_push rest node 0 (length rest) refl

      was : mark_of marks node ≡ Open (length rest)
      was = subst (λ t. mark_of marks t ≡ Open (length rest)) is_node (opens.marked (length rest) (omega (arith, one_more, c.short)))

      is : mark_of now node ≡ Open (length rest)
      is = c.closed.others node (λ i d. let u : length rest ≡ i = same_place (length rest) i (sym was ∙ d) in omega (arith, u, one_more)) ∙ was

      inside : node < length now
      inside = known_within now node (λ d. let u : New ≡ Open (length rest) = sym d ∙ is in cc u)

      counted : shut_count (set now node x) ≡ shut_count now + 1
      counted = more_shut now node x inside (ap is_shut is) shut

      at : (m i : ℕ) → mark_of marks m ≡ Open i → length rest ≤ i → (m ≡ node) ⊎ (m ≡ node → ⊥) → mark_of (set now node x) m ≡ x
      at m i d l (inl u) = ap (mark_of (set now node x)) u ∙ get_or-set_same now node x New inside
      at m i d l (inr u) =
          let v : length rest ≡ i → ⊥ = λ w. u (sym (opens.placed m i d).1 ∙ ap (slice_index places) (sym w) ∙ is_node) in
          get_or-set_other now node m x New u ∙ c.closed.closed m i d (omega (arith, l, v, one_more))

      below : (m : ℕ) → ((i : ℕ) → mark_of marks m ≡ Open i → i < length rest) → mark_of (set now node x) m ≡ mark_of marks m
      below m h =
          let u : m ≡ node → ⊥ = λ d. let v = h (length rest) (ap (mark_of marks) d ∙ was) in omega (arith, v) in
          get_or-set_other now node m x New u ∙ c.closed.others m (λ i d. omega (arith, h i d, one_more))

  pub close_opens : (now : List Mark) (rest : List ℕ) → Closing marks places x now rest → AreOpen (mark_of now) rest
  close_opens now rest c = record {
    marked = λ i l.
        let was : mark_of marks (slice_index places i) ≡ Open i = opens.marked i (omega (arith, l, c.short)) in
        let is : mark_of now (slice_index places i) ≡ Open i = c.closed.others (slice_index places i) (λ k d. let u : i ≡ k = same_place i k (sym was ∙ d) in omega (arith, u, l)) ∙ was in
        subst (λ t. mark_of now t ≡ Open i) (sym (c.prefix i l)) is;
    placed = λ m i e. by m i e (cases_at (length rest) m);
  }
    where
      by : (m i : ℕ) → mark_of now m ≡ Open i → ((k : ℕ) × (mark_of marks m ≡ Open k) × (length rest ≤ k)) ⊎ ((k : ℕ) → mark_of marks m ≡ Open k → k < length rest) → (i < length rest) × (slice_index rest i ≡ m)
      by m i e (inl (k, d, l)) = let u : true ≡ false = sym shut ∙ ap is_shut (sym (c.closed.closed m k d l) ∙ e) in absurd (cc u)
      by m i e (inr h) =
          let was : mark_of marks m ≡ Open i = sym (c.closed.others m h) ∙ e in
          let l : i < length rest = h i was in
          (l, c.prefix i l ∙ (opens.placed m i was).1)

  -- the same nodes are new
  pub close_new : (now : List Mark) (start gone : ℕ) → AreClosed marks start x gone now → (m : ℕ) → is_new (mark_of now m) ≡ is_new (mark_of marks m)
  close_new now start gone c m = by (cases_at start m)
    where
      old : is_shut x ≡ true → is_new x ≡ false
      old e = not_new x e
        where
          not_new : (t : Mark) → is_shut t ≡ true → is_new t ≡ false
          not_new New d = absurd (cc d)
          not_new (Open i) d = refl
          not_new (Plain h) d = refl
          not_new Circle d = refl

      by : ((k : ℕ) × (mark_of marks m ≡ Open k) × (start ≤ k)) ⊎ ((k : ℕ) → mark_of marks m ≡ Open k → k < start) → is_new (mark_of now m) ≡ is_new (mark_of marks m)
      by (inl (k, d, l)) = ap is_new (c.closed m k d l) ∙ old shut ∙ sym (ap is_new d)
      by (inr h) = ap is_new (c.others m h)
