-- A node without steps left: it is left open, or its segment is known.
use Rattle.std.proofs.Common.{◌≡◌, ◌⊎◌, inl, inr, ℕ, ◌+◌, ◌<◌, ◌≤◌, Bool, true, false, List, [], ◌∷◌, ◌++◌, refl, sym, subst, ap, ◌∙◌, arith}
use Rattle.gl_calculus.specs.Computation.Lists.{Member}
use Rattle.gl_graph.specs.Graph.{Leads, once, further, Path, ends, goes, Reaches, IsPlain}
use Rattle.gl_graph.specs.Search.{is_shut, Rises, places_of, NoneBetween, steps, AreTrue, Seen, shut, higher, ahead, Passed, coming, low, circled, looped, IsFrame, Holds}
use Rattle.gl_graph.proofs.Rising.{member_push, member_before, member_last, map_push, rises_before, rises_last}
use Rattle.gl_graph.proofs.Entering.{cases_le, reach_leads, leads_reach, last_frame, frame_below, to_last}
use Rattle.gl_graph.specs.declared.graph.Place.{Place}
use Rattle.gl_graph.specs.declared.mark.Mark.{Mark}
use Rattle.gl_graph.specs.declared.mark.Mark.TheVariants.{New, Open, Plain, Circle}
use Rattle.gl_graph.specs.declared.state.Frame.{Frame}

module _ (left : ℕ → Place → List ℕ) (weight : ℕ → ℕ) (mark : ℕ → Mark) (count : ℕ) (starts : List ℕ) (fs : List Frame) (f : Frame) (holds : Holds left weight mark count starts (fs ++ f ∷ []))
    (done : left f.node f.place ≡ []) where
  none_left : (y : ℕ) → Member y (left f.node f.place) → ⊥
  none_left y i = subst (λ t. Member y t) done i

  -- no step of this frame is ahead
  not_ahead : (g : Frame) (y x : ℕ) → g ≡ f → g.node ≡ x → Member y (left x g.place) → ⊥
  not_ahead g y x e d i = let w : f.node ≡ x = sym (ap (λ t. t.node) e) ∙ d in none_left y (subst (λ t. Member y (left f.node t)) (ap (λ t. t.place) e) (subst (λ t. Member y (left t g.place)) (sym w) i))

  -- it isn't the first of its segment
  pub left_open : ((b : ℕ) → Member b starts → b ≡ f.at → ⊥) → Holds left weight mark count starts fs
  left_open apart = record {
    facts = holds.facts;
    few = holds.few;
    first = holds.first;
    starts_rise = holds.starts_rise;
    frames_rise = rises_before (places_of fs) f.at (subst Rises (map_push (λ h. h.at) fs f) holds.frames_rise);
    on_frame = λ b i. let (g, j, e) = holds.on_frame b i in on b i g e (member_push g f fs j);
    framed = λ g i. holds.framed g (member_before g f fs i);
    reach = holds.reach;
    seen = λ x y i e j. by x y i (holds.seen x y i e j);
  }
    where
      on : (b : ℕ) → Member b starts → (g : Frame) → g.at ≡ b → Member g fs ⊎ (g ≡ f) → (h : Frame) × Member h fs × (h.at ≡ b)
      on b i g e (inl j) = (g, j, e)
      on b i g e (inr d) = absurd (apart b i (sym e ∙ ap (λ t. t.at) d))

      by : (x y i : ℕ) → Seen left weight mark starts (fs ++ f ∷ []) x i y → Seen left weight mark starts fs x i y
      by x y i (shut e) = shut e
      by x y i (higher e h) = higher e h
      by x y i (ahead g j e d) = at_frame (member_push g f fs j)
        where
          at_frame : Member g fs ⊎ (g ≡ f) → Seen left weight mark starts fs x i y
          at_frame (inl k) = ahead g k e d
          at_frame (inr u) = absurd (not_ahead g y x u e d)

  -- the first of its segment: all nodes from it on are known
  module _ (mark' : ℕ → Mark) (ss : List ℕ) (split : starts ≡ ss ++ f.at ∷ []) (M : Mark)
      (circle : f.looped ≡ true → M ≡ Circle) (plain : f.looped ≡ false → M ≡ Plain (weight f.node + f.high))
      (changed : (x i : ℕ) → mark x ≡ Open i → f.at ≤ i → mark' x ≡ M) (others : (x : ℕ) → ((i : ℕ) → mark x ≡ Open i → i < f.at) → mark' x ≡ mark x) where
    own_frame : IsFrame left weight mark f
    own_frame = last_frame left weight mark count starts fs f holds

    is_start : Member f.at starts
    is_start = subst (λ t. Member f.at t) (sym split) (member_last f.at ss)

    -- of each node: it is of the segment, or stays as it was
    cases : (x : ℕ) → ((i : ℕ) × (mark x ≡ Open i) × (f.at ≤ i)) ⊎ ((mark' x ≡ mark x) × ((i : ℕ) → mark x ≡ Open i → i < f.at))
    cases x = by (mark x) refl
      where
        keeps : ((i : ℕ) → mark x ≡ Open i → i < f.at) → ((i : ℕ) × (mark x ≡ Open i) × (f.at ≤ i)) ⊎ ((mark' x ≡ mark x) × ((i : ℕ) → mark x ≡ Open i → i < f.at))
        keeps h = inr (others x h, h)

        at_open : (i : ℕ) → mark x ≡ Open i → (f.at ≤ i) ⊎ (i < f.at) → ((i : ℕ) × (mark x ≡ Open i) × (f.at ≤ i)) ⊎ ((mark' x ≡ mark x) × ((i : ℕ) → mark x ≡ Open i → i < f.at))
        at_open i e (inl l) = inl (i, e, l)
        at_open i e (inr l) = keeps (λ k d. let u : Open i ≡ Open k = sym e ∙ d in let v : i ≡ k = cc u in omega (arith, v, l))

        by : (m : Mark) → mark x ≡ m → ((i : ℕ) × (mark x ≡ Open i) × (f.at ≤ i)) ⊎ ((mark' x ≡ mark x) × ((i : ℕ) → mark x ≡ Open i → i < f.at))
        by New e = keeps (λ i d. let u : New ≡ Open i = sym e ∙ d in absurd (cc u))
        by (Open i) e = at_open i e (cases_le f.at i)
        by (Plain h) e = keeps (λ i d. let u : Plain h ≡ Open i = sym e ∙ d in absurd (cc u))
        by Circle e = keeps (λ i d. let u : Circle ≡ Open i = sym e ∙ d in absurd (cc u))

    shut_mark : is_shut M ≡ true
    shut_mark = by f.looped refl
      where
        by : (b : Bool) → f.looped ≡ b → is_shut M ≡ true
        by true e = ap is_shut (circle e)
        by false e = ap is_shut (plain e)

    shut_stays : (x : ℕ) → is_shut (mark x) ≡ true → mark' x ≡ mark x
    shut_stays x e = others x (λ i d. let u : true ≡ false = sym e ∙ ap is_shut d in absurd (cc u))

    shut_on : (x : ℕ) → is_shut (mark x) ≡ true → is_shut (mark' x) ≡ true
    shut_on x e = ap is_shut (shut_stays x e) ∙ e

    -- the segment's nodes lead to the first one, and it to them
    back : (x i : ℕ) → mark x ≡ Open i → Reaches (steps left weight) x f.node
    back x i e = to_last left weight mark count starts fs f holds x i e

    forth : (x i : ℕ) → mark x ≡ Open i → f.at ≤ i → Reaches (steps left weight) f.node x
    forth x i e l = holds.reach f.node x f.at i own_frame.opened e (λ b j u. omega (arith, u, l))

    -- what a node of the segment leads to by a step is shut then
    ends_shut : (x y i : ℕ) → mark x ≡ Open i → f.at ≤ i → Member y (steps left weight x) → is_shut (mark' y) ≡ true
    ends_shut x y i e l j = by (holds.seen x y i e j)
      where
        by : Seen left weight mark starts (fs ++ f ∷ []) x i y → is_shut (mark' y) ≡ true
        by (shut d) = shut_on y d
        by (higher {k = k} d h) = ap is_shut (changed y k d (h f.at is_start l)) ∙ shut_mark
        by (ahead g k d u) = at_frame (member_push g f fs k)
          where
            at_frame : Member g fs ⊎ (g ≡ f) → is_shut (mark' y) ≡ true
            at_frame (inl v) =
                let w : Open g.at ≡ Open i = sym (holds.framed g k).opened ∙ ap mark d ∙ e in
                let z : g.at ≡ i = cc w in
                absurd (omega (arith, z, l, frame_below left weight mark count starts fs f holds g v))
            at_frame (inr v) = absurd (not_ahead g y x v d u)

    -- a shut node leads to shut ones
    shut_leads : (x y : ℕ) → is_shut (mark x) ≡ true → Leads (steps left weight) x y → is_shut (mark y) ≡ true
    shut_leads x y e (once i) = holds.facts.closed x y e i
    shut_leads x y e (further {m = m} i r) = shut_leads m y (holds.facts.closed x m e i) r

    open_not_shut : is_shut (mark f.node) ≡ true → ⊥
    open_not_shut e = let u : false ≡ true = sym (ap is_shut own_frame.opened) ∙ e in cc u

    -- where no step led to an open node, all of them led to shut ones
    step_shut : f.looped ≡ false → (y : ℕ) → Member y (steps left weight f.node) → ((h : ℕ) × (mark y ≡ Plain h) × (h ≤ f.high)) ⊎ (mark y ≡ Circle)
    step_shut e y i = by (own_frame.passed y i)
      where
        by : Passed left weight mark f y → ((h : ℕ) × (mark y ≡ Plain h) × (h ≤ f.high)) ⊎ (mark y ≡ Circle)
        by (coming j) = absurd (none_left y j)
        by (low {h = h} d l) = inl (h, d, l)
        by (circled d) = inr d
        by (looped d) = let u : true ≡ false = sym d ∙ e in absurd (cc u)

    is_shut_of : (y : ℕ) → ((h : ℕ) × (mark y ≡ Plain h) × (h ≤ f.high)) ⊎ (mark y ≡ Circle) → is_shut (mark y) ≡ true
    is_shut_of y (inl d) = ap is_shut d.1
    is_shut_of y (inr d) = ap is_shut d

    apart : f.looped ≡ false → Leads (steps left weight) f.node f.node → ⊥
    apart e (once i) = open_not_shut (is_shut_of f.node (step_shut e f.node i))
    apart e (further {m = m} i r) = open_not_shut (shut_leads m f.node (is_shut_of m (step_shut e m i)) r)

    -- then its segment has no other node
    alone : f.looped ≡ false → (x i : ℕ) → mark x ≡ Open i → f.at ≤ i → x ≡ f.node
    alone e x i d l = by (back x i d) (forth x i d l)
      where
        by : Reaches (steps left weight) x f.node → Reaches (steps left weight) f.node x → x ≡ f.node
        by (inl u) v = u
        by (inr u) v = absurd (apart e (reach_leads (steps left weight) f.node x f.node v u))

    low_path : f.looped ≡ false → ((x : ℕ) → Leads (steps left weight) f.node x → Leads (steps left weight) x x → ⊥) → (k : ℕ) → Path (steps left weight) weight f.node k → k ≤ weight f.node + f.high
    low_path e free _ ends = omega arith
    low_path e free _ (goes {n = y} {h = k} i p) = by (step_shut e y i)
      where
        by : ((h : ℕ) × (mark y ≡ Plain h) × (h ≤ f.high)) ⊎ (mark y ≡ Circle) → weight f.node + k ≤ weight f.node + f.high
        by (inl (h, d, l)) = omega (arith, l, (holds.facts.plain y h d).most (λ x r. free x (further i r)) k p)
        by (inr d) = absurd (free y (once i) (holds.facts.circle y d))

    is_plain : f.looped ≡ false → IsPlain (steps left weight) weight f.node (weight f.node + f.high)
    is_plain e = record { apart = apart e; path = own_frame.tall; most = low_path e }

    -- what the mark says is true of all nodes of the segment
    plain_now : (x i h : ℕ) → mark x ≡ Open i → f.at ≤ i → M ≡ Plain h → IsPlain (steps left weight) weight x h
    plain_now x i h e l d = by f.looped refl
      where
        by : (b : Bool) → f.looped ≡ b → IsPlain (steps left weight) weight x h
        by true u = let v : Circle ≡ Plain h = sym (circle u) ∙ d in absurd (cc v)
        by false u =
            let v : Plain (weight f.node + f.high) ≡ Plain h = sym (plain u) ∙ d in
            let w : weight f.node + f.high ≡ h = cc v in
            subst (λ t. IsPlain (steps left weight) weight t h) (sym (alone u x i e l)) (subst (λ t. IsPlain (steps left weight) weight f.node t) w (is_plain u))

    circle_now : (x i : ℕ) → mark x ≡ Open i → f.at ≤ i → M ≡ Circle → Leads (steps left weight) x x
    circle_now x i e l d = by f.looped refl
      where
        by : (b : Bool) → f.looped ≡ b → Leads (steps left weight) x x
        by true u = reach_leads (steps left weight) x f.node x (back x i e) (leads_reach (steps left weight) f.node f.node x (own_frame.loops u) (forth x i e l))
        by false u = let v : Plain (weight f.node + f.high) ≡ Circle = sym (plain u) ∙ d in absurd (cc v)

    true_now : AreTrue left weight mark'
    true_now = record {
      plain = λ x h e. by_plain x h e (cases x);
      circle = λ x e. by_circle x e (cases x);
      closed = λ x y e i. by_closed x y e i (cases x);
    }
      where
        by_plain : (x h : ℕ) → mark' x ≡ Plain h → ((i : ℕ) × (mark x ≡ Open i) × (f.at ≤ i)) ⊎ ((mark' x ≡ mark x) × ((i : ℕ) → mark x ≡ Open i → i < f.at)) → IsPlain (steps left weight) weight x h
        by_plain x h e (inl (i, d, l)) = plain_now x i h d l (sym (changed x i d l) ∙ e)
        by_plain x h e (inr (d, l)) = holds.facts.plain x h (sym d ∙ e)

        by_circle : (x : ℕ) → mark' x ≡ Circle → ((i : ℕ) × (mark x ≡ Open i) × (f.at ≤ i)) ⊎ ((mark' x ≡ mark x) × ((i : ℕ) → mark x ≡ Open i → i < f.at)) → Leads (steps left weight) x x
        by_circle x e (inl (i, d, l)) = circle_now x i d l (sym (changed x i d l) ∙ e)
        by_circle x e (inr (d, l)) = holds.facts.circle x (sym d ∙ e)

        by_closed : (x y : ℕ) → is_shut (mark' x) ≡ true → Member y (steps left weight x) → ((i : ℕ) × (mark x ≡ Open i) × (f.at ≤ i)) ⊎ ((mark' x ≡ mark x) × ((i : ℕ) → mark x ≡ Open i → i < f.at)) → is_shut (mark' y) ≡ true
        by_closed x y e j (inl (i, d, l)) = ends_shut x y i d l j
        by_closed x y e j (inr (d, l)) = shut_on y (holds.facts.closed x y (sym (ap is_shut d) ∙ e) j)

    -- a node that is open still was open below
    still_open : (x i : ℕ) → mark' x ≡ Open i → (mark x ≡ Open i) × (i < f.at)
    still_open x i e = by (cases x)
      where
        by : ((i : ℕ) × (mark x ≡ Open i) × (f.at ≤ i)) ⊎ ((mark' x ≡ mark x) × ((i : ℕ) → mark x ≡ Open i → i < f.at)) → (mark x ≡ Open i) × (i < f.at)
        by (inl (k, d, l)) = let u : true ≡ false = sym shut_mark ∙ ap is_shut (sym (changed x k d l) ∙ e) in absurd (cc u)
        by (inr (d, l)) = let u : mark x ≡ Open i = sym d ∙ e in (u, l i u)

    below_stays : (x i : ℕ) → mark x ≡ Open i → i < f.at → mark' x ≡ Open i
    below_stays x i e l = others x (λ k d. let u : Open i ≡ Open k = sym e ∙ d in let v : i ≡ k = cc u in omega (arith, v, l)) ∙ e

    start_in : (b : ℕ) → Member b ss → Member b starts
    start_in b i = subst (λ t. Member b t) (sym split) (member_before b f.at ss i)

    start_below : (b : ℕ) → Member b ss → b < f.at
    start_below b i = rises_last ss f.at (subst Rises split holds.starts_rise) b i

    -- a segment below is as before
    as_before : (i k : ℕ) → i < f.at → NoneBetween ss i k → NoneBetween starts i k
    as_before i k l h b j u = by (member_push b f.at ss (subst (λ t. Member b t) split j))
      where
        by : Member b ss ⊎ (b ≡ f.at) → b ≤ k
        by (inl m) = h b m u
        by (inr e) = absurd (omega (arith, e, u, l))

    frame_now : (g : Frame) → Member g fs → IsFrame left weight mark' g
    frame_now g m = let k = holds.framed g (member_before g f fs m) in record {
      opened = below_stays g.node g.at k.opened (frame_below left weight mark count starts fs f holds g m);
      tall = k.tall;
      loops = k.loops;
      passed = λ y i. by y (k.passed y i);
      part = k.part;
    }
      where
        by : (y : ℕ) → Passed left weight mark g y → Passed left weight mark' g y
        by y (coming i) = coming i
        by y (low e l) = low (shut_stays y (ap is_shut e) ∙ e) l
        by y (circled e) = circled (shut_stays y (ap is_shut e) ∙ e)
        by y (looped e) = looped e

    on_now : (b : ℕ) → Member b ss → (g : Frame) × Member g fs × (g.at ≡ b)
    on_now b i = let (g, j, e) = holds.on_frame b (start_in b i) in by g e (member_push g f fs j)
      where
        by : (g : Frame) → g.at ≡ b → Member g fs ⊎ (g ≡ f) → (h : Frame) × Member h fs × (h.at ≡ b)
        by g e (inl j) = (g, j, e)
        by g e (inr d) = let u : g.at ≡ f.at = ap (λ t. t.at) d in absurd (omega (arith, start_below b i, e, u))

    seen_now : (x y i : ℕ) → mark x ≡ Open i → i < f.at → Seen left weight mark starts (fs ++ f ∷ []) x i y → Seen left weight mark' ss fs x i y
    seen_now x y i e l (shut d) = shut (shut_on y d)
    seen_now x y i e l (higher {k = k} d h) = by (cases_le f.at k)
      where
        by : (f.at ≤ k) ⊎ (k < f.at) → Seen left weight mark' ss fs x i y
        by (inl u) = shut (ap is_shut (changed y k d u) ∙ shut_mark)
        by (inr u) = higher (below_stays y k d u) (λ b j v. h b (start_in b j) v)
    seen_now x y i e l (ahead g j d u) = by (member_push g f fs j)
      where
        by : Member g fs ⊎ (g ≡ f) → Seen left weight mark' ss fs x i y
        by (inl k) = ahead g k d u
        by (inr v) = absurd (not_ahead g y x v d u)

    first_now : (count ≡ 0) ⊎ Member 0 starts → (f.at ≡ 0) ⊎ Member 0 ss
    first_now (inl e) = absurd (omega (arith, e, holds.few f.node f.at own_frame.opened))
    first_now (inr i) = by (member_push 0 f.at ss (subst (λ t. Member 0 t) split i))
      where
        by : Member 0 ss ⊎ (0 ≡ f.at) → (f.at ≡ 0) ⊎ Member 0 ss
        by (inl j) = inr j
        by (inr e) = inl (sym e)

    pub left_known : Holds left weight mark' f.at ss fs
    left_known = record {
      facts = true_now;
      few = λ x i e. (still_open x i e).1;
      first = first_now holds.first;
      starts_rise = rises_before ss f.at (subst Rises split holds.starts_rise);
      frames_rise = rises_before (places_of fs) f.at (subst Rises (map_push (λ h. h.at) fs f) holds.frames_rise);
      on_frame = on_now;
      framed = frame_now;
      reach = λ x y i k e d h. holds.reach x y i k (still_open x i e).0 (still_open y k d).0 (as_before i k (still_open x i e).1 h);
      seen = λ x y i e j. seen_now x y i (still_open x i e).0 (still_open x i e).1 (holds.seen x y i (still_open x i e).0 j);
    }
