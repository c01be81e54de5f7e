-- A step to a node that is known, or that is open.
use Rattle.std.proofs.Common.{◌≡◌, ◌⊎◌, inl, inr, ℕ, ◌+◌, ◌<◌, ◌≤◌, max, true, List, [], ◌∷◌, ◌++◌, refl, sym, subst, ap, ◌∙◌, arith}
use Rattle.gl_calculus.specs.Computation.Lists.{Member}
use Rattle.gl_graph.specs.Graph.{Leads, once, Path, goes, Reaches}
use Rattle.gl_graph.specs.Search.{is_shut, Rises, places_of, NoneBetween, steps, Seen, shut, higher, ahead, Passed, coming, low, circled, looped, IsFrame, Holds}
use Rattle.gl_graph.proofs.Rising.{member_push, member_before, member_last, map_push}
use Rattle.gl_graph.proofs.Entering.{cases_le, leads_reach, reaches_on, last_frame, to_last}
use Rattle.gl_graph.specs.declared.graph.Place.{Place}
use Rattle.gl_graph.specs.declared.mark.Mark.{Mark}
use Rattle.gl_graph.specs.declared.mark.Mark.TheVariants.{Open, Plain, Circle}
use Rattle.gl_graph.specs.declared.state.Frame.{Frame}

module _ (left : ℕ → Place → List ℕ) (weight : ℕ → ℕ) (mark : ℕ → Mark) (count : ℕ) (starts : List ℕ) (fs : List Frame) (f g : Frame) (holds : Holds left weight mark count starts (fs ++ f ∷ []))
    (n : ℕ) (place : Place) (taken : left f.node f.place ≡ n ∷ left f.node place)
    (node : g.node ≡ f.node) (at : g.at ≡ f.at) (on : g.place ≡ place) where
  own : IsFrame left weight mark f
  own = last_frame left weight mark count starts fs f holds

  is_step : Member n (steps left weight f.node)
  is_step = own.part n (subst (λ t. Member n t) (sym taken) (inl refl))

  still : (y : ℕ) → Member y (left g.node g.place) → Member y (left f.node f.place)
  still y i = subst (λ t. Member y t) (sym taken) (inr (subst (λ t. Member y (left f.node t)) on (subst (λ t. Member y (left t g.place)) node i)))

  later : (y : ℕ) → Member y (left f.node f.place) → (y ≡ n) ⊎ Member y (left g.node g.place)
  later y i = by (subst (λ t. Member y t) taken i)
    where
      by : Member y (n ∷ left f.node place) → (y ≡ n) ⊎ Member y (left g.node g.place)
      by (inl e) = inl e
      by (inr j) = inr (subst (λ t. Member y (left t g.place)) (sym node) (subst (λ t. Member y (left f.node t)) (sym on) j))

  -- the frames with the last one changed
  same_places : places_of (fs ++ g ∷ []) ≡ places_of (fs ++ f ∷ [])
  same_places = map_push (λ h. h.at) fs g ∙ ap (λ t. places_of fs ++ t ∷ []) at ∙ sym (map_push (λ h. h.at) fs f)

  module _ (starts' : List ℕ) (rise : Rises starts') (lowest : Member 0 starts → Member 0 starts') (fewer : (b : ℕ) → Member b starts' → Member b starts)
      (is : IsFrame left weight mark g)
      (reach' : (x y i k : ℕ) → mark x ≡ Open i → mark y ≡ Open k → NoneBetween starts' i k → Reaches (steps left weight) x y)
      (onto : (i : ℕ) → Seen left weight mark starts' (fs ++ g ∷ []) f.node i n) where
    frame_in : (h : Frame) → Member h (fs ++ f ∷ []) → (k : Frame) × Member k (fs ++ g ∷ []) × (k.at ≡ h.at)
    frame_in h i = by (member_push h f fs i)
      where
        by : Member h fs ⊎ (h ≡ f) → (k : Frame) × Member k (fs ++ g ∷ []) × (k.at ≡ h.at)
        by (inl j) = (h, member_before h g fs j, refl)
        by (inr e) = (g, member_last g fs, at ∙ sym (ap (λ t. t.at) e))

    seen_on : (x y i : ℕ) → Seen left weight mark starts (fs ++ f ∷ []) x i y → Seen left weight mark starts' (fs ++ g ∷ []) x i y
    seen_on x y i (shut e) = shut e
    seen_on x y i (higher e h) = higher e (λ b j l. h b (fewer b j) l)
    seen_on x y i (ahead h j e d) = by (member_push h f fs j)
      where
        at_last : h ≡ f → (y ≡ n) ⊎ Member y (left g.node g.place) → Seen left weight mark starts' (fs ++ g ∷ []) x i y
        at_last u (inl v) = let w : f.node ≡ x = sym (ap (λ t. t.node) u) ∙ e in subst (λ t. Seen left weight mark starts' (fs ++ g ∷ []) x i t) (sym v) (subst (λ t. Seen left weight mark starts' (fs ++ g ∷ []) t i n) w (onto i))
        at_last u (inr v) = let w : f.node ≡ x = sym (ap (λ t. t.node) u) ∙ e in ahead g (member_last g fs) (node ∙ w) (subst (λ t. Member y (left t g.place)) (node ∙ w) v)

        by : Member h fs ⊎ (h ≡ f) → Seen left weight mark starts' (fs ++ g ∷ []) x i y
        by (inl k) = ahead h (member_before h g fs k) e d
        by (inr u) = let w : f.node ≡ x = sym (ap (λ t. t.node) u) ∙ e in at_last u (later y (subst (λ t. Member y (left f.node t)) (ap (λ t. t.place) u) (subst (λ t. Member y (left t h.place)) (sym w) d)))

    frames_on : (h : Frame) → Member h (fs ++ g ∷ []) → IsFrame left weight mark h
    frames_on h i = by (member_push h g fs i)
      where
        by : Member h fs ⊎ (h ≡ g) → IsFrame left weight mark h
        by (inl j) = holds.framed h (member_before h f fs j)
        by (inr e) = subst (λ t. IsFrame left weight mark t) (sym e) is

    on_first : (count ≡ 0) ⊎ Member 0 starts → (count ≡ 0) ⊎ Member 0 starts'
    on_first (inl e) = inl e
    on_first (inr i) = inr (lowest i)

    pub stepped : Holds left weight mark count starts' (fs ++ g ∷ [])
    stepped = record {
      facts = holds.facts;
      few = holds.few;
      first = on_first holds.first;
      starts_rise = rise;
      frames_rise = subst Rises (sym same_places) holds.frames_rise;
      on_frame = λ b i. let (h, j, e) = holds.on_frame b (fewer b i) in let (k, u, v) = frame_in h j in (k, u, v ∙ e);
      framed = frames_on;
      reach = reach';
      seen = λ x y i e j. seen_on x y i (holds.seen x y i e j);
    }

  -- a frame that goes on, with no more than before as its weight
  goes_on : (high : ℕ) → g.high ≡ high → f.high ≤ high → Path (steps left weight) weight f.node (weight f.node + high) →
      (g.looped ≡ true → Leads (steps left weight) f.node f.node) → (f.looped ≡ true → g.looped ≡ true) → Passed left weight mark g n → IsFrame left weight mark g
  goes_on high e l p loop keeps at_n = record {
    opened = ap mark node ∙ own.opened ∙ ap Open (sym at);
    tall = subst (λ t. Path (steps left weight) weight t (weight t + g.high)) (sym node) (subst (λ t. Path (steps left weight) weight f.node (weight f.node + t)) (sym e) p);
    loops = λ u. subst (λ t. Leads (steps left weight) t t) (sym node) (loop u);
    passed = λ y i. by y (own.passed y (subst (λ t. Member y (steps left weight t)) node i));
    part = λ y i. subst (λ t. Member y (steps left weight t)) (sym node) (own.part y (still y i));
  }
    where
      at_last : (y : ℕ) → (y ≡ n) ⊎ Member y (left g.node g.place) → Passed left weight mark g y
      at_last y (inl d) = subst (λ t. Passed left weight mark g t) (sym d) at_n
      at_last y (inr d) = coming d

      by : (y : ℕ) → Passed left weight mark f y → Passed left weight mark g y
      by y (coming i) = at_last y (later y i)
      by y (low u v) = low u (omega (arith, v, l, e))
      by y (circled u) = circled u
      by y (looped u) = looped (keeps u)

  -- a step to a plain node
  pub passed_plain : (h : ℕ) → mark n ≡ Plain h → g.high ≡ max f.high h → g.looped ≡ f.looped → Holds left weight mark count starts (fs ++ g ∷ [])
  passed_plain h e d u =
      stepped starts holds.starts_rise (λ i. i) (λ b i. i) (goes_on (max f.high h) d (omega arith) (path (cases_le h f.high)) (λ v. own.loops (sym u ∙ v)) (λ v. u ∙ v) (low e (omega (arith, d))))
      holds.reach (λ i. shut (ap is_shut e))
    where
      path : (h ≤ f.high) ⊎ (f.high < h) → Path (steps left weight) weight f.node (weight f.node + max f.high h)
      path (inl l) = let w : f.high ≡ max f.high h = omega (arith, l) in subst (λ t. Path (steps left weight) weight f.node (weight f.node + t)) w own.tall
      path (inr l) = let w : h ≡ max f.high h = omega (arith, l) in subst (λ t. Path (steps left weight) weight f.node (weight f.node + t)) w (goes is_step (holds.facts.plain n h e).path)

  -- a step to a node that is in a circle
  pub passed_circle : mark n ≡ Circle → g.high ≡ f.high → g.looped ≡ f.looped → Holds left weight mark count starts (fs ++ g ∷ [])
  passed_circle e d u =
      stepped starts holds.starts_rise (λ i. i) (λ b i. i) (goes_on f.high d (omega arith) own.tall (λ v. own.loops (sym u ∙ v)) (λ v. u ∙ v) (circled e))
      holds.reach (λ i. shut (ap is_shut e))

  -- a step to an open node
  pub joined : (j : ℕ) (starts' : List ℕ) → mark n ≡ Open j → Rises starts' → ((b : ℕ) → Member b starts' → Member b starts × (b ≤ j)) → ((b : ℕ) → Member b starts → b ≤ j → Member b starts') →
      g.high ≡ f.high → g.looped ≡ true → Holds left weight mark count starts' (fs ++ g ∷ [])
  joined j starts' e rise from kept d u =
      stepped starts' rise (λ i. kept 0 i (omega arith)) (λ b i. (from b i).0) (goes_on f.high d (omega arith) own.tall (λ v. leads_reach (steps left weight) f.node n f.node (once is_step) back) (λ v. u) (looped u))
      reach' (λ i. higher e (λ b k l. (from b k).1))
    where
      back : Reaches (steps left weight) n f.node
      back = to_last left weight mark count starts fs f holds n j e

      reach' : (x y i k : ℕ) → mark x ≡ Open i → mark y ≡ Open k → NoneBetween starts' i k → Reaches (steps left weight) x y
      reach' x y i k ex ey h = by (cases_le j i)
        where
          by : (j ≤ i) ⊎ (i < j) → Reaches (steps left weight) x y
          by (inr l) = holds.reach x y i k ex ey (λ b m s. h b (kept b m (omega (arith, s, l))) s)
          by (inl l) =
              reaches_on (steps left weight) x n y (reaches_on (steps left weight) x f.node n (to_last left weight mark count starts fs f holds x i ex) (inr (once is_step)))
              (holds.reach n y j k e ey (λ b m s. h b (kept b m s) (omega (arith, s, l))))
