-- What leads to what, the frames of open nodes, and a node that is opened.
use Rattle.std.proofs.Common.{◌≡◌, ◌⊎◌, inl, inr, ℕ, suc, ◌+◌, ◌<◌, ◌≤◌, true, false, List, [], ◌∷◌, ◌++◌, sym, subst, ap, ◌∙◌, arith}
use Rattle.std.proofs.lemmas.Bool.{cases_eq, cases_lt}
use Rattle.gl_calculus.specs.Computation.Lists.{Member}
use Rattle.gl_graph.specs.Graph.{Leads, once, further, Path, ends, Reaches}
use Rattle.gl_graph.specs.Search.{origin, is_shut, Rises, places_of, NoneBetween, steps, AreTrue, Seen, shut, higher, ahead, Passed, coming, low, circled, looped, IsFrame, Holds}
use Rattle.gl_graph.proofs.Rising.{member_push, member_before, member_last, member_map, member_unmap, map_push, rises_push, rises_last}
use Rattle.gl_graph.specs.declared.graph.Place.{Place}
use Rattle.gl_graph.specs.declared.mark.Mark.{Mark}
use Rattle.gl_graph.specs.declared.mark.Mark.TheVariants.{New, Open, Plain, Circle}
use Rattle.gl_graph.specs.declared.state.Frame.{Frame}

pub cases_le : (a b : ℕ) → (a ≤ b) ⊎ (b < a)
cases_le a b = by (cases_lt b a)
  where
    by : (b < a) ⊎ (a ≤ b) → (a ≤ b) ⊎ (b < a)
    by (inl l) = inr l
    by (inr l) = inl l

-- ---- what leads to what

module _ (next : ℕ → List ℕ) where
  pub leads_on : {l m n : ℕ} → Leads next l m → Leads next m n → Leads next l n
  leads_on (once d) s = further d s
  leads_on (further d r) s = further d (leads_on r s)

  pub reach_leads : (l m n : ℕ) → Reaches next l m → Leads next m n → Leads next l n
  reach_leads l m n (inl e) s = subst (λ t. Leads next t n) (sym e) s
  reach_leads l m n (inr r) s = leads_on r s

  pub leads_reach : (l m n : ℕ) → Leads next l m → Reaches next m n → Leads next l n
  leads_reach l m n r (inl e) = subst (λ t. Leads next l t) e r
  leads_reach l m n r (inr s) = leads_on r s

  pub reaches_on : (l m n : ℕ) → Reaches next l m → Reaches next m n → Reaches next l n
  reaches_on l m n (inl e) s = subst (λ t. Reaches next t n) (sym e) s
  reaches_on l m n (inr r) s = inr (leads_reach l m n r s)

-- ---- the frames

module _ (left : ℕ → Place → List ℕ) (weight : ℕ → ℕ) (mark : ℕ → Mark) (count : ℕ) (starts : List ℕ) (fs : List Frame) (f : Frame) (holds : Holds left weight mark count starts (fs ++ f ∷ [])) where
  -- the last frame
  pub last_frame : IsFrame left weight mark f
  last_frame = holds.framed f (member_last f fs)

  pub frame_below : (g : Frame) → Member g fs → g.at < f.at
  frame_below g m = rises_last (places_of fs) f.at (subst Rises (map_push (λ h. h.at) fs f) holds.frames_rise) g.at (member_map (λ h. h.at) g fs m)

  -- no segment starts behind the last frame
  pub start_low : (b : ℕ) → Member b starts → b ≤ f.at
  start_low b m = let (g, i, e) = holds.on_frame b m in by g e (member_push g f fs i)
    where
      by : (g : Frame) → g.at ≡ b → Member g fs ⊎ (g ≡ f) → b ≤ f.at
      by g e (inl i) = omega (arith, e, frame_below g i)
      by g e (inr d) = let u : g.at ≡ f.at = ap (λ h. h.at) d in omega (arith, e, u)

  -- each open node leads to the last frame's
  pub to_last : (m i : ℕ) → mark m ≡ Open i → Reaches (steps left weight) m f.node
  to_last m i e = holds.reach m f.node i f.at e last_frame.opened (λ b s l. start_low b s)

-- ---- a new node

module _ (left : ℕ → Place → List ℕ) (weight : ℕ → ℕ) (mark mark' : ℕ → Mark) (count : ℕ) (starts : List ℕ) (fs : List Frame) (m : ℕ) (g : Frame) (holds : Holds left weight mark count starts fs)
    (new : mark m ≡ New) (above : (n i : ℕ) → mark n ≡ Open i → Reaches (steps left weight) n m)
    (node : g.node ≡ m) (at : g.at ≡ count) (place : g.place ≡ origin) (high : g.high ≡ 0) (calm : g.looped ≡ false)
    (opened : mark' m ≡ Open count) (others : (n : ℕ) → (n ≡ m → ⊥) → mark' n ≡ mark n) where
  -- what is known of a node stays
  stays : (n : ℕ) (x : Mark) → mark n ≡ x → (x ≡ New → ⊥) → mark' n ≡ x
  stays n x e k = others n (λ d. k (sym e ∙ ap mark d ∙ new)) ∙ e

  stays_shut : (n : ℕ) → is_shut (mark n) ≡ true → is_shut (mark' n) ≡ true
  stays_shut n e = ap is_shut (others n (λ d. let u : true ≡ false = sym e ∙ ap (λ t. is_shut (mark t)) d ∙ ap is_shut new in cc)) ∙ e

  -- which of the open nodes it is
  was_open : (n i : ℕ) → mark' n ≡ Open i → ((n ≡ m) × (i ≡ count)) ⊎ (mark n ≡ Open i)
  was_open n i e = by (cases_eq n m)
    where
      by : (n ≡ m) ⊎ (n ≡ m → ⊥) → ((n ≡ m) × (i ≡ count)) ⊎ (mark n ≡ Open i)
      by (inl d) = let u : Open i ≡ Open count = sym e ∙ ap mark' d ∙ opened in inl (d, cc u)
      by (inr d) = inr (sym (others n d) ∙ e)

  was_other : (n : ℕ) (x : Mark) → mark' n ≡ x → (x ≡ Open count → ⊥) → mark n ≡ x
  was_other n x e k = by (cases_eq n m)
    where
      by : (n ≡ m) ⊎ (n ≡ m → ⊥) → mark n ≡ x
      by (inl d) = absurd (k (sym e ∙ ap mark' d ∙ opened))
      by (inr d) = sym (others n d) ∙ e

  was_shut : (n : ℕ) → is_shut (mark' n) ≡ true → is_shut (mark n) ≡ true
  was_shut n e = by (cases_eq n m)
    where
      by : (n ≡ m) ⊎ (n ≡ m → ⊥) → is_shut (mark n) ≡ true
      by (inl d) = let u : false ≡ true = sym (ap is_shut (ap mark' d ∙ opened)) ∙ e in absurd (cc u)
      by (inr d) = sym (ap is_shut (others n d)) ∙ e

  true' : AreTrue left weight mark'
  true' = record {
    plain = λ n h e. holds.facts.plain n h (was_other n (Plain h) e (λ d. cc d));
    circle = λ n e. holds.facts.circle n (was_other n Circle e (λ d. cc d));
    closed = λ n k e i. stays_shut k (holds.facts.closed n k (was_shut n e) i);
  }

  few' : (n i : ℕ) → mark' n ≡ Open i → i < suc count
  few' n i e = by (was_open n i e)
    where
      by : ((n ≡ m) × (i ≡ count)) ⊎ (mark n ≡ Open i) → i < suc count
      by (inl d) = omega (arith, d.1)
      by (inr d) = omega (arith, holds.few n i d)

  start_low' : (b : ℕ) → Member b starts → b < count
  start_low' b i = let (f, j, e) = holds.on_frame b i in let u : f.at < count = holds.few f.node f.at (holds.framed f j).opened in omega (arith, u, e)

  abbrev starts' : List ℕ
  starts' = starts ++ count ∷ []

  frames_low : (b : ℕ) → Member b (places_of fs) → b < count
  frames_low b i = let (f, j, e) = member_unmap (λ h. h.at) b fs i in let u : f.at < count = holds.few f.node f.at (holds.framed f j).opened in omega (arith, u, e)

  passed' : (f : Frame) (n : ℕ) → Passed left weight mark f n → Passed left weight mark' f n
  passed' f n (coming i) = coming i
  passed' f n (low {h = h} e l) = low (stays n (Plain h) e (λ d. cc d)) l
  passed' f n (circled e) = circled (stays n Circle e (λ d. cc d))
  passed' f n (looped e) = looped e

  kept_frame : (f : Frame) → IsFrame left weight mark f → IsFrame left weight mark' f
  kept_frame f k = record {
    opened = stays f.node (Open f.at) k.opened (λ d. cc d);
    tall = k.tall;
    loops = k.loops;
    passed = λ n i. passed' f n (k.passed n i);
    part = k.part;
  }

  new_frame : IsFrame left weight mark' g
  new_frame = record {
    opened = ap mark' node ∙ opened ∙ ap Open (sym at);
    tall = subst (λ t. Path (steps left weight) weight g.node (weight g.node + t)) (sym high) (subst (λ t. Path (steps left weight) weight g.node t) (omega arith) ends);
    loops = λ e. let u : true ≡ false = sym e ∙ calm in absurd (cc u);
    passed = λ n i. coming (subst (λ t. Member n (left g.node t)) (sym place) i);
    part = λ n i. subst (λ t. Member n (left g.node t)) place i;
  }

  frames' : (f : Frame) → Member f (fs ++ g ∷ []) → IsFrame left weight mark' f
  frames' f i = by (member_push f g fs i)
    where
      by : Member f fs ⊎ (f ≡ g) → IsFrame left weight mark' f
      by (inl j) = kept_frame f (holds.framed f j)
      by (inr e) = subst (λ t. IsFrame left weight mark' t) (sym e) new_frame

  on_frame' : (b : ℕ) → Member b starts' → (f : Frame) × Member f (fs ++ g ∷ []) × (f.at ≡ b)
  on_frame' b i = by (member_push b count starts i)
    where
      by : Member b starts ⊎ (b ≡ count) → (f : Frame) × Member f (fs ++ g ∷ []) × (f.at ≡ b)
      by (inl j) = let (f, k, e) = holds.on_frame b j in (f, member_before f g fs k, e)
      by (inr e) = (g, member_last g fs, at ∙ sym e)

  reach' : (x y i k : ℕ) → mark' x ≡ Open i → mark' y ≡ Open k → NoneBetween starts' i k → Reaches (steps left weight) x y
  reach' x y i k e d h = by (was_open x i e) (was_open y k d)
    where
      by : ((x ≡ m) × (i ≡ count)) ⊎ (mark x ≡ Open i) → ((y ≡ m) × (k ≡ count)) ⊎ (mark y ≡ Open k) → Reaches (steps left weight) x y
      by (inl u) (inl v) = inl (u.0 ∙ sym v.0)
      by (inl u) (inr v) = absurd (omega (arith, holds.few y k v, u.1, h count (member_last count starts) (omega (arith, u.1))))
      by (inr u) (inl v) = subst (λ t. Reaches (steps left weight) x t) (sym v.0) (above x i u)
      by (inr u) (inr v) = holds.reach x y i k u v (λ b j l. h b (member_before b count starts j) l)

  seen_old : (x y i : ℕ) → i < count → Seen left weight mark starts fs x i y → Seen left weight mark' starts' (fs ++ g ∷ []) x i y
  seen_old x y i l (shut e) = shut (stays_shut y e)
  seen_old x y i l (higher {k = k} e h) = higher (stays y (Open k) e (λ d. cc d)) (λ b j u. by b u (member_push b count starts j))
    where
      by : (b : ℕ) → b ≤ i → Member b starts ⊎ (b ≡ count) → b ≤ k
      by b u (inl j) = h b j u
      by b u (inr d) = absurd (omega (arith, l, u, d))
  seen_old x y i l (ahead f j e d) = ahead f (member_before f g fs j) e d

  seen' : (x y i : ℕ) → mark' x ≡ Open i → Member y (steps left weight x) → Seen left weight mark' starts' (fs ++ g ∷ []) x i y
  seen' x y i e j = by (was_open x i e)
    where
      by : ((x ≡ m) × (i ≡ count)) ⊎ (mark x ≡ Open i) → Seen left weight mark' starts' (fs ++ g ∷ []) x i y
      by (inl u) = ahead g (member_last g fs) (node ∙ sym u.0) (subst (λ t. Member y (left x t)) (sym place) j)
      by (inr u) = seen_old x y i (holds.few x i u) (holds.seen x y i u j)

  first' : (suc count ≡ 0) ⊎ Member 0 starts'
  first' = by holds.first
    where
      by : (count ≡ 0) ⊎ Member 0 starts → (suc count ≡ 0) ⊎ Member 0 starts'
      by (inl e) = inr (subst (λ t. Member t starts') e (member_last count starts))
      by (inr i) = inr (member_before 0 count starts i)

  pub entered : Holds left weight mark' (suc count) (starts ++ count ∷ []) (fs ++ g ∷ [])
  entered = record {
    facts = true';
    few = few';
    first = first';
    starts_rise = rises_push starts count holds.starts_rise start_low';
    frames_rise = subst Rises (sym (map_push (λ h. h.at) fs g)) (rises_push (places_of fs) g.at holds.frames_rise (λ b i. omega (arith, frames_low b i, at)));
    on_frame = on_frame';
    framed = frames';
    reach = reach';
    seen = seen';
  }
