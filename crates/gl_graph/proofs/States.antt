-- A turn of the search, with the lists that it keeps.
use Rattle.std.proofs.Common.{◌≡◌, ◌⊎◌, inl, inr, ℕ, suc, ◌+◌, ◌-◌, ◌<◌, ◌≤◌, max, nat_eq, Bool, true, false, List, [], ◌∷◌, ◌++◌, length, set, take, refl, sym, subst, ap, ◌∙◌, arith, length-append, length-set}
use Rattle.std.specs.Prelude.{slice_index, if◌then◌else◌}
use Rattle.std.proofs.lemmas.Bool.{cases_eq}
use Rattle.std.proofs.lemmas.List.{get_or-set_same, get_or-set_other, get_or_append_left, get_or_push, take_at}
use Rattle.gl_calculus.specs.Computation.Lists.{Member}
use Rattle.gl_graph.specs.Graph.{once, Reaches}
use Rattle.gl_graph.specs.Search.{origin, mark_of, is_shut, is_new, fresh_frame, steps, shut_count, new_work, work, passes, last_of, Rises, AreOpen, AreCut, AreClosed, Holds, IsState, IsTurn}
use Rattle.gl_graph.proofs.Rising.{member_push, member_before, member_last, rises_last}
use Rattle.gl_graph.proofs.Cut.{last_push, by_last}
use Rattle.gl_graph.proofs.Closed.{cases_at, close_new}
use Rattle.gl_graph.proofs.Working.{same_work, less_work, frames_push, same_shut, fewer_shut, known_within}
use Rattle.gl_graph.proofs.Entering.{entered, start_low, to_last, reaches_on, last_frame}
use Rattle.gl_graph.proofs.Stepping.{passed_plain, passed_circle, joined}
use Rattle.gl_graph.proofs.Leaving.{left_open, left_known}
use Rattle.gl_graph.specs.declared.graph.Place.{Place}
use Rattle.gl_graph.specs.declared.mark.Mark.{Mark}
use Rattle.gl_graph.specs.declared.mark.Mark.TheVariants.{New, Open, Plain, Circle}
use Rattle.gl_graph.specs.declared.state.Frame.{Frame}
use borrow.Author.Tests.{eqb-true, eqb-false}

module _ (left : ℕ → Place → List ℕ) (weight : ℕ → ℕ) (size : ℕ) where
  -- ---- a new node

  module _ (marks : List Mark) (places starts : List ℕ) (gs : List Frame) (n : ℕ) (state : IsState left weight size marks places starts gs)
      (new : mark_of marks n ≡ New) (within : n < size) (above : (m i : ℕ) → mark_of marks m ≡ Open i → Reaches (steps left weight) m n) where
    abbrev at : ℕ
    at = length places

    abbrev marks' : List Mark
    marks' = set marks n (Open (length places))

    inside : n < length marks
    inside = omega (arith, within, state.sized)

    opened : mark_of marks' n ≡ Open at
    opened = get_or-set_same marks n (Open at) New inside

    others : (m : ℕ) → (m ≡ n → ⊥) → mark_of marks' m ≡ mark_of marks m
    others m d = get_or-set_other marks n m (Open at) New d

    grown : length (places ++ n ∷ []) ≡ suc (length places)
    grown = let u = length-append places (n ∷ []) in omega (arith, u)

    not_new : (m i : ℕ) → mark_of marks m ≡ Open i → m ≡ n → ⊥
    not_new m i e d = let u : New ≡ Open i = sym new ∙ ap (mark_of marks) (sym d) ∙ e in cc u

    opens' : AreOpen (mark_of marks') (places ++ n ∷ [])
    opens' = record { marked = λ i l. marked i l (cases_eq i at); placed = λ m i e. placed m i e (cases_eq m n) }
      where
        marked : (i : ℕ) → i < length (places ++ n ∷ []) → (i ≡ at) ⊎ (i ≡ at → ⊥) → mark_of marks' (slice_index (places ++ n ∷ []) i) ≡ Open i
        marked i l (inl e) = ap (mark_of marks') (get_or_push places n 0 i (sym e)) ∙ opened ∙ ap Open (sym e)
        marked i l (inr d) =
            let b : i < at = omega (arith, l, d, grown) in
            let u = state.opens.marked i b in
            ap (mark_of marks') (get_or_append_left places (n ∷ []) 0 i b) ∙ others (slice_index places i) (not_new (slice_index places i) i u) ∙ u

        placed : (m i : ℕ) → mark_of marks' m ≡ Open i → (m ≡ n) ⊎ (m ≡ n → ⊥) → (i < length (places ++ n ∷ [])) × (slice_index (places ++ n ∷ []) i ≡ m)
        placed m i e (inl d) =
            let u : Open i ≡ Open at = sym e ∙ ap (mark_of marks') d ∙ opened in
            let v : i ≡ at = cc u in
            (omega (arith, v, grown), get_or_push places n 0 i (sym v) ∙ sym d)
        placed m i e (inr d) =
            let u = state.opens.placed m i (sym (others m d) ∙ e) in
            (omega (arith, u.0, grown), get_or_append_left places (n ∷ []) 0 i u.0 ∙ u.1)

    same_count : shut_count marks' ≡ shut_count marks
    same_count = same_shut marks n (Open at) inside (ap is_shut new) refl

    low' : (m h : ℕ) → mark_of marks' m ≡ Plain h → h ≤ shut_count marks'
    low' m h e = by (cases_eq m n)
      where
        by : (m ≡ n) ⊎ (m ≡ n → ⊥) → h ≤ shut_count marks'
        by (inl d) = let u : Plain h ≡ Open at = sym e ∙ ap (mark_of marks') d ∙ opened in absurd (cc u)
        by (inr d) = omega (arith, state.low m h (sym (others m d) ∙ e), same_count)

    frame_low' : (f : Frame) → Member f (gs ++ fresh_frame n at ∷ []) → f.high ≤ shut_count marks'
    frame_low' f i = by (member_push f (fresh_frame n at) gs i)
      where
        by : Member f gs ⊎ (f ≡ fresh_frame n at) → f.high ≤ shut_count marks'
        by (inl j) = omega (arith, state.frame_low f j, same_count)
        by (inr e) = let u : f.high ≡ 0 = ap (λ t. t.high) e in omega (arith, u)

    kept' : (m : ℕ) → is_new (mark_of marks' m) ≡ true → is_new (mark_of marks m) ≡ true
    kept' m e = by (cases_eq m n)
      where
        by : (m ≡ n) ⊎ (m ≡ n → ⊥) → is_new (mark_of marks m) ≡ true
        by (inl d) = ap (λ t. is_new (mark_of marks t)) d ∙ ap is_new new
        by (inr d) = sym (ap is_new (others m d)) ∙ e

    less' : work left marks' (gs ++ fresh_frame n at ∷ []) < work left marks gs
    less' =
        let u = less_work (λ m. 2 + length (left m origin)) 0 marks n (Open at) new inside refl in
        let v = frames_push left gs (fresh_frame n at) in
        let w : 2 + length (left (0 + n) origin) ≡ 2 + length (left n origin) = ap (λ t. 2 + length (left t origin)) (omega arith) in
        omega (arith, u, v, w)

    pub turn_new : IsTurn left weight size marks gs marks' (places ++ n ∷ []) (starts ++ length places ∷ []) (gs ++ fresh_frame n (length places) ∷ [])
    turn_new = record {
      state = record {
        sized = length-set marks n (Open at) ∙ state.sized;
        opens = opens';
        holds = subst (λ t. Holds left weight (mark_of marks') t (starts ++ at ∷ []) (gs ++ fresh_frame n at ∷ [])) (sym grown)
            (entered left weight (mark_of marks) (mark_of marks') at starts gs n (fresh_frame n at) state.holds new above refl refl refl refl refl opened others);
        low = low';
        frame_low = frame_low';
      };
      kept = kept';
      less = less';
    }

  -- ---- the last frame

  module _ (marks : List Mark) (places starts : List ℕ) (fs : List Frame) (f : Frame) (state : IsState left weight size marks places starts (fs ++ f ∷ [])) where
    abbrev fits : IsState left weight size marks places starts (fs ++ f ∷ [])
    fits = state

    pub frame_inside : f.node < size
    frame_inside = omega (arith, state.sized, known_within marks f.node (λ e. let u : New ≡ Open f.at = sym e ∙ (state.holds.framed f (member_last f fs)).opened in cc u))

    pub frame_place : f.at < length places
    frame_place = state.holds.few f.node f.at (state.holds.framed f (member_last f fs)).opened

    pub frame_high : f.high < size
    frame_high =
        let e : is_shut (mark_of marks f.node) ≡ false = ap is_shut (state.holds.framed f (member_last f fs)).opened in
        let u = fewer_shut marks f.node (omega (arith, frame_inside, state.sized)) e in
        omega (arith, u, state.frame_low f (member_last f fs), state.sized)

    -- a step to a new node
    pub turn_to_new : (n : ℕ) (place : Place) → left f.node f.place ≡ n ∷ left f.node place → mark_of marks n ≡ New → n < size →
        IsTurn left weight size marks (fs ++ f ∷ []) (set marks n (Open (length places))) (places ++ n ∷ []) (starts ++ length places ∷ []) ((fs ++ f ∷ []) ++ fresh_frame n (length places) ∷ [])
    turn_to_new n place taken new l =
        turn_new marks places starts (fs ++ f ∷ []) n state new l
        (λ m i e. reaches_on (steps left weight) m f.node n (to_last left weight (mark_of marks) (length places) starts fs f state.holds m i e)
        (inr (once ((last_frame left weight (mark_of marks) (length places) starts fs f state.holds).part n (subst (λ t. Member n t) (sym taken) (inl refl))))))

    -- a step to a node that is known already
    module _ (n : ℕ) (place : Place) (g : Frame) (taken : left f.node f.place ≡ n ∷ left f.node place) (node : g.node ≡ f.node) (at : g.at ≡ f.at) (on : g.place ≡ place) where
      less_frames : work left marks (fs ++ g ∷ []) < work left marks (fs ++ f ∷ [])
      less_frames =
          let u = frames_push left fs g in
          let v = frames_push left fs f in
          let a : length (left f.node f.place) ≡ suc (length (left f.node place)) = ap length taken in
          let b : length (left g.node g.place) ≡ length (left f.node place) = ap (λ t. length (left t g.place)) node ∙ ap (λ t. length (left f.node t)) on in
          omega (arith, u, v, a, b)

      frames_low : g.high ≤ shut_count marks → (h : Frame) → Member h (fs ++ g ∷ []) → h.high ≤ shut_count marks
      frames_low l h i = by (member_push h g fs i)
        where
          by : Member h fs ⊎ (h ≡ g) → h.high ≤ shut_count marks
          by (inl j) = state.frame_low h (member_before h f fs j)
          by (inr e) = let u : h.high ≡ g.high = ap (λ t. t.high) e in omega (arith, u, l)

      known : (starts' : List ℕ) → Holds left weight (mark_of marks) (length places) starts' (fs ++ g ∷ []) → g.high ≤ shut_count marks → IsTurn left weight size marks (fs ++ f ∷ []) marks places starts' (fs ++ g ∷ [])
      known starts' h l = record {
        state = record { sized = state.sized; opens = state.opens; holds = h; low = state.low; frame_low = frames_low l };
        kept = λ m e. e;
        less = less_frames;
      }

      own_low : f.high ≤ shut_count marks
      own_low = state.frame_low f (member_last f fs)

      pub turn_to_plain : (h : ℕ) → mark_of marks n ≡ Plain h → g.high ≡ max f.high h → g.looped ≡ f.looped → IsTurn left weight size marks (fs ++ f ∷ []) marks places starts (fs ++ g ∷ [])
      turn_to_plain h e d u = known starts (passed_plain left weight (mark_of marks) (length places) starts fs f g state.holds n place taken node at on h e d u) (omega (arith, d, own_low, state.low n h e))

      pub turn_to_circle : mark_of marks n ≡ Circle → g.high ≡ f.high → g.looped ≡ f.looped → IsTurn left weight size marks (fs ++ f ∷ []) marks places starts (fs ++ g ∷ [])
      turn_to_circle e d u = known starts (passed_circle left weight (mark_of marks) (length places) starts fs f g state.holds n place taken node at on e d u) (omega (arith, d, own_low))

      pub turn_to_open : (j : ℕ) (starts' : List ℕ) → mark_of marks n ≡ Open j → AreCut starts j starts' → g.high ≡ f.high → g.looped ≡ true → IsTurn left weight size marks (fs ++ f ∷ []) marks places starts' (fs ++ g ∷ [])
      turn_to_open j starts' e cut d u = known starts' (joined left weight (mark_of marks) (length places) starts fs f g state.holds n place taken node at on j starts' e cut.rises cut.from cut.kept d u) (omega (arith, d, own_low))

    -- no step is left
    module _ (done : left f.node f.place ≡ []) where
      fewer_frames : (marks' : List Mark) → new_work (λ m. 2 + length (left m origin)) 0 marks' ≡ new_work (λ m. 2 + length (left m origin)) 0 marks → work left marks' fs < work left marks (fs ++ f ∷ [])
      fewer_frames marks' e = let u = frames_push left fs f in omega (arith, u, e)

      pub turn_back : passes (λ s. nat_eq s f.at) (last_of starts) ≡ false → IsTurn left weight size marks (fs ++ f ∷ []) marks places starts fs
      turn_back e = record {
        state = record {
          sized = state.sized;
          opens = state.opens;
          holds = left_open left weight (mark_of marks) (length places) starts fs f state.holds done (λ b i d. apart b i d (by_last starts));
          low = state.low;
          frame_low = λ g i. state.frame_low g (member_before g f fs i);
        };
        kept = λ m d. d;
        less = fewer_frames marks refl;
      }
        where
          apart : (b : ℕ) → Member b starts → b ≡ f.at → (starts ≡ []) ⊎ ((rest : List ℕ) × (s : ℕ) × (starts ≡ rest ++ s ∷ [])) → ⊥
          apart b i d (inl u) = subst (λ t. Member b t) u i
          apart b i d (inr (rest, s, u)) =
              let low = start_low left weight (mark_of marks) (length places) starts fs f state.holds s (subst (λ t. Member s t) (sym u) (member_last s rest)) in
              let not : s ≡ f.at → ⊥ = eqb-false s f.at (sym (ap (passes (λ t. nat_eq t f.at)) (ap last_of u ∙ last_push rest s)) ∙ e) in
              by low not (member_push b s rest (subst (λ t. Member b t) u i))
            where
              by : s ≤ f.at → (s ≡ f.at → ⊥) → Member b rest ⊎ (b ≡ s) → ⊥
              by l n (inl j) = let v = rises_last rest s (subst Rises u state.holds.starts_rise) b j in absurd (omega (arith, v, l, d))
              by l n (inr w) = n (sym w ∙ d)

      -- the first of its segment
      pub turn_out : (n : ℕ) → n ≡ length starts → (popped : List ℕ) (marks' : List Mark) (places' : List ℕ) (M : Mark) → weight f.node ≤ 1 → passes (λ s. nat_eq s f.at) (last_of starts) ≡ true → popped ≡ take (n - 1) starts →
          M ≡ (if f.looped then Circle else Plain (weight f.node + f.high)) → AreClosed marks f.at M (length places - f.at) marks' → AreOpen (mark_of marks') places' → length places' ≡ f.at →
          IsTurn left weight size marks (fs ++ f ∷ []) marks' places' popped fs
      turn_out n many popped marks' places' M small e p is closed opens count = record {
        state = record {
          sized = closed.size ∙ state.sized;
          opens = opens;
          holds = subst (λ t. Holds left weight (mark_of marks') t popped fs) (sym count)
              (left_known left weight (mark_of marks) (length places) starts fs f state.holds done (mark_of marks') popped (split (by_last starts)) M
              (λ u. is ∙ ap (λ b. if b then Circle else Plain (weight f.node + f.high)) u) (λ u. is ∙ ap (λ b. if b then Circle else Plain (weight f.node + f.high)) u) closed.closed closed.others);
          low = λ m h d. low_now m h d (cases_at marks places state.opens M shut f.at m);
          frame_low = λ g i. omega (arith, state.frame_low g (member_before g f fs i), closed.more);
        };
        kept = λ m d. sym (same_new m) ∙ d;
        less = fewer_frames marks' (same_work (λ m. 2 + length (left m origin)) 0 marks' marks closed.size same_new);
      }
        where
          shut : is_shut M ≡ true
          shut = ap is_shut is ∙ by f.looped
            where
              by : (b : Bool) → is_shut (if b then Circle else Plain (weight f.node + f.high)) ≡ true
              by true = refl
              by false = refl

          same_new : (m : ℕ) → is_new (mark_of marks' m) ≡ is_new (mark_of marks m)
          same_new = close_new marks places state.opens M shut marks' f.at (length places - f.at) closed

          split : (starts ≡ []) ⊎ ((rest : List ℕ) × (s : ℕ) × (starts ≡ rest ++ s ∷ [])) → starts ≡ popped ++ f.at ∷ []
          split (inl u) = let v : false ≡ true = sym (ap (λ t. passes (λ s. nat_eq s f.at) (last_of t)) u) ∙ e in absurd (cc v)
          split (inr (rest, s, u)) =
              let v : s ≡ f.at = eqb-true s f.at (sym (ap (passes (λ t. nat_eq t f.at)) (ap last_of u ∙ last_push rest s)) ∙ e) in
              let w : n - 1 ≡ length rest = let x = ap length u in let y = length-append rest (s ∷ []) in omega (arith, x, y, many) in
              let z : popped ≡ rest = p ∙ ap (λ t. take t starts) w ∙ ap (take (length rest)) u ∙ take_at rest (s ∷ []) (length rest) refl in
              u ∙ ap (λ t. rest ++ t ∷ []) v ∙ ap (λ t. t ++ f.at ∷ []) (sym z)

          height : (h : ℕ) → M ≡ Plain h → (b : Bool) → f.looped ≡ b → h ≤ weight f.node + f.high
          height h d true u = let v : Circle ≡ Plain h = sym (is ∙ ap (λ b. if b then Circle else Plain (weight f.node + f.high)) u) ∙ d in absurd (cc v)
          height h d false u =
              let v : Plain (weight f.node + f.high) ≡ Plain h = sym (is ∙ ap (λ b. if b then Circle else Plain (weight f.node + f.high)) u) ∙ d in
              let w : weight f.node + f.high ≡ h = cc v in omega (arith, w)

          low_now : (m h : ℕ) → mark_of marks' m ≡ Plain h → ((i : ℕ) × (mark_of marks m ≡ Open i) × (f.at ≤ i)) ⊎ ((i : ℕ) → mark_of marks m ≡ Open i → i < f.at) → h ≤ shut_count marks'
          low_now m h d (inl (i, u, l)) = omega (arith, height h (sym (closed.closed m i u l) ∙ d) f.looped refl, small, closed.more, state.frame_low f (member_last f fs), frame_place)
          low_now m h d (inr u) = omega (arith, state.low m h (sym (closed.others m u) ∙ d), closed.more)

-- ---- the lists that a call leaves

pub same_turn : (left : ℕ → Place → List ℕ) (weight : ℕ → ℕ) (size : ℕ) (old : List Mark) (before : List Frame) (m m' : List Mark) (p p' s s' : List ℕ) (f f' : List Frame) → m' ≡ m → p' ≡ p → s' ≡ s → f' ≡ f → IsTurn left weight size old before m p s f → IsTurn left weight size old before m' p' s' f'
same_turn left weight size old before m m' p p' s s' f f' a b c d h =
    subst (λ t. IsTurn left weight size old before t p' s' f') (sym a) (subst (λ t. IsTurn left weight size old before m t s' f') (sym b) (subst (λ t. IsTurn left weight size old before m p t f') (sym c) (subst (λ t. IsTurn left weight size old before m p s t) (sym d) h)))

-- ---- the first turn and the last

module _ (left : ℕ → Place → List ℕ) (weight : ℕ → ℕ) (size : ℕ) (marks : List Mark) (places starts : List ℕ) (fs : List Frame) (state : IsState left weight size marks places starts fs) (quiet : fs ≡ []) where
  -- where no step is to come, no node is open
  nothing_open : (m i : ℕ) → mark_of marks m ≡ Open i → ⊥
  nothing_open m i e = by state.holds.first
    where
      by : (length places ≡ 0) ⊎ Member 0 starts → ⊥
      by (inl d) = absurd (omega (arith, d, state.holds.few m i e))
      by (inr j) = let (f, k, d) = state.holds.on_frame 0 j in subst (λ t. Member f t) quiet k

  pub first_turn : (n : ℕ) → mark_of marks n ≡ New → n < size → IsTurn left weight size marks fs (set marks n (Open (length places))) (places ++ n ∷ []) (starts ++ length places ∷ []) (fs ++ fresh_frame n (length places) ∷ [])
  first_turn n new l = turn_new left weight size marks places starts fs n state new l (λ m i e. absurd (nothing_open m i e))

  pub last_known : (n : ℕ) → (is_new (mark_of marks n) ≡ true → ⊥) → is_shut (mark_of marks n) ≡ true
  last_known n h = by (mark_of marks n) refl
    where
      by : (t : Mark) → mark_of marks n ≡ t → is_shut (mark_of marks n) ≡ true
      by New e = absurd (h (ap is_new e))
      by (Open i) e = absurd (nothing_open n i e)
      by (Plain k) e = ap is_shut e
      by Circle e = ap is_shut e

pub opened_known : (marks : List Mark) (n i : ℕ) → n < length marks → is_new (mark_of (set marks n (Open i)) n) ≡ true → ⊥
opened_known marks n i l e = let u : false ≡ true = sym (ap is_new (get_or-set_same marks n (Open i) New l)) ∙ e in cc u

pub new_is : (x : Mark) → is_new x ≡ true → x ≡ New
new_is New e = refl
new_is (Open i) e = absurd (cc e)
new_is (Plain k) e = absurd (cc e)
new_is Circle e = absurd (cc e)
