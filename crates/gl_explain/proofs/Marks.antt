-- Marks of the keys on a stack.
use Rattle.std.proofs.Common.{◌≡◌, ℕ, ◌<◌, List, [], ◌∷◌, ◌++◌, length, cond, Bool, true, false, Some, refl, sym, ap, subst, ◌∙◌, arith}
use Rattle.gl_calculus.specs.Computation.Query.{Need, found}
use Rattle.gl_calculus.specs.Grid.Grid.{Range}
use Rattle.gl_calculus.specs.Evaluation.Key.{Key, Outcome, same_key}
use Rattle.gl_calculus.specs.Evaluation.World.{World}
use Rattle.gl_calculus.specs.Evaluation.Evaluation.{program}
use Rattle.gl_calculus.specs.Explanation.Walk.{Claim, noted}
use Rattle.laws_calculus.proofs.Explanation.Going.{snoc_same}
use Rattle.gl_machine.specs.Ahead.Ahead.{Extends, first_lacked, LackSame}
use Rattle.gl_machine.specs.Ahead.Demands.{is_value}
use Rattle.gl_machine.specs.Ahead.Reading.{Nothing, keys_from}
use Rattle.laws_calculus.proofs.Ahead.Onward.{ahead_stays, ahead_onward}
use Rattle.gl_demand.specs.Marks.{PlainMark, mark_tree, mark_trees}
use Rattle.gl_explain.specs.Marks.{IsMark, IsMarked, AreMarked, AreMarks}
use Rattle.gl_explain.specs.Putting.{IsTakenOff, IsPutOn, there, full, on}
use Rattle.gl_demand.specs.declared.mark.Mark.{Mark}
use Rattle.gl_explain.specs.declared.reading.Reached.{Reached}
use Rattle.gl_explain.specs.declared.turning.Turned.{Turned}
use Rattle.gl_explain.specs.declared.turning.Turned.TheVariants.{On}

pub trees_snoc : (xs : List Mark) (x : Mark) → mark_trees (xs ++ x ∷ []) ≡ mark_trees xs ++ mark_tree x ∷ []
trees_snoc [] x = refl
trees_snoc (y ∷ xs) x = ap (λ t. mark_tree y ∷ t) (trees_snoc xs x)

pub two_pushed : (xs ys zs : List Mark) (x y : Mark) → ys ≡ xs ++ x ∷ [] → zs ≡ ys ++ y ∷ [] → mark_tree y ≡ (Nothing, 0) → mark_trees zs ≡ (mark_trees xs ++ mark_tree x ∷ []) ++ (Nothing, 0) ∷ []
two_pushed xs ys zs x y e f g =
    ap mark_trees f ∙ trees_snoc ys y ∙ ap (λ t. mark_trees ys ++ t ∷ []) g
    ∙ ap (λ t. t ++ (Nothing, 0) ∷ []) (ap mark_trees e ∙ trees_snoc xs x)

-- ---- keys and marks one by one

module _ (Is : Key → PlainMark → Type 0) where
  top_marked : (ks : List Key) (k : Key) (ms : List PlainMark) → AreMarked Is (ks ++ k ∷ []) ms → (ns : List PlainMark) × (m : PlainMark) × (ms ≡ ns ++ m ∷ []) × AreMarked Is ks ns × Is k m
  top_marked [] k [] h = absurd h
  top_marked [] k (m ∷ []) (p, h) = ([], m, refl, tt, p)
  top_marked [] k (m ∷ n ∷ ms) (p, h) = absurd h
  top_marked (j ∷ ks) k [] h = absurd h
  top_marked (j ∷ ks) k (m ∷ ms) (p, h) = let (ns, n, e, a, b) = top_marked ks k ms h in (m ∷ ns, n, ap (λ t. m ∷ t) e, (p, a), b)

  -- the marks of those below the top, and that of the top
  pub below_marked : (up us : List Key) (k : Key) (ms ns : List PlainMark) (m : PlainMark) → up ≡ us ++ k ∷ [] → ms ≡ ns ++ m ∷ [] → AreMarked Is up ms → AreMarked Is us ns × Is k m
  below_marked up us k ms ns m e f h =
      let (os, o, d, a, b) = top_marked us k ms (subst (λ u. AreMarked Is u ms) e h) in
      let (p, q) = snoc_same ns os m o (sym f ∙ d) in
      (subst (AreMarked Is us) (sym p) a, subst (Is k) (sym q) b)

  pub more_marked : (ks : List Key) (k : Key) (ms : List PlainMark) (m : PlainMark) → AreMarked Is ks ms → Is k m → AreMarked Is (ks ++ k ∷ []) (ms ++ m ∷ [])
  more_marked [] k [] m h i = (i, tt)
  more_marked [] k (n ∷ ms) m h i = absurd h
  more_marked (j ∷ ks) k [] m h i = absurd h
  more_marked (j ∷ ks) k (n ∷ ms) m (p, h) i = (p, more_marked ks k ms m h i)

  none_marked : (us : List Key) (k : Key) → AreMarked Is (us ++ k ∷ []) [] → ⊥
  none_marked [] k h = h
  none_marked (j ∷ us) k h = h

  -- where a key is marked there is a mark
  pub some_mark : (up us : List Key) (k : Key) (xs : List Mark) → up ≡ us ++ k ∷ [] → AreMarked Is up (mark_trees xs) → 0 < length xs
  some_mark up us k [] e h = absurd (none_marked us k (subst (λ u. AreMarked Is u []) e h))
  some_mark up us k (x ∷ xs) e h = omega arith

each_marked : (Is Then : Key → PlainMark → Type 0) → ((k : Key) (m : PlainMark) → Is k m → Then k m) → (ks : List Key) (ms : List PlainMark) → AreMarked Is ks ms → AreMarked Then ks ms
each_marked Is Then f [] [] h = tt
each_marked Is Then f [] (m ∷ ms) h = absurd h
each_marked Is Then f (k ∷ ks) [] h = absurd h
each_marked Is Then f (k ∷ ks) (m ∷ ms) (p, h) = (f k m p, each_marked Is Then f ks ms h)

-- ---- marks of what is reached

pub marked_still : (Is Then : PlainMark → Type 0) → ((m : PlainMark) → Is m → Then m) → (x : Reached) → IsMarked Is x → IsMarked Then x
marked_still Is Then f (Reached.Ready o) h = tt
marked_still Is Then f (Reached.Need k m) h = f (mark_tree m) h

-- ---- marks over notes

-- further notes come behind those that are there
noted_still : (done more : List (Claim Key Outcome)) → Extends (noted same_key done) (noted same_key (done ++ more))
noted_still [] more k o e = absurd (cc e)
noted_still (n ∷ done) more k o e = by (same_key k n.0) e (λ d. noted_still done more k o d)
  where
    by : (b : Bool) → cond b (Some n.1) (noted same_key done k) ≡ Some o → (noted same_key done k ≡ Some o → noted same_key (done ++ more) k ≡ Some o) → cond b (Some n.1) (noted same_key (done ++ more) k) ≡ Some o
    by true e f = e
    by false e f = f e

module _ (W : World) where
  -- a mark stays one over more notes
  mark_stays : (done more : List (Claim Key Outcome)) (k : Key) (m : PlainMark) → IsMark W done k m → IsMark W (done ++ more) k m
  mark_stays done more k m a = ahead_stays Key Outcome Range Outcome is_value (program W k) (noted same_key done) (noted same_key (done ++ more)) (keys_from W.sheet W.oracle m.0 m.1) (noted_still done more) a

  pub nothing_marks : (done : List (Claim Key Outcome)) (k : Key) → IsMark W done k (Nothing, 0)
  nothing_marks done k g h i d = absurd (cc d)

  -- the first that is lacked is needed
  pub mark_needs : (done : List (Claim Key Outcome)) (k i : Key) (m : PlainMark) → IsMark W done k m → first_lacked is_value (noted same_key done) (keys_from W.sheet W.oracle m.0 m.1) ≡ Some i → found (noted same_key done) (program W k) ≡ Need i
  mark_needs done k i m a e = a (noted same_key done) (λ j o d. d) i e

  -- the place moves on
  pub mark_onward : (done : List (Claim Key Outcome)) (k : Key) (m : PlainMark) (n : ℕ) → LackSame is_value (noted same_key done) (keys_from W.sheet W.oracle m.0 m.1) (keys_from W.sheet W.oracle m.0 n) → IsMark W done k m → IsMark W done k (m.0, n)
  mark_onward done k m n l a = (ahead_onward Key Outcome Range Outcome is_value (program W k) (noted same_key done) (keys_from W.sheet W.oracle m.0 m.1) (keys_from W.sheet W.oracle m.0 n)).1 l a

  -- the top is taken off, and noted
  pub off_marks : (o : Outcome) (done more : List (Claim Key Outcome)) (up us vs : List Key) (k : Key) (t : Turned) (ns : List PlainMark) → IsTakenOff o done up t more vs → up ≡ us ++ k ∷ [] → AreMarks W done us ns → AreMarks W more vs ns
  off_marks o done more up us vs k t ns x e h =
      let (p, q) = snoc_same us vs k x.top (sym e ∙ x.off) in
      let f = each_marked (IsMark W done) (IsMark W (done ++ (x.top, o) ∷ [])) (mark_stays done ((x.top, o) ∷ [])) us ns h in
      subst (λ d. AreMarks W d vs ns) (sym x.noted) (subst (λ u. AreMarks W (done ++ (x.top, o) ∷ []) u ns) p f)

  -- a key is put on
  pub on_marks : (done : List (Claim Key Outcome)) (up us vs : List Key) (k j : Key) (m : PlainMark) (ms ns : List PlainMark) (t : Turned) → IsPutOn j m done up ms t vs ns → up ≡ us ++ k ∷ [] → AreMarks W done us ms → IsMark W done k m → t ≡ On → AreMarks W done vs ns
  on_marks done up us vs k j m ms ns t p e h a d = by t vs ns p d
    where
      by : (t : Turned) (vs : List Key) (ns : List PlainMark) → IsPutOn j m done up ms t vs ns → t ≡ On → AreMarks W done vs ns
      by _ _ _ (there i) d = absurd (cc d)
      by _ _ _ (full i c) d = absurd (cc d)
      by _ _ _ (on i c) d =
          more_marked (IsMark W done) up j (ms ++ m ∷ []) (Nothing, 0)
          (subst (λ u. AreMarks W done u (ms ++ m ∷ [])) (sym e) (more_marked (IsMark W done) us k ms m h a))
          (nothing_marks done j)
