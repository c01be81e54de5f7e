-- References ask for sound keys, and what they read is sound.
use Rattle.std.proofs.Common.{◌≡◌, ℕ, suc, ◌*◌, List, [], ◌∷◌, length, map, Bool, true, false, IsTrue, if◌then◌else◌, Option, Some, None, Result, Ok, Err, refl, ap, sym, subst, ◌∙◌}
use Rattle.std.specs.List.{AllByRecursion, range_with_len}
use Rattle.std.proofs.lemmas.List.{length-map}
use Rattle.std.proofs.lemmas.List.FromFn.{length-range_with_len}
use Rattle.gl_calculus.specs.Computation.Evaluation.{given}
use Rattle.laws_calculus.proofs.Query.Asked.{Keeps, keeps_return, keeps_look, keeps_ask, keeps_bind}
use Rattle.gl_calculus.specs.Grid.Grid.{Addr, same_addr, Range, addr, single, extents, addresses, covers}
use Rattle.gl_calculus.specs.Values.Value as V
use Rattle.gl_calculus.specs.Values.Value.{Scalar, Value, One, Array, sheet_value, Oracle, Permit, Frame, Top, In}
use Rattle.gl_calculus.specs.Values.Sheet.{override_at}
use Rattle.gl_calculus.specs.Formulas.Formula.{Content, Const, Form, Cells, content}
use Rattle.gl_calculus.specs.Evaluation.Oracle.{Cover}
use Rattle.gl_calculus.specs.Evaluation.Facts.{Fact, fact, facts, find_fact, fact_at}
use Rattle.gl_calculus.specs.Evaluation.Key.{Outcome, Settled, Abort, Budget, Eval, on_result, ◌>>=◌, own_value}
use Rattle.gl_calculus.specs.Evaluation.Reference as R
use Rattle.gl_calculus.specs.Evaluation.Reference.{Held, Given, Computed, held_top, override_or, content_in, in_region, own_content, home, own, value_of, shown, spilled, spilling, at_address, at_range, spill_of}
use Rattle.gl_machine.specs.Seen.{seen_or_looked, Reading, covered_seen, shown_seen, deref_seen, deref_all_seen}
use Rattle.laws_calculus.proofs.Calculus.ReadsOnce.{reads_once, reads_alone}
use Rattle.gl_calculus.specs.Evaluation.Sound.{is_size, is_sound_frame, is_sound_key}
use Rattle.gl_calculus.specs.Formulas.Fit.{is_fit, is_fit_content, AreFit}
use Rattle.laws_calculus.specs.Sound.{IsSoundOutcome}
use Rattle.laws_calculus.proofs.Sound.Values.{IsSound, AllSound, IsSoundValue, extents_of, array_sound}
use Rattle.laws_calculus.proofs.Sound.Lift.{item_or_sound, item_sound, table_length}
use Rattle.laws_calculus.proofs.Sound.Sheets.{sheet_parts, SoundIf, override_sound}
use Rattle.std.specs.Prelude.{unwrap_or}

abbrev pub SoundFrame : Frame → Type 0
SoundFrame e = IsTrue (is_sound_frame e)

-- ---- contents

abbrev pub FitContent : Option Content → Type 0
FitContent None = Unit {0}
FitContent (Some c) = IsTrue (is_fit_content c)

abbrev pub FitHeld : Option Held → Type 0
FitHeld None = Unit {0}
FitHeld (Some (Given v)) = IsSoundValue v
FitHeld (Some (Computed f)) = IsTrue (is_fit f)

content_if : (b : Bool) (x y : Option Content) → FitContent x → FitContent y → FitContent (if b then x else y)
content_if true x y h k = h
content_if false x y h k = k

pub content_fit : (S : Cells) (a : Addr) → AreFit S → FitContent (content S a)
content_fit [] a h = tt
content_fit (c ∷ cs) a h = content_if (same_addr a c.0) (Some c.1) (content cs a) h.0 (content_fit cs a h.1)

top_fit : (c : Option Content) → FitContent c → FitHeld (held_top c)
top_fit None h = tt
top_fit (Some (Const x)) h = h
top_fit (Some (Form f)) h = h

override_fit : (v : Option Value) (h : Option Held) → SoundIf v → FitHeld h → FitHeld (override_or v h)
override_fit (Some v) h p q = p
override_fit None h p q = q

held_fit : (c : Option Content) (e : Frame) (a : Addr) → FitContent c → SoundFrame e → FitHeld (content_in c e a)
held_fit c Top a h k = top_fit c h
held_fit c (In (sheet_value r os e n w) o) a h k =
    let p = sheet_parts r os e n w k in
    override_fit (override_at os a) (content_in c e a) (override_sound os a p.overrides) (held_fit c e a h p.frame)

held_if : (b : Bool) (x : Option Held) → FitHeld x → FitHeld (if b then x else None)
held_if true x h = h
held_if false x h = tt

pub own_fit : (c : Option Content) (e : Frame) (a : Addr) → FitContent c → SoundFrame e → FitHeld (own_content c e a)
own_fit c e a h k = held_if (in_region e a) (content_in c e a) (held_fit c e a h k)

frame_if : (b : Bool) (e f : Frame) → SoundFrame e → SoundFrame f → SoundFrame (if b then e else f)
frame_if true e f h k = h
frame_if false e f h k = k

pub home_sound : (e : Frame) (a : Addr) → SoundFrame e → SoundFrame (home e a)
home_sound Top a h = refl
home_sound (In (sheet_value r os e k w) o) a h = frame_if (covers r a) (In (sheet_value r os e k w) o) (home e a) h (home_sound e a (sheet_parts r os e k w h).frame)

-- ---- facts

abbrev pub FitFact : Fact → Type 0
FitFact x = FitContent x.content

abbrev pub FitFacts : List Fact → Type 0
FitFacts xs = AllByRecursion FitFact xs

abbrev pub FactIf : Option Fact → Type 0
FactIf None = Unit {0}
FactIf (Some x) = FitFact x

fact_if : (b : Bool) (x y : Option Fact) → FactIf x → FactIf y → FactIf (if b then x else y)
fact_if true x y h k = h
fact_if false x y h k = k

found_fit : (xs : List Fact) (a : Addr) → FitFacts xs → FactIf (find_fact xs a)
found_fit [] a h = tt
found_fit (x ∷ xs) a h = fact_if (same_addr x.address a) (Some x) (find_fact xs a) h.0 (found_fit xs a h.1)

or_fit : (a : Addr) (x : Option Fact) → FactIf x → FitFact (unwrap_or x (record { address = a; content = None; status = None; cover = None }))
or_fit a (Some x) h = h
or_fit a None h = tt

pub at_fit : (xs : List Fact) (a : Addr) → FitFacts xs → FitFact (fact_at xs a)
at_fit xs a h = or_fit a (find_fact xs a) (found_fit xs a h)

-- ---- what is read

pub shown_sound : (p : Option Permit) (v : Value) → IsSoundValue v → IsSound (shown p v)
shown_sound p (One x) h = h
shown_sound (Some V.Permit.Refused) (Array s xs) h = refl
shown_sound (Some V.Permit.Permitted) (Array s xs) h = item_sound (Array s xs) 0 0 h
shown_sound None (Array s xs) h = item_sound (Array s xs) 0 0 h

pub spilled_sound : (v : Option Value) (i j : ℕ) → SoundIf v → IsSound (spilled v i j)
spilled_sound (Some (Array s xs)) i j h = item_or_sound Scalar.Blank (Array s xs) i j refl h
spilled_sound (Some (One x)) i j h = refl
spilled_sound None i j h = refl

spilling_sound : (v : Option Value) → SoundIf v → IsSoundValue (spilling v)
spilling_sound (Some (Array s xs)) h = h
spilling_sound (Some (One x)) h = refl
spilling_sound None h = refl

module _ (S : Cells) (w : Oracle) where
  facts_at : AreFit S → (xs : List Addr) → FitFacts (map (fact S w) xs)
  facts_at fit [] = tt
  facts_at fit (a ∷ xs) = (content_fit S a fit, facts_at fit xs)

  pub facts_fit : AreFit S → (r : Range) → FitFacts (facts S w r)
  facts_fit fit r = facts_at fit (addresses r)

  pub facts_count : (r : Range) → length (facts S w r) ≡ (extents r).rows * (extents r).cols
  facts_count r =
      length-map (addresses r) (fact S w) ∙ table_length (λ i j. addr j i) r.first.col (extents r).cols (range_with_len r.first.row (extents r).rows)
      ∙ ap (λ n. n * (extents r).cols) (length-range_with_len r.first.row (extents r).rows)

  -- ---- evaluations

  abbrev pub OnOk : {X : Type 0} → (X → Type 0) → Result X Budget → Type 0
  OnOk Q (Ok x) = Q x
  OnOk Q (Err b) = Unit {0}

  -- an evaluation that asks for sound keys alone, and whose results have the property, where each answer is sound
  abbrev pub Good : {X : Type 0} → (X → Type 0) → Eval X → Type 0
  Good Q p = Keeps (λ k. IsTrue (is_sound_key k)) IsSoundOutcome (OnOk Q) (given (facts S w) p)

  pub good_then : {X Y : Type 0} (Q : X → Type 0) (P : Y → Type 0) (p : Eval X) (f : X → Eval Y) → Good Q p → ((x : X) → Q x → Good P (f x)) → Good P (p >>= f)
  good_then Q P p f e g = keeps_bind (λ k. IsTrue (is_sound_key k)) IsSoundOutcome (OnOk Q) (OnOk P) (facts S w) p (on_result f) e (elim [ Ok x ↦ λ q. g x q | Err b ↦ λ q. keeps_return tt ])

  pub good_value : (e : Frame) (a : Addr) (h : Option Held) → SoundFrame e → FitHeld h → Good SoundIf (value_of e a h)
  good_value e a None s t = keeps_return tt
  good_value e a (Some (Given v)) s t = keeps_return t
  good_value e a (Some (Computed f)) s t =
      keeps_ask {c = λ o. given (facts S w) (own_value o)} s (elim [ Outcome.Value v ↦ λ t. keeps_return t.0 | Settled o ↦ λ t. keeps_return tt | Abort b ↦ λ t. keeps_return tt ])

  pub good_own : (e : Frame) (x : Fact) → SoundFrame e → FitFact x → Good SoundIf (own e x)
  good_own e x s t = good_value e x.address (own_content x.content e x.address) s (own_fit x.content e x.address t s)

  -- a reading: a sound scalar, and facts that fit
  abbrev pub SoundReading : Reading → Type 0
  SoundReading y = IsSound y.0 × FitFacts y.1

  module _ (fit : AreFit S) where
    good_root : (a : Addr) (x : Option Fact) → FactIf x → Good FitFact (seen_or_looked a x)
    good_root a (Some x) t = keeps_return t
    good_root a None t = keeps_look (keeps_return (at_fit (facts S w (single a)) a (facts_fit fit (single a))))

    good_covered : (e : Frame) (seen : List Fact) (c : Option Cover) → SoundFrame e → FitFacts seen → Good SoundReading (covered_seen e seen c)
    good_covered e seen None s t = keeps_return (refl, t)
    good_covered e seen (Some c) s t =
        good_then FitFact SoundReading _ _ (good_root c.root (find_fact seen c.root) (found_fit seen c.root t))
        (λ x f. good_then SoundIf SoundReading _ _ (good_own e x s f) (λ v u. keeps_return (spilled_sound v c.rows c.cols u, (f, t))))

    good_shown : (e : Frame) (seen : List Fact) (x : Fact) (v : Option Value) → SoundFrame e → FitFacts seen → SoundIf v → Good SoundReading (shown_seen e seen x v)
    good_shown e seen x (Some v) s t u = keeps_return (shown_sound (R.status_in x e) v u, t)
    good_shown e seen x None s t u = good_covered e seen (R.cover_in x e) s t

    pub good_deref : (e : Frame) (seen : List Fact) (x : Fact) → SoundFrame e → FitFact x → FitFacts seen → Good SoundReading (deref_seen e seen x)
    good_deref e seen x s f t =
        let h = home_sound e x.address s in
        good_then SoundIf SoundReading _ _ (good_own (home e x.address) x h f) (λ v u. good_shown (home e x.address) seen x v h t u)

    -- so many sound scalars
    abbrev pub SoundList : ℕ → List Scalar → Type 0
    SoundList n ys = (length ys ≡ n) × AllSound ys

    pub good_deref_all : (e : Frame) (seen rest : List Fact) → SoundFrame e → FitFacts seen → FitFacts rest → Good (SoundList (length rest)) (deref_all_seen e seen rest)
    good_deref_all e seen [] s t u = keeps_return (refl, tt)
    good_deref_all e seen (x ∷ rest) s t (f, u) =
        good_then SoundReading (SoundList (length (x ∷ rest))) _ _ (good_deref e seen x s f t)
        (λ y q. good_then (SoundList (length rest)) (SoundList (length (x ∷ rest))) _ _ (good_deref_all e y.1 rest s q.1 u) (λ ys z. keeps_return (ap suc z.0, (q.0, z.1))))

    pub good_address : (e : Frame) (a : Addr) → SoundFrame e → Good IsSoundValue (at_address e a)
    good_address e a s =
        subst (Good IsSoundValue) (sym (reads_alone e a))
        (keeps_look (good_then SoundReading IsSoundValue _ _ (good_deref e [] (fact_at (facts S w (single a)) a) s (at_fit (facts S w (single a)) a (facts_fit fit (single a))) tt) (λ y q. keeps_return q.0)))

    pub good_range : (e : Frame) (r : Range) → SoundFrame e → IsTrue (is_size (extents r)) → Good IsSoundValue (at_range e r)
    good_range e r s z =
        subst (Good IsSoundValue) (sym (reads_once e r))
        (keeps_look (good_then (SoundList (length (facts S w r))) IsSoundValue _ _ (good_deref_all e [] (facts S w r) s tt (facts_fit fit r))
        (λ ys q. keeps_return (array_sound (extents r) ys (extents_of (extents r) z) (q.0 ∙ facts_count r) q.1))))

    good_whole : (e : Frame) (x : Fact) (h : Option Held) (p : Option Permit) → SoundFrame e → FitFact x → Good IsSoundValue (R.whole e x h p)
    good_whole e x (Some h) (Some V.Permit.Permitted) s f = good_then SoundIf IsSoundValue _ _ (good_own e x s f) (λ v u. keeps_return (spilling_sound v u))
    good_whole e x (Some h) (Some V.Permit.Refused) s f = keeps_return refl
    good_whole e x (Some h) None s f = keeps_return refl
    good_whole e x None p s f = keeps_return refl

    pub good_spill : (e : Frame) (a : Addr) → SoundFrame e → Good IsSoundValue (spill_of e a)
    good_spill e a s = keeps_look (good_whole (home e a) (fact_at (facts S w (single a)) a) _ _ (home_sound e a s) (at_fit (facts S w (single a)) a (facts_fit fit (single a))))
