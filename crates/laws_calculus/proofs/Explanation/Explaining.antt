-- What certificates say, and what the walk's certificate is.
use Rattle.std.proofs.Common.{◌≡◌, inl, inr, ℕ, suc, Bool, true, false, List, [], ◌∷◌, map, Option, Some, None, refl, sym, ◌∙◌, subst, ap, arith, zero}
use Rattle.std.specs.List.{AllByRecursion}
use Rattle.gl_calculus.specs.Computation.Lists.{Member, has_member}
use Rattle.gl_calculus.specs.Computation.Query.{Has, Loops, EachAsked, no_ask, look, ask, Query}
use Rattle.gl_calculus.specs.Computation.Demanded.{Demanded, Seed, Read}
use Rattle.laws_calculus.proofs.Query.Levels.{Has-one, Has-Loops}
use Rattle.gl_calculus.specs.Grid.Limits.{max_demanded}
use Rattle.gl_calculus.specs.Grid.Grid.{Addr}
use Rattle.gl_calculus.specs.Values.Value.{Blank, Value, Oracle, Top}
use Rattle.gl_calculus.specs.Formulas.Formula.{Version, Formula, Content, Const, Form, Cells, content, formula_addresses}
use Rattle.gl_calculus.specs.Evaluation.Oracle.{Cover, cover}
use Rattle.gl_calculus.specs.Evaluation.Key.{Key, Cell, Settle, same_key, Outcome, Settled, Abort}
use Rattle.gl_calculus.specs.Evaluation.World.{World, world}
use Rattle.gl_calculus.specs.Evaluation.Evaluation.{program}
use Rattle.gl_calculus.specs.Calculation.Calculation as C
use Rattle.gl_calculus.specs.Calculation.Calculation.{Shown, Cycle, TopHas, IsShown, cycle, blank, IsUnspent, Ends, settled, is_abort, TopFails}
use Rattle.gl_calculus.specs.Evaluation.Sound.{IsProperKey}
use Rattle.gl_calculus.proofs.Tests.{key_equality, scalar_equality}
use Rattle.laws_calculus.proofs.Calculus.Proper.{asks_proper}
use Rattle.laws_calculus.proofs.Calculus.Settles.{formula_listed}
use Rattle.gl_calculus.specs.Evaluation.SameOutcome.{same_outcome}
use Rattle.laws_calculus.proofs.Calculus.OutcomeTests.{outcome_equality}
use Rattle.gl_calculus.specs.Explanation.Walk
use Rattle.gl_calculus.specs.Explanation.Walk.{Claim, noted, first_stray, first_free, Walked, Explained, Exhausted}
use Rattle.gl_calculus.specs.Explanation.Certificate as Ce
use Rattle.gl_calculus.specs.Explanation.Certificate.{same_shown, is_proper, key_at, key_by, formula_key, covering_key, says, says_so, shown_by_key, shown_by_note, value_shown, element_shown, loop_shown, constant_shown, Accepted, judged, verdict, Answer, work, aborts, cert, start}
use Rattle.laws_calculus.specs.Explanation.{AcceptedShows, WalkAccepted, SettledCertifies}
use Rattle.laws_calculus.proofs.Explanation.Claims.{true_notes, all_loop}
use Rattle.laws_calculus.proofs.Calculus.Shows.{constant_shows, formula_shows, blank_shows, element_shows, by_root}
use Rattle.laws_calculus.proofs.Query.Quiet.{seen_member}
use Rattle.laws_calculus.proofs.Explanation.Walks as Wa

-- ---- equality

pub shown_exact : (x y : Shown) → same_shown x y ≡ true → x ≡ y
shown_exact Cycle Cycle h = refl
shown_exact (Shown.Value x) (Shown.Value y) h = ap Shown.Value (scalar_equality.0 x y h)
shown_exact Cycle (Shown.Value y) h = absurd (cc h)
shown_exact (Shown.Value x) Cycle h = absurd (cc h)

pub shown_same : (x : Shown) → same_shown x x ≡ true
shown_same Cycle = refl
shown_same (Shown.Value x) = scalar_equality.1 x

pub judged_parts : (o p : Option ℕ) (b : Bool) → judged o p b ≡ Accepted → (o ≡ None) × (p ≡ None) × (b ≡ true)
judged_parts None None true e = (refl, refl, refl)
judged_parts (Some i) p b e = absurd (cc e)
judged_parts None (Some i) b e = absurd (cc e)
judged_parts None None false e = absurd (cc e)

says_parts : (x : Shown) (o : Option Shown) → says_so x o ≡ true → o ≡ Some x
says_parts x None e = absurd (cc e)
says_parts x (Some y) e = ap Some (sym (shown_exact x y e))

module _ (W : World) (a : Addr) (notes : List (Claim Key Outcome)) (loops : List Key) (known : (k : Key) (o : Outcome) → noted same_key notes k ≡ Some o → Has (program W) k o) (loop : (k : Key) → Member k loops → Loops (program W) k) where
  abbrev Seen : Shown → Type 0
  Seen = IsShown W a

  value_seen : (c : Option Content) (k : Key) (v : Value) → content W.sheet a ≡ c → key_by W.sheet W.oracle a c ≡ Some k → Has (program W) k (Outcome.Value v) → Seen (Shown.Value (value_shown W.oracle a c v))
  value_seen (Some (Form f)) k v e q h =
      let d : Cell Top a ≡ k = cc q in
      (formula_shows W a f v e (subst (λ u. Has (program W) u (Outcome.Value v)) (sym d) h))
  value_seen (Some (Const x)) k v e q h = absurd (cc q)
  value_seen None k v e q h = by (cover W.oracle a) refl q
    where
      by : (o : Option Cover) → cover W.oracle a ≡ o → covering_key W.sheet o ≡ Some k → Seen (Shown.Value (element_shown o v))
      by None u z = absurd (cc z)
      by (Some c) u z = (element_shows W a c v e u (subst (λ t. Has (program W) t (Outcome.Value v)) (sym (root_is (content W.sheet c.root) z)) h))
        where
          root_is : (o : Option Content) → formula_key c.root o ≡ Some k → Cell Top c.root ≡ k
          root_is (Some (Form f)) z = cc z
          root_is (Some (Const x)) z = absurd (cc z)
          root_is None z = absurd (cc z)

  loop_seen : (c : Option Content) (k : Key) → content W.sheet a ≡ c → key_by W.sheet W.oracle a c ≡ Some k → Loops (program W) k → Seen (loop_shown c)
  loop_seen (Some (Form f)) k e q l = let d : Cell Top a ≡ k = cc q in (cycle f e (subst (Loops (program W)) (sym d) l))
  loop_seen (Some (Const x)) k e q l = absurd (cc q)
  loop_seen None k e q l = by (cover W.oracle a) refl q
    where
      by : (o : Option Cover) → cover W.oracle a ≡ o → covering_key W.sheet o ≡ Some k → Seen (Shown.Value Blank)
      by None u z = absurd (cc z)
      by (Some c) u z = blank c e u (subst (Loops (program W)) (sym (root_is (content W.sheet c.root) z)) l)
        where
          root_is : (o : Option Content) → formula_key c.root o ≡ Some k → Cell Top c.root ≡ k
          root_is (Some (Form f)) z = cc z
          root_is (Some (Const x)) z = absurd (cc z)
          root_is None z = absurd (cc z)

  -- where no formula decides
  constant_seen : (c : Option Content) → content W.sheet a ≡ c → key_by W.sheet W.oracle a c ≡ None → Seen (constant_shown c)
  constant_seen (Some (Form f)) e q = absurd (cc q)
  constant_seen (Some (Const x)) e q = (constant_shows W a x e)
  constant_seen None e q = by (cover W.oracle a) refl q
    where
      by : (o : Option Cover) → cover W.oracle a ≡ o → covering_key W.sheet o ≡ None → Seen (Shown.Value Blank)
      by None u z = (blank_shows W a e u)
      by (Some c) u z = root (content W.sheet c.root) refl z
        where
          root : (o : Option Content) → content W.sheet c.root ≡ o → formula_key c.root o ≡ None → Seen (Shown.Value Blank)
          root (Some (Form f)) d y = absurd (cc y)
          root (Some (Const x)) d y = (by_root W a c Blank 0 e u (rw d refl))
          root None d y = (by_root W a c Blank 0 e u (rw d refl))

  says_seen : (x : Shown) → says W.sheet W.oracle a notes loops ≡ Some x → Seen x
  says_seen x e = by (key_at W.sheet W.oracle a) refl e
    where
      member : (k : Key) (b : Bool) → has_member same_key k loops ≡ b → b ≡ true → Member k loops
      member k b u v = seen_member same_key key_equality loops k (u ∙ v)

      noted_by : (k : Key) → key_at W.sheet W.oracle a ≡ Some k → (o : Option Outcome) → noted same_key notes k ≡ o → (b : Bool) → has_member same_key k loops ≡ b → shown_by_note W.oracle a (content W.sheet a) o b ≡ Some x → Seen x
      noted_by k q (Some (Outcome.Value v)) u b t z = let d : Shown.Value (value_shown W.oracle a (content W.sheet a) v) ≡ x = cc z in subst Seen d (value_seen (content W.sheet a) k v refl q (known k (Outcome.Value v) u))
      noted_by k q (Some (Settled o)) u b t z = absurd (cc z)
      noted_by k q (Some (Abort o)) u b t z = absurd (cc z)
      noted_by k q None u true t z = let d : loop_shown (content W.sheet a) ≡ x = cc z in subst Seen d (loop_seen (content W.sheet a) k refl q (loop k (member k true t refl)))
      noted_by k q None u false t z = absurd (cc z)

      by : (o : Option Key) → key_at W.sheet W.oracle a ≡ o → shown_by_key W.oracle a (content W.sheet a) notes loops o ≡ Some x → Seen x
      by None q z = let d : constant_shown (content W.sheet a) ≡ x = cc z in subst Seen d (constant_seen (content W.sheet a) refl q)
      by (Some k) q z = noted_by k q (noted same_key notes k) refl (has_member same_key k loops) refl z

pub accepted_shows : AcceptedShows
accepted_shows W a c e =
    let (p, q, r) = judged_parts _ _ _ e in
    let t = true_notes same_key same_outcome (is_proper W.sheet) (program W) key_equality outcome_equality c.notes p in
    says_seen W a c.notes c.loops t (all_loop same_key same_outcome (is_proper W.sheet) (program W) key_equality outcome_equality c.notes c.loops t q) c.shown (says_parts c.shown (says W.sheet W.oracle a c.notes c.loops) r)

-- ---- the walk

pub proper_test : (S : Cells) (k : Key) → IsProperKey S k → is_proper S k ≡ true
proper_test S (Cell e a) (f, h) = rw h refl
proper_test S (Settle s) h = refl

pub asks_test : (S : Cells) {A R : Type 0} → {q : Query Key Outcome A R} → EachAsked (IsProperKey S) q → EachAsked (λ k. is_proper S k ≡ true) q
asks_test S no_ask = no_ask
asks_test S (look e) = look (asks_test S e)
asks_test S (ask {k = k} p e) = ask (proper_test S k p) (λ o. asks_test S (e o))

-- the key that decides what an address shows is a formula's of the top
pub decides : (S : Cells) (w : Oracle) (a : Addr) (k : Key) → key_at S w a ≡ Some k → (b : Addr) × (f : Formula) × (k ≡ Cell Top b) × (content S b ≡ Some (Form f))
decides S w a k e = by (content S a) refl e
  where
    formula : (b : Addr) (c : Option Content) → content S b ≡ c → formula_key b c ≡ Some k → (b : Addr) × (f : Formula) × (k ≡ Cell Top b) × (content S b ≡ Some (Form f))
    formula b (Some (Form f)) d z = let q : Cell Top b ≡ k = cc z in (b, f, sym q, d)
    formula b (Some (Const x)) d z = absurd (cc z)
    formula b None d z = absurd (cc z)

    under : (o : Option Cover) → covering_key S o ≡ Some k → (b : Addr) × (f : Formula) × (k ≡ Cell Top b) × (content S b ≡ Some (Form f))
    under None z = absurd (cc z)
    under (Some c) z = formula c.root (content S c.root) refl z

    by : (c : Option Content) → content S a ≡ c → key_by S w a c ≡ Some k → (b : Addr) × (f : Formula) × (k ≡ Cell Top b) × (content S b ≡ Some (Form f))
    by (Some c) d z = formula a (Some c) d z
    by None d z = under (cover w a) z

pub root_proper : (S : Cells) (w : Oracle) (a : Addr) (k : Key) → key_at S w a ≡ Some k → is_proper S k ≡ true
root_proper S w a k e = let (b, f, d, h) = decides S w a k e in subst (λ u. is_proper S u ≡ true) (sym d) (rw h refl)

module _ (W : World) (a : Addr) where
  -- what the walk finds, where there is a key
  pub finds : (k : Key) (e : key_at W.sheet W.oracle a ≡ Some k) (r : Walked Key Outcome) → Ce.IsWalked W a r →
      Wa.Found' same_key same_outcome (is_proper W.sheet) max_demanded (program W) key_equality outcome_equality (λ k. asks_test W.sheet (asks_proper W.sheet W.oracle W.version k)) k (root_proper W.sheet W.oracle a k e) r
  finds k e r (n, h) =
      Wa.walk_finds same_key same_outcome (is_proper W.sheet) max_demanded (program W) key_equality outcome_equality (λ k. asks_test W.sheet (asks_proper W.sheet W.oracle W.version k)) k (root_proper W.sheet W.oracle a k e) n r
      (subst (λ o. Walk.walk same_key max_demanded (program W) n [] (start o) ≡ Some r) e h)

  -- where there is none
  finds_nothing : key_at W.sheet W.oracle a ≡ None → (r : Walked Key Outcome) → Ce.IsWalked W a r → r ≡ Explained [] []
  finds_nothing e r (n, h) = by n (subst (λ o. Walk.walk same_key max_demanded (program W) n [] (start o) ≡ Some r) e h)
    where
      by : (n : ℕ) → Walk.walk same_key max_demanded (program W) n [] [] ≡ Some r → r ≡ Explained [] []
      by zero z = absurd (cc z)
      by (suc n) z = cc z

  accepted_by : (notes : List (Claim Key Outcome)) (loops : List Key) (x : Shown) → first_stray same_key same_outcome (is_proper W.sheet) (program W) [] notes ≡ None → first_free same_key same_outcome (is_proper W.sheet) (program W) notes loops loops ≡ None → says W.sheet W.oracle a notes loops ≡ Some x → verdict W a (record { notes = notes; loops = loops; shown = x }) ≡ Accepted
  accepted_by notes loops x p q e = rw (p, q, e, shown_same x) refl

  walk_accepts : (notes : List (Claim Key Outcome)) (loops : List Key) (x : Shown) → Ce.IsWalked W a (Explained notes loops) → says W.sheet W.oracle a notes loops ≡ Some x → verdict W a (record { notes = notes; loops = loops; shown = x }) ≡ Accepted
  walk_accepts notes loops x r e = by (key_at W.sheet W.oracle a) refl
    where
      by : (o : Option Key) → key_at W.sheet W.oracle a ≡ o → verdict W a (record { notes = notes; loops = loops; shown = x }) ≡ Accepted
      by (Some k) u = let f = finds k u (Explained notes loops) r in accepted_by notes loops x f.stray f.free e
      by None u =
          let d : Explained notes loops ≡ Explained [] [] = finds_nothing u (Explained notes loops) r in
          let p : notes ≡ [] = cc d in
          let q : loops ≡ [] = cc d in
          accepted_by notes loops x (subst (λ t. first_stray same_key same_outcome (is_proper W.sheet) (program W) [] t ≡ None) (sym p) refl) (subst (λ t. first_free same_key same_outcome (is_proper W.sheet) (program W) notes t t ≡ None) (sym q) refl) e

pub walk_accepted : WalkAccepted
walk_accepted W a c (cert {notes = notes} {loops = loops} {x = x} r e) = walk_accepts W a notes loops x r e

-- ---- where the calculation is settled

more_seeds : {K O A : Type 0} (program : K → Query K O A O) (seeds : List K) (k j : K) → Member k seeds → Demanded program (k ∷ []) j → Demanded program seeds j
more_seeds program seeds k j m (Seed (inl e)) = Seed (subst (λ u. Member u seeds) (sym e) m)
more_seeds program seeds k j m (Seed (inr i)) = absurd i
more_seeds program seeds k j m (Read d i) = Read (more_seeds program seeds k _ m d) i

cell_member : (rest : List Addr) (a : Addr) → Member a rest → Member (Cell Top a) (map (Cell Top) rest)
cell_member [] a m = absurd m
cell_member (b ∷ rest) a (inl e) = inl (ap (Cell Top) e)
cell_member (b ∷ rest) a (inr m) = inr (cell_member rest a m)

unspent_of : (version : Version) (S : Cells) (i : ℕ) (v w : Oracle) (n : ℕ) → Ends version S i v (C.Answer.Settled w n) → IsUnspent (world version S w)
unspent_of version S i v w n (settled u next) = u

fails_at : (W : World) (rest : List Addr) (a : Addr) → Member a rest → AllByRecursion (TopFails W is_abort) rest → TopFails W is_abort a
fails_at W [] a m fs = absurd m
fails_at W (b ∷ rest) a (inl e) fs = subst (TopFails W is_abort) (sym e) fs.0
fails_at W (b ∷ rest) a (inr m) fs = fails_at W rest a m fs.1

pub settled_certifies : SettledCertifies
settled_certifies W i a _ o r (cert {notes = notes} {loops = loops} {x = x} h e) = (record { notes = notes; loops = loops; shown = x }, refl)
settled_certifies W i a _ o r (work h) = absurd (by (key_at W.sheet W.oracle a) refl)
  where
    u : IsUnspent W
    u = unspent_of W.version W.sheet r.round r.oracle W.oracle i r.ends

    by : (p : Option Key) → key_at W.sheet W.oracle a ≡ p → ⊥
    by None e = let d : Exhausted ≡ Explained [] [] = finds_nothing W a e Exhausted h in absurd (cc d)
    by (Some k) e =
        let (xs, l, d, t) = finds W a k e Exhausted h in
        let (b, f, q, c) = decides W.sheet W.oracle a k e in
        let m : Member k (map (Cell Top) (formula_addresses W.sheet)) = subst (λ z. Member z (map (Cell Top) (formula_addresses W.sheet))) (sym q) (cell_member (formula_addresses W.sheet) b (formula_listed W.sheet b f c)) in
        u.work (xs, omega (arith, l), d, λ j n. more_seeds (program W) (map (Cell Top) (formula_addresses W.sheet)) k j m (t j n))
settled_certifies W i a _ o r (aborts {k = k} {b = b} {notes = notes} {loops = loops} h e n) = absurd no
  where
    no : ⊥
    no =
        let u = unspent_of W.version W.sheet r.round r.oracle W.oracle i r.ends in
        let s = finds W a k e (Explained notes loops) h in
        let t = true_notes same_key same_outcome (is_proper W.sheet) (program W) key_equality outcome_equality notes s.stray in
        let g : Has (program W) k (Abort b) = t k (Abort b) n in
        let (c, f, q, d) = decides W.sheet W.oracle a k e in
        by c (subst (λ z. Has (program W) z (Abort b)) q g) (fails_at W (formula_addresses W.sheet) c (formula_listed W.sheet c f d) u.no_abort)
      where
        by : (c : Addr) → TopHas W c (Abort b) → TopFails W is_abort c → ⊥
        by c g (inl l) = Has-Loops (program W) (Cell Top c) (Abort b) g l
        by c g (inr (p, g', f)) = let q : p ≡ Abort b = Has-one (program W) (Cell Top c) p (Abort b) g' g in let z : is_abort p ≡ true = rw q refl in absurd (cc (z, f))
