-- What a range and a round of a settling demand.
use Rattle.std.proofs.Common.{◌≡◌, List, [], ◌∷◌, ◌++◌, inl, inr, Bool, true, false, cond, Option, Some, None, Ok, if◌then◌else◌, refl, sym, ap, subst, ◌∙◌}
use Rattle.gl_calculus.specs.Computation.Query.{Ready, Need, next, found}
use Rattle.gl_calculus.specs.Computation.Evaluation.{LookAt, Demand, bind, given, then_found}
use Rattle.laws_calculus.proofs.Query.Forming.{found-bind}
use Rattle.gl_calculus.specs.Grid.Grid.{Addr, same_addr, Range, single, extents}
use Rattle.gl_calculus.specs.Formulas.Formula.{Cells}
use Rattle.gl_calculus.specs.Values.Value.{Oracle, Value, One, Array, Scalar, Blank, scalars, Frame}
use Rattle.gl_calculus.specs.Evaluation.Oracle.{Sizes, Cover}
use Rattle.gl_calculus.specs.Evaluation.Facts.{Fact, fact, facts, find_fact}
use Rattle.gl_calculus.specs.Evaluation.Key.{Key, Cell, Outcome, Eval, give, on_result, own_value, ◌>>=◌}
use Rattle.gl_calculus.specs.Evaluation.Reference.{Held, Given, Computed, home, own_content, status_in, cover_in, value_of, own, shown, spilled, at_address, at_range}
use Rattle.gl_machine.specs.Seen.{seen_or_looked, Reading, covered_seen, shown_seen, deref_seen, deref_all_seen}
use Rattle.laws_calculus.proofs.Calculus.ReadsOnce.{reads_once, reads_alone}
use Rattle.gl_calculus.specs.Evaluation.Evaluation.{array_at, arrays}
use Rattle.laws_calculus.proofs.Calculus.Proper.{fact_at_single}
use Rattle.gl_calculus.proofs.Tests.{addr_exact}
use Rattle.gl_machine.specs.Ahead.Ahead.{first_lacked, AreThrough}
use Rattle.gl_machine.specs.Ahead.Demands.{is_value, held_keys, own_keys, cover_keys, shown_keys, address_keys, range_keys, round_keys}
use Rattle.laws_calculus.specs.Ahead.{RangeDemands, RoundDemands}
use Rattle.laws_calculus.proofs.Ahead.Onward.{split, both_through}

module _ (S : Cells) (w : Oracle) (g : Key → Option Outcome) where
  -- an evaluation needs the first of these keys without outcome, and with values of all comes to a result with the property
  abbrev pub Follows : {R : Type 0} → List Key → Eval R → (R → Type 0) → Type 0
  Follows {R} ks p P = ((i : Key) → first_lacked is_value g ks ≡ Some i → found g (given (facts S w) p) ≡ Need i) × (AreThrough is_value g ks → (r : R) × (found g (given (facts S w) p) ≡ Ready (Ok r)) × P r)

  follows_give : {R : Type 0} {P : R → Type 0} (r : R) → P r → Follows [] (give r) P
  follows_give r h = (λ i e. absurd (cc e), λ t. (r, refl, h))

  follows_then : {R T : Type 0} {P : R → Type 0} {Q : T → Type 0} (ks js : List Key) (p : Eval R) (h : R → Eval T) → Follows ks p P → ((r : R) → P r → Follows js (h r) Q) → Follows (ks ++ js) (p >>= h) Q
  follows_then ks js p h a b = (
    λ i e. elim (split is_value g ks js i e) [
      | inl d ↦ found-bind (facts S w) g (on_result h) p ∙ ap (λ t. then_found t (λ r. found g (given (facts S w) (on_result h r)))) (a.0 i d)
      | inr d ↦ let (r, e', q) = a.1 d.0 in found-bind (facts S w) g (on_result h) p ∙ ap (λ t. then_found t (λ r. found g (given (facts S w) (on_result h r)))) e' ∙ (b r q).0 i d.1
    ],
    λ t. let (u, v) = both_through is_value g ks js t in let (r, e', q) = a.1 u in let (x, e'', q') = (b r q).1 v in
        (x, found-bind (facts S w) g (on_result h) p ∙ ap (λ t. then_found t (λ r. found g (given (facts S w) (on_result h r)))) e' ∙ e'', q'),
  )

  follows_end : {R T : Type 0} {P : R → Type 0} {Q : T → Type 0} (ks : List Key) (p : Eval R) (h : R → T) → Follows ks p P → ((r : R) → P r → Q (h r)) → Follows ks (p >>= λ r. give (h r)) Q
  follows_end ks p h a b = (
    λ i e. found-bind (facts S w) g (on_result (λ r. give (h r))) p ∙ ap (λ t. then_found t (λ r. found g (given (facts S w) (on_result (λ r. give (h r)) r)))) (a.0 i e),
    λ t. let (r, e, q) = a.1 t in (h r, found-bind (facts S w) g (on_result (λ r. give (h r))) p ∙ ap (λ t. then_found t (λ r. found g (given (facts S w) (on_result (λ r. give (h r)) r)))) e, b r q),
  )

  abbrev pub Any : {R : Type 0} → R → Type 0
  Any r = Unit {0}

  -- ---- own values

  -- a demanded key, and what follows by its value
  follows_key : {T : Type 0} {Q : T → Type 0} (k : Key) (h : Option Value → Eval T) → ((v : Value) → (r : T) × (found g (given (facts S w) (h (Some v))) ≡ Ready (Ok r)) × Q r) → Follows (k ∷ []) (Demand k own_value >>= h) Q
  follows_key {T} {Q} k h b = (λ i e. needs i (g k) e, λ t. let ((o, e, u), v) = t in through o e u)
    where
      none : (c : Bool) (i : Key) → cond c (None) None ≡ Some i → ⊥
      none true i e = cc e
      none false i e = cc e

      needs : (i : Key) (v : Option Outcome) → next (Some k) v (λ o. cond (is_value o) None None) ≡ Some i → next (Need k) v (λ o. found g (given (facts S w) (bind (own_value o) (on_result h)))) ≡ Need i
      needs i None e = let d : k ≡ i = cc e in ap Need d
      needs i (Some o) e = absurd (none (is_value o) i e)

      through : (o : Outcome) → g k ≡ Some o → is_value o ≡ true → (r : T) × (next (Need k) (g k) (λ o. found g (given (facts S w) (bind (own_value o) (on_result h)))) ≡ Ready (Ok r)) × Q r
      through (Outcome.Value v) e u = let (r, d, q) = b v in (r, rw e d, q)
      through (Outcome.Settled o) e u = absurd (cc u)
      through (Outcome.Abort c) e u = absurd (cc u)

  -- the own value of an address, and what follows by it, where that demands nothing
  follows_own : {T : Type 0} {Q : T → Type 0} (e : Frame) (a : Addr) (c : Option Held) (h : Option Value → Eval T) → ((v : Option Value) → (r : T) × (found g (given (facts S w) (h v)) ≡ Ready (Ok r)) × Q r) → Follows (held_keys e a c) (value_of e a c >>= h) Q
  follows_own e a None h b = let (r, d, q) = b None in (λ i x. absurd (cc x), λ t. (r, d, q))
  follows_own e a (Some (Given v)) h b = let (r, d, q) = b (Some v) in (λ i x. absurd (cc x), λ t. (r, d, q))
  follows_own e a (Some (Computed f)) h b = follows_key (Cell e a) h (λ v. b (Some v))

  -- ---- addresses

  -- the roots that were looked at are seen as they are
  abbrev IsTrueSeen : List Fact → Type 0
  IsTrueSeen seen = (a : Addr) (x : Fact) → find_fact seen a ≡ Some x → x ≡ fact S w a

  seen_root : (seen : List Fact) (a : Addr) → IsTrueSeen seen → IsTrueSeen (fact S w a ∷ seen)
  seen_root seen a s b x = by (same_addr a b) refl
    where
      by : (c : Bool) → same_addr a b ≡ c → (if c then Some (fact S w a) else find_fact seen b) ≡ Some x → x ≡ fact S w b
      by true d e = let y : fact S w a ≡ x = cc e in sym y ∙ ap (fact S w) (addr_exact a b d)
      by false d e = s b x e

  abbrev Reads : Reading → Type 0
  Reads y = IsTrueSeen y.1

  covered_follows : (e : Frame) (seen : List Fact) (c : Option Cover) → IsTrueSeen seen → Follows (cover_keys (fact S w) e c) (covered_seen e seen c) Reads
  covered_follows e seen None s = follows_give (Blank, seen) s
  covered_follows e seen (Some c) s = by (find_fact seen c.root) refl
    where
      on : Fact → Eval Reading
      on x = own e x >>= λ v. give (spilled v c.rows c.cols, x ∷ seen)

      root : Follows (own_keys e (fact S w c.root)) (own e (fact S w c.root) >>= λ v. give (spilled v c.rows c.cols, fact S w c.root ∷ seen)) Reads
      root = follows_own e c.root (own_content (fact S w c.root).content e c.root) (λ v. give (spilled v c.rows c.cols, fact S w c.root ∷ seen)) (λ v. ((spilled v c.rows c.cols, fact S w c.root ∷ seen), refl, seen_root seen c.root s))

      by : (v : Option Fact) → find_fact seen c.root ≡ v → Follows (own_keys e (fact S w c.root)) (seen_or_looked c.root v >>= λ x. own e x >>= λ v. give (spilled v c.rows c.cols, x ∷ seen)) Reads
      by (Some x) d = subst (λ y. Follows (own_keys e (fact S w c.root)) (own e y >>= λ v. give (spilled v c.rows c.cols, y ∷ seen)) Reads) (sym (s c.root x d)) root
      by None d = subst (λ y. Follows (own_keys e (fact S w c.root)) (LookAt (single c.root) (λ xs. own e y >>= λ v. give (spilled v c.rows c.cols, y ∷ seen))) Reads) (sym (fact_at_single S w c.root)) root

  deref_follows : (e : Frame) (seen : List Fact) (x : Fact) → IsTrueSeen seen → Follows (address_keys (fact S w) e x) (deref_seen e seen x) Reads
  deref_follows e seen x s = by (own_content x.content (home e x.address) x.address)
    where
      h : Frame
      h = home e x.address

      by : (c : Option Held) → Follows (shown_keys (fact S w) (home e x.address) x c) (value_of (home e x.address) x.address c >>= shown_seen (home e x.address) seen x) Reads
      by None = covered_follows h seen (cover_in x h) s
      by (Some (Given v)) = follows_give (shown (status_in x h) v, seen) s
      by (Some (Computed f)) = follows_key (Cell h x.address) (shown_seen h seen x) (λ v. ((shown (status_in x h) v, seen), refl, s))

  range_follows : (e : Frame) (seen xs : List Fact) → IsTrueSeen seen → Follows {R = List Scalar} (range_keys (fact S w) e xs) (deref_all_seen e seen xs) Any
  range_follows e seen [] s = follows_give [] tt
  range_follows e seen (x ∷ xs) s =
      follows_then {P = Reads} (address_keys (fact S w) e x) (range_keys (fact S w) e xs) (deref_seen e seen x) (λ y. deref_all_seen e y.1 xs >>= λ ys. give (y.0 ∷ ys)) (deref_follows e seen x s)
      (λ y t. follows_end {P = Any} (range_keys (fact S w) e xs) (deref_all_seen e y.1 xs) (λ ys. y.0 ∷ ys) (range_follows e y.1 xs t) (λ ys u. tt))

  round_follows : (e : Frame) (xs : List Fact) → Follows {R = Sizes} (round_keys e xs) (arrays e xs) Any
  round_follows e [] = follows_give [] tt
  round_follows e (x ∷ xs) =
      follows_then {P = Any} (own_keys e x) (round_keys e xs) (own e x) (λ v. arrays e xs >>= λ zs. give (array_at x.address v ++ zs)) (own_follows e x)
      (λ v t. follows_end {P = Any} (round_keys e xs) (arrays e xs) (λ zs. array_at x.address v ++ zs) (round_follows e xs) (λ zs u. tt))
    where
      own_follows : (e : Frame) (x : Fact) → Follows {R = Option Value} (own_keys e x) (own e x) Any
      own_follows e x = by (own_content x.content e x.address)
        where
          by : (c : Option Held) → Follows {R = Option Value} (held_keys e x.address c) (value_of e x.address c) Any
          by None = follows_give None tt
          by (Some (Given v)) = follows_give (Some v) tt
          by (Some (Computed f)) = alone (Cell e x.address)
            where
              alone : (k : Key) → Follows {R = Option Value} (k ∷ []) (Demand k own_value) Any
              alone k = (λ i e. needs i (g k) e, λ t. let ((o, e, u), v) = t in through o e u)
                where
                  none : (c : Bool) (i : Key) → cond c (None) None ≡ Some i → ⊥
                  none true i e = cc e
                  none false i e = cc e

                  needs : (i : Key) (v : Option Outcome) → next (Some k) v (λ o. cond (is_value o) None None) ≡ Some i → next (Need k) v (λ o. found g (given (facts S w) (own_value o))) ≡ Need i
                  needs i None e = let d : k ≡ i = cc e in ap Need d
                  needs i (Some o) e = absurd (none (is_value o) i e)

                  through : (o : Outcome) → g k ≡ Some o → is_value o ≡ true → (r : Option Value) × (next (Need k) (g k) (λ o. found g (given (facts S w) (own_value o))) ≡ Ready (Ok r)) × Unit {0}
                  through (Outcome.Value v) e u = (Some v, rw e refl, tt)
                  through (Outcome.Settled o) e u = absurd (cc u)
                  through (Outcome.Abort c) e u = absurd (cc u)

  pub address_follows : (e : Frame) (a : Addr) → Follows {R = Value} (address_keys (fact S w) e (fact S w a)) (at_address e a) Any
  address_follows e a =
      subst (λ p. Follows {R = Value} (address_keys (fact S w) e (fact S w a)) p Any) (sym (reads_alone e a))
      (subst (λ y. Follows {R = Value} (address_keys (fact S w) e (fact S w a)) (LookAt (single a) (λ xs. deref_seen e [] y >>= λ y. give (One y.0))) Any) (sym (fact_at_single S w a))
      (follows_end {P = Reads} (address_keys (fact S w) e (fact S w a)) (deref_seen e [] (fact S w a)) (λ y. One y.0) (deref_follows e [] (fact S w a) (λ b x d. absurd (cc d))) (λ y u. tt)))

  pub area_follows : (e : Frame) (r : Range) → Follows {R = Value} (range_keys (fact S w) e (facts S w r)) (at_range e r) Any
  area_follows e r =
      let f : Follows {R = Value} (range_keys (fact S w) e (facts S w r)) (deref_all_seen e [] (facts S w r) >>= λ ys. give (Array (extents r) (scalars ys))) Any =
      follows_end {P = Any} (range_keys (fact S w) e (facts S w r)) (deref_all_seen e [] (facts S w r)) (λ ys. Array (extents r) (scalars ys)) (range_follows e [] (facts S w r) (λ b x d. absurd (cc d))) (λ ys u. tt) in
      subst (λ p. Follows {R = Value} (range_keys (fact S w) e (facts S w r)) p Any) (sym (reads_once e r)) f

pub range_demands : RangeDemands
range_demands S w e r g =
    let a = area_follows S w g e r in
    (a.0, λ t. let (v, d, u) = a.1 t in (v, d))

pub round_demands : RoundDemands
round_demands S w e xs g =
    let a = round_follows S w g e xs in
    (a.0, λ t. let (zs, d, u) = a.1 t in (zs, d))
