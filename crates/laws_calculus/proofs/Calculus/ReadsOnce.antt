-- A reference reads as one that goes on with the roots that it has seen.
use Rattle.std.proofs.Common.{◌≡◌, ℕ, Bool, true, false, List, [], ◌∷◌, Option, Some, None, Ok, Err, if◌then◌else◌, refl, ap, sym, subst, ◌∙◌}
use mathlib.Core.Path.{fun_ext}
use Rattle.gl_calculus.specs.Computation.Evaluation.{Done, LookAt, Demand}
use Rattle.gl_calculus.specs.Grid.Grid.{Addr, same_addr, Range, single, extents}
use Rattle.gl_calculus.specs.Values.Value.{Scalar, Value, One, Array, scalars, Frame}
use Rattle.gl_calculus.specs.Evaluation.Oracle.{Cover}
use Rattle.gl_calculus.specs.Evaluation.Facts.{Fact, find_fact, fact_at}
use Rattle.gl_calculus.specs.Evaluation.Key.{Cell, Outcome, Settled, Abort, Eval, give, ◌>>=◌}
use Rattle.gl_calculus.specs.Evaluation.Reference.{Held, Given, Computed, own_content, home, cover_in, value_of, own, spilled, covered, shown_by, deref, deref_all, once, at_address, at_range}
use Rattle.gl_calculus.proofs.Tests.{addr_exact}
use Rattle.gl_machine.specs.Seen.{seen_or_looked, Reading, covered_seen, shown_seen, deref_seen, deref_all_seen, address_seen, range_seen}

-- ---- evaluations one after another

then_twice : {R T U : Type 0} (p : Eval R) (f : R → Eval T) (g : T → Eval U) → ((p >>= f) >>= g) ≡ (p >>= λ x. f x >>= g)
then_twice (Done (Ok x)) f g = refl
then_twice (Done (Err b)) f g = refl
then_twice (LookAt r c) f g = ap (LookAt r) (fun_ext (λ xs. then_twice (c xs) f g))
then_twice (Demand k c) f g = ap (Demand k) (fun_ext (λ o. then_twice (c o) f g))

then_same : {R T : Type 0} (p : Eval R) (f g : R → Eval T) → ((x : R) → f x ≡ g x) → (p >>= f) ≡ (p >>= g)
then_same p f g h = ap (λ k. p >>= k) (fun_ext h)

-- ---- facts that are seen

-- both lists find the same facts
abbrev FindSame : List Fact → List Fact → Type 0
FindSame s t = (a : Addr) → find_fact s a ≡ find_fact t a

found_address : (s : List Fact) (a : Addr) (x : Fact) → find_fact s a ≡ Some x → same_addr x.address a ≡ true
found_address [] a x e = absurd (cc e)
found_address (y ∷ s) a x e = by (same_addr y.address a) refl e (found_address s a x)
  where
    by : (b : Bool) → same_addr y.address a ≡ b → (if b then Some y else find_fact s a) ≡ Some x → (find_fact s a ≡ Some x → same_addr x.address a ≡ true) → same_addr x.address a ≡ true
    by true d h k = let same : y ≡ x = cc h in subst (λ z. same_addr z.address a ≡ true) same d
    by false d h k = k h

fact_alone : (x : Fact) (a : Addr) → same_addr x.address a ≡ true → fact_at (x ∷ []) a ≡ x
fact_alone x a e = rw e refl

-- a fact that is found is seen already
seen_already : (s : List Fact) (a : Addr) (x : Fact) → find_fact s a ≡ Some x → FindSame s (x ∷ s)
seen_already s a x e b = by (same_addr x.address b) refl
  where
    by : (c : Bool) → same_addr x.address b ≡ c → find_fact s b ≡ (if c then Some x else find_fact s b)
    by true d = subst (λ z. find_fact s z ≡ Some x) (sym (addr_exact x.address a (found_address s a x e)) ∙ addr_exact x.address b d) e
    by false d = refl

-- what a root shows, beside the facts that are seen with it
abbrev beside : ℕ → ℕ → List Fact → Option Value → Eval Reading
beside i j t v = give (spilled v i j, t)

-- how a look goes on by what is found
abbrev looked : {R : Type 0} → List Fact → Range → (List Fact → Eval R) → Option Fact → Eval R
looked s r c (Some x) = once s (c (x ∷ []))
looked s r c None = LookAt r (λ xs. once (fact_at xs r.first ∷ s) (c xs))

once_same : {R : Type 0} (s t : List Fact) → FindSame s t → (p : Eval R) → once s p ≡ once t p
once_same s t h (Done r) = refl
once_same s t h (Demand k c) = ap (Demand k) (fun_ext (λ o. once_same s t h (c o)))
once_same s t h (LookAt r c) =
    ap (looked s r c) (h r.first)
    ∙ (elim (find_fact t r.first) as (λ o. looked s r c o ≡ looked t r c o) [
      | Some x ↦ once_same s t h (c (x ∷ []))
      | None ↦ ap (LookAt r) (fun_ext (λ xs. once_same (fact_at xs r.first ∷ s) (fact_at xs r.first ∷ t) (λ a. ap (λ o. if same_addr (fact_at xs r.first).address a then Some (fact_at xs r.first) else o) (h a)) (c xs)))
    ])

-- ---- an address

module _ {T : Type 0} (k : Scalar → Eval T) where
  root_once : (e : Frame) (a : Addr) (h : Option Held) (s t : List Fact) (i j : ℕ) → FindSame s t → once s ((value_of e a h >>= λ v. give (spilled v i j)) >>= k) ≡ ((value_of e a h >>= beside i j t) >>= λ y. once y.1 (k y.0))
  root_once e a None s t i j h = once_same s t h (k (spilled None i j))
  root_once e a (Some (Given v)) s t i j h = once_same s t h (k (spilled (Some v) i j))
  root_once e a (Some (Computed f)) s t i j h = ap (Demand (Cell e a)) (fun_ext (elim [
    | Outcome.Value v ↦ once_same s t h (k (spilled (Some v) i j))
    | Settled o ↦ once_same s t h (k (spilled None i j))
    | Abort b ↦ refl
  ]))

  covered_once : (e : Frame) (s : List Fact) (c : Option Cover) → once s (covered e c >>= k) ≡ (covered_seen e s c >>= λ y. once y.1 (k y.0))
  covered_once e s None = refl
  covered_once e s (Some c) = by (find_fact s c.root) refl
    where
      by : (o : Option Fact) → find_fact s c.root ≡ o → looked s (single c.root) (λ xs. (own e (fact_at xs c.root) >>= λ v. give (spilled v c.rows c.cols)) >>= k) o ≡ ((seen_or_looked c.root o >>= λ x. own e x >>= beside c.rows c.cols (x ∷ s)) >>= λ y. once y.1 (k y.0))
      by (Some x) d =
          ap (λ y. once s ((own e y >>= λ v. give (spilled v c.rows c.cols)) >>= k)) (fact_alone x c.root (found_address s c.root x d))
          ∙ root_once e x.address (own_content x.content e x.address) s (x ∷ s) c.rows c.cols (seen_already s c.root x d)
      by None d = ap (LookAt (single c.root)) (fun_ext (λ xs. let x = fact_at xs c.root in root_once e x.address (own_content x.content e x.address) (x ∷ s) (x ∷ s) c.rows c.cols (λ b. refl)))

  deref_once : (e : Frame) (s : List Fact) (x : Fact) → once s (deref e x >>= k) ≡ (deref_seen e s x >>= λ y. once y.1 (k y.0))
  deref_once e s x = by (own_content x.content (home e x.address) x.address)
    where
      by : (h : Option Held) → once s ((value_of (home e x.address) x.address h >>= shown_by (home e x.address) x) >>= k) ≡ ((value_of (home e x.address) x.address h >>= shown_seen (home e x.address) s x) >>= λ y. once y.1 (k y.0))
      by None = covered_once (home e x.address) s (cover_in x (home e x.address))
      by (Some (Given v)) = refl
      by (Some (Computed f)) = ap (Demand (Cell (home e x.address) x.address)) (fun_ext (elim [
        | Outcome.Value v ↦ refl
        | Settled o ↦ covered_once (home e x.address) s (cover_in x (home e x.address))
        | Abort b ↦ refl
      ]))

-- ---- the laws

module _ {T : Type 0} where
  all_once : (f : List Scalar → T) (e : Frame) (s xs : List Fact) → once s (deref_all e xs >>= λ ys. give (f ys)) ≡ (deref_all_seen e s xs >>= λ ys. give (f ys))
  all_once f e s [] = refl
  all_once f e s (x ∷ xs) =
      let whole : List Scalar → Eval T = λ ys. give (f ys) in
      let on : Scalar → Eval T = λ y. deref_all e xs >>= λ ys. give (f (y ∷ ys)) in
      ap (once s) (then_twice (deref e x) (λ y. deref_all e xs >>= λ ys. give (y ∷ ys)) whole ∙ then_same (deref e x) _ on (λ y. then_twice (deref_all e xs) (λ ys. give (y ∷ ys)) whole))
      ∙ deref_once on e s x
      ∙ then_same (deref_seen e s x) _ _ (λ y. all_once (λ ys. f (y.0 ∷ ys)) e y.1 xs ∙ sym (then_twice (deref_all_seen e y.1 xs) (λ ys. give (y.0 ∷ ys)) whole))
      ∙ sym (then_twice (deref_seen e s x) (λ y. deref_all_seen e y.1 xs >>= λ ys. give (y.0 ∷ ys)) whole)

-- a range that looks at a root once
pub reads_once : (e : Frame) (r : Range) → at_range e r ≡ range_seen e r
reads_once e r = ap (LookAt r) (fun_ext (λ xs. all_once (λ ys. Array (extents r) (scalars ys)) e [] xs))

-- an address, of which one root at most is looked at
covered_alone : (e : Frame) (c : Option Cover) → (covered e c >>= λ y. give (One y)) ≡ (covered_seen e [] c >>= λ y. give (One y.0))
covered_alone e None = refl
covered_alone e (Some c) = ap (LookAt (single c.root)) (fun_ext (λ xs. let x = fact_at xs c.root in by x.address (own_content x.content e x.address) x))
  where
    by : (a : Addr) (h : Option Held) (x : Fact) → ((value_of e a h >>= λ v. give (spilled v c.rows c.cols)) >>= λ y. give (One y)) ≡ ((value_of e a h >>= beside c.rows c.cols (x ∷ [])) >>= λ y. give (One y.0))
    by a None x = refl
    by a (Some (Given v)) x = refl
    by a (Some (Computed f)) x = ap (Demand (Cell e a)) (fun_ext (elim [ Outcome.Value v ↦ refl | Settled o ↦ refl | Abort b ↦ refl ]))

deref_alone : (e : Frame) (x : Fact) → (deref e x >>= λ y. give (One y)) ≡ (deref_seen e [] x >>= λ y. give (One y.0))
deref_alone e x = by (own_content x.content (home e x.address) x.address)
  where
    by : (h : Option Held) → ((value_of (home e x.address) x.address h >>= shown_by (home e x.address) x) >>= λ y. give (One y)) ≡ ((value_of (home e x.address) x.address h >>= shown_seen (home e x.address) [] x) >>= λ y. give (One y.0))
    by None = covered_alone (home e x.address) (cover_in x (home e x.address))
    by (Some (Given v)) = refl
    by (Some (Computed f)) = ap (Demand (Cell (home e x.address) x.address)) (fun_ext (elim [
      | Outcome.Value v ↦ refl
      | Settled o ↦ covered_alone (home e x.address) (cover_in x (home e x.address))
      | Abort b ↦ refl
    ]))

pub reads_alone : (e : Frame) (a : Addr) → at_address e a ≡ address_seen e a
reads_alone e a = ap (LookAt (single a)) (fun_ext (λ xs. deref_alone e (fact_at xs a)))
