-- Outcomes by levels: they stay at more levels, there is at most one, and one level over true outcomes gives them.
use Rattle.std.proofs.Common.{◌≡◌, ℕ, zero, suc, ◌+◌, List, [], ◌∷◌, inl, inr, Option, Some, None, refl, ap, subst, add-zero, add-suc, add_comm}
use Rattle.gl_calculus.specs.Computation.Lists.{Member}
use Rattle.gl_calculus.specs.Computation.Query.{Query, Return, Look, Ask, Found, Ready, Need, next, run, found, asked, looked, Path, Returns, Looks, Asks, Stops, val, Has, Loops, IsTrueTable}

-- a walk over a table is a path by its answers
pub path_over : {K O A : Type 0} (f : K → Option O) (q : Query K O A O) → Path (λ k o. f k ≡ Some o) (λ k. f k ≡ None) q (asked f q) (looked f q) (found f q)
path_over f (Return o) = Returns
path_over f (Look a q) = Looks (path_over f q)
path_over {K} {O} {A} f (Ask k c) =
    (elim (f k) as (λ v. f k ≡ v → Path (λ k o. f k ≡ Some o) (λ k. f k ≡ None) (Ask k c) (k ∷ next [] v (λ o. asked f (c o))) (next [] v (λ o. looked f (c o))) (next (Need k) v (λ o. found f (c o)))) [
      | None ↦ λ e. Stops e
      | Some o ↦ λ e. Asks e (path_over f (c o))
    ]) refl

-- a path stays one where each answer and each want is one by the other relations
pub path_map : {K O A : Type 0} (R S : K → O → Type 0) (N M : K → Type 0) → ((k : K) (o : O) → R k o → S k o) → ((k : K) → N k → M k) → {q : Query K O A O} {ks : List K} {ls : List A} {e : Found K O} → Path R N q ks ls e → Path S M q ks ls e
path_map R S N M h n Returns = Returns
path_map R S N M h n (Looks p) = Looks (path_map R S N M h n p)
path_map R S N M h n (Asks {k = k} {o = x} r p) = Asks (h k x r) (path_map R S N M h n p)
path_map R S N M h n (Stops {k = k} r) = Stops (n k r)

-- a path that ends with an outcome stays one where more is answered
pub wider : {K O A : Type 0} (R S : K → O → Type 0) (N M : K → Type 0) → ((k : K) (o : O) → R k o → S k o) → {q : Query K O A O} {ks : List K} {ls : List A} {o : O} → Path R N q ks ls (Ready o) → Path S M q ks ls (Ready o)
wider R S N M h Returns = Returns
wider R S N M h (Looks p) = Looks (wider R S N M h p)
wider R S N M h (Asks {k = k} {o = x} r p) = Asks (h k x r) (wider R S N M h p)

-- two paths of one query are the same where their relations agree
pub one_path : {K O A : Type 0} (R S : K → O → Type 0) (N M : K → Type 0) → ((k : K) (x y : O) → R k x → S k y → x ≡ y) → ((k : K) (x : O) → R k x → M k → ⊥) → ((k : K) (x : O) → S k x → N k → ⊥) → {q : Query K O A O} {ks js : List K} {ls ms : List A} {d e : Found K O} → Path R N q ks ls d → Path S M q js ms e → (ks ≡ js) × (ls ≡ ms) × (d ≡ e)
one_path R S N M one rm sn Returns Returns = (refl, refl, refl)
one_path R S N M one rm sn (Looks {a = a} p) (Looks q) = let (x, y, z) = one_path R S N M one rm sn p q in (x, ap (λ t. a ∷ t) y, z)
one_path {K} {O} {A} R S N M one rm sn {js = js'} {ms = ms'} {e = e'} (Asks {k = k} {c = c} {o = x} {ks = ks} {ls = ls} {e = d} r p) (Asks {o = y} {ks = js} {ls = ms} {e = e} s q) =
    let p' : Path R N (c y) ks ls d = subst (λ t. Path R N (c t) ks ls d) (one k x y r s) p in
    let (u, v, w) = one_path R S N M one rm sn p' q in (ap (λ t. k ∷ t) u, v, w)
one_path R S N M one rm sn (Asks {k = k} {o = x} r p) (Stops n) = absurd (rm k x r n)
one_path R S N M one rm sn (Stops {k = k} n) (Asks {o = y} s q) = absurd (sn k y s n)
one_path R S N M one rm sn (Stops n) (Stops m) = (refl, refl, refl)

-- a walk that ends with an outcome is what `run` gives
pub run_found : {K O A : Type 0} (f : K → Option O) (q : Query K O A O) (o : O) → run f q ≡ Some o → found f q ≡ Ready o
run_found f (Return x) o e = let h : x ≡ o = cc in ap Ready h
run_found f (Look a q) o e = run_found f q o e
run_found f (Ask k c) o e =
    (elim (f k) as (λ v. next None v (λ x. run f (c x)) ≡ Some o → next (Need k) v (λ x. found f (c x)) ≡ Ready o) [
      | None ↦ λ d. cc
      | Some x ↦ λ d. run_found f (c x) o d
    ]) e

pub run_path : {K O A : Type 0} (f : K → Option O) (q : Query K O A O) (o : O) → run f q ≡ Some o → Path (λ k o. f k ≡ Some o) (λ k. f k ≡ None) q (asked f q) (looked f q) (Ready o)
run_path f q o e = subst (λ t. Path (λ k o. f k ≡ Some o) (λ k. f k ≡ None) q (asked f q) (looked f q) t) (run_found f q o e) (path_over f q)

pub path_run : {K O A : Type 0} (f : K → Option O) (N : K → Type 0) → {q : Query K O A O} {ks : List K} {ls : List A} {o : O} → Path (λ k o. f k ≡ Some o) N q ks ls (Ready o) → run f q ≡ Some o
path_run f N Returns = refl
path_run f N (Looks p) = path_run f N p
path_run f N (Asks r p) = rw r (path_run f N p)

pub found_run : {K O A : Type 0} (f : K → Option O) (q : Query K O A O) (o : O) → found f q ≡ Ready o → run f q ≡ Some o
found_run f q o e = path_run f (λ k. f k ≡ None) (subst (λ t. Path (λ k o. f k ≡ Some o) (λ k. f k ≡ None) q (asked f q) (looked f q) t) e (path_over f q))

-- more answers, the same outcome
pub run_more : {K O A : Type 0} (f g : K → Option O) → ((k : K) (o : O) → f k ≡ Some o → g k ≡ Some o) → (q : Query K O A O) (o : O) → run f q ≡ Some o → run g q ≡ Some o
run_more f g h q o e = path_run g (λ k. g k ≡ None) (wider (λ k o. f k ≡ Some o) (λ k o. g k ≡ Some o) (λ k. f k ≡ None) (λ k. g k ≡ None) h (run_path f q o e))

module _ {K O A : Type 0} (program : K → Query K O A O) where
  -- an outcome stays with one level more
  pub val-suc : (n : ℕ) (k : K) (o : O) → val program n k ≡ Some o → val program (suc n) k ≡ Some o
  val-suc zero k o e = cc
  val-suc (suc n) k o e = run_more (val program n) (val program (suc n)) (val-suc n) (program k) o e

  -- and with any number more
  pub val-add : (n d : ℕ) (k : K) (o : O) → val program n k ≡ Some o → val program (n + d) k ≡ Some o
  val-add n zero k o e = rw add-zero e
  val-add n (suc d) k o e = rw add-suc (val-suc (n + d) k o (val-add n d k o e))

  -- a key has at most one outcome
  pub Has-one : (k : K) (x y : O) → Has program k x → Has program k y → x ≡ y
  Has-one k x y (n, d) (m, e) =
      let p : val program (n + m) k ≡ Some x = val-add n m k x d in
      let q : val program (n + m) k ≡ Some y = rw (add_comm n m) (val-add m n k y e) in
      cc

  -- a key with an outcome doesn't loop
  pub Has-Loops : (k : K) (x : O) → Has program k x → Loops program k → ⊥
  Has-Loops k x (n, d) l = let e : val program n k ≡ None = l n in cc

  -- a path along true outcomes is a run at some level
  pub path_level : (N : K → Type 0) → {q : Query K O A O} {ks : List K} {ls : List A} {o : O} → Path (Has program) N q ks ls (Ready o) → (n : ℕ) × (run (val program n) q ≡ Some o)
  path_level N Returns = (0, refl)
  path_level N (Looks p) = path_level N p
  path_level N (Asks {k = k} {c = c} {o = x} (n, d) p) =
      let (m, e) = path_level N p in
      (n + m, rw (val-add n m k x d) (run_more (val program m) (val program (n + m)) (λ j y h. rw (add_comm n m) (val-add m n j y h)) (c x) _ e))

  -- one level over true outcomes gives the key's outcome
  pub Has-from_level : (f : K → Option O) → IsTrueTable program f → (k : K) (o : O) → run f (program k) ≡ Some o → Has program k o
  Has-from_level f t k o e =
      let (n, d) = path_level (Loops program) (wider (λ k o. f k ≡ Some o) (Has program) (λ k. f k ≡ None) (Loops program) t (run_path f (program k) o e)) in
      (suc n, d)

  -- a key with an outcome has a path along true outcomes
  pub Has-path : (N : K → Type 0) (k : K) (o : O) → Has program k o → (ks : List K) × (ls : List A) × Path (Has program) N (program k) ks ls (Ready o)
  Has-path N k o (zero, d) = absurd (cc d)
  Has-path N k o (suc n, d) = (
    asked (val program n) (program k),
    looked (val program n) (program k),
    wider (λ k o. val program n k ≡ Some o) (Has program) (λ k. val program n k ≡ None) N (λ j x h. (n, h)) (run_path (val program n) (program k) o d),
  )

  -- and one level over a table that holds the keys on that path gives it
  pub level_from_path : (f : K → Option O) (N : K → Type 0) → ({q : Query K O A O} {ks : List K} {ls : List A} {o : O} → Path (Has program) N q ks ls (Ready o) → ((j : K) (x : O) → Member j ks → Has program j x → f j ≡ Some x) → run f q ≡ Some o)
  level_from_path f N Returns h = refl
  level_from_path f N (Looks p) h = level_from_path f N p h
  level_from_path f N (Asks {k = k} {o = x} r p) h = rw (h k x (inl refl) r) (level_from_path f N p (λ j y m s. h j y (inr m) s))
