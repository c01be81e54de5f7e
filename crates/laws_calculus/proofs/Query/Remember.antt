-- Notes that stay true for another program.
use Rattle.std.proofs.Common.{◌≡◌, ℕ, zero, suc, List, [], ◌∷◌, ◌⊎◌, inl, inr, Bool, true, false, cond, Option, Some, None, refl, sym, ◌∙◌, subst}
use Rattle.gl_calculus.specs.Computation.Lists.{Member, IsEquality, has_member, fresh, distinct}
use Rattle.gl_calculus.specs.Computation.Query.{Query, Ready, found, asked, looked, Path, Returns, Looks, Asks, val, Has, Loops}
use Rattle.gl_calculus.specs.Computation.Reads.{IsNote}
use Rattle.gl_calculus.specs.Computation.Notes.{Note, Here, Through, IsKept}
use Rattle.gl_machine.specs.Remembered.{AreTrue, AreClosed, AreUntouched, Agree, IsDropped, Touched, Reads, AreSingle, AreTheKept}
use Rattle.laws_calculus.proofs.Query.Levels.{path_over, one_path, run_found, run_path, path_run, path_level, Has-one, Has-Loops}
use Rattle.laws_calculus.proofs.Query.Quiet.{seen_member}

-- one level of the second program goes as one of the first where each place on the way is fine
abbrev pub AgreeWhere : {K O A : Type 0} → (A → Type 0) → (K → Query K O A O) → (K → Query K O A O) → Type 0
AgreeWhere {K} {O} {A} Fine program program' =
    (f : K → Option O) (k : K) → ((a : A) → Member a (looked f (program k)) → Fine a) →
    (found f (program' k) ≡ found f (program k)) × (asked f (program' k) ≡ asked f (program k)) × (looked f (program' k) ≡ looked f (program k))

-- a path to an outcome stays one where the answers of its keys are answers by the other relation
pub path_on : {K O A : Type 0} (R S : K → O → Type 0) (N M : K → Type 0) → {q : Query K O A O} {ks : List K} {ls : List A} {o : O} → Path R N q ks ls (Ready o) → ((j : K) (x : O) → Member j ks → R j x → S j x) → Path S M q ks ls (Ready o)
path_on R S N M Returns h = Returns
path_on R S N M (Looks p) h = Looks (path_on R S N M p h)
path_on R S N M (Asks {k = k} {o = x} r p) h = Asks (h k x (inl refl) r) (path_on R S N M p (λ j y m s. h j y (inr m) s))

module _ {K : Type 0} (same : K → K → Bool) (eq : IsEquality same) where
  -- the distinct members of a list are its members
  pub fresh_member : (ks seen : List K) (j : K) → Member j ks → Member j seen ⊎ Member j (fresh same seen ks)
  fresh_member [] seen j m = absurd m
  fresh_member (k ∷ ks) seen j m =
      (elim (has_member same k seen) as (λ b. has_member same k seen ≡ b → Member j seen ⊎ Member j (cond b (fresh same seen ks) (k ∷ fresh same (k ∷ seen) ks))) [
        | true ↦ λ e. old (seen_member same eq seen k e) (fresh_member ks seen j) m
        | false ↦ λ e. new (fresh_member ks (k ∷ seen) j) m
      ]) refl
    where
      old : Member k seen → (Member j ks → Member j seen ⊎ Member j (fresh same seen ks)) → (j ≡ k) ⊎ Member j ks → Member j seen ⊎ Member j (fresh same seen ks)
      old s h (inl e) = inl (subst (λ t. Member t seen) (sym e) s)
      old s h (inr w) = h w

      sort : ((j ≡ k) ⊎ Member j seen) ⊎ Member j (fresh same (k ∷ seen) ks) → Member j seen ⊎ ((j ≡ k) ⊎ Member j (fresh same (k ∷ seen) ks))
      sort (inl (inl e)) = inr (inl e)
      sort (inl (inr s)) = inl s
      sort (inr w) = inr (inr w)

      new : (Member j ks → ((j ≡ k) ⊎ Member j seen) ⊎ Member j (fresh same (k ∷ seen) ks)) → (j ≡ k) ⊎ Member j ks → Member j seen ⊎ ((j ≡ k) ⊎ Member j (fresh same (k ∷ seen) ks))
      new h (inl e) = inr (inl e)
      new h (inr w) = sort (h w)

  pub distinct_member : (ks : List K) (j : K) → Member j ks → Member j (distinct same ks)
  distinct_member ks j m = no_seen (fresh_member ks [] j m)
    where
      no_seen : ⊥ ⊎ Member j (fresh same [] ks) → Member j (fresh same [] ks)
      no_seen (inl b) = absurd b
      no_seen (inr w) = w

-- a note's key has its outcome
pub note_has : {K O A : Type 0} (same : K → K → Bool) (program : K → Query K O A O) (k : K) (o : O) (rs : List K) (ls : List A) → IsNote same program k o rs ls → Has program k o
note_has same program k o rs ls (ks, p, d) = let (n, e) = path_level program (Loops program) p in (suc n, e)

-- a run at some level walks as a path along true outcomes does
pub level_note : {K O A : Type 0} (program : K → Query K O A O) (n : ℕ) (k : K) (x o : O) (ks : List K) (ls : List A) → Path (Has program) (Loops program) (program k) ks ls (Ready x) → val program (suc n) k ≡ Some o →
    (asked (val program n) (program k) ≡ ks) × (looked (val program n) (program k) ≡ ls) × (o ≡ x)
level_note {K} {O} {A} program n k x o ks ls p e =
    let f : K → Option O = val program n in
    let q : Path (Has program) (Loops program) (program k) (asked f (program k)) (looked f (program k)) (Ready o) = path_on (λ k o. f k ≡ Some o) (Has program) (λ k. f k ≡ None) (Loops program) (run_path f (program k) o e) (λ j y m d. (n, d)) in
    let (a, b, c) = one_path (Has program) (Has program) (Loops program) (Loops program) (Has-one program) (Has-Loops program) (Has-Loops program) q p in
    (a, b, cc c)

module _ {K O A : Type 0} (same : K → K → Bool) (eq : IsEquality same) (Fine : A → Type 0) (program program' : K → Query K O A O) (agree : AgreeWhere Fine program program') (notes : List (Note K O A)) (trues : AreTrue same program notes) (closed : AreClosed notes) (untouched : (n : Note K O A) → Member n notes → (a : A) → Member a n.looked → Fine a) where
  -- the second program's path over the first one's outcomes of a level
  second_path : (n : ℕ) (m : Note K O A) → Member m notes → (o : O) → val program (suc n) m.key ≡ Some o →
      (ks : List K) × (m.reads ≡ distinct same ks) × (o ≡ m.outcome) × Path (λ k o. val program n k ≡ Some o) (λ k. val program n k ≡ None) (program' m.key) ks m.looked (Ready o)
  second_path n m w o e =
      let (ks, p, d) = trues m w in
      let f : K → Option O = val program n in
      let (a, b, c) = level_note program n m.key m.outcome o ks m.looked p e in
      let free : (l : A) → Member l (looked f (program m.key)) → Fine l = λ l v. untouched m w l (subst (Member l) b v) in
      let (u, v, t) = agree f m.key free in
      let q = path_over f (program' m.key) in
      let q1 = subst (λ z. Path (λ k o. f k ≡ Some o) (λ k. f k ≡ None) (program' m.key) z (looked f (program' m.key)) (found f (program' m.key))) (v ∙ a) q in
      let q2 = subst (λ z. Path (λ k o. f k ≡ Some o) (λ k. f k ≡ None) (program' m.key) ks z (found f (program' m.key))) (t ∙ b) q1 in
      (ks, d, c, subst (λ z. Path (λ k o. f k ≡ Some o) (λ k. f k ≡ None) (program' m.key) ks m.looked z) (u ∙ run_found f (program m.key) o e) q2)

  -- at each level, what the first program gives to a noted key the second gives too
  pub same_val : (n : ℕ) (m : Note K O A) → Member m notes → (o : O) → val program n m.key ≡ Some o → val program' n m.key ≡ Some o
  same_val zero m w o e = absurd (cc e)
  same_val (suc n) m w o e =
      let (ks, d, c, q) = second_path n m w o e in
      path_run (val program' n) (λ k. val program n k ≡ None)
      (path_on (λ k o. val program n k ≡ Some o) (λ k o. val program' n k ≡ Some o) (λ k. val program n k ≡ None) (λ k. val program n k ≡ None) q
      (λ j x v h. let (l, z, g) = closed m w j (subst (Member j) (sym d) (distinct_member same eq ks j v)) in
      subst (λ y. val program' n y ≡ Some x) g (same_val n l z x (subst (λ y. val program n y ≡ Some x) (sym g) h))))

  positive : (m : Note K O A) → (n : ℕ) × (val program n m.key ≡ Some m.outcome) → (n : ℕ) × (val program (suc n) m.key ≡ Some m.outcome)
  positive m (zero, e) = absurd (cc e)
  positive m (suc n, e) = (n, e)

  -- the notes are true for the second program
  pub coincide : AreTrue same program' notes
  coincide m w =
      let (n, e) = positive m (note_has same program m.key m.outcome m.reads m.looked (trues m w)) in
      let (ks, d, c, q) = second_path n m w m.outcome e in (
        ks,
        path_on (λ k o. val program n k ≡ Some o) (Has program') (λ k. val program n k ≡ None) (Loops program') q
            (λ j x v h. let (l, z, g) = closed m w j (subst (Member j) (sym d) (distinct_member same eq ks j v)) in
            (n, subst (λ y. val program' n y ≡ Some x) g (same_val n l z x (subst (λ y. val program n y ≡ Some x) (sym g) h)))),
        d,
      )

module _ {K O A : Type 0} (touched : A → Bool) (notes kept : List (Note K O A)) (the : AreTheKept touched notes kept) where
  -- what is left after the drop is closed under reads
  pub kept_closed : AreClosed notes → AreClosed kept
  kept_closed closed n w j m =
      let (v, free) = the.0 n w in
      let (l, z, g) = closed n v j m in
      (l, the.1 l z (λ d. free (Reads n j v refl m (subst (IsDropped touched notes) g d))), g)

  -- and untouched
  pub kept_untouched : AreUntouched touched kept
  kept_untouched n w a m =
      let (v, free) = the.0 n w in
      (elim (touched a) as (λ b. touched a ≡ b → b ≡ false) [
        | true ↦ λ e. absurd (free (Touched n a v refl m e))
        | false ↦ λ e. refl
      ]) refl

  pub kept_true : (same : K → K → Bool) (program : K → Query K O A O) → AreTrue same program notes → AreTrue same program kept
  kept_true same program t n w = t n (the.0 n w).0

-- the notes that are left are true for the second program
pub kept_coincide : {K O A : Type 0} (same : K → K → Bool) → IsEquality same → (touched : A → Bool) (program program' : K → Query K O A O) → Agree touched program program' → (notes kept : List (Note K O A)) → AreTrue same program notes → AreClosed notes → AreTheKept touched notes kept → AreTrue same program' kept
kept_coincide same eq touched program program' agree notes kept trues closed the =
    coincide same eq (λ a. touched a ≡ false) program program' agree kept (kept_true touched notes kept the same program trues) (kept_closed touched notes kept the closed) (kept_untouched touched notes kept the)

module _ {K O A : Type 0} (touched : A → Bool) (notes : List (Note K O A)) where
  -- a kept key is not dropped
  pub kept_not_dropped : AreSingle notes → (k : K) → IsKept touched notes k → IsDropped touched notes k → ⊥
  kept_not_dropped single k h (Touched n a w e m t) =
      let (l, v, g, free) = h k Here in
      let s : n ≡ l = single n l w v (sym e ∙ sym g) in
      let f : touched a ≡ false = free a (subst (λ u. Member a u.looked) s m) in
      absurd (cc (f, t))
  kept_not_dropped single k h (Reads n j w e m d) = kept_not_dropped single j (λ i r. h i (Through n j w e m r)) d

  -- and a noted key that isn't dropped is kept, where each read of a note has a note
  pub not_dropped_kept : AreClosed notes → (k : K) → (n : Note K O A) × Member n notes × (n.key ≡ k) → (IsDropped touched notes k → ⊥) → IsKept touched notes k
  not_dropped_kept closed k (n, w, e) free j Here = (
    n,
    w,
    e,
    λ a m. (elim (touched a) as (λ b. touched a ≡ b → b ≡ false) [
      | true ↦ λ t. absurd (free (Touched n a w (sym e) m t))
      | false ↦ λ t. refl
    ]) refl,
  )
  not_dropped_kept closed k noted free j (Through l i w e m r) =
      not_dropped_kept closed i (closed l w i m) (λ d. free (Reads l i w e m d)) j r
