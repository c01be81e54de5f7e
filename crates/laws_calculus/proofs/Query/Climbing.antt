-- What is read by true notes is demanded: whoever has no outcome at a level is read by one that has none at the level above, and at some level all have outcomes.
use Rattle.std.proofs.Common.{◌≡◌, ◌∙◌, ◌⊎◌, inl, inr, ℕ, zero, suc, ◌+◌, List, [], ◌∷◌, Bool, Option, Some, None, refl, sym, subst, arith}
use Rattle.gl_calculus.specs.Computation.Lists.{Member}
use Rattle.gl_calculus.specs.Computation.Query.{Query, Path, Returns, Looks, Asks, Ready, val}
use Rattle.gl_calculus.specs.Computation.Demanded.{Demanded, Seed}
use Rattle.gl_calculus.specs.Computation.Notes.{Note, Here, Through}
use Rattle.gl_machine.specs.Remembered.{AreTrue}
use Rattle.laws_calculus.specs.Query.{ReadAreDemanded}
use Rattle.laws_calculus.proofs.Query.Levels.{run_path, val-add}
use Rattle.laws_calculus.proofs.Query.Remember.{note_has, level_note}
use Rattle.laws_calculus.proofs.Query.Reached.{reached, fresh_back}

answered : {K O A : Type 0} (R : K → O → Type 0) (N : K → Type 0) {q : Query K O A O} {ks : List K} {ls : List A} {o : O} → Path R N q ks ls (Ready o) → (j : K) → Member j ks → (y : O) × R j y
answered R N Returns j m = absurd m
answered R N (Looks p) j m = answered R N p j m
answered R N (Asks {o = y} r p) j (inl e) = (y, subst (λ k. R k y) (sym e) r)
answered R N (Asks r p) j (inr m) = answered R N p j m

module _ (K O A : Type 0) (same : K → K → Bool) (program : K → Query K O A O) (seeds : List K) (notes : List (Note K O A)) (trues : AreTrue same program notes)
    (read : (n : Note K O A) → Member n notes → Member n.key seeds ⊎ ((m : Note K O A) × Member m notes × Member n.key m.reads)) where
  abbrev Without : ℕ → Type 0
  Without l = (n : Note K O A) → Member n notes → val program l n.key ≡ None → Demanded program seeds n.key

  -- what a note with an outcome at a level read has one at the level below
  has_below : (l : ℕ) (m : Note K O A) → Member m notes → (x : O) → val program (suc l) m.key ≡ Some x → (j : K) → Member j m.reads → (y : O) × (val program l j ≡ Some y)
  has_below l m i x e j r =
      let (ks, p, d) = trues m i in
      let (a, b, c) = level_note program l m.key m.outcome x ks m.looked p e in
      answered (λ k o. val program l k ≡ Some o) (λ k. val program l k ≡ None) (run_path (val program l) (program m.key) x e) j (subst (Member j) (sym a) (fresh_back same ks [] j (subst (Member j) d r)))

  none_above : (l : ℕ) (m : Note K O A) → Member m notes → (j : K) → Member j m.reads → val program l j ≡ None → val program (suc l) m.key ≡ None
  none_above l m i j r e = by (val program (suc l) m.key) refl
    where
      by : (v : Option O) → val program (suc l) m.key ≡ v → val program (suc l) m.key ≡ None
      by None h = h
      by (Some x) h = let (y, g) = has_below l m i x h j r in let no : None ≡ Some y = sym e ∙ g in cc no

  down : (l : ℕ) → Without (suc l) → Without l
  down l q n i e = by (read n i)
    where
      by : Member n.key seeds ⊎ ((m : Note K O A) × Member m notes × Member n.key m.reads) → Demanded program seeds n.key
      by (inl s) = Seed s
      by (inr (m, j, r)) = reached K O A same program seeds notes m.key n.key trues (q m j (none_above l m j n.key r e)) (Through m n.key j refl r Here)

  all_down : (l : ℕ) → Without l → Without zero
  all_down zero q = q
  all_down (suc l) q = all_down l (down l q)

  -- at some level all have outcomes
  top : (ns : List (Note K O A)) → ((n : Note K O A) → Member n ns → Member n notes) → (l : ℕ) × ((n : Note K O A) → Member n ns → (o : O) × (val program l n.key ≡ Some o))
  top [] sub = (zero, λ n m. absurd m)
  top (x ∷ ns) sub =
      let (l, f) = top ns (λ n m. sub n (inr m)) in
      let (k, e) = note_has same program x.key x.outcome x.reads x.looked (trues x (sub x (inl refl))) in
      (k + l, λ n m. by l k f e n m)
    where
      by : (l k : ℕ) → ((n : Note K O A) → Member n ns → (o : O) × (val program l n.key ≡ Some o)) → val program k x.key ≡ Some x.outcome → (n : Note K O A) → (n ≡ x) ⊎ Member n ns → (o : O) × (val program (k + l) n.key ≡ Some o)
      by l k f e n (inl i) = (x.outcome, subst (λ (u : Note K O A). val program (k + l) u.key ≡ Some x.outcome) (sym i) (val-add program k l x.key x.outcome e))
      by l k f e n (inr m) = let (o, g) = f n m in (o, subst (λ i. val program i n.key ≡ Some o) (let c : l + k ≡ k + l = omega arith in c) (val-add program l k n.key o g))

pub read_demanded : (K O A : Type 0) → ReadAreDemanded K O A
read_demanded K O A same program seeds notes trues read n m =
    let (l, f) = top K O A same program seeds notes trues read notes (λ n m. m) in
    all_down K O A same program seeds notes trues read l (λ x i e. absurd (no l x i e (f x i))) n m refl
  where
    no : (l : ℕ) (x : Note K O A) → Member x notes → val program l x.key ≡ None → (o : O) × (val program l x.key ≡ Some o) → ⊥
    no l x i e (o, g) = let no : None ≡ Some o = sym e ∙ g in cc no
