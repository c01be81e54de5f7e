-- What a search drops, and what stays.
use Rattle.std.proofs.Common.{◌≡◌, ◌∙◌, List, Bool, refl, sym, subst}
use Rattle.gl_calculus.specs.Computation.Lists.{Member}
use Rattle.gl_calculus.specs.Computation.Demanded.{Seed, Read}
use Rattle.gl_calculus.specs.Computation.Notes.{Note}
use Rattle.gl_machine.specs.Remembered.{AreClosed, IsDropped, Touched, Reads}
use Rattle.laws_calculus.specs.Query.{DroppedAmongMore, KeptAreClosed, DemandedByMembers}

module _ (K O P A : Type 0) (touched : A → Bool) (notes : List (Note K O A)) (more : List (Note K P A)) (c : AreClosed notes)
    (sub : (n : Note K O A) → Member n notes → (m : Note K P A) × Member m more × (n.key ≡ m.key))
    (one : (n : Note K O A) (m : Note K P A) → Member n notes → Member m more → n.key ≡ m.key → (n.reads ≡ m.reads) × (n.looked ≡ m.looked)) where
  fewer : (k : K) → IsDropped touched more k → (n : Note K O A) → Member n notes → n.key ≡ k → IsDropped touched notes k
  fewer k (Touched m a i e l t) n j f = Touched n a j (sym f) (subst (Member a) (sym (one n m j i (f ∙ e)).1) l) t
  fewer k (Reads m b i e l d) n j f =
      let r : Member b n.reads = subst (Member b) (sym (one n m j i (f ∙ e)).0) l in
      let (x, p, q) = c n j b r in
      Reads n b j (sym f) r (fewer b d x p q)

  wider : (k : K) → IsDropped touched notes k → IsDropped touched more k
  wider k (Touched n a i e l t) = let (m, p, q) = sub n i in Touched m a p (e ∙ q) (subst (Member a) (one n m i p q).1 l) t
  wider k (Reads n b i e l d) = let (m, p, q) = sub n i in Reads m b p (e ∙ q) (subst (Member b) (one n m i p q).0 l) (wider b d)

pub dropped_among_more : (K O P A : Type 0) → DroppedAmongMore K O P A
dropped_among_more K O P A touched notes more c sub one n m = (λ d. fewer K O P A touched notes more c sub one n.key d n m refl, wider K O P A touched notes more c sub one n.key)

pub kept_closed : (K O A : Type 0) → KeptAreClosed K O A
kept_closed K O A touched notes kept c h n m j r =
    let (i, f) = h.0 n m in
    let (x, p, q) = c n i j r in
    (x, h.1 x p (λ d. f (Reads n j i refl r (subst (IsDropped touched notes) q d))), q)

pub by_members : (K O A : Type 0) → DemandedByMembers K O A
by_members K O A program seeds others h k (Seed m) = Seed (h k m)
by_members K O A program seeds others h k (Read {k = i} d a) = Read (by_members K O A program seeds others h i d) a
