-- The top of a stack.
use Rattle.std.proofs.Common.{◌≡◌, ℕ, zero, suc, ◌-◌, List, [], ◌∷◌, ◌++◌, map, length, cond, false, slice_get, Option, Some, None, IfSome, IsTrue, Bor, refl, sym, ap, subst, inl, inr, ◌∙◌, arith}
use Rattle.std.specs.Option.{option_copied}
use Rattle.gl_calculus.specs.Computation.Lists.{has_member}
use Rattle.gl_calculus.specs.Evaluation.Key as K
use Rattle.gl_calculus.specs.Evaluation.Key.{same_key}
use Rattle.gl_calculus.specs.Evaluation.Sound.{is_sound_key}
use Rattle.gl_cert.proofs.Members.{any_member}
use Rattle.indexmap.specs.IndexSet.{insert_key}
use Rattle.gl_demand.specs.contracts.key.KeyPartialEq.TheImpl.{ghosts as key}
use Rattle.laws_calculus.proofs.Explanation.Going.{snoc_same}
use Rattle.gl_demand.specs.Sound.{AreSoundKeys}
use Rattle.gl_demand.specs.View.{key_tree}
use Rattle.gl_demand.specs.declared.key.Key.{Key}
use Rattle.gl_explain.specs.Putting.{IsTop}

last_at : {X : Type 0} (xs : List X) (i : ℕ) (x : X) → suc i ≡ length xs → slice_get xs i ≡ Some x → IsTop xs x
last_at [] i x l e = absurd (cc e)
last_at (y ∷ []) zero x l e = let d : y ≡ x = cc e in ([], ap (λ t. t ∷ []) d)
last_at (y ∷ []) (suc i) x l e = absurd (cc e)
last_at (y ∷ z ∷ zs) zero x l e = absurd (omega (arith, l))
last_at (y ∷ z ∷ zs) (suc i) x l e = let (below, d) = last_at (z ∷ zs) i x (omega (arith, l)) e in (y ∷ below, ap (λ t. y ∷ t) d)

last_top : {X : Type 0} (xs : List X) (x : X) → slice_get xs (length xs - 1) ≡ Some x → IsTop xs x
last_top [] x e = absurd (cc e)
last_top (y ∷ ys) x e = last_at (y ∷ ys) (length ys) x refl (ap (slice_get (y ∷ ys)) (omega arith) ∙ e)

pub top_some : (ks : List Key) (r : Option (Bor Key)) → option_copied r ≡ slice_get ks (length ks - 1) → IfSome r (λ k. IsTop ks k.now)
top_some ks None e = tt
top_some ks (Some k) e = last_top ks k.now (sym e)

trees_both : (xs ys : List Key) → map key_tree (xs ++ ys) ≡ map key_tree xs ++ map key_tree ys
trees_both [] ys = refl
trees_both (x ∷ xs) ys = ap (λ t. key_tree x ∷ t) (trees_both xs ys)

pub trees_top : (ks below : List Key) (k : Key) → ks ≡ below ++ k ∷ [] → map key_tree ks ≡ map key_tree below ++ key_tree k ∷ []
trees_top ks below k e = ap (map key_tree) e ∙ trees_both below (k ∷ [])

last_sound : (ks : List K.Key) (k : K.Key) → AreSoundKeys (ks ++ k ∷ []) → IsTrue (is_sound_key k)
last_sound [] k h = h k (inl refl)
last_sound (j ∷ ks) k h = last_sound ks k (λ x m. h x (inr m))

rest_sound : (ks : List K.Key) (k : K.Key) → AreSoundKeys (ks ++ k ∷ []) → AreSoundKeys ks
rest_sound [] k h x m = absurd m
rest_sound (j ∷ ks) k h x (inl e) = h x (inl e)
rest_sound (j ∷ ks) k h x (inr m) = rest_sound ks k (λ y i. h y (inr i)) x m

pub more_sound : (ks : List K.Key) (k : K.Key) → AreSoundKeys ks → IsTrue (is_sound_key k) → AreSoundKeys (ks ++ k ∷ [])
more_sound [] k h s x (inl e) = subst (λ y. IsTrue (is_sound_key y)) (sym e) s
more_sound [] k h s x (inr m) = absurd m
more_sound (j ∷ ks) k h s x (inl e) = h x (inl e)
more_sound (j ∷ ks) k h s x (inr m) = more_sound ks k (λ y i. h y (inr i)) s x m

pub top_sound : (ks : List Key) (k : Key) → AreSoundKeys (map key_tree ks) → IsTop ks k → IsTrue (is_sound_key (key_tree k))
top_sound ks k h (below, e) = last_sound (map key_tree below) (key_tree k) (subst AreSoundKeys (trees_top ks below k e) h)

pub below_sound : (up us : List K.Key) (k : K.Key) → AreSoundKeys up → up ≡ us ++ k ∷ [] → AreSoundKeys us
below_sound up us k h e = rest_sound us k (subst AreSoundKeys e h)

pub one_top : {X : Type 0} (xs : List X) (x y : X) → IsTop xs x → IsTop xs y → x ≡ y
one_top xs x y (a, p) (b, q) = (snoc_same a b x y (sym p ∙ q)).1

pub trees_length : (ks : List Key) → length (map key_tree ks) ≡ length ks
trees_length [] = refl
trees_length (k ∷ ks) = ap suc (trees_length ks)

-- a key that isn't among those of a set goes last
pub put_last : (ks : List Key) (k : Key) → has_member same_key (key_tree k) (map key_tree ks) ≡ false → map key_tree (insert_key key.eq ks k) ≡ map key_tree ks ++ key_tree k ∷ []
put_last ks k h = ap (λ b. map key_tree (cond b ks (ks ++ k ∷ []))) (any_member ks k ∙ h) ∙ trees_both ks (k ∷ [])

pub one_sound : (k : K.Key) → IsTrue (is_sound_key k) → AreSoundKeys (k ∷ [])
one_sound k s j (inl e) = subst (λ y. IsTrue (is_sound_key y)) (sym e) s
one_sound k s j (inr m) = absurd m
