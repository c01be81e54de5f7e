-- Keys in a set by the code's equality, as members of a list.
use Rattle.std.proofs.Common.{◌≡◌, Bool, true, false, cond, List, [], ◌∷◌, ◌++◌, map, ◌||◌, ℕ, zero, suc, ◌<◌, length, get_or, IsTrue, arith, inl, inr, refl, ap, sym, subst, ◌∙◌}
use Rattle.std.specs.List.{list_any}
use Rattle.indexmap.specs.IndexSet.{insert_key}
use Rattle.gl_calculus.specs.Computation.Lists.{Member, has_member}
use Rattle.gl_calculus.specs.Evaluation.Key as K
use Rattle.gl_calculus.specs.Evaluation.Key.{same_key}
use Rattle.gl_calculus.specs.Evaluation.Sound.{is_sound_key}
use Rattle.gl_calculus.proofs.Tests.{key_equality}
use Rattle.gl_demand.specs.Equal.{eq_is_key}
use Rattle.gl_demand.specs.Sound.{AreSoundKeys}
use Rattle.gl_demand.specs.View.{key_tree}
use Rattle.gl_demand.specs.declared.key.Key.{Key}
use Rattle.gl_demand.specs.contracts.key.KeyPartialEq.TheImpl.{ghosts as key}

pub any_member : (ks : List Key) (k : Key) → list_any (key.eq k) ks ≡ has_member same_key (key_tree k) (map key_tree ks)
any_member [] k = refl
any_member (j ∷ ks) k = by (key.eq k j) (eq_is_key k j) (any_member ks k)
  where
    by : (b : Bool) → b ≡ same_key (key_tree k) (key_tree j) → list_any (key.eq k) ks ≡ has_member same_key (key_tree k) (map key_tree ks) → (b || list_any (key.eq k) ks) ≡ cond (same_key (key_tree k) (key_tree j)) true (has_member same_key (key_tree k) (map key_tree ks))
    by true h r = ap (λ b. cond b true (has_member same_key (key_tree k) (map key_tree ks))) h
    by false h r = r ∙ ap (λ b. cond b true (has_member same_key (key_tree k) (map key_tree ks))) h

-- a key that is put last
last_member : (ks : List K.Key) (k j : K.Key) → has_member same_key j (ks ++ k ∷ []) ≡ cond (same_key j k) true (has_member same_key j ks)
last_member [] k j = refl
last_member (x ∷ ks) k j = by (same_key j x) (same_key j k) (last_member ks k j)
  where
    by : (b c : Bool) → has_member same_key j (ks ++ k ∷ []) ≡ cond c true (has_member same_key j ks) → cond b true (has_member same_key j (ks ++ k ∷ [])) ≡ cond c true (cond b true (has_member same_key j ks))
    by true true r = refl
    by true false r = refl
    by false c r = r

-- a key that is there once more
again : (ks : List K.Key) (k j : K.Key) → has_member same_key k ks ≡ true → has_member same_key j ks ≡ cond (same_key j k) true (has_member same_key j ks)
again ks k j h = by (same_key j k) refl
  where
    by : (b : Bool) → same_key j k ≡ b → has_member same_key j ks ≡ cond b true (has_member same_key j ks)
    by true e = subst (λ x. has_member same_key x ks ≡ true) (sym (key_equality.0 j k e)) h
    by false e = refl

keys_last : (ks : List Key) (k : Key) → map key_tree (ks ++ k ∷ []) ≡ map key_tree ks ++ key_tree k ∷ []
keys_last [] k = refl
keys_last (j ∷ ks) k = ap (λ t. key_tree j ∷ t) (keys_last ks k)

-- one more key, whether it is there already or not
pub insert_member : (ks : List Key) (k : Key) (j : K.Key) → has_member same_key j (map key_tree (insert_key key.eq ks k)) ≡ cond (same_key j (key_tree k)) true (has_member same_key j (map key_tree ks))
insert_member ks k j = by (list_any (key.eq k) ks) (any_member ks k)
  where
    by : (b : Bool) → b ≡ has_member same_key (key_tree k) (map key_tree ks) → has_member same_key j (map key_tree (cond b ks (ks ++ k ∷ []))) ≡ cond (same_key j (key_tree k)) true (has_member same_key j (map key_tree ks))
    by true h = again (map key_tree ks) (key_tree k) j (sym h)
    by false h = ap (has_member same_key j) (keys_last ks k) ∙ last_member (map key_tree ks) (key_tree k) j

-- the set of the keys so far, and the rest
pub gathered : (s h d t : Bool) → cond h true (cond s true d) ≡ t → cond (cond s true h) true d ≡ t
gathered true true d t e = e
gathered true false d t e = e
gathered false h d t e = e

pub all_gathered : (h t : Bool) → cond h true false ≡ t → h ≡ t
all_gathered true t e = e
all_gathered false t e = e

-- a key of the list is sound
pub sound_at : (ks : List Key) (i : ℕ) (x : Key) → AreSoundKeys (map key_tree ks) → i < length ks → x ≡ get_or ks i x → IsTrue (is_sound_key (key_tree x))
sound_at ks i x h l e = h (key_tree x) (member_at ks i x l e)
  where
    member_at : (ks : List Key) (i : ℕ) (x : Key) → i < length ks → x ≡ get_or ks i x → Member (key_tree x) (map key_tree ks)
    member_at [] i x l e = absurd (omega (arith, l))
    member_at (k ∷ ks) zero x l e = inl (ap key_tree e)
    member_at (k ∷ ks) (suc i) x l e = inr (member_at ks i x (omega (arith, l)) e)
