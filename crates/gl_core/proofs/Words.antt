-- What a table of words keeps while words are put in and keys get numbers.
use Rattle.std.proofs.Common.{◌≡◌, ℕ, eqb, Bool, true, false, cond, List, [], ◌∷◌, ◌⊎◌, Option, Some, None, IfNone, arith, inl, inr, refl, sym, ap, subst, ◌∙◌}
use Rattle.std.proofs.lemmas.Bool.{eqb-true, eq-eqb}
use Rattle.std.specs.Map.{lookup}
use Rattle.indexmap.specs.IndexMap.{insert_entry}
use Rattle.gl_calculus.specs.Computation.Lists.{Member}
use Rattle.gl_calculus.specs.Evaluation.Key as K
use Rattle.gl_intern.specs.Numbered.{Numbered, seconds}
use Rattle.gl_core.specs.Shorts.{IsShort}
use Rattle.gl_core.specs.declared.short.Short.{Short}
use Rattle.gl_core.specs.Words.{key_word, HasWord, HasWords}

-- ---- one more word

module _ (k v : ℕ) where
  has_by : (e : ℕ × ℕ) (es : List (ℕ × ℕ)) (b : Bool) → eqb k e.0 ≡ b → HasWord (insert_entry eqb es k v) k → HasWord (cond b ((e.0, v) ∷ es) (e ∷ insert_entry eqb es k v)) k
  has_by e es true t h = inl (eqb-true k e.0 t)
  has_by e es false t h = inr h

  pub inserted_has : (es : List (ℕ × ℕ)) → HasWord (insert_entry eqb es k v) k
  inserted_has [] = inl refl
  inserted_has (e ∷ es) = has_by e es (eqb k e.0) refl (inserted_has es)

  keeps_by : (e : ℕ × ℕ) (es : List (ℕ × ℕ)) (u : ℕ) (b : Bool) → (HasWord es u → HasWord (insert_entry eqb es k v) u) → HasWord (e ∷ es) u → HasWord (cond b ((e.0, v) ∷ es) (e ∷ insert_entry eqb es k v)) u
  keeps_by e es u true f h = h
  keeps_by e es u false f (inl h) = inl h
  keeps_by e es u false f (inr h) = inr (f h)

  pub inserted_keeps : (es : List (ℕ × ℕ)) (u : ℕ) → HasWord es u → HasWord (insert_entry eqb es k v) u
  inserted_keeps [] u h = absurd h
  inserted_keeps (e ∷ es) u h = keeps_by e es u (eqb k e.0) (inserted_keeps es u) h

-- ---- a word that is there is found

found_by : (e : ℕ × ℕ) (es : List (ℕ × ℕ)) (u : ℕ) (b : Bool) → eqb u e.0 ≡ b → (HasWord es u → lookup (eqb u) es ≡ None → ⊥) → HasWord (e ∷ es) u → cond b (Some e.1) (lookup (eqb u) es) ≡ None → ⊥
found_by e es u true t f h n = cc n
found_by e es u false t f (inl h) n = cc (sym t ∙ eq-eqb u e.0 h)
found_by e es u false t f (inr h) n = f h n

pub has_found : (es : List (ℕ × ℕ)) (u : ℕ) → HasWord es u → lookup (eqb u) es ≡ None → ⊥
has_found [] u h n = h
has_found (e ∷ es) u h n = found_by e es u (eqb u e.0) refl (has_found es u) h n

-- ---- the words of keys

pub words_stay : (es fs : List (ℕ × ℕ)) (ks : List K.Key) → ((u : ℕ) → HasWord es u → HasWord fs u) → HasWords es ks → HasWords fs ks
words_stay es fs ks keeps h k u m e = keeps u (h k u m e)

word_of_one : (es : List (ℕ × ℕ)) (ks : List K.Key) (j k : K.Key) (u : ℕ) → ((v : ℕ) → key_word k ≡ Some v → HasWord es v) → HasWords es ks → Member j ks ⊎ (j ≡ k) → key_word j ≡ Some u → HasWord es u
word_of_one es ks j k u at h (inl m) e = h j u m e
word_of_one es ks j k u at h (inr s) e = at u (ap key_word (sym s) ∙ e)

-- one more key, whose word is there, if it has one
pub words_of_more : (es : List (ℕ × ℕ)) (ks js : List K.Key) (k : K.Key) → ((v : ℕ) → key_word k ≡ Some v → HasWord es v) → ((j : K.Key) → Member j js → Member j ks ⊎ (j ≡ k)) → HasWords es ks → HasWords es js
words_of_more es ks js k at members h j u m e = word_of_one es ks j k u at h (members j m) e

pub no_word : (es : List (ℕ × ℕ)) (k : K.Key) → key_word k ≡ None → (v : ℕ) → key_word k ≡ Some v → HasWord es v
no_word es k n v e = cc (sym n ∙ e)

pub this_word : (es : List (ℕ × ℕ)) (k : K.Key) (u : ℕ) → key_word k ≡ Some u → HasWord es u → (v : ℕ) → key_word k ≡ Some v → HasWord es v
this_word es k u e h v d = let s : u ≡ v = cc (sym e ∙ d) in subst (HasWord es) s h

pub unfound : (es : List (ℕ × ℕ)) (u : ℕ) (o : Option ℕ) → o ≡ lookup (eqb u) es → IfNone o (HasWord es u → ⊥)
unfound es u None e = λ h. has_found es u h (sym e)
unfound es u (Some n) e = tt

-- no key, and no word
pub nothing_worded : (l : Numbered) (ps : List (Short × K.Key)) (es : List (ℕ × ℕ)) → ps ≡ [] → IsShort l ps × HasWords es (seconds ps)
nothing_worded l ps es e = subst (λ qs. IsShort l qs × HasWords es (seconds qs)) (sym e) (
  record {
    forms = tt;
    booked = record {
      apart = tt;
      sound = λ j m. absurd m;
      few = omega arith;
    };
  },
  λ k u m d. absurd m,
)
