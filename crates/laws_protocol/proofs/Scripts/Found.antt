-- What a sheet holds after an edit.
use Rattle.std.proofs.Common.{◌≡◌, ◌∙◌, ◌⊎◌, inl, inr, Bool, true, false, cond, not, [], ◌∷◌, Some, refl, sym, ap, subst}
use Rattle.std.specs.List.{AllByRecursion}
use Rattle.gl_calculus.specs.Grid.Grid.{Addr, same_addr, is_before, Range, covers}
use Rattle.gl_calculus.specs.Formulas.Formula.{Content, Cells, content}
use Rattle.gl_calculus.proofs.Tests.{addr_exact}
use Rattle.gl_language.specs.Reading.Content.{IsProperContent}
use Rattle.gl_calculus.specs.Edits.Sheets.{with_content, with_contents, without}
use Rattle.laws_protocol.specs.Acts.{AreProper}

same_content : (c d : Content) → Some c ≡ Some d → c ≡ d
same_content c d h = cc h

-- ---- a content is set

-- what is found then is the content, or was there
abbrev IsOneOf : Content → Content → Cells → Addr → Type 0
IsOneOf d c S b = (c ≡ d) ⊎ (content S b ≡ Some d)

module _ (a b : Addr) (c d : Content) where
  found_front : (s : Bool) (S T : Cells) → same_addr b a ≡ s → (same_addr b a ≡ false → content S b ≡ content T b) → content ((a, c) ∷ S) b ≡ Some d → IsOneOf d c T b
  found_front true S T e same h = inl (same_content c d (ap (λ t. cond t (Some c) (content S b)) (sym e) ∙ h))
  found_front false S T e same h = inr (sym (same e) ∙ ap (λ t. cond t (Some c) (content S b)) (sym e) ∙ h)

  found_behind : (s : Bool) (x : Addr × Content) (S T : Cells) → same_addr b x.0 ≡ s → (content S b ≡ Some d → IsOneOf d c T b) → content (x ∷ S) b ≡ Some d → IsOneOf d c (x ∷ T) b
  found_behind true x S T e ih h = inr (ap (λ t. cond t (Some x.1) (content T b)) e ∙ ap (λ t. cond t (Some x.1) (content S b)) (sym e) ∙ h)
  found_behind false x S T e ih h = elim (ih (ap (λ t. cond t (Some x.1) (content S b)) (sym e) ∙ h)) as (λ _. IsOneOf d c (x ∷ T) b) [
    | inl k ↦ inl k
    | inr k ↦ inr (ap (λ t. cond t (Some x.1) (content T b)) e ∙ k)
  ]

  found_with : (S : Cells) → content (with_content S a c) b ≡ Some d → IsOneOf d c S b
  found_with [] h = found_front (same_addr b a) [] [] refl (λ e. refl) h
  found_with (x ∷ S) h = by (same_addr a x.0) (is_before a x.0) refl (found_with S) h
    where
      hidden : a ≡ x.0 → same_addr b a ≡ false → content S b ≡ content (x ∷ S) b
      hidden e n = sym (ap (λ t. cond t (Some x.1) (content S b)) (ap (same_addr b) (sym e) ∙ n))

      by : (p q : Bool) → same_addr a x.0 ≡ p → (content (with_content S a c) b ≡ Some d → IsOneOf d c S b) → content (cond p ((a, c) ∷ S) (cond q ((a, c) ∷ x ∷ S) (x ∷ with_content S a c))) b ≡ Some d → IsOneOf d c (x ∷ S) b
      by true q e ih k = found_front (same_addr b a) S (x ∷ S) refl (hidden (addr_exact a x.0 e)) k
      by false true e ih k = found_front (same_addr b a) (x ∷ S) (x ∷ S) refl (λ n. refl) k
      by false false e ih k = found_behind (same_addr b x.0) x (with_content S a c) S refl ih k

pub proper_with : (S : Cells) (a : Addr) (c : Content) → AreProper S → IsProperContent c → AreProper (with_content S a c)
proper_with S a c proper one b d h = elim (found_with a b c d S h) as (λ _. IsProperContent d) [
  | inl e ↦ subst IsProperContent e one
  | inr e ↦ proper b d e
]

pub proper_with_all : (cs S : Cells) → AreProper S → AllByRecursion (λ x. IsProperContent x.1) cs → AreProper (with_contents S cs)
proper_with_all [] S proper all = proper
proper_with_all (x ∷ cs) S proper all = proper_with_all cs (with_content S x.0 x.1) (proper_with S x.0 x.1 proper all.0) all.1

-- ---- a range is cleared

-- what is found then was there, and is outside the range
kept : (S : Cells) (r : Range) (b : Addr) (d : Content) → content (without S r) b ≡ Some d → (covers r b ≡ false) × (content S b ≡ Some d)
kept [] r b d h = cc h
kept (x ∷ S) r b d h = by (covers r x.0) (same_addr b x.0) refl refl (kept S r b d) h
  where
    further : same_addr b x.0 ≡ false → content S b ≡ Some d → content (x ∷ S) b ≡ Some d
    further e k = ap (λ t. cond t (Some x.1) (content S b)) e ∙ k

    by : (p s : Bool) → covers r x.0 ≡ p → same_addr b x.0 ≡ s → (content (without S r) b ≡ Some d → (covers r b ≡ false) × (content S b ≡ Some d))
        → content (cond (not p) (x ∷ without S r) (without S r)) b ≡ Some d → (covers r b ≡ false) × (content (x ∷ S) b ≡ Some d)
    by true true e f ih k =
        let no : true ≡ false = sym e ∙ ap (covers r) (sym (addr_exact b x.0 f)) ∙ (ih k).0 in
        cc no
    by true false e f ih k = ((ih k).0, further f (ih k).1)
    by false true e f ih k = (
      ap (covers r) (addr_exact b x.0 f) ∙ e,
      ap (λ t. cond t (Some x.1) (content S b)) f ∙ ap (λ t. cond t (Some x.1) (content (without S r) b)) (sym f) ∙ k,
    )
    by false false e f ih k =
        let rest = ih (ap (λ t. cond t (Some x.1) (content (without S r) b)) (sym f) ∙ k) in
        (rest.0, further f rest.1)

pub proper_without : (S : Cells) (r : Range) → AreProper S → AreProper (without S r)
proper_without S r proper b d h = proper b d (kept S r b d h).1
