-- The words of a line that is the header of an import.
use Rattle.std.proofs.Common.{◌≡◌, ◌∙◌, ℕ, Bool, true, false, cond, eqb, List, [], ◌∷◌, length, Option, Some, None, IsFalse, refl, sym}
use Rattle.std.specs.Prelude.{bytes_eq, codes, nat_lt}
use Rattle.std.specs.Str.{is_utf8}
use Rattle.gl_language.specs.Texts.Text.{Bytes}
use Rattle.gl_protocol.specs.Framing.Header.{count_by, payload_len}
use Rattle.gl_protocol.specs.Framing.Pieces.{cut_at, pieces, is_number}
use Rattle.gl_protocol.specs.Scripts.Commands.{Words, ImportWords, words_of}
use Rattle.gl_script.proofs.Cuts.{same_bytes}

abbrev behind_cut : Option Bytes → List Bytes
behind_cut None = []
behind_cut (Some bs) = pieces 32 bs

-- the first piece is what stands before the first cut
pieces_cut : (l : Bytes) → pieces 32 l ≡ (cut_at 32 l).0 ∷ behind_cut (cut_at 32 l).1
pieces_cut [] = refl
pieces_cut (b ∷ bs) =
    let P : Bool → Type 0 = λ c. eqb b 32 ≡ c → pieces 32 (b ∷ bs) ≡ (cut_at 32 (b ∷ bs)).0 ∷ behind_cut (cut_at 32 (b ∷ bs)).1 in
    (elim (eqb b 32) as P [
      | true ↦ λ e. rw e refl
      | false ↦ λ e. rw (e, pieces_cut bs) refl
    ]) refl

-- it is an import, with a place and a count
pub record AsImport (l : Bytes) : Type 0 where
  pub place : Bytes
  pub count : Bytes
  pub words : words_of l ≡ Some (ImportWords place count)

counted : (l : Bytes) (n : ℕ) (ps : List Bytes) → pieces 32 l ≡ ps → count_by ps ≡ Some n → AsImport l
counted l n [] e h = cc h
counted l n (w ∷ []) e h = cc h
counted l n (w ∷ place ∷ []) e h = cc h
counted l n (w ∷ place ∷ c ∷ d ∷ ps) e h = cc h
counted l n (w ∷ place ∷ c ∷ []) e h = by (bytes_eq w (codes "import")) (nat_lt 0 (length place)) (is_number c) refl refl refl
  where
    by : (x y z : Bool) → bytes_eq w (codes "import") ≡ x → nat_lt 0 (length place) ≡ y → is_number c ≡ z → AsImport l
    by true true true p q r =
        let heads : (cut_at 32 l).0 ∷ behind_cut (cut_at 32 l).1 ≡ w ∷ place ∷ c ∷ [] = sym (pieces_cut l) ∙ e in
        let same : (cut_at 32 l).0 ≡ w = cc heads in
        let first : (cut_at 32 l).0 ≡ codes "import" = same ∙ same_bytes w (codes "import") p in
        record { place = place; count = c; words = rw (first, e, p, q, r) refl }
    by true true false p q r = let none : None ≡ Some n = rw (p, q, r) at h in cc none
    by true false z p q r = let none : None ≡ Some n = rw (p, q) at h in cc none
    by false y z p q r = let none : None ≡ Some n = rw p at h in cc none

pub header_words : (l : Bytes) (n : ℕ) → payload_len l ≡ Some n → AsImport l
unfolding payload_len
header_words l n h =
    let P : Bool → Type 0 = λ b. cond b (count_by (pieces 32 l)) None ≡ Some n → AsImport l in
    (elim (is_utf8 l) as P [
      | true ↦ λ e. counted l n (pieces 32 l) refl e
      | false ↦ λ e. cc e
    ]) h

pub no_header : (l : Bytes) (n : ℕ) → IsFalse (is_utf8 l) → payload_len l ≡ Some n → ⊥
unfolding payload_len
no_header l n u h = let none : None ≡ Some n = rw u at h in cc none

pub same_words : (ws vs : Words) → Some ws ≡ Some vs → ws ≡ vs
same_words ws vs h = cc h

pub same_place : (p c q d : Bytes) → ImportWords p c ≡ ImportWords q d → p ≡ q
same_place p c q d h = cc h
