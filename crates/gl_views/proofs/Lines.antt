-- The cells of a line, joined by spaces.
use Rattle.std.proofs.Common.{◌≡◌, ◌∙◌, ℕ, ◌+◌, ◌<◌, ◌≤◌, min, Bool, true, false, List, [], ◌∷◌, ◌++◌, length, drop, get_or, inl, inr, refl, sym, ap, arith, append_assoc, append-nil, String, Global, if◌then◌else◌}
use Rattle.std.specs.List.{join_with_byte}
use Rattle.std.specs.String.{string_bytes}
use Rattle.std.proofs.lemmas.Bool.{cases_lt}
use Rattle.std.proofs.lemmas.List.{drop_more, at_drop_all}
use Rattle.gl_language.specs.Texts.Text.{Bytes}
use Rattle.gl_protocol.specs.Replies.Tables.{right_aligned, aligned}
use Rattle.gl_views.specs.Cells.{texts_of}

-- what is still to come of some texts, behind others or not
abbrev pub to_come : Bool → List Bytes → Bytes
to_come false xs = join_with_byte 32 xs
to_come true [] = []
to_come true (x ∷ xs) = 32 ∷ join_with_byte 32 (x ∷ xs)

none_to_come : (more : Bool) → to_come more [] ≡ []
none_to_come true = refl
none_to_come false = refl

join_cons : (x : Bytes) (xs : List Bytes) → join_with_byte 32 (x ∷ xs) ≡ x ++ to_come true xs
join_cons x [] = sym (append-nil x)
join_cons x (y ∷ ys) = refl

-- one more text, and what is to come behind it
pub come_more : (more : Bool) (a b d x : Bytes) (xs : List Bytes) → b ≡ a ++ (if more then 32 ∷ [] else []) → d ≡ b ++ x → d ++ to_come true xs ≡ a ++ to_come more (x ∷ xs)
come_more false a b d x xs p q =
    ap (λ z. z ++ to_come true xs) (q ∙ ap (λ z. z ++ x) (p ∙ append-nil a)) ∙ append_assoc a x (to_come true xs) ∙ ap (λ z. a ++ z) (sym (join_cons x xs))
come_more true a b d x xs p q =
    ap (λ z. z ++ to_come true xs) (q ∙ ap (λ z. z ++ x) p ∙ append_assoc a (32 ∷ []) x) ∙ append_assoc a (32 ∷ x) (to_come true xs) ∙ ap (λ z. a ++ 32 ∷ z) (sym (join_cons x xs))

none_aligned : (ns : List ℕ) → aligned ns [] ≡ []
none_aligned [] = refl
none_aligned (n ∷ ns) = refl

-- the texts of a row from a place on, each with its width
abbrev pub from_place : List ℕ → List (String Global) → ℕ → List Bytes
from_place ns row k = aligned (drop k ns) (texts_of (drop k row))

pub aligned_more : (ns : List ℕ) (row : List (String Global)) (k n : ℕ) (t : String Global) → k < length ns → k < length row → n ≡ get_or ns k n → t ≡ get_or row k t → from_place ns row k ≡ right_aligned n (string_bytes t) ∷ from_place ns row (k + 1)
aligned_more ns row k n t h l p q =
    let one : drop k ns ≡ n ∷ drop (k + 1) ns = drop_more ns k n h ∙ ap (λ z. z ∷ drop (k + 1) ns) (sym p) in
    let other : drop k row ≡ t ∷ drop (k + 1) row = drop_more row k t l ∙ ap (λ z. z ∷ drop (k + 1) row) (sym q) in
    ap (λ z. aligned z (texts_of (drop k row))) one ∙ ap (λ (z : List (String Global)). aligned (n ∷ drop (k + 1) ns) (texts_of z)) other

pub aligned_all : (ns : List ℕ) (row : List (String Global)) (k : ℕ) → min (length ns) (length row) ≤ k → from_place ns row k ≡ []
aligned_all ns row k h = elim (cases_lt (length row) (length ns)) [
  | inl less ↦ at_drop_all (λ (z : List (String Global)). aligned (drop k ns) (texts_of z)) row k (omega (arith, h, less)) ∙ none_aligned (drop k ns)
  | inr more ↦ at_drop_all (λ z. aligned z (texts_of (drop k row))) ns k (omega (arith, h, more))
]

pub come_all : (more : Bool) (a : Bytes) (xs : List Bytes) → xs ≡ [] → a ++ to_come more xs ≡ a
come_all more a xs h = ap (λ z. a ++ to_come more z) h ∙ ap (λ z. a ++ z) (none_to_come more) ∙ append-nil a
