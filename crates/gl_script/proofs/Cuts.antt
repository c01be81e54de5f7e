-- The words of a line by its first cuts.
use Rattle.std.proofs.Common.{◌≡◌, ◌≢◌, ◌∙◌, ℕ, suc, Bool, true, false, cond, ◌&&◌, eqb, List, [], ◌∷◌, ◌++◌, length, Some, None, inl, inr, refl, sym, subst, arith}
use Rattle.std.specs.Prelude.{bytes_eq, codes, nat_lt, ◌==◌}
use Rattle.std.proofs.lemmas.Bool.Decides.{nat_tests}
use Rattle.std.proofs.lemmas.Slice.Eq.{bytes_eq-Decides}
use Rattle.gl_language.specs.Texts.Text.{Bytes}
use Rattle.gl_protocol.specs.Framing.Pieces.{cut_at, pieces, is_number}
use Rattle.gl_script.specs.Parts.{some_words}
use Rattle.gl_protocol.specs.Scripts.Commands.{SetWords, ImportWords, words_of, set_words, edit_words, words_of_pieces, one_word, two_words}
use Rattle.gl_script.specs.Parts.{edit_at, edit_behind}
use Rattle.gl_script.proofs.Headers.{Lacks, pieces-none, pieces-at, shape, no_number}

-- ---- cuts

pub cut-none : (separator : ℕ) (bs : Bytes) → Lacks separator bs → cut_at separator bs ≡ (bs, None)
cut-none separator [] h = refl
cut-none separator (b ∷ bs) h =
    let n : b ≢ separator = h 0 (omega arith) in
    let e : eqb b separator ≡ false = grind (arith, nat_tests) in
    let ih = cut-none separator bs (λ i l. h (suc i) (omega arith)) in
    rw (e, ih) refl

pub cut-at : (separator : ℕ) (bs rest : Bytes) → Lacks separator bs → cut_at separator (bs ++ separator ∷ rest) ≡ (bs, Some rest)
cut-at separator [] rest h =
    let e : eqb separator separator ≡ true = grind (arith, nat_tests) in
    rw e refl
cut-at separator (b ∷ bs) rest h =
    let n : b ≢ separator = h 0 (omega arith) in
    let e : eqb b separator ≡ false = grind (arith, nat_tests) in
    let ih = cut-at separator bs rest (λ i l. h (suc i) (omega arith)) in
    rw (e, ih) refl

-- ---- the words of a line

pub same_bytes : (w v : Bytes) → bytes_eq w v ≡ true → w ≡ v
same_bytes w v h = (bytes_eq-Decides w v).0 h

no_single_set : (w : Bytes) → bytes_eq w (codes "set") ≡ true → None ≡ one_word w
no_single_set w h = subst (λ v. None ≡ one_word v) (sym (same_bytes w (codes "set") h)) refl

no_single_edit : (w : Bytes) → bytes_eq w (codes "edit") ≡ true → None ≡ one_word w
no_single_edit w h = subst (λ v. None ≡ one_word v) (sym (same_bytes w (codes "edit") h)) refl

pub words-one : (l : Bytes) → Lacks 32 l → words_of l ≡ one_word l
words-one l h = rw (cut-none 32 l h, pieces-none 32 l h) (by (bytes_eq l (codes "set")) (bytes_eq l (codes "edit")) refl refl)
  where
    by : (s t : Bool) → bytes_eq l (codes "set") ≡ s → bytes_eq l (codes "edit") ≡ t → cond s None (cond t None (one_word l)) ≡ one_word l
    by true t e f = no_single_set l e
    by false true e f = no_single_edit l f
    by false false e f = refl

pub words-set : (w rest : Bytes) → Lacks 32 w → bytes_eq w (codes "set") ≡ true → words_of (w ++ 32 ∷ rest) ≡ set_words (Some rest)
words-set w rest h e = rw (cut-at 32 w rest h, e) refl

pub words-edit : (w rest : Bytes) → Lacks 32 w → bytes_eq w (codes "set") ≡ false → bytes_eq w (codes "edit") ≡ true → words_of (w ++ 32 ∷ rest) ≡ edit_words (Some rest)
words-edit w rest h e f = rw (cut-at 32 w rest h, e, f) refl

pub words-more : (w rest : Bytes) → Lacks 32 w → bytes_eq w (codes "set") ≡ false → bytes_eq w (codes "edit") ≡ false → words_of (w ++ 32 ∷ rest) ≡ words_of_pieces (w ∷ pieces 32 rest)
words-more w rest h e f = rw (cut-at 32 w rest h, e, f, pieces-at 32 w rest h) refl

-- ---- `set` and what follows

pub set-none : (rest : Bytes) → Lacks 32 rest → set_words (Some rest) ≡ None
set-none rest h = rw (cut-none 32 rest h) refl

pub set-some : (place t : Bytes) → Lacks 32 place → set_words (Some (place ++ 32 ∷ t)) ≡ some_words (nat_lt 0 (length place) && nat_lt 0 (length t)) (SetWords place t)
set-some place t h = rw (cut-at 32 place t h) refl

is_some : (n : ℕ) → (n == 0) ≡ false → nat_lt 0 n ≡ true
is_some n e = grind (arith, nat_tests)

is_none : (n : ℕ) → (n == 0) ≡ true → nat_lt 0 n ≡ false
is_none n e = grind (arith, nat_tests)

pub set-empty_place : (place t : Bytes) → Lacks 32 place → (length place == 0) ≡ true → set_words (Some (place ++ 32 ∷ t)) ≡ None
set-empty_place place t h e = set-some place t h ∙ rw (is_none (length place) e) refl

pub set-empty_text : (place t : Bytes) → Lacks 32 place → (length t == 0) ≡ true → set_words (Some (place ++ 32 ∷ t)) ≡ None
set-empty_text place t h e = set-some place t h ∙ by (nat_lt 0 (length place))
  where
    by : (b : Bool) → some_words (b && nat_lt 0 (length t)) (SetWords place t) ≡ None
    by true = rw (is_none (length t) e) refl
    by false = refl

pub set-both : (place t : Bytes) → Lacks 32 place → (length place == 0) ≡ false → (length t == 0) ≡ false → set_words (Some (place ++ 32 ∷ t)) ≡ Some (SetWords place t)
set-both place t h e d = set-some place t h ∙ rw (is_some (length place) e, is_some (length t) d) refl

-- ---- `edit` and what follows

pub edit-none : (rest : Bytes) → Lacks 32 rest → edit_words (Some rest) ≡ None
edit-none rest h = rw (cut-none 32 rest h) refl

pub edit-time : (time rest : Bytes) → Lacks 32 time → edit_words (Some (time ++ 32 ∷ rest)) ≡ edit_behind time (cut_at 32 rest)
edit-time time rest h = rw (cut-at 32 time rest h) refl

pub edit-no_site : (time rest : Bytes) → Lacks 32 rest → edit_behind time (cut_at 32 rest) ≡ None
edit-no_site time rest h = rw (cut-none 32 rest h) refl

pub edit-site : (time site rest : Bytes) → Lacks 32 site → edit_behind time (cut_at 32 (site ++ 32 ∷ rest)) ≡ edit_at time site (cut_at 32 rest)
edit-site time site rest h = rw (cut-at 32 site rest h) refl

-- ---- another word and what follows

pub two-empty : (w rest : Bytes) → Lacks 32 rest → (length rest == 0) ≡ true → words_of_pieces (w ∷ pieces 32 rest) ≡ None
two-empty w rest h e = rw (pieces-none 32 rest h, e) refl

pub two-some : (w rest : Bytes) → Lacks 32 rest → (length rest == 0) ≡ false → words_of_pieces (w ∷ pieces 32 rest) ≡ two_words w rest
two-some w rest h e = rw (pieces-none 32 rest h, e) refl

pub more-cut : (w place rest : Bytes) → Lacks 32 place → words_of_pieces (w ∷ pieces 32 (place ++ 32 ∷ rest)) ≡ words_of_pieces (w ∷ place ∷ pieces 32 rest)
more-cut w place rest h = rw (pieces-at 32 place rest h) refl

-- a count with a space in it is no number
pub three : (w place n : Bytes) → words_of_pieces (w ∷ place ∷ pieces 32 n) ≡ some_words (bytes_eq w (codes "import") && nat_lt 0 (length place) && is_number n) (ImportWords place n)
three w place n = elim (shape n) as (λ _. words_of_pieces (w ∷ place ∷ pieces 32 n) ≡ some_words (bytes_eq w (codes "import") && nat_lt 0 (length place) && is_number n) (ImportWords place n)) [
  | inl one ↦ rw one refl
  | inr more ↦ rw (more.4, no_number n more.0) (never (bytes_eq w (codes "import")) (nat_lt 0 (length place)) (more.3))
]
  where
    never : (a b : Bool) (ps : List Bytes) → None ≡ some_words (a && b && false) (ImportWords place n)
    never true true ps = refl
    never true false ps = refl
    never false b ps = refl

pub import-some : (w place n : Bytes) → bytes_eq w (codes "import") ≡ true → (length place == 0) ≡ false → is_number n ≡ true → words_of_pieces (w ∷ place ∷ pieces 32 n) ≡ Some (ImportWords place n)
import-some w place n a b c = three w place n ∙ rw (a, is_some (length place) b, c) refl

pub import-word : (w place n : Bytes) → bytes_eq w (codes "import") ≡ false → words_of_pieces (w ∷ place ∷ pieces 32 n) ≡ None
import-word w place n a = three w place n ∙ rw a refl

pub import-place : (w place n : Bytes) → (length place == 0) ≡ true → words_of_pieces (w ∷ place ∷ pieces 32 n) ≡ None
import-place w place n b = three w place n ∙ rw (is_none (length place) b) (by (bytes_eq w (codes "import")))
  where
    by : (t : Bool) → some_words (t && false && is_number n) (ImportWords place n) ≡ None
    by true = refl
    by false = refl

pub import-count : (w place n : Bytes) → is_number n ≡ false → words_of_pieces (w ∷ place ∷ pieces 32 n) ≡ None
import-count w place n c = three w place n ∙ rw c (by (bytes_eq w (codes "import")) (nat_lt 0 (length place)))
  where
    by : (t s : Bool) → some_words (t && s && false) (ImportWords place n) ≡ None
    by true true = refl
    by true false = refl
    by false s = refl
