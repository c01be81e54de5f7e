-- Tests of all fields of a record, one after the other.
use Rattle.std.proofs.Common.{◌≡◌, ℕ, ◌+◌, Bool, true, false, ◌&&◌, List, drop, Some, IsTrue, refl, ap, subst}
use Rattle.std.specs.List.{list_all}
use Rattle.std.specs.Str.{IsUtf8, is_utf8}
use Rattle.std.proofs.lemmas.Str.{IsUtf8-from_is_utf8}
use Rattle.csv.specs.Records.{field_at}
use Rattle.gl_csvin.proofs.Reached.{drop-field_more}

both : (x y : Bool) → IsTrue (x && y) → IsTrue x × IsTrue y
both true true h = (refl, refl)
both true false h = absurd (cc h)
both false y h = absurd (cc h)

pub no_text : (f : List ℕ) → (IsUtf8 f → ⊥) → is_utf8 f ≡ false
no_text f h = by (is_utf8 f) refl
  where
    by : (b : Bool) → is_utf8 f ≡ b → is_utf8 f ≡ false
    by true e = absurd (h (IsUtf8-from_is_utf8 f e))
    by false e = e

-- the test of the fields from a place on is that of the first of them, and of the rest
pub texts_more : (fs : List (List ℕ)) (j : ℕ) (f : List ℕ) → field_at fs j ≡ Some f → list_all is_utf8 (drop j fs) ≡ (is_utf8 f && list_all is_utf8 (drop (j + 1) fs))
texts_more fs j f h = ap (list_all is_utf8) (drop-field_more fs j f h)

pub texts_split : (fs : List (List ℕ)) (j : ℕ) (f : List ℕ) → field_at fs j ≡ Some f → IsTrue (list_all is_utf8 (drop j fs)) → IsTrue (is_utf8 f) × IsTrue (list_all is_utf8 (drop (j + 1) fs))
texts_split fs j f h t = both (is_utf8 f) (list_all is_utf8 (drop (j + 1) fs)) (subst IsTrue (texts_more fs j f h) t)
