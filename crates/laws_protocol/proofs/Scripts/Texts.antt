-- The texts of `set` and `edit` are UTF-8 where their line is.
use Rattle.std.proofs.Common.{◌≡◌, ◌∙◌, ℕ, Bool, true, false, cond, ◌&&◌, nat_lt, ◌==◌, List, [], ◌∷◌, ◌++◌, length, Option, Some, None, refl, ap, subst, arith, if◌then◌else◌}
use Rattle.std.specs.Prelude.{bytes_eq, codes, ⊤}
use Rattle.std.specs.Str.{IsUtf8}
use Rattle.std.proofs.lemmas.Bool.Decides.{nat_tests}
use Rattle.gl_language.specs.Texts.Text.{Bytes}
use Rattle.gl_script.specs.Parts.{Cut}
use Rattle.gl_protocol.specs.Framing.Pieces.{cut_at, pieces, is_number}
use Rattle.gl_script.specs.Parts.{some_words}
use Rattle.gl_protocol.specs.Scripts.Commands.{Words, ListWords, CalcWords, OracleWords, QuitWords, ExportWords, UndoWords, RedoWords, FlowWords, SetWords, EditWords, ClearWords, ViewWords, ShowWords, GetWords, WhyWords, ExplainWords, SiteWords, ImportWords, words_of, set_words, edit_words, words_of_pieces, behind, is_text}
use Rattle.gl_script.specs.Numbers.{is_site}
use Rattle.gl_script.specs.Parts.{edit_at, edit_behind}
use Rattle.gl_script.proofs.Decoded.{after_ascii}

cut_is : (c : ℕ) (bs rest : Bytes) → (cut_at c bs).1 ≡ Some rest → bs ≡ (cut_at c bs).0 ++ c ∷ rest
cut_is c [] rest h = cc h
cut_is c (b ∷ bs) rest h = by (b == c) refl (cut_is c bs rest) h
  where
    same : (xs ys : Bytes) → Some xs ≡ Some ys → xs ≡ ys
    same xs ys e = cc e

    by : (t : Bool) → (b == c) ≡ t → ((cut_at c bs).1 ≡ Some rest → bs ≡ (cut_at c bs).0 ++ c ∷ rest)
        → (cond {A = Cut} t ([], Some bs) (b ∷ (cut_at c bs).0, (cut_at c bs).1)).1 ≡ Some rest → b ∷ bs ≡ (cond {A = Cut} t ([], Some bs) (b ∷ (cut_at c bs).0, (cut_at c bs).1)).0 ++ c ∷ rest
    by true e ih k =
        let s : b ≡ c = grind (arith, nat_tests, e) in
        ap (λ (x : ℕ). x ∷ bs) s ∙ ap (λ (xs : Bytes). c ∷ xs) (same bs rest k)
    by false e ih k = ap (λ (xs : Bytes). b ∷ xs) (ih k)

behind_cut : (bs rest : Bytes) → IsUtf8 bs → (cut_at 32 bs).1 ≡ Some rest → IsUtf8 rest
behind_cut bs rest u h = after_ascii (cut_at 32 bs).0 rest 32 (subst IsUtf8 (cut_is 32 bs rest h) u) (omega arith)

-- a text is UTF-8, where there is one
abbrev pub IsTextIn : Option Bytes → Type 0
IsTextIn (Some t) = IsUtf8 t
IsTextIn None = ⊤

-- of `set` and `edit`, that their text is UTF-8 where the line is
abbrev pub Says : Bytes → Option Words → Type 0
Says l (Some (SetWords place t)) = IsUtf8 l → IsUtf8 t
Says l (Some (EditWords time site place o)) = IsUtf8 l → IsTextIn o
Says l o = ⊤

some_set : (l place t : Bytes) (b : Bool) → (IsUtf8 l → IsUtf8 t) → Says l (some_words b (SetWords place t))
some_set l place t true h = h
some_set l place t false h = tt

set_says : (l : Bytes) (o : Option Bytes) → (cut_at 32 l).1 ≡ o → Says l (set_words o)
set_says l None e = tt
set_says l (Some rest) e =
    (elim (cut_at 32 rest).1 as (λ o. (cut_at 32 rest).1 ≡ o → Says l (with_text (cut_at 32 rest).0 o)) [
      | None ↦ λ f. tt
      | Some t ↦ λ f. some_set l (cut_at 32 rest).0 t (nat_lt 0 (length (cut_at 32 rest).0) && nat_lt 0 (length t)) (λ u. behind_cut rest t (behind_cut l rest u e) f)
    ]) refl
  where
    with_text : Bytes → Option Bytes → Option Words
    with_text place None = None
    with_text place (Some t) = some_words (nat_lt 0 (length place) && nat_lt 0 (length t)) (SetWords place t)

text_behind : (bs : Bytes) (o : Option Bytes) → (cut_at 32 bs).1 ≡ o → IsUtf8 bs → IsTextIn o
text_behind bs (Some t) e u = behind_cut bs t u e
text_behind bs None e u = tt

some_edit : (l t n p : Bytes) (o : Option Bytes) (b : Bool) → (IsUtf8 l → IsTextIn o) → Says l (some_words b (EditWords t n p o))
some_edit l t n p o true h = h
some_edit l t n p o false h = tt

edit_says : (l : Bytes) (rest : Option Bytes) → (cut_at 32 l).1 ≡ rest → Says l (edit_words rest)
edit_says l None e = tt
edit_says l (Some r) e = timed (cut_at 32 r).0 (cut_at 32 r).1 (λ u. text_behind r (cut_at 32 r).1 refl (behind_cut l r u e))
  where
    last : (t n r : Bytes) → (IsUtf8 l → IsUtf8 r) → Says l (edit_at t n (cut_at 32 r))
    last t n r h =
        some_edit l t n (cut_at 32 r).0 (cut_at 32 r).1 ((is_number t && is_number n) && (nat_lt 0 (length (cut_at 32 r).0) && is_text (cut_at 32 r).1)) (λ u. text_behind r (cut_at 32 r).1 refl (h u))

    sited : (t n : Bytes) (o : Option Bytes) → (IsUtf8 l → IsTextIn o) → Says l (behind o (λ r. edit_at t n (cut_at 32 r)))
    sited t n None h = tt
    sited t n (Some r) h = last t n r h

    timed : (t : Bytes) (o : Option Bytes) → (IsUtf8 l → IsTextIn o) → Says l (behind o (λ r. edit_behind t (cut_at 32 r)))
    timed t None h = tt
    timed t (Some r) h = sited t (cut_at 32 r).0 (cut_at 32 r).1 (λ u. text_behind r (cut_at 32 r).1 refl (h u))

one_says : (l : Bytes) (a b c d e f g h : Bool) →
    Says l (if a then Some ListWords else if b then Some CalcWords else if c then Some OracleWords else if d then Some QuitWords else if e then Some ExportWords else if f then Some UndoWords else if g then Some RedoWords else if h then Some FlowWords else None)
one_says l true b c d e f g h = tt
one_says l false true c d e f g h = tt
one_says l false false true d e f g h = tt
one_says l false false false true e f g h = tt
one_says l false false false false true f g h = tt
one_says l false false false false false true g h = tt
one_says l false false false false false false true h = tt
one_says l false false false false false false false true = tt
one_says l false false false false false false false false = tt

some_site : (l n : Bytes) (b : Bool) → Says l (some_words b (SiteWords n))
some_site l n true = tt
some_site l n false = tt

two_says : (l place : Bytes) (x a b c d e f g : Bool) →
    Says l (if x then None else if a then Some (ClearWords place) else if b then Some (ViewWords place) else if c then Some (ShowWords place) else if d then Some (GetWords place) else if e then Some (WhyWords place) else if f then Some (ExplainWords place) else if g then some_words (is_site place) (SiteWords place) else None)
two_says l place true a b c d e f g = tt
two_says l place false true b c d e f g = tt
two_says l place false false true c d e f g = tt
two_says l place false false false true d e f g = tt
two_says l place false false false false true e f g = tt
two_says l place false false false false false true f g = tt
two_says l place false false false false false false true g = tt
two_says l place false false false false false false false true = some_site l place (is_site place)
two_says l place false false false false false false false false = tt

three_says : (l place n : Bytes) (b : Bool) → Says l (some_words b (ImportWords place n))
three_says l place n true = tt
three_says l place n false = tt

pieces_say : (l : Bytes) (ps : List Bytes) → Says l (words_of_pieces ps)
pieces_say l [] = tt
pieces_say l (w ∷ []) =
    one_says l (bytes_eq w (codes "list")) (bytes_eq w (codes "calc")) (bytes_eq w (codes "oracle")) (bytes_eq w (codes "quit")) (bytes_eq w (codes "export")) (bytes_eq w (codes "undo")) (bytes_eq w (codes "redo")) (bytes_eq w (codes "flow"))
pieces_say l (w ∷ place ∷ []) =
    two_says l place (length place == 0) (bytes_eq w (codes "clear")) (bytes_eq w (codes "view")) (bytes_eq w (codes "show")) (bytes_eq w (codes "get")) (bytes_eq w (codes "why")) (bytes_eq w (codes "explain")) (bytes_eq w (codes "site"))
pieces_say l (w ∷ place ∷ n ∷ []) = three_says l place n (bytes_eq w (codes "import") && nat_lt 0 (length place) && is_number n)
pieces_say l (w ∷ place ∷ n ∷ m ∷ ps) = tt

says : (l : Bytes) → Says l (words_of l)
says l = by (bytes_eq (cut_at 32 l).0 (codes "set")) (bytes_eq (cut_at 32 l).0 (codes "edit"))
  where
    by : (a b : Bool) → Says l (if a then set_words (cut_at 32 l).1 else if b then edit_words (cut_at 32 l).1 else words_of_pieces (pieces 32 l))
    by true b = set_says l (cut_at 32 l).1 refl
    by false true = edit_says l (cut_at 32 l).1 refl
    by false false = pieces_say l (pieces 32 l)

pub text_of_set : (l place t : Bytes) → words_of l ≡ Some (SetWords place t) → IsUtf8 l → IsUtf8 t
text_of_set l place t h = subst (Says l) h (says l)

pub text_of_edit : (l time site place : Bytes) (o : Option Bytes) → words_of l ≡ Some (EditWords time site place o) → IsUtf8 l → IsTextIn o
text_of_edit l time site place o h = subst (Says l) h (says l)
