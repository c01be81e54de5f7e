-- What the words of a line say of their arguments.
use Rattle.std.proofs.Common.{◌≡◌, ◌<◌, Bool, true, false, ◌&&◌, List, [], ◌∷◌, length, Option, Some, None, refl, arith, if◌then◌else◌}
use Rattle.std.specs.Prelude.{bytes_eq, codes, nat_lt, ◌==◌}
use Rattle.std.proofs.lemmas.Bool.Decides.{nat_tests}
use Rattle.gl_language.specs.Texts.Text.{Bytes}
use Rattle.gl_protocol.specs.Framing.Pieces.{cut_at, pieces, is_number}
use Rattle.gl_protocol.specs.Framing.Header.{count_by, count_of}
use Rattle.gl_script.specs.Parts.{some_words}
use Rattle.gl_protocol.specs.Scripts.Commands.{Words, ListWords, CalcWords, OracleWords, QuitWords, ExportWords, UndoWords, RedoWords, FlowWords, SetWords, ClearWords, ViewWords, ShowWords, GetWords, WhyWords, ExplainWords, ImportWords, SiteWords, EditWords, words_of, set_words, edit_words, words_of_pieces, behind, is_text}
use Rattle.gl_script.specs.Numbers.{is_site}
use Rattle.gl_script.specs.Parts.{edit_at, edit_behind}

-- of an import, its count; of `set`, that its text isn't empty; of `site` and `edit`, their numbers, and that there is no empty text
abbrev pub Says : Bytes → Option Words → Type 0
Says l (Some (ImportWords place n)) = (is_number n ≡ true) × (count_by (pieces 32 l) ≡ count_of n)
Says l (Some (SetWords place t)) = 0 < length t
Says l (Some (SiteWords n)) = is_site n ≡ true
Says l (Some (EditWords t n place o)) = ((is_number t && is_number n) ≡ true) × (is_text o ≡ true)
Says l o = Unit {0}

-- ---- `set` and `edit`

some_set : (l place t : Bytes) (a : Bool) → Says l (some_words (a && nat_lt 0 (length t)) (SetWords place t))
some_set l place t true =
    (elim (nat_lt 0 (length t)) as (λ b. nat_lt 0 (length t) ≡ b → Says l (some_words b (SetWords place t))) [
      | true ↦ λ e. grind (arith, nat_tests)
      | false ↦ λ e. tt
    ]) refl
some_set l place t false = tt

set_says : (l : Bytes) (rest : Option Bytes) → Says l (set_words rest)
set_says l None = tt
set_says l (Some rest) =
    elim (cut_at 32 rest).1 as (λ o. Says l (with_text (cut_at 32 rest).0 o)) [ None ↦ tt | Some t ↦ some_set l (cut_at 32 rest).0 t (nat_lt 0 (length (cut_at 32 rest).0)) ]
  where
    with_text : Bytes → Option Bytes → Option Words
    with_text place None = None
    with_text place (Some t) = some_words (nat_lt 0 (length place) && nat_lt 0 (length t)) (SetWords place t)

some_edit : (l t n p : Bytes) (o : Option Bytes) → Says l (edit_at t n (p, o))
some_edit l t n p o = by (is_number t && is_number n) (nat_lt 0 (length p)) (is_text o) refl refl
  where
    by : (a b c : Bool) → (is_number t && is_number n) ≡ a → is_text o ≡ c → Says l (some_words (a && (b && c)) (EditWords t n p o))
    by true true true e f = (e, f)
    by true true false e f = tt
    by true false c e f = tt
    by false b c e f = tt

edit_says : (l : Bytes) (rest : Option Bytes) → Says l (edit_words rest)
edit_says l None = tt
edit_says l (Some r) = timed (cut_at 32 r).0 (cut_at 32 r).1
  where
    sited : (t n : Bytes) (o : Option Bytes) → Says l (behind o (λ r. edit_at t n (cut_at 32 r)))
    sited t n None = tt
    sited t n (Some r) = some_edit l t n (cut_at 32 r).0 (cut_at 32 r).1

    timed : (t : Bytes) (o : Option Bytes) → Says l (behind o (λ r. edit_behind t (cut_at 32 r)))
    timed t None = tt
    timed t (Some r) = sited t (cut_at 32 r).0 (cut_at 32 r).1

-- ---- other words

one_says : (l : Bytes) (a b c d e f g h : Bool) →
    Says l (if a then Some ListWords else if b then Some CalcWords else if c then Some OracleWords else if d then Some QuitWords else if e then Some ExportWords else if f then Some UndoWords else if g then Some RedoWords else if h then Some FlowWords else None)
one_says l true b c d e f g h = tt
one_says l false true c d e f g h = tt
one_says l false false true d e f g h = tt
one_says l false false false true e f g h = tt
one_says l false false false false true f g h = tt
one_says l false false false false false true g h = tt
one_says l false false false false false false true h = tt
one_says l false false false false false false false true = tt
one_says l false false false false false false false false = tt

some_site : (l n : Bytes) (b : Bool) → is_site n ≡ b → Says l (some_words b (SiteWords n))
some_site l n true e = e
some_site l n false e = tt

two_says : (l place : Bytes) (x a b c d e f g : Bool) →
    Says l (if x then None else if a then Some (ClearWords place) else if b then Some (ViewWords place) else if c then Some (ShowWords place) else if d then Some (GetWords place) else if e then Some (WhyWords place) else if f then Some (ExplainWords place) else if g then some_words (is_site place) (SiteWords place) else None)
two_says l place true a b c d e f g = tt
two_says l place false true b c d e f g = tt
two_says l place false false true c d e f g = tt
two_says l place false false false true d e f g = tt
two_says l place false false false false true e f g = tt
two_says l place false false false false false true f g = tt
two_says l place false false false false false false true g = tt
two_says l place false false false false false false false true = some_site l place (is_site place) refl
two_says l place false false false false false false false false = tt

three_says : (l w place n : Bytes) → pieces 32 l ≡ w ∷ place ∷ n ∷ [] → Says l (some_words (bytes_eq w (codes "import") && nat_lt 0 (length place) && is_number n) (ImportWords place n))
three_says l w place n h = by (bytes_eq w (codes "import")) (nat_lt 0 (length place)) (is_number n) refl refl refl
  where
    by : (a b c : Bool) → bytes_eq w (codes "import") ≡ a → nat_lt 0 (length place) ≡ b → is_number n ≡ c → Says l (some_words (a && b && c) (ImportWords place n))
    by true true true p q r = (r, rw (h, p, q) refl)
    by true true false p q r = tt
    by true false c p q r = tt
    by false b c p q r = tt

pieces_say : (l : Bytes) (ps : List Bytes) → pieces 32 l ≡ ps → Says l (words_of_pieces ps)
pieces_say l [] h = tt
pieces_say l (w ∷ []) h =
    one_says l (bytes_eq w (codes "list")) (bytes_eq w (codes "calc")) (bytes_eq w (codes "oracle")) (bytes_eq w (codes "quit")) (bytes_eq w (codes "export")) (bytes_eq w (codes "undo")) (bytes_eq w (codes "redo")) (bytes_eq w (codes "flow"))
pieces_say l (w ∷ place ∷ []) h =
    two_says l place (length place == 0) (bytes_eq w (codes "clear")) (bytes_eq w (codes "view")) (bytes_eq w (codes "show")) (bytes_eq w (codes "get")) (bytes_eq w (codes "why")) (bytes_eq w (codes "explain")) (bytes_eq w (codes "site"))
pieces_say l (w ∷ place ∷ n ∷ []) h = three_says l w place n h
pieces_say l (w ∷ place ∷ n ∷ m ∷ ps) h = tt

pub says : (l : Bytes) → Says l (words_of l)
says l = by (bytes_eq (cut_at 32 l).0 (codes "set")) (bytes_eq (cut_at 32 l).0 (codes "edit"))
  where
    by : (a b : Bool) → Says l (if a then set_words (cut_at 32 l).1 else if b then edit_words (cut_at 32 l).1 else words_of_pieces (pieces 32 l))
    by true b = set_says l (cut_at 32 l).1
    by false true = edit_says l (cut_at 32 l).1
    by false false = pieces_say l (pieces 32 l) refl
