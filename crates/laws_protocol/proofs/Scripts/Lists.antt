-- The list of each sheet that a script leads to, fed to an empty sheet, gives this sheet again.
use Rattle.std.proofs.Common.{◌≡◌, ◌∙◌, ℕ, ◌^◌, ◌<◌, List, [], ◌∷◌, ◌++◌, length, map, append_assoc, refl, sym, ap, subst, arith}
use Rattle.std.specs.Prelude.{flat_map, codes}
use Rattle.std.specs.Fmt.{decimal}
use Rattle.std.specs.List.{AllByRecursion}
use Rattle.gl_calculus.specs.Formulas.Formula.{Version, One, Two, Cells}
use Rattle.gl_language.specs.Texts.Text.{Bytes}
use Rattle.gl_protocol.specs.Framing.Framing.{Item, Line, after_line, items}
use Rattle.gl_protocol.specs.Replies.Tables.{line, set_text}
use Rattle.gl_protocol.specs.Scripts.Commands.{list_text, version_lines}
use Rattle.gl_protocol.specs.Scripts.Script.{new_script}
use Rattle.gl_protocol.specs.Scripts.Output as O
use Rattle.gl_protocol.specs.Scripts.Output.{AreReplies}
use Rattle.laws_protocol.specs.Replies.{IsWithinLimits}
use Rattle.laws_protocol.specs.Lists.{listed, version_items, set_items, all_ok, ListsReadBack}
use Rattle.laws_protocol.proofs.Scripts.Clean.{NoControl, visible_clean, clean_append, decimal_visible, space_clean}
use Rattle.laws_protocol.proofs.Scripts.Listed.{IsListed}
use Rattle.laws_protocol.proofs.Scripts.Carried.{sheets_hold}
use Rattle.laws_protocol.proofs.Scripts.Sources.{all_that_comes}
use Rattle.laws_protocol.proofs.Scripts.Framed.{text_of, line_items, AreAlone, no_lf, first_ends, version_alone, sets_alone, items_are}
use Rattle.laws_protocol.proofs.Scripts.Refilled.{IsFilled, filled}
use Rattle.laws_protocol.proofs.Scripts.States.{scripts_keep_sheets}

-- ---- the lines of a list

-- the lines behind the first
abbrev lines_of : Version → Cells → List Bytes
lines_of One S = map set_text S
lines_of Two S = codes "gridlet 2" ∷ map set_text S

sets_text : (S : Cells) → flat_map (λ x. line (set_text x)) S ≡ text_of (map set_text S)
sets_text [] = refl
sets_text (x ∷ S) = ap (λ (z : Bytes). line (set_text x) ++ z) (sets_text S)

lines_text : (version : Version) (S : Cells) → version_lines version ++ flat_map (λ x. line (set_text x)) S ≡ text_of (lines_of version S)
lines_text One S = sets_text S
lines_text Two S = ap (λ (z : Bytes). line (codes "gridlet 2") ++ z) (sets_text S)

set_lines : (S : Cells) → line_items (map set_text S) ≡ set_items S
set_lines [] = refl
set_lines (x ∷ S) = ap (λ (is : List Item). Line (set_text x) ∷ is) (set_lines S)

all_lines : (version : Version) (S : Cells) → line_items (lines_of version S) ≡ version_items version ++ set_items S
all_lines One S = set_lines S
all_lines Two S = ap (λ (is : List Item). Line (codes "gridlet 2") ∷ is) (set_lines S)

all_alone : (version : Version) (S : Cells) → AllByRecursion IsListed S → AreAlone (lines_of version S)
all_alone One S h = sets_alone S h
all_alone Two S h = (version_alone, sets_alone S h)

-- the first line counts the contents
head_clean : (n : ℕ) → n < 2 ^ 64 → NoControl (codes "list " ++ decimal n)
head_clean n h =
    let word = clean_append (codes "list") (32 ∷ []) (visible_clean (codes "list") (refl, (refl, (refl, (refl, tt))))) space_clean in
    (clean_append (codes "list ") (decimal n) word (visible_clean (decimal n) (decimal_visible n h))).plain

behind_head : (version : Version) (S : Cells) → IsWithinLimits S → after_line (list_text version S) ≡ text_of (lines_of version S)
behind_head version S h =
    let head = codes "list " ++ decimal (length S) in
    let sets = flat_map (λ x. line (set_text x)) S in
    ap after_line (append_assoc (line head) (version_lines version) sets)
    ∙ first_ends head (version_lines version ++ sets) (no_lf head (head_clean (length S) (omega (arith, h.1))))
    ∙ lines_text version S

pub listed_are : (version : Version) (S : Cells) → IsWithinLimits S → AllByRecursion IsListed S → listed version S ≡ version_items version ++ set_items S
listed_are version S h k = ap items (behind_head version S h) ∙ items_are (lines_of version S) (all_alone version S k) ∙ all_lines version S

-- ---- as a script

module _ (records : Bytes → List (List Bytes)) where
  replies_to : (version : Version) (S : Cells) → IsFilled records version new_script S S → AreReplies records (version_items version ++ set_items S) (all_ok (version_items version ++ set_items S))
  replies_to One [] f = O.AreReplies.empty
  replies_to One (x ∷ S) f = O.AreReplies.one refl f.run
  replies_to Two S f = O.AreReplies.two refl f.run

pub lists_read_back : ListsReadBack
lists_read_back records version is s rs r =
    let S = s.sheet in
    let kept = scripts_keep_sheets records version is s rs r in
    let all : AllByRecursion IsListed S = sheets_hold IsListed all_that_comes records version r in
    let f = filled records version [] S new_script refl refl kept.0 kept.2 all in
    let lines = listed_are version S kept.2 all in
    record {
      lines = lines;
      last = f.last;
      run = f.run;
      same = f.same;
      replies = subst (λ (js : List Item). AreReplies records js (all_ok js)) (sym lines) (replies_to records version S f);
    }
