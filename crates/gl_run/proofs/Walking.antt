-- The contents of a sheet in turn.
use Rattle.std.proofs.Common.{◌≡◌, inl, inr, Bool, true, false, cond, ◌&&◌, List, [], ◌∷◌, ◌++◌, map, find, Option, Some, None, if◌then◌else◌, refl, ap, sym, subst, ◌∙◌, arith, append_assoc, append-nil}
use Rattle.std.proofs.lemmas.Grind.{common_steps}
use Rattle.std.proofs.lemmas.List.Elements.{All-head, All-tail}
use Rattle.std.specs.Map.{keys_of}
use Rattle.gl_calculus.specs.Computation.Lists.{Member}
use Rattle.gl_calculus.specs.Grid.Grid.{Addr, same_addr, is_before, AreInOrder, covers, grid}
use Rattle.gl_calculus.specs.Formulas.Formula.{Content, Cells, IsSheet, content}
use Rattle.gl_calculus.proofs.Tests.{addr_same}
use Rattle.gl_calculus.proofs.Grants.{Before}
use Rattle.gl_language.specs.Texts.Text.{Bytes}
use Rattle.gl_plane.specs.Parts.{IsAddr}
use Rattle.gl_protocol.specs.Replies.Tables.{line, set_text}
use Rattle.gl_cells.specs.Search.{is_in_play}
use Rattle.gl_cells.specs.Sheet.{Table, sheet, ArePlaced}
use Rattle.gl_cells.proofs.Clearing.{covers_yes}
use Rattle.gl_demand.proofs.Ordered.{tail, behind}
use Rattle.gl_run.specs.Replies.{set_line, set_lines}

abbrev pub places : Cells → List Addr
places S = map (λ x. x.0) S

abbrev pub first_place : Cells → Option Addr
first_place [] = None
first_place (x ∷ xs) = Some x.0

-- ---- the first behind an address

-- each content is on the grid, so a search of the grid passes over none
find_placed : (p : Addr → Bool) (es : Table) → ArePlaced es → find (λ a. covers grid a && p a) (places (sheet es)) ≡ find p (places (sheet es))
find_placed p [] h = refl
find_placed p (e ∷ es) h =
    ap (λ b. cond (b && p e.0) (Some e.0) (find (λ a. covers grid a && p a) (places (sheet es)))) (covers_yes grid e.0 (All-head IsAddr e.0 (keys_of es) h))
    ∙ ap (λ o. cond (p e.0) (Some e.0) o) (find_placed p es (All-tail IsAddr e.0 (keys_of es) h))

first_of : (S : Cells) → find (λ a. true) (places S) ≡ first_place S
first_of [] = refl
first_of (x ∷ xs) = refl

-- the first of all
next_first : (es : Table) → ArePlaced es → find (is_in_play grid None) (places (sheet es)) ≡ first_place (sheet es)
next_first es p = find_placed (λ a. true) es p ∙ first_of (sheet es)

after_not : (a b : Addr) → Before a b → is_before b a ≡ false
after_not a b h = grind (arith, common_steps)

itself_not : (a : Addr) → is_before a a ≡ false
itself_not a = grind (arith, common_steps)

apart : (a b : Addr) → Before a b → same_addr b a ≡ false
apart a b h = grind (arith, common_steps)

member_last : (done : Cells) (x : Addr × Content) (rest : Cells) → Member x.0 (places (done ++ x ∷ rest))
member_last [] x rest = inl refl
member_last (d ∷ ds) x rest = inr (member_last ds x rest)

behind_last : (rest : Cells) (a : Addr) → AreInOrder (a ∷ places rest) → find (is_before a) (places rest) ≡ first_place rest
behind_last [] a o = refl
behind_last (y ∷ ys) a o = ap (λ b. cond b (Some y.0) (find (is_before a) (places ys))) o.0

find_behind : (done : Cells) (x : Addr × Content) (rest : Cells) → AreInOrder (places (done ++ x ∷ rest)) → find (is_before x.0) (places (done ++ x ∷ rest)) ≡ first_place rest
find_behind [] x rest o = ap (λ b. cond b (Some x.0) (find (is_before x.0) (places rest))) (itself_not x.0) ∙ behind_last rest x.0 o
find_behind (d ∷ ds) x rest o =
    ap (λ b. cond b (Some d.0) (find (is_before x.0) (places (ds ++ x ∷ rest)))) (after_not d.0 x.0 (behind d.0 (places (ds ++ x ∷ rest)) o x.0 (member_last ds x rest)))
    ∙ find_behind ds x rest (tail d.0 (places (ds ++ x ∷ rest)) o)

-- the first behind one that is told
next_behind : (es : Table) (done : Cells) (x : Addr × Content) (rest : Cells) → ArePlaced es → sheet es ≡ done ++ x ∷ rest → AreInOrder (places (done ++ x ∷ rest)) → find (is_in_play grid (Some x.0)) (places (sheet es)) ≡ first_place rest
next_behind es done x rest p e o = find_placed (is_before x.0) es p ∙ ap (λ T. find (is_before x.0) (places T)) e ∙ find_behind done x rest o

-- ---- the content of an address

content_at : (done : Cells) (x : Addr × Content) (rest : Cells) → AreInOrder (places (done ++ x ∷ rest)) → content (done ++ x ∷ rest) x.0 ≡ Some x.1
content_at [] x rest o = ap (λ b. if b then Some x.1 else content rest x.0) (addr_same x.0)
content_at (d ∷ ds) x rest o =
    ap (λ b. if b then Some d.1 else content (ds ++ x ∷ rest) x.0) (apart d.0 x.0 (behind d.0 (places (ds ++ x ∷ rest)) o x.0 (member_last ds x rest)))
    ∙ content_at ds x rest (tail d.0 (places (ds ++ x ∷ rest)) o)

-- ---- the walk

-- the contents up to this address are told, and the rest follow
pub record Walk (S : Cells) (after : Option Addr) (old out : Bytes) : Type 0 where
  pub done : Cells
  pub rest : Cells
  pub joined : S ≡ done ++ rest
  pub next : find (is_in_play grid after) (places S) ≡ first_place rest
  pub written : out ≡ old ++ set_lines done

pub walk_begins : (es : Table) (out : Bytes) → ArePlaced es → Walk (sheet es) None out out
walk_begins es out p = record { done = []; rest = sheet es; joined = refl; next = next_first es p; written = sym (append-nil out) }

lines_more : (done : Cells) (x : Addr × Content) → set_lines (done ++ x ∷ []) ≡ set_lines done ++ line (set_text x)
lines_more [] x = append-nil (line (set_text x))
lines_more (d ∷ ds) x = ap (λ t. line (set_text d) ++ t) (lines_more ds x) ∙ sym (append_assoc (line (set_text d)) (set_lines ds) (line (set_text x)))

pub walk_on : (es : Table) (after : Option Addr) (a : Addr) (old out out' : Bytes) → ArePlaced es → IsSheet (sheet es) → find (is_in_play grid after) (places (sheet es)) ≡ Some a
    → out' ≡ out ++ set_line a (content (sheet es) a) → Walk (sheet es) after old out → Walk (sheet es) (Some a) old out'
walk_on es after a old out out' p o e more h = by h.done h.rest h.joined (sym e ∙ h.next) h.written
  where
    by : (done rest : Cells) → sheet es ≡ done ++ rest → Some a ≡ first_place rest → out ≡ old ++ set_lines done → Walk (sheet es) (Some a) old out'
    by done [] j f w = let no : ⊥ = cc in absurd no
    by done (x ∷ xs) j f w =
        let at : a ≡ x.0 = cc in
        let ordered : AreInOrder (places (done ++ x ∷ xs)) = subst (λ T. AreInOrder (places T)) j o in
        let is : content (sheet es) a ≡ Some x.1 = ap (content (sheet es)) at ∙ ap (λ T. content T x.0) j ∙ content_at done x xs ordered in
        let said : out' ≡ out ++ line (set_text x) = more ∙ ap (λ c. out ++ set_line a c) is ∙ ap (λ b. out ++ line (set_text (b, x.1))) at in
        record {
          done = done ++ x ∷ [];
          rest = xs;
          joined = j ∙ sym (append_assoc done (x ∷ []) xs);
          next = ap (λ b. find (is_in_play grid (Some b)) (places (sheet es))) at ∙ next_behind es done x xs p j ordered;
          written = said ∙ ap (λ t. t ++ line (set_text x)) w ∙ append_assoc old (set_lines done) (line (set_text x)) ∙ ap (λ t. old ++ t) (sym (lines_more done x));
        }

pub walk_ends : (S : Cells) (after : Option Addr) (old out : Bytes) → find (is_in_play grid after) (places S) ≡ None → Walk S after old out → out ≡ old ++ set_lines S
walk_ends S after old out e h = by h.rest h.joined (sym e ∙ h.next)
  where
    by : (rest : Cells) → S ≡ h.done ++ rest → None ≡ first_place rest → out ≡ old ++ set_lines S
    by [] j f = h.written ∙ ap (λ T. old ++ set_lines T) (sym (j ∙ append-nil h.done))
    by (x ∷ xs) j f = let no : ⊥ = cc in absurd no
