-- What the soundness of a value says of its parts.
use Rattle.std.specs.Prelude.{◌≡◌, ℕ, ◌+◌, ◌*◌, ◌<◌, ◌≤◌, Bool, true, false, ◌&&◌, ◌==◌, nat_lt, nat_le, IsTrue, None, Some, List, [], ◌∷◌, length}
use Rattle.std.proofs.Common.{sym, arith, refl, ◌∙◌}
use Rattle.std.proofs.lemmas.Bool.{and_parts, eqb-true}
use Rattle.std.proofs.lemmas.Bool.Decides.{nat_tests}
use Rattle.std.specs.Str.{IsUtf8}
use Rattle.std.proofs.lemmas.Str.{is_utf8-from_IsUtf8}
use Rattle.gl_calculus.specs.Grid.Limits.{max_rank, max_weight}
use Rattle.gl_calculus.specs.Grid.Grid.{Addr, Range, Size, covers, is_before}
use Rattle.gl_calculus.specs.Values.Value as V
use Rattle.gl_calculus.specs.Values.Value.{Scalar, Overrides, no_override, override_and, Frame, Top, In, sheet_value, rank}
use Rattle.gl_calculus.specs.Values.Sheet.{frame_rank, overrides_weight, frame_weight, weight}
use Rattle.gl_calculus.specs.Evaluation.Sound.{is_size, are_inside, overrides_rank, is_sound_scalar, are_sound, is_sound_value, are_sound_overrides, is_sound_sheet, is_sound_frame}
use Rattle.gl_plane.specs.Parts.{IsSize}
use Rattle.gl_value.specs.Parts.{are_inside_after}
use Rattle.gl_value.specs.View.{override_trees, frame_tree, sheet_tree, item_trees, array_tree}
use Rattle.gl_value.specs.Forms.{sheet_tree_is, array_tree_is}
use Rattle.gl_value.specs.declared.SheetVal.{SheetVal}
use Rattle.gl_value.specs.declared.Scalar as Code
use Rattle.gl_value.specs.declared.Array.{Array as ArrayCode}

pub record SheetFacts (r : Range) (os : Overrides) (e : Frame) (k w : ℕ) : Type 0 where
  pub inside : are_inside r os ≡ true
  pub overrides : are_sound_overrides os ≡ true
  pub frame : is_sound_frame e ≡ true
  pub above_frame : frame_rank e < k
  pub above_values : overrides_rank os ≤ k
  pub rank : k ≤ max_rank
  pub light : w ≤ max_weight
  pub weighs : w ≡ 1 + overrides_weight os + frame_weight e

-- a text of the code is UTF-8, so it is sound where it is short
pub text_sound : (t : List ℕ) → IsUtf8 t → nat_le (length t) 4096 ≡ is_sound_scalar (V.Scalar.Text t)
text_sound t h = rw (is_utf8-from_IsUtf8 t h) refl

le_of : (a b : ℕ) → nat_le a b ≡ true → a ≤ b
le_of a b h = grind (arith, nat_tests)

lt_of : (a b : ℕ) → nat_lt a b ≡ true → a < b
lt_of a b h = grind (arith, nat_tests)

pub facts_of : (r : Range) (os : Overrides) (e : Frame) (k w : ℕ) → is_sound_sheet (sheet_value r os e k w) ≡ true → SheetFacts r os e k w
facts_of r os e k w h =
    let i = are_inside r os in
    let o = are_sound_overrides os in
    let f = is_sound_frame e in
    let b = nat_lt (frame_rank e) k in
    let v = nat_le (overrides_rank os) k in
    let m = nat_le k max_rank in
    let l = nat_le w max_weight in
    let p = and_parts ((((((i && o) && f) && b) && v) && m) && l) (w == weight (sheet_value r os e k w)) h in
    let q = and_parts (((((i && o) && f) && b) && v) && m) l p.0 in
    let s = and_parts ((((i && o) && f) && b) && v) m q.0 in
    let t = and_parts (((i && o) && f) && b) v s.0 in
    let u = and_parts ((i && o) && f) b t.0 in
    let x = and_parts (i && o) f u.0 in
    let y = and_parts i o x.0 in
    record {
      inside = y.0;
      overrides = y.1;
      frame = x.1;
      above_frame = lt_of (frame_rank e) k u.1;
      above_values = le_of (overrides_rank os) k t.1;
      rank = le_of k 96 s.1;
      light = le_of w 65536 q.1;
      weighs = eqb-true w (1 + overrides_weight os + frame_weight e) p.1;
    }

-- the same of a sheet value of the code
pub sheet_facts : (s : SheetVal) → IsTrue (is_sound_sheet (sheet_tree s)) → SheetFacts s.region (override_trees s.overrides.items) (frame_tree s.env) s.rank s.weight
sheet_facts s h = facts_of s.region (override_trees s.overrides.items) (frame_tree s.env) s.rank s.weight (rw (sheet_tree_is s) at h)

pub rank_most : (s : SheetVal) → IsTrue (is_sound_sheet (sheet_tree s)) → s.rank ≤ max_rank
rank_most s h = (sheet_facts s h).rank

pub weight_most : (s : SheetVal) → IsTrue (is_sound_sheet (sheet_tree s)) → s.weight ≤ max_weight
weight_most s h = (sheet_facts s h).light

pub rank_is : (s : SheetVal) → rank (sheet_tree s) ≡ s.rank
rank_is s = rw sheet_tree_is refl

pub weight_is : (s : SheetVal) → IsTrue (is_sound_sheet (sheet_tree s)) → weight (sheet_tree s) ≡ s.weight
weight_is s h = rw sheet_tree_is (sym (sheet_facts s h).weighs)

pub ruleset sheets = (rank_most, weight_most, rank_is, weight_is)

pub items_count : (xs : List Code.Scalar) → length (V.items (item_trees xs)) ≡ length xs
items_count [] = refl
items_count (x ∷ xs) = omega (arith, items_count xs)

size_is : (s : Size) → IsSize s → is_size s ≡ true
size_is s h = grind (arith, nat_tests)

array_parts : (a : ArrayCode) → IsTrue (is_sound_value (array_tree a)) → ((is_size a.size && (length (V.items (item_trees a.items.items)) == a.size.rows * a.size.cols)) ≡ true) × (are_sound (item_trees a.items.items) ≡ true)
array_parts a h =
    let k : is_sound_value (V.Value.Array a.size (item_trees a.items.items)) ≡ true = rw array_tree_is at h in
    and_parts (is_size a.size && (length (V.items (item_trees a.items.items)) == a.size.rows * a.size.cols)) (are_sound (item_trees a.items.items)) k

-- an array is sound: as many items as cells, and each item sound
pub array_count : (a : ArrayCode) → IsTrue (is_sound_value (array_tree a)) → length a.items.items ≡ a.size.rows * a.size.cols
array_count a h =
    sym (items_count a.items.items) ∙ eqb-true (length (V.items (item_trees a.items.items))) (a.size.rows * a.size.cols) (and_parts (is_size a.size) (length (V.items (item_trees a.items.items)) == a.size.rows * a.size.cols) (array_parts a h).0).1

pub array_items : (a : ArrayCode) → IsTrue (is_sound_value (array_tree a)) → IsTrue (are_sound (item_trees a.items.items))
array_items a h = (array_parts a h).1

pub ruleset arrays = (array_count, array_items, array_tree_is)

pub frame_rank_most : (e : Frame) → IsTrue (is_sound_frame e) → frame_rank e ≤ max_rank
frame_rank_most Top h = omega arith
frame_rank_most (In (sheet_value r os e k w) o) h = (facts_of r os e k w h).rank

-- the tests of an array, and of a sheet value of which a part is not sound
pub array_sound : (a : ArrayCode) → IsSize a.size → is_sound_value (array_tree a) ≡ (length a.items.items == a.size.rows * a.size.cols && are_sound (item_trees a.items.items))
array_sound a h = rw (array_tree_is a, size_is a.size h, items_count a.items.items) refl

sheet_false : (a b c d e f g h : Bool) → b ≡ false → false ≡ (((((((a && b) && c) && d) && e) && f) && g) && h)
sheet_false true b c d e f g h p = rw p refl
sheet_false false b c d e f g h p = refl

frame_false : (a b c d e f g : Bool) → b ≡ false → false ≡ ((((((a && b) && c) && d) && e) && f) && g)
frame_false true b c d e f g p = rw p refl
frame_false false b c d e f g p = refl

pub overrides_unsound : (s : SheetVal) → are_sound_overrides (override_trees s.overrides.items) ≡ false → false ≡ is_sound_sheet (sheet_tree s)
overrides_unsound s h = rw (sheet_tree_is s) (sheet_false _ (are_sound_overrides (override_trees s.overrides.items)) _ _ _ _ _ _ h)

pub frame_unsound : (s : SheetVal) → is_sound_frame (frame_tree s.env) ≡ false → false ≡ is_sound_sheet (sheet_tree s)
frame_unsound s h = rw (sheet_tree_is s) (frame_false _ (is_sound_frame (frame_tree s.env)) _ _ _ _ _ h)

-- what is inside, address after address
inside_step : (p q s t : Bool) → ((p && q) && (s && t)) ≡ (p && ((s && q) && t))
inside_step false q s t = refl
inside_step true true true t = refl
inside_step true true false t = refl
inside_step true false true t = refl
inside_step true false false t = refl

alone : (p : Bool) → p ≡ (p && true)
alone true = refl
alone false = refl

inside_after : (r : Range) (a : Addr) (v : V.Value) (os : Overrides) → are_inside r (override_and a v os) ≡ (covers r a && are_inside_after r (Some a) os)
inside_after r a v no_override = alone (covers r a)
inside_after r a v (override_and b u os) = rw (inside_after r b u os) (inside_step (covers r a) (is_before a b) (covers r b) (are_inside_after r (Some b) os))

true_and : (p q : Bool) → (p && q) ≡ ((p && true) && q)
true_and true q = refl
true_and false q = refl

pub inside_from : (r : Range) (os : Overrides) → are_inside r os ≡ are_inside_after r None os
inside_from r no_override = refl
inside_from r (override_and a v os) = inside_after r a v os ∙ true_and (covers r a) (are_inside_after r (Some a) os)
