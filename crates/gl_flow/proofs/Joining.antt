-- Shapes that are joined or stacked one after another.
use Rattle.std.proofs.Common.{◌≡◌, ℕ, ◌+◌, ◌<◌, ◌≤◌, min, max, Bool, true, false, List, [], ◌∷◌, map, length, drop, get_or, refl, sym, subst, ap, ◌∙◌, arith}
use Rattle.std.proofs.lemmas.List.{at_drop_more, at_drop_all}
use Rattle.std.specs.Prelude.{Some, None, option_map}
use Rattle.gl_calculus.specs.Grid.Limits.{max_cells}
use Rattle.gl_calculus.specs.Grid.Grid.{Size, size}
use Rattle.gl_calculus.specs.Forecast.{Shape, size_of, limited, greater_shape, greatest_shape, flipped, vstack_size}
use Rattle.gl_flow.specs.Shapes.{turned, stacked}

same_sizes : (a b c d : ℕ) → a ≡ c → b ≡ d → size a b ≡ size c d
same_sizes a b c d e f = ap (λ t. size t b) e ∙ ap (size c) f

-- in any order, and in any groups
pub joined_swap : (a b c : Shape) → greater_shape (greater_shape a b) c ≡ greater_shape (greater_shape a c) b
joined_swap None None None = refl
joined_swap None None (Some z) = ap Some (same_sizes _ _ _ _ (omega arith) (omega arith))
joined_swap None (Some y) None = ap Some (same_sizes _ _ _ _ (omega arith) (omega arith))
joined_swap None (Some y) (Some z) = ap Some (same_sizes _ _ _ _ (omega arith) (omega arith))
joined_swap (Some x) None None = refl
joined_swap (Some x) None (Some z) = ap Some (same_sizes _ _ _ _ (omega arith) (omega arith))
joined_swap (Some x) (Some y) None = ap Some (same_sizes _ _ _ _ (omega arith) (omega arith))
joined_swap (Some x) (Some y) (Some z) = ap Some (same_sizes _ _ _ _ (omega arith) (omega arith))

pub joined_group : (a b c : Shape) → greater_shape (greater_shape a b) c ≡ greater_shape a (greater_shape b c)
joined_group None None None = refl
joined_group None None (Some z) = ap Some (same_sizes _ _ _ _ (omega arith) (omega arith))
joined_group None (Some y) None = ap Some (same_sizes _ _ _ _ (omega arith) (omega arith))
joined_group None (Some y) (Some z) = ap Some (same_sizes _ _ _ _ (omega arith) (omega arith))
joined_group (Some x) None None = ap Some (same_sizes _ _ _ _ (omega arith) (omega arith))
joined_group (Some x) None (Some z) = ap Some (same_sizes _ _ _ _ (omega arith) (omega arith))
joined_group (Some x) (Some y) None = ap Some (same_sizes _ _ _ _ (omega arith) (omega arith))
joined_group (Some x) (Some y) (Some z) = ap Some (same_sizes _ _ _ _ (omega arith) (omega arith))

pub none_joined : (ss : List Shape) → greater_shape None (greatest_shape ss) ≡ greatest_shape ss
none_joined [] = refl
none_joined (s ∷ ss) =
    sym (joined_group None s (greatest_shape ss)) ∙ joined_swap None s (greatest_shape ss) ∙ ap (λ t. greater_shape t s) (none_joined ss) ∙ turn (greatest_shape ss) s
  where
    turn : (a b : Shape) → greater_shape a b ≡ greater_shape b a
    turn None None = refl
    turn None (Some y) = ap Some (same_sizes _ _ _ _ (omega arith) (omega arith))
    turn (Some x) None = ap Some (same_sizes _ _ _ _ (omega arith) (omega arith))
    turn (Some x) (Some y) = ap Some (same_sizes _ _ _ _ (omega arith) (omega arith))

-- shapes that are joined from the first on: so far `all`, with these still to come
pub record IsJoining (all : Shape) (rest : List Shape) (whole : Shape) : Type 0 where
  pub with_rest : greater_shape all (greatest_shape rest) ≡ whole
  pub has_one : greater_shape all None ≡ all

pub joining_starts : (ss : List Shape) → IsJoining None ss (greatest_shape ss)
joining_starts ss = record { with_rest = none_joined ss; has_one = refl }

pub joining_more : (all s : Shape) (rest : List Shape) (whole : Shape) → IsJoining all (s ∷ rest) whole → IsJoining (greater_shape all s) rest whole
joining_more all s rest whole j = record {
  with_rest = joined_group all s (greatest_shape rest) ∙ j.with_rest;
  has_one = joined_swap all s None ∙ ap (λ t. greater_shape t s) j.has_one;
}

pub joining_ends : (all whole : Shape) → IsJoining all [] whole → all ≡ whole
joining_ends all whole j = sym j.has_one ∙ j.with_rest

-- ---- stacks

abbrev pub turned_shape : Bool → Shape → Shape
turned_shape true s = option_map flipped s
turned_shape false s = s

full_turned : (b : Bool) (s : Shape) → size_of (turned_shape b s) ≡ turned b (size_of s)
full_turned true None = refl
full_turned true (Some s) = refl
full_turned false s = refl

stacked_is : (b : Bool) (ss : List Shape) → stacked b ss ≡ limited (vstack_size (map (turned_shape b) ss))
stacked_is true ss = refl
stacked_is false ss = ap (λ t. limited (vstack_size t)) (sym (same ss))
  where
    same : (ss : List Shape) → map (turned_shape false) ss ≡ ss
    same [] = refl
    same (s ∷ ss) = ap (λ t. s ∷ t) (same ss)

-- these extents with others below, cut
abbrev pub with_below : Size → Size → Size
with_below s t = limited (size (s.rows + t.rows) (max s.cols t.cols))

pub record IsStacking (b : Bool) (all : Size) (rest : List Shape) (whole : Size) : Type 0 where
  pub with_rest : with_below all (vstack_size (map (turned_shape b) rest)) ≡ whole
  pub short : all.rows ≤ max_cells
  pub narrow : all.cols ≤ max_cells

pub stacking_starts : (b : Bool) (ss : List Shape) → IsStacking b (size 0 0) ss (stacked b ss)
stacking_starts b ss = record {
  with_rest = same_sizes _ _ _ _ (ap (λ t. min t max_cells) (omega arith)) (ap (λ t. min t max_cells) (omega arith)) ∙ sym (stacked_is b ss);
  short = omega arith;
  narrow = omega arith;
}

stack_two : (a s u : Size) → with_below a (size (s.rows + u.rows) (max s.cols u.cols)) ≡ with_below (with_below a s) u
stack_two a s u = same_sizes _ _ _ _ (omega arith) (omega arith)

pub stacking_more : (b : Bool) (all : Size) (s : Shape) (rest : List Shape) (whole next : Size) → next ≡ with_below all (turned b (size_of s)) → IsStacking b all (s ∷ rest) whole → IsStacking b next rest whole
stacking_more b all s rest whole next e j = record {
  with_rest =
      ap (λ t. with_below t (vstack_size (map (turned_shape b) rest))) (e ∙ ap (with_below all) (sym (full_turned b s)))
      ∙ sym (stack_two all (size_of (turned_shape b s)) (vstack_size (map (turned_shape b) rest))) ∙ j.with_rest;
  short = let u : next.rows ≡ min (all.rows + (turned b (size_of s)).rows) max_cells = ap (λ t. t.rows) e in omega (arith, u);
  narrow = let u : next.cols ≡ min (max all.cols (turned b (size_of s)).cols) max_cells = ap (λ t. t.cols) e in omega (arith, u);
}

pub stacking_ends : (b : Bool) (all whole : Size) → IsStacking b all [] whole → all ≡ whole
stacking_ends b all whole j = same_sizes all.rows all.cols _ _ (omega (arith, j.short)) (omega (arith, j.narrow)) ∙ j.with_rest

-- ---- one item after another

pub joining_item : {X : Type 0} (shapes : List X → List Shape) (xs : List X) (i : ℕ) (x : X) (all s next whole : Shape) → i < length xs → x ≡ get_or xs i x →
    shapes (x ∷ drop (i + 1) xs) ≡ s ∷ shapes (drop (i + 1) xs) → next ≡ greater_shape all s → IsJoining all (shapes (drop i xs)) whole → IsJoining next (shapes (drop (i + 1) xs)) whole
joining_item shapes xs i x all s next whole l is split e j =
    let here : shapes (drop i xs) ≡ s ∷ shapes (drop (i + 1) xs) = at_drop_more shapes xs i x l ∙ ap (λ t. shapes (t ∷ drop (i + 1) xs)) (sym is) ∙ split in
    subst (λ t. IsJoining t (shapes (drop (i + 1) xs)) whole) (sym e) (joining_more all s (shapes (drop (i + 1) xs)) whole (subst (λ t. IsJoining all t whole) here j))

pub joining_done : {X : Type 0} (shapes : List X → List Shape) (none : shapes [] ≡ []) (xs : List X) (i : ℕ) (all whole : Shape) → length xs ≤ i → IsJoining all (shapes (drop i xs)) whole → all ≡ whole
joining_done shapes none xs i all whole l j = joining_ends all whole (subst (λ t. IsJoining all t whole) (at_drop_all shapes xs i l ∙ none) j)

pub stacking_item : {X : Type 0} (b : Bool) (shapes : List X → List Shape) (xs : List X) (i : ℕ) (x : X) (s : Shape) (all next whole : Size) → i < length xs → x ≡ get_or xs i x →
    shapes (x ∷ drop (i + 1) xs) ≡ s ∷ shapes (drop (i + 1) xs) → next ≡ with_below all (turned b (size_of s)) → IsStacking b all (shapes (drop i xs)) whole → IsStacking b next (shapes (drop (i + 1) xs)) whole
stacking_item b shapes xs i x s all next whole l is split e j =
    let here : shapes (drop i xs) ≡ s ∷ shapes (drop (i + 1) xs) = at_drop_more shapes xs i x l ∙ ap (λ t. shapes (t ∷ drop (i + 1) xs)) (sym is) ∙ split in
    stacking_more b all s (shapes (drop (i + 1) xs)) whole next e (subst (λ t. IsStacking b all t whole) here j)

pub stacking_done : {X : Type 0} (b : Bool) (shapes : List X → List Shape) (none : shapes [] ≡ []) (xs : List X) (i : ℕ) (all whole : Size) → length xs ≤ i → IsStacking b all (shapes (drop i xs)) whole → all ≡ whole
stacking_done b shapes none xs i all whole l j = stacking_ends b all whole (subst (λ t. IsStacking b all t whole) (at_drop_all shapes xs i l ∙ none) j)
