-- The elements of a value of one column.
use Rattle.std.proofs.Common.{◌≡◌, Option, Some, None, Result, Ok, Err, ℕ, zero, suc, ◌+◌, ◌*◌, ◌-◌, ◌<◌, ◌≤◌, ◌==◌, true, false, length, get_or, refl, ap, sym, ◌∙◌, arith, IsTrue, if◌then◌else◌, map}
use Rattle.std.specs.Option.{option_or}
use Rattle.std.proofs.lemmas.Bool.{and_parts, eqb-true}
use Rattle.std.proofs.lemmas.List.FromFn.{fill_by_all}
use Rattle.gl_calculus.specs.Values.ErrKind.{ErrKind}
use Rattle.gl_calculus.specs.Values.Value.{Scalar, Value, One, Array, items, elements}
use Rattle.gl_calculus.specs.Values.Lift.{item, shape, rows}
use Rattle.gl_calculus.specs.Values.Operators.{agrees}
use Rattle.gl_calculus.specs.Values.Functions.{is_column_beside, looked_up, first_fault, truth_fault, no_fault, no_error, some_rows, filter_rows, keeps}
use Rattle.gl_value.specs.declared.ErrKind as Code
use Rattle.gl_arrays.specs.Answers.{continued}
use Rattle.gl_calculus.specs.Evaluation.Sound.{is_sound_value}
use Rattle.gl_arrays.specs.Parts.{column_from, are_columns}
use Rattle.gl_arrays.proofs.Tables.{count, item_in}
use Rattle.std.specs.List.{items_where_true}

pub is_column : (u v : Value) → IsTrue (is_column_beside u v) → ((shape u).cols ≡ 1) × ((shape u).rows ≡ (shape v).rows)
is_column u v h =
    let p = and_parts ((shape u).cols == 1) ((shape u).rows == (shape v).rows) h in
    (eqb-true (shape u).cols 1 p.0, eqb-true (shape u).rows (shape v).rows p.1)

-- a column has its elements
pub column_is : (v : Value) → IsTrue (is_sound_value v) → (shape v).cols ≡ 1 → elements v ≡ column_from v 0 (shape v).rows
column_is (One x) h e = refl
column_is (Array s xs) h e =
    let all : length (items xs) ≡ s.rows = count s xs h ∙ (rw e (omega arith)) in
    fill_by_all (λ k. item (Array s xs) k 0) (items xs) s.rows (Scalar.Err ErrKind.Na) all
    (λ k p. (let z : k ≡ k * s.cols + 0 = rw e (omega arith) in let one : 0 < s.cols = omega arith in ap (λ n. get_or (items xs) n (Scalar.Err ErrKind.Na)) z ∙ sym (item_in s xs k 0 p one)))

-- a look at one row more
pub lookup_more : (x : Scalar) (u v : Value) (i n m : ℕ) → n ≡ suc m → looked_up x (column_from u i n) (column_from v i n) ≡ (if agrees (item u i 0) x then item v i 0 else looked_up x (column_from u (i + 1) m) (column_from v (i + 1) m))
lookup_more x u v i n m e = rw e refl

pub lookup_none : (x : Scalar) (u v : Value) (i n : ℕ) → n ≡ zero → looked_up x (column_from u i n) (column_from v i n) ≡ Scalar.Err ErrKind.Na
lookup_none x u v i n e = rw e refl

pub lookup_all : (x : Scalar) (u v : Value) → IsTrue (are_columns u v) → IsTrue (is_sound_value u) → IsTrue (is_sound_value v) → looked_up x (column_from u 0 (shape u).rows) (column_from v 0 (shape u).rows) ≡ looked_up x (elements u) (elements v)
lookup_all x u v h a b =
    let p = and_parts (is_column_beside u v) (is_column_beside v u) h in
    let c = is_column u v p.0 in
    let d = is_column v u p.1 in
    ap (λ n. looked_up x (column_from u 0 (shape u).rows) (column_from v 0 n)) c.1
    ∙ ap (λ ys. looked_up x ys (column_from v 0 (shape v).rows)) (sym (column_is u a c.0))
    ∙ ap (λ ys. looked_up x (elements u) ys) (sym (column_is v b d.0))

pub lookup_passed : (x : Scalar) (u v : Value) (i n : ℕ) (g : Scalar) → i < n → agrees (item u i 0) x ≡ false → looked_up x (column_from u i (n - i)) (column_from v i (n - i)) ≡ g → looked_up x (column_from u (i + 1) (n - (i + 1))) (column_from v (i + 1) (n - (i + 1))) ≡ g
lookup_passed x u v i n g h off e =
    let step = lookup_more x u v i (n - i) (n - (i + 1)) (omega arith) in
    sym (rw off at step) ∙ e

pub lookup_found : (x : Scalar) (u v : Value) (i n : ℕ) (g : Scalar) → i < n → agrees (item u i 0) x ≡ true → looked_up x (column_from u i (n - i)) (column_from v i (n - i)) ≡ g → item v i 0 ≡ g
lookup_found x u v i n g h on e =
    let step = lookup_more x u v i (n - i) (n - (i + 1)) (omega arith) in
    sym (rw on at step) ∙ e

pub lookup_ended : (x : Scalar) (u v : Value) (i n : ℕ) (g : Scalar) → n ≤ i → looked_up x (column_from u i (n - i)) (column_from v i (n - i)) ≡ g → Scalar.Err ErrKind.Na ≡ g
lookup_ended x u v i n g h e = sym (lookup_none x u v i (n - i) (omega arith)) ∙ e

pub lookup_start : (x : Scalar) (u v : Value) (n : ℕ) → n ≡ (shape u).rows → IsTrue (are_columns u v) → IsTrue (is_sound_value u) → IsTrue (is_sound_value v)
    → looked_up x (column_from u 0 (n - 0)) (column_from v 0 (n - 0)) ≡ looked_up x (elements u) (elements v)
lookup_start x u v n e h a b =
    let z : n - 0 ≡ (shape u).rows = omega arith in
    rw z (lookup_all x u v h a b)

-- ---- faults

fault_more : (v : Value) (i n m : ℕ) → n ≡ suc m → first_fault truth_fault (column_from v i n) ≡ option_or (truth_fault (item v i 0)) (first_fault truth_fault (column_from v (i + 1) m))
fault_more v i n m e = rw e refl

pub fault_passed : (v : Value) (i n : ℕ) (g : Option ErrKind) → i < n → None ≡ truth_fault (item v i 0) → first_fault truth_fault (column_from v i (n - i)) ≡ g → first_fault truth_fault (column_from v (i + 1) (n - (i + 1))) ≡ g
fault_passed v i n g h fine e =
    let step = fault_more v i (n - i) (n - (i + 1)) (omega arith) in
    sym (rw (← fine) at step) ∙ e

pub fault_found : (v : Value) (i n m : ℕ) (k : ErrKind) → i < n → n ≡ m → Some k ≡ truth_fault (item v i 0) → first_fault truth_fault (column_from v i (n - i)) ≡ first_fault truth_fault (column_from v 0 n) → Err k ≡ no_fault (first_fault truth_fault (column_from v 0 m))
fault_found v i n m k h z fault e =
    let step = fault_more v i (n - i) (n - (i + 1)) (omega arith) in
    let first = rw (← fault) at step in
    let all : first_fault truth_fault (column_from v 0 m) ≡ Some k = rw (← z) (sym e ∙ first) in
    rw all refl

-- the tests of FILTER, the last of which looks for faults
pub filter_tests : (r : Result (Unit {0}) Code.ErrKind) (v keep : Value) → Ok v ≡ no_error v → Ok keep ≡ no_error keep → is_column_beside keep v ≡ true
    → continued (λ u. Ok u) r ≡ no_fault (first_fault truth_fault (elements keep)) → continued (λ u. some_rows ErrKind.Na (items_where_true (map keeps (elements keep)) (rows v))) r ≡ filter_rows v keep
filter_tests (Ok u) v keep e f on g = rw (← e, ← f, on, ← g) refl
filter_tests (Err k) v keep e f on g = rw (← e, ← f, on, ← g) refl
