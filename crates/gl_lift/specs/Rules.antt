-- What the answers of a closure are, by plain values.
use Rattle.std.specs.Prelude.{◌≡◌, ℕ, ◌^◌, ◌<◌, Result, IfOk, IsTrue}
use Rattle.std.specs.Fn.{Shared}
use Rattle.std.specs.Borrow.{Bor}
use Rattle.gl_calculus.specs.Values.Value as V
use Rattle.gl_calculus.specs.Evaluation.Sound.{is_sound_scalar}
use Rattle.gl_plane.specs.declared.NoMemory.{NoMemory}
use Rattle.gl_value.specs.View.{scalar_tree}
use Rattle.gl_value.specs.declared.Scalar.{Scalar}

-- each scalar that a call answers is the rule's at what it was called with
abbrev pub Computes1 : {F : Type 0} → Shared F (Bor Scalar × Unit {0}) (Result Scalar NoMemory) → F → (V.Scalar → V.Scalar) → Type 0
Computes1 g f rule = (x : Bor Scalar) (r : Result Scalar NoMemory) → g.post f (x, tt) r → IfOk r (λ z. scalar_tree z ≡ rule (scalar_tree x.now))

abbrev pub Computes2 : {F : Type 0} → Shared F (Bor Scalar × (Bor Scalar × Unit {0})) (Result Scalar NoMemory) → F → (V.Scalar → V.Scalar → V.Scalar) → Type 0
Computes2 g f rule = (x y : Bor Scalar) (r : Result Scalar NoMemory) → g.post f (x, (y, tt)) r → IfOk r (λ z. scalar_tree z ≡ rule (scalar_tree x.now) (scalar_tree y.now))

abbrev pub Computes3 : {F : Type 0} → Shared F (Bor Scalar × (Bor Scalar × (Bor Scalar × Unit {0}))) (Result Scalar NoMemory) → F → (V.Scalar → V.Scalar → V.Scalar → V.Scalar) → Type 0
Computes3 g f rule = (x y w : Bor Scalar) (r : Result Scalar NoMemory) → g.post f (x, (y, (w, tt))) r → IfOk r (λ z. scalar_tree z ≡ rule (scalar_tree x.now) (scalar_tree y.now) (scalar_tree w.now))

-- the same of a closure that is called with a row and a column
abbrev pub ComputesAt : {F : Type 0} → Shared F (ℕ × (ℕ × Unit {0})) (Result Scalar NoMemory) → F → (ℕ → ℕ → V.Scalar) → Type 0
ComputesAt g f rule = (i j : ℕ) (r : Result Scalar NoMemory) → i < 2 ^ 16 → j < 2 ^ 16 → g.post f (i, (j, tt)) r → IfOk r (λ z. scalar_tree z ≡ rule i j)

-- a sound scalar, if there is an answer
abbrev pub IsSoundAnswer : Result Scalar NoMemory → Type 0
IsSoundAnswer r = IfOk r (λ z. IsTrue (is_sound_scalar (scalar_tree z)))

abbrev pub IsSound : Bor Scalar → Type 0
IsSound x = IsTrue (is_sound_scalar (scalar_tree x.now))

-- sound scalars are answered with sound ones
abbrev pub AnswersSound1 : {F : Type 0} → Shared F (Bor Scalar × Unit {0}) (Result Scalar NoMemory) → F → Type 0
AnswersSound1 g f = (x : Bor Scalar) (r : Result Scalar NoMemory) → IsSound x → g.post f (x, tt) r → IsSoundAnswer r

abbrev pub AnswersSound2 : {F : Type 0} → Shared F (Bor Scalar × (Bor Scalar × Unit {0})) (Result Scalar NoMemory) → F → Type 0
AnswersSound2 g f = (x y : Bor Scalar) (r : Result Scalar NoMemory) → IsSound x → IsSound y → g.post f (x, (y, tt)) r → IsSoundAnswer r

abbrev pub AnswersSound3 : {F : Type 0} → Shared F (Bor Scalar × (Bor Scalar × (Bor Scalar × Unit {0}))) (Result Scalar NoMemory) → F → Type 0
AnswersSound3 g f = (x y w : Bor Scalar) (r : Result Scalar NoMemory) → IsSound x → IsSound y → IsSound w → g.post f (x, (y, (w, tt))) r → IsSoundAnswer r

abbrev pub AnswersSoundAt : {F : Type 0} → Shared F (ℕ × (ℕ × Unit {0})) (Result Scalar NoMemory) → F → Type 0
AnswersSoundAt g f = (i j : ℕ) (r : Result Scalar NoMemory) → i < 2 ^ 16 → j < 2 ^ 16 → g.post f (i, (j, tt)) r → IsSoundAnswer r
