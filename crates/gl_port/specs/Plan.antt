-- What a read and a write do, where it is known beforehand which of them fail.
use Rattle.std.specs.Prelude.{◌≡◌, ℕ, ◌≤◌, IsTrue, IsFalse, Option, Some, IfSome, Result, MatchResult}
use Rattle.gl_protocol.specs.Run.Plans.{Plan, is_listed, behind, WritePlan, must_fail, behind_write}

-- a read fails exactly where it is listed, and gives at most `step` bytes
abbrev pub ReadsBy : {E : Type 0} → Option Plan → Option Plan → Result ℕ E → Type 0
ReadsBy old new result = IfSome old (λ p.
    (new ≡ Some (behind p)) × MatchResult result (λ n. IsFalse (is_listed p) × (n ≤ p.step)) (λ _. IsTrue (is_listed p)))

-- a write fails exactly where it is listed or no room is left, and takes at most `step` bytes, and what has room
abbrev pub WritesBy : {E : Type 0} → Option WritePlan → Option WritePlan → Result ℕ E → Type 0
WritesBy old new result = IfSome old (λ p. MatchResult result
    (λ n. IsFalse (must_fail p) × (n ≤ p.calls.step) × (n ≤ p.room) × (new ≡ Some (behind_write p n)))
    (λ _. IsTrue (must_fail p) × (new ≡ Some (behind_write p 0))))
