use Rattle.std.proofs.Common.{◌≤◌, ◌<◌, ◌-◌, ℕ, length}
use Rattle.gl_flow.specs.Places.{StandsAt}
use Rattle.gl_flow.proofs.places.number_of.Given as goal

-- an address that is listed stands between the two
abbrev pub invariant-loop-low : goal.invariant-loop-low
invariant-loop-low l = record {
  high : l.high ≤ length l.places;
  between : (k : ℕ) → StandsAt l.places l.a k → (l.low ≤ k) × (k < l.high);
}

abbrev pub decreases-loop-low : goal.decreases-loop-low
decreases-loop-low l = l.high - l.low
