use Rattle.std.proofs.Common.{◌≡◌, ◌<◌, ◌≤◌, take}
use Rattle.std.specs.Fmt.{decimal}
use Rattle.gl_plane.proofs.text.read_number.Given as goal

-- The digits so far are those of the number, which is 0 only before the first.
abbrev pub invariant-loop-digit : goal.invariant-loop-digit
invariant-loop-digit l = record {
  small : l.number ≤ 9999;
  begun : l.number ≡ 0 → l.digit-index ≡ 0;
  written : 0 < l.number → decimal l.number ≡ take l.digit-index l.digits;
}
