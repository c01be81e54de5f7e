-- Permitted areas are disjoint.
use Rattle.std.proofs.Common.{◌≡◌, true, refl}
use Rattle.gl_calculus.specs.Grid.Grid.{lies_in, grid}
use Rattle.gl_calculus.specs.Values.Value.{Permit, Permitted, Refused, Entry}
use Rattle.gl_calculus.specs.Values.Same.{is_permitted}
use Rattle.gl_calculus.specs.Evaluation.Oracle.{area_of}
use Rattle.gl_calculus.specs.Calculation.Differences.{spills}
use Rattle.laws_calculus.specs.Calculus.{PermitsApart}
use Rattle.gl_calculus.proofs.Tests.{both}

permitted : (p : Permit) → is_permitted p ≡ true → p ≡ Permitted
permitted Permitted e = refl
permitted Refused e = absurd (cc e)

spills_permitted : (x : Entry) → spills x ≡ true → x.permit ≡ Permitted
spills_permitted x e = permitted x.permit (both (is_permitted x.permit) (lies_in (area_of x) grid) e).0

pub apart : PermitsApart
apart bound held w h x y m n s t e = h.apart x y m n (spills_permitted x s) (spills_permitted y t) e
