-- The laws of explanations.
use Rattle.std.specs.Prelude.{◌≡◌, ℕ, ◌+◌, ◌≤◌, length, map}
use Rattle.gl_calculus.specs.Computation.Lists.{AreDistinct}
use Rattle.gl_calculus.specs.Grid.Limits.{max_demanded}
use Rattle.gl_calculus.specs.Grid.Grid.{Addr}
use Rattle.gl_calculus.specs.Formulas.Formula.{IsSheet}
use Rattle.gl_calculus.specs.Formulas.Fit.{AreFit}
use Rattle.gl_calculus.specs.Calculation.Calculation.{IsAnswer, Settled, IsShown}
use Rattle.gl_calculus.specs.Explanation.Certificate.{Certificate, verdict, Accepted, Answer, Cert, Explains}
use Rattle.gl_calculus.specs.Evaluation.World.{World}

-- What an accepted certificate says is what the address shows.
abbrev pub AcceptedShows : Type 0
AcceptedShows =
    (W : World) (a : Addr) (c : Certificate) →
    verdict W a c ≡ Accepted → IsShown W a c.shown

-- An accepted certificate claims an outcome of each key once at most.
abbrev pub ClaimsOnce : Type 0
ClaimsOnce =
    (W : World) (a : Addr) (c : Certificate) →
    verdict W a c ≡ Accepted → AreDistinct (map (λ n. n.0) c.notes)

-- The walk's certificate is accepted.
abbrev pub WalkAccepted : Type 0
WalkAccepted =
    (W : World) (a : Addr) (c : Certificate) →
    Explains W a (Cert c) → verdict W a c ≡ Accepted

-- It has no more keys than one calculation may demand.
abbrev pub FewKeys : Type 0
FewKeys =
    (W : World) (a : Addr) (c : Certificate) →
    Explains W a (Cert c) → length c.notes + length c.loops ≤ max_demanded

-- Where the calculation settles, the walk explains each address by a certificate.
abbrev pub SettledCertifies : Type 0
SettledCertifies =
    (W : World) (i : ℕ) (a : Addr) (x : Answer) →
    IsSheet W.sheet → IsAnswer W.version W.sheet (Settled W.oracle i) → Explains W a x →
    (c : Certificate) × (x ≡ Cert c)

-- An address has at most one explanation.
abbrev pub OneExplanation : Type 0
OneExplanation =
    (W : World) (a : Addr) (x y : Answer) →
    Explains W a x → Explains W a y → x ≡ y

-- Over fit contents an address has an explanation.
abbrev pub SomeExplanation : Type 0
SomeExplanation = (W : World) (a : Addr) → AreFit W.sheet → (x : Answer) × Explains W a x
