-- How a reference goes on with the roots that it has looked at: what the engine follows. It reads as the definitions say, by the law `reads_once`.
use Rattle.std.specs.Prelude.{List, [], ◌∷◌, Option, Some, None}
use Rattle.gl_calculus.specs.Computation.Evaluation.{LookAt}
use Rattle.gl_calculus.specs.Grid.Grid.{Addr, Range, single, extents}
use Rattle.gl_calculus.specs.Values.Value.{Scalar, Blank, Value, One, Array, scalars, Frame}
use Rattle.gl_calculus.specs.Evaluation.Oracle.{Cover}
use Rattle.gl_calculus.specs.Evaluation.Facts.{Fact, find_fact, fact_at}
use Rattle.gl_calculus.specs.Evaluation.Key.{Eval, give, ◌>>=◌}
use Rattle.gl_calculus.specs.Evaluation.Reference.{home, own, status_in, cover_in, shown, spilled}

-- the fact of a root: it is seen already, or it is looked at now
abbrev pub seen_or_looked : Addr → Option Fact → Eval Fact
seen_or_looked a (Some x) = give x
seen_or_looked a None = LookAt (single a) (λ xs. give (fact_at xs a))

-- a scalar that was read, and the facts of the roots that are seen afterwards
abbrev pub Reading : Type 0
Reading = Scalar × List Fact

-- what a covering root shows at an address, where these facts are seen
abbrev pub covered_seen : Frame → List Fact → Option Cover → Eval Reading
covered_seen e seen None = give (Blank, seen)
covered_seen e seen (Some c) = do
  x ← seen_or_looked c.root (find_fact seen c.root)
  v ← own e x
  give (spilled v c.rows c.cols, x ∷ seen)

-- what an address shows by its own value, where these facts are seen
abbrev pub shown_seen : Frame → List Fact → Fact → Option Value → Eval Reading
shown_seen e seen x (Some v) = give (shown (status_in x e) v, seen)
shown_seen e seen x None = covered_seen e seen (cover_in x e)

-- the scalar at an address, read in its home frame
abbrev pub deref_seen : Frame → List Fact → Fact → Eval Reading
deref_seen e seen x = let h = home e x.address in own h x >>= shown_seen h seen x

-- the scalars at addresses, one after another
abbrev pub deref_all_seen : Frame → List Fact → List Fact → Eval (List Scalar)
deref_all_seen e seen [] = give []
deref_all_seen e seen (x ∷ xs) = do
  y ← deref_seen e seen x
  ys ← deref_all_seen e y.1 xs
  give (y.0 ∷ ys)

-- `a`, which begins with nothing seen
abbrev pub address_seen : Frame → Addr → Eval Value
address_seen e a = LookAt (single a) (λ xs. do
  y ← deref_seen e [] (fact_at xs a)
  give (One y.0))

-- `a:b`, which begins with nothing seen
abbrev pub range_seen : Frame → Range → Eval Value
range_seen e r = LookAt r (λ xs. do
  ys ← deref_all_seen e [] xs
  give (Array (extents r) (scalars ys)))
