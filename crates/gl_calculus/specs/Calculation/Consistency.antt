-- A consistent oracle, said without rounds and without the granting of permits.
use Rattle.std.specs.Prelude.{◌↔◌, Some, Ok}
use Rattle.gl_calculus.specs.Computation.Lists.{Member}
use Rattle.gl_calculus.specs.Computation.Query.{Gives}
use Rattle.gl_calculus.specs.Computation.Evaluation.{given}
use Rattle.gl_calculus.specs.Grid.Grid.{Addr, Size, grid}
use Rattle.gl_calculus.specs.Values.Value as V
use Rattle.gl_calculus.specs.Values.Value.{Permit, Scalars, Array, Top}
use Rattle.gl_calculus.specs.Evaluation.Oracle.{IsInOrder, ArePermits}
use Rattle.gl_calculus.specs.Evaluation.Facts.{fact, facts}
use Rattle.gl_calculus.specs.Evaluation.Reference.{own}
use Rattle.gl_calculus.specs.Evaluation.World.{World}
use Rattle.gl_calculus.specs.Evaluation.Evaluation.{program}
use Rattle.gl_calculus.specs.Calculation.Calculation.{has_content}

module _ (W : World) where
  -- the own value of an address of the top sheet
  abbrev pub Owns : Addr → V.Value → Type 0
  Owns a v =
      Gives (program W) (given (facts W.sheet W.oracle) (own Top (fact W.sheet W.oracle a)))
      (Ok (Some v))

  pub record IsConsistent : Type 0 where
    -- one entry for each root, in row-major order
    pub in_order : IsInOrder W.oracle
    -- the entries are exactly the contents whose own values are arrays, with their sizes
    pub entries : (a : Addr) (z : Size) →
        ((p : Permit) × Member (record { root = a; size = z; permit = p }) W.oracle) ↔
        ((xs : Scalars) × Owns a (Array z xs))
    pub permits : ArePermits grid (has_content W.sheet) W.oracle
