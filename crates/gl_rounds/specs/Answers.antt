-- What iteration answers.
use Rattle.std.specs.Prelude.{◌≡◌, ℕ, suc, Bool, Result, Ok, Err, Some}
use Rattle.gl_calculus.specs.Grid.Grid.{Addr, Range}
use Rattle.gl_calculus.specs.Values.Value.{Oracle}
use Rattle.gl_calculus.specs.Evaluation.Oracle.{Sizes, grant, first_difference}
use Rattle.gl_rounds.specs.Rounds.{Calls, LastCall}
use Rattle.gl_rounds.specs.declared.Settled.{Settled}
use Rattle.gl_rounds.specs.declared.IterFault.{IterFault}
use Rattle.gl_rounds.specs.declared.IterFault.TheVariants.{Rounds, Round, NoMemory}

module _ {S C F : Type 0} (gives : Oracle → Sizes → Type 0) (fails : Oracle → F → Type 0) (calls : Calls S C F) (bound : Range) (held : Addr → Bool) (budget : ℕ) (s : S) (c : C) where
  -- the last oracle is its own next one
  pub record Settles (w : Oracle) (rounds : ℕ) (t : S) (d : C) : Type 0 where
    pub round : ℕ
    pub sizes : Sizes
    pub call : LastCall gives calls bound held budget s c round w (Ok sizes) t d
    pub given : gives w sizes
    pub counted : rounds ≡ suc round
    pub stays : grant bound held sizes ≡ w

  -- the last oracle differs from its next one first at this address, and the budget is spent
  pub record RunsOut (a : Addr) (t : S) (d : C) : Type 0 where
    pub round : ℕ
    pub oracle : Oracle
    pub sizes : Sizes
    pub call : LastCall gives calls bound held budget s c round oracle (Ok sizes) t d
    pub given : gives oracle sizes
    pub spent : suc round ≡ budget
    pub differs : first_difference oracle (grant bound held sizes) ≡ Some a

  -- the last call answered this fault
  pub record Breaks (e : F) (t : S) (d : C) : Type 0 where
    pub round : ℕ
    pub oracle : Oracle
    pub call : LastCall gives calls bound held budget s c round oracle (Err e) t d
    pub failed : fails oracle e

  -- there was no memory for the permits of the last sizes
  pub record Starves (t : S) (d : C) : Type 0 where
    pub round : ℕ
    pub oracle : Oracle
    pub sizes : Sizes
    pub call : LastCall gives calls bound held budget s c round oracle (Ok sizes) t d

  abbrev pub Answers : Result Settled (IterFault F) → S → C → Type 0
  Answers (Ok x) = Settles x.oracle x.rounds
  Answers (Err (Rounds a)) = RunsOut a
  Answers (Err (Round e)) = Breaks e
  Answers (Err NoMemory) = Starves

-- what one round answers: the next oracle, or why there is none
module _ {S C F : Type 0} (gives : Oracle → Sizes → Type 0) (fails : Oracle → F → Type 0) (calls : Calls S C F) (bound : Range) (held : Addr → Bool) (w : Oracle) (s : S) (c : C) where
  -- the next oracle is granted to the sizes that the call gave
  pub record Goes (next : Oracle) (t : S) (d : C) : Type 0 where
    pub sizes : Sizes
    pub called : calls s c w (Ok sizes) t d
    pub given : gives w sizes
    pub granted : next ≡ grant bound held sizes

  pub record Fails (e : F) (t : S) (d : C) : Type 0 where
    pub called : calls s c w (Err e) t d
    pub failed : fails w e

  pub record Lacks (t : S) (d : C) : Type 0 where
    pub sizes : Sizes
    pub called : calls s c w (Ok sizes) t d
    pub given : gives w sizes

  abbrev pub Once : Result Oracle (IterFault F) → S → C → Type 0
  Once (Ok next) = Goes next
  Once (Err (Rounds a)) = λ t d. ⊥
  Once (Err (Round e)) = Fails e
  Once (Err NoMemory) = Lacks
