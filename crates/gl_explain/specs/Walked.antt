-- What a walk found.
use Rattle.std.specs.Prelude.{◌≡◌, ℕ, map}
use Rattle.gl_calculus.specs.Grid.Grid.{Addr}
use Rattle.gl_calculus.specs.Evaluation.Key.{Key}
use Rattle.gl_calculus.specs.Explanation.Certificate.{Certificate, Answer, Cert, Explains}
use Rattle.gl_demand.specs.Sound.{AreSoundKeys}
use Rattle.gl_demand.specs.View.{key_tree}
use Rattle.gl_cert.specs.Notes.{claims}
use Rattle.gl_calculus.specs.Steps.Walk.{AllowsWalk}
use Rattle.gl_calculus.specs.Evaluation.World.{World}
use Rattle.gl_explain.specs.Walking.{HasEnded, IsFull}
use Rattle.gl_explain.specs.declared.walking.Walked.{Walked}
use Rattle.gl_explain.specs.declared.walking.Walked.TheVariants.{Ended, Full}

-- this is what the walk from the root found, with n steps at its start and m at its end
abbrev pub IsFound : World → Key → ℕ → ℕ → Walked → Type 0
IsFound W root n m (Ended notes stack) =
    HasEnded W root n m (claims notes) (map key_tree stack.keys) × AreSoundKeys (map key_tree stack.keys)
IsFound W root n m Full = IsFull W root n m

-- this explains the address, with sound keys and within its steps
pub record IsExplained (W : World) (a : Addr) (n m : ℕ) (x : Answer) : Type 0 where
  pub explains : Explains W a x
  pub sound : (c : Certificate) → x ≡ Cert c → AreSoundKeys (map (λ k. k.0) c.notes) × AreSoundKeys c.loops
  pub allows : AllowsWalk W a x n m
