-- What an item of a script does to the state, and what is replied.
use Rattle.std.specs.Prelude.{◌≡◌, true, false, ℕ, List, [], ◌∷◌, codes}
use Rattle.gl_calculus.specs.Formulas.Formula.{Version, One, Two}
use Rattle.gl_language.specs.Texts.Text.{Bytes}
use Rattle.gl_protocol.specs.Framing.Framing.{Item}
use Rattle.gl_protocol.specs.Scripts.Commands.{ok_line}
use Rattle.gl_protocol.specs.Scripts.Acts.{Acts}
use Rattle.gl_protocol.specs.Scripts.Output.{is_line}
use Rattle.gl_protocol.specs.Run.Records.{csv_records}
use Rattle.gl_protocol.specs.Run.Known.{Known}
use Rattle.gl_protocol.specs.Run.Spends.{Spends}
use Rattle.gl_run.specs.State.{State, fresh, begun}

-- the item leaves this and has this reply, and its steps go from n to m
abbrev pub ActsWithin : Version → Known → Item → Known → Bytes → ℕ → ℕ → Type 0
ActsWithin version K x K' reply n m = Acts csv_records version K.script x K'.script reply × Spends version K x reply K' n m

-- The item leads from one state to the next, with this reply. The first one gives the script its version.
pub data Act : State → Item → State → Bytes → Type 0 where
  two : {K : Known} {n : ℕ} {x : Item} → is_line (codes "gridlet 2") x ≡ true → Act (fresh K n) x (begun Two K n) ok_line
  one : {K K' : Known} {n m : ℕ} {x : Item} {reply : Bytes} → is_line (codes "gridlet 2") x ≡ false
      → ActsWithin One K x K' reply n m → Act (fresh K n) x (begun One K' m) reply
  later : {version : Version} {K K' : Known} {n m : ℕ} {x : Item} {reply : Bytes}
      → ActsWithin version K x K' reply n m → Act (begun version K n) x (begun version K' m) reply

-- from one state to another, these items have these replies
abbrev pub Run : State → List Item → State → List Bytes → Type 0
Run s [] end replies = (end ≡ s) × (replies ≡ [])
Run s (i ∷ is) end replies =
    (next : State) × (reply : Bytes) × (rest : List Bytes) × Act s i next reply × Run next is end rest × (replies ≡ reply ∷ rest)
