use Rattle.std.proofs.Common.{◌≡◌, [], List, None, sym, ap, ◌∙◌, arith}
use Rattle.std.proofs.lemmas.Grind.{common_steps}
use Rattle.std.proofs.lemmas.Result.{IfOk-weaker}
use Rattle.gl_calculus.specs.Grid.Grid.{Addr}
use Rattle.gl_calculus.specs.Calculation.Memory.{Table}
use Rattle.gl_calc.specs.Progress.{base_by, next_base}
use Rattle.gl_calc.proofs.Following.{last_slice}
use Rattle.gl_calc.proofs.tables.last_again.Goals as goal

pub returns-in-Some : goal.returns-in-Some
returns-in-Some c =
    IfOk-weaker c.copy.result
    (λ (t : Table). t ≡ c.in-Some.table.now)
    (λ (t : Table). (touched : List Addr) → ◌≡◌ {A = Table × List Addr} (t, []) (next_base (record { earlier = []; made = c.args.made.now; beyond = None }) touched))
    (λ t e touched. ap (λ (u : Table). (u, [])) e ∙ ap (base_by None touched) (c.in-Some.ensures.value ∙ sym (last_slice c.args.made.now)))
    c.copy.ensures

pub returns-in-None : goal.returns-in-None
returns-in-None c = grind (arith, common_steps)
