use Rattle.std.proofs.Common.{◌≡◌, List, IfOk, ap, sym, subst, ◌∙◌}
use Rattle.gl_calculus.specs.Grid.Grid.{Addr}
use Rattle.gl_calculus.specs.Calculation.Memory.{Table}
use Rattle.gl_calc.specs.Progress.{Progress, next_base, since}
use Rattle.gl_calc.specs.declared.tables.Base.{Base}
use Rattle.gl_calc.proofs.Following.{before_base, last_base}
use Rattle.gl_calc.proofs.tables.Tables.take_before.Goals as goal
use Rattle.gl_calc.proofs.tables.Tables.take_before.Goals.{in-Some, in-None+in_ok-table-in-None}

pub returns-clause-base : goal.returns-clause-base
returns-clause-base c =
    let p = c.args.self.now in
    let beyond = ap (λ (u : Progress). u.beyond) (sym c.self.view_is) ∙ sym c.take.ensures.value in
    elim c.match-take.branch [
      | in-Some w ↦ subst (λ r. IfOk r (λ (b : Base). (touched : List Addr) → ◌≡◌ {A = Table × List Addr} (b.table, since b.is_earlier touched) (next_base p touched))) (sym w.result-is)
          (λ touched. before_base p w.in-Some.table touched c.requires (beyond ∙ w.in-Some.is))
      | in-None+in_ok-table-in-None w ↦ subst (λ r. IfOk r (λ (b : Base). (touched : List Addr) → ◌≡◌ {A = Table × List Addr} (b.table, since b.is_earlier touched) (next_base p touched))) (sym w.result-is)
          (λ touched. w.in_ok-table-in-None.ensures touched ∙ last_base p w.deref.result.now touched (w.deref.ensures.value ∙ ap (λ (u : Progress). u.made) c.self.view_is) c.requires (beyond ∙ w.in-None.is))
    ]
