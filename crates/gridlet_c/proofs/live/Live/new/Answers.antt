use Rattle.std.proofs.Common.{arith, refl, List, ℕ, [], ◌++◌, drop, ap, sym, subst, ◌∙◌}
use Rattle.gl_run.specs.State.{start}
use Rattle.gl_run.specs.Reads.{ReadsOn}
use Rattle.gridlet_c.proofs.Histories.{reads_none}
use Rattle.gridlet_c.proofs.live.Live.new.Goals as goal

pub returns : goal.returns
returns c =
    let s = c.in_ok-session.session in
    let n = c.new-2.result in
    let P : List ℕ → Type 0 = λ o. ReadsOn s n [] ([] ++ drop 0 o) in
    record {
      holds = subst P (sym c.new-3.ensures.nothing_taken) (reads_none s n c.in_ok-session.ensures.stream (c.in_ok-session.ensures.state n ∙ ap start c.new-2.ensures) c.in_ok-session.ensures.refused);
      counts = refl;
      in_replies = omega arith;
    }
