use Rattle.std.proofs.Common.{[], List, sym, subst}
use Rattle.gl_calculus.specs.Grid.Grid.{Addr}
use Rattle.gl_merge.specs.Edit.{edit_tree}
use Rattle.gl_run.specs.Script.{known_of, script_of}
use Rattle.gl_protocol.specs.Run.Spends.{Touches}
use Rattle.gl_run.proofs.Joining.{known_takes, known_merged, known_touches}
use Rattle.gl_run.proofs.Spending.{touches_marks, marks_nothing}
use Rattle.gl_run.proofs.merging.merge_known.Goals as goal

pub take-requires : goal.take-requires
take-requires c = known_takes c.args.script.now c.args.e c.requires

pub returns : goal.returns
returns c =
    let x = c.args.script.now in
    let z = c.take.new.script in
    let reply = c.in_ok-reply.reply.items in
    let none = known_touches (script_of x) (edit_tree c.args.e) c.requires in
    record {
      does = known_merged (script_of c.args.script.now) (script_of c.take.new.script) (edit_tree c.args.e) c.in_ok-reply.reply.items c.requires c.take.ensures.takes c.in_ok-reply.ensures;
      touches = subst (λ (ps : List Addr). Touches reply ps (known_of x) (known_of z)) (sym none) (touches_marks x z [] reply c.in_ok-reply.ensures (marks_nothing x.calc z.calc c.take.ensures.calc));
      err = tt;
    }
