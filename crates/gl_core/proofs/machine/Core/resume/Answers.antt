use Rattle.std.proofs.Common.{◌≡◌, length, map, ap, sym, subst, ◌∙◌}
use Rattle.gl_machine.specs.Remembered.{AreTrue}
use Rattle.gl_calculus.specs.Values.Value.{Top}
use Rattle.gl_calculus.specs.Evaluation.Key as K
use Rattle.gl_calculus.specs.Evaluation.Key.{same_key}
use Rattle.gl_calculus.specs.Evaluation.Evaluation.{program}
use Rattle.gl_calculus.specs.Calculation.Memory.{Notes}
use Rattle.gl_ast.specs.View.{version_tree}
use Rattle.gl_cells.specs.Sheet.{sheet}
use Rattle.gl_core.specs.State.{first_keys, IsFor}
use Rattle.gl_core.specs.Table.{table_of, held}
use Rattle.gl_core.proofs.Numbered.{length-map}
use Rattle.gl_core.proofs.Resumed.{resumed_seeds, for_resumed, too_many}
use Rattle.gl_core.proofs.machine.Core.resume.Goals as goal
use Rattle.gl_demand.specs.Evaluators.{world_of}

pub resumed-requires-clause-closed : goal.resumed-requires-clause-closed
resumed-requires-clause-closed c = c.into_parts-ledger.ensures.results.closed

pub resumed-requires-clause-carry : goal.resumed-requires-clause-carry
resumed-requires-clause-carry c = c.into_parts-ledger.ensures.carry

pub returns-in-Ok-clause-notes : goal.returns-in-Ok-clause-notes
returns-in-Ok-clause-notes c = c.resumed.ensures.notes ∙ c.into_parts-ledger.ensures.notes

pub returns-in-Ok-clause-seeds : goal.returns-in-Ok-clause-seeds
returns-in-Ok-clause-seeds c =
    let seeds = map (K.Cell Top) c.args.places.now in
    let l = c.resumed.new.ledger in
    let e = c.in-Ok.entries in
    let trues = subst (λ (ns : Notes). AreTrue same_key (program (world_of c.args.evaluator.now)) ns) (sym (c.resumed.ensures.notes ∙ c.into_parts-ledger.ensures.notes)) c.requires.true_notes in
    let n : length c.args.places.now ≡ length seeds = sym (length-map (K.Cell Top) c.args.places.now) in
    ap (λ m. first_keys m (table_of l e)) n ∙ resumed_seeds l e c.in-Ok.ensures.core.core seeds c.in-Ok.ensures.core.known c.in-Ok.ensures.core.begun (version_tree c.args.evaluator.now.version) (sheet c.args.evaluator.now.cells.now) c.args.evaluator.now.oracle.now trues c.requires.proper

pub returns-in-Ok-clause-for_it : goal.returns-in-Ok-clause-for_it
returns-in-Ok-clause-for_it c =
    let seeds = map (K.Cell Top) c.args.places.now in
    let l = c.resumed.new.ledger in
    let e = c.in-Ok.entries in
    let trues = subst (λ (ns : Notes). AreTrue same_key (program (world_of c.args.evaluator.now)) ns) (sym (c.resumed.ensures.notes ∙ c.into_parts-ledger.ensures.notes)) c.requires.true_notes in
    let n : length c.args.places.now ≡ length seeds = sym (length-map (K.Cell Top) c.args.places.now) in
    subst (λ m. IsFor (world_of c.args.evaluator.now) (held l e m)) (sym n)
    (for_resumed l e c.in-Ok.ensures.core.core seeds c.in-Ok.ensures.core.known c.in-Ok.ensures.core.begun (version_tree c.args.evaluator.now.version) (sheet c.args.evaluator.now.cells.now) c.args.evaluator.now.oracle.now trues c.requires.proper c.in-Ok.ensures.core.marks)

pub returns-in-Err-clause-work : goal.returns-in-Err-clause-work
returns-in-Err-clause-work c = λ e.
    let l = c.resumed.new.ledger in
    let trues = subst (λ (ns : Notes). AreTrue same_key (program (world_of c.args.evaluator.now)) ns) (sym (c.resumed.ensures.notes ∙ c.into_parts-ledger.ensures.notes)) c.requires.true_notes in
    let (known, r, h) = c.in-Err.ensures.work e in
    too_many l (map (K.Cell Top) c.args.places.now) known r (version_tree c.args.evaluator.now.version) (sheet c.args.evaluator.now.cells.now) c.args.evaluator.now.oracle.now trues c.resumed.ensures.kept.book.apart h
