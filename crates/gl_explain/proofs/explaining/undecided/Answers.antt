use Rattle.std.proofs.Common.{◌≡◌, Some, [], map, ap, sym, ◌∙◌}
use Rattle.gl_calculus.specs.Explanation.Certificate.{says}
use Rattle.gl_calculus.specs.Evaluation.World.{world}
use Rattle.gl_cells.specs.Sheet.{sheet}
use Rattle.gl_demand.specs.View.{key_tree}
use Rattle.gl_cert.specs.View.{cert_tree}
use Rattle.gl_explain.proofs.Endings.{explained_plain}
use Rattle.gl_explain.proofs.explaining.undecided.Goals as goal

pub returns-in-Ok : goal.returns-in-Ok
returns-in-Ok c = λ version n.
    let S = sheet c.args.evaluator.now.cells.now in
    let w = c.args.evaluator.now.oracle.now in
    let a = c.args.a in
    let p = c.new.ensures in
    let q = ap (map key_tree) c.new-2.ensures.empty in
    let s : says S w a [] [] ≡ Some (cert_tree c.in-Ok.cert).shown = sym (ap (λ x. says S w a x (map key_tree c.new-2.result.keys)) p ∙ ap (says S w a []) q) ∙ c.in-Ok.ensures.shown in
    explained_plain (world version S w) a n (cert_tree c.in-Ok.cert) c.requires (c.in-Ok.ensures.notes ∙ p) (c.in-Ok.ensures.loops ∙ q) s
