use Rattle.std.proofs.Common.{true, cond, map, ap, ◌∙◌}
use Rattle.gl_calculus.specs.Computation.Lists.{has_member}
use Rattle.gl_calculus.specs.Evaluation.Key.{same_key}
use Rattle.gl_demand.specs.View.{key_tree}
use Rattle.gl_cert.proofs.Members.{insert_member}
use Rattle.gl_cert.proofs.loops.add.Goals as goal

pub returns : goal.returns
returns c = λ j.
    ap (λ ks. has_member same_key j (map key_tree ks)) c.in_ok-insert.ensures.keys
    ∙ insert_member c.args.keys.now.keys c.in_ok-key.key j
    ∙ ap (λ k. cond (same_key j k) true (has_member same_key j (map key_tree c.args.keys.now.keys))) c.in_ok-key.ensures
