use Rattle.std.proofs.Common.{◌<◌, ◌≤◌, true, cond, map, length, drop, ◌∷◌, ◌+◌, ap, sym, ◌∙◌, arith}
use Rattle.std.proofs.lemmas.List.{at_drop_more, at_drop_all}
use Rattle.gl_calculus.specs.Computation.Lists.{has_member}
use Rattle.gl_calculus.specs.Evaluation.Key.{same_key}
use Rattle.gl_demand.specs.View.{key_tree}
use Rattle.gl_cert.proofs.Members.{gathered, all_gathered}
use Rattle.gl_cert.proofs.loops.key_set.Goals as goal

pub loop-key-preserved : goal.loop-key-preserved
loop-key-preserved c = λ j.
    let list = c.args.list.now in
    let i = c.loop-key.key-index in
    let x = c.key-item.result in
    let h = has_member same_key j (map key_tree c.loop-key.keys.keys) in
    let lt : i < length list = omega arith in
    let more = at_drop_more (λ ks. cond h true (has_member same_key j (map key_tree ks))) list i x lt in
    let here = ap (λ k. cond h true (has_member same_key j (map key_tree (k ∷ drop (i + 1) list)))) c.key-item.is in
    ap (λ b. cond b true (has_member same_key j (map key_tree (drop (i + 1) list)))) (c.in_ok-add.ensures j)
    ∙ gathered (same_key j (key_tree x)) h (has_member same_key j (map key_tree (drop (i + 1) list))) (has_member same_key j (map key_tree list)) (here ∙ sym more ∙ c.loop-key.invariant j)

pub returns : goal.returns
returns c = λ j.
    let list = c.args.list.now in
    let i = c.loop-key.key-index in
    let h = has_member same_key j (map key_tree c.loop-key.keys.keys) in
    let le : length list ≤ i = omega arith in
    all_gathered h (has_member same_key j (map key_tree list)) (sym (at_drop_all (λ ks. cond h true (has_member same_key j (map key_tree ks))) list i le) ∙ c.loop-key.invariant j)
