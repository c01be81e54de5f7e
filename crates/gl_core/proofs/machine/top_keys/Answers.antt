use Rattle.std.proofs.Common.{◌≡◌, ◌+◌, [], ◌∷◌, ◌++◌, map, drop, ap, sym, ◌∙◌, append_assoc, append-nil, arith}
use Rattle.std.proofs.lemmas.List.{drop_all, map-append}
use Rattle.gl_calculus.specs.Values.Value.{Top}
use Rattle.gl_calculus.specs.Evaluation.Key.{Key, Cell}
use Rattle.gl_value.specs.Forms.{frame_tree-Top}
use Rattle.gl_value.specs.declared.Env.TheVariants as env
use Rattle.gl_demand.specs.View.{key_tree}
use Rattle.gl_demand.specs.declared.key.Key.TheVariants as key
use Rattle.gl_demand.proofs.Counting.{drop_item}
use Rattle.gl_core.proofs.machine.top_keys.Goals as goal

pub returns : goal.returns
returns c =
    sym (append-nil (map key_tree c.loop-a.keys.items))
    ∙ ap (λ l. map key_tree c.loop-a.keys.items ++ map (Cell Top) l) (sym (drop_all c.loop-a.a-index c.args.places.now (omega (arith, c.loop-a-test.false))))
    ∙ c.loop-a.invariant

pub loop-a-preserved : goal.loop-a-preserved
loop-a-preserved c =
    let rest = drop (c.loop-a.a-index + 1) c.args.places.now in
    let k = key.Cell env.Top c.a-item.result in
    let old = map key_tree c.loop-a.keys.items in
    let is : key_tree k ≡ Cell Top c.a-item.result = ap (λ e. Cell e c.a-item.result) frame_tree-Top in
    ap (λ xs. map key_tree xs ++ map (Cell Top) rest) c.in_ok-push.ensures.items
    ∙ ap (λ ks. ks ++ map (Cell Top) rest) (map-append key_tree c.loop-a.keys.items (k ∷ []))
    ∙ append_assoc old (key_tree k ∷ []) (map (Cell Top) rest)
    ∙ ap (λ (u : Key). old ++ u ∷ map (Cell Top) rest) is
    ∙ ap (λ l. old ++ map (Cell Top) l) (sym (drop_item c.args.places.now c.loop-a.a-index c.a-item.result c.a-item.is c.loop-a-test.true)) ∙ c.loop-a.invariant
