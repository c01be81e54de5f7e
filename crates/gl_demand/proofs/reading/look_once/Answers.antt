use Rattle.std.proofs.Common.{◌≡◌, ap, sym, subst, ◌∙◌, ◌++◌, ◌∷◌, [], cond}
use Rattle.gl_calculus.specs.Evaluation.Facts.{fact, find_fact}
use Rattle.gl_machine.specs.Seen.{seen_or_looked}
use Rattle.gl_demand.specs.Seen.{AreSeen}
use Rattle.gl_demand.specs.Walks.{trail_tree}
use Rattle.gl_demand.proofs.Seeing.{seen_again, seen_more, walk_again, walk_first}
use Rattle.gl_demand.proofs.References.{looks, seen_anyway}
use Rattle.gl_demand.proofs.reading.look_once.Goals as goal

pub returns-then-contains-clause-walk : goal.returns-then-contains-clause-walk
returns-then-contains-clause-walk c = λ w s h. walk_again w c.args.seen.now.keys s c.args.root (trail_tree c.args.trail.now) (sym c.if-contains.ensures) h

pub returns-then-contains-clause-seen : goal.returns-then-contains-clause-seen
returns-then-contains-clause-seen c = λ w s h. seen_again w c.args.seen.now.keys s c.args.root (sym c.if-contains.ensures) h

pub returns-in-Ok-clause-walk : goal.returns-in-Ok-clause-walk
returns-in-Ok-clause-walk c = λ w s h.
    looks w (seen_or_looked c.args.root (find_fact s c.args.root)) (fact w.cells w.oracle c.args.root) c.args.root c.args.trail.now c.look_at.new.trail c.look_at.result
    (walk_first w c.args.seen.now.keys s c.args.root (trail_tree c.args.trail.now) (sym c.if-contains.ensures) h) c.look_at.ensures.ok c.look_at.ensures.err

pub returns-in-Ok-clause-seen : goal.returns-in-Ok-clause-seen
returns-in-Ok-clause-seen c = λ w s h.
    let keys : c.insert.new.self.keys ≡ c.args.seen.now.keys ++ c.args.root ∷ [] = c.in-Ok.ensures.keys ∙ ap (λ b. cond b c.args.seen.now.keys (c.args.seen.now.keys ++ c.args.root ∷ [])) (sym c.if-contains.ensures) in
    seen_anyway w c.look_at.result c.insert.new.self.keys (fact w.cells w.oracle c.args.root ∷ s)
    (subst (λ ks. AreSeen w ks (fact w.cells w.oracle c.args.root ∷ s)) (sym keys) (seen_more w c.args.seen.now.keys s c.args.root h))
