use Rattle.std.proofs.Common.{◌≡◌, ◌+◌, ◌++◌, ◌∷◌, [], List, ℕ, map, take, ap, sym, subst, ◌∙◌, arith}
use Rattle.std.proofs.lemmas.Grind.{common_steps}
use Rattle.gl_calculus.specs.Evaluation.Key as K
use Rattle.gl_demand.specs.View.{key_tree}
use Rattle.gl_core.specs.Numbers.{AreNumbers}
use Rattle.gl_core.proofs.Places.{member_at}
use Rattle.gl_core.proofs.Numbered.{get_map, item_at, map_push}
use Rattle.gl_core.proofs.Indexing.{take_next}
use Rattle.gl_core.proofs.Grown.{grows_twice, numbers_more}
use Rattle.gl_core.proofs.ledger.Ledger.numbers.Goals as goal

pub number_near-requires-clause-sound : goal.number_near-requires-clause-sound
number_near-requires-clause-sound c =
    let ks = c.args.keys.now in
    let i = c.loop-key.key-index in
    let x = c.key-item.result in
    let at = get_map key_tree ks i x (item_at ks i x c.key-item.is c.loop-key-test.true) in
    c.requires.sound (key_tree x) (member_at (map key_tree ks) i (key_tree x) at)

pub loop-key-preserved : goal.loop-key-preserved
loop-key-preserved c =
    let ks = c.args.keys.now in
    let i = c.loop-key.key-index in
    let x = c.key-item.result in
    let inv = c.loop-key.invariant in
    let s = c.number_near.ensures in
    let taken : map key_tree (take (i + 1) ks) ≡ map key_tree (take i ks) ++ key_tree x ∷ [] = ap (map key_tree) (take_next ks i x (item_at ks i x c.key-item.is c.loop-key-test.true)) ∙ map_push key_tree (take i ks) x in
    let more = numbers_more c.loop-key.self.book c.number_near.new.self.book c.loop-key.numbers.items (map key_tree (take i ks)) c.in_ok-n.n (key_tree x) inv.numbers s.grows c.in_ok-n.ensures.number in
    record {
      numbers = subst (λ (js : List K.Key). AreNumbers c.number_near.new.self.book c.push.new.self.items js) (sym taken) (subst (λ (ns : List ℕ). AreNumbers c.number_near.new.self.book ns (map key_tree (take i ks) ++ key_tree x ∷ [])) (sym c.in_ok-push.ensures.items) more);
      grows = grows_twice c.args.self.now.book c.loop-key.self.book c.number_near.new.self.book inv.grows s.grows;
      rows = s.rows ∙ inv.rows;
      kept = s.kept;
    }

pub returns-clause-numbers : goal.returns-clause-numbers
returns-clause-numbers c = grind (arith, common_steps)

pub returns-in_err-push-clause-grows : goal.returns-in_err-push-clause-grows
returns-in_err-push-clause-grows c = grind (arith, common_steps)
