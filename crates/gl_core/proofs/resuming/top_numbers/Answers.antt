use Rattle.std.proofs.Common.{◌≡◌, ◌+◌, ◌++◌, ◌∷◌, [], List, ℕ, map, take, ap, sym, subst, ◌∙◌, arith}
use Rattle.std.proofs.lemmas.Grind.{common_steps}
use Rattle.gl_calculus.specs.Values.Value as V
use Rattle.gl_calculus.specs.Evaluation.Key as K
use Rattle.gl_core.specs.Numbers.{AreNumbers}
use Rattle.gl_core.proofs.Numbered.{item_at, map_push}
use Rattle.gl_core.proofs.Indexing.{take_next}
use Rattle.gl_core.proofs.Grown.{grows_twice, numbers_more}
use Rattle.gl_core.proofs.resuming.top_numbers.Goals as goal

pub loop-a-preserved : goal.loop-a-preserved
loop-a-preserved c =
    let ps = c.args.places.now in
    let i = c.loop-a.a-index in
    let a = c.a-item.result in
    let inv = c.loop-a.invariant in
    let s = c.top_number.ensures in
    let taken : map (K.Cell V.Top) (take (i + 1) ps) ≡ map (K.Cell V.Top) (take i ps) ++ K.Cell V.Top a ∷ [] = ap (map (K.Cell V.Top)) (take_next ps i a (item_at ps i a c.a-item.is c.loop-a-test.true)) ∙ map_push (K.Cell V.Top) (take i ps) a in
    let more = numbers_more c.loop-a.ledger.book c.top_number.new.ledger.book c.loop-a.numbers.items (map (K.Cell V.Top) (take i ps)) c.in_ok-n.n (K.Cell V.Top a) inv.numbers s.grows c.in_ok-n.ensures.number in
    record {
      numbers = subst (λ (js : List K.Key). AreNumbers c.top_number.new.ledger.book c.push.new.self.items js) (sym taken) (subst (λ (ns : List ℕ). AreNumbers c.top_number.new.ledger.book ns (map (K.Cell V.Top) (take i ps) ++ K.Cell V.Top a ∷ [])) (sym c.in_ok-push.ensures.items) more);
      grows = grows_twice c.args.ledger.now.book c.loop-a.ledger.book c.top_number.new.ledger.book inv.grows s.grows;
      rows = s.rows ∙ inv.rows;
      kept = s.kept;
    }

pub returns-clause-numbers : goal.returns-clause-numbers
returns-clause-numbers c = grind (arith, common_steps)

pub returns-in_err-n-clause-grows : goal.returns-in_err-n-clause-grows
returns-in_err-n-clause-grows c = grind (arith, common_steps)

pub returns-in_err-push-clause-grows : goal.returns-in_err-push-clause-grows
returns-in_err-push-clause-grows c = grind (arith, common_steps)
