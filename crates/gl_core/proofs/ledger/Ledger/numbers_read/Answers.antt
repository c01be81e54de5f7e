use Rattle.std.proofs.Common.{◌≡◌, ◌+◌, ◌++◌, ◌∷◌, [], List, ℕ, Some, map, take, ap, sym, subst, ◌∙◌, arith}
use Rattle.std.proofs.lemmas.Grind.{common_steps}
use Rattle.gl_calculus.specs.Evaluation.Key as K
use Rattle.gl_demand.specs.View.{read_tree}
use Rattle.gl_demand.specs.Walk.{keys_of}
use Rattle.gl_core.specs.Numbers.{AreNumbers}
use Rattle.gl_core.proofs.Places.{member_at}
use Rattle.gl_core.proofs.Numbered.{get_map, item_at, map_push}
use Rattle.gl_core.proofs.Indexing.{take_next}
use Rattle.gl_core.proofs.Grown.{grows_twice, numbers_more}
use Rattle.gl_core.proofs.KeyNumbers.{told_grown}
use Rattle.gl_core.proofs.ledger.Ledger.numbers_read.Goals as goal

pub number_read-requires-clause-sound : goal.number_read-requires-clause-sound
number_read-requires-clause-sound c =
    let rs = c.args.reads.now in
    let i = c.loop-read.read-index in
    let x = c.read-item.result in
    let there = get_map (λ r. r.0) (map read_tree rs) i (read_tree x) (get_map read_tree rs i x (item_at rs i x c.read-item.is c.loop-read-test.true)) in
    c.requires.sound (read_tree x).0 (member_at (keys_of (map read_tree rs)) i (read_tree x).0 there)

pub number_read-requires-clause-told : goal.number_read-requires-clause-told
number_read-requires-clause-told c = λ n e.
    let rs = c.args.reads.now in
    let i = c.loop-read.read-index in
    let x = c.read-item.result in
    let there = get_map read_tree rs i x (item_at rs i x c.read-item.is c.loop-read-test.true) in
    told_grown c.args.self.now.book c.loop-read.self.book (map read_tree rs) c.loop-read.invariant.grows c.requires.told i n (read_tree x).0
    (there ∙ ap (λ o. Some ((read_tree x).0, o)) e)

pub loop-read-preserved : goal.loop-read-preserved
loop-read-preserved c =
    let rs = c.args.reads.now in
    let i = c.loop-read.read-index in
    let x = c.read-item.result in
    let k = (read_tree x).0 in
    let inv = c.loop-read.invariant in
    let s = c.number_read.ensures in
    let before = keys_of (map read_tree (take i rs)) in
    let taken : keys_of (map read_tree (take (i + 1) rs)) ≡ before ++ k ∷ [] =
    ap (λ t. keys_of (map read_tree t)) (take_next rs i x (item_at rs i x c.read-item.is c.loop-read-test.true))
    ∙ ap keys_of (map_push read_tree (take i rs) x) ∙ map_push (λ r. r.0) (map read_tree (take i rs)) (read_tree x) in
    let more = numbers_more c.loop-read.self.book c.number_read.new.self.book c.loop-read.numbers.items before c.in_ok-n.n k inv.numbers s.grows c.in_ok-n.ensures.number in
    record {
      numbers = subst (λ (js : List K.Key). AreNumbers c.number_read.new.self.book c.push.new.self.items js) (sym taken) (subst (λ (ns : List ℕ). AreNumbers c.number_read.new.self.book ns (before ++ k ∷ [])) (sym c.in_ok-push.ensures.items) more);
      grows = grows_twice c.args.self.now.book c.loop-read.self.book c.number_read.new.self.book inv.grows s.grows;
      rows = s.rows ∙ inv.rows;
      kept = s.kept;
    }

pub returns-clause-numbers : goal.returns-clause-numbers
returns-clause-numbers c = grind (arith, common_steps)

pub returns-in_err-push-clause-grows : goal.returns-in_err-push-clause-grows
returns-in_err-push-clause-grows c = grind (arith, common_steps)
