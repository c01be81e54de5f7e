use Rattle.std.proofs.Common.{ℕ, List, [], get_or, take, refl, sym, subst, ◌∙◌, arith}
use Rattle.std.proofs.lemmas.Option.{slice_get-get_or}
use Rattle.gl_core.specs.Dropped.{DropsRows}
use Rattle.gl_core.proofs.Indexing.{take_next, take_whole}
use Rattle.gl_core.proofs.Losing.{drops_none, drops_next}
use Rattle.gl_core.proofs.ledger.Ledger.drop_rows.Goals as goal

pub loop-n-init : goal.loop-n-init
loop-n-init c = record {
  drops = drops_none c.args.self.now [] c.args.moved.now.items (λ r m i. i);
  kept = c.requires.kept;
  room = omega arith;
  capacity = refl;
}

pub loop-n-preserved : goal.loop-n-preserved
loop-n-preserved c =
    let ns = c.args.numbers.now in
    let i = c.loop-n.n-index in
    let x = get_or ns i 0 in
    let inv = c.loop-n.invariant in
    let at = slice_get-get_or ns i 0 c.loop-n-test.true in
    record {
      drops = subst (λ (js : List ℕ). DropsRows c.args.self.now c.drop_row.new.self js c.args.moved.now.items c.drop_row.new.moved.items) (sym (take_next ns i x at))
          (drops_next c.args.self.now c.loop-n.self c.drop_row.new.self (take i ns) x c.args.moved.now.items c.loop-n.moved.items c.drop_row.new.moved.items inv.drops c.drop_row.ensures.drops);
      kept = c.drop_row.ensures.kept;
      room = omega (arith, inv.room, c.drop_row.ensures.room);
      capacity = c.drop_row.ensures.capacity ∙ inv.capacity;
    }

pub returns-clause-drops : goal.returns-clause-drops
returns-clause-drops c = subst (λ (js : List ℕ). DropsRows c.args.self.now c.loop-n.self js c.args.moved.now.items c.loop-n.moved.items) (take_whole c.args.numbers.now c.loop-n.n-index c.loop-n-test.false) c.loop-n.invariant.drops
