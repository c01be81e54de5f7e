use Rattle.std.proofs.Common.{◌≤◌, ◌+◌, ◌∷◌, [], length, ap, sym, subst, ◌∙◌, length-append}
use Rattle.gl_core.specs.Table.{AreBegun, status_by}
use Rattle.gl_core.proofs.Rooms.{begun_more}
use Rattle.gl_core.proofs.beginning.statuses_of.Goals as goal

pub loop-n-preserved : goal.loop-n-preserved
loop-n-preserved c =
    let v = c.loop-n.invariant in
    let rs = c.args.ledger.now.rows.items in
    let ns = c.args.known.now in
    let ss = c.loop-n.statuses.items.items in
    let i = c.loop-n.n-index in
    let new = c.push_status.ensures.items in
    record {
      begun = subst (AreBegun rs ns) (sym new) (begun_more rs ns ss i c.row.result v.begun v.size c.row.ensures);
      size = ap length new ∙ length-append ss (status_by c.row.result ∷ []) ∙ ap (λ n. n + 1) v.size;
      counted = c.push_status.ensures.counted;
      places = λ q h. c.push_status.ensures.places q (v.places q h);
      room = subst (λ n. length ns ≤ n) (sym c.push_status.ensures.capacity) v.room;
    }
