use Rattle.std.proofs.Common.{◌≡◌, ℕ, List, map, refl, subst}
use Rattle.gl_calculus.specs.Values.Value.{Top}
use Rattle.gl_calculus.specs.Evaluation.Key as K
use Rattle.gl_core.specs.Numbers.{keys_at}
use Rattle.gl_core.proofs.Queued.{read_noted}
use Rattle.gl_core.proofs.Dropping.{closed_numbers}
use Rattle.gl_core.proofs.Counted.{rested_core, rested_closure}
use Rattle.gl_core.proofs.resuming.resumed_seeds.Goals as goal

pub returns-then-are_cells : goal.returns-then-are_cells
returns-then-are_cells c =
    let l = c.args.ledger.now in
    let e = c.args.entries in
    let h = c.requires.kept in
    let noted = read_noted l.rows.items (closed_numbers l.book h.book.apart l.rows.items h.below c.requires.closed) in
    record {
      core = record {
        known = record { numbers = e.known.items; seeded = subst (λ (ns : List ℕ). keys_at l.book ns ≡ map (K.Cell Top) c.args.places.now) c.deref.ensures.value (c.are_cells.ensures c.if-are_cells.true); closure = rested_closure l e h c.requires.rested noted };
        begun = c.requires.rested.begun;
        marks = c.requires.rested.marks;
        core = rested_core l e h c.requires.rested noted;
      };
      work = tt;
      notes = refl;
      kept = h;
    }
