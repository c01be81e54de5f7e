use Rattle.std.proofs.Common.{rules, ◌<◌, List, length, sym, ap, subst, ◌∙◌}
use Rattle.gl_core.specs.declared.status.Status.{Status}
use Rattle.gl_core.specs.Statuses.{idle_at, count_idle}
use Rattle.gl_core.specs.Counts.{rows}
use Rattle.gl_core.proofs.Rooms.{room_below}
use Rattle.gl_core.proofs.statuses.Statuses.make_places.Goals as goal

pub returns-clause-room : goal.returns-clause-room
returns-clause-room c q h = room_below (rows c.make_place.new.self.levels.items) c.args.count q h c.in_ok-make_place.ensures.place

pub make_place-requires : goal.make_place-requires
make_place-requires c = c.requires.counted.sums

pub returns-in_err-make_place-clause-items : goal.returns-in_err-make_place-clause-items
returns-in_err-make_place-clause-items c = c.requires.none

pub returns-in_err-make_place-clause-room : goal.returns-in_err-make_place-clause-room
returns-in_err-make_place-clause-room c = search rules

pub returns-in_err-make_place-clause-capacity : goal.returns-in_err-make_place-clause-capacity
returns-in_err-make_place-clause-capacity c = search rules

pub returns-in_err-reserve-clause-items : goal.returns-in_err-reserve-clause-items
returns-in_err-reserve-clause-items c = c.reserve.ensures.items ∙ c.requires.none

pub returns-in_err-reserve-clause-room : goal.returns-in_err-reserve-clause-room
returns-in_err-reserve-clause-room c = search rules

pub returns-in_err-reserve-clause-capacity : goal.returns-in_err-reserve-clause-capacity
returns-in_err-reserve-clause-capacity c = search rules

pub returns-clause-items : goal.returns-clause-items
returns-clause-items c = c.reserve.ensures.items ∙ c.requires.none

pub returns-in_err-make_place-clause-counted : goal.returns-in_err-make_place-clause-counted
returns-in_err-make_place-clause-counted c = record {
  sums = c.make_place.ensures.sums;
  counts = λ q. c.make_place.ensures.same q ∙ c.requires.counted.counts q;
  places = λ q l. c.make_place.ensures.places q (c.requires.counted.places q l);
  total = c.make_place.ensures.total ∙ c.requires.counted.total;
}

pub returns-in_err-reserve-clause-counted : goal.returns-in_err-reserve-clause-counted
returns-in_err-reserve-clause-counted c = record {
  sums = c.make_place.ensures.sums;
  counts = λ q. c.make_place.ensures.same q ∙ c.requires.counted.counts q ∙ ap (λ (ss : List Status). idle_at ss q) (sym c.reserve.ensures.items);
  places = λ q l. c.make_place.ensures.places q (c.requires.counted.places q (subst (λ (ss : List Status). q < length ss) c.reserve.ensures.items l));
  total = c.make_place.ensures.total ∙ c.requires.counted.total ∙ ap (λ (ss : List Status). count_idle ss) (sym c.reserve.ensures.items);
}

pub returns-clause-counted : goal.returns-clause-counted
returns-clause-counted c = record {
  sums = c.make_place.ensures.sums;
  counts = λ q. c.make_place.ensures.same q ∙ c.requires.counted.counts q ∙ ap (λ (ss : List Status). idle_at ss q) (sym c.reserve.ensures.items);
  places = λ q l. c.make_place.ensures.places q (c.requires.counted.places q (subst (λ (ss : List Status). q < length ss) c.reserve.ensures.items l));
  total = c.make_place.ensures.total ∙ c.requires.counted.total ∙ ap (λ (ss : List Status). count_idle ss) (sym c.reserve.ensures.items);
}
