use Rattle.std.proofs.Common.{rules, ◌<◌, List, length, refl, sym, ap, subst, arith, ◌∙◌}
use Rattle.gl_core.specs.Statuses.{idle_at, count_idle}
use Rattle.gl_core.specs.declared.status.Status.{Status}
use Rattle.gl_core.proofs.statuses.Statuses.make_room.Goals as goal

pub make_place-requires : goal.make_place-requires
make_place-requires c = c.requires.sums

pub returns-in_err-make_place-clause-items : goal.returns-in_err-make_place-clause-items
returns-in_err-make_place-clause-items c = refl

pub returns-in_err-make_place-clause-counted : goal.returns-in_err-make_place-clause-counted
returns-in_err-make_place-clause-counted c = record {
  sums = c.make_place.ensures.sums;
  counts = λ q. c.make_place.ensures.same q ∙ c.requires.counts q;
  places = λ q l. c.make_place.ensures.places q (c.requires.places q l);
  total = c.make_place.ensures.total ∙ c.requires.total;
}

pub returns-in_err-make_place-clause-room : goal.returns-in_err-make_place-clause-room
returns-in_err-make_place-clause-room c = search rules

pub returns-in_err-make_place-clause-capacity : goal.returns-in_err-make_place-clause-capacity
returns-in_err-make_place-clause-capacity c = search rules

pub returns-in_err-reserve-clause-items : goal.returns-in_err-reserve-clause-items
returns-in_err-reserve-clause-items c = c.reserve.ensures.items

pub returns-in_err-reserve-clause-counted : goal.returns-in_err-reserve-clause-counted
returns-in_err-reserve-clause-counted c = record {
  sums = c.make_place.ensures.sums;
  counts = λ q. c.make_place.ensures.same q ∙ c.requires.counts q ∙ ap (λ (ss : List Status). idle_at ss q) (sym c.reserve.ensures.items);
  places = λ q l. c.make_place.ensures.places q (c.requires.places q (subst (λ (ss : List Status). q < length ss) c.reserve.ensures.items l));
  total = c.make_place.ensures.total ∙ c.requires.total ∙ ap (λ (ss : List Status). count_idle ss) (sym c.reserve.ensures.items);
}

pub returns-in_err-reserve-clause-room : goal.returns-in_err-reserve-clause-room
returns-in_err-reserve-clause-room c = search rules

pub returns-in_err-reserve-clause-capacity : goal.returns-in_err-reserve-clause-capacity
returns-in_err-reserve-clause-capacity c = search rules

pub returns-clause-items : goal.returns-clause-items
returns-clause-items c = c.reserve.ensures.items

pub returns-clause-counted : goal.returns-clause-counted
returns-clause-counted c = record {
  sums = c.make_place.ensures.sums;
  counts = λ q. c.make_place.ensures.same q ∙ c.requires.counts q ∙ ap (λ (ss : List Status). idle_at ss q) (sym c.reserve.ensures.items);
  places = λ q l. c.make_place.ensures.places q (c.requires.places q (subst (λ (ss : List Status). q < length ss) c.reserve.ensures.items l));
  total = c.make_place.ensures.total ∙ c.requires.total ∙ ap (λ (ss : List Status). count_idle ss) (sym c.reserve.ensures.items);
}

pub returns-clause-capacity : goal.returns-clause-capacity
returns-clause-capacity c = omega (arith, c.in_ok-reserve.ensures.ok)
