use Rattle.std.proofs.Common.{rules, refl, length, ap, sym, subst, arith}
use Rattle.gl_core.specs.Tree.{HasPlace}
use Rattle.gl_core.proofs.Places.{on_ok}
use Rattle.gl_core.proofs.Stays.{all_stays}
use Rattle.gl_core.proofs.entries.Entries.make_room.Goals as goal

pub returns-in_err-make_room-clause-stays : goal.returns-in_err-make_room-clause-stays
returns-in_err-make_room-clause-stays c = all_stays c.args.self.now _ refl (λ q. refl) c.make_room.ensures.items refl refl refl refl c.make_room.ensures.counted c.requires

pub returns-in_err-make_room-clause-room : goal.returns-in_err-make_room-clause-room
returns-in_err-make_room-clause-room c = search rules

pub returns-in_err-reserve-clause-stays : goal.returns-in_err-reserve-clause-stays
returns-in_err-reserve-clause-stays c = all_stays c.args.self.now _ c.reserve.ensures.items (λ q. refl) c.make_room.ensures.items refl refl refl refl c.make_room.ensures.counted c.requires

pub returns-in_err-reserve-clause-room : goal.returns-in_err-reserve-clause-room
returns-in_err-reserve-clause-room c = search rules

pub returns-in_err-reserve-2-clause-stays : goal.returns-in_err-reserve-2-clause-stays
returns-in_err-reserve-2-clause-stays c = all_stays c.args.self.now _ c.reserve.ensures.items (λ q. refl) c.make_room.ensures.items c.reserve-2.ensures.items refl refl refl c.make_room.ensures.counted c.requires

pub returns-in_err-reserve-2-clause-room : goal.returns-in_err-reserve-2-clause-room
returns-in_err-reserve-2-clause-room c = search rules

pub returns-in_err-reserve-3-clause-stays : goal.returns-in_err-reserve-3-clause-stays
returns-in_err-reserve-3-clause-stays c = all_stays c.args.self.now _ c.reserve.ensures.items (λ q. refl) c.make_room.ensures.items c.reserve-2.ensures.items c.reserve-3.ensures.items refl refl c.make_room.ensures.counted c.requires

pub returns-in_err-reserve-3-clause-room : goal.returns-in_err-reserve-3-clause-room
returns-in_err-reserve-3-clause-room c = search rules

pub returns-in_err-reserve-4-clause-stays : goal.returns-in_err-reserve-4-clause-stays
returns-in_err-reserve-4-clause-stays c = all_stays c.args.self.now _ c.reserve.ensures.items (λ q. refl) c.make_room.ensures.items c.reserve-2.ensures.items c.reserve-3.ensures.items c.reserve-4.ensures.items refl c.make_room.ensures.counted c.requires

pub returns-in_err-reserve-4-clause-room : goal.returns-in_err-reserve-4-clause-room
returns-in_err-reserve-4-clause-room c = search rules

pub returns-clause-stays : goal.returns-clause-stays
returns-clause-stays c = all_stays c.args.self.now _ c.reserve.ensures.items c.give_place.ensures.same c.make_room.ensures.items c.reserve-2.ensures.items c.reserve-3.ensures.items c.reserve-4.ensures.items refl c.make_room.ensures.counted c.requires

pub returns-clause-room : goal.returns-clause-room
returns-clause-room c = on_ok c.give_place.result c.give_place.ensures.place (λ place. record {
  known = omega (arith, c.in_ok-reserve.ensures.ok);
  place = place;
  counted = subst (HasPlace c.make_room.new.self.idle) (ap length (sym c.make_room.ensures.items)) c.in_ok-make_room.ensures.room;
  statuses = c.in_ok-make_room.ensures.capacity;
  waiting = omega (arith, c.in_ok-reserve-2.ensures.ok);
  passed = omega (arith, c.in_ok-reserve-3.ensures.ok);
  marks = omega (arith, c.in_ok-reserve-4.ensures.ok);
})
