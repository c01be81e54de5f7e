use Rattle.std.proofs.Common.{inl, inr, refl}
use Rattle.gl_run.proofs.sending.send.Goals as goal

pub returns-in-Ok : goal.returns-in-Ok
returns-in-Ok g c = record { planned = inl (refl, c.in-Ok.ensures.planned); sent = inl (refl, record { written = c.in-Ok.ensures.ok; left_room = c.in-Ok.ensures.room; stays = record { later = c.in-Ok.ensures.cause.later; same = c.in-Ok.ensures.count } }) }

pub returns-in-Err : goal.returns-in-Err
returns-in-Err g c =
    let (n, short, cut) = c.in-Err.ensures.err in
    record { planned = inr (refl, c.in-Err.ensures.planned); sent = inr (refl, record { count = n; short = short; written = cut; no_room = c.in-Err.ensures.room; later = c.in-Err.ensures.cause.later; rose = c.in-Err.ensures.cause.failed }) }
