use Rattle.std.proofs.Common.{◌<◌, length, arith}
use Rattle.gl_cert.proofs.Members.{sound_at}
use Rattle.gl_cert.proofs.loops.first_free.Goals as goal

pub key_waits-requires : goal.key_waits-requires
key_waits-requires g c =
    let lt : c.loop-i.i < length c.args.list.now = omega arith in
    record { sound = sound_at c.args.list.now c.loop-i.i c.index-list-i.result c.requires.sound lt c.index-list-i.is }
