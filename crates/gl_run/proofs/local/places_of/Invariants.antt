use Rattle.std.proofs.Common.{◌≡◌, take, length, vec_len, vec_capacity}
use Rattle.gl_undo.specs.View.{places}
use Rattle.gl_run.proofs.local.places_of.Given as goal

abbrev pub invariant-loop-change : goal.invariant-loop-change
invariant-loop-change l =
    record {
      value : l.all.items ≡ places (take l.change-index l.list);
      len : vec_len l.all ≡ l.change-index;
      room : vec_capacity l.all ≡ length l.list;
    }
