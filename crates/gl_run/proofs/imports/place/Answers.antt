use Rattle.std.proofs.Common.{◌≡◌, ℕ, Option, None, Some, refl}
use Rattle.std.specs.Prelude.{IsSome}
use Rattle.gl_protocol.specs.Framing.Header.{payload_len}
use Rattle.gl_run.proofs.imports.place.Goals as goal

some_number : (o : Option ℕ) → IsSome o → (n : ℕ) × (o ≡ Some n)
some_number None h = cc h
some_number (Some n) h = (n, refl)

pub returns : goal.returns
returns c =
    let (n, some) = some_number (payload_len c.args.header.now) c.requires in
    let h = c.header_place.ensures n some in
    (h.place, h.count, h.words, h.is_at)
