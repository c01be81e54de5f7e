use Rattle.std.proofs.Common.{Some, ap, ◌∙◌}
use Rattle.gl_plane.specs.Addresses.{addresses_from}
use Rattle.gl_plane.proofs.Places.{all_to_come}
use Rattle.gl_plane.proofs.range.Range.addresses.Goals as goal

pub returns : goal.returns
returns c = ap (λ a. addresses_from c.args.self.now (Some a)) c.first.ensures.value ∙ all_to_come c.args.self.now c.first.ensures.ordered
