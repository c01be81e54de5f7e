use Rattle.std.proofs.Common.{◌≡◌, ◌+◌, ◌++◌, ◌∷◌, [], List, length, ap, sym, subst, arith, ◌∙◌, inl, inr, length-append}
use Rattle.gl_core.specs.Tree.{HasPlace}
use Rattle.gl_core.specs.Statuses.{idle_at, count_idle}
use Rattle.gl_core.specs.declared.status.Status.{Status}
use Rattle.gl_core.specs.declared.status.Status.TheVariants.{Resolved}
use Rattle.gl_core.proofs.Trees.{same_or_other}
use Rattle.gl_core.proofs.Rooms.{idle_same, count_same}
use Rattle.gl_core.proofs.statuses.Statuses.push_resolved.Goals as goal

pub returns-clause-counted : goal.returns-clause-counted
returns-clause-counted c =
    let s = c.args.self.now in
    let ss = s.items.items in
    let new : c.push_reserved.new.self.items ≡ ss ++ Resolved c.args.row ∷ [] = c.push_reserved.ensures.items in
    let n : length c.push_reserved.new.self.items ≡ length ss + 1 = ap length new ∙ length-append ss (Resolved c.args.row ∷ []) in
    record {
      sums = c.requires.counted.sums;
      counts = λ q. c.requires.counted.counts q ∙ sym (ap (λ (xs : List Status). idle_at xs q) new ∙ idle_same ss c.args.row q);
      places = λ q h. elim (same_or_other q (length ss)) [
        | inl e ↦ subst (HasPlace s.idle) (sym e) c.requires.room
        | inr d ↦ c.requires.counted.places q (omega (arith, h, n, d))
      ];
      total = c.requires.counted.total ∙ sym (ap count_idle new ∙ count_same ss c.args.row);
    }
