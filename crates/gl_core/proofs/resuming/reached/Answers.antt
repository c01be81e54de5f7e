use Rattle.std.proofs.Common.{◌≡◌, List, ℕ, filter, length, ap, sym, ◌∙◌}
use Rattle.gl_support.specs.Reach.{has}
use Rattle.gl_core.specs.Numbers.{numbers_of}
use Rattle.gl_core.proofs.Whole.{all_seeds}
use Rattle.gl_core.proofs.resuming.reached.Goals as goal

pub returns-then-count_noted-len : goal.returns-then-count_noted-len
returns-then-count_noted-len c =
    let l = c.args.ledger.now in
    let seeds = c.args.seeds.items in
    let count : length (filter (has (numbers_of l.rows.items)) seeds) ≡ length l.rows.items = ap (λ (ns : List ℕ). length (filter (has (numbers_of l.rows.items)) ns)) (sym c.deref.ensures.value) ∙ sym c.count_noted.ensures ∙ c.if-count_noted-len.true ∙ c.len.ensures ∙ l.rows.ok.0 in
    all_seeds l c.requires.kept c.requires.closed seeds c.requires.below c.requires.apart count
