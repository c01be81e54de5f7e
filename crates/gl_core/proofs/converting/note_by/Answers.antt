use Rattle.std.proofs.Common.{◌<◌, List, ℕ, length, ap, sym, subst, ◌∙◌}
use Rattle.gl_core.specs.Numbers.{Each, keys_at}
use Rattle.gl_core.proofs.Converted.{row_note}
use Rattle.gl_core.proofs.converting.note_by.Goals as goal

pub keys_of-requires : goal.keys_of-requires
keys_of-requires c = subst (λ (ns : List ℕ). Each (λ n. n < length c.args.book.now) ns) (sym c.deref.ensures.value) c.requires.1

pub returns : goal.returns
returns c = λ k e.
    let row = c.args.row.now in
    row_note c.args.book.now row.by row.outcome row.reads.items row.looked.items k c.in_ok-outcome.outcome c.in_ok-reads.reads c.in_ok-looked.looked e c.in_ok-outcome.ensures (c.in_ok-reads.ensures ∙ ap (λ (ns : List ℕ). keys_at c.args.book.now ns) c.deref.ensures.value) (c.in_ok-looked.ensures.items ∙ c.deref-2.ensures.value)
