use Rattle.std.proofs.Common.{◌∙◌, sym, arith}
use Rattle.std.specs.String.{string_bytes}
use Rattle.std.proofs.lemmas.Option.{slice_get_within}
use Rattle.std.proofs.lemmas.Grind.{elements}
use Rattle.gl_protocol.specs.Replies.Tables.{line, entry_text}
use Rattle.gl_views.proofs.Appending.{append_more, append_all, past_end}
use Rattle.gl_views.proofs.oracle.oracle_text.Goals as goal

pub loop-entry-smaller : goal.loop-entry-smaller
loop-entry-smaller c = let h = slice_get_within c.args.w.now c.loop-entry.i c.in-Some.entry (sym c.in-Some.ensures.value) in omega (arith, h)

pub loop-entry-preserved : goal.loop-entry-preserved
loop-entry-preserved c =
    append_more (λ x. line (entry_text x)) c.args.w.now c.loop-entry.i c.in-Some.entry (string_bytes c.loop-entry.out) (string_bytes c.put_entry.new.out) c.in-Some.ensures.value c.in_ok-put_entry.ensures
    ∙ c.loop-entry.invariant

pub returns : goal.returns
returns c =
    let end = past_end c.args.w.now c.loop-entry.i c.in_default.ensures.value in
    sym (append_all (λ x. line (entry_text x)) c.args.w.now c.loop-entry.i (string_bytes c.loop-entry.out) end) ∙ c.loop-entry.invariant

pub overflow_add-i : goal.overflow_add-i
overflow_add-i c = grind (arith, elements)
