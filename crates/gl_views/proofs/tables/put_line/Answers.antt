use Rattle.std.proofs.Common.{◌≡◌, ◌∙◌, ◌+◌, ◌++◌, ◌∷◌, [], true, length, sym, ap, rules, arith, append_assoc}
use Rattle.std.specs.List.{join_with_byte}
use Rattle.std.specs.String.{string_bytes}
use Rattle.std.specs.Iterator.Adapters.{zip_first, zip_second}
use Rattle.std.specs.Slice.Iter.{iter_rest}
use Rattle.std.proofs.lemmas.List.{length_push}
use Rattle.std.proofs.lemmas.Slice.Zip.{zip_turn, zip_end}
use Rattle.gl_protocol.specs.Replies.Tables.{right_aligned, aligned}
use Rattle.gl_views.specs.Cells.{texts_of}
use Rattle.gl_views.proofs.Lines.{to_come, from_place, come_more, come_all, aligned_more, aligned_all}
use Rattle.gl_views.proofs.tables.put_line.Goals as goal

pub loop-width-preserved : goal.loop-width-preserved
loop-width-preserved c =
    let first : iter_rest (zip_first c.into_iter-width-iterator.result) ≡ c.args.widths.now = search rules in
    let second : iter_rest (zip_second c.into_iter-width-iterator.result) ≡ c.args.row.now = search rules in
    let t = zip_turn c.args.widths.now c.args.row.now c.loop-width.yielded c.into_iter-width-iterator.result c.loop-width.width-iterator c.next.new.self c.next.result first second c.loop-width.yielded_by (c.in-Some.width, c.in-Some.text) c.in-Some.is c.next.ensures.steps in
    let k = length c.loop-width.yielded in
    let one = aligned_more c.args.widths.now c.args.row.now k c.in-Some.width.now c.in-Some.text.now t.0 t.1 (t.2 c.in-Some.width.now) (t.3 c.in-Some.text.now) in
    let cell = c.in_ok-put_aligned.ensures ∙ ap (λ z. string_bytes c.put_space.new.out ++ right_aligned c.in-Some.width.now z) c.deref.ensures in
    ap (λ j. string_bytes c.put_aligned.new.out ++ to_come true (from_place c.args.widths.now c.args.row.now j)) (length_push c.loop-width.yielded (c.in-Some.width, c.in-Some.text))
    ∙ come_more c.loop-width.more (string_bytes c.loop-width.out) (string_bytes c.put_space.new.out) (string_bytes c.put_aligned.new.out) (right_aligned c.in-Some.width.now (string_bytes c.in-Some.text.now)) (from_place c.args.widths.now c.args.row.now (k + 1)) c.in_ok-put_space.ensures cell
    ∙ ap (λ z. string_bytes c.loop-width.out ++ to_come c.loop-width.more z) (sym one)
    ∙ c.loop-width.invariant

pub returns : goal.returns
returns c =
    let first : iter_rest (zip_first c.into_iter-width-iterator.result) ≡ c.args.widths.now = search rules in
    let second : iter_rest (zip_second c.into_iter-width-iterator.result) ≡ c.args.row.now = search rules in
    let t = zip_end c.args.widths.now c.args.row.now c.loop-width.yielded c.into_iter-width-iterator.result c.loop-width.width-iterator c.next.new.self c.next.result first second c.loop-width.yielded_by c.in-None.is c.next.ensures.steps in
    let k = length c.loop-width.yielded in
    let done = sym (come_all c.loop-width.more (string_bytes c.loop-width.out) (from_place c.args.widths.now c.args.row.now k) (aligned_all c.args.widths.now c.args.row.now k (omega (arith, t)))) ∙ c.loop-width.invariant in
    c.in_ok-put.ensures ∙ ap (λ z. z ++ 10 ∷ []) done ∙ append_assoc (string_bytes c.args.out.now) (join_with_byte 32 (aligned c.args.widths.now (texts_of c.args.row.now))) (10 ∷ [])
