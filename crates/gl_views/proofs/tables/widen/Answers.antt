use Rattle.std.proofs.Common.{◌≡◌, ◌∙◌, min, max, length, get_or, [], sym, ap, arith}
use Rattle.std.specs.Str.{chars}
use Rattle.std.specs.String.{string_bytes}
use Rattle.std.proofs.lemmas.List.{length-map, get_or-map}
use Rattle.gl_views.specs.Cells.{texts_of}
use Rattle.gl_views.proofs.Widths.{raise_more, raise_all}
use Rattle.gl_views.proofs.tables.widen.Goals as goal

pub loop-i-preserved : goal.loop-i-preserved
loop-i-preserved c =
    let row = c.args.row.now in
    let n : length (texts_of row) ≡ length row = length-map row string_bytes in
    let text : c.deref.result.now ≡ get_or (texts_of row) c.loop-i.i [] =
    c.deref.ensures ∙ ap string_bytes c.index-row-i.is ∙ sym (get_or-map string_bytes row c.loop-i.i c.index-row-i.result [] (omega arith)) in
    let wide = c.max.ensures ∙ ap (λ z. max (get_or c.loop-i.widths c.loop-i.i 0) z) (c.width.ensures ∙ ap (λ t. length (chars t)) text) in
    raise_more c.args.widths.now c.loop-i.widths (texts_of row) c.loop-i.i c.max.result (omega arith) (omega (arith, n)) c.loop-i.invariant wide

pub returns : goal.returns
returns c =
    let row = c.args.row.now in
    let n : length (texts_of row) ≡ length row = length-map row string_bytes in
    let e : c.loop-i.i ≡ c.min-i-end.result = omega arith in
    c.loop-i.invariant ∙ raise_all c.args.widths.now (texts_of row) c.loop-i.i (e ∙ c.min-i-end.ensures ∙ ap (min (length c.args.widths.now)) (sym n))
