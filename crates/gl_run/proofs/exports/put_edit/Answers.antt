use Rattle.std.proofs.Common.{◌++◌, ◌∷◌, [], Option, option_map, ap, ◌∙◌}
use Rattle.std.proofs.lemmas.Result.{on_ok_weaker}
use Rattle.std.specs.String.{string_bytes}
use Rattle.std.specs.Prelude.{codes}
use Rattle.std.specs.Fmt.{decimal}
use Rattle.gl_calculus.specs.Grid.Notation.{address_text}
use Rattle.gl_protocol.specs.Replies.Tables.{text_behind_place}
use Rattle.gl_cells.specs.Content.{content_tree}
use Rattle.gl_cells.specs.declared.content.Content.{Content}
use Rattle.gl_run.proofs.EditText.{eight_put}
use Rattle.gl_run.proofs.exports.put_edit.Goals as goal

pub returns : goal.returns
returns c =
    let e = c.args.e.now in
    let time = c.in_ok-put_number.ensures ∙ ap (λ n. string_bytes c.put.new.out ++ decimal n) (c.time.ensures.value ∙ ap (λ s. s.time) c.stamp.ensures) in
    let site = c.in_ok-put_number-2.ensures ∙ ap (λ n. string_bytes c.put-2.new.out ++ decimal n) (c.from.ensures ∙ c.site.ensures.value ∙ ap (λ s. s.site) c.stamp-2.ensures) in
    let place = c.in_ok-put_address.ensures ∙ ap (λ a. string_bytes c.put-3.new.out ++ address_text a) c.place.ensures in
    let text = c.in_ok-put_text.ensures ∙ ap (λ (o : Option Content). string_bytes c.put_address.new.out ++ text_behind_place (option_map content_tree o)) c.content.ensures.value in
    on_ok_weaker c.put-4.result
    (λ end. eight_put (string_bytes c.args.out.now) (codes "edit ") (decimal e.stamp.time) (codes " ") (decimal e.stamp.site) (codes " ") (address_text e.place) (text_behind_place (option_map content_tree e.content)) (10 ∷ [])
    (string_bytes c.put.new.out) (string_bytes c.put_number.new.out) (string_bytes c.put-2.new.out) (string_bytes c.put_number-2.new.out) (string_bytes c.put-3.new.out) (string_bytes c.put_address.new.out) (string_bytes c.put_text.new.out) (string_bytes c.put-4.new.out)
    c.in_ok-put.ensures time c.in_ok-put-2.ensures site c.in_ok-put-3.ensures place text end)
    c.put-4.ensures
