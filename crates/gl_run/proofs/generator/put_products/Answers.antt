use Rattle.std.proofs.Common.{◌∙◌, [], ◌∷◌, ◌++◌, ap, codes}
use Rattle.std.specs.Fmt.{decimal}
use Rattle.std.specs.String.{string_bytes}
use Rattle.gl_run.proofs.Generating.{two_numbers}
use Rattle.gl_run.proofs.generator.put_products.Goals as goal

pub returns : goal.returns
returns c =
    let last = decimal c.args.n in
    c.in_ok-put-3.ensures ∙ ap (λ t. t ++ 10 ∷ []) (c.in_ok-put_number-2.ensures ∙ ap (λ t. t ++ last) (c.in_ok-put-2.ensures ∙ ap (λ t. t ++ codes "*B1:B") (c.in_ok-put_number.ensures ∙ ap (λ t. t ++ last) c.in_ok-put.ensures)))
    ∙ two_numbers (string_bytes c.args.out.now) (codes "set D1 =A1:A") last (codes "*B1:B") last (10 ∷ [])
