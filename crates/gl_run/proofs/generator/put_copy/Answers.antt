use Rattle.std.proofs.Common.{◌∙◌, [], ◌∷◌, ◌++◌, ap, codes}
use Rattle.std.specs.Fmt.{decimal}
use Rattle.std.specs.String.{string_bytes}
use Rattle.gl_run.proofs.Generating.{one_number}
use Rattle.gl_run.proofs.generator.put_copy.Goals as goal

pub returns : goal.returns
returns c =
    let end = codes "),A1,1000),F1)" ++ 10 ∷ [] in
    c.in_ok-put-2.ensures ∙ ap (λ t. t ++ end) c.in_ok-put_number.ensures ∙ ap (λ t. (t ++ decimal c.args.n) ++ end) c.in_ok-put.ensures
    ∙ one_number (string_bytes c.args.out.now) (codes "set K1 =VIEW(UPDATE(SHEET(A1:F") (decimal c.args.n) (codes "),A1,1000),F1)") (10 ∷ [])
