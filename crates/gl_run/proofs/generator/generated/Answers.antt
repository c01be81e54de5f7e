use Rattle.std.proofs.Common.{◌≡◌, ◌∙◌, List, ℕ, [], ◌++◌, length, ap, codes, Vec}
use Rattle.std.specs.declared.alloc.Global.{Global}
use Rattle.std.specs.Fmt.{decimal}
use Rattle.std.specs.String.{string_bytes}
use Rattle.gl_protocol.specs.Replies.Tables.{line}
use Rattle.gl_protocol.specs.Scripts.Output.{generated_payload, recursion_line}
use Rattle.gl_run.proofs.Generating.{all_parts}
use Rattle.gl_run.proofs.generator.generated.Goals as goal

pub returns : goal.returns
returns c =
    let n = c.args.n in
    let last = decimal n in
    let rows = generated_payload n in
    let header : List ℕ → List ℕ = λ p. line (codes "import A1 " ++ decimal (length p)) in
    let products = line (codes "set D1 =A1:A" ++ last ++ codes "*B1:B" ++ last) in
    let one = line (codes "set F1 =SUM(D1#)") in
    let two = line (codes "set H1 1") in
    let three = recursion_line in
    let copy = line (codes "set K1 =VIEW(UPDATE(SHEET(A1:F" ++ last ++ codes "),A1,1000),F1)") in
    let queries = line (codes "calc") ++ line (codes "show F1") ++ line (codes "show I1") ++ line (codes "show K1") ++ line (codes "quit") in
    let is : c.deref.result.now ≡ rows = c.deref.ensures ∙ c.in_ok-rows.ensures in
    let empty : string_bytes c.new-out.result ≡ [] = c.new-out.ensures.bytes in
    let a = c.in_ok-put_import.ensures ∙ ap (λ (t : List ℕ). t ++ (header c.deref.result.now ++ c.deref.result.now)) empty ∙ ap (λ p. [] ++ (header p ++ p)) is in
    let b = c.in_ok-put_products.ensures ∙ ap (λ t. t ++ products) a in
    let d = c.in_ok-put_recursion.ensures ∙ ap (λ t. t ++ (one ++ two ++ three)) b in
    let e = c.in_ok-put_copy.ensures ∙ ap (λ t. t ++ copy) d in
    ap (λ (v : Vec ℕ Global). v.items) c.into_bytes.ensures.value ∙ c.in_ok-put_queries.ensures ∙ ap (λ t. t ++ queries) e
    ∙ all_parts (header rows) rows products one two three copy (line (codes "calc")) (line (codes "show F1")) (line (codes "show I1")) (line (codes "show K1")) (line (codes "quit"))
