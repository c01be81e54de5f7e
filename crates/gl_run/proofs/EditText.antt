-- The text of an edit, part by part.
use Rattle.std.proofs.Common.{◌≡◌, ◌++◌, append_assoc, ap, ◌∙◌}
use Rattle.gl_language.specs.Texts.Text.{Bytes}

-- one more part behind what was put
onward : (o t y p q : Bytes) → p ≡ o ++ t → q ≡ p ++ y → q ≡ o ++ (t ++ y)
onward o t y p q e f = f ∙ ap (λ s. s ++ y) e ∙ append_assoc o t y

pub eight_put : (o a b c d e f g h p1 p2 p3 p4 p5 p6 p7 p8 : Bytes) → p1 ≡ o ++ a → p2 ≡ p1 ++ b → p3 ≡ p2 ++ c → p4 ≡ p3 ++ d → p5 ≡ p4 ++ e → p6 ≡ p5 ++ f → p7 ≡ p6 ++ g → p8 ≡ p7 ++ h → p8 ≡ o ++ (a ++ b ++ c ++ d ++ e ++ f ++ g ++ h)
eight_put o a b c d e f g h p1 p2 p3 p4 p5 p6 p7 p8 e1 e2 e3 e4 e5 e6 e7 e8 =
    let t2 = onward o a b p1 p2 e1 e2 in
    let t3 = onward o (a ++ b) c p2 p3 t2 e3 in
    let t4 = onward o (a ++ b ++ c) d p3 p4 t3 e4 in
    let t5 = onward o (a ++ b ++ c ++ d) e p4 p5 t4 e5 in
    let t6 = onward o (a ++ b ++ c ++ d ++ e) f p5 p6 t5 e6 in
    let t7 = onward o (a ++ b ++ c ++ d ++ e ++ f) g p6 p7 t6 e7 in
    onward o (a ++ b ++ c ++ d ++ e ++ f ++ g) h p7 p8 t7 e8
