-- The replies to a list of items are determined.
use Rattle.std.proofs.Common.{◌≡◌, ◌∙◌, Bool, true, false, List, ◌∷◌, refl, sym, ap, subst}
use Rattle.std.specs.Prelude.{codes, flat_map}
use Rattle.gl_calculus.specs.Formulas.Formula.{Version}
use Rattle.gl_calculus.specs.Formulas.Formula as F
use Rattle.gl_language.specs.Texts.Text.{Bytes}
use Rattle.gl_protocol.specs.Framing.Framing.{Item}
use Rattle.gl_protocol.specs.Scripts.Commands.{ok_line}
use Rattle.gl_protocol.specs.Scripts.Script.{Script}
use Rattle.gl_protocol.specs.Scripts.Output as O
use Rattle.gl_protocol.specs.Scripts.Output.{is_line, Runs, AreReplies}
use Rattle.laws_protocol.specs.Acts.{OneAct, OneOutput}
use Rattle.laws_protocol.specs.Replies.{OneText}
use Rattle.laws_protocol.proofs.Scripts.Effects.{acted}
use Rattle.laws_protocol.proofs.Scripts.Once.{one_item}

pub one_act : OneAct
one_act records version s t u x r q h k = one_item records version s x t u r q (acted records version s h) (acted records version s k)

one_run : (records : Bytes → List (List Bytes)) (version : Version) {s t u : Script} {is : List Item} {rs ss : List Bytes} → Runs records version s is t rs → Runs records version s is u ss → rs ≡ ss
one_run records version O.Runs.no_more O.Runs.no_more = refl
one_run records version {s = s} {u = u} (O.Runs.item {s' = t} {x = x} {xs = xs} {reply = r} {replies = rs} h p) (O.Runs.item {s' = v} {reply = z} {replies = ss} k q) =
    let e = one_act records version s t v x r z h k in
    let rest : rs ≡ ss = one_run records version p (subst (λ (w : Script). Runs records version w xs u ss) (sym e.0) q) in
    ap (λ (b : Bytes). b ∷ rs) e.1 ∙ ap (λ (bs : List Bytes). z ∷ bs) rest

pub apart : (b : Bool) → b ≡ true → b ≡ false → ⊥
apart b h k = let e : true ≡ false = sym h ∙ k in cc e

one_output_of : (records : Bytes → List (List Bytes)) {is : List Item} {rs ss : List Bytes} → AreReplies records is rs → AreReplies records is ss → rs ≡ ss
one_output_of records (O.AreReplies.two h p) (O.AreReplies.two k q) = ap (λ (bs : List Bytes). ok_line ∷ bs) (one_run records F.Version.Two p q)
one_output_of records (O.AreReplies.two {x = x} h p) (O.AreReplies.one k q) = absurd (apart (is_line (codes "gridlet 2") x) h k)
one_output_of records (O.AreReplies.one {x = x} h p) (O.AreReplies.two k q) = absurd (apart (is_line (codes "gridlet 2") x) k h)
one_output_of records (O.AreReplies.one h p) (O.AreReplies.one k q) = one_run records F.Version.One p q
one_output_of records O.AreReplies.empty O.AreReplies.empty = refl

pub one_output : OneOutput
one_output records is rs ss h k = one_output_of records h k

pub one_text : OneText
one_text records is out other h k = h.2 ∙ ap (flat_map (λ r. r)) (one_output records is h.0 k.0 h.1 k.1) ∙ sym k.2
