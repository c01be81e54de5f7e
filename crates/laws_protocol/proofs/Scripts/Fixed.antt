-- The reply to a last line that asks for the sheet.
use Rattle.std.proofs.Common.{◌≡◌, ◌∙◌, true, List, [], ◌∷◌, ◌++◌, None, Some, IsTrue, refl, sym, ap, subst}
use Rattle.std.specs.Prelude.{codes}
use Rattle.std.proofs.lemmas.Slice.Eq.{bytes_eq-Decides}
use Rattle.gl_calculus.specs.Formulas.Formula as F
use Rattle.gl_calculus.specs.Formulas.Formula.{Version, Cells}
use Rattle.gl_language.specs.Texts.Text.{Bytes}
use Rattle.gl_protocol.specs.Framing.Framing.{Item, Line}
use Rattle.gl_protocol.specs.Scripts.Commands as C
use Rattle.gl_protocol.specs.Scripts.Commands.{Is, Request, ReadsLine, words_of, ok_line}
use Rattle.gl_protocol.specs.Scripts.Script.{Script}
use Rattle.gl_protocol.specs.Scripts.Acts.{Acts}
use Rattle.gl_protocol.specs.Scripts.Output as O
use Rattle.gl_protocol.specs.Scripts.Output.{is_line, Runs, AreReplies}
use Rattle.laws_protocol.specs.States.{asks_sheet}
use Rattle.laws_protocol.specs.Fixed as X
use Rattle.laws_protocol.specs.Fixed.{LeadTo, FixedByContents}
use Rattle.laws_protocol.proofs.Scripts.Outputs.{one_act, apart}
use Rattle.laws_protocol.proofs.Scripts.SameReplies.{same_sheets_reply}

-- a line that asks for the sheet doesn't choose a version
asks_no_version : (l : Bytes) (x : Request) → ReadsLine l (Is x) → IsTrue (asks_sheet x) → is_line (codes "gridlet 2") (Line l) ≡ true → ⊥
asks_no_version l x reads asks e = by x reads asks
  where
    is : codes "gridlet 2" ≡ l
    is = (bytes_eq-Decides (codes "gridlet 2") l).0 e

    no_words : words_of l ≡ None
    no_words = subst (λ (t : Bytes). words_of t ≡ None) is refl

    by : (x : Request) → ReadsLine l (Is x) → IsTrue (asks_sheet x) → ⊥
    by _ (C.ReadsLine.comment c) a = cc a
    by _ (C.ReadsLine.words {ws = ws} c u w r) a = let z : None ≡ Some ws = sym no_words ∙ w in absurd (cc z)

module _ (records : Bytes → List (List Bytes)) (l : Bytes) where
  -- the last of these replies answers the line, in a state with this sheet
  record Ends (version : Version) (S : Cells) (rs : List Bytes) : Type 0 where
    pub between : Script
    pub behind : Script
    pub before : List Bytes
    pub reply : Bytes
    pub sheet : between.sheet ≡ S
    pub act : Acts records version between (Line l) behind reply
    pub whole : rs ≡ before ++ reply ∷ []

  more : (version : Version) (S : Cells) (r : Bytes) {rs : List Bytes} → Ends version S rs → Ends version S (r ∷ rs)
  more version S r e = record {
    between = e.between;
    behind = e.behind;
    before = r ∷ e.before;
    reply = e.reply;
    sheet = e.sheet;
    act = e.act;
    whole = ap (λ (bs : List Bytes). r ∷ bs) e.whole;
  }

  run_ends : (version : Version) {s t u : Script} {is : List Item} {ts rs : List Bytes} → Runs records version s is t ts → Runs records version s (is ++ Line l ∷ []) u rs → Ends version t.sheet rs
  run_ends version {s = s} O.Runs.no_more (O.Runs.item {s' = b} {reply = r} h O.Runs.no_more) =
      record { between = s; behind = b; before = []; reply = r; sheet = refl; act = h; whole = refl }
  run_ends version {s = s} {t = t} {u = u} (O.Runs.item {s' = a} {x = x} {xs = xs} {reply = r} h p) (O.Runs.item {s' = b} {reply = z} {replies = rs} k q) =
      let e = one_act records version s b a x z r k h in
      more version t.sheet z (run_ends version p (subst (λ (w : Script). Runs records version w (xs ++ Line l ∷ []) u rs) e.0 q))

  module _ (x : Request) (reads : ReadsLine l (Is x)) (asks : IsTrue (asks_sheet x)) where
    ends : {is : List Item} {version : Version} {S : Cells} {rs : List Bytes} → LeadTo records is version S → AreReplies records (is ++ Line l ∷ []) rs → Ends version S rs
    ends X.LeadTo.nothing (O.AreReplies.two h p) = absurd (asks_no_version l x reads asks h)
    ends X.LeadTo.nothing (O.AreReplies.one h p) = run_ends F.Version.One O.Runs.no_more p
    ends (X.LeadTo.two {s = s} h p) (O.AreReplies.two k q) = more F.Version.Two s.sheet ok_line (run_ends F.Version.Two p q)
    ends (X.LeadTo.two {x = y} h p) (O.AreReplies.one k q) = absurd (apart (is_line (codes "gridlet 2") y) h k)
    ends (X.LeadTo.one {x = y} h p) (O.AreReplies.two k q) = absurd (apart (is_line (codes "gridlet 2") y) k h)
    ends (X.LeadTo.one h p) (O.AreReplies.one k q) = run_ends F.Version.One p q

pub fixed_by_contents : FixedByContents
fixed_by_contents records version S is js l x rs ss p q reads asks a b =
    let e = ends records l x reads asks p a in
    let f = ends records l x reads asks q b in
    let same : e.reply ≡ f.reply = same_sheets_reply records version e.between e.behind f.between f.behind l e.reply f.reply x (e.sheet ∙ sym f.sheet) reads asks e.act f.act in
    (e.reply, e.before, f.before, e.whole, f.whole ∙ ap (λ (r : Bytes). f.before ++ r ∷ []) (sym same))
