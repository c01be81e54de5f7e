-- The replies to items begin with the replies to the first of them.
use Rattle.std.proofs.Common.{◌≡◌, List, [], ◌∷◌, ◌++◌, refl, ap}
use Rattle.gl_calculus.specs.Formulas.Formula.{Version, One, Two}
use Rattle.gl_language.specs.Texts.Text.{Bytes}
use Rattle.gl_protocol.specs.Framing.Framing.{Item}
use Rattle.gl_protocol.specs.Scripts.Commands.{ok_line}
use Rattle.gl_protocol.specs.Scripts.Script.{Script}
use Rattle.gl_protocol.specs.Scripts.Output as O
use Rattle.gl_protocol.specs.Scripts.Output.{Runs, AreReplies}
use Rattle.laws_protocol.specs.Replies.{FirstRepliesFirst}

module _ (records : Bytes → List (List Bytes)) where
  -- a run over the first items, and the replies behind it
  record Split (version : Version) (s : Script) (is : List Item) (rs : List Bytes) : Type 0 where
    pub between : Script
    pub firsts : List Bytes
    pub behind : List Bytes
    pub runs : Runs records version s is between firsts
    pub whole : rs ≡ firsts ++ behind

  split : (version : Version) {s u : Script} (is more : List Item) {rs : List Bytes} → Runs records version s (is ++ more) u rs → Split version s is rs
  split version {s = s} [] more {rs = rs} p = record { between = s; firsts = []; behind = rs; runs = O.Runs.no_more; whole = refl }
  split version (x ∷ is) more (O.Runs.item {reply = r} h p) =
      let next = split version is more p in
      record { between = next.between; firsts = r ∷ next.firsts; behind = next.behind; runs = O.Runs.item h next.runs; whole = ap (λ (bs : List Bytes). r ∷ bs) next.whole }

  firsts_of : (is more : List Item) {rs : List Bytes} → AreReplies records (is ++ more) rs → (firsts behind : List Bytes) × AreReplies records is firsts × (rs ≡ firsts ++ behind)
  firsts_of [] more {rs = rs} p = ([], rs, O.AreReplies.empty, refl)
  firsts_of (x ∷ is) more (O.AreReplies.two h p) =
      let s = split Two is more p in
      (ok_line ∷ s.firsts, s.behind, O.AreReplies.two h s.runs, ap (λ (bs : List Bytes). ok_line ∷ bs) s.whole)
  firsts_of (x ∷ is) more (O.AreReplies.one h p) =
      let s = split One (x ∷ is) more p in
      (s.firsts, s.behind, O.AreReplies.one h s.runs, s.whole)

pub first_replies_first : FirstRepliesFirst
first_replies_first records is more rs p = firsts_of records is more p
