-- What a replica's own edits come to: each of them wins.
use Rattle.std.proofs.Common.{◌≡◌, ◌∙◌, Bool, false, cond, List, [], ◌∷◌, map, Option, Some, None, refl, sym, ap, subst, arith, IsTrue}
use Rattle.std.proofs.lemmas.Grind.{common_steps}
use Rattle.gl_calculus.specs.Grid.Grid.{Addr, same_addr, is_before, AreInOrder}
use Rattle.gl_calculus.specs.Formulas.Formula.{Content, Cells}
use Rattle.gl_calculus.specs.Edits.Replicas.{Stamp, Edit, Changes, Replica, IsJudged, Wins, IsOlder, AreOlder, register_at, with_edit, contents_of, taking, taking_all, stamped}
use Rattle.laws_calculus.proofs.Edits.Taking.{order_with_edit}
use Rattle.gl_calculus.specs.Edits.Sheets.{with_changes}
use Rattle.laws_calculus.proofs.SheetEdits.SameSheets.{before_all}
use Rattle.laws_calculus.proofs.SheetEdits.Registers.{register_with, holds_with_edit}

pub judged : (o : Option Edit) (e : Edit) → IsOlder o e.stamp → IsJudged o e Wins
judged None e h = tt
judged (Some r) e h = h

abbrev pub edit_of : Stamp → Addr × Option Content → Edit
edit_of t c = record { stamp = t; place = c.0; content = c.1 }

pub before_apart : (a b : Addr) → IsTrue (is_before a b) → same_addr b a ≡ false
before_apart a b h = grind (arith, common_steps)

-- the others stay older
pub still_older : (rs : List Edit) (t : Stamp) (c : Addr × Option Content) (cs : Changes) → IsOlder (register_at rs c.0) t → AreInOrder (c.0 ∷ map (λ (d : Addr × Option Content). d.0) cs) → AreOlder rs t cs → AreOlder (with_edit rs (edit_of t c)) t cs
still_older rs t c [] o q h = tt
still_older rs t c (d ∷ cs) o q h =
    let e : register_at (with_edit rs (edit_of t c)) d.0 ≡ register_at rs d.0 =
    register_with rs (edit_of t c) d.0 (judged (register_at rs c.0) (edit_of t c) o) ∙ ap (λ (b : Bool). cond b (Some (edit_of t c)) (register_at rs d.0)) (before_apart c.0 d.0 q.0) in
    (subst (λ (x : Option Edit). IsOlder x t) (sym e) h.0, still_older rs t c cs o (skip cs q) h.1)
  where
    skip : (cs : Changes) → AreInOrder (c.0 ∷ d.0 ∷ map (λ (x : Addr × Option Content). x.0) cs) → AreInOrder (c.0 ∷ map (λ (x : Addr × Option Content). x.0) cs)
    skip [] q = tt
    skip (x ∷ cs) q = (before_all c.0 d.0 x.0 q.0 q.1.0, q.1.1)

pub tail_order : (c : Addr × Option Content) (cs : Changes) → AreInOrder (c.0 ∷ map (λ (d : Addr × Option Content). d.0) cs) → AreInOrder (map (λ (d : Addr × Option Content). d.0) cs)
tail_order c [] q = tt
tail_order c (d ∷ cs) q = q.1

-- Own edits at distinct addresses change what the registers hold as they say, and keep the order.
pub record IsTaken (r : Replica) (cs : Changes) (q : Replica) : Type 0 where
  pub ordered : AreInOrder (map (λ e. e.place) q.registers)
  pub holds : contents_of q.registers ≡ with_changes (contents_of r.registers) cs

pub own_taken : (r : Replica) (t : Stamp) (cs : Changes) → AreInOrder (map (λ e. e.place) r.registers) → AreInOrder (map (λ (d : Addr × Option Content). d.0) cs) → AreOlder r.registers t cs → IsTaken r cs (taking_all r (stamped t cs))
own_taken r t [] o q h = record { ordered = o; holds = refl }
own_taken r t (c ∷ cs) o q h =
    let w : IsJudged (register_at r.registers c.0) (edit_of t c) Wins = judged (register_at r.registers c.0) (edit_of t c) h.0 in
    let p = order_with_edit r.registers (edit_of t c) o (Wins, w, λ k. cc k) in
    let k = own_taken (taking r (edit_of t c)) t cs p (tail_order c cs q) (still_older r.registers t c cs h.0 q h.1) in
    record { ordered = k.ordered; holds = k.holds ∙ ap (λ (S : Cells). with_changes S cs) (holds_with_edit r.registers (edit_of t c) o w) }
