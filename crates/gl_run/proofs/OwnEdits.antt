-- Edits that a replica takes for changes of its own: which registers there are then, and how many.
use Rattle.std.proofs.Common.{◌≡◌, ◌∙◌, ℕ, ◌+◌, ◌<◌, ◌≤◌, suc, Bool, true, false, cond, List, [], ◌∷◌, map, length, Option, Some, None, is_none, is_some, nat_le, filter, refl, sym, ap, arith, IsTrue}
use Rattle.std.proofs.lemmas.Bool.Decides.{nat_tests}
use Rattle.std.proofs.lemmas.Grind.{common_steps}
use Rattle.std.proofs.lemmas.List.Sums.{length-filter}
use Rattle.gl_calculus.specs.Grid.Grid.{Addr, same_addr, is_before, AreInOrder}
use Rattle.gl_calculus.specs.Formulas.Formula.{Content}
use Rattle.gl_calculus.specs.Edits.Limits.{max_registers}
use Rattle.gl_calculus.specs.Edits.Replicas.{Stamp, Edit, Changes, Replica, IsJudged, Wins, AreOlder, register_at, with_edit, taking, taking_all, stamped, missing, has_room, is_earlier}
use Rattle.laws_calculus.proofs.Edits.Orders.{tail}
use Rattle.laws_calculus.proofs.Edits.Taking.{order_with_edit}
use Rattle.laws_calculus.proofs.SheetEdits.SameSheets.{before_all}
use Rattle.laws_calculus.proofs.SheetEdits.Registers.{register_with}
use Rattle.laws_calculus.proofs.SheetEdits.Own.{edit_of, judged, before_apart, still_older, tail_order}

abbrev pub places_of : List Edit → List Addr
places_of rs = map (λ (r : Edit). r.place) rs

abbrev pub change_places : Changes → List Addr
change_places cs = map (λ (c : Addr × Option Content). c.0) cs

abbrev pub one_if_none : Option Edit → ℕ
one_if_none None = 1
one_if_none (Some r) = 0

pub missing_more : (rs : List Edit) (a : Addr) (ps : List Addr) → missing rs (a ∷ ps) ≡ one_if_none (register_at rs a) + missing rs ps
missing_more rs a ps = sym (length-filter no_register (a ∷ ps)) ∙ by (register_at rs a) ∙ ap (λ (n : ℕ). one_if_none (register_at rs a) + n) (length-filter no_register ps)
  where
    no_register : Addr → Bool
    no_register p = is_none (register_at rs p)

    by : (o : Option Edit) → length (cond (is_none o) (a ∷ filter no_register ps) (filter no_register ps)) ≡ one_if_none o + length (filter no_register ps)
    by None = omega arith
    by (Some r) = omega arith

pub missing_one : (rs : List Edit) (a : Addr) → missing rs (a ∷ []) ≡ one_if_none (register_at rs a)
missing_one rs a = let e = missing_more rs a [] in let z : missing rs [] ≡ 0 = refl in omega (arith, e, z)

pub one_by_test : (o : Option Edit) → cond (is_some o) 0 1 ≡ one_if_none o
one_by_test None = refl
one_by_test (Some r) = refl

-- an edit that wins leaves the other registers
pub missing_after : (rs : List Edit) (e : Edit) (ps : List Addr) → IsJudged (register_at rs e.place) e Wins → AreInOrder (e.place ∷ ps) → missing (with_edit rs e) ps ≡ missing rs ps
missing_after rs e [] w o = refl
missing_after rs e (p ∷ ps) w o =
    let same : register_at (with_edit rs e) p ≡ register_at rs p = register_with rs e p w ∙ ap (λ (b : Bool). cond b (Some e) (register_at rs p)) (before_apart e.place p o.0) in
    let a = missing_more (with_edit rs e) p ps in
    let b = missing_more rs p ps in
    let c = ap one_if_none same in
    let d = missing_after rs e ps w (skip ps o) in
    omega (arith, a, b, c, d)
  where
    skip : (ps : List Addr) → AreInOrder (e.place ∷ p ∷ ps) → AreInOrder (e.place ∷ ps)
    skip [] o = tt
    skip (q ∷ ps) o = (before_all e.place p q o.0 o.1.0, o.1.1)

-- before the first there is no register
none_before : (a : Addr) (rs : List Edit) → AreInOrder (a ∷ places_of rs) → register_at rs a ≡ None
none_before a [] o = refl
none_before a (r ∷ rs) o = ap (λ (t : Bool). cond t (Some r) (register_at rs a)) (ahead_apart a r.place o.0) ∙ none_before a rs (skip rs o)
  where
    ahead_apart : (a b : Addr) → IsTrue (is_before a b) → same_addr a b ≡ false
    ahead_apart a b h = grind (arith, common_steps)

    skip : (rs : List Edit) → AreInOrder (a ∷ r.place ∷ places_of rs) → AreInOrder (a ∷ places_of rs)
    skip [] o = tt
    skip (q ∷ rs) o = (before_all a r.place q.place o.0 o.1.0, o.1.1)

pub length_with : (rs : List Edit) (e : Edit) → AreInOrder (places_of rs) → length (with_edit rs e) ≡ length rs + one_if_none (register_at rs e.place)
length_with [] e o = refl
length_with (r ∷ rs) e o = by (same_addr e.place r.place) (is_before e.place r.place) refl (length_with rs e (tail r.place (places_of rs) o))
  where
    by : (p q : Bool) → is_before e.place r.place ≡ q → length (with_edit rs e) ≡ length rs + one_if_none (register_at rs e.place)
        → length (cond p ((cond (is_earlier r.stamp e.stamp) e r) ∷ rs) (cond q (e ∷ r ∷ rs) (r ∷ with_edit rs e))) ≡ suc (length rs) + one_if_none (cond p (Some r) (register_at rs e.place))
    by true q h ih = omega arith
    by false true h ih = let none : one_if_none (register_at rs e.place) ≡ 1 = ap one_if_none (none_behind h) in omega (arith, none)
      where
        none_behind : is_before e.place r.place ≡ true → register_at rs e.place ≡ None
        none_behind h = none_before e.place rs (skip rs o)
          where
            skip : (rs : List Edit) → AreInOrder (r.place ∷ places_of rs) → AreInOrder (e.place ∷ places_of rs)
            skip [] o = tt
            skip (s ∷ rs) o = (before_all e.place r.place s.place h o.0, o.1)
    by false false h ih = omega (arith, ih)

pub length_taken : (r : Replica) (t : Stamp) (cs : Changes) → AreInOrder (places_of r.registers) → AreInOrder (change_places cs) → AreOlder r.registers t cs
    → length (taking_all r (stamped t cs)).registers ≡ length r.registers + missing r.registers (change_places cs)
length_taken r t [] o q h = let z : missing r.registers [] ≡ 0 = refl in omega (arith, z)
length_taken r t (c ∷ cs) o q h =
    let e = edit_of t c in
    let w : IsJudged (register_at r.registers c.0) e Wins = judged (register_at r.registers c.0) e h.0 in
    let p = order_with_edit r.registers e o (Wins, w, λ k. cc k) in
    let more = length_taken (taking r e) t cs p (tail_order c cs q) (still_older r.registers t c cs h.0 q h.1) in
    let one = length_with r.registers e o in
    let rest = missing_after r.registers e (change_places cs) w q in
    let first = missing_more r.registers c.0 (change_places cs) in
    omega (arith, more, one, rest, first)

-- whether there is room
pub room_there : (q : Replica) (n m : ℕ) → length q.registers ≡ n + m → n + m ≤ max_registers → has_room q ≡ true
room_there q n m e h = let l : length q.registers ≤ max_registers = omega (arith, e, h) in tested l
  where
    tested : length q.registers ≤ max_registers → nat_le (length q.registers) max_registers ≡ true
    tested l = grind (arith, nat_tests)

pub room_gone : (q : Replica) (n m : ℕ) → length q.registers ≡ n + m → max_registers < n + m → has_room q ≡ false
room_gone q n m e h = let l : max_registers < length q.registers = omega (arith, e, h) in tested l
  where
    tested : max_registers < length q.registers → nat_le (length q.registers) max_registers ≡ false
    tested l = grind (arith, nat_tests)
