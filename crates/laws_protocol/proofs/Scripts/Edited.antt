-- What an edit leaves.
use Rattle.std.specs.Prelude.{codes}
use Rattle.gl_language.specs.Texts.Text.{Bytes}
use Rattle.std.proofs.Common.{◌≡◌, ◌∙◌, Bool, true, false, cond, Option, Some, None, refl, sym, ap}
use Rattle.gl_calculus.specs.Formulas.Formula.{Cells}
use Rattle.gl_calculus.specs.Edits.Replicas.{Stamp, Replica, Changes, next_stamp, taking_all, stamped, has_room}
use Rattle.gl_calculus.specs.Edits.Steps.{step_of, pushed}
use Rattle.gl_protocol.specs.Scripts.Commands.{onto, Read, Is, Not}
use Rattle.gl_protocol.specs.Scripts.Script.{Script, edited}

pub is_script : (s t : Script) → Is s ≡ Is t → s ≡ t
is_script s t h = cc h

pub not_script : (w : Bytes) (t : Script) → Not w ≡ Is t → ⊥
not_script w t h = cc h

-- outside a replica
pub alone_done : (s : Script) (cs : Changes) (T : Cells) (goal : Read Cells) → s.replica ≡ None → goal ≡ Is T → edited s cs goal ≡ Is (record s { sheet = T; history = pushed s.history (step_of s.sheet cs) })
alone_done s cs T goal h e = rw (h, e) refl

pub alone_over : (s : Script) (cs : Changes) (w : Bytes) (goal : Read Cells) → s.replica ≡ None → goal ≡ Not w → edited s cs goal ≡ Not w
alone_over s cs w goal h e = rw (h, e) refl

-- in one
module _ (s : Script) (cs : Changes) (r : Replica) (h : s.replica ≡ Some r) where
  pub no_stamp : (goal : Read Cells) → next_stamp r ≡ None → edited s cs goal ≡ Not (codes "stamp")
  no_stamp goal n = rw (h, n) refl

  pub no_room : (goal : Read Cells) (t : Stamp) → next_stamp r ≡ Some t → has_room (taking_all r (stamped t cs)) ≡ false → edited s cs goal ≡ Not (codes "edits")
  no_room goal t n f = rw (h, n, f) refl

  pub replica_done : (goal : Read Cells) (t : Stamp) (T : Cells) → next_stamp r ≡ Some t → has_room (taking_all r (stamped t cs)) ≡ true → goal ≡ Is T → edited s cs goal ≡ Is (record s { sheet = T; replica = Some (taking_all r (stamped t cs)) })
  replica_done goal t T n f e = rw (h, n, f, e) refl

-- the sheet is the goal
onto_is : (f : Cells → Script) (goal : Read Cells) (t : Script) → ((S : Cells) → (f S).sheet ≡ S) → onto f goal ≡ Is t → goal ≡ Is t.sheet
onto_is f (Is S) t g h = ap (λ (Z : Cells). Is Z) (sym (g S) ∙ ap (λ (u : Script). u.sheet) (is_script (f S) t h))
onto_is f (Not w) t g h = absurd (not_script w t h)

pub edited_sheet : (s : Script) (cs : Changes) (goal : Read Cells) (t : Script) → edited s cs goal ≡ Is t → goal ≡ Is t.sheet
edited_sheet s cs goal t h = by s.replica refl h
  where
    room : (q : Replica) (b : Bool) → cond b (onto (λ S. record s { sheet = S; replica = Some q }) goal) (Not (codes "edits")) ≡ Is t → goal ≡ Is t.sheet
    room q true k = onto_is (λ S. record s { sheet = S; replica = Some q }) goal t (λ S. refl) k
    room q false k = absurd (not_script (codes "edits") t k)

    stamped_by : (r : Replica) (o : Option Stamp) → next_stamp r ≡ o → s.replica ≡ Some r → edited s cs goal ≡ Is t → goal ≡ Is t.sheet
    stamped_by r (Some u) n e k = room (taking_all r (stamped u cs)) (has_room (taking_all r (stamped u cs))) (rw (e, n) at k)
    stamped_by r None n e k = absurd (not_script (codes "stamp") t (rw (e, n) at k))

    by : (o : Option Replica) → s.replica ≡ o → edited s cs goal ≡ Is t → goal ≡ Is t.sheet
    by (Some r) e k = stamped_by r (next_stamp r) refl e k
    by None e k = onto_is (λ S. record { sheet = S; replica = None; history = pushed s.history (step_of s.sheet cs) }) goal t (λ S. refl) (rw e at k)
