use Rattle.std.proofs.Common.{◌≡◌, ◌∙◌, ◌<◌, true, take, length, Vec, ap, subst, arith}
use Rattle.std.proofs.lemmas.List.{take_all}
use Rattle.std.specs.List.{AllZip}
use Rattle.gl_support.specs.Nodes.{marked_keys}
use Rattle.std.specs.declared.alloc.Global.{Global}
use Rattle.gl_support.proofs.Places.{picked_one, picked_none}
use Rattle.gl_support.proofs.nodes.picked.Goals as goal
use Rattle.gl_support.proofs.nodes.picked.Goals.{then-marks-i+in_ok-push_another, else-marks-i}

pub loop-i-preserved : goal.loop-i-preserved
loop-i-preserved g c =
    let in_keys : c.loop-i.i < length c.args.keys.now = omega arith in
    let in_marks : c.loop-i.i < length c.args.marks.now = omega (arith, c.requires) in
    elim c.if-marks-i.branch [
      | then-marks-i+in_ok-push_another w ↦
          picked_one (λ x y. g.K.PartialEq.eq x y ≡ true) c.args.marks.now c.args.keys.now c.loop-i.i in_marks in_keys c.loop-i.found.items c.if-marks-i.found.items c.loop-i.invariant
          c.index-keys-i.result w.in_ok-push_another.ensures.0 w.if-marks-i.true c.index-keys-i.is w.in_ok-push_another.ensures.1 (ap (λ (v : Vec g.row.K.Denot Global). v.items) w.found-is ∙ w.in_ok-push_another.ensures.2)
      | else-marks-i w ↦
          picked_none (λ x y. g.K.PartialEq.eq x y ≡ true) c.args.marks.now c.args.keys.now c.loop-i.i in_marks in_keys c.loop-i.found.items c.if-marks-i.found.items c.loop-i.invariant
          c.index-keys-i.result w.if-marks-i.false (ap (λ (v : Vec g.row.K.Denot Global). v.items) w.found-is)
    ]

pub returns : goal.returns
returns g c =
    let marks = c.args.marks.now in
    let keys = c.args.keys.now in
    let i = c.loop-i.i in
    let of_all = subst (λ ms. AllZip (λ x y. g.K.PartialEq.eq x y ≡ true) (marked_keys ms (take i keys)) c.loop-i.found.items) (take_all i marks (omega (arith, c.requires))) c.loop-i.invariant in
    subst (λ ks. AllZip (λ x y. g.K.PartialEq.eq x y ≡ true) (marked_keys marks ks) c.loop-i.found.items) (take_all i keys (omega arith)) of_all
