use Rattle.std.proofs.Common.{◌≡◌, ◌∙◌, ◌+◌, ◌≤◌, List, length, vec_len, vec_capacity, sym, ap, arith}
use Rattle.gl_calculus.specs.Edits.Replicas.{missing}
use Rattle.gl_merge.specs.Edit.{EditValue}
use Rattle.gl_merge.specs.Index.{Index, registers}
use Rattle.gl_merge.specs.Replica.{ReplicaValue, registers_of}
use Rattle.gl_merge.proofs.Clocks.{on_ok}
use Rattle.gl_merge.proofs.Listed.{registers_length}
use Rattle.gl_merge.proofs.replica.Replica.make_room.Goals as goal

pub returns-then-count-len-clause-answer : goal.returns-then-count-len-clause-answer
returns-then-count-len-clause-answer c =
    let es = c.self.inside.edits.items in
    let ix = c.self.inside.index.items in
    let ps = c.args.places.now in
    let n : length (registers_of c.args.self.now) ≡ length ix = sym (ap (λ (r : ReplicaValue). length (registers_of r)) c.self.view_is) ∙ registers_length es ix c.self.invariant.index.stands in
    let m : c.count_missing-count.result ≡ missing (registers_of c.args.self.now) ps =
    c.count_missing-count.ensures ∙ ap (λ (xs : List EditValue). missing (registers xs c.deref-2.result.now) ps) c.deref.ensures.value
    ∙ ap (λ (zs : Index). missing (registers es zs) ps) c.deref-2.ensures.value ∙ ap (λ (r : ReplicaValue). missing (registers_of r) ps) c.self.view_is in
    omega (arith, n, m, c.if-count-len.true, c.len.ensures, c.self.invariant.few)

pub returns-clause-answer : goal.returns-clause-answer
returns-clause-answer c =
    let es = c.self.inside.edits.items in
    let ix = c.self.inside.index.items in
    let ps = c.args.places.now in
    let n : length (registers_of c.args.self.now) ≡ length ix = sym (ap (λ (r : ReplicaValue). length (registers_of r)) c.self.view_is) ∙ registers_length es ix c.self.invariant.index.stands in
    let m : c.count_missing-count.result ≡ missing (registers_of c.args.self.now) ps =
    c.count_missing-count.ensures ∙ ap (λ (xs : List EditValue). missing (registers xs c.deref-2.result.now) ps) c.deref.ensures.value
    ∙ ap (λ (zs : Index). missing (registers es zs) ps) c.deref-2.ensures.value ∙ ap (λ (r : ReplicaValue). missing (registers_of r) ps) c.self.view_is in
    let edits_room : vec_len c.reserve.new.self + c.count_missing-count.result ≤ vec_capacity c.reserve.new.self = on_ok c.reserve.result (sym c.is_err.ensures.value ∙ c.if-is_err.false) c.reserve.ensures.ok in
    let index_room : vec_len c.reserve-2.new.self + c.count_missing-count.result ≤ vec_capacity c.reserve-2.new.self = on_ok c.reserve-2.result (sym c.is_err-2.ensures.value ∙ c.if-is_err-2.false) c.reserve-2.ensures.ok in
    (omega (arith, n, m, c.if-count-len.false, c.len.ensures, c.self.invariant.few), omega (arith, n, m, edits_room, index_room, c.if-count-len.false, c.len.ensures, c.reserve-2.ensures.len, c.self.invariant.few))
