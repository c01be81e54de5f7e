use Rattle.std.proofs.Common.{◌≡◌, ◌∙◌, Some, is_some, length, slice_get, vec_len, sym, ap, subst, arith}
use Rattle.gl_calculus.specs.Grid.Grid.{Addr}
use Rattle.gl_calculus.specs.Edits.Replicas.{register_at}
use Rattle.gl_merge.specs.Index.{Index, places, registers}
use Rattle.gl_merge.specs.Spot.{IsFoundAt, IsGapAt}
use Rattle.gl_merge.proofs.Adding.{added_as, is_new, gap_room}
use Rattle.gl_merge.proofs.Lists.{get_read, one_if_not}
use Rattle.gl_merge.proofs.Replacing.{replaced, is_there}
use Rattle.gl_merge.proofs.Spots.{place_read, found_within, gap_within}
use Rattle.gl_merge.proofs.keeping.keep.Goals as goal

pub add-requires-clause-few : goal.add-requires-clause-few
add-requires-clause-few c =
    let ix = c.args.index.now.items in
    let i = c.in-Gap.i in
    let g : IsGapAt (places ix) c.args.e.place i = subst (λ (a : Addr). IsGapAt (places ix) a i) c.place.ensures (subst (λ (zs : Index). IsGapAt (places zs) c.place.result i) c.deref.ensures.value c.in-Gap.ensures) in
    let room = gap_room c.args.edits.now.items ix c.requires.index c.args.e i g (gap_within ix c.args.e.place i g) c.requires.room in
    omega (arith, room.few, c.requires.index.count)

pub add-requires-clause-room : goal.add-requires-clause-room
add-requires-clause-room c =
    let ix = c.args.index.now.items in
    let i = c.in-Gap.i in
    let g : IsGapAt (places ix) c.args.e.place i = subst (λ (a : Addr). IsGapAt (places ix) a i) c.place.ensures (subst (λ (zs : Index). IsGapAt (places zs) c.place.result i) c.deref.ensures.value c.in-Gap.ensures) in
    gap_room c.args.edits.now.items ix c.requires.index c.args.e i g (gap_within ix c.args.e.place i g) c.requires.room

pub returns-in-Found : goal.returns-in-Found
returns-in-Found c =
    let es = c.args.edits.now.items in
    let ix = c.args.index.now.items in
    let e = c.args.e in
    let i = c.in-Found.i in
    let x = c.index.result.now in
    let f : IsFoundAt (places ix) e.place i = subst (λ (a : Addr). IsFoundAt (places ix) a i) c.place.ensures (subst (λ (zs : Index). IsFoundAt (places zs) c.place.result i) c.deref.ensures.value c.in-Found.ensures) in
    let l = found_within ix e.place i f in
    let k : slice_get ix i ≡ Some x = get_read ix i x l c.index.ensures in
    let p : e.place ≡ x.0 = sym f.here ∙ place_read ix i x l c.index.ensures in
    let r = replaced es ix c.requires.index e i x f k p c.replace.new.edits.items c.replace.ensures.kept in
    let none : one_if_not (is_some (register_at (registers es ix) e.place)) ≡ 0 = ap one_if_not (is_there es ix c.requires.index e i x f k p) in
    record {
      index = r.index;
      kept = r.kept;
      edits_count = omega (arith, none, c.replace.ensures.len);
      index_count = omega (arith, none);
      edits_capacity = c.replace.ensures.capacity;
      index_capacity = omega arith;
      past = r.past;
    }

pub returns-in-Gap : goal.returns-in-Gap
returns-in-Gap c =
    let es = c.args.edits.now.items in
    let ix = c.args.index.now.items in
    let e = c.args.e in
    let i = c.in-Gap.i in
    let g : IsGapAt (places ix) e.place i = subst (λ (a : Addr). IsGapAt (places ix) a i) c.place.ensures (subst (λ (zs : Index). IsGapAt (places zs) c.place.result i) c.deref.ensures.value c.in-Gap.ensures) in
    let w = gap_within ix e.place i g in
    let n : vec_len c.args.edits.now ≡ length es = omega arith in
    let r = added_as es ix c.requires.index e i g w c.add.new.edits.items c.add.new.index.items (vec_len c.args.edits.now) c.add.ensures.edits c.add.ensures.index n in
    let one : one_if_not (is_some (register_at (registers es ix) e.place)) ≡ 1 = ap one_if_not (is_new es ix c.requires.index e i g w) in
    record {
      index = r.index;
      kept = r.kept;
      edits_count = omega (arith, one, c.add.ensures.edits_len);
      index_count = omega (arith, one, c.add.ensures.index_len);
      edits_capacity = c.add.ensures.edits_capacity;
      index_capacity = c.add.ensures.index_capacity;
      past = r.past;
    }
