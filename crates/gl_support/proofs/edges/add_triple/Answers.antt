use Rattle.std.proofs.Common.{◌≡◌, ◌∙◌, ◌||◌, ◌&&◌, nat_eq, Bool, true, false, Result, Ok, Err, OnOk, refl, sym, ap}
use Rattle.gl_support.specs.Nodes.{reads_at}
use Rattle.gl_support.specs.Reach.{has, row_of}
use Rattle.gl_support.proofs.Places.{stands-Some, stands-None}
use Rattle.gl_support.proofs.edges.add_triple.Goals as goal

on_ok : {A E P Q : Type 0} (r : Result A E) → (P → Q) → OnOk r P → OnOk r Q
on_ok (Ok x) f h = f h
on_ok (Err e) f h = h

nowhere : (old a : Bool) (b : Bool) → b ≡ false → old ≡ (old || (a && b))
nowhere true a b e = refl
nowhere false true b e = sym e
nowhere false false b e = refl

pub returns-in-Some-clause-edges : goal.returns-in-Some-clause-edges
returns-in-Some-clause-edges g c =
    let same = g.K.PartialEq.eq in
    let ks = c.args.nodes.now.keys in
    on_ok c.add_reads.result (λ h i n. h i n
    ∙ ap (λ rs. has (row_of c.args.edges.now.items i) n || (reads_at same ks rs i && nat_eq n c.in-Some.b)) c.deref.ensures.value
    ∙ ap (λ b. has (row_of c.args.edges.now.items i) n || (reads_at same ks c.args.t.now.reads.items i && b)) (sym (stands-Some same ks c.args.t.now.by c.in-Some.b n c.in-Some.ensures.index))) c.add_reads.ensures.edges

pub returns-in-None-clause-edges : goal.returns-in-None-clause-edges
returns-in-None-clause-edges g c = λ i n.
    nowhere (has (row_of c.args.edges.now.items i) n) _ _ (stands-None g.K.PartialEq.eq c.args.nodes.now.keys c.args.t.now.by n c.in-None.ensures.found)
