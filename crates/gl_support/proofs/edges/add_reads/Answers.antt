use Rattle.std.proofs.Common.{◌≡◌, ◌∙◌, ◌+◌, ◌<◌, ◌||◌, ◌&&◌, ℕ, Bool, nat_eq, vec_len, take, length, sym, ap, subst, refl, arith}
use Rattle.std.proofs.lemmas.List.{take_all}
use Rattle.gl_support.specs.Nodes.{stands_at, reads_at}
use Rattle.gl_support.specs.Reach.{has, row_of, IsGraph}
use Rattle.gl_support.proofs.Graph.{any_step, joined}
use Rattle.gl_support.proofs.Keys.{or_false}
use Rattle.gl_support.proofs.Places.{stands-Some, stands-None}
use Rattle.gl_support.proofs.edges.add_reads.Goals as goal
use Rattle.gl_support.proofs.edges.add_reads.Goals.{in-Some+in_ok-add_edge, in_default}

pub loop-k-preserved : goal.loop-k-preserved
loop-k-preserved g c =
    let same = g.K.PartialEq.eq in
    let ks = c.args.nodes.now.keys in
    let reads = c.args.reads.now in
    let k = c.loop-k.k-index in
    let x = c.k-item.result in
    let at = c.loop-k.edges.items in
    let old = c.args.edges.now.items in
    let inside : k < length reads = omega arith in
    let after : (i n : ℕ) (new : Bool) → new ≡ (has (row_of at i) n || (stands_at same ks x i && nat_eq n c.args.b)) → new ≡ (has (row_of old i) n || (reads_at same ks (take (k + 1) reads) i && nat_eq n c.args.b)) = λ i n new e.
    let here = stands_at same ks x i in
    let before = reads_at same ks (take k reads) i in
    let more = any_step (λ y. stands_at same ks y i) reads k x before (before || here) inside c.k-item.is refl refl in
    e ∙ ap (λ b. b || (here && nat_eq n c.args.b)) (c.loop-k.invariant.edges i n) ∙ joined (has (row_of old i) n) before here (reads_at same ks (take (k + 1) reads) i) (nat_eq n c.args.b) (sym more) in
    elim c.match-get_index_of.branch [
      | in-Some+in_ok-add_edge w ↦ record {
        edges = λ i n.
            ap (λ v. has (row_of v.items i) n) w.edges-is
            ∙ after i n _ (w.in_ok-add_edge.ensures.edges i n ∙ ap (λ b. has (row_of at i) n || (b && nat_eq n c.args.b)) (sym (stands-Some same ks x w.in-Some.a i w.in-Some.ensures.index)));
        graph = subst (λ v. IsGraph v.items) (sym w.edges-is) w.add_edge.ensures.graph;
        size = ap vec_len w.edges-is ∙ w.add_edge.ensures.size ∙ c.loop-k.invariant.size;
      }
      | in_default w ↦ record {
        edges = λ i n.
            ap (λ v. has (row_of v.items i) n) w.edges-is
            ∙ after i n _ (sym (or_false (has (row_of at i) n)) ∙ ap (λ b. has (row_of at i) n || (b && nat_eq n c.args.b)) (sym (stands-None same ks x i w.in_default.ensures.found)));
        graph = subst (λ v. IsGraph v.items) (sym w.edges-is) c.loop-k.invariant.graph;
        size = ap vec_len w.edges-is ∙ c.loop-k.invariant.size;
      }
    ]

pub returns-clause-edges : goal.returns-clause-edges
returns-clause-edges g c =
    let same = g.K.PartialEq.eq in
    let ks = c.args.nodes.now.keys in
    let all = take_all c.loop-k.k-index c.args.reads.now (omega arith) in
    λ i n. c.loop-k.invariant.edges i n ∙ ap (λ xs. has (row_of c.args.edges.now.items i) n || (reads_at same ks xs i && nat_eq n c.args.b)) all
