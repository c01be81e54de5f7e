use Rattle.std.proofs.Common.{All, ◌≡◌, ◌∙◌, ◌<◌, ◌++◌, ◌∷◌, [], ℕ, List, length, sym, ap, subst, arith}
use Rattle.gl_support.specs.Reach.{row_of}
use Rattle.gl_support.proofs.Graph.{row_added, graph_set, All-push}
use Rattle.gl_support.proofs.Steps.{row_at}
use Rattle.gl_support.proofs.edges.add_edge.Goals as goal

pub returns-clause-edges : goal.returns-clause-edges
returns-clause-edges c =
    let old = c.args.edges.now.items in
    let inside : c.args.a < length old = omega arith in
    let row : row_of old c.args.a ≡ c.index_mut.result.now.items = row_at old c.args.a c.index_mut.result.now inside c.index_mut.ensures.value in
    row_added old c.args.a c.args.b c.push.new.self inside (c.in_ok-push.ensures.items ∙ ap (λ r. r ++ c.args.b ∷ []) (sym row))

pub returns-clause-graph : goal.returns-clause-graph
returns-clause-graph c =
    let old = c.args.edges.now.items in
    let inside : c.args.a < length old = omega arith in
    let row : row_of old c.args.a ≡ c.index_mut.result.now.items = row_at old c.args.a c.index_mut.result.now inside c.index_mut.ensures.value in
    let items = c.in_ok-push.ensures.items ∙ ap (λ r. r ++ c.args.b ∷ []) (sym row) in
    graph_set old c.args.a c.push.new.self inside (subst (λ (r : List ℕ). All (λ x. x < length old) r) (sym items) (All-push (length old) (row_of old c.args.a) c.args.b (c.requires.graph c.args.a) (omega arith))) c.requires.graph

pub returns-in_err-push-clause-graph : goal.returns-in_err-push-clause-graph
returns-in_err-push-clause-graph c =
    let old = c.args.edges.now.items in
    let inside : c.args.a < length old = omega arith in
    let row : row_of old c.args.a ≡ c.index_mut.result.now.items = row_at old c.args.a c.index_mut.result.now inside c.index_mut.ensures.value in
    graph_set old c.args.a c.push.new.self inside (subst (λ (r : List ℕ). All (λ x. x < length old) r) (row ∙ sym c.in_err-push.ensures.items) (c.requires.graph c.args.a)) c.requires.graph
