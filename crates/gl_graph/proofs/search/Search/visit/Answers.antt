use Rattle.std.proofs.Common.{◌≡◌, true, false, length, sym, ap, subst, ◌∙◌, arith}
use Rattle.std.proofs.lemmas.List.{nil_from_length}
use Rattle.gl_graph.specs.Search.{is_new, mark_of}
use Rattle.gl_graph.proofs.States.{same_turn, first_turn, last_known, opened_known, new_is}
use Rattle.gl_graph.proofs.search.Search.visit.Goals as goal

pub loop-frame-init : goal.loop-frame-init
loop-frame-init g c =
    let e = c.in_ok-enter.ensures in
    let new = new_is (mark_of c.args.self.now.marks.items c.args.node) (sym (c.is_new.ensures ∙ ap is_new c.mark.ensures) ∙ c.if-is_new.true) in
    record {
      state = (same_turn (g.G.Graph.left c.args.graph.now) (g.G.Graph.weight c.args.graph.now) (g.G.Graph.size c.args.graph.now) _ _ _ _ _ _ _ _ _ _ e.marks e.open e.starts e.frames (first_turn (g.G.Graph.left c.args.graph.now) (g.G.Graph.weight c.args.graph.now) (g.G.Graph.size c.args.graph.now) c.args.self.now.marks.items c.args.self.now.open.items c.args.self.now.starts.items c.args.self.now.frames.items c.requires.knows.0 c.requires.knows.1 c.args.node new c.requires.inside)).state;
      known = λ d. opened_known c.args.self.now.marks.items c.args.node (length c.args.self.now.open.items) (omega (arith, c.requires.inside, c.requires.knows.0.sized)) (subst (λ t. is_new (mark_of t c.args.node) ≡ true) e.marks d);
    }

pub returns-in_default-clause-known : goal.returns-in_default-clause-known
returns-in_default-clause-known g c =
    let empty = nil_from_length c.loop-frame.self.frames.items (omega (arith, c.in_default.ensures.cases, c.loop-frame.self.frames.ok.0)) in
    last_known (g.G.Graph.left c.args.graph.now) (g.G.Graph.weight c.args.graph.now) (g.G.Graph.size c.args.graph.now) c.loop-frame.self.marks.items c.loop-frame.self.open.items c.loop-frame.self.starts.items c.loop-frame.self.frames.items c.loop-frame.invariant.state empty c.args.node c.loop-frame.invariant.known

pub returns-else-is_new-clause-known : goal.returns-else-is_new-clause-known
returns-else-is_new-clause-known g c =
    last_known (g.G.Graph.left c.args.graph.now) (g.G.Graph.weight c.args.graph.now) (g.G.Graph.size c.args.graph.now) c.args.self.now.marks.items c.args.self.now.open.items c.args.self.now.starts.items c.args.self.now.frames.items c.requires.knows.0 c.requires.knows.1 c.args.node
    (λ d. let u : false ≡ true = sym (sym (c.is_new.ensures ∙ ap is_new c.mark.ensures) ∙ c.if-is_new.false) ∙ d in cc u)
