use Rattle.std.proofs.Common.{true, [], ◌∷◌, ◌++◌, length, refl, sym, ap, ◌∙◌}
use Rattle.gl_graph.specs.Search.{fresh_frame}
use Rattle.gl_graph.proofs.States.{turn_to_new, turn_to_plain, turn_to_circle, turn_to_open, same_turn}
use Rattle.gl_graph.proofs.search.Search.step.Goals as goal

pub returns-in_ok-enter-in-New : goal.returns-in_ok-enter-in-New
returns-in_ok-enter-in-New g c =
    let e = c.in_ok-enter-in-New.ensures in
    same_turn (g.G.Graph.left c.args.graph.now) (g.G.Graph.weight c.args.graph.now) (g.G.Graph.size c.args.graph.now) c.args.self.now.marks.items (c.args.self.now.frames.items ++ c.args.frame ∷ []) _ _ _ _ _ _ _ _ e.marks e.open e.starts (e.frames ∙ ap (λ t. t ++ fresh_frame c.args.node (length c.args.self.now.open.items) ∷ []) c.in_ok-push-in-New.ensures.items)
    (turn_to_new (g.G.Graph.left c.args.graph.now) (g.G.Graph.weight c.args.graph.now) (g.G.Graph.size c.args.graph.now) c.args.self.now.marks.items c.args.self.now.open.items c.args.self.now.starts.items c.args.self.now.frames.items c.args.frame c.requires.state c.args.node c.args.place c.requires.taken (sym c.mark.ensures ∙ c.in-New.is) c.requires.inside)

pub returns-in_ok-keep-in-Open : goal.returns-in_ok-keep-in-Open
returns-in_ok-keep-in-Open g c =
    same_turn (g.G.Graph.left c.args.graph.now) (g.G.Graph.weight c.args.graph.now) (g.G.Graph.size c.args.graph.now) c.args.self.now.marks.items (c.args.self.now.frames.items ++ c.args.frame ∷ []) c.args.self.now.marks.items _ c.args.self.now.open.items _ c.cut.new.starts.items _ (c.args.self.now.frames.items ++ (record { node = c.args.frame.node; at = c.args.frame.at; place = c.args.place; high = c.args.frame.high; looped = true }) ∷ []) _
    (ap (λ v. v.items) c.in_ok-keep-in-Open.ensures.marks) (ap (λ v. v.items) c.in_ok-keep-in-Open.ensures.open) (ap (λ v. v.items) c.in_ok-keep-in-Open.ensures.starts) c.in_ok-keep-in-Open.ensures.frames
    (turn_to_open (g.G.Graph.left c.args.graph.now) (g.G.Graph.weight c.args.graph.now) (g.G.Graph.size c.args.graph.now) c.args.self.now.marks.items c.args.self.now.open.items c.args.self.now.starts.items c.args.self.now.frames.items c.args.frame c.requires.state c.args.node c.args.place (record { node = c.args.frame.node; at = c.args.frame.at; place = c.args.place; high = c.args.frame.high; looped = true }) c.requires.taken refl refl refl c.in-Open.at c.cut.new.starts.items (sym c.mark.ensures ∙ c.in-Open.is) c.cut.ensures refl refl)

pub returns-in_ok-keep-in-Plain : goal.returns-in_ok-keep-in-Plain
returns-in_ok-keep-in-Plain g c =
    same_turn (g.G.Graph.left c.args.graph.now) (g.G.Graph.weight c.args.graph.now) (g.G.Graph.size c.args.graph.now) c.args.self.now.marks.items (c.args.self.now.frames.items ++ c.args.frame ∷ []) c.args.self.now.marks.items _ c.args.self.now.open.items _ c.args.self.now.starts.items _ (c.args.self.now.frames.items ++ (record { node = c.args.frame.node; at = c.args.frame.at; place = c.args.place; high = c.max.result; looped = c.args.frame.looped }) ∷ []) _
    (ap (λ v. v.items) c.in_ok-keep-in-Plain.ensures.marks) (ap (λ v. v.items) c.in_ok-keep-in-Plain.ensures.open) (ap (λ v. v.items) c.in_ok-keep-in-Plain.ensures.starts) c.in_ok-keep-in-Plain.ensures.frames
    (turn_to_plain (g.G.Graph.left c.args.graph.now) (g.G.Graph.weight c.args.graph.now) (g.G.Graph.size c.args.graph.now) c.args.self.now.marks.items c.args.self.now.open.items c.args.self.now.starts.items c.args.self.now.frames.items c.args.frame c.requires.state c.args.node c.args.place (record { node = c.args.frame.node; at = c.args.frame.at; place = c.args.place; high = c.max.result; looped = c.args.frame.looped }) c.requires.taken refl refl refl c.in-Plain.high (sym c.mark.ensures ∙ c.in-Plain.is) c.max.ensures refl)

pub returns-in_ok-keep-in-Circle : goal.returns-in_ok-keep-in-Circle
returns-in_ok-keep-in-Circle g c =
    same_turn (g.G.Graph.left c.args.graph.now) (g.G.Graph.weight c.args.graph.now) (g.G.Graph.size c.args.graph.now) c.args.self.now.marks.items (c.args.self.now.frames.items ++ c.args.frame ∷ []) c.args.self.now.marks.items _ c.args.self.now.open.items _ c.args.self.now.starts.items _ (c.args.self.now.frames.items ++ (record { node = c.args.frame.node; at = c.args.frame.at; place = c.args.place; high = c.args.frame.high; looped = c.args.frame.looped }) ∷ []) _
    (ap (λ v. v.items) c.in_ok-keep-in-Circle.ensures.marks) (ap (λ v. v.items) c.in_ok-keep-in-Circle.ensures.open) (ap (λ v. v.items) c.in_ok-keep-in-Circle.ensures.starts) c.in_ok-keep-in-Circle.ensures.frames
    (turn_to_circle (g.G.Graph.left c.args.graph.now) (g.G.Graph.weight c.args.graph.now) (g.G.Graph.size c.args.graph.now) c.args.self.now.marks.items c.args.self.now.open.items c.args.self.now.starts.items c.args.self.now.frames.items c.args.frame c.requires.state c.args.node c.args.place (record { node = c.args.frame.node; at = c.args.frame.at; place = c.args.place; high = c.args.frame.high; looped = c.args.frame.looped }) c.requires.taken refl refl refl (sym c.mark.ensures ∙ c.in-Circle.is) refl refl)
