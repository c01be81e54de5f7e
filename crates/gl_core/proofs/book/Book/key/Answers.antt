use Rattle.std.proofs.Common.{List, option_map, slice_get, ap, sym, ◌∙◌}
use Rattle.gl_calculus.specs.Evaluation.Key as K
use Rattle.gl_demand.specs.View.{key_tree}
use Rattle.gl_intern.proofs.Keys.{second_at}
use Rattle.gl_core.proofs.book.Book.key.Goals as goal

pub returns : goal.returns
returns c =
    let es = c.self.inside.keys.entries in
    ap (λ (xs : List K.Key). slice_get xs c.args.n) (sym c.self.view_is)
    ∙ second_at key_tree es c.args.n
    ∙ ap (option_map (λ e. key_tree e.1)) (sym c.get_index.ensures.entry)
    ∙ ap (λ o. option_map (λ e. key_tree e.1) (option_map (λ p. (p.0.now, p.1.now)) o)) c.unwrap.ensures
