use Rattle.std.proofs.Common.{Some, IsTrue, refl, ap, sym, subst, ◌∙◌}
use Rattle.gl_calculus.specs.Evaluation.Key as K
use Rattle.gl_calculus.specs.Evaluation.Sound.{is_sound_key}
use Rattle.gl_value.specs.Forms.{frame_tree-Top}
use Rattle.gl_core.proofs.Grown.{grows_not}
use Rattle.gl_core.proofs.Places.{if_ok}
use Rattle.gl_core.proofs.resuming.top_number.Goals as goal

pub returns-in-Some-clause-number : goal.returns-in-Some-clause-number
returns-in-Some-clause-number c = c.in-Some.ensures ∙ ap (λ e. Some (K.Cell e c.args.a)) frame_tree-Top

pub returns-in-Some-clause-grows : goal.returns-in-Some-clause-grows
returns-in-Some-clause-grows c = grows_not c.args.ledger.now.book

pub number-requires-clause-sound : goal.number-requires-clause-sound
number-requires-clause-sound c = subst (λ e. IsTrue (is_sound_key (K.Cell e c.args.a))) (sym frame_tree-Top) refl

pub returns-in-None-clause-number : goal.returns-in-None-clause-number
returns-in-None-clause-number c = if_ok c.number.result c.number.ensures.number (λ n e. e ∙ ap (λ t. Some (K.Cell t c.args.a)) frame_tree-Top)
