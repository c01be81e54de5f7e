use Rattle.std.proofs.Common.{subst, sym, ap, ◌∙◌, ◌∷◌, [], arith}
use Rattle.std.proofs.lemmas.Grind.{elements}
use Rattle.gl_flow.specs.Plans.{plan}
use Rattle.gl_flow.specs.Places.{StandsAt}
use Rattle.gl_flow.proofs.Stepping.{spill_taken, spill_none}
use Rattle.gl_flow.proofs.network.Network.spill_step.Goals as goal

pub returns-in-Some-clause-some : goal.returns-in-Some-clause-some
returns-in-Some-clause-some c =
    spill_taken (plan c.args.self.now) c.args.a c.args.offset c.in-Some.k (omega (arith, c.if-offset-gt0.false)) c.args.self.now.sound.in_order (subst (λ ps. StandsAt ps c.args.a c.in-Some.k) c.deref.ensures.value c.in-Some.ensures.found)
    ∙ ap (λ t. t ∷ []) (sym c.top.ensures.value)

pub returns-in-None-clause-none : goal.returns-in-None-clause-none
returns-in-None-clause-none c = spill_none (plan c.args.self.now) c.args.a c.args.offset (λ k s. c.in-None.ensures.none k (subst (λ ps. StandsAt ps c.args.a k) (sym c.deref.ensures.value) s))

pub top-requires : goal.top-requires
top-requires c = grind (arith, elements)
