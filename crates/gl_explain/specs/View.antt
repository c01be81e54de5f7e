-- The explanations that those of the code stand for.
use Rattle.gl_calculus.specs.Explanation.Certificate as E
use Rattle.gl_demand.specs.View.{budget_tree}
use Rattle.gl_cert.specs.View.{cert_tree}
use Rattle.gl_explain.specs.declared.explained.Explained.{Explained}
use Rattle.gl_explain.specs.declared.explained.Explained.TheVariants.{Cert, Work, Aborts}

abbrev pub explained_tree : Explained → E.Answer
explained_tree (Cert c) = E.Answer.Cert (cert_tree c)
explained_tree Work = E.Answer.Work
explained_tree (Aborts b) = E.Answer.Aborts (budget_tree b)
