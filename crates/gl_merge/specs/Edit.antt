-- The plain edit that an edit of the code stands for.
use Rattle.std.specs.Prelude.{Option, option_map, option_copied, IfSome}
use Rattle.std.specs.Borrow.{Bor}
use Rattle.gl_calculus.specs.Grid.Grid.{Addr}
use Rattle.gl_language.specs.Reading.Content.{IsProperContent}
use Rattle.gl_calculus.specs.Edits.Replicas as R
use Rattle.gl_cells.specs.Content.{content_tree}
use Rattle.gl_cells.specs.declared.content.Content.{Content}

-- an edit, with the content as the code holds it
pub record EditValue : Type 0 where
  pub stamp : R.Stamp
  pub place : Addr
  pub content : Option Content

-- the plain edit of these parts
abbrev pub made : R.Stamp → Addr → Option Content → R.Edit
made s a c = record { stamp = s; place = a; content = option_map content_tree c }

abbrev pub edit_tree : EditValue → R.Edit
edit_tree e = made e.stamp e.place e.content

-- the plain edit that is told, if there is one
abbrev pub told : Option (Bor EditValue) → Option R.Edit
told o = option_map edit_tree (option_copied o)

-- a proper content or none
abbrev pub IsProperOption : Option Content → Type 0
IsProperOption o = IfSome o (λ c. IsProperContent (content_tree c))
