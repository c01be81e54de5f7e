-- What an edit is to a register.
use Rattle.std.specs.Prelude.{◌≡◌, Option, option_map}
use Rattle.gl_cells.specs.Content.{content_tree}
use Rattle.gl_cells.specs.declared.content.Content.{Content}
use Rattle.gl_calculus.specs.Edits.Replicas as R
use Rattle.gl_merge.specs.declared.judging.Judged.{Judged}
use Rattle.gl_merge.specs.declared.judging.Judged.TheVariants.{Wins, Loses, Same, Conflict}

abbrev pub judged_tree : Judged → R.Judged
judged_tree Wins = R.Judged.Wins
judged_tree Loses = R.Judged.Loses
judged_tree Same = R.Judged.Same
judged_tree Conflict = R.Judged.Conflict

-- the same content, or none for none
abbrev pub AreAlike : Option Content → Option Content → Type 0
AreAlike c d = option_map content_tree c ≡ option_map content_tree d

-- this is what the edit is to the register of its address
abbrev pub IsFor : Option R.Edit → R.Edit → Judged → Type 0
IsFor o e j = R.IsJudged o e (judged_tree j)
