-- Framing by bytes is framing of the whole text.
use Rattle.std.specs.Prelude.{◌≡◌, List, [], ◌∷◌, ◌++◌, if◌then◌else◌}
use Rattle.std.specs.Option.{option_to_list}
use Rattle.gl_language.specs.Texts.Text.{Bytes}
use Rattle.gl_protocol.specs.Framing.Framing.{Item, items, ended, is_quit}
use Rattle.gl_protocol.specs.Framing.Stream.{nothing, gained, after, closing}

-- up to and with the first `quit`
abbrev pub up_to_quit : List Item → List Item
up_to_quit [] = []
up_to_quit (i ∷ is) = i ∷ (if is_quit i then [] else up_to_quit is)

-- Up to and with the first `quit`, the items that the bytes end, one byte at a time, are the items that end in the text;
-- with the one that the end of input ends they are the items of the text.
pub record IsFramedByBytes (text : Bytes) : Type 0 where
  pub prefix : ended text ≡ up_to_quit (gained nothing text)
  pub whole : items text ≡ up_to_quit (gained nothing text ++ option_to_list (closing (after nothing text)))
