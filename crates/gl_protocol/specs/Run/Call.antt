-- What the words of a call ask for, and the text that a run answers.
use Rattle.std.specs.Prelude.{Bool, List, map, Option, Some, is_some, string_bytes}
use Rattle.std.specs.Option.{option_and_then, option_map_or}
use Rattle.std.specs.declared.string.String.{String}
use Rattle.std.specs.declared.alloc.Global.{Global}
use Rattle.gl_language.specs.Texts.Text.{Bytes}
use Rattle.gl_protocol.specs.Scripts.Output.{generated}
use Rattle.gl_protocol.specs.Run.Words.{Call, call_of}

-- the call of these words, if they have a form
abbrev pub words_call : List (String Global) → Option Call
words_call words = call_of (map string_bytes words)

-- whether a generated script takes the place of the input
abbrev pub is_generated : List (String Global) → Bool
is_generated words = is_some (option_and_then (λ c. c.size) (words_call words))

-- The text that a run answers, where it is told: the generated script, or else what the source has
-- left. Words with no form have none.
abbrev pub input_of : List (String Global) → Option Bytes → Option Bytes
input_of words left =
    option_and_then (λ c. option_map_or (λ n. Some (generated n)) c.size left) (words_call words)
