-- Scripts cut into items and words, by computation.
use Rattle.std.proofs.Common.{◌≡◌, [], ◌∷◌, length, negsuc, Some, None, refl}
use Rattle.std.specs.Prelude.{codes}
use Rattle.std.specs.Str.{chars, is_utf8}
use Rattle.std.specs.Fmt.{digits}
use lib.Utf8.{encode}
use Rattle.gl_protocol.specs.Framing.Header.{payload_len, is_quit_line}
use Rattle.gl_protocol.specs.Framing.Framing.{items, ended, kind_of, Line, Import, Truncated}
use Rattle.gl_calculus.specs.Formulas.Formula.{Version}
use Rattle.gl_calculus.specs.Grid.Grid.{addr}
use Rattle.gl_examples.proofs.Worked.Sheets.{number}
use Rattle.gl_protocol.specs.Scripts.Commands.{list_text, words_of, SetWords}
use Rattle.gl_language.specs.Texts.Plain.{plain_scalar}
use Rattle.gl_protocol.specs.Scripts.Output.{generated_payload}
use Rattle.gl_calculus.specs.Values.Value.{Text, Int}

two_lines : items (codes "set A1 2\r\nshow A1") ≡ Line (codes "set A1 2") ∷ Line (codes "show A1") ∷ []
unfolding items ended kind_of payload_len is_quit_line is_utf8 chars encode
two_lines = refl

one_ended : ended (codes "set A1 2\r\nshow A1") ≡ Line (codes "set A1 2") ∷ []
unfolding items ended kind_of payload_len is_quit_line is_utf8 chars encode
one_ended = refl

import_lines : items (codes "import A1 14\n-7,\"a\nb\"\n,=A9\nlist\n") ≡ Import (codes "import A1 14") (codes "-7,\"a\nb\"\n,=A9\n") ∷ Line (codes "list") ∷ []
unfolding items ended kind_of payload_len is_quit_line is_utf8 chars encode
import_lines = refl

import_lines_short : items (codes "import A1 14\n-7,\"a\nb\"\n,=A9") ≡ Truncated ∷ []
unfolding items ended kind_of payload_len is_quit_line is_utf8 chars encode
import_lines_short = refl

after_quit : items (codes "quit\nfoo") ≡ Line (codes "quit") ∷ []
unfolding items ended kind_of payload_len is_quit_line is_utf8 chars encode
after_quit = refl

set_with_spaces : words_of (codes "set A1 = 1 + 2") ≡ Some (SetWords (codes "A1") (codes "= 1 + 2"))
set_with_spaces = refl

no_argument : words_of (codes "set A1") ≡ None
no_argument = refl

empty_piece : words_of (codes "show  A1") ≡ None
empty_piece = refl

payload_of_3 : length (generated_payload 3) ≡ 12
unfolding digits
payload_of_3 = refl

number_field : plain_scalar (codes "-7") ≡ Int (negsuc 6)
number_field = refl

text_field : plain_scalar (codes "=A9") ≡ Text (codes "=A9")
text_field = refl

-- the list of a script of version Two, fed to an empty sheet, has version Two again
condition_array_list : list_text Version.Two ((addr 1 1, number 3) ∷ []) ≡ codes "list 1\ngridlet 2\nset A1 3\n"
unfolding digits
condition_array_list = refl
