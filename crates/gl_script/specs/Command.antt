-- What a line asks, or why it is refused, in the words of the definitions.
use Rattle.std.specs.Prelude.{◌≡◌, ℕ, ◌∷◌, Bool, Option, Some, None, MatchOption, option_map, IfSome, Result, Ok, Err, IsTrue, IsFalse, codes, ⊤}
use Rattle.gl_calculus.specs.Grid.Grid.{Addr}
use Rattle.gl_language.specs.Texts.Text.{Bytes}
use Rattle.gl_language.specs.Reading.Content.{IsProperContent}
use Rattle.gl_protocol.specs.Framing.Framing.{Line}
use Rattle.gl_protocol.specs.Framing.Header.{payload_len}
use Rattle.gl_protocol.specs.Scripts.Output.{is_line}
use Rattle.gl_protocol.specs.Scripts.Commands as C
use Rattle.gl_protocol.specs.Scripts.Commands.{Is, Not, ReadsLine, words_of, SetWords, EditWords, ImportWords, IsAddress, NoAddress}
use Rattle.gl_lex.specs.declared.fault.LexFault.TheVariants as lex
use Rattle.gl_parse.specs.Outcome.{IsRefused}
use Rattle.gl_parse.specs.declared.fault.ParseFault.{ParseFault}
use Rattle.gl_parse.specs.declared.fault.ParseFault.TheVariants as parse
use Rattle.gl_calculus.specs.Edits.Replicas.{Edit, stamp, is_stamp}
use Rattle.gl_cells.specs.declared.content.Content.{Content}
use Rattle.gl_cells.specs.Content.{content_tree}
use Rattle.gl_script.specs.declared.requests.Request.{Request}
use Rattle.gl_script.specs.declared.requests.Request.TheVariants as r
use Rattle.gl_script.specs.declared.requests.CommandFault.{CommandFault}
use Rattle.gl_script.specs.declared.requests.CommandFault.TheVariants as f

-- the word of a formula's fault; a want of memory is none
abbrev pub parse_word : ParseFault → Option Bytes
parse_word parse.Long = Some (codes "long")
parse_word (parse.Lex (lex.Token at_byte)) = Some (codes "token")
parse_word (parse.Lex (lex.Number at_byte)) = Some (codes "number")
parse_word (parse.Lex (lex.Text at_byte)) = Some (codes "text")
parse_word (parse.Lex lex.NoMemory) = None
parse_word parse.Deep = Some (codes "deep")
parse_word parse.Syntax = Some (codes "syntax")
parse_word parse.Range = Some (codes "range")
parse_word parse.Name = Some (codes "name")
parse_word parse.Arity = Some (codes "arity")
parse_word parse.NoMemory = None

-- the word of a refusal
abbrev pub word_of : CommandFault → Option Bytes
word_of f.Utf8 = Some (codes "utf8")
word_of f.Word = Some (codes "command")
word_of f.Payload = Some (codes "payload")
word_of f.Address = Some (codes "address")
word_of f.Range = Some (codes "range")
word_of f.Stamp = Some (codes "stamp")
word_of (f.Parse e) = parse_word e
word_of f.Text = Some (codes "text")
word_of f.Field = Some (codes "field")
word_of f.NoMemory = None

-- the line that gives a script version Two, where it is the first
abbrev pub is_version_line : Bytes → Bool
is_version_line l = is_line (codes "gridlet 2") (Line l)

-- the header of an import, which so many bytes follow: its place is this address, or none
pub record IsHeader (l : Bytes) (place_at : Option Addr) (n : ℕ) : Type 0 where
  pub place : Bytes
  pub count : Bytes
  pub words : words_of l ≡ Some (ImportWords place count)
  pub is_at : MatchOption place_at (NoAddress place) (IsAddress place)
  pub payload : payload_len l ≡ Some n

-- the edit of these parts
abbrev pub edit_of : ℕ → ℕ → Addr → Option Content → Edit
edit_of t n a c = record { stamp = stamp t n; place = a; content = option_map content_tree c }

-- The line asks this. The version line asks something only where it is the first of a script, and is refused elsewhere.
abbrev pub Asks : Bytes → Request → Type 0
Asks l r.Nothing = ReadsLine l (Is C.Request.Nothing)
Asks l (r.Set a c) = ReadsLine l (Is (C.Request.Set a (content_tree c))) × IsProperContent (content_tree c)
Asks l (r.Clear x) = ReadsLine l (Is (C.Request.Clear x))
Asks l (r.Show a) = ReadsLine l (Is (C.Request.Show a))
Asks l (r.View x) = ReadsLine l (Is (C.Request.View x))
Asks l (r.Get a) = ReadsLine l (Is (C.Request.Get a))
Asks l r.List = ReadsLine l (Is C.Request.ListAll)
Asks l r.Calc = ReadsLine l (Is C.Request.Calculate)
Asks l r.Oracle = ReadsLine l (Is C.Request.ShowOracle)
Asks l (r.Why a) = ReadsLine l (Is (C.Request.Why a))
Asks l (r.Explain a) = ReadsLine l (Is (C.Request.Explain a))
Asks l (r.Import a n) = IsHeader l a n
Asks l r.Version = IsTrue (is_version_line l) × ReadsLine l (Not (codes "command"))
Asks l r.Quit = ReadsLine l (Is C.Request.Quit)
Asks l (r.Site n) = ReadsLine l (Is (C.Request.Site n))
Asks l (r.Edit t n a c) = ReadsLine l (Is (C.Request.Merge (edit_of t n a c))) × IsTrue (is_stamp t n) × IfSome c (λ d. IsProperContent (content_tree d))
Asks l r.Export = ReadsLine l (Is C.Request.Export)
Asks l r.Undo = ReadsLine l (Is C.Request.Undo)
Asks l r.Redo = ReadsLine l (Is C.Request.Redo)
Asks l r.Flow = ReadsLine l (Is C.Request.Flow)

-- the line gives an address this text: it is that of a `set`, or of an `edit`
pub data GivesText (l t : Bytes) : Type 0 where
  sets : (place : Bytes) → words_of l ≡ Some (SetWords place t) → GivesText l t
  edits : (time site place : Bytes) → words_of l ≡ Some (EditWords time site place (Some t)) → GivesText l t

-- what tells apart the faults that have one word
abbrev pub IsCause : Bytes → CommandFault → Type 0
IsCause l f.Word = IsFalse (is_version_line l)
IsCause l f.Range = (t : Bytes) → GivesText l t → ⊥
IsCause l (f.Parse e) = (t : Bytes) × GivesText l (61 ∷ t) × IsRefused t e
IsCause l f.Text = (t : Bytes) × GivesText l (34 ∷ t)
IsCause l e = ⊤

-- the line is refused by the word of this fault, and for this cause
abbrev pub Refuses : Bytes → CommandFault → Type 0
Refuses l e = MatchOption (word_of e) ⊥ (λ w. ReadsLine l (Not w)) × IsCause l e

-- the answer to a line is what it asks or why it is refused; a want of memory says nothing
abbrev pub Answers : Bytes → Result Request CommandFault → Type 0
Answers l (Ok x) = Asks l x
Answers l (Err f.NoMemory) = ⊤
Answers l (Err e) = Refuses l e
