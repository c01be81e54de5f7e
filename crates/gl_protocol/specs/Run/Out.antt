-- What a whole run writes. Of a sink `old` and `new` are the bytes that it has taken before and
-- after, and of a source `left` and `left'` those that it has left, where they tell them.
use Rattle.std.specs.Prelude.{◌≡◌, ◌⊎◌, ℕ, Bool, true, false, ◌<◌, ◌≤◌, List, ◌++◌}
use Rattle.std.specs.Prelude.{length, take, IfSome}
use Rattle.std.specs.declared.option.Option.{Option}
use Rattle.std.specs.List.{concat, list_any}
use Rattle.std.specs.Io.KnownBytes.{Appends, Consumes}
use Rattle.gl_language.specs.Texts.Text.{Bytes}
use Rattle.gl_protocol.specs.Framing.Framing.{Item, ended, has_quit}
use Rattle.gl_protocol.specs.Scripts.Output.{AreReplies, is_refusal, items_of}
use Rattle.gl_protocol.specs.Run.Records.{csv_records}

-- these are the first of those, or all
abbrev pub IsPrefix : List Item → List Item → Type 0
IsPrefix l is = (rest : List Item) × (is ≡ l ++ rest)

-- exactly the replies to these items were written
pub record WroteAll (old new : Option Bytes) (is : List Item) : Type 0 where
  pub replies : List Bytes
  pub are_replies : AreReplies csv_records is replies
  pub written : Appends old new (concat replies)

-- the same, and whether one of them is a refusal
abbrev pub WroteAllTelling : Option Bytes → Option Bytes → List Item → Bool → Type 0
WroteAllTelling old new is refused =
    (w : WroteAll old new is) × (refused ≡ list_any is_refusal w.replies)

-- some first items, with the replies to them
pub record Front (is : List Item) : Type 0 where
  pub items : List Item
  pub are_first : IsPrefix items is
  pub replies : List Bytes
  pub are_replies : AreReplies csv_records items replies

-- exactly the replies to some first items were written
abbrev pub WroteSome : Option Bytes → Option Bytes → List Item → Type 0
WroteSome old new is = (f : Front is) × Appends old new (concat f.replies)

-- a proper prefix of the bytes of the replies to some first items was written
abbrev pub WroteCut : Option Bytes → Option Bytes → List Item → Type 0
WroteCut old new is = (f : Front is) × (n : ℕ) × (n < length (concat f.replies))
    × Appends old new (take n (concat f.replies))

-- The replies to some first items have more than n bytes. So have those to all then, if there are
-- any.
abbrev pub Exceeds : ℕ → List Item → Type 0
Exceeds n is = (f : Front is) × (n < length (concat f.replies))

-- the most bytes that one read asks for
abbrev pub read_limit : ℕ
read_limit = 4096

-- What was read is some bytes, and behind them the last ones, at most n. Written were the replies
-- to the items that ended in the former, and those to some that come behind.
pub record WroteUpTo (n : ℕ) (left left' old new : Option Bytes) : Type 0 where
  pub read : Bytes
  pub last : Bytes
  pub behind : List Item
  pub consumed : Consumes left left' (read ++ last)
  pub few : length last ≤ n
  pub are_first : IfSome left (λ t. IsPrefix (ended read ++ behind) (items_of t))
  pub wrote : WroteAll old new (ended read ++ behind)

-- no `quit` line ended in the bytes read, and exactly the replies to the items that ended in them
-- were written
pub record BreaksOff (left left' old new : Option Bytes) : Type 0 where
  pub read : Bytes
  pub consumed : Consumes left left' read
  pub no_quit : has_quit (ended read) ≡ false
  pub wrote : WroteAll old new (ended read)

-- The input was read to its end; or a `quit` line ended in the last bytes that were read, at most
-- n, and none before.
pub record ReadsOut (n : ℕ) (left left' : Option Bytes) : Type 0 where
  pub read : Bytes
  pub last : Bytes
  pub consumed : Consumes left left' (read ++ last)
  pub few : length last ≤ n
  pub no_quit : has_quit (ended read) ≡ false
  pub ends : IfSome left (λ t. t ≡ read ++ last) ⊎ (has_quit (ended (read ++ last)) ≡ true)

-- no more bytes were read than this
abbrev pub ReadsNoMoreThan : ℕ → Option Bytes → Option Bytes → Type 0
ReadsNoMoreThan n left left' = (read : Bytes) × Consumes left left' read × (length read ≤ n)
