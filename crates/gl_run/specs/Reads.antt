-- A session that reads on: the bytes that it has read so far, and what it has written for them.
use Rattle.std.specs.Prelude.{◌≡◌, ◌≤◌, ℕ, Bool, true, false, Some, is_some, [], length}
use Rattle.gl_calculus.specs.Grid.Limits.{max_script}
use Rattle.gl_language.specs.Texts.Text.{Bytes}
use Rattle.gl_script.specs.Framer.{stream_at}
use Rattle.gl_protocol.specs.Framing.Framing.{ended, has_quit}
use Rattle.gl_protocol.specs.Framing.Stream.{Stream, nothing, in_line, skipped, in_payload, gained, after}
use Rattle.gl_protocol.specs.Framing.Header.{payload_len}
use Rattle.gl_protocol.specs.Run.Out.{WroteAll}
use Rattle.gl_run.specs.State.{state_of, start}
use Rattle.gl_run.specs.Emitted.{Emitted}
use Rattle.gl_run.specs.declared.session.Session.{Session}

-- some reply was a refusal
abbrev pub has_refused : Session → Bool
has_refused s = s.refused

-- a payload that is begun has its header
abbrev pub is_headed : Stream → Bool
is_headed nothing = true
is_headed (in_line bs) = true
is_headed skipped = true
is_headed (in_payload heading part due) = is_some (payload_len heading)

abbrev pub can_read : Session → Bool
can_read s = is_headed (stream_at s.framer)

-- It has read these bytes, within the limit and with no `quit`, in n steps. Written are exactly the replies to the items that ended in them, and what it holds is what those items led to.
pub record ReadsOn (s : Session) (n : ℕ) (read out : Bytes) : Type 0 where
  pub limit : length read ≤ max_script
  pub no_quit : has_quit (gained nothing read) ≡ false
  pub wrote : WroteAll (Some []) (Some out) (ended read)
  pub begun : stream_at s.framer ≡ after nothing read
  pub answered : Emitted (start 0) (state_of s n) false s.refused (Some []) (Some out) (λ _. ⊥) (λ _. ⊥) (gained nothing read)
