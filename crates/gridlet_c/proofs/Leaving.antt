-- What a call leaves, by the clauses of `run`.
use Rattle.std.specs.List.{concat}
use Rattle.std.specs.Io.KnownBytes.{Appends}
use Rattle.std.proofs.Common.{◌≡◌, ◌<◌, ◌≤◌, ℕ, false, IsTrue, List, [], length, take, Option, Some, IfSome, refl, ap, sym, subst, arith, append-nil}
use Rattle.gl_language.specs.Texts.Text.{Bytes}
use Rattle.gl_protocol.specs.Scripts.Output.{is_within_limit, items_of}
use Rattle.gl_protocol.specs.Framing.Framing.{Item}
use Rattle.gl_protocol.specs.Run.Out.{IsPrefix, WroteAll, WroteAllTelling, WroteSome, WroteCut, Exceeds}
use Rattle.gl_run.specs.Status.{IfDone}
use Rattle.gl_run.proofs.Fitting.{exceeding}
use Rattle.gl_run.specs.declared.top.Status.{Status}
use Rattle.gl_run.specs.declared.top.Status.TheVariants.{Done, Usage, NoMemory, ReadFault, WriteFault, InputLimit}
use Rattle.gridlet_c.specs.Statuses.{Leaves}

module _ (input : Option Bytes) (script : Bytes) (old new : Option Bytes) (room : ℕ → Type 0) (is : input ≡ Some script) where
  of_script : (P : Bytes → Type 0) → IfSome input P → P script
  of_script P h = subst (λ (o : Option Bytes). IfSome o P) is h

  pub leaves : (status : Status)
      → IfDone status (λ refused. IfSome input (λ t. IsTrue (is_within_limit t) × WroteAllTelling old new (items_of t) refused))
      → (status ≡ Usage → ⊥) → (status ≡ ReadFault → ⊥)
      → (status ≡ WriteFault → IfSome input (λ t. WroteCut old new (items_of t)))
      → (status ≡ WriteFault → (n : ℕ) → room n → IfSome input (λ t. Exceeds n (items_of t)))
      → (status ≡ NoMemory → IfSome input (λ t. WroteSome old new (items_of t)))
      → (status ≡ InputLimit → IfSome input (λ t. (is_within_limit t ≡ false) × WroteAll old new (items_of t)))
      → Leaves status script old new room
  leaves (Done refused) done usage read write told memory limit = of_script (λ t. IsTrue (is_within_limit t) × WroteAllTelling old new (items_of t) refused) done
  leaves Usage done usage read write told memory limit = usage refl
  leaves NoMemory done usage read write told memory limit = of_script (λ t. WroteSome old new (items_of t)) (memory refl)
  leaves ReadFault done usage read write told memory limit = read refl
  leaves WriteFault done usage read write told memory limit = (
    of_script (λ t. WroteCut old new (items_of t)) (write refl),
    λ n h. of_script (λ t. Exceeds n (items_of t)) (told refl n h),
  )
  leaves InputLimit done usage read write told memory limit = of_script (λ t. (is_within_limit t ≡ false) × WroteAll old new (items_of t)) (limit refl)

-- ---- what was written, and only a front of it

written : {xs ys : List ℕ} → Appends (Some []) (Some ys) xs → ys ≡ xs
written h = h

front_of : (n : ℕ) {xs ys : List ℕ} → Appends (Some []) (Some ys) xs → Appends (Some []) (Some (take n ys)) (take n xs)
front_of n h = ap (take n) h

module _ (script : Bytes) (taken : List ℕ) (n : ℕ) (short : n < length taken) where
  -- the replies to these first items were written, and now a proper front of them
  cut : (l : List Item) → IsPrefix l (items_of script) → WroteAll (Some []) (Some taken) l → Leaves WriteFault script (Some []) (Some (take n taken)) (λ m. m ≤ n)
  cut l part h =
      let size : n < length (concat h.replies) = omega (arith, ap length (written h.written)) in (
        (record { items = l; are_first = part; replies = h.replies; are_replies = h.are_replies }, n, size, front_of n h.written),
        λ m le. exceeding m l (items_of script) h.replies part h.are_replies (λ fits. absurd (omega (arith, size, le, fits))),
      )

  whole : IsPrefix (items_of script) (items_of script)
  whole = ([], sym (append-nil (items_of script)))

  pub cut_leaves : (status : Status) → (status ≡ WriteFault → ⊥) → Leaves status script (Some []) (Some taken) (λ m. ⊥) → Leaves WriteFault script (Some []) (Some (take n taken)) (λ m. m ≤ n)
  cut_leaves (Done refused) other h = cut (items_of script) whole h.1.0
  cut_leaves Usage other h = absurd h
  cut_leaves NoMemory other h = cut h.0.items h.0.are_first (record { replies = h.0.replies; are_replies = h.0.are_replies; written = h.1 })
  cut_leaves ReadFault other h = absurd h
  cut_leaves WriteFault other h = absurd (other refl)
  cut_leaves InputLimit other h = cut (items_of script) whole h.1

-- where all of it has room, any room does
pub wide_leaves : (status : Status) (script : Bytes) (old new : Option Bytes) (room room' : ℕ → Type 0) → (status ≡ WriteFault → ⊥) → Leaves status script old new room → Leaves status script old new room'
wide_leaves (Done refused) script old new room room' other h = h
wide_leaves Usage script old new room room' other h = h
wide_leaves NoMemory script old new room room' other h = h
wide_leaves ReadFault script old new room room' other h = h
wide_leaves WriteFault script old new room room' other h = absurd (other refl)
wide_leaves InputLimit script old new room room' other h = h
