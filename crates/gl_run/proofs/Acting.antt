-- How an item that is answered leads from one state to the next.
use Rattle.std.proofs.Common.{◌≡◌, ◌∙◌, ℕ, Bool, true, false, Option, None, Some, IfSome, Result, Ok, Err, IfOk, sym, subst, codes}
use Rattle.gl_calculus.specs.Formulas.Formula as F
use Rattle.gl_language.specs.Texts.Text.{Bytes}
use Rattle.gl_protocol.specs.Framing.Framing.{Item}
use Rattle.gl_protocol.specs.Scripts.Commands.{error_line, ok_line}
use Rattle.gl_protocol.specs.Scripts.Script.{Script}
use Rattle.gl_protocol.specs.Scripts.Acts.{Acts}
use Rattle.gl_protocol.specs.Scripts.Output.{is_line}
use Rattle.gl_protocol.specs.Run.Records.{csv_records}
use Rattle.gl_protocol.specs.Run.Known.{Known}
use Rattle.gl_run.specs.State.{fresh, begun, state_by}
use Rattle.gl_run.specs.Act as A
use Rattle.gl_run.specs.Act.{Act}
use Rattle.gl_protocol.specs.Run.Spends.{Spends}

module _ (o : Option Item) (K : Known) (n : ℕ) where
  -- the first item is the version line
  pub acts_two : (b : Bool) → IfSome o (λ x. b ≡ is_line (codes "gridlet 2") x) → b ≡ true → IfSome o (λ x. Act (fresh K n) x (begun F.Version.Two K n) ok_line)
  acts_two b h e =
      let P : Option Item → Type 0 = λ o. IfSome o (λ x. b ≡ is_line (codes "gridlet 2") x) → IfSome o (λ x. Act (fresh K n) x (begun F.Version.Two K n) ok_line) in
      (elim o as P [ None ↦ λ h. tt | Some x ↦ λ h. A.Act.two (sym h ∙ e) ]) h

  module _ (K' : Known) (m : ℕ) (reply : Bytes) where
    -- it is another
    pub acts_one : (b : Bool) → IfSome o (λ x. b ≡ is_line (codes "gridlet 2") x) → b ≡ false
        → IfSome o (λ x. Acts csv_records F.Version.One K.script x K'.script reply) → IfSome o (λ x. Spends F.Version.One K x reply K' n m)
        → IfSome o (λ x. Act (fresh K n) x (begun F.Version.One K' m) reply)
    acts_one b h e a t =
        let P : Option Item → Type 0 = λ o. IfSome o (λ x. b ≡ is_line (codes "gridlet 2") x) → IfSome o (λ x. Acts csv_records F.Version.One K.script x K'.script reply)
        → IfSome o (λ x. Spends F.Version.One K x reply K' n m) → IfSome o (λ x. Act (fresh K n) x (begun F.Version.One K' m) reply) in
        (elim o as P [ None ↦ λ h a t. tt | Some x ↦ λ h a t. A.Act.one (sym h ∙ e) (a, t) ]) h a t

    -- the version is known
    pub acts_later : (version : F.Version) → IfSome o (λ x. Acts csv_records version K.script x K'.script reply) → IfSome o (λ x. Spends version K x reply K' n m)
        → IfSome o (λ x. Act (begun version K n) x (begun version K' m) reply)
    acts_later version a t =
        let P : Option Item → Type 0 = λ o. IfSome o (λ x. Acts csv_records version K.script x K'.script reply) → IfSome o (λ x. Spends version K x reply K' n m)
        → IfSome o (λ x. Act (begun version K n) x (begun version K' m) reply) in
        (elim o as P [ None ↦ λ a t. tt | Some x ↦ λ a t. A.Act.later (a, t) ]) a t

-- ---- the same of a reply, where there is one

module _ {V E : Type 0} (items : V → Bytes) (s : Script) (r : Result V E) where
  pub long_reply : (version : F.Version) → IfOk r (λ v. items v ≡ error_line (codes "line")) → IfOk r (λ v. Acts csv_records version s Item.Long s (items v))
  long_reply version h =
      let P : Result V E → Type 0 = λ r. IfOk r (λ v. items v ≡ error_line (codes "line")) → IfOk r (λ v. Acts csv_records version s Item.Long s (items v)) in
      (elim r as P [ Ok v ↦ λ e. rw e Acts.long | Err x ↦ λ e. tt ]) h

  pub truncated_reply : (version : F.Version) → IfOk r (λ v. items v ≡ error_line (codes "truncated")) → IfOk r (λ v. Acts csv_records version s Item.Truncated s (items v))
  truncated_reply version h =
      let P : Result V E → Type 0 = λ r. IfOk r (λ v. items v ≡ error_line (codes "truncated")) → IfOk r (λ v. Acts csv_records version s Item.Truncated s (items v)) in
      (elim r as P [ Ok v ↦ λ e. rw e Acts.truncated | Err x ↦ λ e. tt ]) h

module _ {V E : Type 0} (items : V → Bytes) (K K' : Known) (n m : ℕ) (r : Result V E) (o : Option Item) where
  pub one_reply : (b : Bool) → IfSome o (λ x. b ≡ is_line (codes "gridlet 2") x) → b ≡ false → (version : Option F.Version) → version ≡ Some F.Version.One
      → IfOk r (λ v. IfSome o (λ x. Acts csv_records F.Version.One K.script x K'.script (items v))) → IfOk r (λ v. IfSome o (λ x. Spends F.Version.One K x (items v) K' n m))
      → IfOk r (λ v. IfSome o (λ x. Act (fresh K n) x (state_by version K' m) (items v)))
  one_reply b h e version is a t =
      let P : Result V E → Type 0 = λ r. IfOk r (λ v. IfSome o (λ x. Acts csv_records F.Version.One K.script x K'.script (items v))) → IfOk r (λ v. IfSome o (λ x. Spends F.Version.One K x (items v) K' n m))
      → IfOk r (λ v. IfSome o (λ x. Act (fresh K n) x (state_by version K' m) (items v))) in
      (elim r as P [
        | Ok v ↦ λ a t. subst (λ w. IfSome o (λ x. Act (fresh K n) x (state_by w K' m) (items v))) (sym is) (acts_one o K n K' m (items v) b h e a t)
        | Err x ↦ λ a t. tt
      ]) a t

  pub later_reply : (version : F.Version) (old new : Option F.Version) → old ≡ Some version → new ≡ Some version
      → IfOk r (λ v. IfSome o (λ x. Acts csv_records version K.script x K'.script (items v))) → IfOk r (λ v. IfSome o (λ x. Spends version K x (items v) K' n m))
      → IfOk r (λ v. IfSome o (λ x. Act (state_by old K n) x (state_by new K' m) (items v)))
  later_reply version old new is was a t =
      let P : Result V E → Type 0 = λ r. IfOk r (λ v. IfSome o (λ x. Acts csv_records version K.script x K'.script (items v))) → IfOk r (λ v. IfSome o (λ x. Spends version K x (items v) K' n m))
      → IfOk r (λ v. IfSome o (λ x. Act (state_by old K n) x (state_by new K' m) (items v))) in
      (elim r as P [
        | Ok v ↦ λ a t.
            let Q : Option F.Version → Type 0 = λ w. IfSome o (λ x. Act (state_by w K n) x (state_by new K' m) (items v)) in
            let R : Option F.Version → Type 0 = λ w. IfSome o (λ x. Act (begun version K n) x (state_by w K' m) (items v)) in
            subst Q (sym is) (subst R (sym was) (acts_later o K n K' m (items v) version a t))
        | Err x ↦ λ a t. tt
      ]) a t
