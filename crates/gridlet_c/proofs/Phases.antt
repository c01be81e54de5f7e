-- The history of a session that reads no more, is read out, or is ended.
use Rattle.std.proofs.Common.{◌≡◌, ◌∙◌, ℕ, ◌+◌, ◌-◌, ◌≤◌, ◌<◌, min, ltb, leb, Bool, true, false, IsTrue, [], ◌++◌, length, take, drop, Some, refl, ap, sym, subst, arith, append-nil, append_assoc, length-take, length-drop}
use Rattle.std.proofs.lemmas.Bool.Decides.{nat_tests}
use Rattle.std.proofs.lemmas.List.{drop_all}
use lib.Seq.{drop-drop}
use Rattle.gl_calculus.specs.Grid.Limits.{max_script}
use Rattle.gl_language.specs.Texts.Text.{Bytes}
use Rattle.gl_protocol.specs.Scripts.Output.{is_within_limit, items_of}
use Rattle.gl_protocol.specs.Run.Out.{WroteAll, WroteAllTelling, WroteSome}
use Rattle.gl_run.specs.Reads.{has_refused}
use Rattle.gl_run.specs.declared.session.Session.{Session}
use Rattle.gl_run.specs.declared.top.Status.{Status}
use Rattle.gl_run.specs.declared.top.Status.TheVariants.{Done, InputLimit, WriteFault}
use Rattle.gl_run.specs.declared.top.Status.TheVariants as status
use Rattle.gridlet_c.specs.Statuses.{Leaves}
use Rattle.gridlet_c.specs.History.{Holds, Counts, HasHistory, waiting_of, fed_by, IsAsBefore, Ends}
use Rattle.gridlet_c.specs.declared.growing.Growing.{Growing}
use Rattle.gridlet_c.specs.declared.live.Live.{Live}
use Rattle.gridlet_c.specs.declared.live.Phase.{Phase}
use Rattle.gridlet_c.specs.declared.live.Phase.TheVariants.{Going, Quit, Limit, NoMemory, Ended}

-- ---- bytes that are not read

fed_more : (p : Phase) → (p ≡ Going → ⊥) → (s : Session) (n : ℕ) (fed bytes out : Bytes) → Holds p s n fed out → Holds p s n (fed_by p fed bytes) out
fed_more Going other s n fed bytes out h = absurd (other refl)
fed_more Quit other s n fed bytes out h = λ more. subst (λ (t : Bytes). IsTrue (is_within_limit t) × WroteAllTelling (Some []) (Some out) (items_of t) (has_refused s)) (sym (append_assoc fed bytes more)) (h (bytes ++ more))
fed_more Limit other s n fed bytes out h = λ more. subst (λ (t : Bytes). (is_within_limit t ≡ false) × WroteAll (Some []) (Some out) (items_of t)) (sym (append_assoc fed bytes more)) (h (bytes ++ more))
fed_more NoMemory other s n fed bytes out h = λ more. subst (λ (t : Bytes). WroteSome (Some []) (Some out) (items_of t)) (sym (append_assoc fed bytes more)) (h (bytes ++ more))
fed_more (Ended status) other s n fed bytes out h = h

counts_more : (p : Phase) → (p ≡ Going → ⊥) → (count : ℕ) (fed bytes : Bytes) → Counts p count (fed_by p fed bytes)
counts_more Going other count fed bytes = absurd (other refl)
counts_more Quit other count fed bytes = tt
counts_more Limit other count fed bytes = tt
counts_more NoMemory other count fed bytes = tt
counts_more (Ended status) other count fed bytes = tt

pub unread : (live : Live) → (live.phase ≡ Going → ⊥) → (fed given bytes : Bytes) → HasHistory live fed given → HasHistory live (fed_by live.phase fed bytes) given
unread live other fed given bytes h = record {
  holds = fed_more live.phase other live.session live.steps fed bytes (given ++ waiting_of live) h.holds;
  counts = counts_more live.phase other live.count fed bytes;
  in_replies = h.in_replies;
}

-- ---- bytes up to the limit

pub none_cut : (kept : ℕ) (bytes : Bytes) → ltb kept (length bytes) ≡ false → drop kept bytes ≡ []
none_cut kept bytes e = drop_all kept bytes (grind (arith, nat_tests, e))

pub some_cut : (kept count fed : ℕ) (bytes : Bytes) → kept ≡ min (length bytes) (16777216 - count) → count ≤ 16777216 → count ≡ fed → ltb kept (length bytes) ≡ true
    → (fed + length (take kept bytes) ≡ max_script) × (0 < length (drop kept bytes))
some_cut kept count fed bytes e le same cut =
    let less : kept < length bytes = grind (arith, nat_tests, cut) in
    (omega (arith, e, le, same, less, length-take kept bytes), omega (arith, less, length-drop kept bytes))

-- ---- replies that are taken

pub moved : (items : Bytes) (at count k : ℕ) → k ≡ min at (length items) + count → count ≤ length (drop at items) → drop k items ≡ drop count (drop at items)
moved items at count k e small = same (leb at (length items)) refl ∙ sym (drop-drop count at items)
  where
    same : (t : Bool) → leb at (length items) ≡ t → drop k items ≡ drop (at + count) items
    same true within =
        let le : at ≤ length items = grind (arith, nat_tests, within) in
        let both : k ≡ at + count = omega (arith, e, le) in ap (λ (i : ℕ). drop i items) both
    same false beyond =
        let gt : length items < at = grind (arith, nat_tests, beyond) in
        let past : length items ≤ k = omega (arith, e, gt) in
        drop_all k items past ∙ sym (drop_all (at + count) items (omega (arith, gt)))

pub moved_within : (items : Bytes) (at count k : ℕ) → k ≡ min at (length items) + count → count ≤ length (drop at items) → k ≤ length items
moved_within items at count k e small = omega (arith, e, small, length-drop at items)

pub holds_more : (p : Phase) (s : Session) (n : ℕ) (fed given bytes w w' : Bytes) → w ≡ bytes ++ w' → Holds p s n fed (given ++ w) → Holds p s n fed ((given ++ bytes) ++ w')
holds_more p s n fed given bytes w w' e = subst (λ (out : Bytes). Holds p s n fed out) (ap (λ (l : Bytes). given ++ l) e ∙ sym (append_assoc given bytes w'))

-- ---- the end

pub quit_leaves : (s : Session) (n : ℕ) (fed out : Bytes) (refused : Bool) → refused ≡ has_refused s → Holds Quit s n fed out → Leaves (Done refused) fed (Some []) (Some out) (λ _. ⊥)
quit_leaves s n fed out refused e h =
    subst (λ (r : Bool). IsTrue (is_within_limit fed) × WroteAllTelling (Some []) (Some out) (items_of fed) r) (sym e)
    (subst (λ (t : Bytes). IsTrue (is_within_limit t) × WroteAllTelling (Some []) (Some out) (items_of t) (has_refused s)) (append-nil fed) (h []))

pub limit_leaves : (s : Session) (n : ℕ) (fed out : Bytes) → Holds Limit s n fed out → Leaves InputLimit fed (Some []) (Some out) (λ _. ⊥)
limit_leaves s n fed out h = subst (λ (t : Bytes). (is_within_limit t ≡ false) × WroteAll (Some []) (Some out) (items_of t)) (append-nil fed) (h [])

pub memory_leaves : (s : Session) (n : ℕ) (fed out : Bytes) → Holds NoMemory s n fed out → Leaves status.NoMemory fed (Some []) (Some out) (λ _. ⊥)
memory_leaves s n fed out h = subst (λ (t : Bytes). WroteSome (Some []) (Some out) (items_of t)) (append-nil fed) (h [])

pub ends_as : (old new : Live) (status result : Status) → result ≡ status → new.phase ≡ Ended status → IsAsBefore old new → (status ≡ WriteFault → ⊥)
    → ((fed out : Bytes) → Holds old.phase old.session old.steps fed out → Leaves status fed (Some []) (Some out) (λ _. ⊥)) → Ends old new result
ends_as old new status result same phase (_, _, replies, at) no_fault leaves =
    let waits : waiting_of new ≡ waiting_of old = ap (λ (g : Growing). drop new.at g.taken.items) replies ∙ ap (λ (k : ℕ). drop k old.replies.taken.items) at in
    let ended : new.phase ≡ Ended result = phase ∙ ap (λ (x : Status). Ended x) (sym same) in (
      ended,
      λ e. no_fault (sym same ∙ e),
      λ fed given h.
          let left : Leaves result fed (Some []) (Some (given ++ waiting_of new)) (λ _. ⊥) =
          subst (λ (x : Status). Leaves x fed (Some []) (Some (given ++ waiting_of new)) (λ _. ⊥)) (sym same)
          (subst (λ (w : Bytes). Leaves status fed (Some []) (Some (given ++ w)) (λ _. ⊥)) (sym waits) (leaves fed (given ++ waiting_of old) h.holds)) in
          let room : old.at ≤ length old.replies.taken.items = h.in_replies in
          record {
            holds = subst (λ (p : Phase). Holds p new.session new.steps fed (given ++ waiting_of new)) (sym ended) left;
            counts = subst (λ (p : Phase). Counts p new.count fed) (sym ended) tt;
            in_replies = omega (arith, room, at, ap (λ (g : Growing). length g.taken.items) replies);
          },
    )
