-- Each item leaves a state whose steps lead back and on, and whose replica holds its sheet.
use Rattle.std.specs.Prelude.{codes}
use Rattle.gl_language.specs.Texts.Text.{Bytes}
use Rattle.std.proofs.Common.{◌≡◌, ◌∙◌, ◌⊎◌, inl, inr, ℕ, ◌+◌, ◌≤◌, ◌<◌, zero, suc, max, nat_lt, Bool, true, false, cond, not, List, [], ◌∷◌, map, take, length, Option, Some, None, IfSome, refl, sym, ap, subst, arith, IsTrue, length-take}
use Rattle.std.proofs.lemmas.Bool.Decides.{nat_tests}
use Rattle.std.proofs.lemmas.Grind.{common_steps}
use Rattle.std.specs.List.{AllByRecursion}
use Rattle.gl_calculus.specs.Computation.Lists.{Member}
use Rattle.gl_calculus.specs.Grid.Grid.{Addr, Range, same_addr, is_before, single, covers, AreInOrder}
use Rattle.gl_calculus.specs.Formulas.Formula.{Content, Cells, IsSheet}
use Rattle.gl_language.specs.Reading.Content.{IsProperContent}
use Rattle.gl_calculus.specs.Edits.Limits.{max_time, max_registers, max_steps}
use Rattle.gl_calculus.specs.Edits.Replicas as R
use Rattle.gl_calculus.specs.Edits.Replicas.{Stamp, Edit, Changes, Replica, Judged, IsJudged, IsOlder, AreOlder, is_earlier, register_at, with_edit, contents_of, new_replica, next_stamp, taking, taking_all, stamped, has_room}
use Rattle.gl_calculus.specs.Edits.Steps.{Step, step_of, befores, afters, no_history, pushed}
use Rattle.laws_calculus.proofs.Edits.Orders.{tail}
use Rattle.laws_calculus.proofs.Edits.Taking.{order_with_edit}
use Rattle.gl_protocol.specs.Scripts.Commands.{Read, Is, Not, allowed}
use Rattle.gl_calculus.specs.Edits.Sheets.{with_content, with_contents, without}
use Rattle.gl_protocol.specs.Scripts.Script.{Script, edited, sited, undone, redone, register_of, merge, allowed_change}
use Rattle.gl_calculus.specs.Edits.Sheets.{with_change, with_changes}
use Rattle.laws_protocol.specs.Acts.{AreProper}
use Rattle.laws_calculus.proofs.SheetEdits.SheetOrders.{order_with, order_with_all, order_filter}
use Rattle.laws_calculus.proofs.SheetEdits.TakenBack.{taken_back, done_again}
use Rattle.laws_calculus.proofs.SheetEdits.SameSheets.{before_all}
use Rattle.laws_calculus.proofs.SheetEdits.Registers.{holds_with_edit}
use Rattle.laws_calculus.proofs.SheetEdits.Own.{own_taken, edit_of}
use Rattle.laws_protocol.proofs.Scripts.Edited.{is_script, not_script, alone_done, no_stamp, no_room, replica_done, edited_sheet}
use Rattle.laws_protocol.specs.States.{IsGood, LeadBack, LeadOn, IsReplicaOf, IsState}
use Rattle.laws_protocol.proofs.Scripts.Contents.{IsProperOption}
use Rattle.laws_protocol.proofs.Scripts.Found.{proper_with, proper_with_all, proper_without}
use Rattle.laws_protocol.proofs.Scripts.Sizes.{allowed_is, limits_filter}

-- ---- good sheets

is_cells : (S T : Cells) → Is S ≡ Is T → S ≡ T
is_cells S T h = cc h

no_cells : (w : Bytes) (T : Cells) → Not w ≡ Is T → ⊥
no_cells w T h = cc h

pub good_set : (S T : Cells) (a : Addr) (c : Content) → IsGood S → IsProperContent c → allowed (with_content S a c) ≡ Is T → IsGood T
good_set S T a c g p h =
    let k = allowed_is (with_content S a c) T h in
    record { ordered = subst IsSheet k.0 (order_with S a c g.ordered); proper = subst AreProper k.0 (proper_with S a c g.proper p); small = k.1 }

pub good_sets : (S T cs : Cells) → IsGood S → AllByRecursion (λ x. IsProperContent x.1) cs → allowed (with_contents S cs) ≡ Is T → IsGood T
good_sets S T cs g p h =
    let k = allowed_is (with_contents S cs) T h in
    record { ordered = subst IsSheet k.0 (order_with_all cs S g.ordered); proper = subst AreProper k.0 (proper_with_all cs S g.proper p); small = k.1 }

pub good_without : (S : Cells) (r : Range) → IsGood S → IsGood (without S r)
good_without S r g = record { ordered = order_filter (λ x. not (covers r x.0)) S g.ordered; proper = proper_without S r g.proper; small = limits_filter (λ x. not (covers r x.0)) S g.small }

-- a change within the limits
pub good_change : (S T : Cells) (a : Addr) (o : Option Content) → IsGood S → IsProperOption o → allowed_change S a o ≡ Is T → IsGood T
good_change S T a (Some c) g p h = good_set S T a c g p h
good_change S T a None g p h = subst IsGood (is_cells (without S (single a)) T h) (good_without S (single a) g)

pub is_changed_to : (S T : Cells) (a : Addr) (o : Option Content) → allowed_change S a o ≡ Is T → with_change S a o ≡ T
is_changed_to S T a (Some c) h = (allowed_is (with_content S a c) T h).0
is_changed_to S T a None h = is_cells (without S (single a)) T h

-- ---- steps

back_fewer : (n : ℕ) (S : Cells) (ds : List Step) → LeadBack S ds → LeadBack S (take n ds)
back_fewer zero S ds h = tt
back_fewer (suc n) S [] h = tt
back_fewer (suc n) S (d ∷ ds) h = (h.0, h.1, back_fewer n (with_changes S (befores d)) ds h.2)

back_more : (S T : Cells) (cs : Changes) (ds : List Step) → IsGood S → T ≡ with_changes S cs → LeadBack S ds → LeadBack T (step_of S cs ∷ ds)
back_more S T cs ds g e h =
    let back : with_changes T (befores (step_of S cs)) ≡ S = ap (λ (Z : Cells). with_changes Z (befores (step_of S cs))) e ∙ taken_back S cs g.ordered in
    let on : with_changes S (afters (step_of S cs)) ≡ T = ap (with_changes S) (done_again S cs) ∙ sym e in (
      subst IsGood (sym back) g,
      ap (λ (Z : Cells). with_changes Z (afters (step_of S cs))) back ∙ on,
      subst (λ (Z : Cells). LeadBack Z ds) (sym back) h,
    )

few_pushed : (ds : List Step) → length (take max_steps ds) + 0 ≤ max_steps
few_pushed ds = omega (arith, length-take max_steps ds)

-- ---- registers

earlier_by_time : (s t : Stamp) (n : ℕ) → s.time ≤ n → t.time ≡ n + 1 → IsTrue (is_earlier s t)
earlier_by_time s t n h e = grind (arith, common_steps, nat_tests)

-- a stamp that is ahead of the clock wins everywhere
ahead : (rs : List Edit) (t : Stamp) (n : ℕ) → ((e : Edit) → Member e rs → e.stamp.time ≤ n) → t.time ≡ n + 1 → (a : Addr) → IsOlder (register_at rs a) t
ahead [] t n h e a = tt
ahead (r ∷ rs) t n h e a = by (same_addr a r.place) (ahead rs t n (λ d m. h d (inr m)) e a)
  where
    by : (b : Bool) → IsOlder (register_at rs a) t → IsOlder (cond b (Some r) (register_at rs a)) t
    by true ih = earlier_by_time r.stamp t n (h r (inl refl)) e
    by false ih = ih

all_ahead : (rs : List Edit) (t : Stamp) (cs : Changes) → ((a : Addr) → IsOlder (register_at rs a) t) → AreOlder rs t cs
all_ahead rs t [] h = tt
all_ahead rs t (c ∷ cs) h = (h c.0, all_ahead rs t cs h)

pub next_is : (r : Replica) (t : Stamp) → next_stamp r ≡ Some t → (t.time ≡ r.clock + 1) × (t.time ≤ max_time)
next_is r t h = by (nat_lt r.clock max_time) refl h
  where
    by : (b : Bool) → nat_lt r.clock max_time ≡ b → cond b (Some (R.stamp (r.clock + 1) r.site)) None ≡ Some t → (t.time ≡ r.clock + 1) × (t.time ≤ max_time)
    by true e k =
        let same : R.stamp (r.clock + 1) r.site ≡ t = cc k in
        let time : t.time ≡ r.clock + 1 = sym (ap (λ (z : Stamp). z.time) same) in
        let below : r.clock < max_time = grind (arith, nat_tests, e) in
        (time, omega (arith, time, below))
    by false e k = let no : None ≡ Some t = k in cc no

pub older_than_next : (r : Replica) (t : Stamp) (cs : Changes) → ((e : Edit) → Member e r.registers → e.stamp.time ≤ r.clock) → next_stamp r ≡ Some t → AreOlder r.registers t cs
older_than_next r t cs h n = all_ahead r.registers t cs (ahead r.registers t r.clock h (next_is r t n).0)

-- the registers with one edit more are that and those before
member_with : (rs : List Edit) (e w : Edit) → Member w (with_edit rs e) → (w ≡ e) ⊎ Member w rs
member_with [] e w (inl m) = inl m
member_with [] e w (inr m) = absurd m
member_with (r ∷ rs) e w m = by (same_addr e.place r.place) (is_before e.place r.place) (is_earlier r.stamp e.stamp) (member_with rs e w) m
  where
    by : (p q b : Bool) → (Member w (with_edit rs e) → (w ≡ e) ⊎ Member w rs) → Member w (cond p ((cond b e r) ∷ rs) (cond q (e ∷ r ∷ rs) (r ∷ with_edit rs e))) → (w ≡ e) ⊎ Member w (r ∷ rs)
    by true q true ih (inl k) = inl k
    by true q true ih (inr k) = inr (inr k)
    by true q false ih k = inr k
    by false true b ih (inl k) = inl k
    by false true b ih (inr k) = inr k
    by false false b ih (inl k) = inr (inl k)
    by false false b ih (inr k) = elim (ih k) as (λ _. (w ≡ e) ⊎ Member w (r ∷ rs)) [ inl f ↦ inl f | inr f ↦ inr (inr f) ]

abbrev pub ArePast : Replica → Type 0
ArePast r = (e : Edit) → Member e r.registers → e.stamp.time ≤ r.clock

past_taking : (r : Replica) (e : Edit) → ArePast r → ArePast (taking r e)
past_taking r e h w m = elim (member_with r.registers e w m) as (λ _. w.stamp.time ≤ max r.clock e.stamp.time) [
  | inl k ↦ let t = ap (λ (z : Edit). z.stamp.time) k in omega (arith, t)
  | inr k ↦ let t = h w k in omega (arith, t)
]

past_taking_all : (r : Replica) (t : Stamp) (cs : Changes) → ArePast r → ArePast (taking_all r (stamped t cs))
past_taking_all r t [] h = h
past_taking_all r t (c ∷ cs) h = past_taking_all (taking r (edit_of t c)) t cs (past_taking r (edit_of t c) h)

clock_taking_all : (r : Replica) (t : Stamp) (cs : Changes) → r.clock ≤ max_time → t.time ≤ max_time → (taking_all r (stamped t cs)).clock ≤ max_time
clock_taking_all r t [] h k = h
clock_taking_all r t (c ∷ cs) h k = clock_taking_all (taking r (edit_of t c)) t cs (omega (arith, h, k)) k

room_is : (r : Replica) → has_room r ≡ true → length r.registers ≤ max_registers
room_is r h = grind (arith, nat_tests, h)

-- ---- an edit of the sheet

module _ (s : Script) (cs : Changes) (goal : Read Cells) (s' : Script) (h : IsState s) (rise : AreInOrder (map (λ (c : Addr × Option Content). c.0) cs)) where
  alone_state : s.replica ≡ None → edited s cs goal ≡ Is s' → goal ≡ Is s'.sheet → IsGood s'.sheet → s'.sheet ≡ with_changes s.sheet cs → IsState s'
  alone_state none k e g f =
      let T = s'.sheet in
      let d = step_of s.sheet cs in
      let made : Script = record s { sheet = T; history = pushed s.history d } in
      let is : made ≡ s' = is_script made s' (sym (alone_done s cs T goal none e) ∙ k) in
      let state : IsState made = record {
        sheet = g;
        back = back_fewer max_steps T (d ∷ s.history.done) (back_more s.sheet T cs s.history.done h.sheet f h.back);
        on = tt;
        few = few_pushed (d ∷ s.history.done);
        replica = subst (λ (o : Option Replica). IfSome o (λ r. IsReplicaOf T r × (made.history.done ≡ []) × (made.history.undone ≡ []))) (sym none) tt;
      } in
      subst IsState is state

  in_replica : (r : Replica) (t : Stamp) → s.replica ≡ Some r → next_stamp r ≡ Some t → has_room (taking_all r (stamped t cs)) ≡ true → edited s cs goal ≡ Is s' → goal ≡ Is s'.sheet → IsGood s'.sheet → s'.sheet ≡ with_changes s.sheet cs → IsState s'
  in_replica r t is next room k e g f =
      let T = s'.sheet in
      let q = taking_all r (stamped t cs) in
      let made : Script = record s { sheet = T; replica = Some q } in
      let same : made ≡ s' = is_script made s' (sym (replica_done s cs r is goal t T next room e) ∙ k) in
      let was = subst (λ (o : Option Replica). IfSome o (λ r. IsReplicaOf s.sheet r × (s.history.done ≡ []) × (s.history.undone ≡ []))) is h.replica in
      let older = older_than_next r t cs was.0.past next in
      let taken = own_taken r t cs was.0.ordered rise older in
      let holds : T ≡ contents_of q.registers = f ∙ ap (λ (Z : Cells). with_changes Z cs) was.0.holds ∙ sym taken.holds in
      let state : IsState made = record {
        sheet = g;
        back = subst (LeadBack T) (sym was.1) tt;
        on = subst (LeadOn T) (sym was.2) tt;
        few = h.few;
        replica = (
          record {
            ordered = taken.ordered;
            holds = holds;
            past = past_taking_all r t cs was.0.past;
            clock = clock_taking_all r t cs was.0.clock (next_is r t next).1;
            few = room_is q room;
          },
          was.1,
          was.2,
        );
      } in
      subst IsState same state

  pub edited_state : ((T : Cells) → goal ≡ Is T → IsGood T × (T ≡ with_changes s.sheet cs)) → edited s cs goal ≡ Is s' → IsState s'
  edited_state good k = by s.replica refl
    where
      e : goal ≡ Is s'.sheet
      e = edited_sheet s cs goal s' k

      roomy : (r : Replica) (t : Stamp) (b : Bool) → s.replica ≡ Some r → next_stamp r ≡ Some t → has_room (taking_all r (stamped t cs)) ≡ b → IsState s'
      roomy r t true is next f = in_replica r t is next f k e (good s'.sheet e).0 (good s'.sheet e).1
      roomy r t false is next f = absurd (not_script (codes "edits") s' (sym (no_room s cs r is goal t next f) ∙ k))

      stamped_by : (r : Replica) (o : Option Stamp) → s.replica ≡ Some r → next_stamp r ≡ o → IsState s'
      stamped_by r (Some t) is next = roomy r t (has_room (taking_all r (stamped t cs))) is next refl
      stamped_by r None is next = absurd (not_script (codes "stamp") s' (sym (no_stamp s cs r is goal next) ∙ k))

      by : (o : Option Replica) → s.replica ≡ o → IsState s'
      by (Some r) is = stamped_by r (next_stamp r) is refl
      by None is = alone_state is k e (good s'.sheet e).0 (good s'.sheet e).1

-- ---- the other commands

pub sited_state : (s : Script) (n : ℕ) (s' : Script) → sited s n ≡ Is s' → IsState s'
sited_state s n s' h = by s.replica s.sheet refl refl
  where
    made : Script
    made = record { sheet = []; replica = Some (new_replica n); history = no_history }

    state : IsState made
    state = record {
      sheet = record { ordered = tt; proper = λ a c e. cc e; small = (omega arith, omega arith) };
      back = tt;
      on = tt;
      few = omega arith;
      replica = (record { ordered = tt; holds = refl; past = λ e m. absurd m; clock = omega arith; few = omega arith }, refl, refl);
    }

    by : (o : Option Replica) (S : Cells) → s.replica ≡ o → s.sheet ≡ S → IsState s'
    by (Some r) S e f = let no : sited s n ≡ Not (codes "site") = rw e refl in absurd (not_script (codes "site") s' (sym no ∙ h))
    by None (c ∷ cs) e f = let no : sited s n ≡ Not (codes "site") = rw (e, f) refl in absurd (not_script (codes "site") s' (sym no ∙ h))
    by None [] e f = let yes : sited s n ≡ Is made = rw (e, f) refl in subst IsState (is_script made s' (sym yes ∙ h)) state

pub undone_state : (s s' : Script) → IsState s → undone s ≡ Is s' → IsState s'
undone_state s s' h k = by s.replica s.history.done refl refl
  where
    by : (o : Option Replica) (ds : List Step) → s.replica ≡ o → s.history.done ≡ ds → IsState s'
    by (Some r) ds e f = let no : undone s ≡ Not (codes "site") = rw e refl in absurd (not_script (codes "site") s' (sym no ∙ k))
    by None [] e f = let no : undone s ≡ Not (codes "undo") = rw (e, f) refl in absurd (not_script (codes "undo") s' (sym no ∙ k))
    by None (d ∷ ds) e f =
        let S = with_changes s.sheet (befores d) in
        let made : Script = record s { sheet = S; history = record { done = ds; undone = d ∷ s.history.undone } } in
        let yes : undone s ≡ Is made = rw (e, f) refl in
        let back = subst (LeadBack s.sheet) f h.back in
        let state : IsState made = record {
          sheet = back.0;
          back = back.2;
          on = (subst IsGood (sym back.1) h.sheet, ap (λ (Z : Cells). with_changes Z (befores d)) back.1, subst (λ (Z : Cells). LeadOn Z s.history.undone) (sym back.1) h.on);
          few = omega (arith, h.few, ap length f);
          replica = subst (λ (o : Option Replica). IfSome o (λ r. IsReplicaOf S r × (ds ≡ []) × (d ∷ s.history.undone ≡ []))) (sym e) tt;
        } in
        subst IsState (is_script made s' (sym yes ∙ k)) state

pub redone_state : (s s' : Script) → IsState s → redone s ≡ Is s' → IsState s'
redone_state s s' h k = by s.replica s.history.undone refl refl
  where
    by : (o : Option Replica) (us : List Step) → s.replica ≡ o → s.history.undone ≡ us → IsState s'
    by (Some r) us e f = let no : redone s ≡ Not (codes "site") = rw e refl in absurd (not_script (codes "site") s' (sym no ∙ k))
    by None [] e f = let no : redone s ≡ Not (codes "redo") = rw (e, f) refl in absurd (not_script (codes "redo") s' (sym no ∙ k))
    by None (u ∷ us) e f =
        let S = with_changes s.sheet (afters u) in
        let made : Script = record s { sheet = S; history = record { done = u ∷ s.history.done; undone = us } } in
        let yes : redone s ≡ Is made = rw (e, f) refl in
        let on = subst (LeadOn s.sheet) f h.on in
        let state : IsState made = record {
          sheet = on.0;
          back = (subst IsGood (sym on.1) h.sheet, ap (λ (Z : Cells). with_changes Z (afters u)) on.1, subst (λ (Z : Cells). LeadBack Z s.history.done) (sym on.1) h.back);
          on = on.2;
          few = omega (arith, h.few, ap length f);
          replica = subst (λ (o : Option Replica). IfSome o (λ r. IsReplicaOf S r × (u ∷ s.history.done ≡ []) × (us ≡ []))) (sym e) tt;
        } in
        subst IsState (is_script made s' (sym yes ∙ k)) state

-- ---- edits of other replicas

not_both_ways : (s t : Stamp) → IsTrue (is_earlier t s) → is_earlier s t ≡ false
not_both_ways s t h = grind (arith, common_steps)

not_itself : (s : Stamp) → is_earlier s s ≡ false
not_itself s = grind (arith, common_steps)

none_before : (a : Addr) (rs : List Edit) → AreInOrder (a ∷ map (λ (r : Edit). r.place) rs) → register_at rs a ≡ None
none_before a [] o = refl
none_before a (r ∷ rs) o = ap (λ (t : Bool). cond t (Some r) (register_at rs a)) (ahead_apart a r.place o.0) ∙ none_before a rs (skip rs o)
  where
    ahead_apart : (a b : Addr) → IsTrue (is_before a b) → same_addr a b ≡ false
    ahead_apart a b h = grind (arith, common_steps)

    skip : (rs : List Edit) → AreInOrder (a ∷ r.place ∷ map (λ (q : Edit). q.place) rs) → AreInOrder (a ∷ map (λ (q : Edit). q.place) rs)
    skip [] o = tt
    skip (q ∷ rs) o = (before_all a r.place q.place o.0 o.1.0, o.1.1)

-- there is a register that isn't earlier
abbrev pub IsPassed : Option Edit → Edit → Type 0
IsPassed None e = ⊥
IsPassed (Some r) e = is_earlier r.stamp e.stamp ≡ false

passed_loses : (o : Option Edit) (e : Edit) → IsJudged o e R.Judged.Loses → IsPassed o e
passed_loses None e h = absurd h
passed_loses (Some r) e h = not_both_ways r.stamp e.stamp h

passed_same : (o : Option Edit) (e : Edit) → IsJudged o e R.Judged.Same → IsPassed o e
passed_same None e h = absurd h
passed_same (Some r) e h = ap (λ (t : Stamp). is_earlier t e.stamp) h.0 ∙ not_itself e.stamp

-- then the registers stay
pub registers_stay : (rs : List Edit) (e : Edit) → AreInOrder (map (λ (r : Edit). r.place) rs) → IsPassed (register_at rs e.place) e → with_edit rs e ≡ rs
registers_stay [] e o h = absurd h
registers_stay (r ∷ rs) e o h = by (same_addr e.place r.place) (is_before e.place r.place) refl h (registers_stay rs e (tail r.place (map (λ (q : Edit). q.place) rs) o))
  where
    by : (p q : Bool) → is_before e.place r.place ≡ q → IsPassed (cond p (Some r) (register_at rs e.place)) e → (IsPassed (register_at rs e.place) e → with_edit rs e ≡ rs)
        → cond p ((cond (is_earlier r.stamp e.stamp) e r) ∷ rs) (cond q (e ∷ r ∷ rs) (r ∷ with_edit rs e)) ≡ r ∷ rs
    by true q f k ih = ap (λ (b : Bool). (cond b e r) ∷ rs) k
    by false true f k ih = absurd (subst (λ (o : Option Edit). IsPassed o e) (none_before e.place rs (front rs o)) k)
      where
        front : (rs : List Edit) → AreInOrder (r.place ∷ map (λ (q : Edit). q.place) rs) → AreInOrder (e.place ∷ map (λ (q : Edit). q.place) rs)
        front [] o = tt
        front (x ∷ rs) o = (before_all e.place r.place x.place f o.0, o.1)
    by false false f k ih = ap (λ (zs : List Edit). r ∷ zs) (ih k)

module _ (s : Script) (e : Edit) (s' : Script) (h : IsState s) (time : e.stamp.time ≤ max_time) where
  passed_state : (r : Replica) → s.replica ≡ Some r → IsPassed (register_at r.registers e.place) e → Is (record s { replica = Some (taking r e) }) ≡ Is s' → IsState s'
  passed_state r is p k =
      let was = subst (λ (o : Option Replica). IfSome o (λ r. IsReplicaOf s.sheet r × (s.history.done ≡ []) × (s.history.undone ≡ []))) is h.replica in
      let stay = registers_stay r.registers e was.0.ordered p in
      let made : Script = record s { replica = Some (taking r e) } in
      let state : IsState made = record {
        sheet = h.sheet;
        back = h.back;
        on = h.on;
        few = h.few;
        replica = (
          record {
            ordered = subst (λ (zs : List Edit). AreInOrder (map (λ (q : Edit). q.place) zs)) (sym stay) was.0.ordered;
            holds = was.0.holds ∙ ap contents_of (sym stay);
            past = past_taking r e was.0.past;
            clock = omega (arith, was.0.clock, time);
            few = subst (λ (zs : List Edit). length zs ≤ max_registers) (sym stay) was.0.few;
          },
          was.1,
          was.2,
        );
      } in
      subst IsState (is_script made s' k) state

  won_state : (r : Replica) (T : Cells) → s.replica ≡ Some r → IsJudged (register_at r.registers e.place) e R.Judged.Wins → IsProperOption e.content → has_room (taking r e) ≡ true → allowed_change s.sheet e.place e.content ≡ Is T
      → Is (record s { sheet = T; replica = Some (taking r e) }) ≡ Is s' → IsState s'
  won_state r T is w p room a k =
      let was = subst (λ (o : Option Replica). IfSome o (λ r. IsReplicaOf s.sheet r × (s.history.done ≡ []) × (s.history.undone ≡ []))) is h.replica in
      let made : Script = record s { sheet = T; replica = Some (taking r e) } in
      let holds : T ≡ contents_of (with_edit r.registers e) =
      sym (is_changed_to s.sheet T e.place e.content a) ∙ ap (λ (Z : Cells). with_change Z e.place e.content) was.0.holds ∙ sym (holds_with_edit r.registers e was.0.ordered w) in
      let state : IsState made = record {
        sheet = good_change s.sheet T e.place e.content h.sheet p a;
        back = subst (LeadBack T) (sym was.1) tt;
        on = subst (LeadOn T) (sym was.2) tt;
        few = h.few;
        replica = (
          record {
            ordered = order_with_edit r.registers e was.0.ordered (R.Judged.Wins, w, λ f. cc f);
            holds = holds;
            past = past_taking r e was.0.past;
            clock = omega (arith, was.0.clock, time);
            few = room_is (taking r e) room;
          },
          was.1,
          was.2,
        );
      } in
      subst IsState (is_script made s' k) state

  pub merged_state : (j : Judged) → IsProperOption e.content → IsJudged (register_of s e.place) e j → merge s e j ≡ Is s' → IsState s'
  merged_state j p i k = by s.replica refl
    where
      sheeted : (r : Replica) → s.replica ≡ Some r → IsJudged (register_at r.registers e.place) e R.Judged.Wins → has_room (taking r e) ≡ true → (o : Read Cells) → allowed_change s.sheet e.place e.content ≡ o → merge s e R.Judged.Wins ≡ Is s' → IsState s'
      sheeted r is w f (Is T) a m =
          let yes : merge s e R.Judged.Wins ≡ Is (record s { sheet = T; replica = Some (taking r e) }) = rw (is, f, a) refl in
          won_state r T is w p f a (sym yes ∙ m)
      sheeted r is w f (Not v) a m = let no : merge s e R.Judged.Wins ≡ Not v = rw (is, f, a) refl in absurd (not_script v s' (sym no ∙ m))

      roomy : (r : Replica) (b : Bool) → s.replica ≡ Some r → IsJudged (register_at r.registers e.place) e R.Judged.Wins → has_room (taking r e) ≡ b → merge s e R.Judged.Wins ≡ Is s' → IsState s'
      roomy r true is w f m = sheeted r is w f (allowed_change s.sheet e.place e.content) refl m
      roomy r false is w f m = let no : merge s e R.Judged.Wins ≡ Not (codes "edits") = rw (is, f) refl in absurd (not_script (codes "edits") s' (sym no ∙ m))

      judged_so : (r : Replica) → s.replica ≡ Some r → (j : Judged) → IsJudged (register_at r.registers e.place) e j → merge s e j ≡ Is s' → IsState s'
      judged_so r is R.Judged.Wins w m = roomy r (has_room (taking r e)) is w refl m
      judged_so r is R.Judged.Loses w m =
          let yes : merge s e R.Judged.Loses ≡ Is (record s { replica = Some (taking r e) }) = rw is refl in
          passed_state r is (passed_loses (register_at r.registers e.place) e w) (sym yes ∙ m)
      judged_so r is R.Judged.Same w m =
          let yes : merge s e R.Judged.Same ≡ Is (record s { replica = Some (taking r e) }) = rw is refl in
          passed_state r is (passed_same (register_at r.registers e.place) e w) (sym yes ∙ m)
      judged_so r is R.Judged.Conflict w m = let no : merge s e R.Judged.Conflict ≡ Not (codes "conflict") = rw is refl in absurd (not_script (codes "conflict") s' (sym no ∙ m))

      by : (o : Option Replica) → s.replica ≡ o → IsState s'
      by (Some r) is =
          let there : register_of s e.place ≡ register_at r.registers e.place = rw is refl in
          judged_so r is j (subst (λ (o : Option Edit). IsJudged o e j) there i) k
      by None is = let no : merge s e j ≡ Not (codes "site") = rw is refl in absurd (not_script (codes "site") s' (sym no ∙ k))
