-- The records that were reached are all records of the text.
use Rattle.std.proofs.Common.{add-one, ◌&&◌, drop, nat_eq, ◌≡◌, ◌∙◌, ℕ, zero, suc, ◌+◌, ◌<◌, ◌≤◌, ◌==◌, Bool, true, false, cond, List, [], ◌∷◌, ◌++◌, length, Some, None, refl, sym, ap, subst, arith}
use Rattle.csv.specs.Machine.{next_record, step, is_end, ends_with, ends_at_end, fields_after, field_after, in_field, Read}
use Rattle.std.specs.Cmp.{nat_eq_equiv}
use Rattle.std.specs.List.{starts_with}
use Rattle.csv.specs.Records.{field_at}
use Rattle.csv.specs.Reading.{Reached, default_config, records, records_from, records_next}
use Rattle.csv.specs.declared.parser.State.{State}
use Rattle.csv.specs.declared.parser.State.TheVariants as st
use Rattle.csv.specs.declared.parser.Terminator.TheVariants as term
use Rattle.csv.specs.declared.parser.Action.{Action}
use Rattle.gl_protocol.specs.Scripts.Commands.{without_mark}

-- a step that ends a record leaves the machine between records
abbrev Restarts : State × Action → Type 0
Restarts x = is_end x.1 ≡ true → ends_at_end x.0 ≡ false

pick : (b : Bool) (x y : State × Action) → Restarts x → Restarts y → Restarts (cond b x y)
pick true x y h k = h
pick false x y h k = k

after_false : (b : Bool) → ends_at_end (cond b st.AfterCr st.StartRecord) ≡ false
after_false true = refl
after_false false = refl

in_field_restarts : (c : ℕ) → Restarts (in_field default_config c)
in_field_restarts c = pick (c == 44) _ _ (λ h. cc) (pick (ends_with term.CRLF c) _ _ (λ h. after_false (c == 13)) (λ h. cc))

start_field_restarts : (c : ℕ) → Restarts (step default_config st.StartField c)
start_field_restarts c = pick (c == 34) _ _ (λ h. cc) (in_field_restarts c)

start_record_restarts : (c : ℕ) → Restarts (step default_config st.StartRecord c)
start_record_restarts c = pick (ends_with term.CRLF c) _ _ (λ h. cc) (start_field_restarts c)

step_restarts : (s : State) (c : ℕ) → Restarts (step default_config s c)
step_restarts st.StartRecord c = start_record_restarts c
step_restarts st.StartField c = start_field_restarts c
step_restarts st.InField c = in_field_restarts c
step_restarts st.InQuoted c = pick (c == 34) _ _ (λ h. cc) (λ h. cc)
step_restarts st.InEscape c = λ h. cc
step_restarts st.AfterQuote c = pick (c == 34) _ _ (λ h. cc) (in_field_restarts c)
step_restarts st.InComment c = pick (c == 10) _ _ (λ h. cc) (λ h. cc)
step_restarts st.AfterCr c = pick (c == 10) _ _ (λ h. cc) (start_record_restarts c)

-- what is left after a record is no longer than the text, and the machine is between records
left_short : (s : State) (f : List (List ℕ)) (b : List ℕ) (xs : List ℕ) (q : Read) → next_record default_config s f b xs ≡ Some q → (length q.2 ≤ length xs) × (ends_at_end q.1 ≡ false)
unfolding next_record
left_short s f b [] q =
    elim (ends_at_end s) as (λ e. cond e (Some (f ++ (b ∷ []), st.StartRecord, [])) None ≡ Some q → (length q.2 ≤ 0) × (ends_at_end q.1 ≡ false)) [
      | true ↦ λ h. let e : (f ++ (b ∷ []), st.StartRecord, []) ≡ q = cc in subst (λ (r : Read). (length r.2 ≤ 0) × (ends_at_end r.1 ≡ false)) e (omega arith, refl)
      | false ↦ λ h. cc
    ]
left_short s f b (c ∷ rest) q =
    elim (is_end (step default_config s c).1) as (λ e. is_end (step default_config s c).1 ≡ e → cond e (Some (fields_after (step default_config s c).1 f b, (step default_config s c).0, rest)) (next_record default_config (step default_config s c).0 (fields_after (step default_config s c).1 f b) (field_after (step default_config s c).1 c b) rest) ≡ Some q → (length q.2 ≤ length (c ∷ rest)) × (ends_at_end q.1 ≡ false)) [
      | true ↦ λ is h.
          let e : (fields_after (step default_config s c).1 f b, (step default_config s c).0, rest) ≡ q = cc in
          subst (λ (r : Read). (length r.2 ≤ length (c ∷ rest)) × (ends_at_end r.1 ≡ false)) e (omega arith, step_restarts s c is)
      | false ↦ λ is h. let k = left_short (step default_config s c).0 (fields_after (step default_config s c).1 f b) (field_after (step default_config s c).1 c b) rest q h in (omega (arith, k.0), k.1)
    ] refl

-- a record takes a byte at least
takes_one : (s : State) (xs : List ℕ) (q : Read) → ends_at_end s ≡ false → next_record default_config s [] [] xs ≡ Some q → length q.2 < length xs
unfolding next_record
takes_one s [] q off = λ h. let no : None ≡ Some q = sym (ap (λ e. cond e (Some ([] ++ ([] ∷ []), st.StartRecord, [])) None) off) ∙ h in cc
takes_one s (c ∷ rest) q off =
    elim (is_end (step default_config s c).1) as (λ e. cond e (Some (fields_after (step default_config s c).1 [] [], (step default_config s c).0, rest)) (next_record default_config (step default_config s c).0 (fields_after (step default_config s c).1 [] []) (field_after (step default_config s c).1 c []) rest) ≡ Some q → length q.2 < length (c ∷ rest)) [
      | true ↦ λ h.
          let e : (fields_after (step default_config s c).1 [] [], (step default_config s c).0, rest) ≡ q = cc in
          subst (λ (r : Read). length r.2 < length (c ∷ rest)) e (omega arith)
      | false ↦ λ h. let k = left_short (step default_config s c).0 (fields_after (step default_config s c).1 [] []) (field_after (step default_config s c).1 c []) rest q h in omega (arith, k.0)
    ]

all_reached : (n : ℕ) (s : State) (xs : List ℕ) (rows : List (List (List ℕ))) (s2 : State) (ys : List ℕ) → ends_at_end s ≡ false → length xs < n → Reached default_config s xs rows s2 ys → next_record default_config s2 [] [] ys ≡ None → rows ≡ records_from default_config n s xs
unfolding Reached records_from
all_reached zero s xs rows s2 ys off short h end = absurd (omega arith)
all_reached (suc n) s xs [] s2 ys off short h end =
    let none : next_record default_config s [] [] xs ≡ None = rw (h.0, h.1) end in
    sym (ap (records_next (records_from default_config n)) none)
all_reached (suc n) s xs (r ∷ rs) s2 ys off short h end =
    let p = h.0 in
    let less = takes_one s xs p off h.1 in
    let rest = all_reached n p.1 p.2 rs s2 ys (left_short s [] [] xs p h.1).1 (omega (arith, less, short)) h.3 end in
    (λ i. h.2 i ∷ rest i) ∙ sym (ap (records_next (records_from default_config n)) h.1)

pub records_reached : (xs : List ℕ) (rows : List (List (List ℕ))) (s2 : State) (ys : List ℕ) → Reached default_config st.StartRecord xs rows s2 ys → next_record default_config s2 [] [] ys ≡ None → rows ≡ records default_config xs
records_reached xs rows s2 ys h n = all_reached (length xs + 1) st.StartRecord xs rows s2 ys refl (omega arith) h n

-- the field at a place is the first of the rest
pub drop-field : (fs : List (List ℕ)) (j : ℕ) (f : List ℕ) → field_at fs j ≡ Some f → drop j fs ≡ f ∷ drop (suc j) fs
unfolding field_at
drop-field [] j f h = cc
drop-field (x ∷ xs) zero f h = let e : x ≡ f = cc in λ i. e i ∷ xs
drop-field (x ∷ xs) (suc j) f h = drop-field xs j f h

pub drop-no_field : (fs : List (List ℕ)) (j : ℕ) → field_at fs j ≡ None → drop j fs ≡ []
unfolding field_at
drop-no_field [] zero h = refl
drop-no_field [] (suc j) h = refl
drop-no_field (x ∷ xs) zero h = cc
drop-no_field (x ∷ xs) (suc j) h = drop-no_field xs j h

pub field-below : (fs : List (List ℕ)) (j : ℕ) (f : List ℕ) → field_at fs j ≡ Some f → j < length fs
unfolding field_at
field-below [] j f h = cc
field-below (x ∷ xs) zero f h = omega arith
field-below (x ∷ xs) (suc j) f h = omega (arith, field-below xs j f h)

-- the same by the code's next place
pub drop-field_more : (fs : List (List ℕ)) (j : ℕ) (f : List ℕ) → field_at fs j ≡ Some f → drop j fs ≡ f ∷ drop (j + 1) fs
drop-field_more fs j f h = rw add-one (drop-field fs j f h)

-- ---- a byte order mark

two : (x y : Bool) (all : List ℕ) → all ≡ cond (x && (y && false)) [] all
two true true all = refl
two true false all = refl
two false y all = refl

three : (x y z : Bool) (rest all : List ℕ) → cond (x && y && z) rest all ≡ cond (x && (y && (z && true))) rest all
three true true true rest all = refl
three true true false rest all = refl
three true false z rest all = refl
three false y z rest all = refl

-- without a mark, by its first bytes
pub strip_mark : (xs : List ℕ) → without_mark xs ≡ cond (starts_with nat_eq xs (0xEF ∷ 0xBB ∷ 0xBF ∷ [])) (drop 3 xs) xs
strip_mark [] = refl
strip_mark (a ∷ []) = elim (nat_eq 0xEF a) as (λ x. a ∷ [] ≡ cond (x && false) [] (a ∷ [])) [ true ↦ refl | false ↦ refl ]
strip_mark (a ∷ b ∷ []) = two (nat_eq 0xEF a) (nat_eq 0xBB b) (a ∷ b ∷ [])
strip_mark (a ∷ b ∷ c ∷ rest) =
    let all = a ∷ b ∷ c ∷ rest in
    ap (λ t. cond (t && (b == 0xBB) && (c == 0xBF)) rest all) (nat_eq_equiv.symm a 0xEF)
    ∙ ap (λ t. cond (nat_eq 0xEF a && t && (c == 0xBF)) rest all) (nat_eq_equiv.symm b 0xBB)
    ∙ ap (λ t. cond (nat_eq 0xEF a && nat_eq 0xBB b && t) rest all) (nat_eq_equiv.symm c 0xBF)
    ∙ three (nat_eq 0xEF a) (nat_eq 0xBB b) (nat_eq 0xBF c) rest all
