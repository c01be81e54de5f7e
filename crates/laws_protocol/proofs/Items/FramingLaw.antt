-- Byte by byte and as a whole, a text has the same items.
use Rattle.std.proofs.Common.{◌≡◌, ℕ, zero, suc, ◌+◌, ◌<◌, ◌≤◌, Bool, true, false, cond, ◌||◌, eqb, leb, List, [], ◌∷◌, ◌++◌, length, take, drop, Option, None, Some, refl, ap, sym, ◌∙◌, arith, length-append, length-drop, append_assoc, append-nil}
use Rattle.std.proofs.lemmas.Bool.Decides.{nat_tests}
use Rattle.std.proofs.lemmas.List.{take-append-le, drop-append-le}
use Rattle.std.specs.Option.{option_to_list}
use Rattle.gl_protocol.specs.Framing.Framing.{Item, Long, Line, Import, Truncated, Kind, past_limit, plain, header, kind_of, drop_cr, has_lf, first_line, after_line, item_at, first_item, last_item, last_items, is_quit, go_on, items_within, items, ended}
use Rattle.gl_protocol.specs.Framing.Stream.{nothing, in_line, skipped, step, gained, after, closing}
use Rattle.laws_protocol.proofs.Items.Begun.{line_stream, payload_stream, stream_of}
use Rattle.gl_calculus.specs.Grid.Limits.{max_line}
use Rattle.laws_protocol.specs.FramingLaw.{up_to_quit, IsFramedByBytes}
use Rattle.laws_protocol.proofs.Items.Lines.{has_lf-more, first_line-more, after_line-more}
use Rattle.laws_protocol.proofs.Items.OneMore.{Stepped, one_more, kind_long}

-- An item takes a byte at least.

after_line-shorter : (t : List ℕ) → has_lf t ≡ true → length (after_line t) < length t
after_line-shorter [] h = cc
after_line-shorter (b ∷ bs) h =
    let P : Bool → Type 0 = λ c. c || has_lf bs ≡ true → length (cond c bs (after_line bs)) < suc (length bs) in
    (elim (eqb b 10) as P [ true ↦ λ e. omega arith | false ↦ λ e. omega (arith, after_line-shorter bs e) ]) h

item_at-rest : (k : Kind) (bs u : List ℕ) (p : Item × List ℕ) → item_at k bs u ≡ Some p → length p.1 ≤ length u
item_at-rest past_limit bs u p h = let e : u ≡ p.1 = cc in omega (arith, ap length e)
item_at-rest plain bs u p h = let e : u ≡ p.1 = cc in omega (arith, ap length e)
item_at-rest (header n) bs u p h =
    let P : Bool → Type 0 = λ c. cond c (Some (Import bs (take n u), drop n u)) None ≡ Some p → length p.1 ≤ length u in
    (elim (leb n (length u)) as P [ true ↦ λ e. let f : drop n u ≡ p.1 = cc in omega (arith, ap length f, length-drop n u) | false ↦ λ e. cc ]) h

first_item-shorter : (t : List ℕ) (p : Item × List ℕ) → first_item t ≡ Some p → length p.1 < length t
first_item-shorter t p h =
    let P : Bool → Type 0 = λ c. has_lf t ≡ c → cond c (item_at (kind_of (drop_cr (first_line t))) (drop_cr (first_line t)) (after_line t)) None ≡ Some p → length p.1 < length t in
    (elim (has_lf t) as P [ true ↦ λ e f. omega (arith, after_line-shorter t e, item_at-rest (kind_of (drop_cr (first_line t))) (drop_cr (first_line t)) (after_line t) p f) | false ↦ λ e f. cc ]) refl h

-- A text that goes on has the same first item.

item_at-more : (k : Kind) (bs u x : List ℕ) (p : Item × List ℕ) → item_at k bs u ≡ Some p → item_at k bs (u ++ x) ≡ Some (p.0, p.1 ++ x)
item_at-more past_limit bs u x p h = let e : Long ≡ p.0 = cc in let f : u ≡ p.1 = cc in cc
item_at-more plain bs u x p h = let e : Line bs ≡ p.0 = cc in let f : u ≡ p.1 = cc in cc
item_at-more (header n) bs u x p h =
    let P : Bool → Type 0 = λ c. leb n (length u) ≡ c → cond c (Some (Import bs (take n u), drop n u)) None ≡ Some p → item_at (header n) bs (u ++ x) ≡ Some (p.0, p.1 ++ x) in
    (elim (leb n (length u)) as P [
      | true ↦ λ e f.
          let le : n ≤ length u = grind (arith, nat_tests) in
          let l : length (u ++ x) ≡ length u + length x = length-append u x in
          let m : leb n (length (u ++ x)) ≡ true = grind (arith, nat_tests) in
          let i : Import bs (take n u) ≡ p.0 = cc in
          let r : drop n u ≡ p.1 = cc in
          rw (m, take-append-le n u x le, drop-append-le n u x le) cc
      | false ↦ λ e f. cc
    ]) refl h

first_item-more : (t x : List ℕ) (p : Item × List ℕ) → first_item t ≡ Some p → first_item (t ++ x) ≡ Some (p.0, p.1 ++ x)
first_item-more t x p h =
    let k = kind_of (drop_cr (first_line t)) in
    let l = drop_cr (first_line t) in
    let P : Bool → Type 0 = λ c. has_lf t ≡ c → cond c (item_at k l (after_line t)) None ≡ Some p → first_item (t ++ x) ≡ Some (p.0, p.1 ++ x) in
    (elim (has_lf t) as P [
      | true ↦ λ e f. rw (has_lf-more t x e, first_line-more t x e, after_line-more t x e) (item_at-more k l (after_line t) x p f)
      | false ↦ λ e f. cc
    ]) refl h

-- How far the recursion may go does not matter.

go_on-same : (o : Option (Item × List ℕ)) (f g : List ℕ → List Item) (last : List Item) → ((p : Item × List ℕ) → o ≡ Some p → f p.1 ≡ g p.1) → go_on o f last ≡ go_on o g last
go_on-same None f g last h = refl
go_on-same (Some p) f g last h = ap (λ (is : List Item). p.0 ∷ cond (is_quit p.0) [] is) (h p refl)

ended_within-enough : (n m : ℕ) (t : List ℕ) → length t ≤ n → length t ≤ m → items_within (λ u. []) n t ≡ items_within (λ u. []) m t
ended_within-enough zero zero t a b = refl
ended_within-enough zero (suc m) [] a b = refl
ended_within-enough zero (suc m) (x ∷ t) a b = absurd (omega arith)
ended_within-enough (suc n) zero [] a b = refl
ended_within-enough (suc n) zero (x ∷ t) a b = absurd (omega arith)
ended_within-enough (suc n) (suc m) t a b =
    go_on-same (first_item t) (items_within (λ u. []) n) (items_within (λ u. []) m) [] (λ p e. let s = first_item-shorter t p e in ended_within-enough n m p.1 (omega arith) (omega arith))

items_within-enough : (n m : ℕ) (t : List ℕ) → length t ≤ n → length t ≤ m → items_within last_items n t ≡ items_within last_items m t
items_within-enough zero zero t a b = refl
items_within-enough zero (suc m) [] a b = refl
items_within-enough zero (suc m) (x ∷ t) a b = absurd (omega arith)
items_within-enough (suc n) zero [] a b = refl
items_within-enough (suc n) zero (x ∷ t) a b = absurd (omega arith)
items_within-enough (suc n) (suc m) t a b =
    go_on-same (first_item t) (items_within last_items n) (items_within last_items m) (last_items t) (λ p e. let s = first_item-shorter t p e in items_within-enough n m p.1 (omega arith) (omega arith))

ended-by_first : (t : List ℕ) → ended t ≡ go_on (first_item t) ended []
unfolding ended
ended-by_first [] = refl
ended-by_first (b ∷ bs) =
    go_on-same (first_item (b ∷ bs)) (items_within (λ u. []) (length bs)) (λ u. items_within (λ u. []) (length u) u) [] (λ p e. let s = first_item-shorter (b ∷ bs) p e in ended_within-enough (length bs) (length p.1) p.1 (omega arith) (omega arith))

items-by_first : (t : List ℕ) → items t ≡ go_on (first_item t) items (last_items t)
unfolding items
items-by_first [] = refl
items-by_first (b ∷ bs) =
    go_on-same (first_item (b ∷ bs)) (items_within last_items (length bs)) (λ u. items_within last_items (length u) u) (last_items (b ∷ bs)) (λ p e. let s = first_item-shorter (b ∷ bs) p e in items_within-enough (length bs) (length p.1) p.1 (omega arith) (omega arith))

-- The end of input.

closing-line : (t : List ℕ) → has_lf t ≡ false → last_items t ≡ option_to_list (closing (line_stream t))
closing-line [] h = refl
closing-line (b ∷ bs) h =
    let t = b ∷ bs in
    let k = kind_of (drop_cr t) in
    let e : eqb (suc (length bs)) 0 ≡ false = grind (arith, nat_tests) in
    let P : Bool → Type 0 = λ c. leb (length t) (max_line + 1) ≡ c → last_item k (drop_cr t) ∷ [] ≡ option_to_list (closing (cond c (in_line t) skipped)) in
    let all : P (leb (length t) (max_line + 1)) = elim (leb (length t) (max_line + 1)) as P [
      | true ↦ λ f. refl
      | false ↦ λ f. let long : k ≡ past_limit = kind_long t (grind (arith, nat_tests)) in rw long refl
    ] in
    rw (h, e) (all refl)

closing-payload : (k : Kind) (bs u : List ℕ) → item_at k bs u ≡ None → closing (payload_stream k bs u) ≡ Some Truncated
closing-payload past_limit bs u h = cc
closing-payload plain bs u h = cc
closing-payload (header n) bs u h = refl

closing-text : (t : List ℕ) → first_item t ≡ None → last_items t ≡ option_to_list (closing (stream_of t))
closing-text [] h = refl
closing-text (b ∷ bs) h =
    let t = b ∷ bs in
    let k = kind_of (drop_cr (first_line t)) in
    let l = drop_cr (first_line t) in
    let P : Bool → Type 0 = λ c. has_lf t ≡ c → last_items t ≡ option_to_list (closing (stream_of t)) in
    (elim (has_lf t) as P [
      | true ↦ λ e. let f : item_at k l (after_line t) ≡ None = rw e at h in rw (e, closing-payload k l (after_line t) f) refl
      | false ↦ λ e. let f = closing-line t e in rw e (rw e at f)
    ]) refl

-- One byte after another.

ended-none : (t : List ℕ) → first_item t ≡ None → ended t ≡ []
ended-none t h = ended-by_first t ∙ ap (λ o. go_on o ended []) h

items-none : (t : List ℕ) → first_item t ≡ None → items t ≡ last_items t
items-none t h = items-by_first t ∙ ap (λ o. go_on o items (last_items t)) h

ended-some : (t : List ℕ) (p : Item × List ℕ) → first_item t ≡ Some p → ended t ≡ p.0 ∷ cond (is_quit p.0) [] (ended p.1)
ended-some t p h = ended-by_first t ∙ ap (λ o. go_on o ended []) h

items-some : (t : List ℕ) (p : Item × List ℕ) → first_item t ≡ Some p → items t ≡ p.0 ∷ cond (is_quit p.0) [] (items p.1)
items-some t p h = items-by_first t ∙ ap (λ o. go_on o items (last_items t)) h

-- the law of a text in which no item ends and that goes on with these bytes
record Law (t bs : List ℕ) : Type 0 where
  prefix : ended (t ++ bs) ≡ up_to_quit (gained (stream_of t) bs)
  whole : items (t ++ bs) ≡ up_to_quit (gained (stream_of t) bs ++ option_to_list (closing (after (stream_of t) bs)))

up_to_quit-one : (o : Option Item) → up_to_quit (option_to_list o) ≡ option_to_list o
up_to_quit-one None = refl
up_to_quit-one (Some i) =
    let P : Bool → Type 0 = λ c. i ∷ cond c [] [] ≡ i ∷ [] in elim (is_quit i) as P [ true ↦ refl | false ↦ refl ]

law-goes_on : (t : List ℕ) (b : ℕ) (bs : List ℕ) → step (stream_of t) b ≡ (stream_of (t ++ b ∷ []), None) → Law (t ++ b ∷ []) bs → Law t (b ∷ bs)
law-goes_on t b bs s h = record {
  prefix = rw (s, ← append_assoc t (b ∷ []) bs) h.prefix;
  whole = rw (s, ← append_assoc t (b ∷ []) bs) h.whole;
}

law-ends : (t : List ℕ) (b : ℕ) (bs : List ℕ) (p : Item × List ℕ) → first_item (t ++ b ∷ []) ≡ Some p → p.1 ≡ [] → step (stream_of t) b ≡ (nothing, Some p.0) → Law [] bs → Law t (b ∷ bs)
law-ends t b bs p f e s h =
    let g : first_item (t ++ b ∷ bs) ≡ Some (p.0, bs) = ap first_item (sym (append_assoc t (b ∷ []) bs)) ∙ (first_item-more (t ++ b ∷ []) bs p f ∙ ap (λ (u : List ℕ). Some (p.0, u ++ bs)) e) in
    record {
      prefix = ended-some (t ++ b ∷ bs) (p.0, bs) g ∙ rw s (ap (λ (is : List Item). p.0 ∷ cond (is_quit p.0) [] is) h.prefix);
      whole = items-some (t ++ b ∷ bs) (p.0, bs) g ∙ rw s (ap (λ (is : List Item). p.0 ∷ cond (is_quit p.0) [] is) h.whole);
    }

law : (t bs : List ℕ) → first_item t ≡ None → Law t bs
law t [] h = record {
  prefix = rw (append-nil t) (ended-none t h);
  whole = rw (append-nil t, up_to_quit-one (closing (stream_of t))) (items-none t h ∙ closing-text t h);
}
law t (b ∷ bs) h =
    let P : Option (Item × List ℕ) → Type 0 = λ o. first_item (t ++ b ∷ []) ≡ o → Stepped o (step (stream_of t) b) (stream_of (t ++ b ∷ [])) → Law t (b ∷ bs) in
    (elim (first_item (t ++ b ∷ [])) as P [
      | None ↦ λ e s. law-goes_on t b bs s (law (t ++ b ∷ []) bs e)
      | Some p ↦ λ e s. law-ends t b bs p e s.0 s.1 (law [] bs refl)
    ]) refl (one_more t b h)

pub framed : (text : List ℕ) → IsFramedByBytes text
framed text = let l = law [] text refl in record { prefix = l.prefix; whole = l.whole }
