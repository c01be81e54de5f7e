-- Codes of the plain trees, by which values of models are told apart: each tree as a tree of numbers, and back.
use Rattle.std.proofs.Common.{◌≡◌, ℕ, zero, suc, ℤ, pos, negsuc, Bool, true, false, List, [], ◌∷◌, refl, sym, ap, ◌∙◌}
use base.Stored.{Gv, gnil, gnum, gcons, Coded, coded_list, coded×}
use Rattle.std.specs.Coded.{code_by}
use Rattle.gl_calculus.specs.Computation.Notes.{Note}
use Rattle.gl_calculus.specs.Grid.Grid.{Addr, Range, Size, addr, range, size}
use Rattle.gl_calculus.specs.Values.ErrKind.{ErrKind}
use Rattle.gl_calculus.specs.Values.Value as V
use Rattle.gl_calculus.specs.Values.Value.{Permit, Entry, Oracle, Scalar, Scalars, Value, Overrides, SheetValue, Frame}
use Rattle.gl_calculus.specs.Evaluation.Key as K
use Rattle.gl_calculus.specs.Calculation.Memory.{Table}

-- ---- to trees of numbers

abbrev code_addr : Addr → Gv
code_addr a = gcons (gnum a.col) (gnum a.row)

abbrev code_range : Range → Gv
code_range r = gcons (code_addr r.first) (code_addr r.last)

abbrev code_size : Size → Gv
code_size s = gcons (gnum s.rows) (gnum s.cols)

abbrev code_int : ℤ → Gv
code_int (pos n) = gcons (gnum zero) (gnum n)
code_int (negsuc n) = gcons (gnum (suc zero)) (gnum n)

abbrev code_bool : Bool → Gv
code_bool true = gnum zero
code_bool false = gnum (suc zero)

abbrev code_bytes : List ℕ → Gv
code_bytes [] = gnil
code_bytes (b ∷ bs) = gcons (gnum b) (code_bytes bs)

abbrev code_error : ErrKind → Gv
code_error ErrKind.Ref = gnum zero
code_error ErrKind.Value = gnum (suc zero)
code_error ErrKind.Div0 = gnum (suc (suc zero))
code_error ErrKind.Num = gnum (suc (suc (suc zero)))
code_error ErrKind.Na = gnum (suc (suc (suc (suc zero))))
code_error ErrKind.Spill = gnum (suc (suc (suc (suc (suc zero)))))
code_error ErrKind.Size = gnum (suc (suc (suc (suc (suc (suc zero))))))

abbrev code_permit : Permit → Gv
code_permit V.Permitted = gnum zero
code_permit V.Refused = gnum (suc zero)

abbrev code_entry : Entry → Gv
code_entry x = gcons (code_addr x.root) (gcons (code_size x.size) (code_permit x.permit))

abbrev code_oracle : Oracle → Gv
code_oracle [] = gnil
code_oracle (x ∷ xs) = gcons (code_entry x) (code_oracle xs)

abbrev mutual
  code_scalar : Scalar → Gv
  code_scalar Scalar.Blank = gcons (gnum zero) gnil
  code_scalar (Scalar.Int n) = gcons (gnum (suc zero)) (code_int n)
  code_scalar (Scalar.Bool b) = gcons (gnum (suc (suc zero))) (code_bool b)
  code_scalar (Scalar.Text t) = gcons (gnum (suc (suc (suc zero)))) (code_bytes t)
  code_scalar (Scalar.Err k) = gcons (gnum (suc (suc (suc (suc zero))))) (code_error k)
  code_scalar (Scalar.Sheet s) = gcons (gnum (suc (suc (suc (suc (suc zero)))))) (code_sheet s)

  code_scalars : Scalars → Gv
  code_scalars Scalars.no_scalar = gnil
  code_scalars (Scalars.scalar_and x xs) = gcons (code_scalar x) (code_scalars xs)

  code_value : Value → Gv
  code_value (Value.One x) = gcons (gnum zero) (code_scalar x)
  code_value (Value.Array z xs) = gcons (gnum (suc zero)) (gcons (code_size z) (code_scalars xs))

  code_overrides : Overrides → Gv
  code_overrides Overrides.no_override = gnil
  code_overrides (Overrides.override_and a v os) = gcons (gcons (code_addr a) (code_value v)) (code_overrides os)

  code_sheet : SheetValue → Gv
  code_sheet (V.sheet_value r os e k w) = gcons (code_range r) (gcons (code_overrides os) (gcons (code_frame e) (gcons (gnum k) (gnum w))))

  code_frame : Frame → Gv
  code_frame Frame.Top = gnil
  code_frame (Frame.In s o) = gcons (code_sheet s) (code_oracle o)

-- ---- and back

abbrev number_of : Gv → ℕ
number_of gnil = zero
number_of (gnum n) = n
number_of (gcons a b) = zero

abbrev addr_of : Gv → Addr
addr_of gnil = addr zero zero
addr_of (gnum n) = addr zero zero
addr_of (gcons a b) = addr (number_of a) (number_of b)

abbrev range_of : Gv → Range
range_of gnil = range (addr zero zero) (addr zero zero)
range_of (gnum n) = range (addr zero zero) (addr zero zero)
range_of (gcons a b) = range (addr_of a) (addr_of b)

abbrev size_of : Gv → Size
size_of gnil = size zero zero
size_of (gnum n) = size zero zero
size_of (gcons a b) = size (number_of a) (number_of b)

abbrev int_by : ℕ → ℕ → ℤ
int_by zero n = pos n
int_by (suc k) n = negsuc n

abbrev int_of : Gv → ℤ
int_of gnil = pos zero
int_of (gnum n) = pos zero
int_of (gcons a b) = int_by (number_of a) (number_of b)

abbrev bool_by : ℕ → Bool
bool_by zero = true
bool_by (suc n) = false

abbrev bytes_of : Gv → List ℕ
bytes_of gnil = []
bytes_of (gnum n) = []
bytes_of (gcons a b) = number_of a ∷ bytes_of b

abbrev error_by : ℕ → ErrKind
error_by zero = ErrKind.Ref
error_by (suc zero) = ErrKind.Value
error_by (suc (suc zero)) = ErrKind.Div0
error_by (suc (suc (suc zero))) = ErrKind.Num
error_by (suc (suc (suc (suc zero)))) = ErrKind.Na
error_by (suc (suc (suc (suc (suc zero))))) = ErrKind.Spill
error_by (suc (suc (suc (suc (suc (suc n)))))) = ErrKind.Size

abbrev permit_by : ℕ → Permit
permit_by zero = V.Permitted
permit_by (suc n) = V.Refused

abbrev first_of : Gv → Gv
first_of gnil = gnil
first_of (gnum n) = gnil
first_of (gcons a b) = a

abbrev rest_of : Gv → Gv
rest_of gnil = gnil
rest_of (gnum n) = gnil
rest_of (gcons a b) = b

abbrev entry_of : Gv → Entry
entry_of g = record { root = addr_of (first_of g); size = size_of (first_of (rest_of g)); permit = permit_by (number_of (rest_of (rest_of g))) }

abbrev oracle_of : Gv → Oracle
oracle_of gnil = []
oracle_of (gnum n) = []
oracle_of (gcons a b) = entry_of a ∷ oracle_of b

abbrev scalar_by : ℕ → Gv → SheetValue → Scalar
scalar_by zero g s = Scalar.Blank
scalar_by (suc zero) g s = Scalar.Int (int_of g)
scalar_by (suc (suc zero)) g s = Scalar.Bool (bool_by (number_of g))
scalar_by (suc (suc (suc zero))) g s = Scalar.Text (bytes_of g)
scalar_by (suc (suc (suc (suc zero)))) g s = Scalar.Err (error_by (number_of g))
scalar_by (suc (suc (suc (suc (suc n))))) g s = Scalar.Sheet s

abbrev mutual
  scalar_of : Gv → Scalar
  scalar_of gnil = Scalar.Blank
  scalar_of (gnum n) = Scalar.Blank
  scalar_of (gcons a b) = scalar_by (number_of a) b (sheet_of b)

  scalars_of : Gv → Scalars
  scalars_of gnil = Scalars.no_scalar
  scalars_of (gnum n) = Scalars.no_scalar
  scalars_of (gcons a b) = Scalars.scalar_and (scalar_of a) (scalars_of b)

  value_of : Gv → Value
  value_of gnil = Value.One Scalar.Blank
  value_of (gnum n) = Value.One Scalar.Blank
  value_of (gcons (gnum zero) b) = Value.One (scalar_of b)
  value_of (gcons a (gcons z xs)) = Value.Array (size_of z) (scalars_of xs)
  value_of (gcons a b) = Value.One Scalar.Blank

  overrides_of : Gv → Overrides
  overrides_of gnil = Overrides.no_override
  overrides_of (gnum n) = Overrides.no_override
  overrides_of (gcons (gcons a v) b) = Overrides.override_and (addr_of a) (value_of v) (overrides_of b)
  overrides_of (gcons a b) = Overrides.no_override

  sheet_of : Gv → SheetValue
  sheet_of (gcons r (gcons os (gcons e kw))) = V.sheet_value (range_of r) (overrides_of os) (frame_of e) (number_of (first_of kw)) (number_of (rest_of kw))
  sheet_of g = V.sheet_value (range_of gnil) Overrides.no_override Frame.Top zero zero

  frame_of : Gv → Frame
  frame_of gnil = Frame.Top
  frame_of (gnum n) = Frame.Top
  frame_of (gcons a b) = Frame.In (sheet_of a) (oracle_of b)

-- ---- there and back

pub back_int : (n : ℤ) → int_of (code_int n) ≡ n
back_int (pos n) = refl
back_int (negsuc n) = refl

pub back_bool : (b : Bool) → bool_by (number_of (code_bool b)) ≡ b
back_bool true = refl
back_bool false = refl

pub back_bytes : (t : List ℕ) → bytes_of (code_bytes t) ≡ t
back_bytes [] = refl
back_bytes (b ∷ t) = ap (λ u. b ∷ u) (back_bytes t)

pub back_error : (k : ErrKind) → error_by (number_of (code_error k)) ≡ k
back_error ErrKind.Ref = refl
back_error ErrKind.Value = refl
back_error ErrKind.Div0 = refl
back_error ErrKind.Num = refl
back_error ErrKind.Na = refl
back_error ErrKind.Spill = refl
back_error ErrKind.Size = refl

pub back_entry : (x : Entry) → entry_of (code_entry x) ≡ x
back_entry x = by x.permit refl
  where
    by : (p : Permit) → x.permit ≡ p → entry_of (code_entry x) ≡ x
    by V.Permitted e = λ i. record { root = x.root; size = x.size; permit = (ap (λ q. permit_by (number_of (code_permit q))) e ∙ sym e) i }
    by V.Refused e = λ i. record { root = x.root; size = x.size; permit = (ap (λ q. permit_by (number_of (code_permit q))) e ∙ sym e) i }

pub back_oracle : (o : Oracle) → oracle_of (code_oracle o) ≡ o
back_oracle [] = refl
back_oracle (x ∷ o) = λ i. back_entry x i ∷ back_oracle o i

mutual
  pub back_scalar : (x : Scalar) → scalar_of (code_scalar x) ≡ x
  back_scalar Scalar.Blank = refl
  back_scalar (Scalar.Int n) = ap Scalar.Int (back_int n)
  back_scalar (Scalar.Bool b) = ap Scalar.Bool (back_bool b)
  back_scalar (Scalar.Text t) = ap Scalar.Text (back_bytes t)
  back_scalar (Scalar.Err k) = ap Scalar.Err (back_error k)
  back_scalar (Scalar.Sheet s) = ap Scalar.Sheet (back_sheet s)

  pub back_scalars : (xs : Scalars) → scalars_of (code_scalars xs) ≡ xs
  back_scalars Scalars.no_scalar = refl
  back_scalars (Scalars.scalar_and x xs) = λ i. Scalars.scalar_and (back_scalar x i) (back_scalars xs i)

  pub back_value : (v : Value) → value_of (code_value v) ≡ v
  back_value (Value.One x) = ap Value.One (back_scalar x)
  back_value (Value.Array z xs) = ap (Value.Array z) (back_scalars xs)

  pub back_overrides : (os : Overrides) → overrides_of (code_overrides os) ≡ os
  back_overrides Overrides.no_override = refl
  back_overrides (Overrides.override_and a v os) = λ i. Overrides.override_and a (back_value v i) (back_overrides os i)

  pub back_sheet : (s : SheetValue) → sheet_of (code_sheet s) ≡ s
  back_sheet (V.sheet_value r os e k w) = λ i. V.sheet_value r (back_overrides os i) (back_frame e i) k w

  pub back_frame : (e : Frame) → frame_of (code_frame e) ≡ e
  back_frame Frame.Top = refl
  back_frame (Frame.In s o) = λ i. Frame.In (back_sheet s i) (back_oracle o i)

-- ---- the codes

pub by_back : {A : Type 0} (code : A → Gv) (from : Gv → A) → ((x : A) → from (code x) ≡ x) → (x y : A) → code x ≡ code y → x ≡ y
by_back code from back x y p = sym (back x) ∙ ap from p ∙ back y

abbrev pub coded_addr : Coded Addr
coded_addr = record { code = code_addr; inj = by_back code_addr addr_of (λ x. refl) }

abbrev pub coded_range : Coded Range
coded_range = record { code = code_range; inj = by_back code_range range_of (λ x. refl) }

abbrev pub coded_oracle : Coded Oracle
coded_oracle = record { code = code_oracle; inj = by_back code_oracle oracle_of back_oracle }

abbrev pub coded_value : Coded Value
coded_value = record { code = code_value; inj = by_back code_value value_of back_value }

abbrev pub coded_frame : Coded Frame
coded_frame = record { code = code_frame; inj = by_back code_frame frame_of back_frame }

abbrev pub coded_sheet : Coded SheetValue
coded_sheet = record { code = code_sheet; inj = by_back code_sheet sheet_of back_sheet }

abbrev code_key : K.Key → Gv
code_key (K.Cell e a) = gcons (gnum zero) (gcons (code_frame e) (code_addr a))
code_key (K.Settle s) = gcons (gnum (suc zero)) (code_sheet s)

abbrev key_by : ℕ → Gv → K.Key
key_by zero g = K.Cell (frame_of (first_of g)) (addr_of (rest_of g))
key_by (suc n) g = K.Settle (sheet_of g)

pub back_key : (k : K.Key) → key_by (number_of (first_of (code_key k))) (rest_of (code_key k)) ≡ k
back_key (K.Cell e a) = ap (λ f. K.Cell f a) (back_frame e)
back_key (K.Settle s) = ap K.Settle (back_sheet s)

abbrev pub coded_key : Coded K.Key
coded_key = record { code = code_key; inj = by_back code_key (λ g. key_by (number_of (first_of g)) (rest_of g)) back_key }

abbrev code_budget : K.Budget → Gv
code_budget K.Depth = gnum zero
code_budget K.CopyRounds = gnum (suc zero)

abbrev budget_by : ℕ → K.Budget
budget_by zero = K.Depth
budget_by (suc n) = K.CopyRounds

pub back_budget : (b : K.Budget) → budget_by (number_of (code_budget b)) ≡ b
back_budget K.Depth = refl
back_budget K.CopyRounds = refl

abbrev code_outcome : K.Outcome → Gv
code_outcome (K.Outcome.Value v) = gcons (gnum zero) (code_value v)
code_outcome (K.Settled o) = gcons (gnum (suc zero)) (code_oracle o)
code_outcome (K.Abort b) = gcons (gnum (suc (suc zero))) (code_budget b)

abbrev outcome_by : ℕ → Gv → K.Outcome
outcome_by zero g = K.Outcome.Value (value_of g)
outcome_by (suc zero) g = K.Settled (oracle_of g)
outcome_by (suc (suc n)) g = K.Abort (budget_by (number_of g))

pub back_outcome : (o : K.Outcome) → outcome_by (number_of (first_of (code_outcome o))) (rest_of (code_outcome o)) ≡ o
back_outcome (K.Outcome.Value v) = ap K.Outcome.Value (back_value v)
back_outcome (K.Settled o) = ap K.Settled (back_oracle o)
back_outcome (K.Abort b) = ap K.Abort (back_budget b)

abbrev pub coded_outcome : Coded K.Outcome
coded_outcome = record { code = code_outcome; inj = by_back code_outcome (λ g. outcome_by (number_of (first_of g)) (rest_of g)) back_outcome }

abbrev pub coded_note : Coded (Note K.Key K.Outcome Range)
coded_note = code_by (((K.Key × K.Outcome) × List K.Key) × List Range) (coded× (coded× (coded× coded_key coded_outcome) (coded_list coded_key)) (coded_list coded_range)) (λ n. (((n.key, n.outcome), n.reads), n.looked)) (λ p. record { key = p.0.0.0; outcome = p.0.0.1; reads = p.0.1; looked = p.1 }) (λ n. refl)

abbrev pub coded_table : Coded Table
coded_table = code_by (Oracle × List (Note K.Key K.Outcome Range)) (coded× coded_oracle (coded_list coded_note)) (λ t. (t.oracle, t.notes)) (λ p. record { oracle = p.0; notes = p.1 }) (λ t. refl)
