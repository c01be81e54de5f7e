-- Equality and hashing go by the plain values.
use Rattle.std.specs.Prelude.{◌≡◌, ◌↔◌, Bool, IsTrue}
use Rattle.gl_value.specs.View.{error_tree, scalar_tree, value_tree, array_tree, sheet_tree, frame_tree}
use Rattle.gl_value.specs.Made.{made_tree, shown_tree}
use Rattle.gl_value.specs.contracts.ErrKindPartialEq.TheImpl.{ghosts as error}
use Rattle.gl_value.specs.contracts.ScalarPartialEq.TheImpl.{ghosts as scalar}
use Rattle.gl_value.specs.contracts.ArrayPartialEq.TheImpl.{ghosts as array}
use Rattle.gl_value.specs.contracts.ValuePartialEq.TheImpl.{ghosts as value}
use Rattle.gl_value.specs.contracts.SheetValPartialEq.TheImpl.{ghosts as sheet}
use Rattle.gl_value.specs.contracts.EnvPartialEq.TheImpl.{ghosts as frame}
use Rattle.gl_value.specs.contracts.ShownPartialEq.TheImpl.{ghosts as shown}
use Rattle.gl_value.specs.contracts.MadePartialEq.TheImpl.{ghosts as made}
use Rattle.gl_value.specs.contracts.ScalarHash.TheImpl.{ghosts as scalar_hash}
use Rattle.gl_value.specs.contracts.ArrayHash.TheImpl.{ghosts as array_hash}
use Rattle.gl_value.specs.contracts.ValueHash.TheImpl.{ghosts as value_hash}
use Rattle.gl_value.specs.contracts.SheetValHash.TheImpl.{ghosts as sheet_hash}
use Rattle.gl_value.specs.contracts.EnvHash.TheImpl.{ghosts as frame_hash}

-- the test is true exactly where the plain values are equal
abbrev pub ComparesBy : {A T : Type 0} → (A → T) → (A → A → Bool) → Type 0
ComparesBy {A} {T} plain same = (x y : A) → IsTrue (same x y) ↔ (plain x ≡ plain y)

-- what is fed to a hasher is the same where the plain values are equal
abbrev pub HashesBy : {A T H : Type 0} → (A → T) → (A → H) → Type 0
HashesBy {A} {T} {H} plain hash = (x y : A) → plain x ≡ plain y → hash x ≡ hash y

abbrev pub ErrorsCompareByTree : Type 0
ErrorsCompareByTree = ComparesBy error_tree error.eq

abbrev pub ScalarsCompareByTree : Type 0
ScalarsCompareByTree = ComparesBy scalar_tree scalar.eq

abbrev pub ArraysCompareByTree : Type 0
ArraysCompareByTree = ComparesBy array_tree array.eq

abbrev pub ValuesCompareByTree : Type 0
ValuesCompareByTree = ComparesBy value_tree value.eq

abbrev pub SheetsCompareByTree : Type 0
SheetsCompareByTree = ComparesBy sheet_tree sheet.eq

abbrev pub FramesCompareByTree : Type 0
FramesCompareByTree = ComparesBy frame_tree frame.eq

abbrev pub ShownCompareByTree : Type 0
ShownCompareByTree = ComparesBy shown_tree shown.eq

abbrev pub MadeCompareByTree : Type 0
MadeCompareByTree = ComparesBy made_tree made.eq

abbrev pub ScalarsHashByTree : Type 0
ScalarsHashByTree = HashesBy scalar_tree scalar_hash.hash_input

abbrev pub ArraysHashByTree : Type 0
ArraysHashByTree = HashesBy array_tree array_hash.hash_input

abbrev pub ValuesHashByTree : Type 0
ValuesHashByTree = HashesBy value_tree value_hash.hash_input

abbrev pub SheetsHashByTree : Type 0
SheetsHashByTree = HashesBy sheet_tree sheet_hash.hash_input

abbrev pub FramesHashByTree : Type 0
FramesHashByTree = HashesBy frame_tree frame_hash.hash_input
