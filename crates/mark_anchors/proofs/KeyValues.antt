-- What the value of a key says of each attribute.
use Rattle.std.proofs.Common.{◌≡◌, ◌↔◌, ℕ, List, Option, Some, None, sym, ap, refl, ◌∙◌, subst, Bor}
use Rattle.std.specs.Bool.{IsTrue}
use Rattle.std.specs.Option.{is_some, option_copied}
use Rattle.std.proofs.lemmas.Bool.{false≢true, and_parts}
use Rattle.std.proofs.lemmas.Option.{same_Some, none-some}
use Rattle.change_ops.specs.Keys.{is_row, type_of_row}
use Rattle.change_ops.specs.Operations.{key_of}
use Rattle.change_ops.specs.Reading.{valued}
use Rattle.change_ops.specs.Values.{RowValue, is_of_type, is_typed}
use Rattle.change_ops.specs.declared.id.OpId.{OpId}
use Rattle.change_ops.specs.declared.attribute.Key.TheVariants as key
use Rattle.change_ops.specs.declared.attribute.Attribute.{Attribute}
use Rattle.change_ops.specs.declared.attribute.Attribute.TheVariants.{Row, Comment}
use Rattle.change_ops.specs.declared.operation.Op.{Op}
use Rattle.change_ops.specs.declared.value.Value.{Value}
use Rattle.mark_anchors.specs.Format.{Bears}
use Rattle.mark_anchors.specs.Placed.{IsValue}

pub is_some-copied : {X : Type 0} (r : Option (Bor X)) → is_some (option_copied r) ≡ is_some r
is_some-copied None = refl
is_some-copied (Some x) = refl

-- where the key has one attribute
pub holds_from_value : (ops : List Op) (a : Attribute) (e : OpId) → ((b : Attribute) → key_of b ≡ key_of a → b ≡ a) → (r : Option Attribute) → IsValue ops (key_of a) e r → IsTrue (is_some r) ↔ Bears ops e a
holds_from_value ops a e unique None v = (λ t. absurd (false≢true t), λ bears. absurd (none-some a (v.all a refl bears)))
holds_from_value ops a e unique (Some b) v = (
  λ t.
      let found = v.some b refl in
      subst (λ z. Bears ops e z) (unique b found.0) found.1,
  λ bears. refl,
)

pub one_comment : (n : ℕ) (b : Attribute) → key_of b ≡ key_of (Comment n) → b ≡ Comment n
one_comment n (Row held) is = cc
one_comment n (Comment m) is = let same : m ≡ n = cc in ap Comment same

-- ---- a key of one value
pub row_of_key : (held : RowValue) (row : ℕ) → key_of (Row held) ≡ key.Row row → held.row ≡ row
row_of_key held row is = cc

valued_as : (held : RowValue) (row : ℕ) (value : Value) → held.row ≡ row → held.value ≡ value → Row held ≡ valued row value
valued_as held row value of_key same = λ i. Row (record { row = of_key i; value = same i })

value_of : (held : RowValue) (row : ℕ) (value : Value) → Row held ≡ valued row value → held.value ≡ value
value_of held row value is =
    let one : held ≡ record { row = row; value = value } = cc in
    ap (λ (r : RowValue). r.value) one

-- the value of the attribute that holds
pub row_from_value : (ops : List Op) (e : OpId) (row : ℕ) (held : RowValue) (v : Value) → v ≡ held.value → IsValue ops (key.Row row) e (Some (Row held)) → (value : Value) → (Some v ≡ Some value) ↔ Bears ops e (valued row value)
row_from_value ops e row held v is found value =
    let here = found.some (Row held) refl in (
      λ same. subst (λ z. Bears ops e z) (valued_as held row value (row_of_key held row here.0) (sym is ∙ same_Some v value same)) here.1,
      λ bears. ap Some (is ∙ value_of held row value (same_Some (Row held) (valued row value) (found.all (valued row value) refl bears))),
    )

-- no attribute of the key holds
pub no_row : (ops : List Op) (e : OpId) (row : ℕ) (r : Option Attribute) → IsValue ops (key.Row row) e r → ((held : RowValue) → r ≡ Some (Row held) → ⊥) → (value : Value) → (None ≡ Some value) ↔ Bears ops e (valued row value)
no_row ops e row r found not value = (
  λ is. absurd (none-some value is),
  λ bears. absurd (not (record { row = row; value = value }) (found.all (valued row value) refl bears)),
)

pub typed_row : (held : RowValue) (row : ℕ) (v : Value) → key_of (Row held) ≡ key.Row row → v ≡ held.value → IsTrue (is_typed held) → IsTrue (is_of_type (type_of_row row) v)
typed_row held row v of_key is typed =
    let parts = and_parts (is_row held.row) (is_of_type (type_of_row held.row) held.value) typed in
    let here : IsTrue (is_of_type (type_of_row row) held.value) = subst (λ r. IsTrue (is_of_type (type_of_row r) held.value)) (row_of_key held row of_key) parts.1 in
    subst (λ z. IsTrue (is_of_type (type_of_row row) z)) (sym is) here
