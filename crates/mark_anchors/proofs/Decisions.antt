-- What was decided of the keys, row by row.
use Rattle.std.proofs.Common.{◌≡◌, ◌↔◌, ◌∙◌, ◌+◌, ◌<◌, ◌≤◌, ℕ, List, Option, Some, None, IfSome, map, length, get_or, set, IsTrue, Bor, refl, sym, ap, subst, arith, ext_get_or, length-set, get_or-set_other}
use Rattle.std.specs.Option.{option_copied}
use Rattle.std.specs.Array.{AllZipBelow}
use Rattle.std.specs.List.{slice_get}
use Rattle.std.proofs.lemmas.List.{get_or-map, length-map, same_lists, set-get_or}
use Rattle.std.proofs.lemmas.Option.{none-some, same_Some, slice_get-get_or, slice_get_within, get_or_from_slice_get}
use Rattle.change_ops.specs.Keys.{type_of_row}
use Rattle.change_ops.specs.Reading.{valued}
use Rattle.change_ops.specs.Values.{is_of_type}
use Rattle.change_ops.specs.declared.operation.Op.{Op}
use Rattle.change_ops.specs.declared.value.Value.{Value}
use Rattle.char_sequence.specs.declared.sequence.Element.{Element}
use Rattle.char_sequence.specs.Order.{Shows}
use Rattle.mark_anchors.specs.Format.{Bears}
use Rattle.mark_anchors.specs.Marks.{AreMarks}
use Rattle.mark_anchors.specs.Resolution.{AreTyped}
use Rattle.mark_anchors.proofs.Lists.{read_at, set_more}

-- the value is what holds of the row's key at the place
abbrev pub IsRowAt : List Element → List Op → ℕ → ℕ → Option Value → Type 0
IsRowAt es marks place row held =
    (ops : List Op) (e : Element) → Shows es ops → AreMarks ops marks → slice_get es place ≡ Some e
    → (value : Value) → (held ≡ Some value) ↔ Bears ops e.id (valued row value)

-- the value is of the type of the row's key
abbrev pub IsRowTyped : ℕ → Option Value → Type 0
IsRowTyped row held = (value : Value) → held ≡ Some value → IsTrue (is_of_type (type_of_row row) value)

-- the value that is lent in a row is the row's
pub read_value : (values : List (Option (Bor Value))) (row : ℕ) (read : Option (Bor Value)) → row < length values → get_or values row None ≡ read → get_or (map option_copied values) row None ≡ option_copied read
read_value values row read within is = get_or-map option_copied values row None None within ∙ ap option_copied is

pub typed_value : (values : List (Option (Bor Value))) (row : ℕ) (v : Bor Value) → row < length values → get_or values row None ≡ Some v → AreTyped (map option_copied values) → IsTrue (is_of_type (type_of_row row) v.now)
typed_value values row v within is typed =
    let size : length (map option_copied values) ≡ length values = length-map values option_copied in
    typed row v.now (slice_get-get_or (map option_copied values) row None (omega arith) ∙ ap Some (read_value values row (Some v) within is))

-- values that are of their types, one by one
pub all_typed : (values : List (Option (Bor Value))) → ((row : ℕ) (value : Value) → row < length values → option_copied (get_or values row None) ≡ Some value → IsTrue (is_of_type (type_of_row row) value)) → AreTyped (map option_copied values)
all_typed values each row value at =
    let size : length (map option_copied values) ≡ length values = length-map values option_copied in
    let low : row < length (map option_copied values) = slice_get_within (map option_copied values) row (Some value) at in
    let within : row < length values = omega arith in
    each row value within (sym (get_or-map option_copied values row None None within) ∙ get_or_from_slice_get (map option_copied values) row (Some value) None at)

pub copied_length : (values : List (Option (Bor Value))) → length (map option_copied values) ≡ length values
copied_length values = length-map values option_copied

pub row_typed : (row : ℕ) (read : Option (Bor Value)) → IfSome read (λ value. IsTrue (is_of_type (type_of_row row) value.now)) → IsRowTyped row (option_copied read)
row_typed row None typed value is = absurd (none-some value is)
row_typed row (Some v) typed value is = subst (λ z. IsTrue (is_of_type (type_of_row row) z)) (same_Some v.now value is) typed

pub none_of : {X : Type 0} (o : Option X) → ((x : X) → o ≡ Some x → ⊥) → o ≡ None
none_of None not = refl
none_of (Some x) not = absurd (not x refl)

-- ---- one value more is kept
module _ (held : List (Option (Bor Value))) (old new : List (Option Value)) (row : ℕ) (within : row < length old) (put : new ≡ set old row (option_copied (get_or held row None))) where
  pub done_more : ((k : ℕ) → k < row → get_or old k None ≡ option_copied (get_or held k None)) → (k : ℕ) → k < row + 1 → get_or new k None ≡ option_copied (get_or held k None)
  done_more done k less =
      ap (λ (l : List (Option Value)). get_or l k None) put
      ∙ set_more (λ n x. x ≡ option_copied (get_or held n None)) old row (option_copied (get_or held row None)) None within done refl k less

  pub rest_more : ((k : ℕ) → row ≤ k → get_or old k None ≡ None) → (k : ℕ) → row + 1 ≤ k → get_or new k None ≡ None
  rest_more rest k past =
      ap (λ (l : List (Option Value)). get_or l k None) put
      ∙ get_or-set_other old row k (option_copied (get_or held row None)) None (λ same. omega arith) ∙ rest k (omega arith)

  pub size_kept : length new ≡ length old
  size_kept = ap length put ∙ length-set old row (option_copied (get_or held row None))

-- a row without a value stays as it is
pub put_none : (held : List (Option (Bor Value))) (old : List (Option Value)) (row : ℕ) → get_or held row None ≡ None → get_or old row None ≡ None → old ≡ set old row (option_copied (get_or held row None))
put_none held old row none rest =
    sym (set-get_or old row None) ∙ ap (set old row) (rest ∙ ap option_copied (sym none))

pub all_kept : (held : List (Option (Bor Value))) (values : List (Option Value)) → length values ≡ length held → ((k : ℕ) → k < length held → get_or values k None ≡ option_copied (get_or held k None)) → values ≡ map option_copied held
all_kept held values sized done =
    ext_get_or None values (map option_copied held) (sized ∙ sym (copied_length held))
    (λ k less.
    let within : k < length held = omega (arith, sized) in
    done k within ∙ sym (read_value held k (get_or held k None) within refl))

-- ---- clones that are what they were made of
pub same_clones : {A : Type 0} {R : A → A → Type 0} (xs ys : List A) (n : ℕ) → ((x y : A) → R x y → y ≡ x) → AllZipBelow R xs ys n → length xs ≡ n → ys ≡ xs
same_clones xs ys n same zip sized =
    same_lists ys xs (zip.long ∙ sym sized)
    (λ k d less.
    let long : length ys ≡ n = zip.long in
    same (get_or xs k d) (get_or ys k d) (zip.at k d d (omega arith)))

-- ---- values that are lent, row by row
pub same_rows : (xs ys : List (Option (Bor Value))) → length xs ≡ length ys → ((row : ℕ) → row < length xs → option_copied (get_or xs row None) ≡ option_copied (get_or ys row None)) → map option_copied xs ≡ map option_copied ys
same_rows xs ys sized same =
    ext_get_or None (map option_copied xs) (map option_copied ys) (copied_length xs ∙ sized ∙ sym (copied_length ys))
    (λ row less.
    let size : length (map option_copied xs) ≡ length xs = copied_length xs in
    let within : row < length xs = omega arith in
    let other : row < length ys = omega (arith, sized) in
    read_value xs row (get_or xs row None) within refl ∙ same row within ∙ sym (read_value ys row (get_or ys row None) other refl))

pub same_at : (xs ys : List (Option (Bor Value))) (row : ℕ) (x y : Option (Bor Value)) → x ≡ get_or xs row x → y ≡ get_or ys row y → row < length xs → row < length ys → map option_copied xs ≡ map option_copied ys → option_copied x ≡ option_copied y
same_at xs ys row x y first second within other same =
    sym (read_value xs row x within (get_or_from_slice_get xs row x None (read_at xs row x first within)))
    ∙ ap (λ (l : List (Option Value)). get_or l row None) same
    ∙ read_value ys row y other (get_or_from_slice_get ys row y None (read_at ys row y second other))
