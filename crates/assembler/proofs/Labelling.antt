-- The labels of the first lines, one line after the other.
use Rattle.std.proofs.Common.{◌≡◌, ℕ, suc, ◌≤◌, ◌<◌, ◌+◌, Bool, true, false, if◌then◌else◌, List, [], ◌∷◌, ◌++◌, length, take, get_or, Option, Some, None, refl, sym, ap, subst, ◌∙◌, arith}
use Rattle.std.specs.Option.{option_map, is_some}
use Rattle.std.specs.Str.{bytes_eq}
use Rattle.std.specs.Map.{update}
use Rattle.std.specs.Prelude.{sum_by}
use Rattle.std.proofs.lemmas.List.Sums.{sum_by_more, sum_by_more_le}
use Rattle.std.proofs.lemmas.List.{take_more, length-take-le}
use Rattle.std.proofs.lemmas.Slice.Eq.{bytes_eq-Decides}
use Rattle.assembler.specs.declared.labels.Definition.{Definition}
use Rattle.assembler_lines.specs.Shapes.{either}
use Rattle.assembler_lines.specs.Slots.{definition, has_label, label_of, first_slot, slots}
use Rattle.assembler.specs.Labels.{Table, held, defined_at, HoldsLabels, Defines, DefinesLabel}

either_none : {A : Type 0} (o : Option A) → either o None ≡ o
either_none None = refl
either_none (Some a) = refl

mapped_either : {A B : Type 0} (f : A → B) (o p : Option A) → option_map f (either o p) ≡ either (option_map f o) (option_map f p)
mapped_either f None p = refl
mapped_either f (Some a) p = refl

mapped_here : {A B : Type 0} (f : A → B) (b : Bool) (a : A) → option_map f (if b then Some a else None) ≡ (if b then Some (f a) else None)
mapped_here f true a = refl
mapped_here f false a = refl

-- the first of a name among the lines and one line more
one_longer : (b c : Bool) (o : Option ℕ) (n : ℕ) → (if b then Some 0 else option_map suc (either o (if c then Some n else None))) ≡ either (if b then Some 0 else option_map suc o) (if c then Some (suc n) else None)
one_longer true c o n = refl
one_longer false c (Some j) n = refl
one_longer false true None n = refl
one_longer false false None n = refl

definition_push : (lines : List (List ℕ)) (line name : List ℕ) → definition (lines ++ line ∷ []) name ≡ either (definition lines name) (if has_label name line then Some (length lines) else None)
definition_push [] line name = refl
definition_push (l ∷ lines) line name =
    ap (λ (o : Option ℕ). if has_label name l then Some 0 else option_map suc o) (definition_push lines line name)
    ∙ one_longer (has_label name l) (has_label name line) (definition lines name) (length lines)

pub definition_more : (lines : List (List ℕ)) (i : ℕ) (name : List ℕ) → i < length lines
    → definition (take (i + 1) lines) name ≡ either (definition (take i lines) name) (if has_label name (get_or lines i []) then Some i else None)
definition_more lines i name lt =
    rw (take_more lines i [] lt) (definition_push (take i lines) (get_or lines i []) name
    ∙ ap (λ (n : ℕ). either (definition (take i lines) name) (if has_label name (get_or lines i []) then Some n else None)) (length-take-le i lines (omega arith)))

-- a line that is no label defines none
pub labels_same : (lines : List (List ℕ)) (i : ℕ) (labels : Table) → i < length lines → label_of (get_or lines i []) ≡ None
    → HoldsLabels lines i labels → HoldsLabels lines (i + 1) labels
labels_same lines i labels lt none h name =
    h name ∙ ap (option_map (defined_at lines)) (sym (definition_more lines i name lt ∙ rw none (either_none (definition (take i lines) name))))

-- a label is defined by the first line that has it
pub labels_more : (lines : List (List ℕ)) (i : ℕ) (old new : Table) (word : List ℕ) → i < length lines → label_of (get_or lines i []) ≡ Some word
    → HoldsLabels lines i old → Defines old new word (defined_at lines i) → HoldsLabels lines (i + 1) new
labels_more lines i old new word lt some h defines name =
    let before = definition (take i lines) name in
    let longer : definition (take (i + 1) lines) name ≡ either before (if bytes_eq word name then Some i else None) = definition_more lines i name lt ∙ rw some refl in
    let mapped = mapped_either (defined_at lines) before (if bytes_eq word name then Some i else None)
    ∙ ap (either (option_map (defined_at lines) before)) (mapped_here (defined_at lines) (bytes_eq word name) i) in
    defines name ∙ ap (λ (o : Option Definition). either o (if bytes_eq word name then Some (defined_at lines i) else None)) (h name)
    ∙ sym (ap (option_map (defined_at lines)) longer ∙ mapped)

set_on : (b : Bool) (o : Option Definition) (d : Definition) → (b ≡ true → is_some o ≡ false) → (if b then Some d else o) ≡ either o (if b then Some d else None)
set_on true None d h = refl
set_on true (Some x) d h = absurd (let e = h refl in cc)
set_on false None d h = refl
set_on false (Some x) d h = refl

pub defines_set : (old new : Table) (word : List ℕ) (d : Definition) → is_some (held old word) ≡ false
    → ((other : List ℕ) → held new other ≡ update bytes_eq (held old) word (Some d) other) → Defines old new word d
defines_set old new word d none updates other =
    updates other ∙ set_on (bytes_eq word other) (held old other) d
    (λ same. subst (λ (w : List ℕ). is_some (held old w) ≡ false) ((bytes_eq-Decides word other).0 same) none)

pub first_slot_more : (lines : List (List ℕ)) (i : ℕ) → i < length lines → first_slot lines (i + 1) ≡ first_slot lines i + slots (get_or lines i [])
unfolding first_slot
first_slot_more lines i lt = sum_by_more slots lines i [] lt

-- a line is within what is left of the lengths
pub room_for : (lines : List (List ℕ)) (i slot : ℕ) (line : List ℕ) → i < length lines → get_or lines i [] ≡ line → slot ≤ sum_by length (take i lines) → slot + length line ≤ sum_by length lines
room_for lines i slot line lt here fits = omega (arith, ap length here, sum_by_more_le length lines i [] lt)

pub fits_more : (lines : List (List ℕ)) (i slot more : ℕ) (line : List ℕ) → i < length lines → get_or lines i [] ≡ line → slot ≤ sum_by length (take i lines) → more ≤ length line
    → slot + more ≤ sum_by length (take (i + 1) lines)
fits_more lines i slot more line lt here fits le = omega (arith, ap length here, sum_by_more length lines i [] lt)

pub labels_more_at : (lines : List (List ℕ)) (i slot : ℕ) (old new : Table) (word : List ℕ) → i < length lines → slot ≡ first_slot lines i → label_of (get_or lines i []) ≡ Some word
    → HoldsLabels lines i old → Defines old new word (record { index = i; slot = slot }) → HoldsLabels lines (i + 1) new
labels_more_at lines i slot old new word lt at_slot some h defines =
    labels_more lines i old new word lt some h (subst (λ (s : ℕ). Defines old new word (record { index = i; slot = s })) at_slot defines)

-- one line more, by what its label is
pub labels_step : (lines : List (List ℕ)) (i slot : ℕ) (old new : Table) (line : List ℕ) → i < length lines → get_or lines i [] ≡ line → slot ≡ first_slot lines i
    → HoldsLabels lines i old → DefinesLabel old new (label_of line) (record { index = i; slot = slot }) → HoldsLabels lines (i + 1) new
labels_step lines i slot old new line lt here at_slot h step = go (label_of line) refl step where
  go : (o : Option (List ℕ)) → label_of line ≡ o → DefinesLabel old new o (record { index = i; slot = slot }) → HoldsLabels lines (i + 1) new
  go (Some word) is defines = labels_more_at lines i slot old new word lt at_slot (ap label_of here ∙ is) h defines
  go None is same = λ name. same name ∙ labels_same lines i old lt (ap label_of here ∙ is) h name
