-- Keys and attributes are read as what they spell, and spell what they are read as.
use Rattle.std.proofs.Common.{◌≡◌, ℕ, ◌^◌, ◌<◌, ◌≤◌, Bool, true, false, cond, ltb, leb, eqb, List, [], ◌∷◌, ◌++◌, length, Some, None, refl, sym, ap, subst, ◌∙◌, arith, inl, inr}
use Rattle.std.specs.Prelude.{◌&&◌, not, codes, if◌then◌else◌, Option}
use Rattle.std.specs.Option.{option_map}
use Rattle.std.specs.Str.{bytes_eq}
use Rattle.std.specs.Fmt.{decimal}
use Rattle.std.specs.List.{list_all}
use Rattle.std.proofs.lemmas.Bool.{and_parts, and_from, leb-true, lt-ltb, eq-eqb, eqb-true}
use Rattle.std.proofs.lemmas.Bool.Decides.{eqb_tells}
use Rattle.std.proofs.lemmas.List.{append-nil}
use Rattle.change_ops.specs.Keys.{words, is_row, word_of, type_of_row, row_at}
use Rattle.change_ops.specs.LineKinds.{kind_words, is_kind, word_of_kind, kind_at}
use Rattle.change_ops.specs.Attributes.{is_color, is_comment_number, is_link, is_link_byte}
use Rattle.change_ops.specs.Values.{value_within, RowValue, type_of, number_of_type, is_of_type, is_typed, valued_within}
use Rattle.change_ops.specs.Limits.{key_within, attribute_within}
use Rattle.change_ops.specs.Words.{split, digit_of, number_in, digits_after}
use Rattle.change_ops.specs.Reading.{◌>>=◌, comment_at, row_or_comment, key_at, color_at, link_at, bare, value_at, valued, added_at, attribute_at}
use Rattle.change_ops.specs.Spelling.{◌␣◌, last_digits, key_text, value_text, attribute_text}
use Rattle.change_ops.specs.declared.keys.TheConstants.{KEYS}
use Rattle.change_ops.specs.declared.keys.ValueType.{ValueType}
use Rattle.change_ops.specs.declared.keys.ValueType.TheVariants as type
use Rattle.change_ops.specs.declared.line_kind.TheConstants.{KINDS}
use Rattle.change_ops.specs.declared.attribute.Key.{Key}
use Rattle.change_ops.specs.declared.attribute.Key.TheVariants as key
use Rattle.change_ops.specs.declared.attribute.Attribute.{Attribute}
use Rattle.change_ops.specs.declared.attribute.Attribute.TheVariants as attribute
use Rattle.change_ops.specs.declared.value.Value.{Value}
use Rattle.change_ops.specs.declared.value.Value.TheVariants as value
use Rattle.change_ops.proofs.Numerals.{last_again, last_length, digits_padded}
use Rattle.change_ops.proofs.Grammar.{Lacks, bind_some, split_again, split_takes, are_digits, no_digit}
use Rattle.change_ops.proofs.Places.{off, passes_at, place_again, place_none, word_is}
use Rattle.change_ops.proofs.Tables.{is_printed, is_plain, keys_count, keys_differ, keys_printed, keys_plain, kinds_count, kinds_differ, kinds_printed}
use Rattle.change_ops.proofs.Phrases.{lacks_nil, lacks_cons, lacks_joined, decimal_again, decimal_takes, decimal_lacks, same_bytes}

pub lacks_all : (mark : ℕ) (word : List ℕ) → list_all (λ b. not (eqb b mark)) word ≡ true → Lacks mark word
lacks_all mark [] h = lacks_nil mark
lacks_all mark (b ∷ bs) h = let a = and_parts (not (eqb b mark)) (list_all (λ c. not (eqb c mark)) bs) h in lacks_cons mark b bs (off (eqb b mark) a.0) (lacks_all mark bs a.1)

-- LF and the space stand below the bytes that a word may have
pub above : (b mark : ℕ) → mark < 33 → 33 ≤ b → eqb b mark ≡ false
above b mark h g = elim (eqb_tells b mark) [ inl same ↦ absurd (let e = same.1 in omega arith) | inr other ↦ other.0 ]

pub lacks_printed : (mark : ℕ) (word : List ℕ) → mark < 33 → list_all (λ b. leb 33 b) word ≡ true → Lacks mark word
lacks_printed mark [] s h = lacks_nil mark
lacks_printed mark (b ∷ bs) s h = let a = and_parts (leb 33 b) (list_all (λ c. leb 33 c) bs) h in lacks_cons mark b bs (above b mark s (leb-true _ _ a.0)) (lacks_printed mark bs s a.1)

pub no_digit_below : (mark : ℕ) → mark < 33 → 16 ≤ digit_of mark
no_digit_below mark s = rw (lt-ltb mark 48 (omega arith)) (omega arith)

comment_limits : (n : ℕ) → is_comment_number n ≡ true → (0 < n) × (n < 2 ^ 63)
comment_limits n h = let a = and_parts (leb 1 n) (leb n 0xffffffff) h in let low : 1 ≤ n = leb-true _ _ a.0 in let high : n ≤ 0xffffffff = leb-true _ _ a.1 in (low, omega arith)

-- words of the tables

row_printed : (row : ℕ) → is_row row ≡ true → is_printed (word_of row) ≡ true
row_printed row h = passes_at is_printed words KEYS row keys_printed keys_count h

kind_printed : (kind : ℕ) → is_kind kind ≡ true → is_printed (word_of_kind kind) ≡ true
kind_printed kind h = passes_at is_printed kind_words KINDS kind kinds_printed kinds_count h

-- the word of a comment is that of no row, by its colon
pub no_row : (digits : List ℕ) → row_at (codes "comment" ++ 58 ∷ digits) ≡ None
no_row digits = place_none is_plain words (codes "comment" ++ 58 ∷ digits) keys_plain refl

-- keys

pub key_lacks : (mark : ℕ) (k : Key) → mark < 33 → key_within k ≡ true → Lacks mark (key_text k)
key_lacks mark (key.Row row) s h = lacks_printed mark (word_of row) s (row_printed row h)
key_lacks mark (key.Comment n) s h =
    let l = comment_limits n h in
    lacks_joined mark (codes "comment") (decimal n) 58 (lacks_printed mark (codes "comment") s refl) (above 58 mark s (omega arith)) (decimal_lacks mark n (let d = no_digit_below mark s in omega arith) l.0 l.1)

comment_again : (n : ℕ) → is_comment_number n ≡ true → comment_at (codes "comment" ++ 58 ∷ decimal n) ≡ Some n
unfolding comment_at
comment_again n h =
    let l = comment_limits n h in
    let parts = split_again 58 (codes "comment") (decimal n) (lacks_all 58 (codes "comment") refl) in
    rw (parts, decimal_again n l.0 l.1) refl

pub key_again : (k : Key) → key_within k ≡ true → key_at (key_text k) ≡ Some k
unfolding key_at
key_again (key.Row row) h = ap (λ (o : Option ℕ). row_or_comment o (comment_at (word_of row))) (place_again words KEYS row keys_differ keys_count h)
key_again (key.Comment n) h = (λ i. row_or_comment (no_row (decimal n) i) (comment_again n h i))

comment_takes : (word : List ℕ) (n : ℕ) → is_comment_number n ≡ true → comment_at word ≡ Some n → word ≡ codes "comment" ++ 58 ∷ decimal n
unfolding comment_at
comment_takes word n h e =
    let l = comment_limits n h in
    let a = bind_some (split 58 word) (λ parts. if bytes_eq parts.0 (codes "comment") then number_in 10 parts.1 else None) n e in
    let whole = (split_takes 58 word a.0.0 a.0.1 a.1).0 in
    let go : (t : Bool) → bytes_eq a.0.0 (codes "comment") ≡ t → cond t (number_in 10 a.0.1) None ≡ Some n → word ≡ codes "comment" ++ 58 ∷ decimal n = λ t f g. elim t as (λ t. bytes_eq a.0.0 (codes "comment") ≡ t → cond t (number_in 10 a.0.1) None ≡ Some n → word ≡ codes "comment" ++ 58 ∷ decimal n) [
      | true ↦ λ f g. whole ∙ rw (same_bytes a.0.0 (codes "comment") f, decimal_takes n a.0.1 l.0 l.1 g) refl
      | false ↦ λ f g. absurd cc
    ] f g in
    go (bytes_eq a.0.0 (codes "comment")) refl a.2

pub key_takes : (word : List ℕ) (k : Key) → key_within k ≡ true → key_at word ≡ Some k → word ≡ key_text k
unfolding key_at
key_takes word k h e = go (row_at word) (comment_at word) refl refl e where
  go : (row comment : Option ℕ) → row_at word ≡ row → comment_at word ≡ comment → row_or_comment row comment ≡ Some k → word ≡ key_text k
  go (Some row) comment f g e = let same : key.Row row ≡ k = cc in word_is words word row f ∙ ap key_text same
  go None (Some n) f g e = let same : key.Comment n ≡ k = cc in comment_takes word n (rw (← same) at h) g ∙ ap key_text same
  go None None f g e = absurd cc

-- values

dash : (mark : ℕ) → mark < 33 → Lacks mark (codes "-")
dash mark s = lacks_printed mark (codes "-") s refl

printed_link : (word : List ℕ) → list_all is_link_byte word ≡ true → is_printed word ≡ true
printed_link [] h = refl
printed_link (b ∷ bs) h =
    let a = and_parts (is_link_byte b) (list_all is_link_byte bs) h in
    let c = and_parts (leb 33 b) (leb b 0x7e) a.0 in
    and_from (leb 33 b) (is_printed bs) c.0 (printed_link bs a.1)

link_again : (target : List ℕ) → is_link target ≡ true → link_at target ≡ Some target
unfolding link_at
link_again target h =
    let a = and_parts (leb 1 (length target) && leb (length target) 1024) (list_all is_link_byte target) h in
    let b = and_parts (leb 1 (length target)) (leb (length target) 1024) a.0 in
    rw (and_from (ltb 0 (length target)) (list_all is_link_byte target) b.0 a.1) refl

color_again : (rgb : ℕ) → is_color rgb ≡ true → color_at (last_digits 6 rgb) ≡ Some rgb
unfolding color_at digits_after
color_again rgb h =
    let high : rgb ≤ 0xffffff = leb-true _ _ h in
    let read : digits_after 16 0 (last_digits 6 rgb) ≡ Some rgb = rw append-nil at (last_again 6 rgb [] (omega arith)) in
    let long : eqb (length (last_digits 6 rgb)) 6 ≡ true = eq-eqb _ _ (last_length 6 rgb) in
    rw (long, read) refl

color_lacks : (mark rgb : ℕ) → mark < 33 → is_color rgb ≡ true → Lacks mark (last_digits 6 rgb)
unfolding digits_after
color_lacks mark rgb s h =
    let high : rgb ≤ 0xffffff = leb-true _ _ h in
    let read : digits_after 16 0 (last_digits 6 rgb) ≡ Some rgb = rw append-nil at (last_again 6 rgb [] (omega arith)) in
    no_digit 16 mark (last_digits 6 rgb) (no_digit_below mark s) (are_digits 16 (last_digits 6 rgb) 0 rgb read)

value_lacks : (mark : ℕ) (v : Value) → mark < 33 → value_within v ≡ true → Lacks mark (value_text v)
value_lacks mark value.Nothing s h = dash mark s
value_lacks mark (value.Link target) s h =
    let a = and_parts (leb 1 (length target) && leb (length target) 1024) (list_all is_link_byte target) h in
    lacks_printed mark target s (printed_link target a.1)
value_lacks mark (value.Color rgb) s h = color_lacks mark rgb s h
value_lacks mark (value.LineKind kind) s h = lacks_printed mark (word_of_kind kind) s (kind_printed kind h)

value_again : (v : Value) → value_within v ≡ true → value_at (type_of v) (value_text v) ≡ Some v
unfolding value_at
value_again value.Nothing h = refl
value_again (value.Link target) h = ap (option_map value.Link) (link_again target h)
value_again (value.Color rgb) h = ap (option_map value.Color) (color_again rgb h)
value_again (value.LineKind kind) h = ap (option_map value.LineKind) (place_again kind_words KINDS kind kinds_differ kinds_count h)

link_takes : (word target : List ℕ) → link_at word ≡ Some target → word ≡ target
unfolding link_at
link_takes word target e = go (ltb 0 (length word) && list_all is_link_byte word) e where
  go : (t : Bool) → cond t (Some word) None ≡ Some target → word ≡ target
  go true g = cc
  go false g = absurd cc

color_takes : (word : List ℕ) (rgb : ℕ) → color_at word ≡ Some rgb → word ≡ last_digits 6 rgb
unfolding color_at
color_takes word rgb e = go (eqb (length word) 6) refl e where
  go : (t : Bool) → eqb (length word) 6 ≡ t → cond t (digits_after 16 0 word) None ≡ Some rgb → word ≡ last_digits 6 rgb
  go true f g = digits_padded 6 rgb word (eqb-true _ _ f) g
  go false f g = absurd cc

pub bare_some : {A : Type 0} (x y : A) (word : List ℕ) → bare x word ≡ Some y → (word ≡ codes "-") × (x ≡ y)
bare_some {A} x y word e = go (bytes_eq word (codes "-")) refl e where
  go : (t : Bool) → bytes_eq word (codes "-") ≡ t → cond t (Some x) None ≡ Some y → (word ≡ codes "-") × (x ≡ y)
  go true f g = (same_bytes word (codes "-") f, cc)
  go false f g = absurd cc

pub map_some : {A B : Type 0} (f : A → B) (o : Option A) (y : B) → option_map f o ≡ Some y → (x : A) × (o ≡ Some x) × (f x ≡ y)
map_some f None y e = absurd cc
map_some f (Some x) y e = (x, refl, cc)

value_takes : (t : ValueType) (word : List ℕ) (v : Value) → value_at t word ≡ Some v → word ≡ value_text v
unfolding value_at
value_takes type.Nothing word v e = let b = bare_some value.Nothing v word e in b.0 ∙ ap value_text b.1
value_takes type.Link word v e = let b = map_some value.Link (link_at word) v e in link_takes word b.0 b.1 ∙ ap value_text b.2
value_takes type.Color word v e = let b = map_some value.Color (color_at word) v e in color_takes word b.0 b.1 ∙ ap value_text b.2
value_takes type.LineKind word v e = let b = map_some value.LineKind (kind_at word) v e in word_is kind_words word b.0 b.1 ∙ ap value_text b.2

-- types are told apart by their numbers

type_numbered : ℕ → ValueType
type_numbered n = if eqb n 0 then type.Nothing else if eqb n 1 then type.Link else if eqb n 2 then type.Color else type.LineKind

numbered : (t : ValueType) → type_numbered (number_of_type t) ≡ t
unfolding type_numbered
numbered type.Nothing = refl
numbered type.Link = refl
numbered type.Color = refl
numbered type.LineKind = refl

pub same_type : (t u : ValueType) → eqb (number_of_type t) (number_of_type u) ≡ true → t ≡ u
same_type t u h = sym (numbered t) ∙ ap type_numbered (eqb-true _ _ h) ∙ numbered u

-- attributes

-- the two words of an attribute
pub record AttributeWords (attribute : Attribute) : Type 0 where
  pub name : List ℕ
  pub value : List ℕ
  pub whole : attribute_text attribute ≡ name ␣ value
  pub name_lacks : (mark : ℕ) → mark < 33 → Lacks mark name
  pub value_lacks : (mark : ℕ) → mark < 33 → Lacks mark value
  pub read : attribute_at name value ≡ Some attribute

-- a key and a value of its type, within the limits
record Valued (v : RowValue) : Type 0 where
  row : is_row v.row ≡ true
  typed : type_of v.value ≡ type_of_row v.row
  within : value_within v.value ≡ true

valued_parts : (v : RowValue) → valued_within v ≡ true → Valued v
valued_parts v h =
    let a = and_parts (is_typed v) (value_within v.value) h in
    let b = and_parts (is_row v.row) (is_of_type (type_of_row v.row) v.value) a.0 in
    record { row = b.0; typed = same_type (type_of v.value) (type_of_row v.row) b.1; within = a.1 }

row_value_read : (v : RowValue) → Valued v → attribute_at (word_of v.row) (value_text v.value) ≡ Some (attribute.Row v)
unfolding attribute_at
row_value_read v h =
    let typed : value_at (type_of_row v.row) (value_text v.value) ≡ Some v.value = ap (λ t. value_at t (value_text v.value)) (sym h.typed) ∙ value_again v.value h.within in
    ap (λ (k : Option Key). k >>= λ key. added_at key (value_text v.value)) (key_again (key.Row v.row) h.row) ∙ ap (option_map (valued v.row)) typed

pub attribute_again : (attribute : Attribute) → attribute_within attribute ≡ true → AttributeWords attribute
unfolding attribute_at
attribute_again (attribute.Row v) h =
    let p = valued_parts v h in
    record { name = word_of v.row; value = value_text v.value; whole = refl; name_lacks = λ mark s. key_lacks mark (key.Row v.row) s p.row; value_lacks = λ mark s. value_lacks mark v.value s p.within; read = row_value_read v p }
attribute_again (attribute.Comment n) h =
    record { name = codes "comment" ++ 58 ∷ decimal n; value = codes "-"; whole = refl; name_lacks = λ mark s. key_lacks mark (key.Comment n) s h; value_lacks = dash; read = ap (λ (k : Option Key). k >>= λ key. added_at key (codes "-")) (key_again (key.Comment n) h) }

pub attribute_lacks : (attribute : Attribute) → attribute_within attribute ≡ true → Lacks 10 (attribute_text attribute)
attribute_lacks attribute h =
    let a = attribute_again attribute h in
    subst (Lacks 10) (sym a.whole) (lacks_joined 10 a.name a.value 32 (a.name_lacks 10 (omega arith)) refl (a.value_lacks 10 (omega arith)))

-- what a key and a value word spell together
abbrev Spelled : Key → List ℕ → Attribute → Type 0
Spelled k word a = (key_within k ≡ true) × (key_text k ␣ word ≡ attribute_text a)

added_takes : (k : Key) (word : List ℕ) (a : Attribute) → attribute_within a ≡ true → added_at k word ≡ Some a → Spelled k word a
added_takes (key.Row row) word a h e =
    let b = map_some (valued row) (value_at (type_of_row row) word) a e in
    let made : RowValue = record { row = row; value = b.0 } in
    let limits : valued_within made ≡ true = subst (λ (x : Attribute). attribute_within x ≡ true) (sym b.2) h in
    let p = valued_parts made limits in
    (p.row, ap (λ (x : List ℕ). word_of row ␣ x) (value_takes (type_of_row row) word b.0 b.1) ∙ ap attribute_text b.2)
added_takes (key.Comment n) word a h e =
    let b = bare_some (attribute.Comment n) a word e in
    (subst (λ (x : Attribute). attribute_within x ≡ true) (sym b.1) h, ap (λ (x : List ℕ). key_text (key.Comment n) ␣ x) b.0 ∙ ap attribute_text b.1)

pub attribute_takes : (name value : List ℕ) (a : Attribute) → attribute_within a ≡ true → attribute_at name value ≡ Some a → name ␣ value ≡ attribute_text a
unfolding attribute_at
attribute_takes name value a h e =
    let b = bind_some (key_at name) (λ k. added_at k value) a e in
    let c = added_takes b.0 value a h b.2 in
    ap (λ (x : List ℕ). x ␣ value) (key_takes name b.0 c.0 b.1) ∙ c.1
