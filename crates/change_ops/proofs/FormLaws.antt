-- A line is read as an operation just where it has the operation's form.
use Rattle.std.proofs.Common.{◌≡◌, ℕ, ◌<◌, ◌≤◌, Bool, true, false, cond, ltb, leb, eqb, List, [], ◌∷◌, ◌++◌, length, Option, Some, None, refl, sym, ap, subst, ◌∙◌, arith, inl, inr}
use Rattle.std.specs.Prelude.{◌&&◌, codes, if◌then◌else◌}
use Rattle.std.specs.Str.{bytes_eq}
use Rattle.std.specs.List.{list_all, AllByRecursion}
use Rattle.std.specs.Option.{option_map}
use Rattle.std.proofs.lemmas.Bool.{cases_lt, and_parts, and_from, leb-true, le-leb, ltb-true, lt-ltb, le-ltb, eq-eqb, eqb-true}
use Rattle.std.proofs.lemmas.List.{length-map}
use Rattle.change_ops.specs.Ids.{OpId}
use Rattle.change_ops.specs.Keys.{words, type_of_row, row_at}
use Rattle.change_ops.specs.LineKinds.{kind_words, kind_at}
use Rattle.change_ops.specs.Attributes.{is_link_byte}
use Rattle.change_ops.specs.Values.{type_of}
use Rattle.change_ops.specs.Operations.{key_of}
use Rattle.change_ops.specs.Words.{split, digit_of, digits_after, number_in}
use Rattle.change_ops.specs.Reading.{◌>>=◌, id_at, hex_at, parent_at, beside, anchor_at, anchors_at, comment_at, row_or_comment, key_at, color_at, link_at, bare, value_at, valued, added_at, attribute_at, insert_at, remove_at, marked_at, mark_at, unmarked_at, unmark_at, revive_at, op_at}
use Rattle.change_ops.specs.Spelling.{◌␣◌}
use Rattle.change_ops.specs.Forms.{Numeral, Joined, ◌⎵◌, Word, IdForm, ParentForm, CodeForm, SignedId, AnchorForm, KeyForm, LinkForm, ColorForm, ValueForm, AddedForm, OpForm}
use Rattle.change_ops.specs.declared.attribute.Key.{Key}
use Rattle.change_ops.specs.declared.attribute.Key.TheVariants as key
use Rattle.change_ops.specs.declared.attribute.Attribute.{Attribute}
use Rattle.change_ops.specs.declared.attribute.Attribute.TheVariants as attribute
use Rattle.change_ops.specs.declared.keys.ValueType.{ValueType}
use Rattle.change_ops.specs.declared.keys.ValueType.TheVariants as type
use Rattle.change_ops.specs.declared.value.Value.{Value}
use Rattle.change_ops.specs.declared.value.Value.TheVariants as value
use Rattle.change_ops.specs.declared.operation.Anchor.{Anchor}
use Rattle.change_ops.specs.declared.operation.Anchor.TheVariants.{TextStart, BeforeCharacter, AfterCharacter, TextEnd}
use Rattle.change_ops.specs.declared.operation.Op.{Op}
use Rattle.change_ops.specs.declared.operation.Op.TheVariants.{Insert, Remove, AddMark, RemoveMark, Revive}
use Rattle.change_ops.proofs.Grammar.{Lacks, bind_some, split_again, split_takes, number_lacks, are_digits, no_digit}
use Rattle.change_ops.proofs.Phrases.{lacks_cons, lacks_joined, same_bytes, other_word, no_dash, before_again, after_again}
use Rattle.change_ops.proofs.Places.{all_at, word_found, place_found}
use Rattle.change_ops.proofs.Tables.{is_printed, keys_differ, keys_printed, kinds_differ, kinds_printed}
use Rattle.change_ops.proofs.KeyWords.{lacks_all, lacks_printed, no_digit_below, above, no_row, bare_some, map_some}
use Rattle.change_ops.proofs.LineLaws.{kind}
use Rattle.change_ops.proofs.NumeralForms.{number_takes, number_again, digits_takes, digits_again}

pub joined_again : (mark : ℕ) (word : List ℕ) {First Second : List ℕ → Type 0} (j : Joined mark First Second word) → Lacks mark j.first → split mark word ≡ Some (j.first, j.second)
joined_again mark word j lacks = ap (split mark) j.whole ∙ split_again mark j.first j.second lacks

-- words without a space

pub word_lacks : (mark : ℕ) (name word : List ℕ) → mark < 33 → list_all (λ b. leb 33 b) name ≡ true → word ≡ name → Lacks mark word
word_lacks mark name word s h e = subst (Lacks mark) (sym e) (lacks_printed mark name s h)

pub numeral_lacks : (base mark n : ℕ) (word : List ℕ) → base ≤ 16 → base ≤ digit_of mark → Numeral base n word → Lacks mark word
numeral_lacks base mark n word high h form = number_lacks base mark word n h (number_again base n word high form)

pub decimal_lacks : (mark n : ℕ) (word : List ℕ) → mark < 33 → Numeral 10 n word → Lacks mark word
decimal_lacks mark n word s form = numeral_lacks 10 mark n word (omega arith) (let d = no_digit_below mark s in omega arith) form

pub id_lacks : (mark : ℕ) (id : OpId) (word : List ℕ) → mark < 33 → IdForm id word → Lacks mark word
id_lacks mark id word s j =
    subst (Lacks mark) (sym j.whole) (lacks_joined mark j.first j.second 64 (decimal_lacks mark id.counter j.first s j.before) (above 64 mark s (omega arith)) (decimal_lacks mark id.node j.second s j.after))

pub parent_lacks : (mark : ℕ) (parent : Option OpId) (word : List ℕ) → mark < 33 → ParentForm parent word → Lacks mark word
parent_lacks mark None word s h = word_lacks mark (codes "-") word s refl h
parent_lacks mark (Some id) word s h = id_lacks mark id word s h

signed_lacks : (mark sign : ℕ) (id : OpId) (word : List ℕ) → mark < 33 → 33 ≤ sign → SignedId sign id word → Lacks mark word
signed_lacks mark sign id word s g h = subst (Lacks mark) (sym h.whole) (lacks_cons mark sign h.name (above sign mark s g) (id_lacks mark id h.name s h.named))

anchor_lacks : (mark : ℕ) (anchor : Anchor) (word : List ℕ) → mark < 33 → AnchorForm anchor word → Lacks mark word
anchor_lacks mark TextStart word s h = word_lacks mark (codes "^") word s refl h
anchor_lacks mark (BeforeCharacter id) word s h = signed_lacks mark 60 id word s (omega arith) h
anchor_lacks mark (AfterCharacter id) word s h = signed_lacks mark 62 id word s (omega arith) h
anchor_lacks mark TextEnd word s h = word_lacks mark (codes "$") word s refl h

pub key_lacks : (mark : ℕ) (k : Key) (word : List ℕ) → mark < 33 → KeyForm k word → Lacks mark word
key_lacks mark (key.Row row) word s h = lacks_printed mark word s (all_at is_printed words row word keys_printed h)
key_lacks mark (key.Comment n) word s j =
    subst (Lacks mark) (sym j.whole) (lacks_joined mark j.first j.second 58 (word_lacks mark (codes "comment") j.first s refl j.before) (above 58 mark s (omega arith)) (decimal_lacks mark n j.second s j.after))

abbrev Printable : List ℕ → Type 0
Printable word = AllByRecursion (λ b. (0x21 ≤ b) × (b ≤ 0x7e)) word

printable_lacks : (mark : ℕ) (word : List ℕ) → mark < 33 → Printable word → list_all (λ b. leb 33 b) word ≡ true
printable_lacks mark [] s h = refl
printable_lacks mark (b ∷ bs) s h = and_from (leb 33 b) (list_all (λ c. leb 33 c) bs) (le-leb 33 b h.0.0) (printable_lacks mark bs s h.1)

color_read : (rgb : ℕ) (word : List ℕ) → ColorForm rgb word → color_at word ≡ Some rgb
unfolding color_at
color_read rgb word h =
    let long : length word ≡ 6 = ap length h.spells.written ∙ length-map h.digits _ ∙ h.six in
    rw (eq-eqb (length word) 6 long) (digits_again 16 rgb h.digits word (omega arith) h.spells)

-- a color's digits are those of a numeral
color_lacks : (mark rgb : ℕ) (word : List ℕ) → mark < 33 → ColorForm rgb word → Lacks mark word
color_lacks mark rgb word s h = no_digit 16 mark word (no_digit_below mark s) (are_digits 16 word 0 rgb (digits_again 16 rgb h.digits word (omega arith) h.spells))

value_lacks : (mark : ℕ) (v : Value) (word : List ℕ) → mark < 33 → ValueForm v word → Lacks mark word
value_lacks mark value.Nothing word s h = word_lacks mark (codes "-") word s refl h
value_lacks mark (value.Link target) word s h = word_lacks mark target word s (printable_lacks mark target s h.printable) h.whole
value_lacks mark (value.Color rgb) word s h = color_lacks mark rgb word s h
value_lacks mark (value.LineKind kind) word s h = lacks_printed mark word s (all_at is_printed kind_words kind word kinds_printed h)

added_lacks : (mark : ℕ) (a : Attribute) (word : List ℕ) → mark < 33 → AddedForm a word → Lacks mark word
added_lacks mark (attribute.Row v) word s h = value_lacks mark v.value word s h.spelled
added_lacks mark (attribute.Comment n) word s h = word_lacks mark (codes "-") word s refl h

-- ids, parents, codes, anchors

pub id_form : (word : List ℕ) (id : OpId) → id_at word ≡ Some id → IdForm id word
unfolding id_at
id_form word id e =
    let a = bind_some (split 64 word) (λ parts. number_in 10 parts.0 >>= λ counter. number_in 10 parts.1 >>= λ node. Some (record { counter = counter; node = node })) id e in
    let b = bind_some (number_in 10 a.0.0) (λ counter. number_in 10 a.0.1 >>= λ node. Some (record { counter = counter; node = node })) id a.2 in
    let c = bind_some (number_in 10 a.0.1) (λ node. Some (record { counter = b.0; node = node })) id b.2 in
    let made : OpId = record { counter = b.0; node = c.0 } in
    let same : made ≡ id = some_id made id c.2 in
    let form : IdForm made word = record { first = a.0.0; second = a.0.1; whole = (split_takes 64 word a.0.0 a.0.1 a.1).0; before = number_takes 10 b.0 a.0.0 (omega arith) b.1; after = number_takes 10 c.0 a.0.1 (omega arith) c.1 } in
    subst (λ (i : OpId). IdForm i word) same form
  where
    some_id : (x y : OpId) → Some x ≡ Some y → x ≡ y
    some_id x y e = cc

pub id_read : (word : List ℕ) (id : OpId) → IdForm id word → id_at word ≡ Some id
unfolding id_at
id_read word id j =
    let parts = joined_again 64 word j (numeral_lacks 10 64 id.counter j.first (omega arith) (omega arith) j.before) in
    rw (parts, number_again 10 id.counter j.first (omega arith) j.before, number_again 10 id.node j.second (omega arith) j.after) refl

pub parent_form : (word : List ℕ) (parent : Option OpId) → parent_at word ≡ Some parent → ParentForm parent word
unfolding parent_at
parent_form word parent e = go (bytes_eq word (codes "-")) refl e where
  go : (b : Bool) → bytes_eq word (codes "-") ≡ b → cond b (Some None) (id_at word >>= λ id. Some (Some id)) ≡ Some parent → ParentForm parent word
  go true f e = let same : None ≡ parent = cc in subst (λ (p : Option OpId). ParentForm p word) same (same_bytes word (codes "-") f)
  go false f e =
      let a = bind_some (id_at word) (λ id. Some (Some id)) parent e in
      let same : Some a.0 ≡ parent = cc (a.2) in
      subst (λ (p : Option OpId). ParentForm p word) same (id_form word a.0 a.1)

pub parent_read : (word : List ℕ) (parent : Option OpId) → ParentForm parent word → parent_at word ≡ Some parent
unfolding parent_at
parent_read word None h = ap parent_at h
parent_read word (Some id) h = let e = id_read word id h in rw (other_word word (codes "-") id e no_dash, e) refl

pub code_form : (word : List ℕ) (n : ℕ) → hex_at word ≡ Some n → CodeForm n word
unfolding hex_at
code_form word n e = elim (cases_lt 6 (length word)) [
  | inl more ↦ absurd (let f = rw (lt-ltb 6 (length word) more) at e in cc)
  | inr few ↦ record { numeral = number_takes 16 n word (omega arith) (rw (le-ltb 6 (length word) few) at e); short = few }
]

pub code_read : (word : List ℕ) (n : ℕ) → CodeForm n word → hex_at word ≡ Some n
unfolding hex_at
code_read word n h = rw (le-ltb 6 (length word) h.short) (number_again 16 n word (omega arith) h.numeral)

beside_form : (sign : ℕ) (word : List ℕ) (anchor : Anchor) → beside sign word ≡ Some anchor → AnchorForm anchor (sign ∷ word)
beside_form sign word anchor e = go (eqb sign 60) (eqb sign 62) refl refl e where
  signed : (wanted : ℕ) (id : OpId) → eqb sign wanted ≡ true → id_at word ≡ Some id → SignedId wanted id (sign ∷ word)
  signed wanted id f e = record { name = word; whole = ap (λ (s : ℕ). s ∷ word) (eqb-true sign wanted f); named = id_form word id e }

  go : (a b : Bool) → eqb sign 60 ≡ a → eqb sign 62 ≡ b → cond a (id_at word >>= λ id. Some (BeforeCharacter id)) (cond b (id_at word >>= λ id. Some (AfterCharacter id)) None) ≡ Some anchor → AnchorForm anchor (sign ∷ word)
  go true b f g e =
      let a = bind_some (id_at word) (λ id. Some (BeforeCharacter id)) anchor e in
      let same : BeforeCharacter a.0 ≡ anchor = cc (a.2) in
      subst (λ (x : Anchor). AnchorForm x (sign ∷ word)) same (signed 60 a.0 f a.1)
  go false true f g e =
      let a = bind_some (id_at word) (λ id. Some (AfterCharacter id)) anchor e in
      let same : AfterCharacter a.0 ≡ anchor = cc (a.2) in
      subst (λ (x : Anchor). AnchorForm x (sign ∷ word)) same (signed 62 a.0 g a.1)
  go false false f g e = absurd cc

anchor_form : (word : List ℕ) (anchor : Anchor) → anchor_at word ≡ Some anchor → AnchorForm anchor word
unfolding anchor_at
anchor_form [] anchor e = absurd cc
anchor_form (sign ∷ []) anchor e = go (eqb sign 94) (eqb sign 36) refl refl e where
  single : (wanted : ℕ) → eqb sign wanted ≡ true → sign ∷ [] ≡ wanted ∷ []
  single wanted f = ap (λ (s : ℕ). s ∷ []) (eqb-true sign wanted f)

  go : (a b : Bool) → eqb sign 94 ≡ a → eqb sign 36 ≡ b → cond a (Some TextStart) (cond b (Some TextEnd) (beside sign [])) ≡ Some anchor → AnchorForm anchor (sign ∷ [])
  go true b f g e = let same : TextStart ≡ anchor = cc in subst (λ (x : Anchor). AnchorForm x (sign ∷ [])) same (single 94 f)
  go false true f g e = let same : TextEnd ≡ anchor = cc in subst (λ (x : Anchor). AnchorForm x (sign ∷ [])) same (single 36 g)
  go false false f g e = beside_form sign [] anchor e
anchor_form (sign ∷ b ∷ word) anchor e = beside_form sign (b ∷ word) anchor e

anchor_read : (word : List ℕ) (anchor : Anchor) → AnchorForm anchor word → anchor_at word ≡ Some anchor
unfolding anchor_at
anchor_read word TextStart h = ap anchor_at h
anchor_read word (BeforeCharacter id) h = ap anchor_at h.whole ∙ before_again h.name id (id_read h.name id h.named)
anchor_read word (AfterCharacter id) h = ap anchor_at h.whole ∙ after_again h.name id (id_read h.name id h.named)
anchor_read word TextEnd h = ap anchor_at h

-- keys

comment_form : (word : List ℕ) (n : ℕ) → comment_at word ≡ Some n → KeyForm (key.Comment n) word
unfolding comment_at
comment_form word n e =
    let a = bind_some (split 58 word) (λ parts. if bytes_eq parts.0 (codes "comment") then number_in 10 parts.1 else None) n e in
    named a.0.0 a.0.1 (split_takes 58 word a.0.0 a.0.1 a.1).0 (bytes_eq a.0.0 (codes "comment")) refl a.2
  where
    named : (name digits : List ℕ) → word ≡ name ++ 58 ∷ digits → (t : Bool) → bytes_eq name (codes "comment") ≡ t → cond t (number_in 10 digits) None ≡ Some n → KeyForm (key.Comment n) word
    named name digits whole false f g = absurd cc
    named name digits whole true f g = record { first = name; second = digits; whole = whole; before = same_bytes name (codes "comment") f; after = number_takes 10 n digits (omega arith) g }

comment_read : (n : ℕ) (digits : List ℕ) → Numeral 10 n digits → comment_at (codes "comment" ++ 58 ∷ digits) ≡ Some n
unfolding comment_at
comment_read n digits h =
    let parts = split_again 58 (codes "comment") digits (lacks_all 58 (codes "comment") refl) in
    rw (parts, number_again 10 n digits (omega arith) h) refl

key_form : (word : List ℕ) (k : Key) → key_at word ≡ Some k → KeyForm k word
unfolding key_at
key_form word k e = go (row_at word) (comment_at word) refl refl e where
  go : (row comment : Option ℕ) → row_at word ≡ row → comment_at word ≡ comment → row_or_comment row comment ≡ Some k → KeyForm k word
  go (Some row) comment f g e = let same : key.Row row ≡ k = cc in subst (λ (x : Key). KeyForm x word) same (word_found words word row f)
  go None (Some n) f g e = let same : key.Comment n ≡ k = cc in subst (λ (x : Key). KeyForm x word) same (comment_form word n g)
  go None None f g e = absurd cc

key_read : (word : List ℕ) (k : Key) → KeyForm k word → key_at word ≡ Some k
unfolding key_at
key_read word (key.Row row) h = ap (λ (o : Option ℕ). row_or_comment o (comment_at word)) (place_found words word row keys_differ h)
key_read word (key.Comment n) j =
    let whole : word ≡ codes "comment" ++ 58 ∷ j.second = j.whole ∙ ap (λ (x : List ℕ). x ++ 58 ∷ j.second) j.before in
    ap key_at whole ∙ (λ i. row_or_comment (no_row j.second i) (comment_read n j.second j.after i))

-- values

printable_takes : (word : List ℕ) → list_all is_link_byte word ≡ true → Printable word
printable_takes [] h = tt
printable_takes (b ∷ bs) h =
    let a = and_parts (is_link_byte b) (list_all is_link_byte bs) h in
    let c = and_parts (leb 0x21 b) (leb b 0x7e) a.0 in
    ((leb-true _ _ c.0, leb-true _ _ c.1), printable_takes bs a.1)

printable_again : (word : List ℕ) → Printable word → list_all is_link_byte word ≡ true
printable_again [] h = refl
printable_again (b ∷ bs) h = and_from (is_link_byte b) (list_all is_link_byte bs) (and_from (leb 0x21 b) (leb b 0x7e) (le-leb _ _ h.0.0) (le-leb _ _ h.0.1)) (printable_again bs h.1)

link_form : (word target : List ℕ) → link_at word ≡ Some target → LinkForm target word
unfolding link_at
link_form word target e = go (ltb 0 (length word) && list_all is_link_byte word) refl e where
  go : (t : Bool) → (ltb 0 (length word) && list_all is_link_byte word) ≡ t → cond t (Some word) None ≡ Some target → LinkForm target word
  go false f g = absurd cc
  go true f g =
      let same : word ≡ target = cc in
      let a = and_parts (ltb 0 (length word)) (list_all is_link_byte word) f in
      let some : 0 < length word = ltb-true _ _ a.0 in
      let form : LinkForm word word = record { whole = refl; some = omega arith; printable = printable_takes word a.1 } in
      subst (λ (x : List ℕ). LinkForm x word) same form

link_read : (word target : List ℕ) → LinkForm target word → link_at word ≡ Some target
unfolding link_at
link_read word target h =
    let some : 0 < length target = omega (arith, h.some) in
    ap link_at h.whole ∙ rw (and_from (ltb 0 (length target)) (list_all is_link_byte target) (lt-ltb _ _ some) (printable_again target h.printable)) refl

color_form : (word : List ℕ) (rgb : ℕ) → color_at word ≡ Some rgb → ColorForm rgb word
unfolding color_at
color_form word rgb e = go (eqb (length word) 6) refl e where
  go : (t : Bool) → eqb (length word) 6 ≡ t → cond t (digits_after 16 0 word) None ≡ Some rgb → ColorForm rgb word
  go false f g = absurd cc
  go true f g =
      let r = digits_takes 16 rgb word (omega arith) g in
      record { digits = r.0; six = sym (ap length r.1.written ∙ length-map r.0 _) ∙ eqb-true _ _ f; spells = r.1 }

-- a value and its type
abbrev TypeAndForm : ValueType → Value → List ℕ → Type 0
TypeAndForm t v word = (type_of v ≡ t) × ValueForm v word

typed_form : (t : ValueType) (x v : Value) (word : List ℕ) → x ≡ v → TypeAndForm t x word → TypeAndForm t v word
typed_form t x v word same h = subst (λ (y : Value). TypeAndForm t y word) same h

value_form : (t : ValueType) (word : List ℕ) (v : Value) → value_at t word ≡ Some v → TypeAndForm t v word
unfolding value_at
value_form type.Nothing word v e = let b = bare_some value.Nothing v word e in typed_form type.Nothing value.Nothing v word b.1 (refl, b.0)
value_form type.Link word v e = let b = map_some value.Link (link_at word) v e in typed_form type.Link (value.Link b.0) v word b.2 (refl, link_form word b.0 b.1)
value_form type.Color word v e = let b = map_some value.Color (color_at word) v e in typed_form type.Color (value.Color b.0) v word b.2 (refl, color_form word b.0 b.1)
value_form type.LineKind word v e = let b = map_some value.LineKind (kind_at word) v e in typed_form type.LineKind (value.LineKind b.0) v word b.2 (refl, word_found kind_words word b.0 b.1)

value_read : (word : List ℕ) (v : Value) → ValueForm v word → value_at (type_of v) word ≡ Some v
unfolding value_at
value_read word value.Nothing h = ap (bare value.Nothing) h
value_read word (value.Link target) h = ap (option_map value.Link) (link_read word target h)
value_read word (value.Color rgb) h = ap (option_map value.Color) (color_read rgb word h)
value_read word (value.LineKind kind) h = ap (option_map value.LineKind) (place_found kind_words word kind kinds_differ h)

-- an attribute's key and its value's word
abbrev KeyAndAdded : Key → List ℕ → Attribute → Type 0
KeyAndAdded k word a = (k ≡ key_of a) × AddedForm a word

added_form : (k : Key) (word : List ℕ) (a : Attribute) → added_at k word ≡ Some a → KeyAndAdded k word a
added_form (key.Row row) word a e =
    let b = map_some (valued row) (value_at (type_of_row row) word) a e in
    let t = value_form (type_of_row row) word b.0 b.1 in
    let made : AddedForm (valued row b.0) word = record { typed = t.0; spelled = t.1 } in
    subst (KeyAndAdded (key.Row row) word) b.2 (refl, made)
added_form (key.Comment n) word a e =
    let b = bare_some (attribute.Comment n) a word e in
    subst (KeyAndAdded (key.Comment n) word) b.1 (refl, b.0)

added_read : (word : List ℕ) (a : Attribute) → AddedForm a word → added_at (key_of a) word ≡ Some a
added_read word (attribute.Row v) h = ap (option_map (valued v.row)) (ap (λ (t : ValueType). value_at t word) (sym h.typed) ∙ value_read word v.value h.spelled)
added_read word (attribute.Comment n) h = ap (bare (attribute.Comment n)) h

abbrev AttributeWords : List ℕ → List ℕ → Attribute → Type 0
AttributeWords name value a = KeyForm (key_of a) name × AddedForm a value

attribute_form : (name value : List ℕ) (a : Attribute) → attribute_at name value ≡ Some a → AttributeWords name value a
unfolding attribute_at
attribute_form name value a e =
    let b = bind_some (key_at name) (λ k. added_at k value) a e in
    let c = added_form b.0 value a b.2 in
    (subst (λ (k : Key). KeyForm k name) c.0 (key_form name b.0 b.1), c.1)

attribute_read : (name value : List ℕ) (a : Attribute) → KeyForm (key_of a) name → AddedForm a value → attribute_at name value ≡ Some a
unfolding attribute_at
attribute_read name value a h g = ap (λ (k : Option Key). k >>= λ key. added_at key value) (key_read name (key_of a) h) ∙ added_read value a g

-- what stands behind the first word of a line

abbrev Anchors : Type 0
Anchors = Anchor × Anchor

abbrev AnchorsForm : Anchors → List ℕ → Type 0
AnchorsForm anchors = AnchorForm anchors.0 ⎵ AnchorForm anchors.1

anchors_form : (fields : List ℕ) (anchors : Anchors) → anchors_at fields ≡ Some anchors → AnchorsForm anchors fields
unfolding anchors_at
anchors_form fields anchors e =
    let a = bind_some (split 32 fields) (λ parts. anchor_at parts.0 >>= λ start. anchor_at parts.1 >>= λ end. Some (start, end)) anchors e in
    let b = bind_some (anchor_at a.0.0) (λ start. anchor_at a.0.1 >>= λ end. Some (start, end)) anchors a.2 in
    let c = bind_some (anchor_at a.0.1) (λ end. Some (b.0, end)) anchors b.2 in
    let made : Anchors = (b.0, c.0) in
    let same : made ≡ anchors = cc (c.2) in
    let form : AnchorsForm made fields = record { first = a.0.0; second = a.0.1; whole = (split_takes 32 fields a.0.0 a.0.1 a.1).0; before = anchor_form a.0.0 b.0 b.1; after = anchor_form a.0.1 c.0 c.1 } in
    subst (λ (x : Anchors). AnchorsForm x fields) same form

anchors_read : (fields : List ℕ) (anchors : Anchors) → AnchorsForm anchors fields → anchors_at fields ≡ Some anchors
unfolding anchors_at
anchors_read fields anchors j =
    rw (joined_again 32 fields j (anchor_lacks 32 anchors.0 j.first (omega arith) j.before), anchor_read j.first anchors.0 j.before, anchor_read j.second anchors.1 j.after) refl

abbrev InsertForm : OpId → Option OpId → ℕ → List ℕ → Type 0
InsertForm id parent character = IdForm id ⎵ ParentForm parent ⎵ CodeForm character

insert_form : (line fields : List ℕ) (op : Op) → line ≡ codes "i" ␣ fields → insert_at fields ≡ Some op → OpForm op line
unfolding insert_at
insert_form line fields op text e =
    let a = bind_some (split 32 fields) (λ first. split 32 first.1 >>= λ second. id_at first.0 >>= λ id. parent_at second.0 >>= λ parent. hex_at second.1 >>= λ character. Some (Insert id parent character)) op e in
    let b = bind_some (split 32 a.0.1) (λ second. id_at a.0.0 >>= λ id. parent_at second.0 >>= λ parent. hex_at second.1 >>= λ character. Some (Insert id parent character)) op a.2 in
    let c = bind_some (id_at a.0.0) (λ id. parent_at b.0.0 >>= λ parent. hex_at b.0.1 >>= λ character. Some (Insert id parent character)) op b.2 in
    let d = bind_some (parent_at b.0.0) (λ parent. hex_at b.0.1 >>= λ character. Some (Insert c.0 parent character)) op c.2 in
    let f = bind_some (hex_at b.0.1) (λ character. Some (Insert c.0 d.0 character)) op d.2 in
    let same : Insert c.0 d.0 f.0 ≡ op = cc (f.2) in
    let inner : Joined 32 (ParentForm d.0) (CodeForm f.0) a.0.1 = record { first = b.0.0; second = b.0.1; whole = (split_takes 32 a.0.1 b.0.0 b.0.1 b.1).0; before = parent_form b.0.0 d.0 d.1; after = code_form b.0.1 f.0 f.1 } in
    let behind : InsertForm c.0 d.0 f.0 fields = record { first = a.0.0; second = a.0.1; whole = (split_takes 32 fields a.0.0 a.0.1 a.1).0; before = id_form a.0.0 c.0 c.1; after = inner } in
    let form : OpForm (Insert c.0 d.0 f.0) line = record { first = codes "i"; second = fields; whole = text; before = refl; after = behind } in
    subst (λ (x : Op). OpForm x line) same form

insert_read : (fields : List ℕ) (id : OpId) (parent : Option OpId) (character : ℕ) → InsertForm id parent character fields → insert_at fields ≡ Some (Insert id parent character)
unfolding insert_at
insert_read fields id parent character j =
    let k = j.after in
    rw (
      joined_again 32 fields j (id_lacks 32 id j.first (omega arith) j.before),
      joined_again 32 j.second k (parent_lacks 32 parent k.first (omega arith) k.before),
      id_read j.first id j.before,
      parent_read k.first parent k.before,
      code_read k.second character k.after,
    ) refl

abbrev IdsForm : OpId → OpId → List ℕ → Type 0
IdsForm id named = IdForm id ⎵ IdForm named

remove_form : (line fields : List ℕ) (op : Op) → line ≡ codes "d" ␣ fields → remove_at fields ≡ Some op → OpForm op line
unfolding remove_at
remove_form line fields op text e =
    let a = bind_some (split 32 fields) (λ first. id_at first.0 >>= λ id. id_at first.1 >>= λ target. Some (Remove id target)) op e in
    let b = bind_some (id_at a.0.0) (λ id. id_at a.0.1 >>= λ target. Some (Remove id target)) op a.2 in
    let c = bind_some (id_at a.0.1) (λ target. Some (Remove b.0 target)) op b.2 in
    let same : Remove b.0 c.0 ≡ op = cc (c.2) in
    let behind : IdsForm b.0 c.0 fields = record { first = a.0.0; second = a.0.1; whole = (split_takes 32 fields a.0.0 a.0.1 a.1).0; before = id_form a.0.0 b.0 b.1; after = id_form a.0.1 c.0 c.1 } in
    let form : OpForm (Remove b.0 c.0) line = record { first = codes "d"; second = fields; whole = text; before = refl; after = behind } in
    subst (λ (x : Op). OpForm x line) same form

remove_read : (fields : List ℕ) (id target : OpId) → IdsForm id target fields → remove_at fields ≡ Some (Remove id target)
unfolding remove_at
remove_read fields id target j =
    rw (joined_again 32 fields j (id_lacks 32 id j.first (omega arith) j.before), id_read j.first id j.before, id_read j.second target j.after) refl

abbrev Marked : Type 0
Marked = Attribute × Anchors

abbrev MarkedForm : Marked → List ℕ → Type 0
MarkedForm marked = KeyForm (key_of marked.0) ⎵ AddedForm marked.0 ⎵ AnchorsForm marked.1

marked_form : (fields : List ℕ) (marked : Marked) → marked_at fields ≡ Some marked → MarkedForm marked fields
unfolding marked_at
marked_form fields marked e =
    let a = bind_some (split 32 fields) (λ first. split 32 first.1 >>= λ second. anchors_at second.1 >>= λ anchors. attribute_at first.0 second.0 >>= λ attribute. Some (attribute, anchors)) marked e in
    let b = bind_some (split 32 a.0.1) (λ second. anchors_at second.1 >>= λ anchors. attribute_at a.0.0 second.0 >>= λ attribute. Some (attribute, anchors)) marked a.2 in
    let c = bind_some (anchors_at b.0.1) (λ anchors. attribute_at a.0.0 b.0.0 >>= λ attribute. Some (attribute, anchors)) marked b.2 in
    let d = bind_some (attribute_at a.0.0 b.0.0) (λ attribute. Some (attribute, c.0)) marked c.2 in
    let made : Marked = (d.0, c.0) in
    let same : made ≡ marked = cc (d.2) in
    let w = attribute_form a.0.0 b.0.0 d.0 d.1 in
    let inner : Joined 32 (AddedForm d.0) (AnchorsForm c.0) a.0.1 = record { first = b.0.0; second = b.0.1; whole = (split_takes 32 a.0.1 b.0.0 b.0.1 b.1).0; before = w.1; after = anchors_form b.0.1 c.0 c.1 } in
    let form : MarkedForm made fields = record { first = a.0.0; second = a.0.1; whole = (split_takes 32 fields a.0.0 a.0.1 a.1).0; before = w.0; after = inner } in
    subst (λ (x : Marked). MarkedForm x fields) same form

marked_read : (fields : List ℕ) (marked : Marked) → MarkedForm marked fields → marked_at fields ≡ Some marked
unfolding marked_at
marked_read fields marked j =
    let k = j.after in
    rw (
      joined_again 32 fields j (key_lacks 32 (key_of marked.0) j.first (omega arith) j.before),
      joined_again 32 j.second k (added_lacks 32 marked.0 k.first (omega arith) k.before),
      anchors_read k.second marked.1 k.after,
      attribute_read j.first k.first marked.0 j.before k.before,
    ) refl

mark_form : (line fields : List ℕ) (op : Op) → line ≡ codes "m" ␣ fields → mark_at fields ≡ Some op → OpForm op line
unfolding mark_at
mark_form line fields op text e =
    let a = bind_some (split 32 fields) (λ first. id_at first.0 >>= λ id. marked_at first.1 >>= λ marked. Some (AddMark id marked.0 marked.1.0 marked.1.1)) op e in
    let b = bind_some (id_at a.0.0) (λ id. marked_at a.0.1 >>= λ marked. Some (AddMark id marked.0 marked.1.0 marked.1.1)) op a.2 in
    let c = bind_some (marked_at a.0.1) (λ marked. Some (AddMark b.0 marked.0 marked.1.0 marked.1.1)) op b.2 in
    let same : AddMark b.0 c.0.0 c.0.1.0 c.0.1.1 ≡ op = cc (c.2) in
    let behind : Joined 32 (IdForm b.0) (MarkedForm c.0) fields = record { first = a.0.0; second = a.0.1; whole = (split_takes 32 fields a.0.0 a.0.1 a.1).0; before = id_form a.0.0 b.0 b.1; after = marked_form a.0.1 c.0 c.1 } in
    let form : OpForm (AddMark b.0 c.0.0 c.0.1.0 c.0.1.1) line = record { first = codes "m"; second = fields; whole = text; before = refl; after = behind } in
    subst (λ (x : Op). OpForm x line) same form

mark_read : (fields : List ℕ) (id : OpId) (marked : Marked) → Joined 32 (IdForm id) (MarkedForm marked) fields → mark_at fields ≡ Some (AddMark id marked.0 marked.1.0 marked.1.1)
unfolding mark_at
mark_read fields id marked j =
    rw (joined_again 32 fields j (id_lacks 32 id j.first (omega arith) j.before), id_read j.first id j.before, marked_read j.second marked j.after) refl

abbrev Unmarked : Type 0
Unmarked = Key × Anchors

abbrev UnmarkedForm : Unmarked → List ℕ → Type 0
UnmarkedForm unmarked = KeyForm unmarked.0 ⎵ AnchorsForm unmarked.1

unmarked_form : (fields : List ℕ) (unmarked : Unmarked) → unmarked_at fields ≡ Some unmarked → UnmarkedForm unmarked fields
unfolding unmarked_at
unmarked_form fields unmarked e =
    let a = bind_some (split 32 fields) (λ first. key_at first.0 >>= λ key. anchors_at first.1 >>= λ anchors. Some (key, anchors)) unmarked e in
    let b = bind_some (key_at a.0.0) (λ key. anchors_at a.0.1 >>= λ anchors. Some (key, anchors)) unmarked a.2 in
    let c = bind_some (anchors_at a.0.1) (λ anchors. Some (b.0, anchors)) unmarked b.2 in
    let made : Unmarked = (b.0, c.0) in
    let same : made ≡ unmarked = cc (c.2) in
    let form : UnmarkedForm made fields = record { first = a.0.0; second = a.0.1; whole = (split_takes 32 fields a.0.0 a.0.1 a.1).0; before = key_form a.0.0 b.0 b.1; after = anchors_form a.0.1 c.0 c.1 } in
    subst (λ (x : Unmarked). UnmarkedForm x fields) same form

unmarked_read : (fields : List ℕ) (unmarked : Unmarked) → UnmarkedForm unmarked fields → unmarked_at fields ≡ Some unmarked
unfolding unmarked_at
unmarked_read fields unmarked j =
    rw (joined_again 32 fields j (key_lacks 32 unmarked.0 j.first (omega arith) j.before), key_read j.first unmarked.0 j.before, anchors_read j.second unmarked.1 j.after) refl

unmark_form : (line fields : List ℕ) (op : Op) → line ≡ codes "u" ␣ fields → unmark_at fields ≡ Some op → OpForm op line
unfolding unmark_at
unmark_form line fields op text e =
    let a = bind_some (split 32 fields) (λ first. id_at first.0 >>= λ id. unmarked_at first.1 >>= λ unmarked. Some (RemoveMark id unmarked.0 unmarked.1.0 unmarked.1.1)) op e in
    let b = bind_some (id_at a.0.0) (λ id. unmarked_at a.0.1 >>= λ unmarked. Some (RemoveMark id unmarked.0 unmarked.1.0 unmarked.1.1)) op a.2 in
    let c = bind_some (unmarked_at a.0.1) (λ unmarked. Some (RemoveMark b.0 unmarked.0 unmarked.1.0 unmarked.1.1)) op b.2 in
    let same : RemoveMark b.0 c.0.0 c.0.1.0 c.0.1.1 ≡ op = cc (c.2) in
    let behind : Joined 32 (IdForm b.0) (UnmarkedForm c.0) fields = record { first = a.0.0; second = a.0.1; whole = (split_takes 32 fields a.0.0 a.0.1 a.1).0; before = id_form a.0.0 b.0 b.1; after = unmarked_form a.0.1 c.0 c.1 } in
    let form : OpForm (RemoveMark b.0 c.0.0 c.0.1.0 c.0.1.1) line = record { first = codes "u"; second = fields; whole = text; before = refl; after = behind } in
    subst (λ (x : Op). OpForm x line) same form

unmark_read : (fields : List ℕ) (id : OpId) (unmarked : Unmarked) → Joined 32 (IdForm id) (UnmarkedForm unmarked) fields → unmark_at fields ≡ Some (RemoveMark id unmarked.0 unmarked.1.0 unmarked.1.1)
unfolding unmark_at
unmark_read fields id unmarked j =
    rw (joined_again 32 fields j (id_lacks 32 id j.first (omega arith) j.before), id_read j.first id j.before, unmarked_read j.second unmarked j.after) refl

revive_form : (line fields : List ℕ) (op : Op) → line ≡ codes "v" ␣ fields → revive_at fields ≡ Some op → OpForm op line
unfolding revive_at
revive_form line fields op text e =
    let a = bind_some (split 32 fields) (λ first. id_at first.0 >>= λ id. id_at first.1 >>= λ removal. Some (Revive id removal)) op e in
    let b = bind_some (id_at a.0.0) (λ id. id_at a.0.1 >>= λ removal. Some (Revive id removal)) op a.2 in
    let c = bind_some (id_at a.0.1) (λ removal. Some (Revive b.0 removal)) op b.2 in
    let same : Revive b.0 c.0 ≡ op = cc (c.2) in
    let behind : IdsForm b.0 c.0 fields = record { first = a.0.0; second = a.0.1; whole = (split_takes 32 fields a.0.0 a.0.1 a.1).0; before = id_form a.0.0 b.0 b.1; after = id_form a.0.1 c.0 c.1 } in
    let form : OpForm (Revive b.0 c.0) line = record { first = codes "v"; second = fields; whole = text; before = refl; after = behind } in
    subst (λ (x : Op). OpForm x line) same form

revive_read : (fields : List ℕ) (id removal : OpId) → IdsForm id removal fields → revive_at fields ≡ Some (Revive id removal)
unfolding revive_at
revive_read fields id removal j =
    rw (joined_again 32 fields j (id_lacks 32 id j.first (omega arith) j.before), id_read j.first id j.before, id_read j.second removal j.after) refl

-- whole lines

pub op_form : (line : List ℕ) (op : Op) → op_at line ≡ Some op → OpForm op line
unfolding op_at
op_form line op e =
    let a = bind_some (split 32 line) (λ first. if bytes_eq first.0 (codes "i") then insert_at first.1 else if bytes_eq first.0 (codes "d") then remove_at first.1 else if bytes_eq first.0 (codes "m") then mark_at first.1 else if bytes_eq first.0 (codes "u") then unmark_at first.1 else if bytes_eq first.0 (codes "v") then revive_at first.1 else None) op e in
    kinds a.0.0 a.0.1 (split_takes 32 line a.0.0 a.0.1 a.1).0 a.2
  where
    kinds : (name fields : List ℕ) → line ≡ name ␣ fields → (if bytes_eq name (codes "i") then insert_at fields else if bytes_eq name (codes "d") then remove_at fields else if bytes_eq name (codes "m") then mark_at fields else if bytes_eq name (codes "u") then unmark_at fields else if bytes_eq name (codes "v") then revive_at fields else None) ≡ Some op → OpForm op line
    kinds name fields whole e = go (bytes_eq name (codes "i")) (bytes_eq name (codes "d")) (bytes_eq name (codes "m")) (bytes_eq name (codes "u")) (bytes_eq name (codes "v")) refl refl refl refl refl e where
      named : (word : List ℕ) → bytes_eq name word ≡ true → line ≡ word ␣ fields
      named word f = whole ∙ ap (λ (x : List ℕ). x ␣ fields) (same_bytes name word f)

      go : (a b c d k : Bool) → bytes_eq name (codes "i") ≡ a → bytes_eq name (codes "d") ≡ b → bytes_eq name (codes "m") ≡ c → bytes_eq name (codes "u") ≡ d → bytes_eq name (codes "v") ≡ k
          → cond a (insert_at fields) (cond b (remove_at fields) (cond c (mark_at fields) (cond d (unmark_at fields) (cond k (revive_at fields) None)))) ≡ Some op → OpForm op line
      go true b c d k f1 f2 f3 f4 f5 e = insert_form line fields op (named (codes "i") f1) e
      go false true c d k f1 f2 f3 f4 f5 e = remove_form line fields op (named (codes "d") f2) e
      go false false true d k f1 f2 f3 f4 f5 e = mark_form line fields op (named (codes "m") f3) e
      go false false false true k f1 f2 f3 f4 f5 e = unmark_form line fields op (named (codes "u") f4) e
      go false false false false true f1 f2 f3 f4 f5 e = revive_form line fields op (named (codes "v") f5) e
      go false false false false false f1 f2 f3 f4 f5 e = absurd cc

-- the first word is of one letter
pub lettered : (b : ℕ) (line : List ℕ) {Rest : List ℕ → Type 0} (j : Joined 32 (Word (b ∷ [])) Rest line) → eqb b 32 ≡ false → split 32 line ≡ Some (b ∷ [], j.second)
lettered b line j h = ap (split 32) (j.whole ∙ ap (λ (x : List ℕ). x ++ 32 ∷ j.second) j.before) ∙ kind b j.second h

pub op_read : (line : List ℕ) (op : Op) → OpForm op line → op_at line ≡ Some op
unfolding op_at
op_read line (Insert id parent character) j = rw (lettered 105 line j refl, insert_read j.second id parent character j.after) refl
op_read line (Remove id target) j = rw (lettered 100 line j refl, remove_read j.second id target j.after) refl
op_read line (AddMark id attribute start end) j = rw (lettered 109 line j refl, mark_read j.second id (attribute, (start, end)) j.after) refl
op_read line (RemoveMark id key start end) j = rw (lettered 117 line j refl, unmark_read j.second id (key, (start, end)) j.after) refl
op_read line (Revive id removal) j = rw (lettered 118 line j refl, revive_read j.second id removal j.after) refl
