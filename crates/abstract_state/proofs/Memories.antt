-- Loads and stores by what is known of the address.
use Rattle.std.proofs.Common.{◌≡◌, ℕ, ◌+◌, ◌-◌, ◌/◌, ◌%◌, ◌^◌, ◌<◌, ◌≤◌, true, List, length, drop, get_or, Option, None, Ok, refl, sym, ◌∙◌, ap, subst, ⊎_elim, arith}
use Rattle.std.proofs.lemmas.Bool.{cases_lt}
use Rattle.std.proofs.lemmas.List.{get_or-drop}
use Rattle.byteorder.specs.Endian.{little_number}
use Rattle.byteorder.specs.Numbers.{little_from-lt}
use Rattle.span_context.specs.Context.{SpanBytes, context_base, text_base, link_base, SaysLink, LendsLink}
use Rattle.span_context.specs.Profile.{context_length, lends_link}
use Rattle.span_context.specs.declared.profile.Profile.{Profile}
use Rattle.span_context.specs.declared.profile.Profile.TheVariants.{One, Two, Three}
use Rattle.span_context.specs.declared.size.Size.{Size}
use Rattle.span_context.specs.declared.size.Size.TheVariants.{Double, Word}
use Rattle.semantics.specs.State.{State}
use Rattle.semantics.specs.Safe.{AreBytes}
use Rattle.semantics.specs.Memory.{stack_base, load, stored, or_unset, bytes_in}
use Rattle.abstract_state.specs.declared.region.Region.{Region}
use Rattle.abstract_state.specs.declared.region.Region.TheVariants.{Text, Link}
use Rattle.abstract_state.specs.declared.bounds.Bounds.{Bounds}
use Rattle.abstract_state.specs.declared.state.AbsReg.{AbsReg}
use Rattle.abstract_state.specs.declared.state.AbsState.{AbsState}
use Rattle.abstract_state.specs.Lent.{Lengths, Lends, base_of, length_of}
use Rattle.abstract_state.specs.State.{Span, lengths_of, IsLong, Contains, ContainsRegister, register_at, bytes_of, HasByte, HasNumber, ContainsStack, Spares, Fills, with_stack}
use Rattle.abstract_state.proofs.Loads.{loads_context, loads_text, loads_link, loads_stack, number_set, number_back, stored_long, stored_before, stored_at, stored_after}

context_within : (profile : Profile) → context_length profile ≤ 72
context_within One = omega arith
context_within Two = omega arith
context_within Three = omega arith

-- no context has more than 72 bytes
context_short : (span : Span) → length span.bytes.context ≤ 72
context_short span = let most = context_within span.profile in let long = span.whole.fits.long in omega arith

pub near_small : (region : Region) (x : ℕ) → x ≤ 2 ^ 20 → base_of region + x < 2 ^ 63
near_small Text x h = omega arith
near_small Link x h = omega arith

pub number_fits : (count offset : ℕ) (bytes : List ℕ) → AreBytes bytes → little_number count (drop offset bytes) < 256 ^ count
number_fits count offset bytes small = little_from-lt 0 count (drop offset bytes) (λ k. subst (λ (n : ℕ). n < 256) (sym (get_or-drop offset bytes k 0)) (small (offset + k)))

-- a load from a lent region
pub loads_lent : (span : Span) (stack : List (Option ℕ)) (region : Region) (address offset count : ℕ) → address ≡ base_of region + offset → offset + count ≤ length_of (lengths_of span) region → (v : ℕ) × (load span.bytes stack address count ≡ Ok v) × (v < 256 ^ count)
loads_lent span stack Text address offset count at within = (
  little_number count (drop offset span.bytes.text),
  ap (λ (a : ℕ). load span.bytes stack a count) at ∙ loads_text span.bytes stack offset count (context_short span) within,
  number_fits count offset span.bytes.text span.whole.text_bytes,
)
loads_lent span stack Link address offset count at within = (
  little_number count (drop offset span.bytes.link),
  ap (λ (a : ℕ). load span.bytes stack a count) at
      ∙ loads_link span.bytes stack offset count (context_short span) span.whole.fits.short within,
  number_fits count offset span.bytes.link span.whole.link_bytes,
)

-- a load of set bytes of the stack
pub loads_set : (span : Span) (stack : List (Option ℕ)) (address offset count : ℕ) → address ≡ stack_base + offset → offset + count ≤ 512 → ((j : ℕ) → j < count → HasByte (bytes_of stack) (offset + j)) → (v : ℕ) × (load span.bytes stack address count ≡ Ok v) × (v < 256 ^ count)
loads_set span stack address offset count at within set =
    let number = number_set stack offset count set in (
      number.0,
      ap (λ (a : ℕ). load span.bytes stack a count) at ∙ loads_stack span.bytes stack offset count (context_short span) within ∙ ap or_unset number.1,
      number.2,
    )

-- a load of all that was spilled
pub loads_back : (span : Span) (stack : List (Option ℕ)) (address offset n : ℕ) → address ≡ stack_base + offset → offset + 8 ≤ 512 → HasNumber (bytes_of stack) offset n → n < 2 ^ 64 → load span.bytes stack address 8 ≡ Ok n
loads_back span stack address offset n at within bytes fits =
    ap (λ (a : ℕ). load span.bytes stack a 8) at
    ∙ loads_stack span.bytes stack offset 8 (context_short span) within
    ∙ ap or_unset (number_back stack offset 8 n bytes)
    ∙ ap (λ (m : ℕ). Ok m) (omega arith)

-- a load of a field
pub loads_field : (span : Span) (stack : List (Option ℕ)) (address offset count : ℕ) → address ≡ context_base + offset → offset + count ≤ context_length span.profile → load span.bytes stack address count ≡ Ok (little_number count (drop offset span.bytes.context))
loads_field span stack address offset count at within =
    ap (λ (a : ℕ). load span.bytes stack a count) at ∙ loads_context span.bytes stack offset count (let long = span.whole.fits.long in omega arith)

-- the state after a store on the stack
pub after_store : (a b : AbsState) (lengths : Lengths) (s : State) (offset count v : ℕ) → Contains a lengths s → offset + count ≤ 512 → b.registers ≡ a.registers → b.bounds ≡ a.bounds → ContainsStack b.stack lengths (bytes_of (stored s.stack offset count v)) → Contains b lengths (with_stack s (stored s.stack offset count v))
after_store a b lengths s offset count v c within registers bounds stack =
    let size = c.long in
    record {
      eleven = c.eleven;
      long = stored_long s.stack offset count v (omega arith) ∙ c.long;
      bounds = subst (λ (x : Bounds). IsLong x lengths) (sym bounds) c.bounds;
      registers = λ i h. subst (λ (r : List AbsReg). ContainsRegister (register_at r i) lengths (get_or s.registers i None)) (sym registers) (c.registers i h);
      stack = stack;
    }

pub store_spares : (stack : List (Option ℕ)) (offset count v : ℕ) → length stack ≡ 512 → offset + count ≤ 512 → Spares offset count (bytes_of stack) (bytes_of (stored stack offset count v))
store_spares stack offset count v long within k outside =
    ⊎_elim
    (λ (before : k < offset). stored_before stack offset count v k (omega arith) before)
    (λ (here : offset ≤ k).
    ⊎_elim
    (λ (inside : k < offset + count). absurd (outside here inside))
    (λ (after : offset + count ≤ k). stored_after stack offset count v k (omega arith) after)
    (cases_lt k (offset + count)))
    (cases_lt k offset)

pub store_fills : (stack : List (Option ℕ)) (offset count v : ℕ) → length stack ≡ 512 → offset + count ≤ 512 → Fills offset count (bytes_of (stored stack offset count v))
store_fills stack offset count v long within k from to =
    let at : offset + (k - offset) ≡ k = omega arith in
    (v / 256 ^ (k - offset) % 256, ap (bytes_of (stored stack offset count v)) (sym at) ∙ stored_at stack offset count v (k - offset) (omega arith) (omega arith), omega arith)

pub store_number : (stack : List (Option ℕ)) (offset v : ℕ) → length stack ≡ 512 → offset + 8 ≤ 512 → HasNumber (bytes_of (stored stack offset 8 v)) offset v
store_number stack offset v long within j h = stored_at stack offset 8 v j (omega arith) h

-- ---- the fields of a context
pub read_as : (size size' : Size) (offset offset' : ℕ) (context : List ℕ) → size ≡ size' → offset ≡ offset' → little_number (bytes_in size) (drop offset context) ≡ little_number (bytes_in size') (drop offset' context)
read_as size size' offset offset' context es ep =
    ap (λ (z : Size). little_number (bytes_in z) (drop offset context)) es ∙ ap (λ (p : ℕ). little_number (bytes_in size') (drop p context)) ep

pub field_begin : (span : Span) (size : Size) (offset : ℕ) → size ≡ Double → offset ≡ 0 → little_number (bytes_in size) (drop offset span.bytes.context) ≡ text_base + 0
field_begin span size offset es ep = read_as size Double offset 0 span.bytes.context es ep ∙ span.whole.fits.begins ∙ omega arith

pub field_end : (span : Span) (size : Size) (offset : ℕ) → size ≡ Double → offset ≡ 8 → (base_of Text + length span.bytes.text) % 2 ^ 64 ≡ little_number (bytes_in size) (drop offset span.bytes.context)
field_end span size offset es ep =
    let is = read_as size Double offset 8 span.bytes.context es ep ∙ span.whole.fits.ends in
    let limit = span.whole.fits.short in
    let small : (base_of Text + length span.bytes.text) % 2 ^ 64 ≡ text_base + length span.bytes.text = omega arith in
    small ∙ sym is

pub field_count : (span : Span) (size : Size) (offset : ℕ) → size ≡ Word → offset ≡ 16 → length span.bytes.text ≡ little_number (bytes_in size) (drop offset span.bytes.context)
field_count span size offset es ep = sym (read_as size Word offset 16 span.bytes.context es ep ∙ span.whole.fits.counts)

-- what a context says of the link, where the profile lends it
-- the link's text is lent to a program of the profile
pub lent_link : (profile : Profile) → Lends Link profile → lends_link profile ≡ true
lent_link One lends = absurd lends
lent_link Two lends = refl
lent_link Three lends = refl

lends_fields : (profile : Profile) (bytes : SpanBytes) → lends_link profile ≡ true → LendsLink profile bytes → SaysLink bytes
lends_fields One bytes lends link = absurd (cc)
lends_fields Two bytes lends link = link
lends_fields Three bytes lends link = link

says_link : (span : Span) → lends_link span.profile ≡ true → SaysLink span.bytes
says_link span lends = lends_fields span.profile span.bytes lends span.whole.fits.link

pub link_begin : (span : Span) (size : Size) (offset : ℕ) → lends_link span.profile ≡ true → size ≡ Double → offset ≡ 56 → little_number (bytes_in size) (drop offset span.bytes.context) ≡ link_base + 0
link_begin span size offset same es ep = read_as size Double offset 56 span.bytes.context es ep ∙ (says_link span same).begins ∙ omega arith

pub link_end : (span : Span) (size : Size) (offset : ℕ) → lends_link span.profile ≡ true → size ≡ Double → offset ≡ 64 → (base_of Link + length span.bytes.link) % 2 ^ 64 ≡ little_number (bytes_in size) (drop offset span.bytes.context)
link_end span size offset same es ep =
    let is = read_as size Double offset 64 span.bytes.context es ep ∙ (says_link span same).ends in
    let limit = span.whole.fits.link_short in
    let small : (base_of Link + length span.bytes.link) % 2 ^ 64 ≡ link_base + length span.bytes.link = omega arith in
    small ∙ sym is

pub link_count : (span : Span) (size : Size) (offset : ℕ) → lends_link span.profile ≡ true → size ≡ Word → offset ≡ 32 → length span.bytes.link ≡ little_number (bytes_in size) (drop offset span.bytes.context)
link_count span size offset same es ep = sym (read_as size Word offset 32 span.bytes.context es ep ∙ (says_link span same).counts)
