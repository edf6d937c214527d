-- Loads of the fields that say a region's length, or the address of its end.
use Rattle.std.proofs.Common.{◌≡◌, ℕ, ℤ, ◌+◌, ◌%◌, ◌^◌, ◌<◌, ◌≤◌, Bool, cond, nat_eq, drop, Option, Some, None, Result, Ok, refl, sym, ◌∙◌, ap, subst, arith}
use Rattle.std.specs.Int.{cast_unsigned, w64}
use Rattle.byteorder.specs.Endian.{little_number}
use Rattle.span_context.specs.Context.{context_base}
use Rattle.span_context.specs.Profile.{context_length, lends_link}
use Rattle.span_context.specs.declared.profile.Profile.TheVariants.{Three}
use Rattle.span_context.specs.declared.size.Size.{Size}
use Rattle.span_context.specs.declared.size.Size.TheVariants.{Byte, Half, Word, Double}
use Rattle.semantics.specs.declared.FaultKind.{FaultKind}
use Rattle.semantics.specs.State.{State}
use Rattle.semantics.specs.Memory.{address_of, load, bytes_in}
use Rattle.abstract_state.specs.declared.region.Region.{Region}
use Rattle.abstract_state.specs.declared.region.Region.TheVariants.{Text, Link}
use Rattle.abstract_state.specs.declared.known.Known.TheVariants.{Number, Context, Stack, Lent}
use Rattle.abstract_state.specs.declared.state.AbsReg.{AbsReg}
use Rattle.abstract_state.specs.declared.state.AbsReg.TheVariants.{Unset, Set}
use Rattle.abstract_state.specs.Lent.{Lengths, base_of, length_of, end_field}
use Rattle.abstract_state.specs.State.{Span, lengths_of}
use Rattle.abstract_state.specs.Situation as rules
use Rattle.abstract_state.proofs.Memories.{loads_field, field_end, field_count, link_end, link_count}
use Rattle.value_marks.specs.declared.mark.Mark.{Mark}
use Rattle.value_marks.specs.Mark.{Agrees}
use Rattle.value_marks.proofs.Moved.{by_test, at_place}
use Rattle.value_marks.proofs.Held.{Fits}
use Rattle.length_marks.specs.Names.{NamesLengths, name_of}
use Rattle.length_marks.specs.Lengths.{length_field, length_mark, end_mark, mark_of_field, mark_at}

abbrev fine : ℕ → Result ℕ FaultKind
fine m = Ok m

ok_same : (m n : ℕ) → fine m ≡ Ok n → m ≡ n
ok_same m n e = cc

some_mark : (m n : Mark) → Some m ≡ Some n → n ≡ m
some_mark m n e = cc

none_some : (o : Option Mark) (m : Mark) → o ≡ None → o ≡ Some m → ⊥
none_some o m e f = cc

-- ---- what stands in each of the four fields
field_bytes : (span : Span) (s : State) (n count v : ℕ) → span.profile ≡ Three → n + count ≤ 72 → load span.bytes s.stack (context_base + n) count ≡ Ok v → v ≡ little_number count (drop n span.bytes.context)
field_bytes span s n count v third within ran =
    let long : context_length span.profile ≡ 72 = ap context_length third in
    sym (ok_same _ v (sym (loads_field span s.stack (context_base + n) n count refl (omega (arith, long))) ∙ ran))

length_there : (span : Span) (s : State) (region : Region) (v : ℕ) → span.profile ≡ Three → load span.bytes s.stack (context_base + length_field region) 4 ≡ Ok v → v ≡ length_of (lengths_of span) region
length_there span s Text v third ran = field_bytes span s 16 4 v third (omega arith) ran ∙ sym (field_count span Word 16 refl refl)
length_there span s Link v third ran = field_bytes span s 32 4 v third (omega arith) ran ∙ sym (link_count span Word 32 (ap lends_link third) refl refl)

end_there : (span : Span) (s : State) (region : Region) (v : ℕ) → span.profile ≡ Three → load span.bytes s.stack (context_base + end_field region) 8 ≡ Ok v → v ≡ (base_of region + length_of (lengths_of span) region) % 2 ^ 64
end_there span s Text v third ran = field_bytes span s 8 8 v third (omega arith) ran ∙ sym (field_end span Double 8 refl refl)
end_there span s Link v third ran = field_bytes span s 64 8 v third (omega arith) ran ∙ sym (link_end span Double 64 (ap lends_link third) refl refl)

named_so : (origins : ℕ → ℕ) (lengths : Lengths) (region : Region) → NamesLengths origins lengths → origins (name_of region) ≡ length_of lengths region
named_so origins lengths Text names = names.text
named_so origins lengths Link names = names.link

length_agrees : (span : Span) (s : State) (region : Region) (v : ℕ) (origins : ℕ → ℕ) → span.profile ≡ Three → NamesLengths origins (lengths_of span) → load span.bytes s.stack (context_base + length_field region) 4 ≡ Ok v → Agrees origins (length_mark region) v
length_agrees span s region v origins third names ran =
    let is = length_there span s region v third ran in
    let name = named_so origins (lengths_of span) region names in
    omega (arith, is, name)

end_agrees : (span : Span) (s : State) (region : Region) (v : ℕ) (origins : ℕ → ℕ) → span.profile ≡ Three → NamesLengths origins (lengths_of span) → load span.bytes s.stack (context_base + end_field region) 8 ≡ Ok v → Agrees origins (end_mark region) v
end_agrees span s region v origins third names ran =
    let is = end_there span s region v third ran in
    let name = named_so origins (lengths_of span) region names in
    omega (arith, is, name)

-- ---- the mark of a field is one of four
abbrev rest : ℕ → ℕ → Mark → Option Mark
rest n k m = cond (nat_eq n k) (Some m) None

chosen : (n : ℕ) (f : Region → ℕ) (g : Region → Mark) (m : Mark) → cond (nat_eq n (f Text)) (Some (g Text)) (rest n (f Link) (g Link)) ≡ Some m → (region : Region) × (n ≡ f region) × (m ≡ g region)
chosen n f g m e =
    by_test ((region : Region) × (n ≡ f region) × (m ≡ g region)) (nat_eq n (f Text))
    (λ here. (Text, at_place n (f Text) here, some_mark (g Text) m (sym (ap (λ (b : Bool). cond b (Some (g Text)) (rest n (f Link) (g Link))) here) ∙ e)))
    (λ other.
    let left : rest n (f Link) (g Link) ≡ Some m = sym (ap (λ (b : Bool). cond b (Some (g Text)) (rest n (f Link) (g Link))) other) ∙ e in
    by_test ((region : Region) × (n ≡ f region) × (m ≡ g region)) (nat_eq n (f Link))
    (λ here. (Link, at_place n (f Link) here, some_mark (g Link) m (sym (ap (λ (b : Bool). cond b (Some (g Link)) None) here) ∙ left)))
    (λ apart. absurd (none_some None m refl (sym (ap (λ (b : Bool). cond b (Some (g Link)) None) apart) ∙ left))))

field_low : (region : Region) → (length_field region < 512) × (end_field region < 512)
field_low Text = (omega arith, omega arith)
field_low Link = (omega arith, omega arith)

pub field_within : (size : Size) (n : ℕ) (m : Mark) → mark_of_field size n ≡ Some m → n < 512
unfolding mark_of_field
field_within Byte n m e = absurd (cc)
field_within Half n m e = absurd (cc)
field_within Word n m e = let is = chosen n length_field length_mark m e in let low = (field_low is.0).0 in omega (arith, is.1, low)
field_within Double n m e = let is = chosen n end_field end_mark m e in let low = (field_low is.0).1 in omega (arith, is.1, low)

field_agrees : (span : Span) (s : State) (size : Size) (n v : ℕ) (m : Mark) (origins : ℕ → ℕ) → span.profile ≡ Three → NamesLengths origins (lengths_of span) → mark_of_field size n ≡ Some m → load span.bytes s.stack (context_base + n) (bytes_in size) ≡ Ok v → Agrees origins m v
unfolding mark_of_field
field_agrees span s Byte n v m origins third names e ran = absurd (cc)
field_agrees span s Half n v m origins third names e ran = absurd (cc)
field_agrees span s Word n v m origins third names e ran =
    let is = chosen n length_field length_mark m e in
    let there = sym (ap (λ (k : ℕ). load span.bytes s.stack (context_base + k) 4) is.1) ∙ ran in
    subst (λ (x : Mark). Agrees origins x v) (sym is.2) (length_agrees span s is.0 v origins third names there)
field_agrees span s Double n v m origins third names e ran =
    let is = chosen n end_field end_mark m e in
    let there = sym (ap (λ (k : ℕ). load span.bytes s.stack (context_base + k) 8) is.1) ∙ ran in
    subst (λ (x : Mark). Agrees origins x v) (sym is.2) (end_agrees span s is.0 v origins third names there)

-- ---- by what the base holds
place_address : (q offset : ℕ) → (q + offset) % 2 ^ 64 < 512 → (context_base + q + offset) % 2 ^ 64 ≡ context_base + (q + offset) % 2 ^ 64
place_address q offset low = omega arith

pub load_agrees : (span : Span) (s : State) (size : Size) (reg : AbsReg) (offset : ℤ) (n v : ℕ) (m : Mark) (origins : ℕ → ℕ) → span.profile ≡ Three → NamesLengths origins (lengths_of span) → Fits reg (lengths_of span) n → mark_at size (rules.register_of reg) offset ≡ Some m → load span.bytes s.stack (address_of n offset) (bytes_in size) ≡ Ok v → Agrees origins m v
unfolding mark_at
load_agrees span s size Unset offset n v m origins third names fits e ran = absurd (cc)
load_agrees span s size (Set (Number q)) offset n v m origins third names fits e ran = absurd (cc)
load_agrees span s size (Set (Context p)) offset n v m origins third names fits e ran =
    let by = cast_unsigned w64 offset in
    let low = field_within size ((p.offset + by) % 2 ^ 64) m e in
    let address : address_of n offset ≡ context_base + (p.offset + by) % 2 ^ 64 = ap (λ (k : ℕ). (k + by) % 2 ^ 64) (fits (Context p) refl) ∙ place_address p.offset by low in
    field_agrees span s size ((p.offset + by) % 2 ^ 64) v m origins third names e (sym (ap (λ (k : ℕ). load span.bytes s.stack k (bytes_in size)) address) ∙ ran)
load_agrees span s size (Set (Stack p)) offset n v m origins third names fits e ran = absurd (cc)
load_agrees span s size (Set (Lent p)) offset n v m origins third names fits e ran = absurd (cc)
