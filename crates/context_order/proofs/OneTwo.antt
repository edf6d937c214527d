-- By contexts 1 and 2 an instruction does the same, unless context 1 refuses it or it loads the length of a link.
use Rattle.std.proofs.Common.{◌≡◌, ℕ, ℤ, ◌≤◌, ◌<◌, nat_le, nat_lt, nat_eq, ◌*◌, ◌^◌, if◌then◌else◌, Bool, true, false, cond, Option, Some, None, Result, Ok, Err, List, [], ◌∷◌, find, refl, sym, subst, ap, ◌∙◌, arith, ⊎_elim}
use Rattle.std.specs.Prelude.{option_map, option_and_then}
use Rattle.std.specs.Bool.{⊤}
use Rattle.std.specs.Option.{option_map_or}
use Rattle.std.specs.Int.{cast_unsigned, w64}
use Rattle.std.proofs.lemmas.Bool.Decides.{nat_tests}
use Rattle.std.proofs.lemmas.Bool.{cases_lt, cases_Bool, eqb-true}
use Rattle.span_context.specs.declared.profile.Profile.TheVariants.{One, Two}
use Rattle.span_context.specs.declared.size.Size.{Size}
use Rattle.span_context.specs.declared.size.Size.TheVariants.{Byte, Half, Word, Double}
use Rattle.span_context.specs.declared.context_field.ContextField.{ContextField}
use Rattle.span_context.specs.declared.context_field.ContextField.TheVariants as field
use Rattle.span_context.specs.ContextField.{offset_of}
use Rattle.bpf_words.specs.declared.instruction.Insn.{Insn}
use Rattle.bpf_words.specs.declared.instruction.Insn.TheVariants.{Compute, Negate, Extend, Convert, Jump, JumpLong, Branch, Load, LoadSigned, Store, LoadWide, Exit}
use Rattle.bpf_words.specs.declared.instruction.Arithmetic.{Arithmetic}
use Rattle.bpf_words.specs.declared.instruction.Arithmetic.TheVariants as is
use Rattle.bpf_words.specs.declared.instruction.Width.{Width}
use Rattle.bpf_words.specs.declared.instruction.Width.TheVariants.{Narrow, Full}
use Rattle.bpf_words.specs.declared.instruction.Operand.{Operand}
use Rattle.semantics.specs.Memory.{bytes_in, bytes_in_signed}
use Rattle.abstract_state.specs.declared.region.Region.{Region}
use Rattle.abstract_state.specs.declared.refusal.Refusal.{Refusal}
use Rattle.abstract_state.specs.declared.refusal.Refusal.TheVariants as refusal
use Rattle.abstract_state.specs.Estimate.{Estimate, unknown, only, operand_cut}
use Rattle.abstract_state.specs.Transfer.{transferred, applied, added, taken_away, sum, sum_tail, divided, quotient_tails, tails_over, shifted_right, shifted_right_by, shifted_signed, count, by_count, shrunk}
use Rattle.abstract_state.specs.Addresses.{Content, ANumber, InContext, InStack, InRegion, answer_of, then_answer, displaced, staying, from_context, from_stack, near, from_region, onto_region, between, computed, moved}
use Rattle.abstract_state.specs.Stacks.{Slots}
use Rattle.semantics.specs.Value.{bits_of}
use Rattle.abstract_state.specs.Loading.{field_at, lent_field, text_field, link_field, part_of_number, part_at, context_at, context_field, place, readable, loaded, any_of, a_number}
use Rattle.abstract_state.specs.Situation.{Situation, Least, read, operand_of}
use Rattle.abstract_state.specs.Stepping.{into, made, compute, arithmetic, stepped}
use Rattle.tracked_state.specs.Rules as tracked_rules
use Rattle.tracked_state.specs.Rules.{TrackedWays}
use Rattle.tracked_state.specs.Tracked.{TrackedSituation, tracked}
use Rattle.verifier.specs.Decides.{led, ways}
use Rattle.context_order.specs.LinkLength.{LoadsLength}

-- the second answer is the first, unless that is a refusal
abbrev pub Agrees : {A : Type 0} → Result A Refusal → Result A Refusal → Type 0
Agrees (Err e) q = Unit {0}
Agrees (Ok a) q = q ≡ Ok a

itself : {A : Type 0} (r : Result A Refusal) → Agrees r r
itself (Err e) = tt
itself (Ok a) = refl

equal : {A : Type 0} (r q : Result A Refusal) → q ≡ r → Agrees r q
equal (Err e) q h = tt
equal (Ok a) q h = h

answers : {A B : Type 0} (f : A → B) (r q : Result A Refusal) → Agrees r q → Agrees (answer_of f r) (answer_of f q)
answers f (Err e) q h = tt
answers f (Ok a) q h = ap (λ o. answer_of f o) h

thens : {A B : Type 0} (f g : A → Result B Refusal) (r q : Result A Refusal) → Agrees r q → ((a : A) → Agrees (f a) (g a)) → Agrees (then_answer f r) (then_answer g q)
thens f g (Err e) q h each = tt
thens f g (Ok a) q h each = subst (λ o. Agrees (f a) (then_answer g o)) (sym h) (each a)

-- ---- operations
and_thens : {A B : Type 0} (f g : A → Option B) (o : Option A) → ((a : A) → f a ≡ g a) → option_and_then f o ≡ option_and_then g o
and_thens f g None each = refl
and_thens f g (Some a) each = each a

counted : (f g : ℕ → Option Estimate) (other : Option Estimate) (o : Option ℕ) → ((n : ℕ) → f n ≡ g n) → option_map_or f o other ≡ option_map_or g o other
counted f g other None each = refl
counted f g other (Some n) each = each n

by_counts : (f g : ℕ → Option Estimate) (other : Option Estimate) (width : Width) (b : Estimate) → ((n : ℕ) → f n ≡ g n) → by_count f other width b ≡ by_count g other width b
by_counts f g other width b each = and_thens (λ n. option_map_or f (only n) other) (λ n. option_map_or g (only n) other) (count width b) (λ n. counted f g other (only n) each)

right_by : (width : Width) (a : Estimate) (n : ℕ) → shifted_right_by Two width a n ≡ shifted_right_by One width a n
unfolding shifted_right_by tails_over
right_by width a n = refl

guarded : (b : Bool) (o p q : Option Estimate) → o ≡ p → (if b then o else q) ≡ (if b then p else q)
guarded true o p q e = e
guarded false o p q e = refl

same_quotient : (width : Width) (a b : Estimate) → divided Two width a b ≡ divided One width a b
unfolding divided quotient_tails tails_over
same_quotient width a b = refl

same_sum : (width : Width) (a b : Estimate) → sum Two width a b ≡ sum One width a b
unfolding sum sum_tail
same_sum width a b = refl

same_added : (width : Width) (a b : Estimate) → added Two width a b ≡ added One width a b
unfolding added sum sum_tail
same_added width a b = refl

same_taken : (width : Width) (a b : Estimate) → taken_away Two width a b ≡ taken_away One width a b
unfolding taken_away sum sum_tail
same_taken width a b = refl

same_applied : (operation : Arithmetic) (width : Width) (a b : Estimate) → applied Two operation width a b ≡ applied One operation width a b
unfolding applied shifted_right shifted_signed
same_applied is.Add width a b = same_added width a b
same_applied is.Sub width a b = same_taken width a b
same_applied is.Mul width a b = refl
same_applied is.Div width a b = same_quotient width a b
same_applied is.Or width a b = refl
same_applied is.And width a b = refl
same_applied is.Lsh width a b = refl
same_applied is.Rsh width a b = by_counts (shifted_right_by Two width a) (shifted_right_by One width a) (shrunk width a) width b (right_by width a)
same_applied is.Mod width a b = refl
same_applied is.Xor width a b = refl
same_applied is.Mov width a b = refl
same_applied is.Arsh width a b =
    by_counts
    (λ n. if nat_lt (2 * a.range.high) (2 ^ bits_of width) then shifted_right_by Two width a n else Some (unknown width))
    (λ n. if nat_lt (2 * a.range.high) (2 ^ bits_of width) then shifted_right_by One width a n else Some (unknown width))
    (Some (unknown width)) width b
    (λ n. guarded (nat_lt (2 * a.range.high) (2 ^ bits_of width)) (shifted_right_by Two width a n) (shifted_right_by One width a n) (Some (unknown width)) (right_by width a n))
same_applied is.SignedDiv width a b = refl
same_applied is.SignedMod width a b = refl

same_transferred : (operation : Arithmetic) (width : Width) (a b : Estimate) → transferred Two operation width a b ≡ transferred One operation width a b
unfolding transferred
same_transferred operation width a b =
    and_thens
    (λ x. option_and_then (applied Two operation width x) (operand_cut width b))
    (λ x. option_and_then (applied One operation width x) (operand_cut width b)) (operand_cut width a)
    (λ x. and_thens (applied Two operation width x) (applied One operation width x) (operand_cut width b) (same_applied operation width x))

-- ---- addresses
stays : (o : Option ℕ) → Agrees (staying 56 InContext o) (staying 72 InContext o)
stays None = tt
stays (Some n) =
    ⊎_elim
    (λ (far : 56 < n). let no : nat_le n 56 ≡ false = grind (arith, nat_tests) in rw no tt)
    (λ (there : n ≤ 56).
    let yes : nat_le n 56 ≡ true = grind (arith, nat_tests) in
    let also : nat_le n 72 ≡ true = grind (arith, nat_tests) in rw (yes, also) refl)
    (cases_lt 56 n)

from_contexts : (operation : Arithmetic) (width : Width) (offset : ℕ) (by : Estimate) → Agrees (from_context One operation width offset by) (from_context Two operation width offset by)
unfolding from_context
from_contexts operation width offset by = stays (displaced operation width offset by)

near_same : (region : Region) (o p : Option Estimate) → p ≡ o → Agrees (near region o) (near region p)
near_same region o p e = equal (near region o) (near region p) (ap (λ q. near region q) e)

from_regions : (operation : Arithmetic) (width : Width) (region : Region) (offset by : Estimate) → Agrees (from_region One operation width region offset by) (from_region Two operation width region offset by)
unfolding from_region
from_regions is.Add Full region offset by = near_same region (added One Full offset by) (added Two Full offset by) (same_added Full offset by)
from_regions is.Add Narrow region offset by = tt
from_regions is.Sub Full region offset by = near_same region (taken_away One Full offset by) (taken_away Two Full offset by) (same_taken Full offset by)
from_regions is.Sub Narrow region offset by = tt
from_regions is.Mul width region offset by = tt
from_regions is.Div width region offset by = tt
from_regions is.Or width region offset by = tt
from_regions is.And width region offset by = tt
from_regions is.Lsh width region offset by = tt
from_regions is.Rsh width region offset by = tt
from_regions is.Mod width region offset by = tt
from_regions is.Xor width region offset by = tt
from_regions is.Mov width region offset by = tt
from_regions is.Arsh width region offset by = tt
from_regions is.SignedDiv width region offset by = tt
from_regions is.SignedMod width region offset by = tt

onto_regions : (operation : Arithmetic) (width : Width) (region : Region) (by offset : Estimate) → Agrees (onto_region One operation width region by offset) (onto_region Two operation width region by offset)
unfolding onto_region
onto_regions is.Add Full region by offset = near_same region (added One Full by offset) (added Two Full by offset) (same_added Full by offset)
onto_regions is.Add Narrow region by offset = tt
onto_regions is.Sub width region by offset = tt
onto_regions is.Mul width region by offset = tt
onto_regions is.Div width region by offset = tt
onto_regions is.Or width region by offset = tt
onto_regions is.And width region by offset = tt
onto_regions is.Lsh width region by offset = tt
onto_regions is.Rsh width region by offset = tt
onto_regions is.Mod width region by offset = tt
onto_regions is.Xor width region by offset = tt
onto_regions is.Mov width region by offset = tt
onto_regions is.Arsh width region by offset = tt
onto_regions is.SignedDiv width region by offset = tt
onto_regions is.SignedMod width region by offset = tt

computes : (operation : Arithmetic) (width : Width) (a b : Content) → Agrees (computed One operation width a b) (computed Two operation width a b)
unfolding computed between
computes operation width (ANumber a) (ANumber b) = ap (λ o. Ok (option_map ANumber o)) (same_transferred operation width a b)
computes operation width (InContext p) (ANumber b) = answers Some (from_context One operation width p b) (from_context Two operation width p b) (from_contexts operation width p b)
computes operation width (InStack p) (ANumber b) = itself (answer_of Some (from_stack operation width p b))
computes operation width (InRegion r a) (ANumber b) = from_regions operation width r a b
computes operation width (ANumber a) (InRegion r b) = onto_regions operation width r a b
computes operation width (InRegion r a) (InRegion s b) = tt
computes operation width (ANumber a) (InContext q) = tt
computes operation width (ANumber a) (InStack q) = tt
computes operation width (InContext p) (InContext q) = tt
computes operation width (InContext p) (InStack q) = tt
computes operation width (InContext p) (InRegion s b) = tt
computes operation width (InStack p) (InContext q) = tt
computes operation width (InStack p) (InStack q) = tt
computes operation width (InStack p) (InRegion s b) = tt
computes operation width (InRegion r a) (InContext q) = tt
computes operation width (InRegion r a) (InStack q) = tt

makes : (d : ℕ) (s : Situation) (f g : Content → Result (Option Content) Refusal) (content : Result Content Refusal) → ((a : Content) → Agrees (f a) (g a)) → Agrees (made d s f content) (made d s g content)
unfolding made
makes d s f g content each = answers (into d s) (then_answer f content) (then_answer g content) (thens f g content content (itself content) each)

computes_into : (width : Width) (operation : Arithmetic) (d : ℕ) (operand : Operand) (s : Situation) → Agrees (compute One width operation d operand s) (compute Two width operation d operand s)
unfolding compute
computes_into width operation d operand s =
    thens (λ a. made d s (computed One operation width a) (operand_of s.registers operand))
    (λ a. made d s (computed Two operation width a) (operand_of s.registers operand)) (read (s.registers d)) (read (s.registers d)) (itself (read (s.registers d)))
    (λ a. makes d s (computed One operation width a) (computed Two operation width a) (operand_of s.registers operand) (computes operation width a))

arithmetics : (width : Width) (operation : Arithmetic) (d : ℕ) (operand : Operand) (s : Situation) → Agrees (arithmetic One width operation d operand s) (arithmetic Two width operation d operand s)
unfolding arithmetic
arithmetics width is.Mov d operand s = itself (made d s (moved width) (operand_of s.registers operand))
arithmetics width is.Add d operand s = computes_into width is.Add d operand s
arithmetics width is.Sub d operand s = computes_into width is.Sub d operand s
arithmetics width is.Mul d operand s = computes_into width is.Mul d operand s
arithmetics width is.Div d operand s = computes_into width is.Div d operand s
arithmetics width is.Or d operand s = computes_into width is.Or d operand s
arithmetics width is.And d operand s = computes_into width is.And d operand s
arithmetics width is.Lsh d operand s = computes_into width is.Lsh d operand s
arithmetics width is.Rsh d operand s = computes_into width is.Rsh d operand s
arithmetics width is.Mod d operand s = computes_into width is.Mod d operand s
arithmetics width is.Xor d operand s = computes_into width is.Xor d operand s
arithmetics width is.Arsh d operand s = computes_into width is.Arsh d operand s
arithmetics width is.SignedDiv d operand s = computes_into width is.SignedDiv d operand s
arithmetics width is.SignedMod d operand s = computes_into width is.SignedMod d operand s

-- ---- loads
fields : (f : ContextField) → (f ≡ field.LinkLength → ⊥) → Agrees (lent_field One f) (lent_field Two f)
unfolding lent_field text_field link_field
fields field.Text other = refl
fields field.End other = itself (text_field field.End)
fields field.Length other = itself (text_field field.Length)
fields field.Characters other = refl
fields field.Flags other = refl
fields field.Color other = refl
fields field.LinkLength other = absurd (other refl)
fields field.Comments other = refl
fields field.Index other = refl
fields field.Count other = refl
fields field.Version other = refl
fields field.Link other = tt
fields field.LinkEnd other = tt

parts : {A : Type 0} (f : ⊤ → A) (n count : ℕ) (q : Result A Refusal) → Agrees (answer_of f (part_of_number One n count)) q
unfolding part_of_number
parts f n count q = tt

found_field : (n : ℕ) (size : Size) (o : Option ContextField) → (o ≡ Some field.LinkLength → ⊥) → Agrees (option_map_or (lent_field One) o (part_at One n size)) (option_map_or (lent_field Two) o (part_at Two n size))
unfolding part_at
found_field n size None other = parts (a_number (any_of size)) n (bytes_in size) (part_at Two n size)
found_field n size (Some f) other = fields f (λ is. other (ap (λ g. Some g) is))

-- the field of the link's length is found at its offset alone
cond_true : (b : Bool) (x y : Option ContextField) → b ≡ true → cond b x y ≡ x
cond_true b x y e = ap (λ (c : Bool). cond c x y) e

cond_false : (b : Bool) (x y : Option ContextField) → b ≡ false → cond b x y ≡ y
cond_false b x y e = ap (λ (c : Bool). cond c x y) e

find_holds : (p : ContextField → Bool) (xs : List ContextField) (f : ContextField) → find p xs ≡ Some f → p f ≡ true
find_holds p [] f e = absurd (cc)
find_holds p (x ∷ xs) f e =
    ⊎_elim
    (λ (yes : p x ≡ true).
    let some : Some x ≡ Some f = sym (cond_true _ _ _ yes) ∙ e in
    let same : x ≡ f = cc in
    subst (λ (g : ContextField). p g ≡ true) same yes)
    (λ (no : p x ≡ false). find_holds p xs f (sym (cond_false _ _ _ no) ∙ e))
    (cases_Bool (p x))

none_there : field_at 32 Double ≡ None
unfolding field_at
none_there = refl

not_found : (n : ℕ) (size : Size) → (n ≡ 32 → size ≡ Word → ⊥) → field_at n size ≡ Some field.LinkLength → ⊥
unfolding field_at
not_found n Byte other found = absurd (cc)
not_found n Half other found = absurd (cc)
not_found n Word other found =
    let at : 32 ≡ n =
    eqb-true 32 n
    (find_holds (λ f. nat_eq (offset_of f) n) (field.Length ∷ field.Characters ∷ field.Flags ∷ field.Color ∷ field.LinkLength ∷ field.Comments ∷ field.Index ∷ field.Count ∷ []) field.LinkLength found) in
    other (sym at) refl
not_found n Double other found =
    let at : 32 ≡ n =
    eqb-true 32 n
    (find_holds (λ f. nat_eq (offset_of f) n) (field.Text ∷ field.End ∷ field.Version ∷ field.Link ∷ field.LinkEnd ∷ []) field.LinkLength found) in
    let there : field_at 32 Double ≡ Some field.LinkLength = subst (λ (m : ℕ). field_at m Double ≡ Some field.LinkLength) (sym at) found in
    let none = none_there in absurd (cc)

context_fields : (start offset : ℕ) (size : Size) (o : Option ℕ) → (o ≡ Some 32 → size ≡ Word → ⊥) → Agrees (option_map_or (λ n. context_at One n size) o (Err refusal.ContextField)) (option_map_or (λ n. context_at Two n size) o (Err refusal.ContextField))
unfolding context_at
context_fields start offset size None other = tt
context_fields start offset size (Some n) other =
    found_field n size (field_at n size) (not_found n size (λ at word. other (ap (λ m. Some m) at) word))

read_parts : (o : Option ℕ) (count : ℕ) → Agrees (option_map_or (λ n. part_of_number One n count) o (Err refusal.ContextField)) (option_map_or (λ n. part_of_number Two n count) o (Err refusal.ContextField))
unfolding part_of_number
read_parts None count = tt
read_parts (Some n) count = tt

reads : (slots : Slots) (least : Least) (a : Content) (offset count : ℕ) → Agrees (readable One slots least a offset count) (readable Two slots least a offset count)
unfolding readable part_of_number
reads slots least (ANumber a) offset count = tt
reads slots least (InContext p) offset count = read_parts (place p offset) count
reads slots least (InStack p) offset count = itself (readable Two slots least (InStack p) offset count)
reads slots least (InRegion r a) offset count = itself (readable Two slots least (InRegion r a) offset count)

-- what the base holds decides whether the field is loaded
loads : (slots : Slots) (least : Least) (a : Content) (offset : ℕ) (size : Size) → ((p : ℕ) → a ≡ InContext p → place p offset ≡ Some 32 → size ≡ Word → ⊥) → Agrees (loaded One slots least a offset size) (loaded Two slots least a offset size)
unfolding loaded context_field readable
loads slots least (ANumber a) offset size other = itself (loaded Two slots least (ANumber a) offset size)
loads slots least (InContext p) offset size other = context_fields p offset size (place p offset) (other p refl)
loads slots least (InStack p) offset size other = itself (loaded Two slots least (InStack p) offset size)
loads slots least (InRegion r a) offset size other = itself (loaded Two slots least (InRegion r a) offset size)

load_into : (size : Size) (d : ℕ) (offset : ℕ) (s : Situation) (o : Option Content) → ((p : ℕ) → o ≡ Some (InContext p) → place p offset ≡ Some 32 → size ≡ Word → ⊥) → Agrees (made d s (λ a. loaded One s.slots s.least a offset size) (read o)) (made d s (λ a. loaded Two s.slots s.least a offset size) (read o))
unfolding made
load_into size d offset s None other = tt
load_into size d offset s (Some a) other =
    answers (into d s) (loaded One s.slots s.least a offset size) (loaded Two s.slots s.least a offset size)
    (loads s.slots s.least a offset size (λ p is. other p (ap (λ b. Some b) is)))

no_length : (size : Size) (d base : ℕ) (offset : ℤ) (s : Situation) → (LoadsLength (Load size d base offset) s → ⊥) → (p : ℕ) → s.registers base ≡ Some (InContext p) → place p (cast_unsigned w64 offset) ≡ Some 32 → size ≡ Word → ⊥
no_length Word d base offset s other p holds at word = other (p, holds, at)
no_length Byte d base offset s other p holds at word = absurd (cc)
no_length Half d base offset s other p holds at word = absurd (cc)
no_length Double d base offset s other p holds at word = absurd (cc)

-- ---- the instructions
steps : (insn : Insn) (s : Situation) → (LoadsLength insn s → ⊥) → Agrees (stepped One insn s) (stepped Two insn s)
unfolding stepped
steps (Compute width operation d operand) s other = arithmetics width operation d operand s
steps (Negate width d) s other = itself (stepped Two (Negate width d) s)
steps (Extend extension d source) s other = itself (stepped Two (Extend extension d source) s)
steps (Convert conversion bits d) s other = itself (stepped Two (Convert conversion bits d) s)
steps (Jump distance) s other = refl
steps (JumpLong distance) s other = refl
steps (Branch width comparison left right distance) s other = refl
steps (Load size d base offset) s other = load_into size d (cast_unsigned w64 offset) s (s.registers base) (no_length size d base offset s other)
steps (LoadSigned size d base offset) s other =
    makes d s
    (λ a. answer_of (a_number (unknown Full)) (readable One s.slots s.least a (cast_unsigned w64 offset) (bytes_in_signed size)))
    (λ a. answer_of (a_number (unknown Full)) (readable Two s.slots s.least a (cast_unsigned w64 offset) (bytes_in_signed size))) (read (s.registers base))
    (λ a. answers (a_number (unknown Full)) (readable One s.slots s.least a (cast_unsigned w64 offset) (bytes_in_signed size)) (readable Two s.slots s.least a (cast_unsigned w64 offset) (bytes_in_signed size)) (reads s.slots s.least a (cast_unsigned w64 offset) (bytes_in_signed size)))
steps (Store size base offset value) s other = itself (stepped Two (Store size base offset value) s)
steps (LoadWide d value) s other = refl
steps Exit s other = itself (stepped Two Exit s)

tracked_steps : (slot : ℕ) (insn : Insn) (t : TrackedSituation) → (LoadsLength insn t.situation → ⊥) → Agrees (answer_of (ways None) (tracked_rules.stepped One slot insn t)) (answer_of (ways None) (tracked_rules.stepped Two slot insn t))
tracked_steps slot insn t other =
    answers (ways None) (tracked_rules.stepped One slot insn t) (tracked_rules.stepped Two slot insn t)
    (answers (option_map (tracked (tracked_rules.followed_marking slot insn t))) (stepped One insn t.situation) (stepped Two insn t.situation) (steps insn t.situation other))

pub leads : (slot : ℕ) (insn : Insn) (t : TrackedSituation) → (LoadsLength insn t.situation → ⊥) → Agrees (led One slot insn t) (led Two slot insn t)
unfolding led
leads slot (Branch width comparison left right distance) t other = itself (led Two slot (Branch width comparison left right distance) t)
leads slot (Jump distance) t other = refl
leads slot (JumpLong distance) t other = refl
leads slot Exit t other = itself (led Two slot Exit t)
leads slot (Compute width operation d operand) t other = tracked_steps slot (Compute width operation d operand) t other
leads slot (Negate width d) t other = tracked_steps slot (Negate width d) t other
leads slot (Extend extension d source) t other = tracked_steps slot (Extend extension d source) t other
leads slot (Convert conversion bits d) t other = tracked_steps slot (Convert conversion bits d) t other
leads slot (Load size d base offset) t other = tracked_steps slot (Load size d base offset) t other
leads slot (LoadSigned size d base offset) t other = tracked_steps slot (LoadSigned size d base offset) t other
leads slot (Store size base offset value) t other = tracked_steps slot (Store size base offset value) t other
leads slot (LoadWide d value) t other = tracked_steps slot (LoadWide d value) t other
