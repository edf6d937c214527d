-- A run that ends with a number on the part of a span that the first profile lends ends so on the whole span.
use Rattle.std.proofs.Common.{◌≡◌, ℕ, zero, suc, ◌+◌, ◌-◌, ◌*◌, ◌<◌, ◌≤◌, nat_le, Bool, true, false, if◌then◌else◌, List, [], ◌∷◌, length, take, drop, get_or, Option, Some, None, Result, Ok, Err, pos, refl, sym, ap, ◌∙◌, arith}
use Rattle.std.proofs.lemmas.Bool.{leb-true, le-leb}
use Rattle.std.proofs.lemmas.List.{get_or-take, get_or-drop, length-take-le}
use Rattle.std.specs.List.{slice_get}
use Rattle.byteorder.specs.Endian.{little_number, little_from}
use Rattle.span_context.specs.Context.{context_base, text_base, link_base, SpanBytes, narrowed}
use Rattle.span_context.specs.declared.profile.Profile.{Profile}
use Rattle.span_context.specs.declared.profile.Profile.TheVariants.{One, Two, Three}
use Rattle.span_context.specs.declared.size.Size.{Size}
use Rattle.span_context.specs.declared.size.Size.TheVariants.{Byte, Half, Word, Double}
use Rattle.bpf_words.specs.declared.instruction.SignedSize.{SignedSize}
use Rattle.bpf_words.specs.declared.instruction.SignedSize.TheVariants.{SignedByte, SignedHalf, SignedWord}
use Rattle.bpf_words.specs.declared.instruction.Insn.{Insn}
use Rattle.bpf_words.specs.declared.instruction.Insn.TheVariants.{Compute, Negate, Extend, Convert, Jump, JumpLong, Branch, Load, LoadSigned, Store, LoadWide, Exit}
use Rattle.semantics.specs.declared.FaultKind.{FaultKind}
use Rattle.semantics.specs.declared.FaultKind.TheVariants.{ReadOnly, BadAddress}
use Rattle.semantics.specs.declared.Outcome.{Outcome}
use Rattle.semantics.specs.declared.Outcome.TheVariants.{Done}
use Rattle.semantics.specs.State.{State, start, register_of, operand_in}
use Rattle.semantics.specs.Value.{with_sign}
use Rattle.semantics.specs.Memory.{load, store, stored, address_of, bytes_in, bytes_in_signed, lies_in, in_context, in_text, in_link, in_stack, stack_base, is_lent, or_unset, stack_number}
use Rattle.semantics.specs.Step.{Program, Move, Moved, On, Gone, Next, Ends, Stepped, then_with, write_and_go, perform, land, step_at, step}
use Rattle.semantics.specs.Outcomes.{after, outcome_from, outcome}
use Rattle.semantics.proofs.Witness.{both}
use Rattle.semantics.specs.Safe.{AreBytes, IsSpanIn, IsSpan, SafeIn, Safe, IsBlindToLink}

-- each load that the one lets a run do gives the same number in the other
abbrev pub Extends : SpanBytes → SpanBytes → Type 0
Extends few many =
    (stack : List (Option ℕ)) (address count value : ℕ) → 0 < count → load few stack address count ≡ Ok value → load many stack address count ≡ Ok value

-- ---- what an instruction does
then_more : {A B : Type 0} (few many : Result A FaultKind) (rest onward : A → Result B FaultKind) (b : B) → ((a : A) → few ≡ Ok a → many ≡ Ok a) → ((a : A) → rest a ≡ Ok b → onward a ≡ Ok b) → then_with few rest ≡ Ok b → then_with many onward ≡ Ok b
then_more (Ok a) many rest onward b same next e = rw (same a refl) (next a e)
then_more (Err kind) many rest onward b same next e = absurd (cc)

store_more : (few many : SpanBytes) (stack new : List (Option ℕ)) (address count value : ℕ) → store few stack address count value ≡ Ok new → store many stack address count value ≡ Ok new
store_more few many stack new address count value e = go (in_stack address count) (is_lent few address count) (is_lent many address count) e where
  go : (inside a b : Bool) → (if inside then Ok (stored stack (address - stack_base) count value) else if a then Err ReadOnly else Err BadAddress) ≡ Ok new → (if inside then Ok (stored stack (address - stack_base) count value) else if b then Err ReadOnly else Err BadAddress) ≡ Ok new
  go true a b e = e
  go false true b e = absurd (cc)
  go false false b e = absurd (cc)

some_bytes : (size : Size) → 0 < bytes_in size
some_bytes Byte = omega arith
some_bytes Half = omega arith
some_bytes Word = omega arith
some_bytes Double = omega arith

some_signed : (size : SignedSize) → 0 < bytes_in_signed size
some_signed SignedByte = omega arith
some_signed SignedHalf = omega arith
some_signed SignedWord = omega arith

performs : (few many : SpanBytes) → Extends few many → (s : State) (insn : Insn) (move : Move) → perform few s insn ≡ Ok move → perform many s insn ≡ Ok move
performs few many more s (Compute width operation destination operand) move e = e
performs few many more s (Negate width destination) move e = e
performs few many more s (Extend extension destination source) move e = e
performs few many more s (Convert conversion bits destination) move e = e
performs few many more s (Jump distance) move e = e
performs few many more s (JumpLong distance) move e = e
performs few many more s (Branch width comparison left right distance) move e = e
performs few many more s (Load size destination base offset) move e =
    let on : ℕ → Moved = λ value. write_and_go s destination value (pos 0) in
    then_more (register_of s base) (register_of s base)
    (λ address. then_with (load few s.stack (address_of address offset) (bytes_in size)) on)
    (λ address. then_with (load many s.stack (address_of address offset) (bytes_in size)) on) move (λ a same. same)
    (λ address inner. then_more (load few s.stack (address_of address offset) (bytes_in size)) (load many s.stack (address_of address offset) (bytes_in size)) on on move
    (λ value is. more s.stack (address_of address offset) (bytes_in size) value (some_bytes size) is) (λ value w. w) inner) e
performs few many more s (LoadSigned size destination base offset) move e =
    let on : ℕ → Moved = λ value. write_and_go s destination (with_sign size value) (pos 0) in
    then_more (register_of s base) (register_of s base)
    (λ address. then_with (load few s.stack (address_of address offset) (bytes_in_signed size)) on)
    (λ address. then_with (load many s.stack (address_of address offset) (bytes_in_signed size)) on) move (λ a same. same)
    (λ address inner. then_more (load few s.stack (address_of address offset) (bytes_in_signed size)) (load many s.stack (address_of address offset) (bytes_in_signed size)) on on move
    (λ value is. more s.stack (address_of address offset) (bytes_in_signed size) value (some_signed size) is) (λ value w. w) inner) e
performs few many more s (Store size base offset operand) move e =
    let on : List (Option ℕ) → Moved = λ stack. Ok (On (record s { stack = stack }) (pos 0)) in
    then_more (register_of s base) (register_of s base)
    (λ address. then_with (operand_in s operand) (λ value. then_with (store few s.stack (address_of address offset) (bytes_in size) value) on))
    (λ address. then_with (operand_in s operand) (λ value. then_with (store many s.stack (address_of address offset) (bytes_in size) value) on)) move (λ a same. same)
    (λ address inner. then_more (operand_in s operand) (operand_in s operand)
    (λ value. then_with (store few s.stack (address_of address offset) (bytes_in size) value) on)
    (λ value. then_with (store many s.stack (address_of address offset) (bytes_in size) value) on) move (λ a same. same)
    (λ value last. then_more (store few s.stack (address_of address offset) (bytes_in size) value) (store many s.stack (address_of address offset) (bytes_in size) value) on on move
    (λ new is. store_more few many s.stack new (address_of address offset) (bytes_in size) value is) (λ new w. w) last) inner) e
performs few many more s (LoadWide destination value) move e = e
performs few many more s Exit move e = e

-- ---- runs
step_more : (program : Program) (few many : SpanBytes) → Extends few many → (s : State) (entry : Option (Option Insn)) (gone : Gone) → step_at program few s entry ≡ Ok gone → step_at program many s entry ≡ Ok gone
step_more program few many more s None gone e = absurd (cc)
step_more program few many more s (Some None) gone e = absurd (cc)
step_more program few many more s (Some (Some insn)) gone e =
    then_more (perform few s insn) (perform many s insn) (land program) (land program) gone (λ move is. performs few many more s insn move is) (λ move w. w) e

after_more : (few many : Stepped) (slot value : ℕ) (rest onward : State → Outcome) → ((gone : Gone) → few ≡ Ok gone → many ≡ Ok gone) → ((next : State) → rest next ≡ Done value → onward next ≡ Done value) → after few slot rest ≡ Done value → after many slot onward ≡ Done value
after_more (Ok (Next s)) many slot value rest onward same next e = rw (same (Next s) refl) (next s e)
after_more (Ok (Ends result)) many slot value rest onward same next e = rw (same (Ends result) refl) e
after_more (Err kind) many slot value rest onward same next e = absurd (cc)

pub runs_more : (program : Program) (few many : SpanBytes) → Extends few many → (steps value : ℕ) (s : State) → outcome_from program few steps s ≡ Done value → outcome_from program many steps s ≡ Done value
unfolding outcome_from
runs_more program few many more zero value s e = absurd (cc)
runs_more program few many more (suc steps) value s e =
    after_more (step program few s) (step program many s) s.slot value (λ next. outcome_from program few steps next) (λ next. outcome_from program many steps next)
    (λ gone is. step_more program few many more s (slice_get program s.slot) gone is) (λ next rest. runs_more program few many more steps value next rest) e

-- ---- the part of a span that the first profile lends
same_number : (start count offset : ℕ) (bytes : List ℕ) → offset + start + count ≤ 56 → little_from start count (drop offset (take 56 bytes)) ≡ little_from start count (drop offset bytes)
same_number start zero offset bytes h = refl
same_number start (suc count) offset bytes h =
    let first : get_or (drop offset (take 56 bytes)) start 0 ≡ get_or (drop offset bytes) start 0 =
    get_or-drop offset (take 56 bytes) start 0 ∙ get_or-take 56 bytes (offset + start) 0 (omega arith) ∙ sym (get_or-drop offset bytes start 0) in
    ap (λ a. a + 256 * little_from (suc start) count (drop offset (take 56 bytes))) first
    ∙ ap (λ n. get_or (drop offset bytes) start 0 + 256 * n) (same_number (suc start) count offset bytes (omega arith))

take_bytes : (n : ℕ) (bytes : List ℕ) → AreBytes bytes → AreBytes (take n bytes)
take_bytes zero bytes small k = omega arith
take_bytes (suc n) [] small k = small k
take_bytes (suc n) (b ∷ bytes) small zero = small 0
take_bytes (suc n) (b ∷ bytes) small (suc k) = take_bytes n bytes (λ j. small (suc j)) k

cut_short : (context : List ℕ) → length context ≡ 72 → length (take 56 context) ≡ 56
cut_short context long = length-take-le 56 context (omega arith)

pub narrow_span : (bytes : SpanBytes) → IsSpan bytes → IsSpanIn One (narrowed bytes)
narrow_span bytes span =
    let long = span.fits.long in
    record {
      fits = record {
        long = cut_short bytes.context long;
        short = span.fits.short;
        begins = same_number 0 8 0 bytes.context (omega arith) ∙ span.fits.begins;
        ends = same_number 0 8 8 bytes.context (omega arith) ∙ span.fits.ends;
        counts = same_number 0 4 16 bytes.context (omega arith) ∙ span.fits.counts;
        link_short = omega arith;
        link = refl;
      };
      context_bytes = take_bytes 56 bytes.context span.context_bytes;
      text_bytes = span.text_bytes;
      link_bytes = λ k. omega arith;
    }

-- ---- regions
lies : (base long address count : ℕ) → lies_in base long address count ≡ true → (base ≤ address) × (address + count ≤ base + long)
lies base long address count e =
    let parts = both (nat_le base address) (nat_le (address + count) (base + long)) e in (leb-true base address parts.0, leb-true (address + count) (base + long) parts.1)

lies_there : (base long address count : ℕ) → base ≤ address → address + count ≤ base + long → lies_in base long address count ≡ true
lies_there base long address count low high =
    let one = le-leb base address low in
    let two = le-leb (address + count) (base + long) high in
    rw (one, two) refl

lies_apart : (base long address count : ℕ) → (base ≤ address → address + count ≤ base + long → ⊥) → lies_in base long address count ≡ false
lies_apart base long address count never = go (lies_in base long address count) refl
  where
    go : (b : Bool) → lies_in base long address count ≡ b → b ≡ false
    go true e = let there = lies base long address count e in absurd (never there.0 there.1)
    go false e = refl

narrow_extends : (bytes : SpanBytes) → length bytes.context ≡ 72 → Extends (narrowed bytes) bytes
narrow_extends bytes long stack address count value some e =
    go (in_context (take 56 bytes.context) address count) (in_text bytes.text address count) (in_link [] address count) (in_stack address count) refl refl refl refl e
  where
    cut : length (take 56 bytes.context) ≡ 56
    cut = cut_short bytes.context long

    go : (a b c d : Bool) → in_context (take 56 bytes.context) address count ≡ a → in_text bytes.text address count ≡ b → in_link [] address count ≡ c → in_stack address count ≡ d
        → (if a then Ok (little_number count (drop (address - context_base) (take 56 bytes.context))) else if b then Ok (little_number count (drop (address - text_base) bytes.text)) else if c then Ok (little_number count (drop (address - link_base) [])) else if d then or_unset (stack_number stack (address - stack_base) count) else Err BadAddress) ≡ Ok value
        → load bytes stack address count ≡ Ok value
    go true b c d ea eb ec ed e =
        let there = lies context_base (length (take 56 bytes.context)) address count ea in
        let low : context_base ≤ address = there.0 in
        let high : address + count ≤ context_base + 56 = omega (arith, there.1, cut) in
        let here : in_context bytes.context address count ≡ true = lies_there context_base (length bytes.context) address count low (omega arith) in
        let within : address - context_base + 0 + count ≤ 56 = omega arith in
        simp here (ap Ok (sym (same_number 0 count (address - context_base) bytes.context within)) ∙ e)
    go false true c d ea eb ec ed e =
        let low = (lies text_base (length bytes.text) address count eb).0 in
        let apart : in_context bytes.context address count ≡ false = lies_apart context_base (length bytes.context) address count (λ l h. omega arith) in
        simp (apart, eb) e
    go false false true d ea eb ec ed e = let there = lies link_base 0 address count ec in let low = there.0 in let high = there.1 in absurd (omega arith)
    go false false false true ea eb ec ed e =
        let there = lies stack_base 512 address count ed in
        let low = there.0 in
        let high = there.1 in
        let apart : in_context bytes.context address count ≡ false = lies_apart context_base (length bytes.context) address count (λ l h. omega arith) in
        let above : in_link bytes.link address count ≡ false = lies_apart link_base (length bytes.link) address count (λ l h. omega arith) in
        simp (apart, eb, above, ed) e
    go false false false false ea eb ec ed e = absurd (cc)

-- the third profile lends what the second lends
pub third_span : (bytes : SpanBytes) → IsSpan bytes → IsSpanIn Three bytes
third_span bytes span =
    record {
      fits = record {
        long = span.fits.long;
        short = span.fits.short;
        begins = span.fits.begins;
        ends = span.fits.ends;
        counts = span.fits.counts;
        link_short = span.fits.link_short;
        link = span.fits.link;
      };
      context_bytes = span.context_bytes;
      text_bytes = span.text_bytes;
      link_bytes = span.link_bytes;
    }

-- a program that is safe by what a profile lends is safe on every span
pub seen_safe : (profile : Profile) (program : Program) → SafeIn profile program → Safe program
seen_safe One program safe = λ bytes span.
    let run = safe (narrowed bytes) (narrow_span bytes span) in
    (run.0, runs_more program (narrowed bytes) bytes (narrow_extends bytes span.fits.long) (length program) run.0 start run.1)
seen_safe Two program safe = safe
seen_safe Three program safe = λ bytes span. safe bytes (third_span bytes span)

-- and by the first profile its verdict depends on nothing but that part
pub one_verdict : (program : Program) → SafeIn One program → IsBlindToLink program
one_verdict program safe a b span other same =
    let first = safe (narrowed a) (narrow_span a span) in
    let runs : outcome program (narrowed b) ≡ Done first.0 = ap (outcome program) (sym same) ∙ first.1 in
    runs_more program (narrowed a) a (narrow_extends a span.fits.long) (length program) first.0 start first.1
    ∙ sym (runs_more program (narrowed b) b (narrow_extends b other.fits.long) (length program) first.0 start runs)
