-- Two runs in lock step, on spans that agree on what is listed.
use Rattle.std.proofs.Common.{◌≡◌, ◌⊎◌, ℕ, zero, suc, ◌+◌, ◌-◌, ◌*◌, ◌<◌, ◌≤◌, nat_le, Bool, true, false, if◌then◌else◌, List, length, drop, get_or, Option, Some, None, Result, Ok, Err, pos, refl, sym, ap, subst, ◌∙◌, inl, inr, arith}
use Rattle.std.proofs.lemmas.Bool.{leb-true}
use Rattle.std.proofs.lemmas.List.{get_or-drop}
use Rattle.std.proofs.lemmas.Option.{slice_get_cases, get_or_from_slice_get}
use Rattle.std.specs.List.{slice_get}
use Rattle.byteorder.specs.Endian.{little_number, little_from}
use Rattle.span_context.specs.Context.{context_base, text_base, text_limit, link_base, link_limit, SpanBytes}
use Rattle.span_context.specs.declared.profile.Profile.{Profile}
use Rattle.span_context.specs.declared.profile.Profile.TheVariants.{One, Two, Three}
use Rattle.span_context.specs.declared.size.Size.{Size}
use Rattle.span_context.specs.declared.size.Size.TheVariants.{Byte, Half, Word, Double}
use Rattle.bpf_words.specs.declared.instruction.SignedSize.{SignedSize}
use Rattle.bpf_words.specs.declared.instruction.SignedSize.TheVariants.{SignedByte, SignedHalf, SignedWord}
use Rattle.bpf_words.specs.declared.instruction.Insn.{Insn}
use Rattle.bpf_words.specs.declared.instruction.Insn.TheVariants.{Compute, Negate, Extend, Convert, Jump, JumpLong, Branch, Load, LoadSigned, Store, LoadWide, Exit}
use Rattle.bpf_words.specs.Flow.{StartsAt}
use Rattle.semantics.specs.declared.FaultKind.{FaultKind}
use Rattle.semantics.specs.declared.FaultKind.TheVariants.{ReadOnly, BadAddress}
use Rattle.semantics.specs.declared.Outcome.TheVariants.{Done}
use Rattle.semantics.specs.State.{State, start, register_of, operand_in}
use Rattle.semantics.specs.Value.{with_sign}
use Rattle.semantics.specs.Memory.{load, store, stored, address_of, bytes_in, bytes_in_signed, lies_in, in_context, in_text, in_link, in_stack, stack_base, is_lent, or_unset, stack_number}
use Rattle.semantics.specs.Step.{Program, Move, Moved, On, Gone, Next, Ends, Stepped, then_with, write_and_go, perform, land, step_at, step}
use Rattle.semantics.specs.Outcomes.{after, outcome_from}
use Rattle.semantics.proofs.Witness.{both}
use Rattle.semantics.specs.Safe.{IsSpanIn, SafeIn}
use Rattle.abstract_state.specs.declared.state.AbsState.{AbsState}
use Rattle.abstract_state.specs.State.{Span, lengths_of}
use Rattle.program_reads.specs.Runs.{Reaches, ContainAllRuns}
use Rattle.program_reads.specs.Runs.Reaches.{at_start, by_step}
use Rattle.program_reads.specs.declared.reads.Reads.{Reads}
use Rattle.program_reads.specs.Reads.{AgreesOn, CoversAt, Determines}
use Rattle.program_reads.specs.Loads.{CoversLoad, CoversRuns, CoversStates}

-- ---- bytes
same_bytes : (start count offset : ℕ) (x y : List ℕ) → ((k : ℕ) → k < count → get_or x (offset + start + k) 0 ≡ get_or y (offset + start + k) 0) → little_from start count (drop offset x) ≡ little_from start count (drop offset y)
same_bytes start zero offset x y same = refl
same_bytes start (suc count) offset x y same =
    let there : get_or x (offset + start) 0 ≡ get_or y (offset + start) 0 =
    let zeroth = same 0 (omega arith) in
    let at : offset + start + 0 ≡ offset + start = omega arith in
    subst (λ (n : ℕ). get_or x n 0 ≡ get_or y n 0) at zeroth in
    let first : get_or (drop offset x) start 0 ≡ get_or (drop offset y) start 0 =
    get_or-drop offset x start 0 ∙ there ∙ sym (get_or-drop offset y start 0) in
    let rest : little_from (suc start) count (drop offset x) ≡ little_from (suc start) count (drop offset y) =
    same_bytes (suc start) count offset x y (λ k h.
    let later = same (suc k) (omega arith) in
    let at : offset + start + suc k ≡ offset + suc start + k = omega arith in
    subst (λ (n : ℕ). get_or x n 0 ≡ get_or y n 0) at later) in
    ap (λ a. a + 256 * little_from (suc start) count (drop offset x)) first
    ∙ ap (λ n. get_or (drop offset y) start 0 + 256 * n) rest

same_numbers : (count offset : ℕ) (x y : List ℕ) → ((k : ℕ) → k < count → get_or x (offset + k) 0 ≡ get_or y (offset + k) 0) → little_number count (drop offset x) ≡ little_number count (drop offset y)
same_numbers count offset x y same =
    same_bytes 0 count offset x y (λ k h.
    let at : offset + k ≡ offset + 0 + k = omega arith in
    subst (λ (n : ℕ). get_or x n 0 ≡ get_or y n 0) at (same k h))

-- ---- regions
lies : (base long address count : ℕ) → lies_in base long address count ≡ true → (base ≤ address) × (address + count ≤ base + long)
lies base long address count e =
    let parts = both (nat_le base address) (nat_le (address + count) (base + long)) e in (leb-true base address parts.0, leb-true (address + count) (base + long) parts.1)

pub record Lends (a : SpanBytes) : Type 0 where
  pub context : length a.context ≤ 72
  pub text : length a.text ≤ text_limit
  pub link : length a.link ≤ link_limit

-- bytes that are listed are the same number
alike : (l : Reads) (a b : SpanBytes) → length a.context ≡ length b.context → Lends a → Lends b → AgreesOn l a b
    → (stack : List (Option ℕ)) (address count v w : ℕ) → 0 < count → CoversAt l address count → load a stack address count ≡ Ok v → load b stack address count ≡ Ok w → v ≡ w
alike l a b long la lb agrees stack address count v w some covers e f =
    go (in_context a.context address count) (in_context b.context address count) (in_text a.text address count) (in_text b.text address count) (in_link a.link address count) (in_link b.link address count) (in_stack address count)
    refl refl refl refl refl refl refl e f
  where
    by_context : in_context a.context address count ≡ true → little_number count (drop (address - context_base) a.context) ≡ little_number count (drop (address - context_base) b.context)
    by_context is =
        let there = lies context_base (length a.context) address count is in
        let low = there.0 in
        let high = there.1 in
        let short = la.context in
        same_numbers count (address - context_base) a.context b.context (λ k h.
        agrees.context (address - context_base + k) (covers.context (address - context_base) (omega arith) (omega arith) k h))

    by_text : in_text a.text address count ≡ true → in_text b.text address count ≡ true → little_number count (drop (address - text_base) a.text) ≡ little_number count (drop (address - text_base) b.text)
    by_text is are =
        let there = lies text_base (length a.text) address count is in
        let here = lies text_base (length b.text) address count are in
        let low = there.0 in
        let high = there.1 in
        let other = here.1 in
        let short = la.text in
        let listed = covers.text (address - text_base) (omega arith) (omega arith) in
        same_numbers count (address - text_base) a.text b.text (λ k h. agrees.text (address - text_base + k) (omega arith) (omega arith) (omega arith))

    by_link : in_link a.link address count ≡ true → in_link b.link address count ≡ true → little_number count (drop (address - link_base) a.link) ≡ little_number count (drop (address - link_base) b.link)
    by_link is are =
        let there = lies link_base (length a.link) address count is in
        let here = lies link_base (length b.link) address count are in
        let low = there.0 in
        let high = there.1 in
        let other = here.1 in
        let short = la.link in
        let listed = covers.link (address - link_base) (omega arith) (omega arith) in
        same_numbers count (address - link_base) a.link b.link (λ k h. agrees.link (address - link_base + k) (omega arith) (omega arith) (omega arith))

    no_text_link : (x y : SpanBytes) → Lends x → in_text x.text address count ≡ true → in_link y.link address count ≡ true → ⊥
    no_text_link x y lx is are =
        let there = lies text_base (length x.text) address count is in
        let here = lies link_base (length y.link) address count are in
        let high = there.1 in
        let low = here.0 in
        let short = lx.text in
        omega arith

    no_text_stack : (x : SpanBytes) → in_text x.text address count ≡ true → in_stack address count ≡ true → ⊥
    no_text_stack x is are =
        let there = lies text_base (length x.text) address count is in
        let here = lies stack_base 512 address count are in
        let low = there.0 in
        let high = here.1 in
        omega arith

    no_link_stack : (x : SpanBytes) → in_link x.link address count ≡ true → in_stack address count ≡ true → ⊥
    no_link_stack x is are =
        let there = lies link_base (length x.link) address count is in
        let here = lies stack_base 512 address count are in
        let low = there.0 in
        let high = here.1 in
        omega arith

    same_context : in_context a.context address count ≡ in_context b.context address count
    same_context = ap (λ n. lies_in context_base n address count) long

    go : (ca cb ta tb ka kb d : Bool) → in_context a.context address count ≡ ca → in_context b.context address count ≡ cb → in_text a.text address count ≡ ta → in_text b.text address count ≡ tb → in_link a.link address count ≡ ka → in_link b.link address count ≡ kb → in_stack address count ≡ d
        → (if ca then Ok (little_number count (drop (address - context_base) a.context)) else if ta then Ok (little_number count (drop (address - text_base) a.text)) else if ka then Ok (little_number count (drop (address - link_base) a.link)) else if d then or_unset (stack_number stack (address - stack_base) count) else Err BadAddress) ≡ Ok v
        → (if cb then Ok (little_number count (drop (address - context_base) b.context)) else if tb then Ok (little_number count (drop (address - text_base) b.text)) else if kb then Ok (little_number count (drop (address - link_base) b.link)) else if d then or_unset (stack_number stack (address - stack_base) count) else Err BadAddress) ≡ Ok w
        → v ≡ w
    go true true ta tb ka kb d ec eb et eu ek el ed e f = let same = by_context ec in cc
    go true false ta tb ka kb d ec eb et eu ek el ed e f = absurd (let same = same_context in cc)
    go false true ta tb ka kb d ec eb et eu ek el ed e f = absurd (let same = same_context in cc)
    go false false true true ka kb d ec eb et eu ek el ed e f = let same = by_text et eu in cc
    go false false true false ka true d ec eb et eu ek el ed e f = absurd (no_text_link a b la et el)
    go false false true false ka false true ec eb et eu ek el ed e f = absurd (no_text_stack a et ed)
    go false false true false ka false false ec eb et eu ek el ed e f = absurd (cc)
    go false false false true true kb d ec eb et eu ek el ed e f = absurd (no_text_link b a lb eu ek)
    go false false false true false kb true ec eb et eu ek el ed e f = absurd (no_text_stack b eu ed)
    go false false false true false kb false ec eb et eu ek el ed e f = absurd (cc)
    go false false false false true true d ec eb et eu ek el ed e f = let same = by_link ek el in cc
    go false false false false true false true ec eb et eu ek el ed e f = absurd (no_link_stack a ek ed)
    go false false false false true false false ec eb et eu ek el ed e f = absurd (cc)
    go false false false false false true true ec eb et eu ek el ed e f = absurd (no_link_stack b el ed)
    go false false false false false true false ec eb et eu ek el ed e f = absurd (cc)
    go false false false false false false d ec eb et eu ek el ed e f = cc

-- ---- what an instruction does
then_both : {A B : Type 0} (one two : Result A FaultKind) (rest onward : A → Result B FaultKind) (b c : B) → ((x y : A) → one ≡ Ok x → two ≡ Ok y → x ≡ y) → ((x : A) → one ≡ Ok x → rest x ≡ Ok b → onward x ≡ Ok c → b ≡ c) → then_with one rest ≡ Ok b → then_with two onward ≡ Ok c → b ≡ c
then_both (Ok x) (Ok y) rest onward b c same next e f = let is = same x y refl refl in next x refl e (ap onward is ∙ f)
then_both (Ok x) (Err kind) rest onward b c same next e f = absurd (cc)
then_both (Err kind) two rest onward b c same next e f = absurd (cc)

store_both : (a b : SpanBytes) (stack x y : List (Option ℕ)) (address count value : ℕ) → store a stack address count value ≡ Ok x → store b stack address count value ≡ Ok y → x ≡ y
store_both a b stack x y address count value e f = go (in_stack address count) (is_lent a address count) (is_lent b address count) e f where
  go : (inside p q : Bool) → (if inside then Ok (stored stack (address - stack_base) count value) else if p then Err ReadOnly else Err BadAddress) ≡ Ok x → (if inside then Ok (stored stack (address - stack_base) count value) else if q then Err ReadOnly else Err BadAddress) ≡ Ok y → x ≡ y
  go true p q e f = cc
  go false true q e f = absurd (cc)
  go false false q e f = absurd (cc)

-- the loads of an instruction give one number in both
abbrev AlikeAt : SpanBytes → SpanBytes → State → ℕ → (ℕ → ℕ) → ℕ → Type 0
AlikeAt a b s base moved count = (n v w : ℕ) → register_of s base ≡ Ok n → load a s.stack (moved n) count ≡ Ok v → load b s.stack (moved n) count ≡ Ok w → v ≡ w

abbrev AlikeInsn : SpanBytes → SpanBytes → State → Insn → Type 0
AlikeInsn a b s (Compute width operation destination operand) = Unit {0}
AlikeInsn a b s (Negate width destination) = Unit {0}
AlikeInsn a b s (Extend extension destination source) = Unit {0}
AlikeInsn a b s (Convert conversion bits destination) = Unit {0}
AlikeInsn a b s (Jump distance) = Unit {0}
AlikeInsn a b s (JumpLong distance) = Unit {0}
AlikeInsn a b s (Branch width comparison left right distance) = Unit {0}
AlikeInsn a b s (Load size destination base offset) = AlikeAt a b s base (λ n. address_of n offset) (bytes_in size)
AlikeInsn a b s (LoadSigned size destination base offset) = AlikeAt a b s base (λ n. address_of n offset) (bytes_in_signed size)
AlikeInsn a b s (Store size base offset value) = Unit {0}
AlikeInsn a b s (LoadWide destination value) = Unit {0}
AlikeInsn a b s Exit = Unit {0}

one_answer : {A : Type 0} (r : Result A FaultKind) (x y : A) → r ≡ Ok x → r ≡ Ok y → x ≡ y
one_answer r x y e f = cc

performs_both : (a b : SpanBytes) (s : State) (insn : Insn) (m o : Move) → AlikeInsn a b s insn → perform a s insn ≡ Ok m → perform b s insn ≡ Ok o → m ≡ o
performs_both a b s (Compute width operation destination operand) m o same e f = one_answer _ m o e f
performs_both a b s (Negate width destination) m o same e f = one_answer _ m o e f
performs_both a b s (Extend extension destination source) m o same e f = one_answer _ m o e f
performs_both a b s (Convert conversion bits destination) m o same e f = one_answer _ m o e f
performs_both a b s (Jump distance) m o same e f = one_answer _ m o e f
performs_both a b s (JumpLong distance) m o same e f = one_answer _ m o e f
performs_both a b s (Branch width comparison left right distance) m o same e f = one_answer _ m o e f
performs_both a b s (Load size destination base offset) m o same e f =
    let on : ℕ → Moved = λ value. write_and_go s destination value (pos 0) in
    then_both (register_of s base) (register_of s base)
    (λ address. then_with (load a s.stack (address_of address offset) (bytes_in size)) on)
    (λ address. then_with (load b s.stack (address_of address offset) (bytes_in size)) on) m o (λ x y p q. one_answer _ x y p q)
    (λ address is inner outer. then_both (load a s.stack (address_of address offset) (bytes_in size)) (load b s.stack (address_of address offset) (bytes_in size)) on on m o
    (λ x y p q. same address x y is p q) (λ value _ p q. one_answer _ m o p q) inner outer) e f
performs_both a b s (LoadSigned size destination base offset) m o same e f =
    let on : ℕ → Moved = λ value. write_and_go s destination (with_sign size value) (pos 0) in
    then_both (register_of s base) (register_of s base)
    (λ address. then_with (load a s.stack (address_of address offset) (bytes_in_signed size)) on)
    (λ address. then_with (load b s.stack (address_of address offset) (bytes_in_signed size)) on) m o (λ x y p q. one_answer _ x y p q)
    (λ address is inner outer. then_both (load a s.stack (address_of address offset) (bytes_in_signed size)) (load b s.stack (address_of address offset) (bytes_in_signed size)) on on m o
    (λ x y p q. same address x y is p q) (λ value _ p q. one_answer _ m o p q) inner outer) e f
performs_both a b s (Store size base offset operand) m o same e f =
    let on : List (Option ℕ) → Moved = λ stack. Ok (On (record s { stack = stack }) (pos 0)) in
    then_both (register_of s base) (register_of s base)
    (λ address. then_with (operand_in s operand) (λ value. then_with (store a s.stack (address_of address offset) (bytes_in size) value) on))
    (λ address. then_with (operand_in s operand) (λ value. then_with (store b s.stack (address_of address offset) (bytes_in size) value) on)) m o (λ x y p q. one_answer _ x y p q)
    (λ address is inner outer. then_both (operand_in s operand) (operand_in s operand)
    (λ value. then_with (store a s.stack (address_of address offset) (bytes_in size) value) on)
    (λ value. then_with (store b s.stack (address_of address offset) (bytes_in size) value) on) m o (λ x y p q. one_answer _ x y p q)
    (λ value was last least. then_both (store a s.stack (address_of address offset) (bytes_in size) value) (store b s.stack (address_of address offset) (bytes_in size) value) on on m o
    (λ x y p q. store_both a b s.stack x y (address_of address offset) (bytes_in size) value p q) (λ new _ p q. one_answer _ m o p q) last least) inner outer) e f
performs_both a b s (LoadWide destination value) m o same e f = one_answer _ m o e f
performs_both a b s Exit m o same e f = one_answer _ m o e f

step_both : (program : Program) (a b : SpanBytes) (s : State) (entry : Option (Option Insn)) (g h : Gone) → ((insn : Insn) → entry ≡ Some (Some insn) → AlikeInsn a b s insn) → step_at program a s entry ≡ Ok g → step_at program b s entry ≡ Ok h → g ≡ h
step_both program a b s None g h same e f = absurd (cc)
step_both program a b s (Some None) g h same e f = absurd (cc)
step_both program a b s (Some (Some insn)) g h same e f =
    then_both (perform a s insn) (perform b s insn) (land program) (land program) g h (λ m o p q. performs_both a b s insn m o (same insn refl) p q) (λ m _ p q. one_answer _ g h p q) e f

-- ---- runs
abbrev AlikeRuns : Program → Span → Span → Type 0
AlikeRuns program a b = (s : State) (insn : Insn) → Reaches program a s → Reaches program b s → StartsAt program s.slot insn → AlikeInsn a.bytes b.bytes s insn

runs_both : (program : Program) (a b : Span) → AlikeRuns program a b → (steps v w : ℕ) (s : State) → Reaches program a s → Reaches program b s → outcome_from program a.bytes steps s ≡ Done v → outcome_from program b.bytes steps s ≡ Done w → v ≡ w
unfolding outcome_from
runs_both program a b same zero v w s ra rb e f = absurd (cc)
runs_both program a b same (suc steps) v w s ra rb e f =
    go (λ p pa pb ep eq. runs_both program a b same steps v w p pa pb ep eq) (step program a.bytes s) (step program b.bytes s) refl refl e f
  where
    on : (g h : Gone) → step program a.bytes s ≡ Ok g → step program b.bytes s ≡ Ok h → g ≡ h
    on g h p q = step_both program a.bytes b.bytes s (slice_get program s.slot) g h (λ insn is. same s insn ra rb is) p q

    go : ((p : State) → Reaches program a p → Reaches program b p → outcome_from program a.bytes steps p ≡ Done v → outcome_from program b.bytes steps p ≡ Done w → v ≡ w)
        → (x y : Stepped) → step program a.bytes s ≡ x → step program b.bytes s ≡ y → after x s.slot (λ next. outcome_from program a.bytes steps next) ≡ Done v → after y s.slot (λ next. outcome_from program b.bytes steps next) ≡ Done w → v ≡ w
    go again (Ok (Next p)) (Ok (Next q)) ex ey e f =
        let one : p ≡ q = let is = on (Next p) (Next q) ex ey in cc in
        again p (by_step ra ex) (by_step rb (ey ∙ ap (λ (z : State). Ok (Next z)) (sym one))) e (ap (λ (z : State). outcome_from program b.bytes steps z) one ∙ f)
    go again (Ok (Next p)) (Ok (Ends q)) ex ey e f = absurd (let is = on (Next p) (Ends q) ex ey in cc)
    go again (Ok (Ends p)) (Ok (Next q)) ex ey e f = absurd (let is = on (Ends p) (Next q) ex ey in cc)
    go again (Ok (Ends p)) (Ok (Ends q)) ex ey e f = let is = on (Ends p) (Ends q) ex ey in cc
    go again (Ok (Next p)) (Err kind) ex ey e f = absurd (cc)
    go again (Ok (Ends p)) (Err kind) ex ey e f = absurd (cc)
    go again (Err kind) y ex ey e f = absurd (cc)

-- ---- runs of a profile
some_bytes : (size : Size) → 0 < bytes_in size
some_bytes Byte = omega arith
some_bytes Half = omega arith
some_bytes Word = omega arith
some_bytes Double = omega arith

some_signed : (size : SignedSize) → 0 < bytes_in_signed size
some_signed SignedByte = omega arith
some_signed SignedHalf = omega arith
some_signed SignedWord = omega arith

lends : (profile : Profile) (a : SpanBytes) → IsSpanIn profile a → Lends a
lends One a span = record { context = let long = span.fits.long in omega arith; text = span.fits.short; link = span.fits.link_short }
lends Two a span = record { context = let long = span.fits.long in omega arith; text = span.fits.short; link = span.fits.link_short }
lends Three a span = record { context = let long = span.fits.long in omega arith; text = span.fits.short; link = span.fits.link_short }

alike_load : (profile : Profile) (reads : Reads) (a b : Span) → IsSpanIn profile a.bytes → IsSpanIn profile b.bytes → AgreesOn reads a.bytes b.bytes → (s : State) (insn : Insn) → CoversLoad reads s insn → AlikeInsn a.bytes b.bytes s insn
alike_load profile reads a b sa sb agrees s (Compute width operation destination operand) covers = tt
alike_load profile reads a b sa sb agrees s (Negate width destination) covers = tt
alike_load profile reads a b sa sb agrees s (Extend extension destination source) covers = tt
alike_load profile reads a b sa sb agrees s (Convert conversion bits destination) covers = tt
alike_load profile reads a b sa sb agrees s (Jump distance) covers = tt
alike_load profile reads a b sa sb agrees s (JumpLong distance) covers = tt
alike_load profile reads a b sa sb agrees s (Branch width comparison left right distance) covers = tt
alike_load profile reads a b sa sb agrees s (Load size destination base offset) covers = λ n v w is e f.
    alike reads a.bytes b.bytes (sa.fits.long ∙ sym sb.fits.long) (lends profile a.bytes sa) (lends profile b.bytes sb) agrees s.stack (address_of n offset) (bytes_in size) v w (some_bytes size) (covers n is) e f
alike_load profile reads a b sa sb agrees s (LoadSigned size destination base offset) covers = λ n v w is e f.
    alike reads a.bytes b.bytes (sa.fits.long ∙ sym sb.fits.long) (lends profile a.bytes sa) (lends profile b.bytes sb) agrees s.stack (address_of n offset) (bytes_in_signed size) v w (some_signed size) (covers n is) e f
alike_load profile reads a b sa sb agrees s (Store size base offset value) covers = tt
alike_load profile reads a b sa sb agrees s (LoadWide destination value) covers = tt
alike_load profile reads a b sa sb agrees s Exit covers = tt

pub determines : (reads : Reads) (profile : Profile) (program : Program) → SafeIn profile program → CoversRuns reads profile program → Determines reads profile program
determines reads profile program safe covers a b sa sb agrees =
    let one : Span = record { profile = profile; bytes = a; whole = sa } in
    let two : Span = record { profile = profile; bytes = b; whole = sb } in
    let first = safe a sa in
    let second = safe b sb in
    let same = runs_both program one two (λ s insn ra rb starts. alike_load profile reads one two sa sb agrees s insn (covers one s insn refl ra starts)) (length program) first.0 second.0 start at_start at_start first.1 second.1 in
    first.1 ∙ ap (λ (n : ℕ). Done n) same ∙ sym second.1

-- ---- what is known before each slot
pub in_program : (program : Program) (slot : ℕ) (insn : Insn) → StartsAt program slot insn → slot < length program
in_program program slot insn is = which (slice_get_cases program slot).1
  where
    which : ((y : Option Insn) × (slot < length program) × (slice_get program slot ≡ Some y) × (get_or program slot y ≡ y)) ⊎ ((length program ≤ slot) × (slice_get program slot ≡ None)) → slot < length program
    which (inl (y, h, _, _)) = h
    which (inr (_, none)) = absurd (cc)

pub covers_runs : (reads : Reads) (profile : Profile) (program : Program) (states : List (Option AbsState)) → ContainAllRuns profile program states → CoversStates reads program states → CoversRuns reads profile program
covers_runs reads profile program states contain covers span s insn of_profile reaches starts =
    covers s.slot insn (lengths_of span) s starts (contain s.slot (in_program program s.slot insn starts) span s of_profile reaches refl)

-- a register that is set is one of the list
pub set_there : (s : State) (r n : ℕ) → register_of s r ≡ Ok n → (r < length s.registers) × (get_or s.registers r None ≡ Some n)
set_there s r n e = go (slice_get s.registers r) refl
  where
    which : {x : Option ℕ} → slice_get s.registers r ≡ Some x → ((y : Option ℕ) × (r < length s.registers) × (slice_get s.registers r ≡ Some y) × (get_or s.registers r y ≡ y)) ⊎ ((length s.registers ≤ r) × (slice_get s.registers r ≡ None)) → r < length s.registers
    which is (inl (y, h, _, _)) = h
    which is (inr (_, none)) = absurd (cc)

    go : (o : Option (Option ℕ)) → slice_get s.registers r ≡ o → (r < length s.registers) × (get_or s.registers r None ≡ Some n)
    go (Some (Some m)) is = (which is (slice_get_cases s.registers r).1, get_or_from_slice_get s.registers r (Some m) None is ∙ cc)
    go (Some None) is = absurd (cc)
    go None is = absurd (cc)
