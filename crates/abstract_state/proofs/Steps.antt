-- What an instruction does, from what its parts give.
use Rattle.std.proofs.Common.{◌≡◌, ◌≢◌, ℕ, zero, suc, ℤ, pos, ◌^◌, ◌<◌, false, nat_eq, List, get_or, Option, Some, Ok, refl, sym, ◌∙◌, subst, arith}
use Rattle.std.proofs.lemmas.Bool.Decides.{nat_tests}
use Rattle.std.specs.Int.{cast_signed, w8, w16, w32, bytes_low_first, byte_at}
use borrow.Author.Gap.{read_sfits}
use Rattle.byteorder.specs.Endian.{little_bytes}
use Rattle.byteorder.specs.Numbers.{big_from-lt}
use Rattle.bpf_words.specs.declared.instruction.Width.{Width}
use Rattle.bpf_words.specs.declared.instruction.Width.TheVariants.{Narrow, Full}
use Rattle.bpf_words.specs.declared.instruction.Arithmetic.{Arithmetic}
use Rattle.bpf_words.specs.declared.instruction.Arithmetic.TheVariants.{Mov}
use Rattle.bpf_words.specs.declared.instruction.Operand.{Operand}
use Rattle.bpf_words.specs.declared.instruction.Extension.{Extension}
use Rattle.bpf_words.specs.declared.instruction.Conversion.{Conversion}
use Rattle.bpf_words.specs.declared.instruction.Conversion.TheVariants.{ToLittleEndian, ToBigEndian, Swap}
use Rattle.bpf_words.specs.declared.instruction.ConvertedBits.{ConvertedBits}
use Rattle.bpf_words.specs.declared.instruction.ConvertedBits.TheVariants.{Bits16, Bits32, Bits64}
use Rattle.span_context.specs.declared.size.Size.{Size}
use Rattle.bpf_words.specs.declared.instruction.SignedSize.{SignedSize}
use Rattle.bpf_words.specs.declared.instruction.SignedSize.TheVariants.{SignedByte, SignedHalf, SignedWord}
use Rattle.span_context.specs.declared.profile.Profile.{Profile}
use Rattle.bpf_words.specs.declared.instruction.Insn.{Insn}
use Rattle.bpf_words.specs.declared.instruction.Insn.TheVariants.{Compute, Negate, Extend, Convert, Load, LoadSigned, Store, LoadWide, Exit}
use Rattle.semantics.specs.State.{State, register_of, operand_in}
use Rattle.semantics.specs.Memory.{address_of, load, store, bytes_in, bytes_in_signed}
use Rattle.semantics.specs.Value.{cut, value_of, negated, extended, converted, bytes_kept, with_sign}
use Rattle.semantics.specs.Step.{Moved, On, Returns, first_of, write_and_go}
use Rattle.abstract_state.specs.Quantity.{Fits}
use Rattle.abstract_state.specs.declared.state.AbsState.{AbsState}
use Rattle.abstract_state.specs.Lent.{Lengths}
use Rattle.abstract_state.specs.Steps.{distance_of, Lands, StepsTo}
use Rattle.abstract_state.specs.State.{Span, lengths_of, Contains, WithinState, StepsIn, StepsBy, does, with_register, with_stack}
use Rattle.abstract_state.proofs.Widths.{unsigned_fits}

not_frame : (d : ℕ) → d ≢ 10 → nat_eq d 10 ≡ false
not_frame d h = grind (arith, nat_tests)

pub goes : (s : State) (d v : ℕ) (distance : ℤ) → d ≢ 10 → write_and_go s d v distance ≡ Ok (On (with_register s d v) distance)
goes s d v distance h = let no = not_frame d h in simp no

first_is : (s : State) (op : Arithmetic) (d : ℕ) → op ≢ Mov → first_of s op d ≡ register_of s d
first_is s Mov d h = absurd (h refl)
first_is s _ d h = refl

pub computes : (span : Span) (s : State) (w : Width) (op : Arithmetic) (d : ℕ) (operand : Operand) (x y : ℕ) → d ≢ 10 → op ≢ Mov → register_of s d ≡ Ok x → operand_in s operand ≡ Ok y → does span s (Compute w op d operand) ≡ Ok (On (with_register s d (value_of op w (cut w x) (cut w y))) (pos 0))
computes span s w op d operand x y frame reads ex ey =
    let first = first_is s op d reads ∙ ex in
    let no = not_frame d frame in
    simp (first, ey, no)

pub moves : (span : Span) (s : State) (w : Width) (d : ℕ) (operand : Operand) (y : ℕ) → d ≢ 10 → operand_in s operand ≡ Ok y → does span s (Compute w Mov d operand) ≡ Ok (On (with_register s d (cut w y)) (pos 0))
moves span s w d operand y frame ey = let no = not_frame d frame in simp (ey, no)

pub negates : (span : Span) (s : State) (w : Width) (d x : ℕ) → d ≢ 10 → register_of s d ≡ Ok x → does span s (Negate w d) ≡ Ok (On (with_register s d (negated w (cut w x))) (pos 0))
negates span s w d x frame ex = let no = not_frame d frame in simp (ex, no)

pub extends : (span : Span) (s : State) (e : Extension) (d r x : ℕ) → d ≢ 10 → register_of s r ≡ Ok x → does span s (Extend e d r) ≡ Ok (On (with_register s d (extended e x)) (pos 0))
extends span s e d r x frame ex = let no = not_frame d frame in simp (ex, no)

pub converts : (span : Span) (s : State) (c : Conversion) (b : ConvertedBits) (d x : ℕ) → d ≢ 10 → register_of s d ≡ Ok x → does span s (Convert c b d) ≡ Ok (On (with_register s d (converted c b x)) (pos 0))
converts span s c b d x frame ex = let no = not_frame d frame in simp (ex, no)

pub loads : (span : Span) (s : State) (size : Size) (d r : ℕ) (offset : ℤ) (n v : ℕ) → d ≢ 10 → register_of s r ≡ Ok n → load span.bytes s.stack (address_of n offset) (bytes_in size) ≡ Ok v → does span s (Load size d r offset) ≡ Ok (On (with_register s d v) (pos 0))
loads span s size d r offset n v frame en ev = let no = not_frame d frame in simp (en, ev, no)

pub loads_signed : (span : Span) (s : State) (size : SignedSize) (d r : ℕ) (offset : ℤ) (n v : ℕ) → d ≢ 10 → register_of s r ≡ Ok n → load span.bytes s.stack (address_of n offset) (bytes_in_signed size) ≡ Ok v → does span s (LoadSigned size d r offset) ≡ Ok (On (with_register s d (with_sign size v)) (pos 0))
loads_signed span s size d r offset n v frame en ev = let no = not_frame d frame in simp (en, ev, no)

pub stores : (span : Span) (s : State) (size : Size) (r : ℕ) (offset : ℤ) (operand : Operand) (n v : ℕ) (stack : List (Option ℕ)) → register_of s r ≡ Ok n → operand_in s operand ≡ Ok v → store span.bytes s.stack (address_of n offset) (bytes_in size) v ≡ Ok stack → does span s (Store size r offset operand) ≡ Ok (On (with_stack s stack) (pos 0))
stores span s size r offset operand n v stack en ev es = simp (en, ev, es)

pub loads_wide : (span : Span) (s : State) (d v : ℕ) → d ≢ 10 → does span s (LoadWide d v) ≡ Ok (On (with_register s d v) (pos 1))
loads_wide span s d v frame = let no = not_frame d frame in simp no

pub returns_r0 : (span : Span) (s : State) (v : ℕ) → register_of s 0 ≡ Ok v → does span s Exit ≡ Ok (Returns v)
returns_r0 span s v e = simp e

-- ---- results of one operand have the width
pub negated_fits : (w : Width) (x : ℕ) → Fits w (negated w x)
negated_fits Narrow x = omega arith
negated_fits Full x = omega arith

pub sign_fits : (size : SignedSize) (n : ℕ) → Fits Full (with_sign size n)
sign_fits SignedByte n = unsigned_fits Full (cast_signed w8 n) (omega (arith, (read_sfits w8 n).sfits))
sign_fits SignedHalf n = unsigned_fits Full (cast_signed w16 n) (omega (arith, (read_sfits w16 n).sfits))
sign_fits SignedWord n = unsigned_fits Full (cast_signed w32 n) (omega (arith, (read_sfits w32 n).sfits))

byte_small : (i n : ℕ) → byte_at i n < 256
byte_small zero n = omega arith
byte_small (suc i) n = omega arith

bytes_small : (i n x k : ℕ) → get_or (bytes_low_first i n x) k 0 < 256
bytes_small i zero x k = omega arith
bytes_small i (suc n) x zero = byte_small i x
bytes_small i (suc n) x (suc k) = bytes_small (suc i) n x k

pub converted_fits : (c : Conversion) (b : ConvertedBits) (x : ℕ) → converted c b x < 256 ^ bytes_kept b
converted_fits ToLittleEndian Bits16 x = omega arith
converted_fits ToLittleEndian Bits32 x = omega arith
converted_fits ToLittleEndian Bits64 x = omega arith
converted_fits ToBigEndian b x = big_from-lt 0 (bytes_kept b) (little_bytes (bytes_kept b) x) (bytes_small 0 (bytes_kept b) x)
converted_fits Swap b x = big_from-lt 0 (bytes_kept b) (little_bytes (bytes_kept b) x) (bytes_small 0 (bytes_kept b) x)

-- ---- what lands
pub lands : (o : Option AbsState) (lengths : Lengths) (distance : ℤ) (m : Moved) (next : State) → m ≡ Ok (On next distance) → WithinState o lengths next → Lands o lengths distance m
lands o lengths distance m next e w = subst (λ (k : Moved). Lands o lengths distance k) (sym e) (refl, w)

pub lands_in : (profile : Profile) (a : AbsState) (insn same : Insn) (distance : ℤ) (o : Option AbsState) → insn ≡ same → distance ≡ distance_of same → StepsIn profile a same distance o → StepsTo profile a insn o
lands_in profile a insn same distance o is far by =
    subst (λ (i : Insn). StepsTo profile a i o) (sym is)
    (λ span s which held.
    let given = by span s which held in
    lands o (lengths_of span) (distance_of same) (does span s same) given.0 (subst (λ (d : ℤ). does span s same ≡ Ok (On given.0 d)) far given.1) given.2)

pub lands_by : (profile : Profile) (a : AbsState) (insn same : Insn) (distance : ℤ) (o : Option AbsState) → insn ≡ same → distance ≡ distance_of same → StepsBy a same distance o → StepsTo profile a insn o
lands_by profile a insn same distance o is far by = lands_in profile a insn same distance o is far (λ span s which held. by span s held)

pub stays : (profile : Profile) (a : AbsState) (insn same : Insn) → insn ≡ same → ((span : Span) (s : State) → does span s same ≡ Ok (On s (distance_of same))) → StepsTo profile a insn (Some a)
stays profile a insn same is does_so = lands_by profile a insn same (distance_of same) (Some a) is refl (λ span s held. (s, does_so span s, (a, refl, held)))

pub ends : (profile : Profile) (a : AbsState) (insn : Insn) → insn ≡ Exit → ((span : Span) (s : State) → Contains a (lengths_of span) s → (v : ℕ) × (does span s Exit ≡ Ok (Returns v))) → StepsTo profile a insn (Some a)
ends profile a insn is by =
    subst (λ (i : Insn). StepsTo profile a i (Some a)) (sym is)
    (λ span s which held. let given = by span s held in subst (λ (k : Moved). Lands (Some a) (lengths_of span) (distance_of Exit) k) (sym given.1) (a, refl))
