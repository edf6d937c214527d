-- Bytes to which instructions are added one by one are a program, and its jumps lead forward.
use Rattle.std.proofs.Common.{◌≡◌, ℕ, ◌+◌, ◌*◌, ◌/◌, ◌<◌, ◌≤◌, ◌⊎◌, List, [], ◌++◌, length, Bool, true, false, if◌then◌else◌, Some, None, Ok, ⊎_elim, inl, inr, refl, sym, ap, subst, ◌∙◌, append_assoc, arith}
use Rattle.std.specs.List.{slice_get}
use Rattle.std.proofs.lemmas.List.{length-append, append-nil}
use Rattle.std.proofs.lemmas.Bool.{cases_eq, cases_lt}
use Rattle.std.proofs.lemmas.Option.{slice_get_within}
use Rattle.bpf_words.specs.declared.instruction.Insn.{Insn}
use Rattle.bpf_words.specs.declared.instruction.Insn.TheVariants.{Compute, Negate, Extend, Convert, Jump, JumpLong, Branch, Load, LoadSigned, Store, LoadWide, Exit}
use Rattle.bpf_words.specs.Encoding.{encoded}
use Rattle.bpf_words.specs.RoundTrip.{ReadsBack}
use Rattle.bpf_words.specs.Words.{IsProgram, AreSound, fault_in, is_second, is_wide, read_at, program_of}
use Rattle.bpf_words.specs.Flow.{StartsAt, jump_of, slots_of}
use Rattle.bpf_words.proofs.Second.{second-unknown, entry-ok, length-program_of}
use Rattle.bpf_words.proofs.Sound.{is_second-next}
use Rattle.bpf_words.proofs.Paired.{program_of-paired}
use Rattle.block_layout.specs.Meaning.{IsForward}
use Rattle.block_layout.specs.Spread.{LeadsForward, Holds, HoldsOne, HoldsSecond, Filled, Grows, Added, Blocked}
use Rattle.block_layout.proofs.Leading.{same_insn}

encoded_length : (insn : Insn) → length (encoded insn) ≡ 8 * slots_of insn
unfolding encoded
encoded_length (Compute width operation destination operand) = refl
encoded_length (Negate width destination) = refl
encoded_length (Extend extension destination source) = refl
encoded_length (Convert conversion bits destination) = refl
encoded_length (Jump distance) = refl
encoded_length (JumpLong distance) = refl
encoded_length (Branch width comparison left right distance) = refl
encoded_length (Load size destination base offset) = refl
encoded_length (LoadSigned size destination base offset) = refl
encoded_length (Store size base offset value) = refl
encoded_length (LoadWide destination value) = refl
encoded_length Exit = refl

pub one_or_wide : (insn : Insn) → (slots_of insn ≡ 1) ⊎ ((slots_of insn ≡ 2) × (is_wide (Ok insn) ≡ true))
one_or_wide (Compute width operation destination operand) = inl refl
one_or_wide (Negate width destination) = inl refl
one_or_wide (Extend extension destination source) = inl refl
one_or_wide (Convert conversion bits destination) = inl refl
one_or_wide (Jump distance) = inl refl
one_or_wide (JumpLong distance) = inl refl
one_or_wide (Branch width comparison left right distance) = inl refl
one_or_wide (Load size destination base offset) = inl refl
one_or_wide (LoadSigned size destination base offset) = inl refl
one_or_wide (Store size base offset value) = inl refl
one_or_wide (LoadWide destination value) = inr (refl, refl)
one_or_wide Exit = inl refl

wide_is : (insn : Insn) → slots_of insn ≡ 2 → is_wide (Ok insn) ≡ true
wide_is insn two =
    ⊎_elim
    (λ (one : slots_of insn ≡ 1). absurd (omega arith))
    (λ (wide : (slots_of insn ≡ 2) × (is_wide (Ok insn) ≡ true)). wide.1)
    (one_or_wide insn)

-- an instruction more
module _ (old new : List ℕ) (count : ℕ) (insn : Insn) (is : new ≡ old ++ encoded insn) (reads : ReadsBack insn (encoded insn)) (forward : LeadsForward insn) (filled : Filled old count) where
  all : (after : List ℕ) → new ++ after ≡ (old ++ encoded insn) ++ after
  all after = ap (λ (l : List ℕ). l ++ after) is

  grown : Grows old new
  grown slot other holds = λ after.
      let apart : (old ++ encoded insn) ++ after ≡ old ++ (encoded insn ++ after) = append_assoc old (encoded insn) after in
      ap (λ (l : List ℕ). read_at l slot) (all after ∙ apart) ∙ holds (encoded insn ++ after)

  held : Holds new count insn
  held = λ after. ap (λ (l : List ℕ). read_at l count) (all after) ∙ reads old after count filled.long

  long : length new ≡ 8 * (count + slots_of insn)
  long =
      let both : length new ≡ length old + length (encoded insn) = ap (λ (l : List ℕ). length l) is ∙ length-append old (encoded insn) in
      let one = encoded_length insn in
      let before = filled.long in
      omega arith

  each : (slot : ℕ) → slot < count + slots_of insn → HoldsOne new slot ⊎ HoldsSecond new slot
  each slot within =
      ⊎_elim
      (λ (less : slot < count).
      ⊎_elim
      (λ (one : HoldsOne old slot). inl (record { insn = one.insn; holds = grown slot one.insn one.holds; forward = one.forward }))
      (λ (second : HoldsSecond old slot). inr (record { before = second.before; insn = second.insn; is = second.is; holds = grown second.before second.insn second.holds; wide = second.wide }))
      (filled.each slot less))
      (λ (more : count ≤ slot).
      ⊎_elim
      (λ (same : slot ≡ count). inl (subst (λ (k : ℕ). HoldsOne new k) (sym same) (record { insn = insn; holds = held; forward = forward })))
      (λ (apart : slot ≡ count → ⊥).
      ⊎_elim
      (λ (one : slots_of insn ≡ 1). absurd (omega arith))
      (λ (two : (slots_of insn ≡ 2) × (is_wide (Ok insn) ≡ true)). let wide : slots_of insn ≡ 2 = two.0 in inr (record { before = count; insn = insn; is = omega arith; holds = held; wide = wide }))
      (one_or_wide insn))
      (cases_eq slot count))
      (cases_lt slot count)

  pub added : Added old new count insn
  added = record { filled = record { long = long; each = each }; holds = held; grows = grown }

-- an instruction more, and what stands behind it
pub block_added : (old mid new : List ℕ) (count : ℕ) (first behind : Insn) → Added old mid count first → Added mid new (count + slots_of first) behind → slots_of behind ≡ 1 → Blocked old new count first behind
block_added old mid new count first behind one two single =
    let many : count + slots_of first + slots_of behind ≡ count + slots_of first + 1 = omega arith in
    record {
      filled = subst (λ (k : ℕ). Filled new k) many two.filled;
      holds = two.grows count first one.holds;
      next = two.holds;
      grows = λ slot insn holds. two.grows slot insn (one.grows slot insn holds);
    }

pub begun : Filled [] 0
begun = record { long = refl; each = λ slot within. absurd (omega arith) }

fault_none : (second : Bool) (insn : Insn) → fault_in second (Ok insn) ≡ None
fault_none true insn = refl
fault_none false insn = refl

-- the program
module _ (bytes : List ℕ) (count : ℕ) (filled : Filled bytes count) (some : 0 < count) (few : count ≤ 4096) where
  pub slots : length bytes / 8 ≡ count
  slots = let long = filled.long in omega arith

  reads : (slot : ℕ) (insn : Insn) → Holds bytes slot insn → read_at bytes slot ≡ Ok insn
  reads slot insn holds = ap (λ (l : List ℕ). read_at l slot) (sym (append-nil bytes)) ∙ holds []

  no_second : (slot : ℕ) (insn : Insn) → slot < length bytes / 8 → Holds bytes slot insn → is_second bytes slot ≡ false
  no_second slot insn within holds =
      let is = reads slot insn holds in
      elim (is_second bytes slot) as (λ b. is_second bytes slot ≡ b → b ≡ false) [
        | true ↦ λ second. let unknown = second-unknown bytes slot within second in absurd (cc)
        | false ↦ λ first. refl
      ] refl

  second : (slot : ℕ) (insn : Insn) → slot < length bytes / 8 → Holds bytes slot insn → slots_of insn ≡ 2 → is_second bytes (slot + 1) ≡ true
  second slot insn within holds two =
      is_second-next bytes slot
      ∙ ap (λ (b : Bool). if b then false else is_wide (read_at bytes slot)) (no_second slot insn within holds)
      ∙ ap is_wide (reads slot insn holds) ∙ wide_is insn two

  sound : AreSound bytes (length bytes / 8)
  sound slot within =
      let many = slots in
      ⊎_elim
      (λ (one : HoldsOne bytes slot). ap (λ r. fault_in (is_second bytes slot) r) (reads slot one.insn one.holds) ∙ fault_none (is_second bytes slot) one.insn)
      (λ (other : HoldsSecond bytes slot).
      let at : slot ≡ other.before + 1 = other.is in
      let is : is_second bytes slot ≡ true = ap (λ (k : ℕ). is_second bytes k) at ∙ second other.before other.insn (omega arith) other.holds other.wide in
      ap (λ (b : Bool). fault_in b (read_at bytes slot)) is)
      (filled.each slot (omega arith))

  pub is_program : IsProgram bytes
  is_program =
      let long = filled.long in
      record { whole = record { some = omega arith; short = omega arith; eights = omega arith }; sound = sound }

  pub starts : (slot : ℕ) (insn : Insn) → slot < count → Holds bytes slot insn → StartsAt (program_of bytes) slot insn
  starts slot insn within holds =
      let many = slots in
      entry-ok bytes slot insn (omega arith) (reads slot insn holds)

  pub length_is : length (program_of bytes) ≡ count
  length_is = length-program_of bytes ∙ slots

  pub leads_forward : IsForward (program_of bytes)
  leads_forward = record {
    jumps = λ slot insn distance at jumps.
        let inside = slice_get_within (program_of bytes) slot (Some insn) at in
        let all = length_is in
        ⊎_elim
        (λ (one : HoldsOne bytes slot).
        let same : insn ≡ one.insn = same_insn (program_of bytes) slot insn one.insn at (starts slot one.insn (omega arith) one.holds) in
        one.forward distance (subst (λ (i : Insn). jump_of i ≡ Some distance) same jumps))
        (λ (other : HoldsSecond bytes slot).
        let place : slot ≡ other.before + 1 = other.is in
        let none : slice_get (program_of bytes) (other.before + 1) ≡ Some None =
        (program_of-paired bytes is_program).after_wide other.before (other.insn, starts other.before other.insn (omega arith) other.holds, other.wide) in
        let here : slice_get (program_of bytes) (other.before + 1) ≡ Some (Some insn) = subst (λ (k : ℕ). slice_get (program_of bytes) k ≡ Some (Some insn)) place at in
        absurd (cc))
        (filled.each slot (omega arith));
  }
