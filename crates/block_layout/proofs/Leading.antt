-- Where an instruction leads, and that no other way leads from its slot.
use Rattle.std.proofs.Common.{◌≡◌, ℕ, ℤ, pos, ◌+ℤ◌, ◌+◌, ◌<◌, ◌≤◌, List, length, slice_index, slice_get, Some, None, ⊎_elim, sym, ap, subst, ◌∙◌, arith}
use Rattle.std.proofs.lemmas.Bool.{cases_lt}
use Rattle.bpf_words.specs.declared.instruction.Insn.{Insn}
use Rattle.bpf_words.specs.Flow.{StartsAt, jump_of, slots_of}
use Rattle.semantics.specs.Step.{Program}
use Rattle.block_layout.specs.declared.refusal.WayFault.TheVariants.{JumpOut, FallOff}
use Rattle.block_layout.specs.Loops.{FallsTo, IsAway, JumpsTo, Goes}
use Rattle.block_layout.specs.Ranks.{AreRanked, HasNone}
use Rattle.block_layout.specs.Structure.{IsConnected}

pub same_insn : (program : Program) (slot : ℕ) (a b : Insn) → StartsAt program slot a → StartsAt program slot b → a ≡ b
same_insn program slot a b is_a is_b =
    let both : Some (Some a) ≡ Some (Some b) = sym is_a ∙ is_b in
    cc

pub same_way : (slot : ℕ) (insn : Insn) (a b : ℕ) → JumpsTo slot insn a → JumpsTo slot insn b → a ≡ b
same_way slot insn a b (first, jumps_a, away_a) (second, jumps_b, away_b) =
    let distances : Some first ≡ Some second = sym jumps_a ∙ jumps_b in
    let same : first ≡ second = cc in
    let ends : pos a ≡ pos b = away_a ∙ ap (λ (d : ℤ). pos (slot + 1) +ℤ d) same ∙ sym away_b in
    cc

-- a slot that isn't an instruction's leads nowhere
pub nowhere : (program : Program) (ranks : List ℕ) (slot : ℕ) → slice_get program slot ≡ Some None → AreRanked ranks (Goes program slot)
nowhere program ranks slot is to (insn, starts, way) =
    let clash : Some (Some insn) ≡ Some None = sym starts ∙ is in
    absurd (cc)

-- all that the instruction leads to has a rank
pub both_ranked : (program : Program) (ranks : List ℕ) (slot : ℕ) (insn : Insn) → StartsAt program slot insn → AreRanked ranks (FallsTo slot insn) → AreRanked ranks (JumpsTo slot insn) → AreRanked ranks (Goes program slot)
both_ranked program ranks slot insn starts falls jumps to (other, begins, way) =
    let same : other ≡ insn = same_insn program slot other insn begins starts in
    ⊎_elim
    (λ (fall : FallsTo slot other to). falls to (subst (λ (i : Insn). FallsTo slot i to) same fall))
    (λ (jump : JumpsTo slot other to). jumps to (subst (λ (i : Insn). JumpsTo slot i to) same jump))
    way

-- in a program that is connected it leads to a slot of the program
pub falls_within : (program : Program) (slot : ℕ) (insn : Insn) → IsConnected program → slot < length program → StartsAt program slot insn → FallsTo slot insn (slot + slots_of insn) → slot + slots_of insn < length program
falls_within program slot insn connected within starts falls =
    ⊎_elim
    (λ (less : slot + slots_of insn < length program). less)
    (λ (more : length program ≤ slot + slots_of insn). absurd (connected slot insn within starts FallOff (falls.0, more)))
    (cases_lt (slot + slots_of insn) (length program))

pub jumps_within : (program : Program) (slot : ℕ) (insn : Insn) → IsConnected program → slot < length program → StartsAt program slot insn → (to : ℕ) → JumpsTo slot insn to → to < length program
jumps_within program slot insn connected within starts to jumps =
    ⊎_elim
    (λ (less : to < length program). less)
    (λ (more : length program ≤ to).
    absurd (connected slot insn within starts JumpOut (
      jumps.0,
      jumps.1,
      λ other away.
          let same : to ≡ other = same_way slot insn to other jumps (jumps.0, jumps.1, away) in
          subst (λ (k : ℕ). length program ≤ k) same more,
    )))
    (cases_lt to (length program))

-- a slot that isn't without a rank has one
pub has_rank : (ranks : List ℕ) (slot : ℕ) → slot < length ranks → (HasNone ranks slot → ⊥) → 0 < slice_index ranks slot
has_rank ranks slot within not =
    ⊎_elim
    (λ (some : 0 < slice_index ranks slot). some)
    (λ (none : slice_index ranks slot ≤ 0). let is : slice_index ranks slot ≡ 0 = omega arith in absurd (not (within, is)))
    (cases_lt 0 (slice_index ranks slot))

-- the only slot to which it jumps isn't without a rank
pub target_ranked : (ranks : List ℕ) (slot : ℕ) (insn : Insn) (distance : ℤ) (to : ℕ) → jump_of insn ≡ Some distance → IsAway slot distance to → ((k : ℕ) → JumpsTo slot insn k → k < length ranks) → (HasNone ranks to → ⊥) → AreRanked ranks (JumpsTo slot insn)
target_ranked ranks slot insn distance to is away within not other jumps =
    let same : other ≡ to = same_way slot insn other to jumps (distance, is, away) in
    has_rank ranks other (within other jumps) (λ none. not (subst (λ (k : ℕ). HasNone ranks k) same none))
