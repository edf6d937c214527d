-- What is promised past an instruction, on each of its edges.
use Rattle.std.proofs.Common.{◌≡◌, ◌≢◌, ℕ, ◌<◌, ◌≤◌, ◌∷◌, false, length, arith, ⊎_elim, Option, Some, None, refl, sym, ap, ◌∙◌, subst}
use Rattle.std.specs.Prelude.{ℤ}
use Rattle.std.specs.Option.{IfSome}
use Rattle.std.proofs.lemmas.Bool.{cases_eq}
use Rattle.std.proofs.lemmas.Option.{same_Some}
use Rattle.span_context.specs.declared.profile.Profile.{Profile}
use Rattle.span_context.specs.Profile.{has_more_rules}
use Rattle.std.proofs.lemmas.List.{get_or_past}
use Rattle.std.proofs.lemmas.Bool.{cases_lt}
use Rattle.bpf_words.specs.declared.instruction.Width.{Width}
use Rattle.bpf_words.specs.declared.instruction.Width.TheVariants.{Full}
use Rattle.bpf_words.specs.declared.instruction.Comparison.{Comparison}
use Rattle.bpf_words.specs.declared.instruction.Comparison.TheVariants.{Greater}
use Rattle.bpf_words.specs.declared.instruction.Operand.{Operand}
use Rattle.bpf_words.specs.declared.instruction.Operand.TheVariants.{Source}
use Rattle.bpf_words.specs.declared.instruction.Insn.{Insn}
use Rattle.bpf_words.specs.declared.instruction.Insn.TheVariants.{Compute, Negate, Extend, Convert, Jump, JumpLong, Branch, Load, LoadSigned, Store, LoadWide, Exit}
use Rattle.bpf_words.specs.Flow.{written_by, jump_of, read_by, read_operand}
use Rattle.abstract_state.specs.Unset.{HasUnset}
use Rattle.abstract_state.specs.declared.known.Known.TheVariants.{Number, Context, Stack, Lent}
use Rattle.abstract_state.specs.declared.state.AbsReg.{AbsReg}
use Rattle.abstract_state.specs.declared.state.AbsReg.TheVariants.{Unset, Set}
use Rattle.abstract_state.specs.declared.region.Region.{Region}
use Rattle.abstract_state.specs.declared.state.AbsState.{AbsState}
use Rattle.abstract_state.specs.State.{register_at}
use Rattle.abstract_state.specs.Branch.{LeavesSides}
use Rattle.abstract_state.specs.Kinds.{HasNumberAt, HasNumberIn, IsNumberReg, KeepsKind, ReadsNumbers, WritesNumber, Carries}
use Rattle.abstract_state.specs.Exact.{Fact, Holds}
use Rattle.abstract_state.specs.Lent.{tail_of}
use Rattle.abstract_state.specs.declared.address.LentAddress.{LentAddress}
use Rattle.abstract_state.specs.Guard.{Yields, lent_begin, lent_end, lent_moved, lent_added, copied, moved, folded, wide, lent_read, lent_read_signed, stack_read, stack_read_signed, refilled, Stores, stored, Spills, spilled, LeavesOthers, LeavesMemory, LengthensMemory}
use Rattle.abstract_state.specs.Frame.{StoresSlots, SpillsSlot}
use Rattle.abstract_state.specs.declared.known.Known.{Known}
use Rattle.tracked_state.specs.declared.state.TrackedState.{TrackedState}
use Rattle.abstract_state.specs.declared.step.Flow.{Flow}
use Rattle.abstract_state.specs.declared.step.Flow.TheVariants.{Live, Dead}
use Rattle.abstract_state.specs.Steps.{after}
use Rattle.tracked_state.specs.Tracking.{after_tracked}
use Rattle.tracked_state.specs.Learning.{LearnsSides, KeepsKinds}
use Rattle.verifier.specs.Arises.{Guards, behind, IsGranted, of_numbers, of_row, of_guard, of_store, of_spill, TakesNumbers, Leaves, Takes, IsLongBehind}
use Rattle.verifier.proofs.Passing.{IsStraight}

pub at_some : {T : Type 0} (o : Option T) (P : T → Type 0) (t : T) → IfSome o P → o ≡ Some t → P t
at_some None P t h e = absurd (cc)
at_some (Some x) P t h e = subst P (same_Some x t e) h

-- ---- what is granted
yields_writes : (profile : Profile) (a : AbsState) (insn : Insn) (d : ℕ) (fact : Fact) → Yields profile a insn d fact → written_by insn ≡ Some d
yields_writes profile a insn d fact (lent_begin region d' base lends h) = refl
yields_writes profile a insn d fact (lent_end region d' base lends h) = refl
yields_writes profile a insn d fact (lent_moved region d' r n t h) = refl
yields_writes profile a insn d fact (lent_added region d' k n t h near) = refl
yields_writes profile a insn d fact (copied region d' n o h) = refl
yields_writes profile a insn d fact (moved d' r known h) = refl
yields_writes profile a insn d fact (folded region operation d' m n o folds left h) = refl
yields_writes profile a insn d fact (wide region d' n) = refl
yields_writes profile a insn d fact (lent_read size d' r o p h short within) = refl
yields_writes profile a insn d fact (lent_read_signed size d' r o p h short within) = refl
yields_writes profile a insn d fact (stack_read size d' base p o h m) = refl
yields_writes profile a insn d fact (stack_read_signed size d' base p o h m) = refl
yields_writes profile a insn d fact (refilled d' base i o known h less is) = refl

no_row : (profile : Profile) (a : AbsState) (insn : Insn) (d : ℕ) (fact : Fact) → written_by insn ≡ None → Yields profile a insn d fact → ⊥
no_row profile a insn d fact none row = let both : None ≡ Some d = sym none ∙ yields_writes profile a insn d fact row in absurd (cc)

no_guard : (a : AbsState) (insn : Insn) (region : Region) (n : ℕ) → IsStraight insn → Guards a insn region n → ⊥
no_guard a insn region n straight (behind l r t p q distance apart h g region' tail) = straight

-- a store writes no register, and is neither an exit nor a comparison
stores_none : (a : AbsState) (insn : Insn) (p count : ℕ) → Stores a insn p count → (insn ≡ Exit → ⊥) × (written_by insn ≡ None) × ((distance : ℤ) → jump_of insn ≡ Some distance → ⊥)
stores_none a insn p count (stored size base p' offset value at within number) = (λ e. cc, refl, λ distance e. cc)

spills_none : (a : AbsState) (insn : Insn) (i : ℕ) (known : Known) → Spills a insn i known → (insn ≡ Exit → ⊥) × (written_by insn ≡ None) × ((distance : ℤ) → jump_of insn ≡ Some distance → ⊥)
spills_none a insn i known (spilled base r i' offset known' at within held) = (λ e. cc, refl, λ distance e. cc)

-- what is promised of a step in each of these cases
pub step_granted : (profile : Profile) (a : AbsState) (insn : Insn) (P : Type 0) → IsStraight insn → (ReadsNumbers a insn → P) → ((d : ℕ) (fact : Fact) → Yields profile a insn d fact → P) → ((p count : ℕ) → Stores a insn p count → P) → ((i : ℕ) (known : Known) → Spills a insn i known → P) → IsGranted profile a insn → P
step_granted profile a insn P straight numbers row stores spills (of_numbers reads) = numbers reads
step_granted profile a insn P straight numbers row stores spills (of_row d fact yields) = row d fact yields
step_granted profile a insn P straight numbers row stores spills (of_guard region n guard) = absurd (no_guard a insn region n straight guard)
step_granted profile a insn P straight numbers row stores spills (of_store p count store) = stores p count store
step_granted profile a insn P straight numbers row stores spills (of_spill i known spill) = spills i known spill

-- an exit that is granted reads a number
pub exit_granted : (profile : Profile) (a : AbsState) (insn : Insn) → insn ≡ Exit → IsGranted profile a insn → HasNumberAt a 0
exit_granted profile a insn is (of_numbers reads) = subst (ReadsNumbers a) is reads
exit_granted profile a insn is (of_row d fact row) = absurd (no_row profile a insn d fact (ap written_by is) row)
exit_granted profile a insn is (of_guard region n (behind l r t p q distance apart h g region' tail)) = absurd (cc)
exit_granted profile a insn is (of_store p count store) = absurd ((stores_none a insn p count store).0 is)
exit_granted profile a insn is (of_spill i known spill) = absurd ((spills_none a insn i known spill).0 is)

-- what is promised of a comparison of two addresses in one lent region, of its answer
abbrev pub IfGuards : AbsState → Width → Comparison → ℕ → Operand → (Region → ℕ → Type 0) → Type 0
IfGuards a width comparison left right P =
    (r t : ℕ) (p q : LentAddress) → right ≡ Source r → left ≢ r → width ≡ Full → comparison ≡ Greater
    → register_at a.registers left ≡ Set (Lent p) → register_at a.registers r ≡ Set (Lent q) → p.region ≡ q.region
    → tail_of q.offset.tails p.region ≡ Some t → P p.region p.offset.range.low

pub guard_is : (a : AbsState) (insn : Insn) (width : Width) (comparison : Comparison) (left : ℕ) (right : Operand) (distance : ℤ) (P : Region → ℕ → Type 0) (region : Region) (n : ℕ) → insn ≡ Branch width comparison left right distance → IfGuards a width comparison left right P → Guards a insn region n → P region n
guard_is a insn width comparison left right distance P region n is f (behind l r t p q d apart h g same tail) =
    let wide : width ≡ Full = cc in
    let greater : comparison ≡ Greater = cc in
    let at : l ≡ left = cc in
    let other : right ≡ Source r = cc in
    f r t p q other (λ e. apart (at ∙ e)) wide greater (subst (λ (i : ℕ). register_at a.registers i ≡ Set (Lent p)) at h) g same tail

-- what is promised of a comparison in each of these cases
pub branch_granted : (profile : Profile) (a : AbsState) (insn : Insn) (width : Width) (comparison : Comparison) (left : ℕ) (right : Operand) (distance : ℤ) (P : Type 0) → insn ≡ Branch width comparison left right distance → (HasNumberAt a left → HasNumberIn a right → P) → IfGuards a width comparison left right (λ region n. P) → IsGranted profile a insn → P
branch_granted profile a insn width comparison left right distance P is floor regions (of_numbers reads) =
    let both = subst (ReadsNumbers a) is reads in floor both.0 both.1
branch_granted profile a insn width comparison left right distance P is floor regions (of_row d fact row) = absurd (no_row profile a insn d fact (ap written_by is) row)
branch_granted profile a insn width comparison left right distance P is floor regions (of_guard region n guard) =
    guard_is a insn width comparison left right distance (λ region k. P) region n is regions guard
branch_granted profile a insn width comparison left right distance P is floor regions (of_store p count store) = absurd ((stores_none a insn p count store).2 distance (ap jump_of is))
branch_granted profile a insn width comparison left right distance P is floor regions (of_spill i known spill) = absurd ((spills_none a insn i known spill).2 distance (ap jump_of is))

-- ---- what is known past an instruction
pub writes_takes : (a b : AbsState) (insn : Insn) (d : ℕ) → written_by insn ≡ Some d → WritesNumber a d b → TakesNumbers a insn b
writes_takes a b insn d is writes = record {
  written = λ i e. subst (λ k. HasNumberAt b k) (same_Some d i (sym is ∙ e)) writes.written;
  kept = λ i was.
      ⊎_elim
      (λ (same : i ≡ d). subst (λ k. HasNumberAt b k) (sym same) writes.written)
      (λ (other : i ≡ d → ⊥). subst IsNumberReg (sym (writes.others i other)) was)
      (cases_eq i d);
}

carries_takes : (a b : AbsState) (insn : Insn) → IsStraight insn → ReadsNumbers a insn → Carries a insn b → TakesNumbers a insn b
carries_takes a b (Compute w op d o) is reads carries = writes_takes a b (Compute w op d o) d refl carries
carries_takes a b (Negate w d) is reads carries = writes_takes a b (Negate w d) d refl carries
carries_takes a b (Extend x d r) is reads carries = writes_takes a b (Extend x d r) d refl carries
carries_takes a b (Convert c x d) is reads carries = writes_takes a b (Convert c x d) d refl carries
carries_takes a b (Jump distance) is reads carries = absurd is
carries_takes a b (JumpLong distance) is reads carries = absurd is
carries_takes a b (Branch w c l r distance) is reads carries = absurd is
carries_takes a b (Load z d base o) is reads carries = writes_takes a b (Load z d base o) d refl carries
carries_takes a b (LoadSigned z d base o) is reads carries = absurd reads
carries_takes a b (Store z base o v) is reads carries = absurd reads
carries_takes a b (LoadWide d v) is reads carries = writes_takes a b (LoadWide d v) d refl carries
carries_takes a b Exit is reads carries = absurd is

-- a straight instruction leaves as it was what it doesn't write
straight_leaves : (profile : Profile) (a b : AbsState) (insn : Insn) → IsStraight insn → LeavesOthers a insn b → LeavesMemory a insn b → Leaves profile a insn b
straight_leaves profile a b (Compute w op d o) is others memory = (others, memory)
straight_leaves profile a b (Negate w d) is others memory = (others, memory)
straight_leaves profile a b (Extend x d r) is others memory = (others, memory)
straight_leaves profile a b (Convert c x d) is others memory = (others, memory)
straight_leaves profile a b (Jump distance) is others memory = absurd is
straight_leaves profile a b (JumpLong distance) is others memory = absurd is
straight_leaves profile a b (Branch w c l r distance) is others memory = absurd is
straight_leaves profile a b (Load z d base o) is others memory = (others, memory)
straight_leaves profile a b (LoadSigned z d base o) is others memory = (others, memory)
straight_leaves profile a b (Store z base o v) is others memory = (others, memory)
straight_leaves profile a b (LoadWide d v) is others memory = (others, memory)
straight_leaves profile a b Exit is others memory = absurd is

-- a state after a step is that of the state without its copies
pub live_after : (flow : Flow) (a b : TrackedState) → after_tracked flow a ≡ Some b → after flow a.state ≡ Some b.state
live_after Live a b live = ap (λ (x : TrackedState). Some x.state) (same_Some a b live)
live_after Dead a b live = absurd (cc (live))

pub step_takes : (profile : Profile) (a b : AbsState) (insn : Insn) (o : Option AbsState) → IsStraight insn → o ≡ Some b → (ReadsNumbers a insn → IfSome o (λ x. Carries a insn x)) → IfSome o (λ x. LeavesOthers a insn x) → IfSome o (λ x. LeavesMemory a insn x) → ((p count : ℕ) → Stores a insn p count → IfSome o (λ x. StoresSlots p count a.stack x.stack)) → ((i : ℕ) (known : Known) → Spills a insn i known → IfSome o (λ x. SpillsSlot i known a.stack x.stack)) → ((d : ℕ) (fact : Fact) → Yields profile a insn d fact → IfSome o (λ x. Holds fact (register_at x.registers d))) → (HasUnset a (read_by insn) → ⊥) → Takes profile a insn b
step_takes profile a b insn o straight live carries others memory stores spills rows read = record {
  read = read;
  numbers = λ reads. carries_takes a b insn straight reads (at_some o (λ x. Carries a insn x) b (carries reads) live);
  leaves = straight_leaves profile a b insn straight (at_some o (λ x. LeavesOthers a insn x) b others live) (at_some o (λ x. LeavesMemory a insn x) b memory live);
  stores = λ p count row. at_some o (λ x. StoresSlots p count a.stack x.stack) b (stores p count row) live;
  spills = λ i known row. at_some o (λ x. SpillsSlot i known a.stack x.stack) b (spills i known row) live;
  yields = λ d fact row. at_some o (λ x. Holds fact (register_at x.registers d)) b (rows d fact row) live;
}

pub straight_long : (a b : AbsState) (insn : Insn) → IsStraight insn → IsLongBehind a insn b
straight_long a b insn straight region n guard = absurd (no_guard a insn region n straight guard)

-- a jump leaves all as it is
none_taken : (a : AbsState) (insn : Insn) → written_by insn ≡ None → TakesNumbers a insn a
none_taken a insn none = record {
  written = λ i e. let both : None ≡ Some i = sym none ∙ e in absurd (cc);
  kept = λ i was. was;
}

pub jump_takes : (profile : Profile) (a : AbsState) (insn : Insn) (distance : ℤ) → written_by insn ≡ None → jump_of insn ≡ Some distance → Leaves profile a insn a → (HasUnset a (read_by insn) → ⊥) → Takes profile a insn a
jump_takes profile a insn distance none jumps leaves read = record {
  read = read;
  numbers = λ reads. none_taken a insn none;
  leaves = leaves;
  stores = λ p count row. absurd ((stores_none a insn p count row).2 distance jumps);
  spills = λ i known row. absurd ((spills_none a insn i known row).2 distance jumps);
  yields = λ d fact row. absurd (no_row profile a insn d fact none row);
}

keeps_number : (x y : AbsReg) → KeepsKind x y → IsNumberReg x → IsNumberReg y
keeps_number Unset y keeps number = absurd number
keeps_number (Set (Number q)) y keeps number = keeps
keeps_number (Set (Context p)) y keeps number = absurd number
keeps_number (Set (Stack p)) y keeps number = absurd number
keeps_number (Set (Lent p)) y keeps number = absurd number

-- a number in a register that there is stays one; in no other is one
number_stays : (a b : AbsState) (i : ℕ) → length a.registers ≡ 11 → KeepsKinds a b → HasNumberAt a i → HasNumberAt b i
number_stays a b i eleven keeps was =
    ⊎_elim
    (λ (few : i < 11). keeps_number _ _ (keeps i few) was)
    (λ (more : 11 ≤ i). absurd (subst IsNumberReg (get_or_past a.registers i Unset (omega (arith, eleven, more))) was))
    (cases_lt i 11)

-- what an edge of a comparison learns
pub record EdgeLearns (profile : Profile) (a : AbsState) (left : ℕ) (right : Operand) (edge : Option TrackedState) : Type 0 where
  pub learns : IfSome edge (λ b. LearnsSides left right a b.state)
  pub kinds : HasNumberAt a left → HasNumberIn a right → IfSome edge (λ b. KeepsKinds a b.state)
  pub others : has_more_rules profile ≡ false → IfSome edge (λ b. LeavesSides left right a b.state)
  pub memory : has_more_rules profile ≡ false → IfSome edge (λ b. LengthensMemory a b.state)

pub edge_takes : (profile : Profile) (a : AbsState) (b : TrackedState) (insn : Insn) (width : Width) (comparison : Comparison) (left : ℕ) (right : Operand) (distance : ℤ) (edge : Option TrackedState) → insn ≡ Branch width comparison left right distance → length a.registers ≡ 11 → edge ≡ Some b → EdgeLearns profile a left right edge → (HasUnset a (left ∷ read_operand right) → ⊥) → Takes profile a insn b.state
edge_takes profile a b insn width comparison left right distance edge is eleven live learnt read = record {
  read = subst (λ (i : Insn). HasUnset a (read_by i) → ⊥) (sym is) read;
  numbers = λ reads.
      let both = subst (ReadsNumbers a) is reads in
      let keeps = at_some edge (λ x. KeepsKinds a x.state) b (learnt.kinds both.0 both.1) live in
      record {
        written = λ i e. let both : None ≡ Some i = sym (ap written_by is) ∙ e in absurd (cc);
        kept = λ i was. number_stays a b.state i eleven keeps was;
      };
  leaves = subst (λ (i : Insn). Leaves profile a i b.state) (sym is) (
    at_some edge (λ x. LearnsSides left right a x.state) b learnt.learns live,
    λ few. (at_some edge (λ x. LeavesSides left right a x.state) b (learnt.others few) live, at_some edge (λ x. LengthensMemory a x.state) b (learnt.memory few) live),
  );
  stores = λ p count row. absurd ((stores_none a insn p count row).2 distance (ap jump_of is));
  spills = λ i known row. absurd ((spills_none a insn i known row).2 distance (ap jump_of is));
  yields = λ d fact row. absurd (no_row profile a insn d fact (ap written_by is) row);
}
