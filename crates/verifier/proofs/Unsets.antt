-- A refusal of an instruction that reads a register which is not set names that.
use Rattle.std.proofs.Common.{◌≡◌, ℕ, zero, suc, ◌<◌, inl, inr, Option, Some, None, List, [], ◌∷◌, Result, Err}
use Rattle.std.proofs.Common.{refl, sym, ap, ◌∙◌, subst, arith}
use Rattle.std.specs.Prelude.{slice_index_or}
use Rattle.std.specs.List.{Contains}
use Rattle.std.specs.Result.{IfErr}
use Rattle.std.proofs.lemmas.Option.{same_Some}
use Rattle.std.proofs.lemmas.List.Elements.{Contains-append_right}
use Rattle.span_context.specs.declared.profile.Profile.{Profile}
use Rattle.bpf_words.specs.declared.instruction.Operand.{Operand}
use Rattle.bpf_words.specs.declared.instruction.Operand.TheVariants.{Immediate, Source}
use Rattle.bpf_words.specs.declared.instruction.Insn.{Insn}
use Rattle.bpf_words.specs.declared.instruction.Insn.TheVariants.{Compute, Negate, Extend, Convert, Jump, JumpLong}
use Rattle.bpf_words.specs.declared.instruction.Insn.TheVariants.{Branch, Load, LoadSigned, Store, LoadWide, Exit}
use Rattle.bpf_words.specs.Flow.{StartsAt, read_by, read_operand, written_by}
use Rattle.semantics.specs.State.{State}
use Rattle.semantics.specs.Step.{Program}
use Rattle.abstract_state.specs.declared.refusal.Refusal.{Refusal}
use Rattle.abstract_state.specs.declared.refusal.Refusal.TheVariants.{UnsetRegister}
use Rattle.abstract_state.specs.declared.state.AbsReg.{AbsReg}
use Rattle.abstract_state.specs.declared.state.AbsReg.TheVariants.{Unset, Set}
use Rattle.abstract_state.specs.declared.state.AbsState.{AbsState}
use Rattle.abstract_state.specs.Lent.{Lengths}
use Rattle.abstract_state.specs.State.{lengths_of, register_at, ContainsRegister, WithinState}
use Rattle.abstract_state.specs.Unset.{HasUnset}
use Rattle.tracked_state.specs.Learning.{LearnsSides}
use Rattle.verifier.specs.declared.refusal.VerifyError.{VerifyError}
use Rattle.verifier.specs.declared.refusal.VerifyError.TheVariants.{State as StateRefused}
use Rattle.verifier.specs.Plain.{IsFree, Leads, Path, begins, goes, with_written}
use Rattle.verifier.specs.Unset.{ReadsUnset, in_run, unwritten}
use Rattle.verifier.specs.Arises.{Leaves, Takes, Arises, first, fell, jumped, joined, MayRefuse, RefusesAt, IsCause}
use Rattle.verifier.proofs.Arising.{refuses_at}
use Rattle.verifier.proofs.Learnt.{IsAside, aside_keeps, keeps_unset}

unset_in : (a : AbsState) (registers : List ℕ) (r : ℕ) → Contains registers r → register_at a.registers r ≡ Unset
    → HasUnset a registers
unset_in a [] r (k, h, e) unset = absurd (omega arith)
unset_in a (x ∷ rest) r (zero, h, e) unset = inl (subst (λ (i : ℕ). register_at a.registers i ≡ Unset) (sym e) unset)
unset_in a (x ∷ rest) r (suc k, h, e) unset = inr (unset_in a rest r (k, omega arith, e) unset)

-- ---- a register that a run leaves unset
contains_unset : (reg : AbsReg) (lengths : Lengths) (o : Option ℕ) → o ≡ None → ContainsRegister reg lengths o
    → reg ≡ Unset
contains_unset Unset lengths o none held = refl
contains_unset (Set k) lengths o none (n, is, held) = absurd (cc)

run_unset : (a : AbsState) (lengths : Lengths) (s : State) (r : ℕ) → WithinState (Some a) lengths s → r < 11
    → slice_index_or s.registers r None ≡ None → register_at a.registers r ≡ Unset
run_unset a lengths s r (b, is, held) below none =
    let there = contains_unset (register_at b.registers r) lengths _ none (held.registers r below) in
    subst (λ (x : AbsState). register_at x.registers r ≡ Unset) (sym (same_Some a b is)) there

-- ---- a register that a path leaves unwritten
-- some path comes to the slot, and what it doesn't write, and no run begins with, is unset
record Left (program : Program) (slot : ℕ) (a : AbsState) : Type 0 where
  done : List ℕ
  path : Path program slot done
  unset : (i : ℕ) → IsFree i → (Contains done i → ⊥) → register_at a.registers i ≡ Unset

written_in : (o : Option ℕ) (done : List ℕ) (i : ℕ) → o ≡ Some i → Contains (with_written o done) i
written_in None done i is = absurd (cc)
written_in (Some r) done i is = (0, omega arith, same_Some r i is)

still_in : (o : Option ℕ) (done : List ℕ) (i : ℕ) → Contains done i → Contains (with_written o done) i
still_in None done i here = here
still_in (Some r) done i here = Contains-append_right (r ∷ []) done i here

moved_unset : (a : AbsState) (i j : ℕ) → i ≡ j → register_at a.registers i ≡ Unset → register_at a.registers j ≡ Unset
moved_unset a i j same unset = subst (λ (k : ℕ). register_at a.registers k ≡ Unset) same unset

-- no side of a comparison is an unset register
unset_aside : (a : AbsState) (left : ℕ) (right : Operand) (i : ℕ) → i < 11 → (HasUnset a (left ∷ read_operand right) → ⊥)
    → register_at a.registers i ≡ Unset → IsAside left right i
unset_aside a left (Immediate value) i few read unset = record {
  few = few;
  left = λ same. read (inl (moved_unset a i left same unset));
  right = λ e. cc;
}
unset_aside a left (Source r) i few read unset = record {
  few = few;
  left = λ same. read (inl (moved_unset a i left same unset));
  right = λ e. let same : i ≡ r = cc in read (inr (inl (moved_unset a i r same unset)));
}

stays_side : (a b : AbsState) (left : ℕ) (right : Operand) (i : ℕ) → i < 11 → (HasUnset a (left ∷ read_operand right) → ⊥)
    → LearnsSides left right a b → register_at a.registers i ≡ Unset → register_at b.registers i ≡ Unset
stays_side a b left right i few read learns unset =
    let keeps = aside_keeps left right i a b (unset_aside a left right i few read unset) learns in
    keeps_unset (register_at a.registers i) (register_at b.registers i) keeps unset

stays_unset : (profile : Profile) (a b : AbsState) (insn : Insn) (i : ℕ) → i < 11 → (HasUnset a (read_by insn) → ⊥)
    → Leaves profile a insn b
    → (written_by insn ≡ Some i → ⊥) → register_at a.registers i ≡ Unset → register_at b.registers i ≡ Unset
stays_unset profile a b (Compute w op d o) i few read leaves spared unset =
    leaves.0.others i (λ same. spared (ap Some (sym same))) ∙ unset
stays_unset profile a b (Negate w d) i few read leaves spared unset =
    leaves.0.others i (λ same. spared (ap Some (sym same))) ∙ unset
stays_unset profile a b (Extend x d r) i few read leaves spared unset =
    leaves.0.others i (λ same. spared (ap Some (sym same))) ∙ unset
stays_unset profile a b (Convert c x d) i few read leaves spared unset =
    leaves.0.others i (λ same. spared (ap Some (sym same))) ∙ unset
stays_unset profile a b (Jump distance) i few read leaves spared unset =
    ap (λ (s : AbsState). register_at s.registers i) leaves.0 ∙ unset
stays_unset profile a b (JumpLong distance) i few read leaves spared unset =
    ap (λ (s : AbsState). register_at s.registers i) leaves.0 ∙ unset
stays_unset profile a b (Branch w c l r distance) i few read leaves spared unset = stays_side a b l r i few read leaves.0 unset
stays_unset profile a b (Load z d base o) i few read leaves spared unset =
    leaves.0.others i (λ same. spared (ap Some (sym same))) ∙ unset
stays_unset profile a b (LoadSigned z d base o) i few read leaves spared unset =
    leaves.0.others i (λ same. spared (ap Some (sym same))) ∙ unset
stays_unset profile a b (Store z base o v) i few read leaves spared unset =
    ap (λ (regs : List AbsReg). register_at regs i) leaves.0 ∙ unset
stays_unset profile a b (LoadWide d v) i few read leaves spared unset =
    leaves.0.others i (λ same. spared (ap Some (sym same))) ∙ unset
stays_unset profile a b Exit i few read leaves spared unset =
    ap (λ (s : AbsState). register_at s.registers i) leaves.0 ∙ unset

left_on : (profile : Profile) (program : Program) (slot to : ℕ) (a b : AbsState) (insn : Insn) → Left program slot a
    → StartsAt program slot insn → Leads insn slot to → Takes profile a insn b → Left program to b
left_on profile program slot to a b insn left starts leads takes = record {
  done = with_written (written_by insn) left.done;
  path = goes left.path starts leads;
  unset = λ i free missing.
      let below = free.0 in
      stays_unset profile a b insn i (omega arith) takes.read takes.leaves (λ is. missing (written_in (written_by insn) left.done i is))
      (left.unset i free (λ here. missing (still_in (written_by insn) left.done i here)));
}

left_at : (profile : Profile) (program : Program) (slot : ℕ) (a : AbsState) → Arises profile program slot a
    → Left program slot a
left_at profile program slot a (first context frame unset) = record {
  done = [];
  path = begins;
  unset = λ i free missing. let below = free.0 in unset i free.1 (λ e. omega arith);
}
left_at profile program slot a (fell {slot = before} {a = old} {insn = insn} from starts falls takes long) =
    left_on profile program before slot old a insn (left_at profile program before old from) starts
    (inl (falls, refl)) takes
left_at profile program slot a (jumped {slot = before} {n = n} {a = old} {insn = insn} from starts jumps takes) =
    left_on profile program before slot old a insn (left_at profile program before old from) starts
    (inr (n, jumps, refl)) takes
left_at profile program slot a (joined {a = one} {b = two} target from other joins) =
    let left = left_at profile program slot one from in
    record {
      done = left.done;
      path = left.path;
      unset = λ i free missing.
          let below = free.0 in (joins.registers i (omega arith)).unset (inl (left.unset i free missing));
    }

same_insn : (program : Program) (slot : ℕ) (i j : Insn) → StartsAt program slot i → StartsAt program slot j → i ≡ j
same_insn program slot i j one other = same_Some i j (same_Some (Some i) (Some j) (sym one ∙ other))

-- what is known before the slot has the register unset
reads_unset : (profile : Profile) (program : Program) (may : MayRefuse profile program)
    → ReadsUnset profile program may.slot → HasUnset may.state (read_by may.insn)
reads_unset profile program may (in_run span s insn register which reached at starts read below none) =
    let same = same_insn program may.slot insn may.insn starts may.starts in
    let unset = run_unset may.state (lengths_of span) s register (may.contains span s which reached at) below none in
    subst (λ (i : Insn). HasUnset may.state (read_by i)) same (unset_in may.state (read_by insn) register read unset)
reads_unset profile program may (unwritten insn register starts read free missing) =
    let same = same_insn program may.slot insn may.insn starts may.starts in
    let left = left_at profile program may.slot may.state may.arises in
    let unset = left.unset register free (missing left.done left.path) in
    subst (λ (i : Insn). HasUnset may.state (read_by i)) same (unset_in may.state (read_by insn) register read unset)

names_unset : (profile : Profile) (program : Program) (slot : ℕ) (fault : Refusal)
    → RefusesAt profile program slot fault → ReadsUnset profile program slot → fault ≡ UnsetRegister
names_unset profile program slot fault (may, at, is) reads =
    sym is ∙ may.unset.1 (reads_unset profile program may (subst (ReadsUnset profile program) (sym at) reads))

pub unset_named : {T : Type 0} (profile : Profile) (program : Program) (r : Result T VerifyError) (slot : ℕ)
    (fault : Refusal) → IfErr r (IsCause profile program) → r ≡ Err (StateRefused slot fault)
    → ReadsUnset profile program slot → fault ≡ UnsetRegister
unset_named profile program r slot fault cause is reads =
    names_unset profile program slot fault (refuses_at profile program r slot fault cause is) reads
