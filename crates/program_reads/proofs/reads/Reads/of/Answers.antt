use Rattle.std.proofs.Common.{◌≡◌, ◌⊎◌, ℕ, zero, suc, ◌+◌, ◌<◌, Some, None, Option, length, get_or, arith, sym, ap, subst, ◌∙◌, inl, inr, ⊎_elim}
use Rattle.std.proofs.lemmas.Option.{same_Some}
use Rattle.std.specs.List.{slice_get}
use Rattle.bpf_words.specs.Words.{program_of}
use Rattle.abstract_state.proofs.Registers.{any_default}
use Rattle.abstract_state.specs.declared.state.AbsState.{AbsState}
use Rattle.abstract_state.specs.State.{WithinState}
use Rattle.program_reads.specs.Loads.{CoversStates}
use Rattle.program_reads.proofs.Growing.{covers_load}
use Rattle.program_reads.proofs.Runs.{in_program, determines, covers_runs}
use Rattle.program_reads.proofs.reads.Reads.of.Goals as goal

either : (i j : ℕ) → j < i + 1 → (j < i) ⊎ (j ≡ i)
either zero j h = inr (omega arith)
either (suc i) zero h = inl (omega arith)
either (suc i) (suc j) h = ⊎_elim (λ l. inl (omega arith)) (λ e. inr (ap suc e)) (either i j (omega arith))

pub returns-clause-covers : goal.returns-clause-covers
returns-clause-covers c = λ slot insn lengths s starts known.
    let size = c.len-slot-end.ensures.value in
    let far = c.loop-slot-test.false in
    let within = in_program (program_of c.args.words.now) slot insn starts in
    c.loop-slot.invariant.covers slot insn lengths s (omega arith) starts known

pub returns-clause-determines : goal.returns-clause-determines
returns-clause-determines c = λ profile safe contain.
    let program = program_of c.args.words.now in
    let covers : CoversStates c.loop-slot.reads program c.args.states.now = returns-clause-covers c in
    determines c.loop-slot.reads profile program safe (covers_runs c.loop-slot.reads profile program c.args.states.now contain covers)

pub loop-slot-preserved : goal.loop-slot-preserved
loop-slot-preserved c = record {
  covers = λ slot insn lengths s h starts known.
      ⊎_elim (λ (l : slot < c.loop-slot.slot). covers_load c.loop-slot.reads c.add_at.new.self c.add_at.ensures.grows s insn (c.loop-slot.invariant.covers slot insn lengths s l starts known))
      (λ (e : slot ≡ c.loop-slot.slot).
      let size = c.len-slot-end.ensures.value in
      let here = c.loop-slot-test.true in
      let long = c.requires in
      let within : c.loop-slot.slot < length c.args.states.now = omega arith in
      c.add_at.ensures.covers insn lengths s
      (same_Some _ _ (sym c.insn.ensures.value ∙ subst (λ (n : ℕ). slice_get (program_of c.args.words.now) n ≡ Some (Some insn)) e starts))
      (subst (λ (o : Option AbsState). WithinState o lengths s) (ap (λ (n : ℕ). get_or c.args.states.now n None) e ∙ sym (c.index-states-slot.is ∙ any_default c.args.states.now c.loop-slot.slot c.index-states-slot.result None within)) known))
      (either c.loop-slot.slot slot h);
}
