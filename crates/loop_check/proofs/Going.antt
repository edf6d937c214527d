-- The edges of an instruction lead to labels.
use Rattle.std.proofs.Common.{◌≡◌, ℕ, ℤ, pos, ◌+◌, ◌+ℤ◌, true, false, List, Option, Some, None, Ok, IsOk, refl, sym, subst}
use Rattle.bpf_words.specs.declared.instruction.Width.{Width}
use Rattle.bpf_words.specs.declared.instruction.Comparison.{Comparison}
use Rattle.bpf_words.specs.declared.instruction.Operand.{Operand}
use Rattle.bpf_words.specs.declared.instruction.Insn.{Insn}
use Rattle.bpf_words.specs.declared.instruction.Insn.TheVariants.{Branch, Exit}
use Rattle.bpf_words.specs.Flow.{jump_of, slots_of}
use Rattle.semantics.specs.State.{State}
use Rattle.semantics.specs.Step.{Returns}
use Rattle.loop_labels.specs.Rules.{Edges, Rules, Leads, JumpLeads}
use Rattle.abstract_state.specs.State.{Span, lengths_of, does}
use Rattle.abstract_state.specs.Steps.{MayStep}
use Rattle.tracked_state.specs.declared.state.TrackedState.{TrackedState}
use Rattle.tracked_state.specs.declared.branch.TrackedEdges.{TrackedEdges}
use Rattle.tracked_state.specs.Tracked.{ContainsTracked, IsTrackedIn, tracked_of}
use Rattle.tracked_state.specs.Tracking.{AnswersTrackedBranch}
use Rattle.tracked_state.specs.Rules.{exit}
use Rattle.loop_states.specs.Contained.{StepsInLoop, EdgeInLoop}
use Rattle.loop_states.specs.Rules.{stepped, branched}
use Rattle.loop_check.specs.declared.label.Label.{Label}
use Rattle.loop_check.specs.Labels.{labelled, labels_of}
use Rattle.loop_check.specs.Rules.{states_in, loop_rules}
use Rattle.loop_check.specs.Meanings.{meanings}
use Rattle.loop_check.specs.Leads.{with_potential, LeadsOn, LeadsIf, AnswersBehind, GoesBy, IsJump, IsPlain}
use Rattle.loop_check.proofs.Among.{same_some}
use Rattle.loop_check.proofs.Leading.{Led, led, leads_to, leads_back}
use Rattle.loop_check.proofs.Landing.{jump_granted, jump_back, jump_lands, plain_jump, plain_granted, plain_lands, branch_lands, exit_lands}

-- ---- a jump
goes_jump : (rules : Rules Label) (all : List (Option Label)) (slot : ℕ) (from : Label) (insn : Insn) (distance : ℤ)
    → jump_of insn ≡ Some distance
    → (leads : LeadsOn rules all from insn (pos (slot + 1) +ℤ distance) from.state)
    → rules.edges slot insn from
    (record { taken = Some (with_potential from.state leads.label.potential); untaken = None })
    → GoesBy rules all slot from insn
goes_jump rules all slot from insn distance jumps leads granted =
    let edge = with_potential from.state leads.label.potential in
    record {
      edges = record { taken = Some edge; untaken = None };
      granted = granted;
      taken = subst (λ (o : Option ℤ). JumpLeads rules (labels_of all) (labelled slot from) insn o (Some edge)) (sym jumps)
          (leads_to rules all slot from insn (pos (slot + 1) +ℤ distance) from.state leads);
      untaken = tt;
    }

pub jump_goes : (all : List (Option Label)) (slot : ℕ) (from : Label) (insn : Insn) (distance : ℤ) → IsJump insn
    → jump_of insn ≡ Some distance → LeadsOn loop_rules all from insn (pos (slot + 1) +ℤ distance) from.state
    → GoesBy loop_rules all slot from insn
jump_goes all slot from insn distance is jumps leads =
    goes_jump loop_rules all slot from insn distance jumps leads
    (jump_granted slot insn is from.state
    (record { taken = Some (with_potential from.state leads.label.potential); untaken = None })
    (record { taken = refl; untaken = refl }))

pub jump_goes_soundly : (all : List (Option Label)) (slot : ℕ) (from : Label) (insn : Insn) (distance : ℤ)
    → IsJump insn → jump_of insn ≡ Some distance
    → LeadsOn meanings all from insn (pos (slot + 1) +ℤ distance) from.state → GoesBy meanings all slot from insn
jump_goes_soundly all slot from insn distance is jumps leads =
    goes_jump meanings all slot from insn distance jumps leads
    (jump_lands insn is from (with_potential from.state leads.label.potential) refl)

back_from : (all : List (Option Label)) (slot : ℕ) (from : Label) (insn : Insn) (to : ℤ) (edge : Option Label)
    (a : TrackedState) → states_in edge ≡ Some a → Leads loop_rules (labels_of all) (labelled slot from) insn to edge
    → LeadsOn loop_rules all from insn to a
back_from all slot from insn to None a same leads = absurd (cc)
back_from all slot from insn to (Some known) a same leads =
    leads_back all slot from insn to known a (same_some known.state a same) leads

pub jump_leads : (all : List (Option Label)) (slot : ℕ) (from : Label) (insn : Insn) (distance : ℤ) → IsJump insn
    → jump_of insn ≡ Some distance → GoesBy loop_rules all slot from insn
    → LeadsOn loop_rules all from insn (pos (slot + 1) +ℤ distance) from.state
jump_leads all slot from insn distance is jumps goes =
    let granted = jump_back slot insn is from.state goes.edges goes.granted in
    back_from all slot from insn (pos (slot + 1) +ℤ distance) goes.edges.taken from.state granted.taken
    (subst (λ (o : Option ℤ). JumpLeads loop_rules (labels_of all) (labelled slot from) insn o goes.edges.taken) jumps
    goes.taken)

-- ---- an instruction with no edge but to the next one
goes_plain : (rules : Rules Label) (all : List (Option Label)) (slot : ℕ) (from : Label) (insn : Insn)
    (behind : Option TrackedState) → IsPlain insn → (on : Led rules all slot from insn (pos (slot + slots_of insn)) behind)
    → rules.edges slot insn from (record { taken = None; untaken = on.edge }) → GoesBy rules all slot from insn
goes_plain rules all slot from insn behind is on granted = record {
  edges = record { taken = None; untaken = on.edge };
  granted = granted;
  taken = subst (λ (o : Option ℤ). JumpLeads rules (labels_of all) (labelled slot from) insn o None)
      (sym (plain_jump insn is)) tt;
  untaken = on.leads;
}

pub plain_goes : (all : List (Option Label)) (slot : ℕ) (from : Label) (insn : Insn) (behind : Option TrackedState)
    → IsPlain insn → MayStep insn → AnswersBehind (stepped slot insn (tracked_of from.state)) (Ok behind)
    → LeadsIf loop_rules all from insn (pos (slot + slots_of insn)) behind → GoesBy loop_rules all slot from insn
plain_goes all slot from insn behind is spares (o, granted, there) leads =
    let on = led loop_rules all slot from insn (pos (slot + slots_of insn)) behind leads in
    goes_plain loop_rules all slot from insn behind is on
    (plain_granted slot insn is from.state (record { taken = None; untaken = on.edge })
    (record {
      spares = spares;
      behind = o;
      granted = granted;
      taken = refl;
      untaken = subst (λ (x : Option TrackedState). IsTrackedIn x o) (sym on.states) there;
    }))

pub plain_goes_soundly : (all : List (Option Label)) (slot : ℕ) (from : Label) (insn : Insn)
    (behind : Option TrackedState) → IsPlain insn → StepsInLoop from.state insn behind
    → LeadsIf meanings all from insn (pos (slot + slots_of insn)) behind → GoesBy meanings all slot from insn
plain_goes_soundly all slot from insn behind is steps leads =
    let on = led meanings all slot from insn (pos (slot + slots_of insn)) behind leads in
    goes_plain meanings all slot from insn behind is on (plain_lands insn is from on.edge behind on.states steps)

-- ---- a comparison
goes_branch : (rules : Rules Label) (all : List (Option Label)) (slot : ℕ) (from : Label) (width : Width)
    (comparison : Comparison) (left : ℕ) (right : Operand) (distance : ℤ) (known : TrackedEdges)
    → ((edges : Edges Label) → states_in edges.taken ≡ known.taken → states_in edges.untaken ≡ known.untaken
    → rules.edges slot (Branch width comparison left right distance) from edges)
    → LeadsIf rules all from (Branch width comparison left right distance) (pos (slot + 1) +ℤ distance) known.taken
    → LeadsIf rules all from (Branch width comparison left right distance) (pos (slot + 1)) known.untaken
    → GoesBy rules all slot from (Branch width comparison left right distance)
goes_branch rules all slot from width comparison left right distance known granted taken untaken =
    let insn : Insn = Branch width comparison left right distance in
    let one = led rules all slot from insn (pos (slot + 1) +ℤ distance) known.taken taken in
    let other = led rules all slot from insn (pos (slot + 1)) known.untaken untaken in
    record {
      edges = record { taken = one.edge; untaken = other.edge };
      granted = granted (record { taken = one.edge; untaken = other.edge }) one.states other.states;
      taken = one.leads;
      untaken = other.leads;
    }

-- the same of what is a comparison
at_branch : (rules : Rules Label) (all : List (Option Label)) (slot : ℕ) (from : Label) (insn branch : Insn)
    (distance : ℤ) (known : TrackedEdges) → insn ≡ branch
    → (LeadsIf rules all from branch (pos (slot + 1) +ℤ distance) known.taken
    → LeadsIf rules all from branch (pos (slot + slots_of branch)) known.untaken → GoesBy rules all slot from branch)
    → LeadsIf rules all from insn (pos (slot + 1) +ℤ distance) known.taken
    → LeadsIf rules all from insn (pos (slot + slots_of insn)) known.untaken → GoesBy rules all slot from insn
at_branch rules all slot from insn branch distance known is goes =
    subst (λ (i : Insn). LeadsIf rules all from i (pos (slot + 1) +ℤ distance) known.taken
    → LeadsIf rules all from i (pos (slot + slots_of i)) known.untaken → GoesBy rules all slot from i) (sym is) goes

pub branch_goes : (all : List (Option Label)) (slot : ℕ) (from : Label) (insn : Insn) (width : Width)
    (comparison : Comparison) (left : ℕ) (right : Operand) (distance : ℤ) (known : TrackedEdges)
    → insn ≡ Branch width comparison left right distance
    → AnswersTrackedBranch (branched width comparison left right (tracked_of from.state)) (Ok known)
    → LeadsIf loop_rules all from insn (pos (slot + 1) +ℤ distance) known.taken
    → LeadsIf loop_rules all from insn (pos (slot + slots_of insn)) known.untaken → GoesBy loop_rules all slot from insn
branch_goes all slot from insn width comparison left right distance known is (ways, granted, taken, untaken) =
    at_branch loop_rules all slot from insn (Branch width comparison left right distance) distance known is
    (goes_branch loop_rules all slot from width comparison left right distance known
    (λ edges one other. record {
      ways = ways;
      granted = granted;
      taken = subst (λ (x : Option TrackedState). IsTrackedIn x ways.taken) (sym one) taken;
      untaken = subst (λ (x : Option TrackedState). IsTrackedIn x ways.untaken) (sym other) untaken;
    }))

pub branch_goes_soundly : (all : List (Option Label)) (slot : ℕ) (from : Label) (insn : Insn) (width : Width)
    (comparison : Comparison) (left : ℕ) (right : Operand) (distance : ℤ) (known : TrackedEdges)
    → insn ≡ Branch width comparison left right distance
    → EdgeInLoop from.state width comparison left right true known.taken
    → EdgeInLoop from.state width comparison left right false known.untaken
    → LeadsIf meanings all from insn (pos (slot + 1) +ℤ distance) known.taken
    → LeadsIf meanings all from insn (pos (slot + slots_of insn)) known.untaken → GoesBy meanings all slot from insn
branch_goes_soundly all slot from insn width comparison left right distance known is taken untaken =
    at_branch meanings all slot from insn (Branch width comparison left right distance) distance known is
    (goes_branch meanings all slot from width comparison left right distance known
    (λ edges one other. branch_lands from width comparison left right distance edges known one other taken untaken))

-- ---- an exit
goes_exit : (rules : Rules Label) (all : List (Option Label)) (slot : ℕ) (from : Label)
    → rules.edges slot Exit from (record { taken = None; untaken = None }) → GoesBy rules all slot from Exit
goes_exit rules all slot from granted =
    record { edges = record { taken = None; untaken = None }; granted = granted; taken = tt; untaken = tt }

pub exit_goes : (all : List (Option Label)) (slot : ℕ) (from : Label) → IsOk (exit (tracked_of from.state))
    → GoesBy loop_rules all slot from Exit
exit_goes all slot from ok = goes_exit loop_rules all slot from (record { granted = ok; taken = refl; untaken = refl })

pub exit_granted : (all : List (Option Label)) (slot : ℕ) (from : Label) → GoesBy loop_rules all slot from Exit
    → IsOk (exit (tracked_of from.state))
exit_granted all slot from goes = goes.granted.granted

pub exit_goes_soundly : (all : List (Option Label)) (slot : ℕ) (from : Label)
    → ((span : Span) (s : State) → ContainsTracked from.state (lengths_of span) s
    → (v : ℕ) × (does span s Exit ≡ Ok (Returns v)))
    → GoesBy meanings all slot from Exit
exit_goes_soundly all slot from ends = goes_exit meanings all slot from (exit_lands from ends)
