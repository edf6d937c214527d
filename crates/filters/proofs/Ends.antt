-- Why every run of a filter ends with a number, and what it is.
use Rattle.std.proofs.Common.{◌≡◌, ℕ, ℤ, IfOk, Result, Ok, Err, ◌+◌, ◌*◌, ◌<◌, ◌≤◌, ◌^◌, length, Some, negsuc, pos, refl, sym, ap, ◌∙◌, subst, arith}
use Rattle.std.proofs.lemmas.Option.{slice_get_within}
use Rattle.span_context.specs.Context.{SpanBytes}
use Rattle.span_context.specs.declared.profile.Profile.{Profile}
use Rattle.span_context.specs.declared.profile.Profile.TheVariants.{Two, Three}
use Rattle.bpf_words.specs.declared.instruction.Insn.{Insn}
use Rattle.bpf_words.specs.Flow.{StartsAt, jump_of}
use Rattle.semantics.specs.declared.Outcome.TheVariants.{Done, OutOfSteps}
use Rattle.semantics.specs.State.{start}
use Rattle.semantics.specs.Step.{Program}
use Rattle.semantics.specs.Outcomes.{outcome_from}
use Rattle.semantics.specs.Safe.{IsSpan, IsSpanIn, Safe, SafeIn, Verdict}
use Rattle.semantics.proofs.More.{third_span, seen_safe}
use Rattle.block_layout.specs.Meaning.{IsForward, IsOn}
use Rattle.block_layout.specs.Structure.{FirstBack}
use Rattle.loop_labels.specs.Bounded.{EndsWithin, NeverEnds}
use Rattle.loop_labels.specs.Potential.{Bound, most_steps, steps_within}
use Rattle.loop_labels.proofs.Endless.{ends_later}
use Rattle.loop_labels.proofs.Sums.{at_most_most}
use Rattle.interpreter.specs.Within.{EndsIn}
use Rattle.program_reads.specs.declared.reads.Reads.{Reads}
use Rattle.program_reads.specs.Reads.{AgreesOn, Determines}
use Rattle.verifier.specs.declared.refusal.StructureFault.TheVariants.{BackwardJump}
use Rattle.verifier.specs.Structure.{IsStructured}
use Rattle.filters.specs.declared.rules.RuleSet.TheVariants.{Straight, Looping}
use Rattle.filters.specs.Accepted.{IsAccepted}
use Rattle.filters.specs.Filters.{constant_bound, longest_run, whole_outcome, IsFilter, IsBoundOf, DeterminesRuns}

few_steps : (n : ℕ) → n ≤ 4096 → n ≤ longest_run
unfolding longest_run
few_steps n few = omega (arith, few)

pub longest_is : longest_run ≡ 2 ^ 23
unfolding longest_run
longest_is = refl

-- ---- programs without a jump back
pub verdict_within : (program : Program) (bytes : SpanBytes) (value : ℕ) → length program ≤ 4096
    → Verdict program bytes value → whole_outcome program bytes ≡ Done value
verdict_within program bytes value few ended =
    ends_later program bytes (length program) longest_run value ended (few_steps (length program) few)

pub straight_filter : (program : Program) → length program ≤ 4096 → Safe program → IsFilter program
straight_filter program few safe = record {
  ends = λ bytes span. let run = safe bytes span in (run.0, verdict_within program bytes run.0 few run.1);
  straight = λ forward. safe;
}

pub straight_bound : (program : Program) (n : ℕ) → n ≡ length program → length program ≤ 4096 → Safe program
    → IsBoundOf program (constant_bound n)
unfolding longest_run
straight_bound program n same few safe = record {
  ends = λ bytes span.
      let run = safe bytes span in
      let enough : length program ≤ steps_within (constant_bound n) bytes = omega (arith, same) in
      (run.0, ends_later program bytes (length program) (steps_within (constant_bound n) bytes) run.0 run.1 enough);
  limit = omega (arith, same, few);
}

pub straight_reads : (program : Program) (reads : Reads) → length program ≤ 4096 → Safe program
    → Determines reads Two program → DeterminesRuns reads program
straight_reads program reads few safe determines = λ a b span other agrees.
    let one = safe a span in
    let two = safe b other in
    let same : Done one.0 ≡ Done two.0 = sym one.1 ∙ determines a b span other agrees ∙ two.1 in
    verdict_within program a one.0 few one.1 ∙ same ∙ sym (verdict_within program b two.0 few two.1)

-- ---- programs with a jump back
pub looping_bound : (program : Program) (bound : Bound) → EndsWithin Three program bound
    → most_steps bound ≤ longest_run → IsBoundOf program bound
looping_bound program bound ends few = record {
  ends = λ bytes span. ends bytes (third_span bytes span);
  limit = few;
}

pub bounded_ends : (program : Program) (bound : Bound) → IsBoundOf program bound → EndsIn longest_run program
bounded_ends program bound is = λ bytes span.
    let run = is.ends bytes span in
    let most : steps_within bound bytes ≤ most_steps bound = at_most_most Two bound bytes span in
    let enough : steps_within bound bytes ≤ longest_run = omega (arith, most, is.limit) in
    (run.0, ends_later program bytes (steps_within bound bytes) longest_run run.0 run.1 enough)

pub looping_filter : (program : Program) (bound : Bound) → ¬ IsForward program → IsBoundOf program bound
    → IsFilter program
looping_filter program bound back is = record {
  ends = bounded_ends program bound is;
  straight = λ forward. absurd (back forward);
}

-- ---- jumps back
on_or_back : (program : Program) (slot : ℕ) (insn : Insn) (distance : ℤ)
    → IsStructured program → slot < length program → StartsAt program slot insn → jump_of insn ≡ Some distance
    → IsOn distance
on_or_back program slot insn (pos n) sound within starts jumps = (n, refl)
on_or_back program slot insn (negsuc n) sound within starts jumps =
    absurd (sound slot insn within starts BackwardJump (negsuc n, jumps, (n, refl)))

pub structured_forward : (program : Program) → IsStructured program → IsForward program
structured_forward program sound = record {
  jumps = λ slot insn distance starts jumps.
      on_or_back program slot insn distance sound (slice_get_within program slot (Some insn) starts) starts jumps;
}

not_both : (distance : ℤ) (n m : ℕ) → distance ≡ negsuc n → distance ≡ pos m → ⊥
not_both distance n m one two =
    let clash : negsuc n ≡ pos m = sym one ∙ two in cc

pub back_not_forward : (program : Program) (slot : ℕ) → FirstBack program slot → ¬ IsForward program
back_not_forward program slot back = λ forward.
    let on = forward.jumps slot back.insn (negsuc back.back.0) back.starts back.back.1 in
    not_both (negsuc back.back.0) back.back.0 on.0 refl on.1

-- ---- programs that never end
pub endless_no_filter : (program : Program) (bytes : SpanBytes) → IsSpan bytes → NeverEnds program bytes
    → IsFilter program → ⊥
endless_no_filter program bytes span never filter =
    let run = filter.ends bytes span in
    let clash : OutOfSteps ≡ Done run.0 = sym (never longest_run) ∙ run.1 in cc

-- ---- what is accepted without a jump back
pub accepted_straight : (program : Program) → length program ≤ 4096 → IsAccepted (Straight Three) program
    → IsAccepted Looping program
accepted_straight program few (structured, safe, allowed) = (
  λ forward. (structured, safe, allowed),
  λ loops. absurd (loops (structured_forward program structured)),
  (
    constant_bound (length program),
    straight_bound program (length program) refl few (seen_safe Three program safe),
    λ loops. absurd (loops (structured_forward program structured)),
  ),
)

pub whenever : {T E : Type 0} (r : Result T E) (P Q : T → Type 0) → ((t : T) → P t → Q t) → IfOk r P → IfOk r Q
whenever (Ok t) P Q next is = next t is
whenever (Err e) P Q next is = tt
