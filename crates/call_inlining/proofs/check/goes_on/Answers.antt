use Rattle.std.proofs.Common.{◌≡◌, ℤ, Some, sym, ◌∙◌, ap, IsTrue, rules}
use Rattle.bpf_words.specs.declared.instruction.Insn.{Insn}
use Rattle.bpf_words.specs.Flow.{StartsAt}
use Rattle.inlined_calls.specs.Inlined.{aimed, GoesOn}
use Rattle.call_inlining.specs.Checked.{onward_of}
use Rattle.call_inlining.proofs.check.goes_on.Goals as goal
use Rattle.call_inlining.proofs.check.goes_on.Goals.{then-is_aimed, else-is_aimed}

pub returns-then-falls_on : goal.returns-then-falls_on
returns-then-falls_on c = λ is. elim c.if-is_aimed.branch [
  | then-is_aimed w ↦ record {
    onward = onward_of c.in-Some.there;
    starts = c.in-Some.ensures ∙ ap (λ (insn : Insn). Some (Some insn)) (c.is_aimed.ensures (search rules));
    falls = w.falls_on.ensures (search rules);
    jumps = c.jumps_on.ensures is;
  }
  | else-is_aimed w ↦ let never : ⊥ = cc in absurd never
]
