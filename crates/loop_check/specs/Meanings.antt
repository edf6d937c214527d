-- What the rules are to mean for the machine, as rules themselves: by these, labels are inductive that are so for runs.
use Rattle.std.specs.Prelude.{◌≡◌, ℤ, pos, ◌<ℤ◌, ◌≤ℤ◌, Ok}
use Rattle.span_context.specs.Context.{SpanBytes}
use Rattle.span_context.specs.declared.profile.Profile.TheVariants.{Three}
use Rattle.bpf_words.specs.declared.instruction.Insn.{Insn}
use Rattle.semantics.specs.State.{State, start}
use Rattle.semantics.specs.Step.{On, perform}
use Rattle.semantics.specs.Safe.{IsSpanIn}
use Rattle.loop_labels.specs.Potential.{Potential, potential_at}
use Rattle.loop_labels.specs.Rules.{Edges, Rules, Lands}
use Rattle.loop_check.specs.declared.label.Label.{Label}
use Rattle.loop_check.specs.Rules.{contains}

abbrev pub ContainsStart : Label → Type 0
ContainsStart label = (bytes : SpanBytes) → IsSpanIn Three bytes → contains label bytes start

abbrev pub LandsOn : Insn → Label → Edges Label → Type 0
LandsOn insn label edges =
    (bytes : SpanBytes) (s : State) → IsSpanIn Three bytes → contains label bytes s
    → Lands contains bytes insn edges (perform bytes s insn)

abbrev pub ContainsLess : Label → Label → Type 0
ContainsLess behind label = (bytes : SpanBytes) (s : State) → contains behind bytes s → contains label bytes s

abbrev pub StepsAreLeft : Label → Potential → Type 0
StepsAreLeft label p =
    (bytes : SpanBytes) (s : State) → IsSpanIn Three bytes → contains label bytes s → pos 1 ≤ℤ potential_at bytes s p

abbrev pub FewerAreLeft : Label → Insn → Label → Potential → Potential → Type 0
FewerAreLeft label insn behind p q =
    (bytes : SpanBytes) (s next : State) (distance : ℤ) → IsSpanIn Three bytes → contains label bytes s
    → perform bytes s insn ≡ Ok (On next distance) → contains behind bytes next
    → potential_at bytes next q <ℤ potential_at bytes s p

abbrev pub meanings : Rules Label
meanings = record {
  contains = contains;
  entry = ContainsStart;
  edges = λ at insn label edges. LandsOn insn label edges;
  widens = ContainsLess;
  is_positive = StepsAreLeft;
  falls = FewerAreLeft;
}
