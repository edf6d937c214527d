-- The least that may be known: whether r0 is set. Rules for that, and a program with labels by these rules.
use Rattle.std.specs.Prelude.{◌≡◌, ◌<ℤ◌, ◌≤ℤ◌, ℕ, zero, suc, pos, Bool, true, false, List, ◌∷◌, [], Option, Some, None}
use Rattle.span_context.specs.Context.{SpanBytes}
use Rattle.bpf_words.specs.declared.instruction.Insn.{Insn}
use Rattle.bpf_words.specs.declared.instruction.Insn.TheVariants.{Compute, Negate, Extend, Convert, Jump, JumpLong}
use Rattle.bpf_words.specs.declared.instruction.Insn.TheVariants.{Branch, Load, LoadSigned, Store, LoadWide, Exit}
use Rattle.semantics.specs.State.{State}
use Rattle.semantics.specs.Step.{Program}
use Rattle.loop_labels.specs.Potential.{potential_at, potential_of}
use Rattle.loop_labels.specs.Labels.{Label}
use Rattle.loop_labels.specs.Rules.{Edges, Rules}
use Rattle.loop_labels.specs.Samples.{HasFirst, at_most}

pub record HoldsFirst (registers : List (Option ℕ)) : Type 0 where
  pub number : ℕ
  pub rest : List (Option ℕ)
  pub set : registers ≡ Some number ∷ rest

abbrev pub is_first_set : Bool → SpanBytes → State → Type 0
is_first_set false bytes state = HasFirst state.registers
is_first_set true bytes state = HoldsFirst state.registers

abbrev pub edges_to : Option Bool → Option Bool → Option (Edges Bool)
edges_to taken untaken = Some (record { taken = taken; untaken = untaken })

-- a wide load sets r0, and an exit needs it; all but these and a jump is refused
abbrev pub first_edges : ℕ → Insn → Bool → Option (Edges Bool)
first_edges slot (Compute width operation destination operand) known = None
first_edges slot (Negate width destination) known = None
first_edges slot (Extend extension destination source) known = None
first_edges slot (Convert conversion bits destination) known = None
first_edges slot (Jump distance) known = edges_to (Some known) None
first_edges slot (JumpLong distance) known = None
first_edges slot (Branch width comparison left right distance) known = None
first_edges slot (Load size destination base offset) known = None
first_edges slot (LoadSigned size destination base offset) known = None
first_edges slot (Store size base offset operand) known = None
first_edges slot (LoadWide zero value) known = edges_to None (Some true)
first_edges slot (LoadWide (suc destination) value) known = None
first_edges slot Exit true = edges_to None None
first_edges slot Exit false = None

-- potentials are looked at whatever the state is
abbrev pub first_rules : Rules Bool
first_rules = record {
  contains = is_first_set;
  entry = λ known. known ≡ false;
  edges = λ slot insn known edges. first_edges slot insn known ≡ Some edges;
  widens = λ known wider. wider ≡ true → known ≡ true;
  is_positive = λ known p. (bytes : SpanBytes) (state : State) → pos 1 ≤ℤ potential_at bytes state p;
  falls = λ known insn behind p q. (bytes : SpanBytes) (state next : State)
      → potential_at bytes next q <ℤ potential_at bytes state p;
}

-- on to the next instruction, r0 = 1, and an exit
abbrev pub jumps_and_returns : Program
jumps_and_returns = Some (Jump (pos 0)) ∷ Some (LoadWide 0 1) ∷ None ∷ Some Exit ∷ []

abbrev pub first_label : ℕ → Bool → ℕ → Label Bool
first_label slot known steps = record { slot = slot; known = known; potential = potential_of (at_most steps) }

abbrev pub first_labels : List (Label Bool)
first_labels = first_label 0 false 3 ∷ first_label 1 false 2 ∷ first_label 3 true 1 ∷ []
