-- Labels that are inductive by rules. The rules say what is known past an instruction, or refuse it; which of two says
-- no more than the other; and which potential falls.
use Rattle.std.specs.Prelude.{◌≡◌, ◌⊎◌, ℕ, ℤ, pos, ◌+◌, ◌-◌, ◌+ℤ◌, ◌<ℤ◌, ◌≤ℤ◌, List, slice_get, Option, Some, None}
use Rattle.std.specs.Prelude.{Ok, Err}
use Rattle.span_context.specs.Context.{SpanBytes}
use Rattle.span_context.specs.declared.profile.Profile.{Profile}
use Rattle.bpf_words.specs.declared.instruction.Insn.{Insn}
use Rattle.bpf_words.specs.Flow.{StartsAt, jump_of, slots_of}
use Rattle.semantics.specs.State.{State, start}
use Rattle.semantics.specs.Step.{Program, Moved, On, Returns, perform}
use Rattle.semantics.specs.Safe.{IsSpanIn}
use Rattle.loop_labels.specs.Potential.{Potential, Bound, potential_at, potential_of}
use Rattle.loop_labels.specs.Labels.{Label, Containing, IsAmong}

-- what is known on the two edges of an instruction, by its jump and to the next one; none where no run comes
pub record Edges (Known : Type 0) : Type 0 where
  pub taken : Option Known
  pub untaken : Option Known

pub record Rules (Known : Type 0) : Type 1 where
  pub contains : Containing Known
  -- what may be known at each start
  pub entry : Known → Type 0
  -- what may be known on the edges of an instruction at a slot; nothing where it is refused
  pub edges : ℕ → Insn → Known → Edges Known → Type 0
  -- the second says no more than the first
  pub widens : Known → Known → Type 0
  -- the potential is at least 1
  pub is_positive : Known → Potential → Type 0
  -- from what is known before an instruction to what is known behind it the second potential is less than the first
  pub falls : Known → Insn → Known → Potential → Potential → Type 0

-- ---- when they are right
abbrev pub ContainsIn : {Known : Type 0} → Containing Known → Option Known → SpanBytes → State → Type 0
ContainsIn contains None bytes state = ⊥
ContainsIn contains (Some known) bytes state = contains known bytes state

-- no fault; the next state is contained in the edge of its distance
abbrev pub Lands : {Known : Type 0} → Containing Known → SpanBytes → Insn → Edges Known → Moved → Type 0
Lands contains bytes insn edges (Ok (On next distance)) =
    ((jump_of insn ≡ Some distance) × ContainsIn contains edges.taken bytes next)
    ⊎ ((distance ≡ pos (slots_of insn - 1)) × ContainsIn contains edges.untaken bytes next)
Lands contains bytes insn edges (Ok (Returns value)) = Unit {0}
Lands contains bytes insn edges (Err kind) = ⊥

pub record AreSound (profile : Profile) {Known : Type 0} (rules : Rules Known) : Type 0 where
  pub entry : (known : Known) → rules.entry known → (bytes : SpanBytes) → IsSpanIn profile bytes
      → rules.contains known bytes start
  -- what is known doesn't speak of the slot
  pub anywhere : (known : Known) (bytes : SpanBytes) (state : State) (slot : ℕ) → rules.contains known bytes state
      → rules.contains known bytes (record state { slot = slot })
  pub edges : (slot : ℕ) (insn : Insn) (known : Known) (edges : Edges Known)
      → rules.edges slot insn known edges → (bytes : SpanBytes) (state : State) → IsSpanIn profile bytes
      → rules.contains known bytes state → Lands rules.contains bytes insn edges (perform bytes state insn)
  pub widens : (known wider : Known) → rules.widens known wider → (bytes : SpanBytes) (state : State)
      → rules.contains known bytes state → rules.contains wider bytes state
  pub is_positive : (known : Known) (p : Potential) → rules.is_positive known p → (bytes : SpanBytes) (state : State)
      → IsSpanIn profile bytes → rules.contains known bytes state → pos 1 ≤ℤ potential_at bytes state p
  pub falls : (known : Known) (insn : Insn) (behind : Known) (p q : Potential) → rules.falls known insn behind p q
      → (bytes : SpanBytes) (state next : State) (distance : ℤ) → IsSpanIn profile bytes
      → rules.contains known bytes state → perform bytes state insn ≡ Ok (On next distance)
      → rules.contains behind bytes next → potential_at bytes next q <ℤ potential_at bytes state p

-- ---- labels by the rules
-- from a label an edge leads to a label at a slot, which says no more than is known, and whose potential is less
pub record LeadsTo {Known : Type 0} (rules : Rules Known) (labels : List (Label Known)) (from : Label Known)
    (insn : Insn) (slot : ℤ) (known : Known) : Type 0 where
  pub label : Label Known
  pub among : IsAmong labels label
  pub there : pos label.slot ≡ slot
  pub widens : rules.widens known label.known
  pub falls : rules.falls from.known insn known from.potential label.potential

-- where no run comes an edge needs no label
abbrev pub Leads : {Known : Type 0} → Rules Known → List (Label Known) → Label Known → Insn → ℤ → Option Known → Type 0
Leads rules labels from insn slot None = Unit {0}
Leads rules labels from insn slot (Some known) = LeadsTo rules labels from insn slot known

-- the edge of its jump, if it has one
abbrev pub JumpLeads : {Known : Type 0} → Rules Known → List (Label Known) → Label Known → Insn → Option ℤ
    → Option Known → Type 0
JumpLeads rules labels from insn None known = Unit {0}
JumpLeads rules labels from insn (Some distance) known =
    Leads rules labels from insn (pos (from.slot + 1) +ℤ distance) known

-- at the label's slot stands an instruction that isn't refused, and each of its edges leads to a label
pub record IsKeptBy {Known : Type 0} (rules : Rules Known) (program : Program) (labels : List (Label Known))
    (label : Label Known) : Type 0 where
  pub insn : Insn
  pub starts : StartsAt program label.slot insn
  pub edges : Edges Known
  pub granted : rules.edges label.slot insn label.known edges
  pub taken : JumpLeads rules labels label insn (jump_of insn) edges.taken
  pub untaken : Leads rules labels label insn (pos (label.slot + slots_of insn)) edges.untaken
  pub positive : rules.is_positive label.known label.potential

-- the first label stands at the first slot, says no more than is known at each start, and its potential is the bound
pub record BeginsBy {Known : Type 0} (rules : Rules Known) (labels : List (Label Known)) (bound : Bound) : Type 0 where
  pub first : Label Known
  pub found : slice_get labels 0 ≡ Some first
  pub at_start : first.slot ≡ 0
  pub whole : first.potential ≡ potential_of bound
  pub entry : Known
  pub starts : rules.entry entry
  pub widens : rules.widens entry first.known

pub record AreInductiveBy {Known : Type 0} (rules : Rules Known) (program : Program) (labels : List (Label Known))
    (bound : Bound) : Type 0 where
  pub begins : BeginsBy rules labels bound
  pub kept : (label : Label Known) → IsAmong labels label → IsKeptBy rules program labels label
