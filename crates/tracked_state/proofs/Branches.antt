-- The edges of a comparison, as the rules take them.
use Rattle.std.proofs.Common.{◌≡◌, ℕ, Option, Result, Ok, Err, refl, subst}
use Rattle.bpf_words.specs.declared.instruction.Operand.{Operand}
use Rattle.abstract_state.specs.declared.branch.Edges.{Edges}
use Rattle.abstract_state.specs.declared.refusal.Refusal.{Refusal}
use Rattle.abstract_state.specs.declared.state.AbsState.{AbsState}
use Rattle.abstract_state.specs.Addresses.{answer_of}
use Rattle.abstract_state.specs.Situation.{Situation, IsSituationIn}
use Rattle.abstract_state.specs.Edges.{Ways, AnswersBranch}
use Rattle.value_marks.specs.Marking.{Marking}
use Rattle.tracked_state.specs.declared.state.TrackedState.{TrackedState}
use Rattle.tracked_state.specs.Tracked.{IsTrackedIn}
use Rattle.tracked_state.specs.Rules.{TrackedWays, told_edge, told_ways}

same_edges : (r : Result Edges Refusal) (a b : Edges) → r ≡ Ok a → r ≡ Ok b → b ≡ a
same_edges r a b e f = cc

-- how an edge of the code is that of a situation
abbrev pub Tells : ℕ → Operand → Option Marking → Option AbsState → Option TrackedState → Type 0
Tells left right marking edge told = (was : Option Situation) → IsSituationIn edge was → IsTrackedIn told (told_edge left right marking was)

pub ways_told : (rule : Result Ways Refusal) (e : Edges) (left : ℕ) (right : Operand) (marking : Option Marking) (taken untaken : Option TrackedState) → AnswersBranch rule (Ok e) → Tells left right marking e.taken taken → Tells left right marking e.untaken untaken → (w : TrackedWays) × (answer_of (told_ways left right marking) rule ≡ Ok w) × IsTrackedIn taken w.taken × IsTrackedIn untaken w.untaken
ways_told (Ok w) e left right marking taken untaken (f, is, holds, fails) one other =
    let same = same_edges (Ok e) e f refl is in (
      told_ways left right marking w,
      refl,
      one w.taken (subst (λ (x : Edges). IsSituationIn x.taken w.taken) same holds),
      other w.untaken (subst (λ (x : Edges). IsSituationIn x.untaken w.untaken) same fails),
    )
ways_told (Err refusal) e left right marking taken untaken is one other = absurd (cc)
