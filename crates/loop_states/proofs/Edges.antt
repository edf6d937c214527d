-- Edges of a comparison where one side is ahead of the other.
use Rattle.std.proofs.Common.{◌≡◌, ℕ, Bool, true, false, Option, None, Result, Ok, sym, ◌∙◌, ap, subst}
use Rattle.bpf_words.specs.declared.instruction.Width.{Width}
use Rattle.bpf_words.specs.declared.instruction.Comparison.{Comparison}
use Rattle.bpf_words.specs.declared.instruction.Operand.{Operand}
use Rattle.abstract_state.specs.declared.refusal.Refusal.{Refusal}
use Rattle.semantics.specs.Value.{cut}
use Rattle.abstract_state.specs.Addresses.{answer_of}
use Rattle.abstract_state.specs.State.{lengths_of}
use Rattle.tracked_state.specs.declared.state.TrackedState.{TrackedState}
use Rattle.tracked_state.specs.Tracked.{TrackedSituation, tracked_of}
use Rattle.tracked_state.specs.Rules.{TrackedWays}
use Rattle.tracked_state.specs.Rules as plain
use Rattle.loop_states.specs.declared.sharper.Sharper.{Sharper}
use Rattle.loop_states.specs.declared.sharper.Sharper.TheVariants.{Never, Where}
use Rattle.loop_states.specs.Contained.{EdgeInLoop}
use Rattle.loop_states.specs.Rules.{edge_along, ways_from, ways_across, sharper_ways, branched}
use Rattle.loop_states.specs.Sharper.{sharper_in}
use Rattle.loop_states.specs.Across.{edge_across}
use Rattle.loop_states.proofs.Sharpening.{Told, told}

pub no_run : (a : TrackedState) (width : Width) (c : Comparison) (left : ℕ) (right : Operand) (taken : Bool) (edge : Option TrackedState) (sharper : Sharper) → sharper ≡ Never → sharper ≡ sharper_in width c left right taken (tracked_of a) → EdgeInLoop a width c left right taken edge → EdgeInLoop a width c left right taken None
no_run a width c left right taken edge sharper is same goes = λ span s held.
    let (m, (n, one, other, within)) = goes span s held in
    (m, (n, one, other, λ h. absurd (subst (λ (x : Sharper). Told x width (cut width m) (cut width n)) (sym same ∙ is) (told a width c left right taken (lengths_of span) s m n held one other h))))

pub run_where : (a : TrackedState) (width : Width) (c other : Comparison) (left : ℕ) (right : Operand) (taken : Bool) (edge : Option TrackedState) (sharper : Sharper) → sharper ≡ Where other → sharper ≡ sharper_in width c left right taken (tracked_of a) → EdgeInLoop a width other left right true edge → EdgeInLoop a width c left right taken edge
run_where a width c other left right taken edge sharper is same goes = λ span s held.
    let (m, (n, one, two, within)) = goes span s held in
    (m, (n, one, two, λ h. within (subst (λ (x : Sharper). Told x width (cut width m) (cut width n)) (sym same ∙ is) (told a width c left right taken (lengths_of span) s m n held one two h))))

pub both_are : (width : Width) (c : Comparison) (left : ℕ) (right : Operand) (t : TrackedSituation) (w : TrackedWays) (taken untaken : Option TrackedSituation) (first second : Sharper) → plain.branched width c left right t ≡ Ok w → first ≡ sharper_in width c left right true t → second ≡ sharper_in width c left right false t → edge_along width left right t first w.taken ≡ Ok taken → edge_along width left right t second w.untaken ≡ Ok untaken → branched width c left right t ≡ Ok (record { taken = edge_across left right t.marking taken; untaken = edge_across left right t.marking untaken })
both_are width c left right t w taken untaken first second is one two goes other =
    ap (λ (r : Result TrackedWays Refusal). answer_of (ways_across left right t.marking) (sharper_ways width c left right t r)) is
    ∙ ap (λ (r : Result (Option TrackedSituation) Refusal). answer_of (ways_across left right t.marking) (ways_from r (edge_along width left right t (sharper_in width c left right false t) w.untaken))) (ap (λ (x : Sharper). edge_along width left right t x w.taken) (sym one) ∙ goes)
    ∙ ap (λ (r : Result (Option TrackedSituation) Refusal). answer_of (ways_across left right t.marking) (ways_from (Ok taken) r)) (ap (λ (x : Sharper). edge_along width left right t x w.untaken) (sym two) ∙ other)
