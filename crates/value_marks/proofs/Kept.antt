-- What the marks that are kept tell.
use Rattle.std.proofs.Common.{◌≡◌, ℕ, Option, Some, None, option_map, sym, ap, ◌∙◌, subst}
use Rattle.std.specs.Option.{option_and_then}
use Rattle.std.specs.declared.boxed.Box.{Box}
use Rattle.std.specs.declared.alloc.Global.{Global}
use Rattle.bpf_words.specs.declared.instruction.Operand.{Operand}
use Rattle.semantics.specs.State.{State}
use Rattle.abstract_state.specs.declared.state.AbsState.{AbsState}
use Rattle.abstract_state.specs.declared.step.Flow.{Flow}
use Rattle.abstract_state.specs.Steps.{after}
use Rattle.abstract_state.specs.Situation.{Situation, IsSituation, IsSituationIn, Flows}
use Rattle.abstract_state.proofs.Edges.{shows_live}
use Rattle.value_marks.specs.declared.marks.Marks.{Marks}
use Rattle.value_marks.specs.declared.copies.Copies.{Copies}
use Rattle.value_marks.specs.Marking.{marking_of}
use Rattle.value_marks.specs.Bearing.{Bears}
use Rattle.value_marks.specs.Telling.{sides_tell}
use Rattle.value_marks.specs.Copies.{in_box, kept, Bear, copies_tell}

pub bears_kept : (c : Copies) (box : Box Marks Global) (m : Marks) (s : State) → c.marks ≡ Some box → m ≡ box.value → Bear (kept c) s → Bears (marking_of m) s
bears_kept c box m s is same bears =
    let there : Bears (marking_of box.value) s = subst (λ (o : Option (Box Marks Global)). Bear (in_box o) s) is bears in
    subst (λ (x : Marks). Bears (marking_of x) s) (sym same) there

tells_kept : (c : Copies) (box : Box Marks Global) (m : Marks) (left : ℕ) (right : Operand) (was : Situation) → c.marks ≡ Some box → m ≡ box.value → copies_tell left right (option_map marking_of (kept c)) was ≡ sides_tell left right (marking_of m) was
tells_kept c box m left right was is same =
    ap (λ (o : Option (Box Marks Global)). copies_tell left right (option_map marking_of (in_box o)) was) is
    ∙ ap (λ (x : Marks). sides_tell left right (marking_of x) was) (sym same)

pub flows_kept : (c : Copies) (box : Box Marks Global) (m : Marks) (left : ℕ) (right : Operand) (was : Situation) (flow : Flow) (b : AbsState) → c.marks ≡ Some box → m ≡ box.value → Flows (sides_tell left right (marking_of m) was) flow b → Flows (copies_tell left right (option_map marking_of (kept c)) was) flow b
flows_kept c box m left right was flow b is same h = subst (λ (o : Option Situation). Flows o flow b) (sym (tells_kept c box m left right was is same)) h

none_some : (o : Option AbsState) (a : AbsState) → o ≡ None → o ≡ Some a → ⊥
none_some o a e f = cc

one_state : (o : Option AbsState) (a b : AbsState) → o ≡ Some a → o ≡ Some b → a ≡ b
one_state o a b e f = cc

pub edge_on : (edge : Option AbsState) (state : AbsState) (g : Situation → Option Situation) (flow : Flow) (new : AbsState) (l : Option AbsState) (was : Option Situation) → edge ≡ Some state → IsSituationIn edge was → ((w : Situation) → IsSituation state w → Flows (g w) flow new) → l ≡ after flow new → IsSituationIn l (option_and_then g was)
edge_on edge state g flow new l None there is on same = absurd (none_some edge state is there)
edge_on edge state g flow new l (Some w) there is on same =
    let one = one_state edge is.0 state is.1 there in
    shows_live (g w) flow new l (on w (subst (λ (a : AbsState). IsSituation a w) one is.2)) same
