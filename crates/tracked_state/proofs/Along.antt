-- An edge of a comparison: the sides learn of one another, and then tell their copies.
use Rattle.std.proofs.Common.{◌≡◌, ◌≢◌, ◌≤◌, ℕ, Bool, true, false, Option, Some, None, Result, Ok, Err, option_map, refl, sym, ap, ◌∙◌, subst}
use Rattle.std.specs.Option.{IfSome, option_and_then}
use Rattle.bpf_words.specs.declared.instruction.Width.{Width}
use Rattle.bpf_words.specs.declared.instruction.Width.TheVariants.{Full}
use Rattle.bpf_words.specs.declared.instruction.Comparison.{Comparison}
use Rattle.bpf_words.specs.declared.instruction.Comparison.TheVariants.{Greater}
use Rattle.bpf_words.specs.declared.instruction.Operand.{Operand}
use Rattle.bpf_words.specs.declared.instruction.Operand.TheVariants.{Source}
use Rattle.semantics.specs.State.{State}
use Rattle.abstract_state.specs.declared.address.LentAddress.{LentAddress}
use Rattle.abstract_state.specs.declared.known.Known.TheVariants.{Lent}
use Rattle.abstract_state.specs.declared.refusal.Refusal.{Refusal}
use Rattle.abstract_state.specs.declared.state.AbsReg.TheVariants.{Set}
use Rattle.abstract_state.specs.declared.state.AbsState.{AbsState}
use Rattle.abstract_state.specs.declared.step.Flow.{Flow}
use Rattle.abstract_state.specs.declared.step.Flow.TheVariants.{Live, Dead}
use Rattle.abstract_state.specs.Branch.{Edge, LeavesSides}
use Rattle.abstract_state.specs.Guard.{LengthensMemory}
use Rattle.abstract_state.specs.Kinds.{HasNumberAt, HasNumberIn, KeepsAll}
use Rattle.abstract_state.specs.Lent.{Lengths, bound_of, tail_of}
use Rattle.abstract_state.specs.State.{Contains, WithinState, lengths_of, register_at}
use Rattle.abstract_state.specs.Steps.{after}
use Rattle.abstract_state.specs.Situation.{Situation, IsSituation, IsSituationIn, Flows, situation_of}
use Rattle.abstract_state.specs.Edges.{edge}
use Rattle.abstract_state.proofs.Edges.{shows_live}
use Rattle.value_marks.specs.declared.copies.Copies.{Copies}
use Rattle.value_marks.specs.Copies.{Bear, copies_tell, kept}
use Rattle.value_marks.specs.Marking.{marking_of}
use Rattle.tracked_state.specs.declared.state.TrackedState.{TrackedState}
use Rattle.tracked_state.specs.Along.{GoesAlong}
use Rattle.tracked_state.specs.Tracked.{WithinTracked, beside, marking_in, with_copies}
use Rattle.tracked_state.specs.Tracking.{TrackedEdge, after_tracked}
use Rattle.tracked_state.proofs.Pairs.{beside_within, beside_tracked}
use Rattle.tracked_state.proofs.Learned.{all_told, sides_learn, kinds_learn, bounds_learn}

copies_stay : (o : Option AbsState) (c : Copies) → IfSome (with_copies o c) (λ b. kept b.copies ≡ kept c)
copies_stay None c = tt
copies_stay (Some a) c = refl

untold : (edge o : Option AbsState) (c : Copies) (P : AbsState → Type 0) → o ≡ edge → IfSome edge P → IfSome (with_copies o c) (λ b. P b.state)
untold edge None c P same h = tt
untold edge (Some a) c P same h = subst (λ (x : Option AbsState). IfSome x P) (sym same) h

-- what is told is true of all that bear the marks
abbrev pub SoundlyTold : Copies → Option AbsState → Option AbsState → Type 0
SoundlyTold c edge o = (lengths : Lengths) (s : State) → Bear (kept c) s → WithinState edge lengths s → WithinState o lengths s

-- and is what the rules tell
abbrev pub ToldByRule : Copies → ℕ → Operand → Option AbsState → Option AbsState → Type 0
ToldByRule c left right edge o = (was : Option Situation) → IsSituationIn edge was → IsSituationIn o (option_and_then (copies_tell left right (option_map marking_of (kept c))) was)

-- an address that isn't past another's end
abbrev pub GuardedBy : AbsState → Width → Comparison → ℕ → Operand → Bool → Option AbsState → Type 0
GuardedBy a width comparison left right taken o =
    taken ≡ false → (r t : ℕ) (p q : LentAddress) → right ≡ Source r → left ≢ r → width ≡ Full → comparison ≡ Greater
    → register_at a.registers left ≡ Set (Lent p) → register_at a.registers r ≡ Set (Lent q) → p.region ≡ q.region
    → tail_of q.offset.tails p.region ≡ Some t → IfSome o (λ b. p.offset.range.low ≤ bound_of b.bounds p.region)

pub along : (a : AbsState) (c : Copies) (width : Width) (comparison : Comparison) (left : ℕ) (right : Operand) (taken : Bool) (way o : Option AbsState) (was : Option Situation) → Edge a width comparison left right taken way → IfSome way (λ b. LeavesSides left right a b) → IfSome way (λ b. LengthensMemory a b) → (HasNumberAt a left → HasNumberIn a right → IfSome way (λ b. KeepsAll a b)) → GuardedBy a width comparison left right taken way → SoundlyTold c way o → ToldByRule c left right way o → (kept c ≡ None → o ≡ way) → edge width comparison left right taken (situation_of a) ≡ Ok was → IsSituationIn way was → GoesAlong (beside a c) width comparison left right taken (with_copies o c)
along a c width comparison left right taken way o was holds others memory kinds guards sound tells untracked is shows =
    let told = all_told way o c left right (option_map marking_of (kept c)) tells in
    record {
      contains = λ span s held.
          let (m, (n, one, other, within)) = holds span s held.state in
          (m, (n, one, other, λ h. beside_within o c (lengths_of span) s held.copies (sound (lengths_of span) s held.copies (within h))));
      copies = copies_stay o c;
      learns = sides_learn left right a way (with_copies o c) others memory told;
      kinds = λ one other. kinds_learn a way (with_copies o c) (kinds one other) told;
      others = λ none. untold way o c (λ b. LeavesSides left right a b) (untracked none) others;
      memory = λ none. untold way o c (λ b. LengthensMemory a b) (untracked none) memory;
      guards = λ no r t p q side apart wide greater first second same tail.
          bounds_learn p.offset.range.low p.region way (with_copies o c) (guards no r t p q side apart wide greater first second same tail) told;
      rule = (was, is, beside_tracked o c (option_and_then (copies_tell left right (option_map marking_of (kept c))) was) (tells was shows));
    }

-- ---- an edge that no run takes
nothing_told : (tell : Situation → Option Situation) (was : Option Situation) → IsSituationIn None was → IsSituationIn None (option_and_then tell was)
nothing_told tell None is = refl
nothing_told tell (Some s) (a, there, is) = absurd (cc)

pub along_nothing : (a : AbsState) (c : Copies) (width : Width) (comparison : Comparison) (left : ℕ) (right : Operand) (taken : Bool) → Edge a width comparison left right taken None → edge width comparison left right taken (situation_of a) ≡ Ok None → GoesAlong (beside a c) width comparison left right taken None
along_nothing a c width comparison left right taken holds is =
    along a c width comparison left right taken None None None holds tt tt (λ one other. tt) (λ no r t p q side apart wide greater first second same tail. tt) (λ lengths s bears within. within)
    (nothing_told (copies_tell left right (option_map marking_of (kept c)))) (λ none. refl) is refl

-- ---- in place
told_within : (a b : AbsState) (next : Flow) (tell : Situation → Option Situation) → ((was : Situation) → IsSituation a was → Flows (tell was) next b) → (was : Option Situation) → IsSituationIn (Some a) was → IsSituationIn (after next b) (option_and_then tell was)
told_within a b next tell rule None is = absurd (cc)
told_within a b next tell rule (Some s) (x, there, is) =
    let same : x ≡ a = cc in
    shows_live (tell s) next b (after next b) (rule s (subst (λ (y : AbsState). IsSituation y s) same is)) refl

pub told_after : (flow : Flow) (a b : AbsState) (next : Flow) (tell : Situation → Option Situation) → flow ≡ Live → ((was : Situation) → IsSituation a was → Flows (tell was) next b) → (was : Option Situation) → IsSituationIn (after flow a) was → IsSituationIn (after next b) (option_and_then tell was)
told_after flow a b next tell live rule was is =
    told_within a b next tell rule was (subst (λ (f : Flow). IsSituationIn (after f a) was) live is)

pub told_soundly : (c : Copies) (flow : Flow) (a b : AbsState) (next : Flow) → flow ≡ Live → ((lengths : Lengths) (s : State) → Bear (kept c) s → Contains a lengths s → WithinState (after next b) lengths s) → SoundlyTold c (after flow a) (after next b)
told_soundly c flow a b next live sound lengths s bears within =
    let (x, there, held) = subst (λ (f : Flow). WithinState (after f a) lengths s) live within in
    let same : x ≡ a = cc in
    sound lengths s bears (subst (λ (y : AbsState). Contains y lengths s) same held)

live_dead : (flow : Flow) → flow ≡ Live → flow ≡ Dead → ⊥
live_dead flow e f = cc

pub none_left : (o : Option Situation) (flow : Flow) (a : AbsState) → Flows o flow a → flow ≡ Dead → o ≡ None
none_left None flow a flows dead = refl
none_left (Some s) flow a flows dead = absurd (live_dead flow flows.0 dead)

pub goes_on : (flow : Flow) (a : AbsState) (c : Copies) → after_tracked flow (beside a c) ≡ with_copies (after flow a) c
goes_on Live a c = refl
goes_on Dead a c = refl
