-- Labels that are inductive by sound rules are inductive.
use Rattle.std.proofs.Common.{◌≡◌, ℕ, ℤ, pos, ◌+◌, ◌-◌, ◌<◌, ◌≤◌, ◌+ℤ◌, if◌then◌else◌, List, length, Option, Some, None, Ok, Err, refl, sym, ◌∙◌, ap, subst, arith, inl, inr}
use Rattle.std.specs.Prelude.{slice_get}
use Rattle.std.proofs.lemmas.Bool.{lt-ltb}
use Rattle.std.proofs.lemmas.Option.{slice_get_within}
use Rattle.span_context.specs.Context.{SpanBytes}
use Rattle.span_context.specs.declared.profile.Profile.{Profile}
use Rattle.bpf_words.specs.declared.instruction.Insn.{Insn}
use Rattle.bpf_words.specs.declared.instruction.Insn.TheVariants.{Compute, Negate, Extend, Convert, Jump, JumpLong, Branch, Load, LoadSigned, Store, LoadWide, Exit}
use Rattle.bpf_words.specs.Flow.{slots_of}
use Rattle.semantics.specs.declared.FaultKind.TheVariants.{OutOfCode}
use Rattle.semantics.specs.State.{State, start}
use Rattle.semantics.specs.Step.{Program, Moved, On, Returns, Next, then_with, perform, go_to, land, step_at}
use Rattle.semantics.specs.Safe.{IsSpanIn}
use Rattle.loop_labels.specs.Potential.{Bound, potential_at}
use Rattle.loop_labels.specs.Labels.{Label, IsAmong, Holds, HoldsLess, GoesOn, IsKept, AreInductive}
use Rattle.loop_labels.specs.Rules.{Rules, ContainsIn, Lands, AreSound, LeadsTo, Leads, JumpLeads, IsKeptBy, AreInductiveBy}
use Rattle.loop_labels.proofs.Slots.{same_slot, potential_moved}

some_slots : (insn : Insn) → 1 ≤ slots_of insn
some_slots (Compute width operation destination operand) = omega arith
some_slots (Negate width destination) = omega arith
some_slots (Extend extension destination source) = omega arith
some_slots (Convert conversion bits destination) = omega arith
some_slots (Jump distance) = omega arith
some_slots (JumpLong distance) = omega arith
some_slots (Branch width comparison left right distance) = omega arith
some_slots (Load size destination base offset) = omega arith
some_slots (LoadSigned size destination base offset) = omega arith
some_slots (Store size base offset operand) = omega arith
some_slots (LoadWide destination value) = omega arith
some_slots Exit = omega arith

-- an edge to a label leads to where the label holds, with a lesser potential
arrives : {Known : Type 0} (profile : Profile) (rules : Rules Known) → AreSound profile rules
    → (program : Program) (labels : List (Label Known))
    → ((label : Label Known) → IsAmong labels label → IsKeptBy rules program labels label)
    → (from : Label Known) (insn : Insn) (bytes : SpanBytes) → IsSpanIn profile bytes
    → (state next : State) (distance : ℤ) (known : Known) → rules.contains from.known bytes state
    → perform bytes state insn ≡ Ok (On next distance) → rules.contains known bytes next
    → (to : ℤ) → LeadsTo rules labels from insn to known
    → GoesOn rules.contains labels bytes (potential_at bytes state from.potential) (go_to program next to)
arrives profile rules sound program labels kept from insn bytes span state next distance known before moves behind to leads =
    let label = leads.label in
    let left = potential_at bytes state from.potential in
    let by = kept label leads.among in
    let inside : label.slot < length program = slice_get_within program label.slot (Some by.insn) by.starts in
    let lower = sound.falls from.known insn known from.potential label.potential leads.falls bytes state next distance span before moves behind in
    let holds : HoldsLess rules.contains labels bytes left (record next { slot = label.slot })
    = record {
      label = label;
      among = leads.among;
      holds = record {
        here = refl;
        contained = sound.anywhere label.known bytes next label.slot (sound.widens known label.known leads.widens bytes next behind);
      };
      less = rw (potential_moved bytes next label.slot label.potential) lower;
    } in
    let landed : GoesOn rules.contains labels bytes left (go_to program next (pos label.slot))
    = subst (λ b. GoesOn rules.contains labels bytes left (if b then Ok (Next (record next { slot = label.slot })) else Err OutOfCode))
    (sym (lt-ltb label.slot (length program) inside)) holds in
    subst (λ z. GoesOn rules.contains labels bytes left (go_to program next z)) leads.there landed

arrives_in : {Known : Type 0} (profile : Profile) (rules : Rules Known) → AreSound profile rules
    → (program : Program) (labels : List (Label Known))
    → ((label : Label Known) → IsAmong labels label → IsKeptBy rules program labels label)
    → (from : Label Known) (insn : Insn) (bytes : SpanBytes) → IsSpanIn profile bytes
    → (state next : State) (distance : ℤ) (known : Option Known) → rules.contains from.known bytes state
    → perform bytes state insn ≡ Ok (On next distance) → ContainsIn rules.contains known bytes next
    → (to : ℤ) → Leads rules labels from insn to known
    → GoesOn rules.contains labels bytes (potential_at bytes state from.potential) (go_to program next to)
arrives_in profile rules sound program labels kept from insn bytes span state next distance None before moves behind to leads = absurd behind
arrives_in profile rules sound program labels kept from insn bytes span state next distance (Some known) before moves behind to leads =
    arrives profile rules sound program labels kept from insn bytes span state next distance known before moves behind to leads

-- where an instruction falls through, the next one is as many slots on as it takes
fallen : (here slot count : ℕ) (distance : ℤ) → here ≡ slot → distance ≡ pos (count - 1) → 1 ≤ count
    → pos (slot + count) ≡ pos (here + 1) +ℤ distance
fallen here slot count distance same falls some =
    ap pos (omega arith) ∙ ap (λ z. pos (here + 1) +ℤ z) (sym falls)

goes : {Known : Type 0} (profile : Profile) (rules : Rules Known) → AreSound profile rules
    → (program : Program) (labels : List (Label Known))
    → ((label : Label Known) → IsAmong labels label → IsKeptBy rules program labels label)
    → (from : Label Known) (by : IsKeptBy rules program labels from) (bytes : SpanBytes) → IsSpanIn profile bytes
    → (state : State) → Holds rules.contains from bytes state
    → (moved : Moved) → perform bytes state by.insn ≡ moved → Lands rules.contains bytes by.insn by.edges moved
    → GoesOn rules.contains labels bytes (potential_at bytes state from.potential) (then_with moved (land program))
goes profile rules sound program labels kept from by bytes span state holds (Ok (On next distance)) moves (inl (jumps, behind)) =
    let here : next.slot ≡ from.slot = same_slot bytes state by.insn next distance moves ∙ holds.here in
    let leads : Leads rules labels from by.insn (pos (from.slot + 1) +ℤ distance) by.edges.taken
    = subst (λ o. JumpLeads rules labels from by.insn o by.edges.taken) jumps by.taken in
    arrives_in profile rules sound program labels kept from by.insn bytes span state next distance by.edges.taken holds.contained
    moves behind (pos (next.slot + 1) +ℤ distance)
    (subst (λ n. Leads rules labels from by.insn (pos (n + 1) +ℤ distance) by.edges.taken) (sym here) leads)
goes profile rules sound program labels kept from by bytes span state holds (Ok (On next distance)) moves (inr (falls, behind)) =
    let here : next.slot ≡ from.slot = same_slot bytes state by.insn next distance moves ∙ holds.here in
    arrives_in profile rules sound program labels kept from by.insn bytes span state next distance by.edges.untaken holds.contained
    moves behind (pos (next.slot + 1) +ℤ distance)
    (subst (λ z. Leads rules labels from by.insn z by.edges.untaken)
    (fallen next.slot from.slot (slots_of by.insn) distance here falls (some_slots by.insn)) by.untaken)
goes profile rules sound program labels kept from by bytes span state holds (Ok (Returns value)) moves lands = tt
goes profile rules sound program labels kept from by bytes span state holds (Err kind) moves lands = absurd lands

kept_by : {Known : Type 0} (profile : Profile) (rules : Rules Known) → AreSound profile rules
    → (program : Program) (labels : List (Label Known))
    → ((label : Label Known) → IsAmong labels label → IsKeptBy rules program labels label)
    → (label : Label Known) → IsAmong labels label → IsKept rules.contains profile program labels label
kept_by profile rules sound program labels kept label among =
    let by = kept label among in
    record {
      positive = λ bytes state span holds. sound.is_positive label.known label.potential by.positive bytes state span holds.contained;
      goes_on = λ bytes state span holds.
          let stands : slice_get program state.slot ≡ Some (Some by.insn) = ap (slice_get program) holds.here ∙ by.starts in
          let lands = sound.edges label.slot by.insn label.known by.edges by.granted bytes state span holds.contained in
          subst (λ entry. GoesOn rules.contains labels bytes (potential_at bytes state label.potential) (step_at program bytes state entry))
          (sym stands)
          (goes profile rules sound program labels kept label by bytes span state holds (perform bytes state by.insn) refl lands);
    }

pub inductive_by : {Known : Type 0} (profile : Profile) (rules : Rules Known) → AreSound profile rules
    → (program : Program) (labels : List (Label Known)) (bound : Bound)
    → AreInductiveBy rules program labels bound → AreInductive rules.contains profile program labels bound
inductive_by profile rules sound program labels bound by = record {
  begins = record {
    first = by.begins.first;
    found = by.begins.found;
    whole = by.begins.whole;
    holds = λ bytes span. record {
      here = sym by.begins.at_start;
      contained = sound.widens by.begins.entry by.begins.first.known by.begins.widens bytes start
          (sound.entry by.begins.entry by.begins.starts bytes span);
    };
  };
  kept = kept_by profile rules sound program labels by.kept;
}
