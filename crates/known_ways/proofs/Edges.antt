-- What the code finds behind an instruction is what the rules lead on.
use Rattle.std.proofs.Common.{◌≡◌, ℕ, ◌+◌, ◌<◌, nat_eq, if◌then◌else◌, Bool, true, false, List, [], ◌++◌, Option, Some, None, Result, Ok, Err, refl, sym, ap, ◌∙◌, subst}
use Rattle.std.specs.Prelude.{option_map}
use Rattle.std.specs.Bool.{⊤}
use Rattle.std.proofs.lemmas.List.{append_assoc, append-nil}
use Rattle.std.specs.List.{slice_get}
use Rattle.span_context.specs.declared.profile.Profile.{Profile}
use Rattle.semantics.specs.Step.{Program}
use Rattle.bpf_words.specs.declared.instruction.Insn.{Insn}
use Rattle.bpf_words.specs.Flow.{StartsAt, jump_of, slots_of}
use Rattle.abstract_state.specs.declared.refusal.Refusal.{Refusal}
use Rattle.abstract_state.specs.declared.state.AbsState.{AbsState}
use Rattle.abstract_state.specs.declared.step.Flow.{Flow}
use Rattle.abstract_state.specs.declared.step.Flow.TheVariants.{Live, Dead}
use Rattle.abstract_state.specs.Addresses.{answer_of}
use Rattle.abstract_state.specs.Situation.{Situation, AnswersStep, Flows, situation_of}
use Rattle.value_marks.specs.Marking.{Marking}
use Rattle.tracked_state.specs.declared.branch.TrackedEdges.{TrackedEdges}
use Rattle.tracked_state.specs.declared.stop.Stop.{Stop}
use Rattle.tracked_state.specs.declared.stop.Stop.TheVariants.{Refused}
use Rattle.tracked_state.specs.Tracked.{TrackedSituation, tracked, IsTrackedIn}
use Rattle.tracked_state.specs.Tracking.{AnswersTrackedBranch}
use Rattle.tracked_state.specs.Rules.{TrackedWays}
use Rattle.verifier.specs.Decides.{granted, led, ways, ways_from, jump_target, trimmed_situation}
use Rattle.known_ways.specs.declared.behind.Behind.{Behind}
use Rattle.known_ways.specs.Ways.{Way, along, known_on, ways_at, ways_by, forward_target, leads_to}
use Rattle.known_ways.specs.Told.{IsBehind, left_by, way_from}
use Rattle.known_ways.proofs.Wholes.{IsWholeState}
use Rattle.known_ways.proofs.Leading.{by_leads}

-- ---- a comparison
pub behind_edges : (rule : Result TrackedWays Refusal) (behind : Behind) (e : TrackedEdges) → AnswersTrackedBranch rule (Ok e) → ((edge : Option TrackedSituation) → IsTrackedIn e.untaken edge → option_map situation_of behind.next ≡ known_on edge) → ((edge : Option TrackedSituation) → IsTrackedIn e.taken edge → option_map situation_of behind.jumped ≡ known_on edge) → IsBehind behind (granted rule)
behind_edges rule behind e (w, is, taken, untaken) next jumped = rw is (next w.untaken untaken, jumped w.taken taken)

pub behind_refused : (rule : Result TrackedWays Refusal) (behind : Behind) (fault : Refusal) → rule ≡ Err fault → behind.next ≡ None → behind.jumped ≡ None → IsBehind behind (granted rule)
behind_refused rule behind fault is next jumped = rw (is, next, jumped) (refl, refl)

pub behind_stopped : (rule : Result TrackedWays Refusal) (behind : Behind) (stop : Stop) (fault : Refusal) → stop ≡ Refused fault → AnswersTrackedBranch rule (Err stop) → behind.next ≡ None → behind.jumped ≡ None → IsBehind behind (granted rule)
behind_stopped rule behind stop fault is answers next jumped =
    behind_refused rule behind fault (subst (λ (s : Stop). AnswersTrackedBranch rule (Err s)) is answers) next jumped

-- ---- a step
pub flows_live : (o : Option Situation) (flow : Flow) (a : AbsState) → flow ≡ Live → IsWholeState a → Flows o flow a → Some (situation_of a) ≡ option_map trimmed_situation o
flows_live None flow a live whole dead = absurd (cc (live, dead))
flows_live (Some s) flow a live whole (alive, there) = ap (λ (t : Situation). Some t) (sym (whole s there))

pub flows_dead : (o : Option Situation) (flow : Flow) (a : AbsState) → flow ≡ Dead → Flows o flow a → None ≡ option_map trimmed_situation o
flows_dead None flow a dead flows = refl
flows_dead (Some s) flow a dead (alive, there) = absurd (cc (dead, alive))

pub left_on : (rule : Result (Option Situation) Refusal) (flow : Flow) (a : AbsState) (next : Option AbsState) → AnswersStep rule (Ok flow) a → ((o : Option Situation) → Flows o flow a → option_map situation_of next ≡ option_map trimmed_situation o) → option_map situation_of next ≡ left_by rule
left_on (Ok o) flow a next (other, is, flows) live =
    let same : other ≡ flow = cc (is) in
    live o (subst (λ (f : Flow). Flows o f a) same flows)
left_on (Err fault) flow a next is live = absurd (cc (is))

pub left_refused : (rule : Result (Option Situation) Refusal) (a : AbsState) (fault : Refusal) → AnswersStep rule (Err fault) a → None ≡ left_by rule
left_refused (Ok o) a fault (flow, is, flows) = absurd (cc (is))
left_refused (Err other) a fault answers = refl

-- ---- by the instruction's kind
pub behind_jump : (rule : Result TrackedWays Refusal) (behind : Behind) (t : TrackedSituation) → rule ≡ Ok (ways (Some t) None) → behind.next ≡ None → option_map situation_of behind.jumped ≡ Some (trimmed_situation t.situation) → IsBehind behind (granted rule)
behind_jump rule behind t is next jumped = rw (is, next) (refl, jumped)

pub behind_exit : (rule : Result TrackedWays Refusal) (behind : Behind) (done : Result ⊤ Refusal) → rule ≡ answer_of (λ (d : ⊤). ways None None) done → behind.next ≡ None → behind.jumped ≡ None → IsBehind behind (granted rule)
behind_exit rule behind (Ok d) is next jumped = rw (is, next, jumped) (refl, refl)
behind_exit rule behind (Err fault) is next jumped = rw (is, next, jumped) (refl, refl)

pub behind_straight : (m : Option Marking) (r : Result (Option Situation) Refusal) (rule : Result TrackedWays Refusal) (behind : Behind) → rule ≡ answer_of (ways None) (answer_of (option_map (tracked m)) r) → option_map situation_of behind.next ≡ left_by r → behind.jumped ≡ None → IsBehind behind (granted rule)
behind_straight m (Ok None) rule behind is next jumped = rw (is, jumped) (next, refl)
behind_straight m (Ok (Some s)) rule behind is next jumped = rw (is, jumped) (next, refl)
behind_straight m (Err fault) rule behind is next jumped = rw (is, jumped) (next, refl)

-- ---- the ways along both edges
pub pushed_both : (to from : ℕ) (insn : Insn) (behind : Behind) (w : TrackedWays) (old mid new : List Way) → from < to → IsBehind behind w → mid ≡ old ++ (if nat_eq to (from + slots_of insn) then way_from from behind.next else []) → new ≡ mid ++ (if leads_to to (forward_target from (jump_of insn)) then way_from from behind.jumped else []) → new ≡ old ++ ways_by to from insn w
pushed_both to from insn behind w old mid new less (next, jumped) first second =
    let on = nat_eq to (from + slots_of insn) in
    let jumps = leads_to to (forward_target from (jump_of insn)) in
    let both : (if on then way_from from behind.next else []) ++ (if jumps then way_from from behind.jumped else []) ≡ ways_by to from insn w =
    ap (λ (o : Option Situation). (if on then along from o else []) ++ (if jumps then way_from from behind.jumped else [])) next
    ∙ ap (λ (o : Option Situation). (if on then along from (known_on w.untaken) else []) ++ (if jumps then along from o else [])) jumped
    ∙ sym (by_leads to from insn w less) in
    second
    ∙ ap (λ (x : List Way). x ++ (if jumps then way_from from behind.jumped else [])) first
    ∙ append_assoc old (if on then way_from from behind.next else []) (if jumps then way_from from behind.jumped else [])
    ∙ ap (λ (x : List Way). old ++ x) both

-- ---- from where there is none
pub no_insn : (profile : Profile) (program : Program) (to from : ℕ) (known : Option TrackedSituation) → slice_get program from ≡ Some None → ways_at profile to from (slice_get program from) known ≡ []
no_insn profile program to from known is = rw is refl

abbrev no_ways : List Way
no_ways = []

neither : (a b : Bool) → (if a then no_ways else no_ways) ++ (if b then no_ways else no_ways) ≡ no_ways
neither true true = refl
neither true false = refl
neither false true = refl
neither false false = refl

pub no_run : (profile : Profile) (program : Program) (to from : ℕ) (insn : Insn) (known : Option TrackedSituation) → StartsAt program from insn → known ≡ None → ways_at profile to from (slice_get program from) known ≡ []
unfolding ways_from
no_run profile program to from insn known starts none =
    rw (starts, none) (neither (nat_eq to (from + slots_of insn)) (nat_eq to (jump_target from (jump_of insn))))

pub by_known : (profile : Profile) (program : Program) (to from : ℕ) (insn : Insn) (known : Option TrackedSituation) (t : TrackedSituation) → StartsAt program from insn → known ≡ Some t → ways_by to from insn (granted (led profile from insn t)) ≡ ways_at profile to from (slice_get program from) known
unfolding ways_from
by_known profile program to from insn known t starts some = rw (starts, some) refl

pub grown_by_none : (old new more : List Way) → new ≡ old → more ≡ [] → new ≡ old ++ more
grown_by_none old new more same none = same ∙ sym (ap (λ (x : List Way). old ++ x) none ∙ append-nil old)
