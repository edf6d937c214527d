-- A run has one end at most. So where a run doesn't end there are no inductive labels, and there are spans to run on.
use Rattle.std.proofs.Common.{◌≡◌, ℕ, zero, suc, ◌+◌, ◌-◌, ◌≤◌, true, nat_lt, List, [], ◌∷◌, ◌++◌, replicate, Ok, Err, refl, sym, ◌∙◌, ap, subst, arith}
use Rattle.std.specs.List.{list_all}
use Rattle.std.proofs.lemmas.Bool.{ltb-true}
use Rattle.byteorder.specs.Endian.{little_bytes}
use Rattle.span_context.specs.Context.{text_base, link_base, SpanBytes, span_bytes, narrowed}
use Rattle.span_context.specs.declared.profile.Profile.{Profile}
use Rattle.span_context.specs.declared.profile.Profile.TheVariants.{One, Two, Three}
use Rattle.semantics.specs.declared.Outcome.{Outcome}
use Rattle.semantics.specs.declared.Outcome.TheVariants.{Done, Fault, OutOfSteps}
use Rattle.semantics.specs.State.{State, start}
use Rattle.semantics.specs.Step.{Program, Stepped, Next, Ends, step}
use Rattle.semantics.specs.Outcomes.{after, outcome_from}
use Rattle.semantics.specs.Safe.{AreBytes, IsSpanIn, IsSpan}
use Rattle.semantics.proofs.Witness.{both}
use Rattle.semantics.proofs.More.{narrow_span, third_span}
use Rattle.loop_labels.specs.Potential.{Bound}
use Rattle.loop_labels.specs.Bounded.{EndsWith, EndsWithin, NeverEnds}
use Rattle.loop_labels.specs.Samples.{jumps_to_itself}

-- ---- more steps change no end
after_more : (stepped : Stepped) (slot value : ℕ) (rest onward : State → Outcome)
    → ((next : State) → rest next ≡ Done value → onward next ≡ Done value)
    → after stepped slot rest ≡ Done value → after stepped slot onward ≡ Done value
after_more (Ok (Next state)) slot value rest onward more e = more state e
after_more (Ok (Ends result)) slot value rest onward more e = e
after_more (Err kind) slot value rest onward more e = e

more_steps : (program : Program) (bytes : SpanBytes) (steps more value : ℕ) (state : State)
    → outcome_from program bytes steps state ≡ Done value → outcome_from program bytes (steps + more) state ≡ Done value
unfolding outcome_from
more_steps program bytes zero more value state e = absurd (cc)
more_steps program bytes (suc steps) more value state e =
    let same : suc (steps + more) ≡ suc steps + more = omega arith in
    subst (λ n. outcome_from program bytes n state ≡ Done value) same
    (after_more (step program bytes state) state.slot value (λ next. outcome_from program bytes steps next)
    (λ next. outcome_from program bytes (steps + more) next)
    (λ next ended. more_steps program bytes steps more value next ended) e)

pub ends_later : (program : Program) (bytes : SpanBytes) (steps more value : ℕ)
    → outcome_from program bytes steps start ≡ Done value → steps ≤ more
    → outcome_from program bytes more start ≡ Done value
ends_later program bytes steps more value ended enough =
    let same : steps + (more - steps) ≡ more = omega arith in
    subst (λ n. outcome_from program bytes n start ≡ Done value) same
    (more_steps program bytes steps (more - steps) value start ended)

abbrev value_done : Outcome → ℕ
value_done (Done value) = value
value_done (Fault slot kind) = 0
value_done OutOfSteps = 0

pub ends_once : (program : Program) (bytes : SpanBytes) (first second : ℕ) → EndsWith program bytes first
    → EndsWith program bytes second → first ≡ second
ends_once program bytes first second (steps, ends) (others, also) =
    let one : outcome_from program bytes (steps + others) start ≡ Done first
    = more_steps program bytes steps others first start ends in
    let two : outcome_from program bytes (others + steps) start ≡ Done second
    = more_steps program bytes others steps second start also in
    let turned : others + steps ≡ steps + others = omega arith in
    ap value_done (sym one ∙ subst (λ n. outcome_from program bytes n start ≡ Done second) turned two)

pub not_endless : (profile : Profile) (program : Program) (bound : Bound) (bytes : SpanBytes) → IsSpanIn profile bytes
    → EndsWithin profile program bound → NeverEnds program bytes → ⊥
not_endless profile program bound bytes span ends never =
    let run = ends bytes span in
    let clash : OutOfSteps ≡ Done run.0 = sym (never _) ∙ run.1 in
    absurd (cc)

-- ---- a jump to itself
pub jumps_forever : (bytes : SpanBytes) → NeverEnds jumps_to_itself bytes
unfolding outcome_from
jumps_forever bytes zero = refl
jumps_forever bytes (suc steps) = jumps_forever bytes steps

-- ---- a span of no text and without a link
bytes-tested : (numbers : List ℕ) → list_all (λ n. nat_lt n 256) numbers ≡ true → AreBytes numbers
bytes-tested [] h index = omega arith
bytes-tested (n ∷ rest) h zero = ltb-true n 256 (both (nat_lt n 256) (list_all (λ m. nat_lt m 256) rest) h).0
bytes-tested (n ∷ rest) h (suc index) =
    bytes-tested rest (both (nat_lt n 256) (list_all (λ m. nat_lt m 256) rest) h).1 index

abbrev pub empty_context : List ℕ
empty_context =
    little_bytes 8 text_base ++ little_bytes 8 text_base ++ replicate 40 0 ++ little_bytes 8 link_base
    ++ little_bytes 8 link_base

abbrev pub empty_bytes : SpanBytes
empty_bytes = span_bytes empty_context [] []

empty_span : IsSpan empty_bytes
empty_span = record {
  fits = record {
    long = refl;
    short = omega arith;
    begins = refl;
    ends = refl;
    counts = refl;
    link_short = omega arith;
    link = record { counts = refl; begins = refl; ends = refl };
  };
  context_bytes = bytes-tested empty_context refl;
  text_bytes = bytes-tested [] refl;
  link_bytes = bytes-tested [] refl;
}

pub some_span : (profile : Profile) → (bytes : SpanBytes) × IsSpanIn profile bytes
some_span One = (narrowed empty_bytes, narrow_span empty_bytes empty_span)
some_span Two = (empty_bytes, empty_span)
some_span Three = (empty_bytes, third_span empty_bytes empty_span)
