-- Where a potential falls on an edge: two potentials are compared term by term.
use Rattle.std.specs.Prelude.{◌≡◌, ℤ, pos, negsuc, ◌-◌, ◌^◌, ◌+ℤ◌, ◌-ℤ◌, ◌*ℤ◌, ◌≤ℤ◌, ◌<ℤ◌, int_le, int_lt, ◌&&◌}
use Rattle.std.specs.Prelude.{if◌then◌else◌, Option, Some, None, option_map, option_and_then, List, [], ◌∷◌}
use Rattle.std.specs.Prelude.{map, zip, Ok}
use Rattle.bpf_words.specs.declared.instruction.Insn.{Insn}
use Rattle.potentials.specs.declared.Form.{Form}
use Rattle.potentials.specs.declared.Weighed.{Weighed}
use Rattle.potentials.specs.Least.{least_of}
use Rattle.semantics.specs.State.{State}
use Rattle.semantics.specs.Step.{On}
use Rattle.loop_labels.specs.Potential as labels
use Rattle.abstract_state.specs.declared.state.AbsState.{AbsState}
use Rattle.abstract_state.specs.State.{Span, lengths_of, Contains, does}
use Rattle.label_potentials.specs.declared.potential.Term.{Term}
use Rattle.label_potentials.specs.declared.potential.Potential.{Potential}
use Rattle.potential_edges.specs.declared.source.Source.{Source}
use Rattle.potential_edges.specs.declared.rest.Rest.{Rest}
use Rattle.potential_edges.specs.declared.edges.Difference.{Difference}
use Rattle.label_potentials.specs.Weights.{weighed_in}
use Rattle.tracked_state.specs.declared.state.TrackedState.{TrackedState}
use Rattle.tracked_state.specs.Tracked.{ContainsTracked}
use Rattle.potential_edges.specs.Same.{is_base}
use Rattle.potential_edges.specs.Ahead.{ahead_in}
use Rattle.potential_edges.specs.Leasts.{least_in}
use Rattle.potential_edges.specs.Sources.{source_in}

-- ---- the term behind counts what the term before counts, and so much more; of several numbers the one at which it
-- weighs least
abbrev pub lightest_more : ℤ → Source → ℤ
lightest_more weight from = if int_lt weight (pos 0) then from.high else from.low

abbrev pub more_from : TrackedState → Term → Term → Source → Option ℤ
more_from a before after from =
    option_map (λ ahead. ahead +ℤ lightest_more after.weight from) (ahead_in a before.holder from.holder)

abbrev pub more_in : TrackedState → Insn → Term → Term → Option ℤ
more_in a insn before after =
    if is_base after.base before.base then
    option_and_then (more_from a before after) (source_in a.state insn after.holder)
    else None

-- ---- what is left to be weighed before the edge, and a number that is added
abbrev pub rest : ℤ → Weighed → Rest
rest more less = record { less = less; more = more }

-- the first weight less the second, where it has no more than 32 bits
abbrev pub in_word : ℤ → Option ℤ
in_word weight =
    if int_le (negsuc (2 ^ 31 - 1)) weight && int_le weight (pos (2 ^ 31 - 1)) then Some weight else None

abbrev pub rest_together : AbsState → Term → Term → ℤ → Option Rest
rest_together a before after more =
    option_and_then (λ weight. option_map (rest (after.weight *ℤ more))
    (weighed_in a (record before { weight = weight })))
    (in_word (before.weight -ℤ after.weight))

-- each is weighed by itself, the second at the least that it weighs behind
abbrev pub rest_apart : AbsState → AbsState → Term → Term → Option Rest
rest_apart a behind before after =
    option_and_then (λ less. option_map (λ more. rest more less) (least_in behind after)) (weighed_in a before)

abbrev pub rest_by : AbsState → AbsState → Term → Term → Option ℤ → Option Rest
rest_by a behind before after (Some more) = rest_together a before after more
rest_by a behind before after None = rest_apart a behind before after

abbrev pub rest_in : TrackedState → Insn → AbsState → Term × Term → Option Rest
rest_in a insn behind both = rest_by a.state behind both.0 both.1 (more_in a insn both.0 both.1)

-- ---- the terms at each place leave something, and by all that the first potential is at least 1 more than the second
unfoldable pub all_more : List Rest → ℤ
all_more [] = pos 0
all_more (one ∷ others) = one.more +ℤ all_more others

abbrev pub form_with : Potential → Potential → ℤ → Form
form_with p q constant = record {
  constant = constant;
  per_byte = p.per_byte -ℤ q.per_byte;
  per_link_byte = p.per_link_byte -ℤ q.per_link_byte;
}

pub record IsDifference (a : TrackedState) (insn : Insn) (behind : AbsState) (p q : Potential) (d : Difference)
    : Type 0 where
  pub rests : List Rest
  pub known : map (rest_in a insn behind) (zip p.less q.less) ≡ map Some rests
  pub constant : d.constant ≡ (p.constant -ℤ q.constant) +ℤ all_more rests
  pub weighed : d.weighed ≡ map (λ r. r.less) rests

pub record FallsBy (a : TrackedState) (insn : Insn) (behind : AbsState) (p q : Potential) : Type 0 where
  pub difference : Difference
  pub is : IsDifference a insn behind p q difference
  pub enough : pos 1
      ≤ℤ least_of (form_with p q difference.constant) difference.weighed a.state.bounds.text a.state.bounds.link

-- ---- from each contained state of a run of any profile a step to one that is contained behind lowers the potential
abbrev pub Falls : TrackedState → Insn → AbsState → labels.Potential → labels.Potential → Type 0
Falls a insn behind p q =
    (span : Span) (s next : State) (far : ℤ) → ContainsTracked a (lengths_of span) s
    → does span s insn ≡ Ok (On next far) → Contains behind (lengths_of span) next
    → labels.potential_at span.bytes next q <ℤ labels.potential_at span.bytes s p
