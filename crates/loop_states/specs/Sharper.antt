-- A comparison of which more is known than its sides tell: one side is known to be ahead of the other. The edge where
-- it holds, or doesn't, is then that of another comparison that holds, or no run goes there.
use Rattle.std.specs.Prelude.{ℕ, zero, suc, Bool, true, false, not, Option, Some, None, option_map}
use Rattle.bpf_words.specs.declared.instruction.Width.{Width}
use Rattle.bpf_words.specs.declared.instruction.Comparison.{Comparison}
use Rattle.bpf_words.specs.declared.instruction.Comparison.TheVariants.{Equal, NotEqual, Greater, GreaterOrEqual}
use Rattle.bpf_words.specs.declared.instruction.Comparison.TheVariants.{Less, LessOrEqual, AnyBit, SignedGreater}
use Rattle.bpf_words.specs.declared.instruction.Comparison.TheVariants.{SignedGreaterOrEqual, SignedLess}
use Rattle.bpf_words.specs.declared.instruction.Comparison.TheVariants.{SignedLessOrEqual}
use Rattle.bpf_words.specs.declared.instruction.Operand.{Operand}
use Rattle.bpf_words.specs.declared.instruction.Operand.TheVariants.{Immediate, Source}
use Rattle.tracked_state.specs.Tracked.{TrackedSituation}
use Rattle.loop_states.specs.declared.sharper.Outcomes.{Outcomes}
use Rattle.loop_states.specs.declared.sharper.Sharper.{Sharper}
use Rattle.loop_states.specs.declared.sharper.Sharper.TheVariants.{Same, Never, Where}
use Rattle.loop_states.specs.Leads.{lead_in}

-- ---- how the left side may stand to the right one
abbrev pub outcomes : Bool → Bool → Bool → Outcomes
outcomes less equal greater = record { less = less; equal = equal; greater = greater }

-- where the comparison holds; of bits and of signs nothing is said
abbrev pub where_holding : Comparison → Option Outcomes
where_holding Equal = Some (outcomes false true false)
where_holding NotEqual = Some (outcomes true false true)
where_holding Less = Some (outcomes true false false)
where_holding LessOrEqual = Some (outcomes true true false)
where_holding Greater = Some (outcomes false false true)
where_holding GreaterOrEqual = Some (outcomes false true true)
where_holding AnyBit = None
where_holding SignedGreater = None
where_holding SignedGreaterOrEqual = None
where_holding SignedLess = None
where_holding SignedLessOrEqual = None

abbrev pub others : Outcomes → Outcomes
others o = outcomes (not o.less) (not o.equal) (not o.greater)

abbrev pub on_edge : Bool → Outcomes → Outcomes
on_edge true o = o
on_edge false o = others o

-- ---- the right side is ahead by so much at least, or the left one
abbrev pub right_ahead : Option ℕ → Outcomes → Outcomes
right_ahead None o = o
right_ahead (Some zero) o = outcomes o.less o.equal false
right_ahead (Some (suc more)) o = outcomes o.less false false

abbrev pub left_ahead : Option ℕ → Outcomes → Outcomes
left_ahead None o = o
left_ahead (Some zero) o = outcomes false o.equal o.greater
left_ahead (Some (suc more)) o = outcomes false false o.greater

-- ---- the comparison that holds so
abbrev pub holding_where : Bool → Bool → Bool → Sharper
holding_where false false false = Never
holding_where true false false = Where Less
holding_where false true false = Where Equal
holding_where false false true = Where Greater
holding_where true true false = Where LessOrEqual
holding_where false true true = Where GreaterOrEqual
holding_where true false true = Where NotEqual
holding_where true true true = Same

abbrev pub told_by : Option ℕ → Option ℕ → Outcomes → Sharper
told_by right left o =
    let p = left_ahead left (right_ahead right o) in
    holding_where p.less p.equal p.greater

abbrev pub sharper_by : Option ℕ → Option ℕ → Option Outcomes → Sharper
sharper_by None None o = Same
sharper_by right left None = Same
sharper_by right left (Some o) = told_by right left o

-- of an immediate's side no more is known
abbrev pub sharper_in : Width → Comparison → ℕ → Operand → Bool → TrackedSituation → Sharper
sharper_in width comparison left (Immediate value) taken t = Same
sharper_in width comparison left (Source right) taken t =
    sharper_by (lead_in width t left right) (lead_in width t right left)
    (option_map (on_edge taken) (where_holding comparison))
