use Rattle.std.proofs.Common.{◌+◌, ◌-◌, ◌≤◌, arith, sym, ap, subst, ◌∙◌}
use Rattle.std.specs.List.{sum_by}
use Rattle.std.proofs.lemmas.Bool.{leb-true}
use Rattle.change_ops.specs.Lines.{ops_of_lines}
use Rattle.char_sequence.specs.Acceptance.{most_growth}
use Rattle.char_sequence.specs.Held.{Sequence}
use Rattle.change_history.specs.Trial.{growth}
use Rattle.char_sequence.specs.Visible.{all_bytes}
use Rattle.change_history.proofs.Spacing.{short_added, all_short}
use Rattle.change_history.proofs.trial.has_space.Goals as goal

pub returns-then-has_room : goal.returns-then-has_room
returns-then-has_room c = λ size ops k is.
    let added = ops_of_lines c.args.lines.now in
    let fits : sum_by most_growth added ≤ 131072 - c.bytes.result = leb-true _ _ (sym c.has_room.ensures ∙ c.if-has_room.true) in
    let held = c.bytes.ensures.value in
    let most = c.bytes.ensures.limit in
    short_added size ops added c.args.parts.now k (omega (arith, fits, held, most))

pub returns-else-has_room : goal.returns-else-has_room
returns-else-has_room c = λ size ops k is.
    all_short size ops (ops_of_lines c.args.lines.now) c.args.parts.now k (subst (λ es. all_bytes es + sum_by (growth 0) (ops_of_lines c.args.lines.now) ≤ 131072) (ap (λ (s : Sequence). s.elements) c.sequence.ensures) (c.has_room_for_all.ensures is))
