use Rattle.std.proofs.Common.{◌≡◌, ◌+◌, ◌≤◌, length, drop, vec_capacity}
use Rattle.char_sequence.specs.RunElements.{later_id, elements_from, insert_all}
use Rattle.char_sequence.proofs.runs.put_elements.Given as goal

abbrev pub invariant-loop-by : goal.invariant-loop-by
invariant-loop-by l =
    (insert_all l.initial.items.items l.index (elements_from l.id l.characters) ≡ insert_all l.items.items (l.index + l.by) (elements_from (later_id l.id l.by) (drop l.by l.characters))) × (length l.items.items ≡ length l.initial.items.items + l.by) × (vec_capacity l.initial.items ≤ vec_capacity l.items)
