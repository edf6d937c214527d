-- A number that a form is at least: each value is taken where the form is least, or its weight is paid by as much of
-- what each byte has, where the value and its tail are at most the length.
use Rattle.std.specs.Prelude.{ℕ, ℤ, pos, ◌+ℤ◌, ◌-ℤ◌, ◌*ℤ◌, int_lt, int_le, if◌then◌else◌, List, fold, Option, Some}
use Rattle.std.specs.Prelude.{None}
use Rattle.span_context.specs.Context.{text_limit, link_limit}
use Rattle.potentials.specs.declared.Form.{Form}
use Rattle.potentials.specs.declared.Weighed.{Weighed}

-- ---- what is left of a form without the value
abbrev pub at_value : Form → ℤ → ℕ → Form
at_value form weight value = record form { constant = form.constant -ℤ weight *ℤ pos value }

abbrev pub paid_by_text : Form → ℤ → ℕ → Form
paid_by_text form weight tail =
    record form { constant = form.constant +ℤ weight *ℤ pos tail; per_byte = form.per_byte -ℤ weight }

abbrev pub paid_by_link : Form → ℤ → ℕ → Form
paid_by_link form weight tail =
    record form { constant = form.constant +ℤ weight *ℤ pos tail; per_link_byte = form.per_link_byte -ℤ weight }

-- no weight is paid by more than each byte has
abbrev pub by_link : Form → Weighed → Option ℕ → Form
by_link form weighed None = at_value form weighed.weight weighed.high
by_link form weighed (Some tail) =
    if int_le weighed.weight form.per_link_byte then paid_by_link form weighed.weight tail
    else at_value form weighed.weight weighed.high

abbrev pub by_text : Form → Weighed → Option ℕ → Form
by_text form weighed None = by_link form weighed weighed.link_tail
by_text form weighed (Some tail) =
    if int_le weighed.weight form.per_byte then paid_by_text form weighed.weight tail
    else by_link form weighed weighed.link_tail

unfoldable pub without : Form → Weighed → Form
without form weighed =
    if int_lt weighed.weight (pos 0) then at_value form weighed.weight weighed.low
    else by_text form weighed weighed.tail

-- ---- and without the lengths
abbrev pub at_length : ℤ → ℕ → ℕ → ℤ
at_length per least limit = if int_lt per (pos 0) then per *ℤ pos limit else per *ℤ pos least

abbrev pub without_lengths : Form → ℕ → ℕ → ℤ
without_lengths form text link =
    form.constant +ℤ (at_length form.per_byte text text_limit +ℤ at_length form.per_link_byte link link_limit)

abbrev pub least_of : Form → List Weighed → ℕ → ℕ → ℤ
least_of form weighed text link = without_lengths (fold without form weighed) text link
