-- What a table of labels holds.
use Rattle.std.specs.Prelude.{◌≡◌, ℕ, nat_lt, if◌then◌else◌, Bool, false, List, take, Option, Some, None, option_map}
use Rattle.std.specs.Prelude.{Ok, Err}
use Rattle.std.specs.Str.{bytes_eq}
use Rattle.assembler_lines.specs.Shapes.{either}
use Rattle.std.specs.Borrow.{Bor}
use Rattle.std.specs.Cmp.Lexicographic.{slice_cmp}
use Rattle.std.specs.Ordering.{nat_cmp}
use Rattle.std.specs.BTreeMap.{BTreeMap, get_by}
use Rattle.assembler.specs.declared.labels.Definition.{Definition}
use Rattle.bpf_words.specs.declared.instruction.Insn.{Insn}
use Rattle.assembler_lines.specs.declared.fault.LineFault.TheVariants.{UnknownLabel}
use Rattle.assembler_lines.specs.declared.statement.Jump.{Jump}
use Rattle.assembler_lines.specs.Statements.{Judged, ◌>>=◌}
use Rattle.assembler_lines.specs.Slots.{definition, first_slot, jump_between}

abbrev pub Table : Type 0
Table = BTreeMap (Bor (List ℕ)) Definition

-- what a table holds at a name
abbrev pub held : Table → List ℕ → Option Definition
held labels name = get_by (λ key. slice_cmp nat_cmp name key.now) labels

abbrev pub defined_at : List (List ℕ) → ℕ → Definition
defined_at lines k = record { index = k; slot = first_slot lines k }

-- a table of the labels of the first lines: at each name, the line that defines it and that line's slot
abbrev pub HoldsLabels : List (List ℕ) → ℕ → Table → Type 0
HoldsLabels lines count labels =
    (name : List ℕ) → held labels name ≡ option_map (defined_at lines) (definition (take count lines) name)

-- a table that has a label more, unless it has it before
abbrev pub Defines : Table → Table → List ℕ → Definition → Type 0
Defines old new name defined =
    (other : List ℕ) → held new other ≡ either (held old other) (if bytes_eq name other then Some defined else None)

-- a table that has the same labels
abbrev pub HoldsSame : Table → Table → Type 0
HoldsSame old new = (name : List ℕ) → held new name ≡ held old name

-- a table that has a line's label more, where it is one
abbrev pub DefinesLabel : Table → Table → Option (List ℕ) → Definition → Type 0
DefinesLabel old new None defined = HoldsSame old new
DefinesLabel old new (Some name) defined = Defines old new name defined

-- whether there is a definition, before the line of an index
abbrev pub is_before : ℕ → Option Definition → Bool
is_before k None = false
is_before k (Some defined) = nat_lt defined.index k

-- the jump at a slot to a label, by its definition
abbrev pub onto_held : Jump → ℕ → Option Definition → Judged (Option Insn)
onto_held jump here None = Err UnknownLabel
onto_held jump here (Some defined) = do
  insn ← jump_between jump here defined.slot
  Ok (Some insn)
