-- Changes of the same operations are accepted alike.
use Rattle.std.proofs.Common.{◌≡◌, ℕ, suc, ◌+◌, ◌-◌, ◌<◌, List, [], ◌∷◌, ◌++◌, Some, refl, sym, ap, ◌∙◌, subst, arith, inl, inr, length, take, length-append}
use Rattle.std.specs.List.{slice_get}
use Rattle.std.proofs.lemmas.Bool.{cases_lt}
use Rattle.std.proofs.lemmas.Option.{slice_get_within}
use Rattle.change_ops.specs.declared.operation.Op.{Op}
use Rattle.change_ops.specs.Changes.{Change, operations}
use Rattle.change_ops.specs.Lines.{ops_of, ops_of_lines}
use Rattle.change_ops.specs.declared.line.Line.{Line}
use Rattle.span_flatten.specs.Version.{IsVersion}
use Rattle.change_history.specs.Accepted.{operations_of, AllFollow, IsFirstRefused, IsAccepted}
use Rattle.change_history.specs.Alike.{IsRefusedFor, FormsAreAlike}
use Rattle.change_history.specs.declared.refusal.Refusal.{Refusal}
use Rattle.change_history.proofs.Chronicle.{operations_of-push, begin_of, none_before}
use Rattle.change_ops.specs.declared.size.Size.{Size}

-- the line that means the operation at an index
record LineAt (lines : List Line) (at : ℕ) : Type 0 where
  index : ℕ
  line : Line
  here : slice_get lines index ≡ Some line
  offset : ℕ
  within : offset < length (ops_of line)
  is : begin_of lines index + offset ≡ at

line_at : (lines : List Line) (at : ℕ) → at < length (ops_of_lines lines) → LineAt lines at
unfolding ops_of_lines
line_at [] at h = absurd (omega arith)
line_at (line ∷ lines) at h = elim (cases_lt at (length (ops_of line))) [
  | inl low ↦ record { index = 0; line = line; here = refl; offset = at; within = low; is = let none = none_before (line ∷ lines) in omega arith }
  | inr high ↦
      let n = length (ops_of line) in
      let long : length (ops_of line ++ ops_of_lines lines) ≡ n + length (ops_of_lines lines) = length-append (ops_of line) (ops_of_lines lines) in
      let rest = line_at lines (at - n) (omega arith) in
      let front : length (ops_of line ++ ops_of_lines (take rest.index lines)) ≡ n + length (ops_of_lines (take rest.index lines)) = length-append (ops_of line) (ops_of_lines (take rest.index lines)) in
      let inner : length (ops_of_lines (take rest.index lines)) + rest.offset ≡ at - n = rest.is in
      record { index = suc rest.index; line = rest.line; here = rest.here; offset = rest.offset; within = rest.within; is = omega arith }
]

module _ {size : Size} where
  accepted : (changes : List Change) (a b : Change) → operations a ≡ operations b → IsAccepted size changes a → IsAccepted size changes b
  accepted changes a b same h = record { room = h.room; follow = subst (λ (ops : List Op). AllFollow size (operations_of changes) ops (length ops)) same h.follow }

  refused : (changes : List Change) (a b : Change) (refusal : Refusal) → operations a ≡ operations b → IsRefusedFor size changes a refusal → IsRefusedFor size changes b refusal
  refused changes a b refusal same h =
      let first = h.1.1 in
      let at = begin_of a.lines h.0 + first.offset in
      let moved : IsFirstRefused size (operations_of changes) (operations b) at refusal = subst (λ (ops : List Op). IsFirstRefused size (operations_of changes) ops at refusal) same first.first in
      let line = line_at b.lines at (slice_get_within (operations b) at moved.operation moved.here) in
      (line.index, (h.1.0, record { line = line.line; here = line.here; offset = line.offset; within = line.within; first = subst (λ (n : ℕ). IsFirstRefused size (operations_of changes) (operations b) n refusal) (sym line.is) moved }))

all_operations : (changes : List Change) (a b : Change) → operations a ≡ operations b → operations_of (changes ++ a ∷ []) ≡ operations_of (changes ++ b ∷ [])
all_operations changes a b same = operations_of-push changes a ∙ ap (λ (ops : List Op). operations_of changes ++ ops) same ∙ sym (operations_of-push changes b)

pub forms_are_alike : FormsAreAlike
forms_are_alike size changes a b same =
    let all = all_operations changes a b same in
    record {
      accepted = (accepted changes a b same, accepted changes b a (sym same));
      refused = λ refusal. (refused changes a b refusal same, refused changes b a refusal (sym same));
      version = λ number version. (subst (λ (ops : List Op). IsVersion ops number version) all, subst (λ (ops : List Op). IsVersion ops number version) (sym all));
    }
