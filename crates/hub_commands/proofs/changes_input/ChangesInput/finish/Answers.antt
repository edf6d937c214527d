use Rattle.std.proofs.Common.{ℕ, List, ◌∙◌, subst}
use Rattle.std.specs.Str.{IsUtf8}
use Rattle.change_ops.specs.declared.size.Size.{Size}
use Rattle.hub_commands.specs.ChangesInput.{Advances, EndsWith}
use Rattle.hub_commands.proofs.ReadingChanges.{held_at, concluded_left, concluded_before, ended_all, ended_refused, none_of, is_unset, is_set}
use Rattle.hub_commands.proofs.changes_input.ChangesInput.finish.Goals as goal

pub returns-in_default : goal.returns-in_default
returns-in_default c = λ size input kept.
    let self = c.args.self.now in
    let P : List ℕ → Type 0 = λ l. ¬ (IsUtf8 l) in
    record { front = kept.front; concluded = concluded_left size input self.left.items self.history.changes self.fault (subst P c.deref.ensures.value c.in_default.ensures.cases.0) (held_at size input self kept) }

pub returns-in-Some : goal.returns-in-Some
returns-in-Some c = λ size input kept.
    let self = c.args.self.now in
    let Taken : Size → Type 0 = λ s. Advances s self.history.changes c.in-Ok.text.now c.take_changes.new.history.changes c.in_ok-refusal.field-0-0.now in
    let Ended : Size → Type 0 = λ s. EndsWith s c.take_changes.new.history.changes c.in_ok-refusal.field-0-0.now c.in_ok-refusal.refusal in
    let text = subst IsUtf8 c.deref.ensures.value c.in-Ok.ensures.cases.1 in
    record {
      front = kept.front;
      concluded = ended_refused size input self.left.items self.history.changes c.take_changes.new.history.changes c.in-Ok.text.now c.in_ok-refusal.field-0-0.now self.fault c.in_ok-refusal.refusal
          (c.in-Ok.ensures.cases.0 ∙ c.deref.ensures.value) (is_unset self.fault c.is_none.result c.is_none.ensures c.if-is_none.true) (held_at size input self kept) (subst Taken kept.of c.in_ok-refusal.ensures.taken)
          (subst Ended kept.of c.in_ok-refusal.ensures.ended) c.in-Some.reason text c.in-Some.is;
    }

pub returns-in_default-refusal : goal.returns-in_default-refusal
returns-in_default-refusal c = λ size input kept.
    let self = c.args.self.now in
    let Taken : Size → Type 0 = λ s. Advances s self.history.changes c.in-Ok.text.now c.take_changes.new.history.changes c.in_ok-refusal.field-0-0.now in
    let Ended : Size → Type 0 = λ s. EndsWith s c.take_changes.new.history.changes c.in_ok-refusal.field-0-0.now c.in_ok-refusal.refusal in
    record {
      front = kept.front;
      concluded = ended_all size input self.left.items self.history.changes c.take_changes.new.history.changes c.in-Ok.text.now c.in_ok-refusal.field-0-0.now self.fault c.in_ok-refusal.refusal
          (c.in-Ok.ensures.cases.0 ∙ c.deref.ensures.value) (is_unset self.fault c.is_none.result c.is_none.ensures c.if-is_none.true) (held_at size input self kept) (subst Taken kept.of c.in_ok-refusal.ensures.taken)
          (subst Ended kept.of c.in_ok-refusal.ensures.ended) (none_of c.in_ok-refusal.refusal c.in_default-refusal.not-Some);
    }

pub returns-else-is_none : goal.returns-else-is_none
returns-else-is_none c = λ size input kept.
    let self = c.args.self.now in
    let text = subst IsUtf8 c.deref.ensures.value c.in-Ok.ensures.cases.1 in
    record {
      front = kept.front;
      concluded = concluded_before size input self.left.items self.history.changes self.fault (is_set self.fault c.is_none.result c.is_none.ensures c.if-is_none.false) text (held_at size input self kept);
    }
