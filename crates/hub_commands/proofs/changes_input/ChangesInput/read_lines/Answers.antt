use Rattle.std.proofs.Common.{◌≡◌, ℕ, List, ◌++◌, ◌∙◌, Some, ap, subst, sym}
use Rattle.change_ops.specs.declared.size.Size.{Size}
use Rattle.hub_commands.specs.ChangesInput.{TakesLines, Holds}
use Rattle.hub_commands.specs.declared.changes_input.Fault.TheVariants.{Change}
use Rattle.hub_commands.proofs.ReadingChanges.{IsCut, cut_here, held_no_text, held_behind, read_on, read_fault, none_of, no_some, not_none}
use Rattle.hub_commands.proofs.changes_input.ChangesInput.read_lines.Goals as goal

pub returns-in_default-from_utf8 : goal.returns-in_default-from_utf8
returns-in_default-from_utf8 c = λ size input kept.
    let self = c.args.self.now in
    let lines = c.split_at.result.0.now in
    let behind = c.split_at.result.1.now in
    let last = c.in-Some.last in
    let cut : IsCut self.left.items lines behind last = cut_here self.left.items c.deref.result.now c.deref-2.result.now lines behind last c.deref.ensures.value c.deref-2.ensures.value c.split_at.ensures.front
    c.split_at.ensures.back c.in-Some.ensures.0 c.in-Some.ensures.1 in
    record {
      of = kept.of;
      front = kept.front;
      held = held_no_text self.history.size input self.left.items lines behind cut.split last cut.long cut.feed c.in_default-from_utf8.ensures.cases.0 self.history.changes self.fault kept.held;
    }

pub returns-then-is_some : goal.returns-then-is_some
returns-then-is_some c = λ size input kept.
    let self = c.args.self.now in
    let lines = c.split_at.result.0.now in
    let behind = c.split_at.result.1.now in
    let last = c.in-Some.last in
    let cut : IsCut self.left.items lines behind last = cut_here self.left.items c.deref.result.now c.deref-2.result.now lines behind last c.deref.ensures.value c.deref-2.ensures.value c.split_at.ensures.front
    c.split_at.ensures.back c.in-Some.ensures.0 c.in-Some.ensures.1 in
    let P : List ℕ → Type 0 = λ l. Holds self.history.size input self.history.changes l self.fault in
    record {
      of = kept.of;
      front = kept.front;
      held = subst P (sym c.in_ok-self-2.ensures.items)
          (held_behind self.history.size input self.left.items lines behind cut.split self.history.changes self.fault (not_none self.fault (sym c.is_some.ensures ∙ c.if-is_some.true)) kept.held c.in-Ok.ensures.cases.1);
    }

pub returns-in-Some-refusal : goal.returns-in-Some-refusal
returns-in-Some-refusal c = λ size input kept.
    let self = c.args.self.now in
    let at = self.history.size in
    let new = c.take_lines.new.history in
    let same : new.size ≡ at = c.take_lines.ensures.size in
    let lines = c.split_at.result.0.now in
    let behind = c.split_at.result.1.now in
    let last = c.in-Some.last in
    let rest = c.in_ok-rest.rest.now in
    let refusal = c.in_ok-rest.refusal in
    let reason = c.in-Some-refusal.reason in
    let cut : IsCut self.left.items lines behind last = cut_here self.left.items c.deref.result.now c.deref-2.result.now lines behind last c.deref.ensures.value c.deref-2.ensures.value c.split_at.ensures.front
    c.split_at.ensures.back c.in-Some.ensures.0 c.in-Some.ensures.1 in
    let P : List ℕ → Type 0 = λ l. Holds new.size input new.changes l (Some (Change reason)) in
    let Q : List ℕ → Type 0 = λ l. TakesLines at self.history.changes l new.changes rest refusal in
    record {
      of = same ∙ kept.of;
      front = kept.front;
      held = subst P (sym (c.in_ok-self-3.ensures ∙ ap (λ (l : List ℕ). l ++ behind) c.as_bytes.ensures.value))
          (subst (λ (s : Size). Holds s input new.changes (rest ++ behind) (Some (Change reason))) (sym same)
          (read_fault at input self.left.items lines behind cut.split self.history.changes new.changes rest self.fault refusal (no_some self.fault (sym c.is_some.ensures ∙ c.if-is_some.false)) kept.held
          (subst Q c.in-Ok.ensures.cases.0 c.in_ok-rest.ensures.taken) reason c.in-Ok.ensures.cases.1 c.in-Some-refusal.is));
    }

pub returns-in_default-refusal : goal.returns-in_default-refusal
returns-in_default-refusal c = λ size input kept.
    let self = c.args.self.now in
    let at = self.history.size in
    let new = c.take_lines.new.history in
    let same : new.size ≡ at = c.take_lines.ensures.size in
    let lines = c.split_at.result.0.now in
    let behind = c.split_at.result.1.now in
    let last = c.in-Some.last in
    let rest = c.in_ok-rest.rest.now in
    let refusal = c.in_ok-rest.refusal in
    let cut : IsCut self.left.items lines behind last = cut_here self.left.items c.deref.result.now c.deref-2.result.now lines behind last c.deref.ensures.value c.deref-2.ensures.value c.split_at.ensures.front
    c.split_at.ensures.back c.in-Some.ensures.0 c.in-Some.ensures.1 in
    let P : List ℕ → Type 0 = λ l. Holds new.size input new.changes l self.fault in
    let Q : List ℕ → Type 0 = λ l. TakesLines at self.history.changes l new.changes rest refusal in
    record {
      of = same ∙ kept.of;
      front = kept.front;
      held = subst P (sym (c.in_ok-self-3.ensures ∙ ap (λ (l : List ℕ). l ++ behind) c.as_bytes.ensures.value))
          (subst (λ (s : Size). Holds s input new.changes (rest ++ behind) self.fault) (sym same)
          (read_on at input self.left.items lines behind cut.split self.history.changes new.changes rest self.fault refusal (no_some self.fault (sym c.is_some.ensures ∙ c.if-is_some.false)) kept.held
          (subst Q c.in-Ok.ensures.cases.0 c.in_ok-rest.ensures.taken) (none_of refusal c.in_default-refusal.not-Some)));
    }
