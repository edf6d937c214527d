use Rattle.std.proofs.Common.{◌∙◌, sym, ap, cond, Some, None, Bool}
use Rattle.hub_commands.specs.Hints.{text_hint}
use Rattle.hub_commands.specs.declared.hint.Hint.TheVariants.{ByteOrderMark}
use Rattle.hub_commands.proofs.Decoding.{marked_same}
use Rattle.hub_commands.proofs.changes_input.ChangesInput.hint.Goals as goal

pub returns : goal.returns
unfolding text_hint
returns c = λ size input kept.
    c.text_hint.ensures ∙ ap (λ (b : Bool). cond b (Some ByteOrderMark) None) (sym (marked_same input c.args.self.now.front.items c.deref.result.now kept.front c.deref.ensures.value))
