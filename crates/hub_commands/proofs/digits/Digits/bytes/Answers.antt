use Rattle.std.proofs.Common.{◌∙◌, sym}
use Rattle.hub_commands.proofs.Decoding.{none_of_odd, none_of_wrong, bytes_found}
use Rattle.hub_commands.proofs.digits.Digits.bytes.Goals.{then-self-via-then-self, then-self-via-else-self+then-not-self}
use Rattle.hub_commands.proofs.digits.Digits.bytes.Goals as goal

pub returns-then-self : goal.returns-then-self
returns-then-self c = λ digits kept.
    elim c.then-self.branch [
      | then-self-via-then-self w ↦ none_of_odd digits (sym kept.odd ∙ w.if-self.true)
      | then-self-via-else-self+then-not-self w ↦ none_of_wrong digits (sym kept.right ∙ w.if-not-self.true)
    ]

pub returns : goal.returns
returns c =
    bytes_found (λ bytes. bytes.items) c.args.self.now c.deref.result.now c.decode.result c.deref.ensures.value c.decode.ensures c.if-self.false
    c.if-not-self.false
