use Rattle.std.proofs.Common.{◌≡◌, ◌∙◌, true, false, refl, sym}
use Rattle.hub_commands.specs.Hexadecimal.{without_blanks}
use Rattle.hub_commands.specs.Hints.{begins_with_mark, digits_hint}
use Rattle.hub_commands.proofs.Decoding.{marked_same}
use Rattle.hub_commands.proofs.hex_input.HexInput.hint.Goals as goal

pub returns-then-begins_with_mark : goal.returns-then-begins_with_mark
unfolding digits_hint
returns-then-begins_with_mark c = λ input kept.
    let marked : begins_with_mark input ≡ true = marked_same input c.args.self.now.front.items c.deref.result.now kept.front c.deref.ensures.value ∙ sym c.begins_with_mark.ensures ∙ c.if-begins_with_mark.true in
    rw marked refl

pub returns-then-self : goal.returns-then-self
unfolding digits_hint
returns-then-self c = λ input kept.
    let marked : begins_with_mark input ≡ false = marked_same input c.args.self.now.front.items c.deref.result.now kept.front c.deref.ensures.value ∙ sym c.begins_with_mark.ensures ∙ c.if-begins_with_mark.false in
    rw (marked, ← kept.printable, c.if-self.true) (c.hint.ensures (without_blanks input) kept.digits)

pub returns-else-self : goal.returns-else-self
unfolding digits_hint
returns-else-self c = λ input kept.
    let marked : begins_with_mark input ≡ false = marked_same input c.args.self.now.front.items c.deref.result.now kept.front c.deref.ensures.value ∙ sym c.begins_with_mark.ensures ∙ c.if-begins_with_mark.false in
    rw (marked, ← kept.printable, c.if-self.false) refl
