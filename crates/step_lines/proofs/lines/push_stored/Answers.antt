use Rattle.std.proofs.Common.{◌≡◌, ◌++◌, ℕ, List, OnOk, subst, ap, ◌∙◌}
use Rattle.std.specs.Prelude.{string_bytes}
use Rattle.std.specs.Int.{w16}
use Rattle.std.proofs.lemmas.Int.{to_z-of_z}
use Rattle.semantics.specs.Memory.{address_of}
use Rattle.interpreter.specs.Running.{state_of}
use Rattle.step_lines.proofs.Stored.{stored-told}
use Rattle.step_lines.proofs.lines.push_stored.Goals as goal

pub returns : goal.returns
returns c =
    let addressed : c.address-address.result ≡ address_of c.in-Ok.first c.args.offset =
    c.address-address.ensures ∙ ap (address_of c.in-Ok.first) (to_z-of_z w16 c.args.offset c.ranges.offset) in
    subst (λ (line : List ℕ). OnOk c.push_stack.result (string_bytes c.push_stack.new.text ≡ string_bytes c.args.text.now ++ line))
    (stored-told c.args.machine.now.bytes (state_of c.args.machine.now) c.args.size c.args.base c.args.offset c.in-Ok.first c.address-address.result c.in-Ok-number_at.number c.in-Ok.ensures addressed c.in-Ok-number_at.ensures)
    c.push_stack.ensures
