use Rattle.std.proofs.Common.{length, sym, subst, arith, ap, ◌∙◌}
use Rattle.std.specs.Char.{encode_utf8}
use Rattle.char_sequence.specs.Held.{Holds}
use Rattle.char_sequence.proofs.Growing.{no_room_iff, nothing_shown}
use Rattle.char_sequence.proofs.sequence.Sequence.has_no_room.Goals as goal

pub overflow_add-result : goal.overflow_add-result
overflow_add-result c =
    let held = c.bytes.ensures in
    let limit = c.self.invariant.1 in
    let few = c.len_utf8.ensures.upper_bound in
    omega (arith, held, limit, few)

pub returns-in-Some : goal.returns-in-Some
returns-in-Some c =
    λ ops h.
    let held = subst (λ v. Holds v ops) (sym c.self.view_is) h in
    no_room_iff ops _ c.args.op.now c.in-Some.character c.bytes.result c.len_utf8.result c.bytes.ensures (c.len_utf8.ensures.len ∙ ap (λ n. length (encode_utf8 n)) c.value.ensures.value) held.shows (c.in-Some.ensures ops h)

pub returns-in-None : goal.returns-in-None
returns-in-None c = λ ops h. nothing_shown ops c.args.op.now (c.in-None.ensures ops h)
