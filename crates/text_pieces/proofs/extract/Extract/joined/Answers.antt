use Rattle.std.proofs.Common.{◌++◌, ℕ, List, length, sym, ap, ◌∙◌, arith, append_assoc, length-append}
use Rattle.std.specs.Str.{chars}
use Rattle.std.specs.String.{string_bytes}
use Rattle.std.proofs.lemmas.Str.{chars-append, IsUtf8-string_bytes}
use Rattle.text_pieces.proofs.Texts.{chars_none}
use Rattle.text_pieces.proofs.extract.Extract.joined.Goals as goal

pub returns-in_default : goal.returns-in_default
returns-in_default c = chars_none ∙ sym c.in_default.ensures.part.1

pub loop-part-smaller : goal.loop-part-smaller
loop-part-smaller c =
    omega (arith, c.in-Some-next.ensures.some, ap length c.in-Some-next.ensures.part, length-append (chars c.in-Some-next.part.now) c.next-in-loop-part.new.self)

pub loop-part-preserved : goal.loop-part-preserved
loop-part-preserved c =
    let old : List ℕ = string_bytes c.loop-part.buffer in
    let part : List ℕ = c.in-Some-next.part.now in
    ap (λ (l : List ℕ). l ++ c.next-in-loop-part.new.self) (ap chars c.in_ok-push_str-2.ensures.bytes ∙ chars-append old part (IsUtf8-string_bytes c.loop-part.buffer))
    ∙ append_assoc (chars old) (chars part) c.next-in-loop-part.new.self
    ∙ ap (λ (l : List ℕ). chars old ++ l) (sym c.in-Some-next.ensures.part)
    ∙ c.loop-part.invariant
