use Rattle.std.proofs.Common.{◌≡◌, length, rules, refl}
use Rattle.std.specs.Str.{chars}
use Rattle.std.proofs.lemmas.Str.{chars_from_encodes}
use Rattle.filter_cases.proofs.marks.Marks.facts.Goals as goal

pub returns-clause-value : goal.returns-clause-value
returns-clause-value c =
    let counted : c.count.result ≡ length (chars c.args.text.now) = search (rules, chars_from_encodes) in
    rw (counted, c.link.ensures.value, c.flags.ensures, c.color.ensures) refl
