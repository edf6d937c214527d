use Rattle.std.proofs.Common.{length, rules, sym, ap}
use Rattle.std.proofs.lemmas.Str.{chars-IsAscii, chars_from_encodes}
use Rattle.text_pieces.proofs.split.count_characters.Goals as goal

pub returns : goal.returns
returns c = search (rules, chars_from_encodes)

pub returns-then-is_ascii : goal.returns-then-is_ascii
returns-then-is_ascii c = sym (ap length (chars-IsAscii c.args.text.now c.if-is_ascii.ensures.cases))
