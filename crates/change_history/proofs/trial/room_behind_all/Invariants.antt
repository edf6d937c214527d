use Rattle.std.proofs.Common.{◌≡◌, ◌+◌, length, drop}
use Rattle.std.specs.Prelude.{encode_utf8_all}
use Rattle.change_history.proofs.trial.room_behind_all.Given as goal

abbrev pub invariant-loop-character : goal.invariant-loop-character
invariant-loop-character l = l.left + length (encode_utf8_all l.characters) ≡ l.room + length (encode_utf8_all (drop l.character-index l.characters))
