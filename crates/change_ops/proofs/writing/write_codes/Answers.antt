use Rattle.std.proofs.Common.{rules, ◌≡◌, ◌++◌, ◌∷◌}
use Rattle.std.specs.String.{string_bytes}
use Rattle.change_ops.specs.Spelling.{hexadecimal}
use Rattle.change_ops.proofs.Appending.{code_more, codes_done}
use Rattle.change_ops.proofs.writing.write_codes.Goals as goal

pub returns : goal.returns
returns c = codes_done c.args.characters.now c.loop-character.character-index _ _ c.loop-character-test.false c.loop-character.invariant

pub loop-character-preserved : goal.loop-character-preserved
loop-character-preserved c =
    let written : string_bytes c.write.new.self ≡ string_bytes c.loop-character.out ++ 32 ∷ hexadecimal c.character-item.result = search rules in
    code_more c.args.characters.now c.character-item.result c.loop-character.character-index _ _ _ c.loop-character-test.true c.character-item.is written c.loop-character.invariant
