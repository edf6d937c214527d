use Rattle.hub_commands.specs.Digits.{AreDigits}
use Rattle.std.proofs.Common.{ℕ, List, not, subst, sym}
use Rattle.std.proofs.lemmas.List.Elements.{filter-append}
use Rattle.hub_commands.specs.Hexadecimal.{is_blank, without_blanks}
use Rattle.hub_commands.specs.Hints.{is_printable}
use Rattle.hub_commands.proofs.ReadingChanges.{on_ok}
use Rattle.hub_commands.proofs.Runs.{all_joined}
use Rattle.hub_commands.proofs.hex_input.HexInputGather.push_piece.Goals as goal

pub returns : goal.returns
returns c =
    let piece = c.args.piece.now in
    on_ok _ _ c.push_text.result c.push_text.ensures (λ more terms input kept.
    record {
      front = c.in_ok-keep.ensures input kept.front;
      printable = all_joined is_printable input piece c.args.self.now.are_printable c.are_printable.result kept.printable c.are_printable.ensures;
      digits = subst (λ (l : List ℕ). AreDigits l c.push_text.new.self) (sym (filter-append (λ byte. not (is_blank byte)) input piece)) (more (without_blanks input) kept.digits);
    })
