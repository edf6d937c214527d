use Rattle.hex.specs.Hex.{is_hex_digit}
use Rattle.hub_commands.proofs.Runs.{all_joined, odd_joined}
use Rattle.hub_commands.proofs.digits.Digits.push.Goals as goal

pub returns : goal.returns
returns c = λ digits kept. record {
  first = c.in_ok-keep.ensures digits kept.first;
  odd = odd_joined digits c.args.more.now c.args.self.now.is_odd kept.odd;
  right = all_joined is_hex_digit digits c.args.more.now c.args.self.now.are_right c.are_digits.result kept.right c.are_digits.ensures;
}
