use Rattle.std.proofs.Common.{◌≡◌, ◌∷◌, ◌++◌, drop, sym, ◌∙◌}
use Rattle.hub_commands.specs.Hexadecimal.{without_blanks}
use Rattle.hub_commands.proofs.Runs.{behind_blank, last_taken, none_taken, run_taken}
use Rattle.hub_commands.proofs.digits.Digits.push_text.Goals as goal

pub loop-blank-init : goal.loop-blank-init
loop-blank-init c = λ digits are. none_taken digits c.args.text.now c.args.self.now are

pub loop-blank-preserved : goal.loop-blank-preserved
loop-blank-preserved c = λ digits are.
    let text = c.loop-blank.rest.now in
    let n = c.run_length.result in
    let run = c.run_length.ensures in
    let rest : drop n text ≡ c.in-Some._blank.now ∷ c.in-Some.behind.now = sym c.split_at.ensures.back ∙ c.in-Some.ensures.cases.0 in
    run_taken (digits ++ without_blanks c.args.text.now) text c.in-Some.behind.now c.split_at.result.0.now n c.loop-blank.self c.push.new.self
    run.within run.run run.end (behind_blank text c.in-Some.behind.now c.in-Some._blank.now n rest) c.split_at.ensures.front c.in_ok-push.ensures
    (c.loop-blank.invariant digits are)

pub returns-in_default : goal.returns-in_default
returns-in_default c = λ digits are.
    let text = c.loop-blank.rest.now in
    let n = c.run_length.result in
    let run = c.run_length.ensures in
    last_taken (digits ++ without_blanks c.args.text.now) text c.split_at.result.0.now c.split_at.result.1.now n c.loop-blank.self c.push.new.self
    c.in_default.ensures.cases run.within run.run run.end c.split_at.ensures.front c.split_at.ensures.back c.in_ok-push.ensures (c.loop-blank.invariant digits are)
