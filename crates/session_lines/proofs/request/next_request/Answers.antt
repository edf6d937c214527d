use Rattle.std.proofs.Common.{sym, ap, subst, ◌∙◌}
use Rattle.session_lines.specs.Lines.{Arrives}
use Rattle.session_lines.specs.Commands.{IsAsked}
use Rattle.session_lines.specs.Changes.{is_header}
use Rattle.session_lines.specs.Foreign.{is_foreign}
use Rattle.session_lines.specs.Requests.{unended_as}
use Rattle.session_lines.proofs.Nexts.{next_command, next_foreign, next_mapped, next_unended, next_long}
use Rattle.session_lines.proofs.request.next_request.Goals as goal

pub returns-then-is_foreign : goal.returns-then-is_foreign
returns-then-is_foreign g c =
    next_foreign _ c.advance.new.self (subst (λ a. Arrives c.args.reader.now.left a c.advance.new.self) c.in-Whole.is c.in_ok-advance.ensures)
    (ap is_foreign (sym c.line.ensures) ∙ sym c.is_foreign.ensures ∙ c.if-is_foreign.true)

pub returns-then-is_header : goal.returns-then-is_header
returns-then-is_header g c =
    next_mapped _ c.advance.new.self _ c.next_change.result (subst (λ a. Arrives c.args.reader.now.left a c.advance.new.self) c.in-Whole.is c.in_ok-advance.ensures)
    (ap is_foreign (sym c.line.ensures) ∙ sym c.is_foreign.ensures ∙ c.if-is_foreign.false)
    (ap is_header (sym c.line-else-is_foreign.ensures) ∙ sym c.is_header.ensures ∙ c.if-is_header.true) c.next_change.ensures

pub returns-else-is_header : goal.returns-else-is_header
returns-else-is_header g c =
    next_command _ c.advance.new.self _ c.command_of.result (subst (λ a. Arrives c.args.reader.now.left a c.advance.new.self) c.in-Whole.is c.in_ok-advance.ensures)
    (ap is_foreign (sym c.line.ensures) ∙ sym c.is_foreign.ensures ∙ c.if-is_foreign.false)
    (ap is_header (sym c.line-else-is_foreign.ensures) ∙ sym c.is_header.ensures ∙ c.if-is_header.false)
    (subst (λ l. IsAsked l c.command_of.result) c.line-else-is_header.ensures c.command_of.ensures) c.from.ensures

pub returns-in-Unended : goal.returns-in-Unended
returns-in-Unended g c =
    next_unended _ c.advance.new.self c.unended.result (subst (λ a. Arrives c.args.reader.now.left a c.advance.new.self) c.in-Unended.is c.in_ok-advance.ensures)
    (c.unended.ensures ∙ ap unended_as c.line-in-Unended.ensures)

pub returns-in-TooLong : goal.returns-in-TooLong
returns-in-TooLong g c = next_long _ c.advance.new.self (subst (λ a. Arrives c.args.reader.now.left a c.advance.new.self) c.in-TooLong.is c.in_ok-advance.ensures)
