use Rattle.std.proofs.Common.{◌≡◌, ◌∙◌, Bool, Err, sym, ap, subst, cond, arith}
use Rattle.std.proofs.lemmas.Grind.{common_steps}
use Rattle.change_ops.specs.Reading.{IsFirst}
use Rattle.change_ops.specs.declared.refusal.LineFault.TheVariants.{BadLine, CharRefused}
use Rattle.change_ops.proofs.CodeLoops.{first_found, first_refused, first_missing}
use Rattle.change_ops.proofs.run_reading.next_character.Goals as goal

pub returns-in_err-code-clause-read : goal.returns-in_err-code-clause-read
returns-in_err-code-clause-read c =
    let given : c.from_residual.result ≡ Err c.in_err-code.field-0.0 = grind (arith, common_steps) in
    subst (IsFirst c.args.others c.args.fields.now) (sym (given ∙ ap Err c.in_err-code.ensures.read.0))
    (first_missing c.args.others c.args.fields.now c.requires c.in_err-code.ensures.read.1)

pub returns-in-Some-clause-read : goal.returns-in-Some-clause-read
returns-in-Some-clause-read c =
    first_found c.args.others c.args.fields.now c.in_ok-code.after.now c.in_ok-code.code c.in-Some.character c.requires c.in_ok-code.ensures.read (sym c.new.ensures ∙ c.in-Some.is)

pub returns-in-None-clause-read : goal.returns-in-None-clause-read
returns-in-None-clause-read c =
    first_refused c.args.others c.args.fields.now c.in_ok-code.after.now c.in_ok-code.code c.are_codes.result c.requires c.in_ok-code.ensures.read (sym c.new.ensures ∙ c.in-None.is) c.are_codes.ensures.codes
    ∙ ap (λ (b : Bool). cond b (Err CharRefused) (Err BadLine)) c.if-are_codes.true

pub returns-in-None-2-clause-read : goal.returns-in-None-2-clause-read
returns-in-None-2-clause-read c =
    first_refused c.args.others c.args.fields.now c.in_ok-code.after.now c.in_ok-code.code c.are_codes.result c.requires c.in_ok-code.ensures.read (sym c.new.ensures ∙ c.in-None-2.is) c.are_codes.ensures.codes
    ∙ ap (λ (b : Bool). cond b (Err CharRefused) (Err BadLine)) c.if-are_codes.false
