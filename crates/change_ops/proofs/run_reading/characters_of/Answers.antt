use Rattle.std.proofs.Common.{rules, ◌≡◌, ◌∙◌, ◌++◌, ◌∷◌, [], Result, Ok, Err, Vec, Global, sym, ap, subst, arith}
use Rattle.std.proofs.lemmas.Grind.{common_steps}
use Rattle.change_ops.specs.Reading.{ReadsAs, characters_at, encoded_all}
use Rattle.change_ops.specs.declared.character.Character.{Character}
use Rattle.change_ops.specs.declared.refusal.LineFault.{LineFault}
use Rattle.change_ops.proofs.CodeLoops.{with_last, all_last}
use Rattle.change_ops.proofs.RunReading.{err_told}
use Rattle.change_ops.proofs.run_reading.characters_of.Goals as goal

pub returns-in_err-last : goal.returns-in_err-last
returns-in_err-last c =
    let given : c.from_residual-in_err-last.result ≡ Err c.in_err-last.field-0.0 = grind (arith, common_steps) in
    let total = all_last c.args.count c.loop-index.index c.loop-index.characters.items c.loop-index.rest.now _ c.loop-index-test.false c.loop-index.invariant.same in
    let told : encoded_all (characters_at c.args.count c.args.fields.now) ≡ Err c.in_err-last.field-0.0 = total ∙ ap (with_last c.loop-index.characters.items) (sym c.character_of.ensures ∙ c.in_err-last.was) in
    subst (λ (r : Result (Vec Character Global) LineFault). ReadsAs (λ v. v.items) r (encoded_all (characters_at c.args.count c.args.fields.now))) (sym given) (err_told (Vec Character Global) (λ v. v.items) c.in_err-last.field-0.0 _ told)

pub returns : goal.returns
returns c =
    let total = all_last c.args.count c.loop-index.index c.loop-index.characters.items c.loop-index.rest.now _ c.loop-index-test.false c.loop-index.invariant.same in
    let pushed : c.push-2.new.self.items ≡ c.loop-index.characters.items ++ c.in_ok-last.last ∷ [] = search rules in
    total ∙ ap (with_last c.loop-index.characters.items) (sym c.character_of.ensures ∙ c.in_ok-last.was) ∙ ap Ok (sym pushed)
