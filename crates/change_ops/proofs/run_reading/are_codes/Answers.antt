use Rattle.std.proofs.Common.{◌≡◌, ◌∙◌, ℕ, Option, Some, None, refl, sym, ap, is_ok, arith}
use Rattle.std.specs.Prelude.{is_some}
use Rattle.std.specs.Option.{option_map}
use Rattle.change_ops.specs.Words.{saturated}
use Rattle.change_ops.specs.Reading.{hex_at, characters_at, formed}
use Rattle.change_ops.proofs.CodeLoops.{codes_more, codes_stop, codes_last}
use Rattle.change_ops.proofs.RunReading.{too_many}
use Rattle.change_ops.proofs.run_reading.are_codes.Goals as goal

pub returns-then-count-fields-clause-codes : goal.returns-then-count-fields-clause-codes
returns-then-count-fields-clause-codes c = too_many c.args.count c.args.fields.now (omega arith) (omega arith)

pub returns-then-count-eq0 : goal.returns-then-count-eq0
unfolding characters_at
returns-then-count-eq0 c = let none : c.args.count ≡ 0 = c.if-count-eq0.true in record { codes = sym (ap (λ (k : ℕ). is_some (characters_at k c.args.fields.now)) none); long = omega arith }

pub returns-in_default : goal.returns-in_default
returns-in_default c = record { codes = sym (codes_stop c.args.count c.loop-index.index c.loop-index.rest.now _ c.loop-index-test.true c.in_default.ensures.read.1 c.loop-index.invariant.same); long = omega arith }

pub loop-index-preserved : goal.loop-index-preserved
loop-index-preserved c = record {
  text = c.in-Ok.ensures.text;
  same = codes_more c.args.count c.loop-index.index c.loop-index.rest.now c.in-Ok.after.now _ _ c.loop-index-test.true c.in-Ok.ensures.read c.loop-index.invariant.same;
}

pub returns : goal.returns
returns c = record {
  codes = c.is_ok.ensures.value ∙ ap is_ok c.code_of.ensures ∙ formed_ok (hex_at c.loop-index.rest.now) ∙ sym (codes_last c.args.count c.loop-index.index c.loop-index.rest.now _ c.loop-index-test.false c.loop-index.invariant.same);
  long = omega arith;
} where
  formed_ok : (o : Option ℕ) → is_ok (formed (option_map saturated o)) ≡ is_some o
  formed_ok None = refl
  formed_ok (Some n) = refl
