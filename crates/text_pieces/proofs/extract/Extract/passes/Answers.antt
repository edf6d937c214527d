use Rattle.std.proofs.Common.{◌≡◌, ◌++◌, ℕ, List, [], length, sym, ap, ◌∙◌, arith, append_assoc}
use Rattle.std.specs.Str.{chars}
use Rattle.std.proofs.lemmas.List.{append-nil, nil_from_length}
use Rattle.text_pieces.proofs.Texts.{chars_none}
use Rattle.text_pieces.proofs.extract.Extract.passes.Goals as goal

pub loop-rest-preserved : goal.loop-rest-preserved
loop-rest-preserved c =
    let passed = c.loop-rest.invariant.passed in
    let done : List ℕ = passed.0 in
    let part : List ℕ = chars c.in-Some.part.now in
    record {
      utf8 = c.in-Some-behind.ensures.utf8;
      passed = (
        done ++ part,
        passed.1 ∙ ap (λ (l : List ℕ). done ++ l) c.in-Some-behind.ensures.whole ∙ sym (append_assoc done part (chars c.in-Some-behind.left.now)),
        passed.2 ∙ ap (λ (l : List ℕ). done ++ l) c.in-Some.ensures.part ∙ sym (append_assoc done part c.next_within.new.self),
      );
    }

pub returns : goal.returns
returns c = λ _.
    let passed = c.loop-rest.invariant.passed in
    let done : List ℕ = passed.0 in
    let rest : List ℕ = c.loop-rest.rest.now in
    let size : length rest ≡ 0 = omega (arith, c.loop-rest-test.false) in
    let none : chars rest ≡ [] = ap chars (nil_from_length rest size) ∙ chars_none in
    passed.2 ∙ ap (λ (l : List ℕ). l ++ c.loop-rest.self) (sym (passed.1 ∙ ap (λ (l : List ℕ). done ++ l) none ∙ append-nil done))
