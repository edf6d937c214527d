use Rattle.std.proofs.Common.{◌≡◌, ◌++◌, ℕ, List, [], length, sym, ap, ◌∙◌, append_assoc}
use Rattle.std.specs.Str.{chars}
use Rattle.std.proofs.lemmas.Bool.{eqb-true}
use Rattle.std.proofs.lemmas.List.{nil_from_length}
use Rattle.text_pieces.proofs.Texts.{chars_none}
use Rattle.text_pieces.proofs.extract.Extract.is.Goals as goal

pub loop-part-preserved : goal.loop-part-preserved
loop-part-preserved c =
    let passed = c.loop-part.invariant.passed in
    let done : List ℕ = passed.0 in
    let part : List ℕ = chars c.in-Some.part.now in
    record {
      utf8 = c.in-Some-behind.ensures.utf8;
      passed = (
        done ++ part,
        passed.1 ∙ ap (λ (l : List ℕ). done ++ l) c.in-Some-behind.ensures.whole ∙ sym (append_assoc done part (chars c.in-Some-behind.left.now)),
        passed.2 ∙ ap (λ (l : List ℕ). done ++ l) c.in-Some.ensures.part ∙ sym (append_assoc done part c.next.new.self),
      );
    }

pub returns : goal.returns
returns c = λ yes.
    let passed = c.loop-part.invariant.passed in
    let done : List ℕ = passed.0 in
    let rest : List ℕ = c.loop-part.rest.now in
    let size : length rest ≡ 0 = eqb-true (length rest) 0 yes in
    let none : chars rest ≡ [] = ap chars (nil_from_length rest size) ∙ chars_none in
    passed.2 ∙ ap (λ (l : List ℕ). done ++ l) (c.in_default.ensures.part.1 ∙ sym none) ∙ sym passed.1
