use Rattle.std.proofs.Common.{◌≡◌, ◌+◌, ◌-◌, ◌++◌, ℕ, List, length, take, drop, sym, subst, ap, ◌∙◌, arith, length-append, All, encode_utf8_all}
use Rattle.std.specs.Str.{chars}
use Rattle.std.proofs.lemmas.List.{length-drop, length-take-le}
use Rattle.piece_tree.specs.Nodes.{pieces_of}
use Rattle.text_pieces.specs.Texts.{AreAllLarge, AreLarge, IsPiece}
use Rattle.text_pieces.proofs.Spending.{text_spent}
use Rattle.text_pieces.proofs.Windows.{IsPut, text_put}
use Rattle.text_pieces.proofs.text.with_text.Goals as goal
use Rattle.text_pieces.proofs.text.with_text.Goals.{After-as_slice}

put_of : (c : After-as_slice)
    → IsPut (take c.args.first c.args.pieces.now ++ (c.as_slice.result.now ++ drop c.args.end c.args.pieces.now))
    (pieces_of (take c.args.first c.args.pieces.now) ++ (chars c.args.text.now ++ pieces_of (drop c.args.end c.args.pieces.now)))
put_of c =
    text_put c.args.pieces.now c.as_slice.result.now (chars c.args.text.now) c.args.first c.args.end c.requires.filled c.requires.large
    (subst (λ (l : List (List ℕ)). All IsPiece l) (sym c.as_slice.ensures.value) c.in_ok-made.ensures.filled)
    (subst (λ (l : List (List ℕ)). AreLarge l) (sym c.as_slice.ensures.value) c.in_ok-made.ensures.large)
    (λ more. subst (λ (l : List (List ℕ)). AreAllLarge l) (sym c.as_slice.ensures.value) (c.in_ok-made.ensures.all_large (c.requires.enough more)))
    c.requires.begins
    (ap (λ (l : List (List ℕ)). pieces_of l) c.as_slice.ensures.value ∙ c.in_ok-made.ensures.flat)
    c.requires.short

count_of : (c : After-as_slice)
    → length (take c.args.first c.args.pieces.now ++ (c.as_slice.result.now ++ drop c.args.end c.args.pieces.now))
    ≡ c.args.first + length c.as_slice.result.now + (length c.args.pieces.now - c.args.end)
count_of c =
    omega (
      arith,
      c.requires.order,
      c.requires.within,
      length-append (take c.args.first c.args.pieces.now) (c.as_slice.result.now ++ drop c.args.end c.args.pieces.now),
      length-append c.as_slice.result.now (drop c.args.end c.args.pieces.now),
      length-take-le c.args.first c.args.pieces.now (omega (arith, c.requires.order, c.requires.within)),
      length-drop c.args.end c.args.pieces.now,
    )

pub with_window-requires-clause-few : goal.with_window-requires-clause-few
with_window-requires-clause-few c =
    let at = (goal.at.with_window-requires-clause-few c).After-as_slice in
    omega (arith, (put_of at).few, count_of at)

pub with_window-requires-clause-short : goal.with_window-requires-clause-short
with_window-requires-clause-short c = (put_of (goal.at.with_window-requires-clause-short c).After-as_slice).short

pub returns-in_err-next-clause-spent : goal.returns-in_err-next-clause-spent
returns-in_err-next-clause-spent c =
    let at = (goal.at.returns-in_err-next-clause-spent c).After-as_slice in
    let same : length c.as_slice.result.now ≡ length c.in_ok-made.made.items = ap length c.as_slice.ensures.value in
    text_spent (length c.as_slice.result.now) (length c.args.text.now)
    (c.args.first + length c.as_slice.result.now + (length c.args.pieces.now - c.args.end))
    (length (encode_utf8_all (pieces_of (take c.args.first c.args.pieces.now) ++ (chars c.args.text.now ++ pieces_of (drop c.args.end c.args.pieces.now)))))
    c.args.budget.now c.cut.new.budget c.with_window.new.budget
    (omega (arith, c.in_ok-made.ensures.cost)) (omega (arith, c.in_ok-made.ensures.few)) c.with_window.ensures.spent
    (omega (arith, (put_of at).narrow, count_of at))

pub returns-clause-filled : goal.returns-clause-filled
returns-clause-filled c =
    subst (λ (l : List (List ℕ)). All IsPiece l) (sym c.in_ok-next.ensures.pieces) (put_of (goal.at.returns-clause-filled c).After-as_slice).filled

pub returns-clause-large : goal.returns-clause-large
returns-clause-large c =
    subst (λ (l : List (List ℕ)). AreLarge l) (sym c.in_ok-next.ensures.pieces) (put_of (goal.at.returns-clause-large c).After-as_slice).large

pub returns-clause-spent : goal.returns-clause-spent
returns-clause-spent c =
    let at = (goal.at.returns-clause-spent c).After-as_slice in
    let same : length c.as_slice.result.now ≡ length c.in_ok-made.made.items = ap length c.as_slice.ensures.value in
    text_spent (length c.as_slice.result.now) (length c.args.text.now)
    (c.args.first + length c.as_slice.result.now + (length c.args.pieces.now - c.args.end))
    (length (encode_utf8_all (pieces_of (take c.args.first c.args.pieces.now) ++ (chars c.args.text.now ++ pieces_of (drop c.args.end c.args.pieces.now)))))
    c.args.budget.now c.cut.new.budget c.with_window.new.budget
    (omega (arith, c.in_ok-made.ensures.cost)) (omega (arith, c.in_ok-made.ensures.few)) c.with_window.ensures.spent
    (omega (arith, (put_of at).narrow, count_of at))
