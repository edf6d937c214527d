use Rattle.std.proofs.Common.{◌≡◌, ◌++◌, ◌+◌, ◌≤◌, ◌∷◌, [], ℕ, List, length, sym, subst, ap, ◌∙◌, arith, append_assoc, length-append, All}
use Rattle.std.specs.Str.{chars}
use Rattle.std.proofs.lemmas.List.{append-nil, nil_from_length}
use Rattle.std.proofs.lemmas.List.Elements.{All-append, All-cons, All-nil}
use Rattle.piece_tree.specs.Nodes.{pieces_of}
use Rattle.text_pieces.specs.Texts.{AreAllLarge, AreLarge, IsPiece}
use Rattle.text_pieces.proofs.Large.{all_joined, large_joined}
use Rattle.text_pieces.proofs.Pieces.{pieces_append}
use Rattle.text_pieces.proofs.Texts.{chars_none}
use Rattle.text_pieces.proofs.cut.cut.Goals as goal

-- pieces with one more
flat_more : (old new : List (List ℕ)) (more : List ℕ) → new ≡ old ++ more ∷ [] → pieces_of new ≡ pieces_of old ++ more
flat_more old new more e =
    ap (λ (l : List (List ℕ)). pieces_of l) e ∙ pieces_append old (more ∷ []) ∙ ap (λ (l : List ℕ). pieces_of old ++ l) (append-nil more)

filled_more : (old new : List (List ℕ)) (more : List ℕ) → new ≡ old ++ more ∷ [] → All IsPiece old → IsPiece more → All IsPiece new
filled_more old new more e filled is =
    subst (λ (l : List (List ℕ)). All IsPiece l) (sym e) (All-append IsPiece old (more ∷ []) filled (All-cons IsPiece more [] is (All-nil IsPiece)))

count_more : (old new : List (List ℕ)) (more : List ℕ) → new ≡ old ++ more ∷ [] → length new ≡ length old + 1
count_more old new more e = ap length e ∙ length-append old (more ∷ [])

pub loop-rest-preserved : goal.loop-rest-preserved
loop-rest-preserved c =
    let old : List (List ℕ) = c.loop-rest.pieces.items in
    let new : List (List ℕ) = c.add.new.pieces.items in
    let before : List ℕ = pieces_of old in
    let first : List ℕ = chars c.split_near.result.0.now in
    let second : List ℕ = chars c.split_near.result.1.now in
    let near : 192 ≤ length c.split_near.result.0.now + 3 = c.split_near.ensures.near (omega arith) (omega (arith, c.loop-rest-test.true)) in
    let most : length c.split_near.result.0.now ≤ 192 = c.split_near.ensures.most (omega arith) (omega (arith, c.loop-rest-test.true)) in
    let count : length new ≡ length old + 1 = count_more old new first c.in_ok-add.ensures.added in
    record {
      utf8 = c.split_near.ensures.utf8;
      flat = ap (λ (l : List ℕ). l ++ second) (flat_more old new first c.in_ok-add.ensures.added) ∙ append_assoc before first second
          ∙ ap (λ (l : List ℕ). before ++ l) c.split_near.ensures.whole ∙ c.loop-rest.invariant.flat;
      filled = filled_more old new first c.in_ok-add.ensures.added c.loop-rest.invariant.filled c.in_ok-add.ensures.piece;
      large = subst (λ (l : List (List ℕ)). AreAllLarge l) (sym c.in_ok-add.ensures.added)
          (all_joined old (first ∷ []) c.loop-rest.invariant.large (omega (arith, c.in_ok-add.ensures.size), tt));
      left = λ long. omega (arith, c.split_near.ensures.size, c.loop-rest-test.true);
      few = omega (arith, c.loop-rest.invariant.few, c.split_near.ensures.size);
      cost = omega (arith, c.loop-rest.invariant.cost, c.split_near.ensures.size, c.add.ensures.paid);
      less = omega (arith, c.loop-rest.invariant.less, c.add.ensures.paid);
    }

pub returns-then-rest-eq0-clause-flat : goal.returns-then-rest-eq0-clause-flat
returns-then-rest-eq0-clause-flat c =
    let before : List ℕ = pieces_of c.loop-rest.pieces.items in
    let none : chars c.loop-rest.rest.now ≡ [] = ap chars (nil_from_length c.loop-rest.rest.now (omega (arith, c.if-rest-eq0.true))) ∙ chars_none in
    sym (append-nil before) ∙ ap (λ (l : List ℕ). before ++ l) (sym none) ∙ c.loop-rest.invariant.flat

pub returns-clause-flat : goal.returns-clause-flat
returns-clause-flat c = flat_more c.loop-rest.pieces.items c.add-2.new.pieces.items (chars c.loop-rest.rest.now) c.in_ok-add-2.ensures.added ∙ c.loop-rest.invariant.flat

pub returns-clause-filled : goal.returns-clause-filled
returns-clause-filled c =
    filled_more c.loop-rest.pieces.items c.add-2.new.pieces.items (chars c.loop-rest.rest.now) c.in_ok-add-2.ensures.added c.loop-rest.invariant.filled c.in_ok-add-2.ensures.piece

pub returns-clause-large : goal.returns-clause-large
returns-clause-large c =
    subst (λ (l : List (List ℕ)). AreLarge l) (sym c.in_ok-add-2.ensures.added)
    (large_joined c.loop-rest.pieces.items (chars c.loop-rest.rest.now ∷ []) c.loop-rest.invariant.large tt)

pub returns-clause-all_large : goal.returns-clause-all_large
returns-clause-all_large c = λ long.
    let left = c.loop-rest.invariant.left long in
    subst (λ (l : List (List ℕ)). AreAllLarge l) (sym c.in_ok-add-2.ensures.added)
    (all_joined c.loop-rest.pieces.items (chars c.loop-rest.rest.now ∷ []) c.loop-rest.invariant.large (omega (arith, c.in_ok-add-2.ensures.size), tt))
