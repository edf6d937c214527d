use Rattle.std.proofs.Common.{◌≡◌, ◌<◌, ◌≤◌, ◌+◌, ℕ, List, length, take, drop, sym, ap, ◌∙◌, arith, length-append}
use Rattle.std.specs.List.{slice_range}
use Rattle.std.specs.Str.{chars}
use Rattle.piece_tree.specs.Nodes.{pieces_of}
use Rattle.text_pieces.proofs.Pieces.{IsTaken, parted, sum_characters, taken_all, taken_within}
use Rattle.text_pieces.proofs.extract.Extract.next_within.Goals as goal

pub overflow_add-self-inside : goal.overflow_add-self-inside
overflow_add-self-inside c =
    let ps : List (List ℕ) = c.self.inside.pieces.now in
    let i : ℕ = c.self.inside.index in
    omega (
      arith,
      c.min-count.ensures,
      c.self.invariant.0.within,
      c.keeps.ensures.short.characters,
      sum_characters ps,
      ap length (parted ps i),
      length-append (pieces_of (take i ps)) (pieces_of (drop i ps)),
    )

pub returns-then-end-size-clause-part : goal.returns-then-end-size-clause-part
returns-then-end-size-clause-part c =
    let here = c.self.inside in
    let ps : List (List ℕ) = here.pieces.now in
    let piece : List ℕ = c.piece_at-piece.result.now in
    let end : ℕ = c.min-end.result in
    let some : 0 < here.left = omega (arith, c.min-count.ensures, c.if-count-eq0.false) in
    let begun : here.before < length piece = c.self.invariant.0.begins piece some c.piece_at-piece.ensures in
    let order : here.before ≤ end = omega (arith, c.min-end.ensures, c.characters-size.ensures) in
    let most : end ≤ here.before + here.left = omega (arith, c.min-end.ensures, c.min-count.ensures) in
    let cut : chars c.characters_between-part.result.now ≡ slice_range piece here.before end =
    c.characters_between-part.ensures ∙ ap (λ (l : List ℕ). slice_range l here.before end) c.text.ensures in
    let t : IsTaken ps here.index here.before here.left here.index end end (chars c.characters_between-part.result.now) =
    taken_within ps here.index here.before here.left end piece (chars c.characters_between-part.result.now) c.self.invariant.0 c.piece_at-piece.ensures order
    (omega (arith, c.if-end-size.true, c.characters-size.ensures)) most cut in
    sym c.self.view_is ∙ t.parts

pub invariant_of-self-2 : goal.invariant_of-self-2
invariant_of-self-2 c =
    let here = c.self.inside in
    let ps : List (List ℕ) = here.pieces.now in
    let piece : List ℕ = c.piece_at-piece.result.now in
    let end : ℕ = c.min-end.result in
    let some : 0 < here.left = omega (arith, c.min-count.ensures, c.if-count-eq0.false) in
    let begun : here.before < length piece = c.self.invariant.0.begins piece some c.piece_at-piece.ensures in
    let order : here.before ≤ end = omega (arith, c.min-end.ensures, c.characters-size.ensures) in
    let most : end ≤ here.before + here.left = omega (arith, c.min-end.ensures, c.min-count.ensures) in
    let cut : chars c.characters_between-part.result.now ≡ slice_range piece here.before end =
    c.characters_between-part.ensures ∙ ap (λ (l : List ℕ). slice_range l here.before end) c.text.ensures in
    let whole : end ≡ length piece = omega (arith, c.min-end.ensures, c.characters-size.ensures, c.if-end-size.false) in
    let t : IsTaken ps here.index here.before here.left (here.index + 1) 0 end (chars c.characters_between-part.result.now) =
    taken_all ps here.index here.before here.left end piece (chars c.characters_between-part.result.now) c.self.invariant.0 c.piece_at-piece.ensures order whole most cut in
    (t.rest, tt)

pub returns-clause-part : goal.returns-clause-part
returns-clause-part c =
    let here = c.self.inside in
    let ps : List (List ℕ) = here.pieces.now in
    let piece : List ℕ = c.piece_at-piece.result.now in
    let end : ℕ = c.min-end.result in
    let some : 0 < here.left = omega (arith, c.min-count.ensures, c.if-count-eq0.false) in
    let begun : here.before < length piece = c.self.invariant.0.begins piece some c.piece_at-piece.ensures in
    let order : here.before ≤ end = omega (arith, c.min-end.ensures, c.characters-size.ensures) in
    let most : end ≤ here.before + here.left = omega (arith, c.min-end.ensures, c.min-count.ensures) in
    let cut : chars c.characters_between-part.result.now ≡ slice_range piece here.before end =
    c.characters_between-part.ensures ∙ ap (λ (l : List ℕ). slice_range l here.before end) c.text.ensures in
    let whole : end ≡ length piece = omega (arith, c.min-end.ensures, c.characters-size.ensures, c.if-end-size.false) in
    let t : IsTaken ps here.index here.before here.left (here.index + 1) 0 end (chars c.characters_between-part.result.now) =
    taken_all ps here.index here.before here.left end piece (chars c.characters_between-part.result.now) c.self.invariant.0 c.piece_at-piece.ensures order whole most cut in
    sym c.self.view_is ∙ t.parts
