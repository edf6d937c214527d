use Rattle.std.proofs.Common.{◌≡◌, ◌≤◌, ℕ, List, length, take, drop, sym, ap, ◌∙◌, arith, length-append}
use Rattle.std.proofs.lemmas.List.{length-drop, length-take-le}
use Rattle.piece_tree.specs.Nodes.{pieces_of}
use Rattle.text_pieces.specs.Texts.{extracted}
use Rattle.text_pieces.proofs.Pieces.{extract_parted, parted, rest_within, sum_characters}
use Rattle.text_pieces.proofs.extract.Extract.take_front.Goals as goal

pub overflow_add-self-inside : goal.overflow_add-self-inside
overflow_add-self-inside c =
    let here = c.self.inside in
    let ps : List (List ℕ) = here.pieces.now in
    let left : List ℕ = pieces_of (drop here.index ps) in
    let size : length (extracted ps here.index here.before here.left) ≡ here.left =
    length-take-le here.left (drop here.before left) (omega (arith, c.self.invariant.0.within, length-drop here.before left)) in
    omega (
      arith,
      c.requires,
      ap length c.self.view_is,
      size,
      c.self.invariant.0.within,
      c.keeps.ensures.short.characters,
      sum_characters ps,
      ap length (parted ps here.index),
      length-append (pieces_of (take here.index ps)) left,
    )

pub invariant_of-self : goal.invariant_of-self
invariant_of-self c =
    let here = c.self.inside in
    let ps : List (List ℕ) = here.pieces.now in
    let place = c.place_behind-place in
    let left : List ℕ = pieces_of (drop here.index ps) in
    let size : length (extracted ps here.index here.before here.left) ≡ here.left =
    length-take-le here.left (drop here.before left) (omega (arith, c.self.invariant.0.within, length-drop here.before left)) in
    let within : c.args.count ≤ here.left = omega (arith, c.requires, ap length c.self.view_is, size) in (
      record {
        filled = c.self.invariant.0.filled;
        within = rest_within left (pieces_of (drop place.result.index ps)) here.before c.args.count here.left place.result.before within c.self.invariant.0.within place.ensures.within place.ensures.same;
        begins = λ piece some is. place.ensures.begins piece is;
      },
      place.ensures.known,
    )

pub returns-clause-parts : goal.returns-clause-parts
returns-clause-parts c =
    let here = c.self.inside in
    let ps : List (List ℕ) = here.pieces.now in
    let place = c.place_behind-place in
    let left : List ℕ = pieces_of (drop here.index ps) in
    let size : length (extracted ps here.index here.before here.left) ≡ here.left =
    length-take-le here.left (drop here.before left) (omega (arith, c.self.invariant.0.within, length-drop here.before left)) in
    let within : c.args.count ≤ here.left = omega (arith, c.requires, ap length c.self.view_is, size) in
    sym c.self.view_is
    ∙ extract_parted left (pieces_of (drop place.result.index ps)) here.before c.args.count here.left place.result.before within place.ensures.same
