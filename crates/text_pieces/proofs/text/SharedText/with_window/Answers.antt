use Rattle.std.proofs.Common.{◌≡◌, ◌≤◌, ◌+◌, ◌-◌, ◌++◌, ℕ, List, [], length, take, drop, get_or, sym, subst, ap, ◌∙◌, arith, encode_utf8_all}
use Rattle.std.specs.Str.{chars}
use Rattle.std.specs.String.{string_bytes}
use Rattle.std.proofs.lemmas.Option.{get_or_from_slice_get}
use Rattle.piece_tree.specs.declared.piece.Measure.TheVariants.{Characters}
use Rattle.piece_tree.specs.declared.spot.Spot.{Spot}
use Rattle.piece_tree.specs.Nodes.{pieces_of}
use Rattle.piece_tree.specs.Spots.{IsReached}
use Rattle.piece_tree.proofs.Windows.{IsSpot}
use Rattle.text_pieces.specs.Texts.{text_size}
use Rattle.text_pieces.proofs.Bytes.{bytes_with}
use Rattle.text_pieces.proofs.Pieces.{piece_few}
use Rattle.text_pieces.proofs.Spending.{window_spent}
use Rattle.text_pieces.proofs.Windows.{first_whole, spot_is, spots_rise, window_whole}
use Rattle.text_pieces.proofs.text.SharedText.with_window.Goals as goal
use Rattle.text_pieces.proofs.text.SharedText.with_window.Goals.{After-as_str, After-piece-front, After-spot-first, Then-len-eq0, else-to-from, then-to-from}

first_spot : (c : After-spot-first) → IsSpot c.self.inside.pieces c.args.from c.spot-first.result.index c.spot-first.result.characters
first_spot c =
    let size : length (pieces_of c.self.inside.pieces) ≡ length c.args.self.now = ap length c.self.view_is in
    spot_is c.self.inside.pieces c.args.from c.spot-first.result c.spot-first.ensures (omega (arith, c.if-len-eq0.false, c.len.ensures)) (omega (arith, c.requires.order, c.requires.within))

last_reached : (c : After-piece-front) → IsReached text_size Characters c.self.inside.pieces c.args.to c.if-to-from.last
last_reached c = elim c.if-to-from.branch [
  | then-to-from w ↦
      let same : IsReached text_size Characters c.self.inside.pieces c.args.to c.spot-first.result =
      subst (λ (n : ℕ). IsReached text_size Characters c.self.inside.pieces n c.spot-first.result) (sym w.if-to-from.true) c.spot-first.ensures in
      subst (λ (s : Spot). IsReached text_size Characters c.self.inside.pieces c.args.to s) (sym w.last-is) same
  | else-to-from w ↦ subst (λ (s : Spot). IsReached text_size Characters c.self.inside.pieces c.args.to s) (sym w.last-is) w.spot-last.ensures
]

last_spot : (c : After-piece-front) → IsSpot c.self.inside.pieces c.args.to c.if-to-from.last.index c.if-to-from.last.characters
last_spot c =
    let size : length (pieces_of c.self.inside.pieces) ≡ length c.args.self.now = ap length c.self.view_is in
    spot_is c.self.inside.pieces c.args.to c.if-to-from.last (last_reached c) (omega (arith, c.if-len-eq0.false, c.len.ensures)) (omega (arith, c.requires.within))

-- the whole text, by its pieces
whole_is : (c : After-as_str) (a : IsSpot c.self.inside.pieces c.args.from c.spot-first.result.index c.spot-first.result.characters)
    (b : IsSpot c.self.inside.pieces c.args.to c.if-to-from.last.index c.if-to-from.last.characters)
    → pieces_of (take c.spot-first.result.index c.self.inside.pieces) ++ (chars c.as_str.result.now ++ pieces_of (drop c.in_ok-touched.touched.end c.self.inside.pieces))
    ≡ take c.args.from c.args.self.now ++ (chars c.args.new.now ++ drop c.args.to c.args.self.now)
whole_is c a b =
    let ps : List (List ℕ) = c.self.inside.pieces in
    let i : ℕ = c.spot-first.result.index in
    let j : ℕ = c.if-to-from.last.index in
    let o : ℕ = c.args.from - c.spot-first.result.characters in
    let p : ℕ = c.args.to - c.if-to-from.last.characters in
    let new : List ℕ = chars c.args.new.now in
    let end : ℕ = c.in_ok-touched.touched.end in
    let front : c.piece-front.result.now ≡ get_or ps i [] = sym (get_or_from_slice_get ps i c.piece-front.result.now [] c.piece-front.ensures) in
    let back : c.other_piece-back.result.now ≡ get_or ps j [] = sym (get_or_from_slice_get ps j c.other_piece-back.result.now [] c.other_piece-back.ensures) in
    let text : chars (string_bytes c.in_ok-text.text) ≡ take o (get_or ps i []) ++ (new ++ drop p (get_or ps j [])) =
    c.in_ok-text.ensures.text ∙ ap (λ (l : List ℕ). take o l ++ (new ++ drop p c.other_piece-back.result.now)) front
    ∙ ap (λ (l : List ℕ). take o (get_or ps i []) ++ (new ++ drop p l)) back in
    let is : chars c.as_str.result.now ++ pieces_of (drop end ps) ≡ chars (string_bytes c.in_ok-text.text) ++ pieces_of (drop (j + 1) ps) =
    ap (λ (l : List ℕ). chars l ++ pieces_of (drop end ps)) c.as_str.ensures.value ∙ c.in_ok-touched.ensures.same in
    window_whole ps (chars c.as_str.result.now) (chars (string_bytes c.in_ok-text.text)) new c.args.from c.args.to
    i c.spot-first.result.characters j c.if-to-from.last.characters end a b is text
    ∙ ap (λ (l : List ℕ). take c.args.from l ++ (new ++ drop c.args.to l)) c.self.view_is

small : (c : After-as_str) → length c.as_str.result.now ≤ length c.args.new.now + 768
small c =
    let ps : List (List ℕ) = c.self.inside.pieces in
    omega (
      arith,
      piece_few ps c.spot-first.result.index c.piece-front.result.now c.self.invariant.0 c.piece-front.ensures,
      piece_few ps c.if-to-from.last.index c.other_piece-back.result.now c.self.invariant.0 c.other_piece-back.ensures,
      c.in_ok-text.ensures.size,
      c.in_ok-touched.ensures.size,
      ap length c.as_str.ensures.value,
    )

first_bytes : (c : Then-len-eq0)
    → length (encode_utf8_all (pieces_of (take 0 c.self.inside.pieces) ++ (chars c.args.new.now ++ pieces_of (drop 0 c.self.inside.pieces))))
    ≤ length (encode_utf8_all c.args.self.now) + length c.args.new.now
first_bytes c =
    let ps : List (List ℕ) = c.self.inside.pieces in
    let new : List ℕ = chars c.args.new.now in
    let none : length ps ≡ 0 = omega (arith, c.if-len-eq0.true, c.len.ensures) in
    omega (
      arith,
      ap (λ (l : List ℕ). length (encode_utf8_all l)) (first_whole ps new c.args.from c.args.to none),
      bytes_with (pieces_of ps) c.args.new.now c.args.from c.args.to c.utf8.new c.requires.order,
      ap (λ (l : List ℕ). length (encode_utf8_all l)) c.self.view_is,
    )

pub returns-in_err-pieces-clause-spent : goal.returns-in_err-pieces-clause-spent
returns-in_err-pieces-clause-spent c =
    window_spent (length c.args.new.now) (length c.args.new.now)
    (length (encode_utf8_all (pieces_of (take 0 c.self.inside.pieces) ++ (chars c.args.new.now ++ pieces_of (drop 0 c.self.inside.pieces)))))
    (length (encode_utf8_all c.args.self.now) + length c.args.new.now) c.args.budget.now c.with_text.new.budget
    (omega arith) (first_bytes (goal.at.returns-in_err-pieces-clause-spent c).Then-len-eq0) c.with_text.ensures.spent

pub returns-then-len-eq0-clause-spent : goal.returns-then-len-eq0-clause-spent
returns-then-len-eq0-clause-spent c =
    window_spent (length c.args.new.now) (length c.args.new.now)
    (length (encode_utf8_all (pieces_of (take 0 c.self.inside.pieces) ++ (chars c.args.new.now ++ pieces_of (drop 0 c.self.inside.pieces)))))
    (length (encode_utf8_all c.args.self.now) + length c.args.new.now) c.args.budget.now c.with_text.new.budget
    (omega arith) (first_bytes (goal.at.returns-then-len-eq0-clause-spent c).Then-len-eq0) c.with_text.ensures.spent

pub piece-front-requires : goal.piece-front-requires
piece-front-requires c = (first_spot (goal.at.piece-front-requires c).After-spot-first).within

pub other_piece-back-requires-clause-within : goal.other_piece-back-requires-clause-within
other_piece-back-requires-clause-within c = (last_spot (goal.at.other_piece-back-requires-clause-within c).After-piece-front).within

pub overflow_sub-from : goal.overflow_sub-from
overflow_sub-from c = (first_spot (goal.at.overflow_sub-from c).After-spot-first).up_to

pub overflow_sub-to : goal.overflow_sub-to
overflow_sub-to c = (last_spot (goal.at.overflow_sub-to c).After-piece-front).up_to

pub text_around-requires-clause-first : goal.text_around-requires-clause-first
text_around-requires-clause-first c =
    let a = first_spot (goal.at.text_around-requires-clause-first c).After-spot-first in
    omega (arith, a.reached, ap length (get_or_from_slice_get c.self.inside.pieces c.spot-first.result.index c.piece-front.result.now [] c.piece-front.ensures))

pub text_around-requires-clause-last : goal.text_around-requires-clause-last
text_around-requires-clause-last c =
    let b = last_spot (goal.at.text_around-requires-clause-last c).After-piece-front in
    omega (arith, b.reached, ap length (get_or_from_slice_get c.self.inside.pieces c.if-to-from.last.index c.other_piece-back.result.now [] c.other_piece-back.ensures))

pub with_next-requires-clause-within : goal.with_next-requires-clause-within
with_next-requires-clause-within c = omega (arith, (last_spot (goal.at.with_next-requires-clause-within c).After-piece-front).within)

pub with_text-requires-2-clause-order : goal.with_text-requires-2-clause-order
with_text-requires-2-clause-order c =
    let at = (goal.at.with_text-requires-2-clause-order c).After-piece-front in
    let first = (goal.at.with_text-requires-2-clause-order c).After-spot-first in
    omega (
      arith,
      spots_rise c.self.inside.pieces c.args.from c.args.to c.spot-first.result.index c.spot-first.result.characters c.if-to-from.last.index c.if-to-from.last.characters (first_spot first) (last_spot at) c.requires.order,
      c.in_ok-touched.ensures.order,
    )

pub with_text-requires-2-clause-begins : goal.with_text-requires-2-clause-begins
with_text-requires-2-clause-begins c = λ _. (first_spot (goal.at.with_text-requires-2-clause-begins c).After-spot-first).within

pub with_text-requires-2-clause-short : goal.with_text-requires-2-clause-short
with_text-requires-2-clause-short c =
    let at = (goal.at.with_text-requires-2-clause-short c).After-piece-front in
    let first = (goal.at.with_text-requires-2-clause-short c).After-spot-first in
    let whole = whole_is (goal.at.with_text-requires-2-clause-short c).After-as_str (first_spot first) (last_spot at) in
    subst (λ (l : List ℕ). length (encode_utf8_all l) ≤ 2097152) (sym whole) c.requires.short

pub returns-in_err-pieces-2-clause-spent : goal.returns-in_err-pieces-2-clause-spent
returns-in_err-pieces-2-clause-spent c =
    let at = (goal.at.returns-in_err-pieces-2-clause-spent c).After-piece-front in
    let first = (goal.at.returns-in_err-pieces-2-clause-spent c).After-spot-first in
    let on = (goal.at.returns-in_err-pieces-2-clause-spent c).After-as_str in
    let whole = ap (λ (l : List ℕ). length (encode_utf8_all l)) (whole_is on (first_spot first) (last_spot at)) in
    window_spent (length c.as_str.result.now) (length c.args.new.now)
    (length (encode_utf8_all (pieces_of (take c.spot-first.result.index c.self.inside.pieces) ++ (chars c.as_str.result.now ++ pieces_of (drop c.in_ok-touched.touched.end c.self.inside.pieces)))))
    (length (encode_utf8_all c.args.self.now) + length c.args.new.now) c.args.budget.now c.with_text-2.new.budget
    (small on) (omega (arith, whole, bytes_with c.args.self.now c.args.new.now c.args.from c.args.to c.utf8.new c.requires.order)) c.with_text-2.ensures.spent

pub returns-clause-text : goal.returns-clause-text
returns-clause-text c =
    let at = (goal.at.returns-clause-text c).After-piece-front in
    let first = (goal.at.returns-clause-text c).After-spot-first in
    c.in_ok-pieces-2.ensures.flat ∙ whole_is (goal.at.returns-clause-text c).After-as_str (first_spot first) (last_spot at)

pub returns-clause-spent : goal.returns-clause-spent
returns-clause-spent c =
    let at = (goal.at.returns-clause-spent c).After-piece-front in
    let first = (goal.at.returns-clause-spent c).After-spot-first in
    let on = (goal.at.returns-clause-spent c).After-as_str in
    let whole = ap (λ (l : List ℕ). length (encode_utf8_all l)) (whole_is on (first_spot first) (last_spot at)) in
    window_spent (length c.as_str.result.now) (length c.args.new.now)
    (length (encode_utf8_all (pieces_of (take c.spot-first.result.index c.self.inside.pieces) ++ (chars c.as_str.result.now ++ pieces_of (drop c.in_ok-touched.touched.end c.self.inside.pieces)))))
    (length (encode_utf8_all c.args.self.now) + length c.args.new.now) c.args.budget.now c.with_text-2.new.budget
    (small on) (omega (arith, whole, bytes_with c.args.self.now c.args.new.now c.args.from c.args.to c.utf8.new c.requires.order)) c.with_text-2.ensures.spent
