-- The greatest counter of two lists of operations, and of those of runs.
use Rattle.std.proofs.Common.{◌≡◌, ℕ, zero, suc, ◌+◌, ◌-◌, ◌<◌, ◌≤◌, max, List, [], ◌∷◌, ◌++◌, Option, Some, refl, sym, ap, ◌∙◌, arith, length, get_or, drop, add-one, drop-cons}
use Rattle.std.proofs.lemmas.List.{drop_all}
use Rattle.std.specs.Ordering.{nat_cmp, ord_max}
use Rattle.change_ops.specs.Ids.{OpId}
use Rattle.change_ops.specs.Lines.{ops_of, ops_of_lines}
use Rattle.change_ops.specs.Operations.{id_of}
use Rattle.change_ops.specs.IdRuns.{removals_from, revivals_from}
use Rattle.change_ops.specs.Runs.{inserts_from, next_id}
use Rattle.change_ops.specs.declared.line.Line.{Line}
use Rattle.change_ops.specs.declared.operation.Op.{Op}
use Rattle.change_counters.specs.Counters.{greatest_counter}

max_of_three : (a b c : ℕ) → max (max a b) c ≡ max a (max b c)
max_of_three a b c = omega arith

-- what a comparison finds
pub greatest_found : (a b found : ℕ) → found ≡ ord_max nat_cmp a b → found ≡ max a b
greatest_found a b found is = grind (arith, is)

-- of one operation it is that one's
pub greatest_of_one : (op : Op) → greatest_counter (op ∷ []) ≡ (id_of op).counter
unfolding greatest_counter
greatest_of_one op = omega arith

-- of two lists it is the greater of theirs
pub greatest_append : (ops more : List Op) → greatest_counter (ops ++ more) ≡ max (greatest_counter ops) (greatest_counter more)
unfolding greatest_counter
greatest_append [] more = omega arith
greatest_append (op ∷ ops) more =
    ap (max (id_of op).counter) (greatest_append ops more) ∙ sym (max_of_three (id_of op).counter (greatest_counter ops) (greatest_counter more))

run_from : (characters : List ℕ) (c : ℕ) (id : OpId) (parent : Option OpId) → greatest_counter (inserts_from id parent (c ∷ characters)) ≡ id.counter + length characters
unfolding greatest_counter inserts_from
run_from [] c id parent = omega arith
run_from (d ∷ characters) c id parent = omega (arith, run_from characters d (next_id id) (Some id))

-- of a run it is that of the last character's
pub greatest_of_run : (characters : List ℕ) (id : OpId) (parent : Option OpId) (counter : ℕ) → 1 ≤ length characters → counter ≡ id.counter + (length characters - 1)
    → counter ≡ greatest_counter (inserts_from id parent characters)
greatest_of_run [] id parent counter some is = absurd (omega (arith, some))
greatest_of_run (c ∷ characters) id parent counter some is = omega (arith, is, run_from characters c id parent)

removals_last : (count : ℕ) (id target : OpId) → greatest_counter (removals_from id target (suc count)) ≡ id.counter + count
unfolding greatest_counter removals_from
removals_last zero id target = omega arith
removals_last (suc count) id target = omega (arith, removals_last count (next_id id) (next_id target))

revivals_last : (count : ℕ) (id removal : OpId) → greatest_counter (revivals_from id removal (suc count)) ≡ id.counter + count
unfolding greatest_counter revivals_from
revivals_last zero id removal = omega arith
revivals_last (suc count) id removal = omega (arith, revivals_last count (next_id id) (next_id removal))

-- of a run of removals, or of revivals, it is that of the last one
pub greatest_of_removals : (count : ℕ) (id target : OpId) (counter : ℕ) → 1 ≤ count → counter ≡ id.counter + (count - 1) → counter ≡ greatest_counter (removals_from id target count)
greatest_of_removals zero id target counter some is = absurd (omega (arith, some))
greatest_of_removals (suc count) id target counter some is = omega (arith, is, removals_last count id target)

pub greatest_of_revivals : (count : ℕ) (id removal : OpId) (counter : ℕ) → 1 ≤ count → counter ≡ id.counter + (count - 1) → counter ≡ greatest_counter (revivals_from id removal count)
greatest_of_revivals zero id removal counter some is = absurd (omega (arith, some))
greatest_of_revivals (suc count) id removal counter some is = omega (arith, is, revivals_last count id removal)

-- the greatest so far, with the lines that are left
pub greatest_more : (lines : List Line) (line : Line) (i greatest own next total : ℕ) → i < length lines → line ≡ get_or lines i line → own ≡ greatest_counter (ops_of line)
    → next ≡ max greatest own → max greatest (greatest_counter (ops_of_lines (drop i lines))) ≡ total → max next (greatest_counter (ops_of_lines (drop (i + 1) lines))) ≡ total
unfolding ops_of_lines
greatest_more lines line i greatest own next total lt is counted top so_far =
    let left : drop i lines ≡ line ∷ drop (i + 1) lines = rw (add-one, drop-cons lines i line lt, ← is) refl in
    let rest = ops_of_lines (drop (i + 1) lines) in
    let both : greatest_counter (ops_of_lines (drop i lines)) ≡ max (greatest_counter (ops_of line)) (greatest_counter rest) =
    ap (λ l. greatest_counter (ops_of_lines l)) left ∙ greatest_append (ops_of line) rest in
    omega (arith, counted, top, so_far, both)

pub greatest_done : (lines : List Line) (i greatest total : ℕ) → length lines ≤ i → max greatest (greatest_counter (ops_of_lines (drop i lines))) ≡ total → greatest ≡ total
unfolding ops_of_lines greatest_counter
greatest_done lines i greatest total le so_far =
    let none : greatest_counter (ops_of_lines (drop i lines)) ≡ 0 = ap (λ l. greatest_counter (ops_of_lines l)) (drop_all i lines le) in
    omega (arith, none, so_far)
