-- The change of the lines of two.
use Rattle.std.proofs.Common.{◌≡◌, ℕ, Bool, ◌+◌, ◌<◌, ◌≤◌, true, List, [], ◌∷◌, ◌++◌, length, get_or, drop, add-one, drop-cons, refl, sym, ap, subst, ◌∙◌, arith, append_assoc, length-append}
use Rattle.std.specs.Prelude.{IsTrue, nat_le, ◌&&◌, ◌==◌}
use Rattle.std.specs.List.{AllByRecursion}
use Rattle.std.proofs.lemmas.List.{drop_all}
use Rattle.std.proofs.lemmas.Bool.{and_parts, leb-true, le-leb, eqb-true}
use Rattle.change_ops.specs.Changes.{Change, IsChange, IsLine, operations}
use Rattle.change_ops.specs.Keys.{form_of, is_at_most, number_of_form}
use Rattle.change_ops.specs.Lines.{ops_of, ops_of_lines, count_of, count_of_lines, line_within, has_key, has_op, has_line}
use Rattle.change_ops.specs.Operations.{key_of}
use Rattle.change_ops.specs.declared.attribute.Key.{Key}
use Rattle.change_ops.specs.declared.attribute.Key.TheVariants as key
use Rattle.change_ops.specs.declared.line.Form.{Form}
use Rattle.change_ops.specs.declared.line.Form.TheVariants.{First, Second, Third}
use Rattle.change_ops.specs.declared.line.Line.{Line}
use Rattle.change_ops.specs.declared.operation.Op.{Op}
use Rattle.change_ops.specs.declared.operation.Op.TheVariants.{Insert, Remove, AddMark, RemoveMark, Revive}
use Rattle.change_ops.specs.declared.line.Line.TheVariants.{Operation, Run, Removals, Revivals}
use Rattle.change_ops.proofs.RoomLaws.{more_count, no_count}
use Rattle.change_ops.proofs.RunLaws.{run_limits}
use Rattle.change_join.specs.Joined.{can_join, wider, both_of}

pub ops-append : (lines more : List Line) → ops_of_lines (lines ++ more) ≡ ops_of_lines lines ++ ops_of_lines more
unfolding ops_of_lines
ops-append [] more = refl
ops-append (line ∷ lines) more =
    ap (λ (ops : _). ops_of line ++ ops) (ops-append lines more) ∙ sym (append_assoc (ops_of line) (ops_of_lines lines) (ops_of_lines more))

-- their operations
pub both_operations : (change next : Change) → operations (both_of change next) ≡ operations change ++ operations next
both_operations change next = ops-append change.lines next.lines

pub both_meant : (change next : Change) → length (operations (both_of change next)) ≡ length (operations change) + length (operations next)
both_meant change next = ap length (both_operations change next) ∙ length-append (operations change) (operations next)

-- how many they are
pub count-append : (lines more : List Line) → count_of_lines (lines ++ more) ≡ count_of_lines lines + count_of_lines more
count-append [] more = let none = no_count in omega (arith, none)
count-append (line ∷ lines) more =
    let all : count_of_lines (lines ++ more) ≡ count_of_lines lines + count_of_lines more = count-append lines more in
    let whole : count_of_lines ((line ∷ lines) ++ more) ≡ count_of line + count_of_lines (lines ++ more) = more_count line (lines ++ more) in
    let front : count_of_lines (line ∷ lines) ≡ count_of line + count_of_lines lines = more_count line lines in
    omega (arith, all, whole, front)

pub both_count : (change next : Change) → count_of_lines (both_of change next).lines ≡ count_of_lines change.lines + count_of_lines next.lines
both_count change next = count-append change.lines next.lines

-- what a test says
pub record CanJoin (change next : Change) : Type 0 where
  pub node : change.node ≡ next.node
  pub few : count_of_lines change.lines + count_of_lines next.lines ≤ 256
  pub meant : length (operations change) + length (operations next) ≤ 262144

abbrev pub counts_fit : Change → Change → Bool
counts_fit change next = nat_le (count_of_lines change.lines + count_of_lines next.lines) 256

abbrev pub meanings_fit : Change → Change → Bool
meanings_fit change next = nat_le (length (operations change) + length (operations next)) 262144

pub joinable : (change next : Change) → can_join change next ≡ true → CanJoin change next
joinable change next e =
    let parts = and_parts (change.node == next.node) (counts_fit change next && meanings_fit change next) e in
    let fits = and_parts (counts_fit change next) (meanings_fit change next) parts.1 in
    record { node = eqb-true _ _ parts.0; few = leb-true _ _ fits.0; meant = leb-true _ _ fits.1 }

-- ---- changes of a form have what those of an earlier one have
known_still : (needed form other : Form) → number_of_form form ≤ number_of_form other → IsTrue (is_at_most needed form) → IsTrue (is_at_most needed other)
known_still needed form other more known =
    let least = leb-true (number_of_form needed) (number_of_form form) known in
    le-leb (number_of_form needed) (number_of_form other) (omega (arith, least, more))

key_still : (form other : Form) (k : Key) → number_of_form form ≤ number_of_form other → IsTrue (has_key form k) → IsTrue (has_key other k)
key_still form other (key.Row row) more has = known_still (form_of row) form other more has
key_still form other (key.Comment number) more has = refl

op_still : (form other : Form) (op : Op) → number_of_form form ≤ number_of_form other → IsTrue (has_op form op) → IsTrue (has_op other op)
op_still form other (Insert id parent character) more has = refl
op_still form other (Remove id target) more has = refl
op_still form other (AddMark id attribute start end) more has = key_still form other (key_of attribute) more has
op_still form other (RemoveMark id k start end) more has = key_still form other k more has
op_still form other (Revive id removal) more has = known_still Third form other more has

line_still : (form other : Form) (line : Line) → number_of_form form ≤ number_of_form other → IsTrue (has_line form line) → IsTrue (has_line other line)
line_still form other (Operation op) more has = op_still form other op more has
line_still form other (Run run) more has = known_still Second form other more has
line_still form other (Removals run) more has = known_still Third form other more has
line_still form other (Revivals run) more has = known_still Third form other more has

-- its lines are of the wider form
left_wider : (form other : Form) → number_of_form form ≤ number_of_form (wider form other)
left_wider First First = omega arith
left_wider First Second = omega arith
left_wider First Third = omega arith
left_wider Second First = omega arith
left_wider Second Second = omega arith
left_wider Second Third = omega arith
left_wider Third other = omega arith

right_wider : (form other : Form) → number_of_form other ≤ number_of_form (wider form other)
right_wider First other = omega arith
right_wider Second First = omega arith
right_wider Second Second = omega arith
right_wider Second Third = omega arith
right_wider Third First = omega arith
right_wider Third Second = omega arith
right_wider Third Third = omega arith

wider_left : (form other : Form) (line : Line) → IsTrue (has_line form line) → IsTrue (has_line (wider form other) line)
wider_left form other line has = line_still form (wider form other) line (left_wider form other) has

wider_right : (form other : Form) (line : Line) → IsTrue (has_line other line) → IsTrue (has_line (wider form other) line)
wider_right form other line has = line_still other (wider form other) line (right_wider form other) has

module _ (form other : Form) (peer : ℕ) where
  lines_left : (lines : List Line) → AllByRecursion (IsLine form peer) lines → AllByRecursion (IsLine (wider form other) peer) lines
  lines_left [] h = tt
  lines_left (line ∷ lines) h =
      (record { own = h.0.own; within = h.0.within; characters = h.0.characters; formed = wider_left form other line h.0.formed }, lines_left lines h.1)

  lines_right : (lines : List Line) → AllByRecursion (IsLine other peer) lines → AllByRecursion (IsLine (wider form other) peer) lines
  lines_right [] h = tt
  lines_right (line ∷ lines) h =
      (record { own = h.0.own; within = h.0.within; characters = h.0.characters; formed = wider_right form other line h.0.formed }, lines_right lines h.1)

  lines_both : (lines more : List Line) → AllByRecursion (IsLine form peer) lines → AllByRecursion (IsLine other peer) more → AllByRecursion (IsLine (wider form other) peer) (lines ++ more)
  lines_both [] more h k = lines_right more k
  lines_both (line ∷ lines) more h k =
      (record { own = h.0.own; within = h.0.within; characters = h.0.characters; formed = wider_left form other line h.0.formed }, lines_both lines more h.1 k)

pub both_is_change : (change next : Change) → can_join change next ≡ true → IsChange change → IsChange next → IsChange (both_of change next)
both_is_change change next e h k =
    let c = joinable change next e in
    let count = both_count change next in
    let some = h.some in
    let few = c.few in
    let both_mean = both_meant change next in
    let meant = c.meant in
    record {
      named = h.named;
      known = h.known;
      some = omega (arith, length-append change.lines next.lines, some);
      few = omega (arith, count, few);
      meant = omega (arith, both_mean, meant);
      lines = lines_both change.form next.form change.node change.lines next.lines h.lines (subst (λ (n : ℕ). AllByRecursion (IsLine next.form n) next.lines) (sym c.node) k.lines);
    }

-- ---- how many operations lines are
pub count_more : (lines : List Line) (line : Line) (i count own total : ℕ) → i < length lines → line ≡ get_or lines i line → own ≡ count_of line
    → count + count_of_lines (drop i lines) ≡ total → (count + own) + count_of_lines (drop (i + 1) lines) ≡ total
count_more lines line i count own total lt is counted so_far =
    let left : drop i lines ≡ line ∷ drop (i + 1) lines = rw (add-one, drop-cons lines i line lt, ← is) refl in
    let both : count_of_lines (drop i lines) ≡ count_of line + count_of_lines (drop (i + 1) lines) =
    ap (λ (l : List Line). count_of_lines l) left ∙ more_count line (drop (i + 1) lines) in
    omega (arith, counted, so_far, both)

pub count_done : (lines : List Line) (i count total : ℕ) → length lines ≤ i → count + count_of_lines (drop i lines) ≡ total → count ≡ total
count_done lines i count total le so_far =
    let none : count_of_lines (drop i lines) ≡ 0 = ap (λ (l : List Line). count_of_lines l) (drop_all i lines le) ∙ no_count in
    omega (arith, none, so_far)

-- each line is an operation at least
line_counts : (line : Line) → line_within line ≡ true → 1 ≤ count_of line
line_counts (Operation op) h = omega arith
line_counts (Run run) h = let l = run_limits run h in let s = l.some in omega arith
line_counts (Removals run) h = omega arith
line_counts (Revivals run) h = omega arith

lines_count : (form : Form) (peer : ℕ) (lines : List Line) → AllByRecursion (IsLine form peer) lines → length lines ≤ count_of_lines lines
lines_count form peer [] h = omega arith
lines_count form peer (line ∷ lines) h =
    let one = line_counts line h.0.within in
    let others = lines_count form peer lines h.1 in
    let all = more_count line lines in
    omega arith

pub few_lines : (change : Change) → IsChange change → length change.lines ≤ 256
few_lines change h = let count = lines_count change.form change.node change.lines h.lines in let few = h.few in omega arith
