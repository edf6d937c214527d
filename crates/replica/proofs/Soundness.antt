-- What a message's type keeps, and when two messages overlap.
use Rattle.std.proofs.Common.{◌≡◌, ◌↔◌, ℕ, ◌+◌, ◌<◌, ◌≤◌, ◌^◌, true, false, ⊎_elim, inl, inr, refl, List, Some, sym, ◌∙◌, subst, arith}
use Rattle.std.proofs.lemmas.Bool.{cases_lt, false≢true}
use Rattle.change_ops.specs.declared.line.Line.{Line}
use Rattle.change_ops.specs.Operations.{id_of}
use Rattle.change_ops.specs.Changes.{Change, operations, IsChange}
use Rattle.change_ops.specs.Lines.{ops_of_lines}
use Rattle.change_history.proofs.Counting.{own_lines}
use Rattle.mark_anchors.proofs.Lists.{contains_at}
use Rattle.replica.specs.Messages.{Message, IsSound, IsMessage, Rises, end_of, Covers, Overlap}
use Rattle.replica.proofs.Rising.{above, end_covers, last_of, some_operation, none_above}

-- ---- a message of a change
risen_of : (previous last : ℕ) (change : Change) (lines : List Line) → lines ≡ change.lines → Rises previous (ops_of_lines lines) (Some last) → Rises previous (operations change) (Some last)
risen_of previous last change lines read risen = subst (λ (ls : List Line). Rises previous (ops_of_lines ls) (Some last)) read risen

pub nothing_risen : (previous last : ℕ) (change : Change) (lines : List Line) → lines ≡ change.lines → Rises previous (ops_of_lines lines) (Some last) → last ≡ previous → IsSound (record { previous = previous; change = change }) → ⊥
nothing_risen previous last change lines read risen same sound =
    let is = risen_of previous last change lines read risen in
    none_above previous (operations change) sound.first sound.rising sound.some (is.1 ∙ same)

pub is_message : (previous last : ℕ) (change : Change) (lines : List Line) → lines ≡ change.lines → IsChange change → Rises previous (ops_of_lines lines) (Some last) → (last ≡ previous → ⊥) → IsMessage (record { previous = previous; change = change }) last
is_message previous last change lines read valid risen other =
    let is = risen_of previous last change lines read risen in
    let some = some_operation previous (operations change) (λ same. other (sym is.1 ∙ same)) in
    record {
      sound = record { own = own_lines change.form change.node change.lines valid.lines; first = some.0; some = some.1; rising = is.0 };
      ended = is.1;
      small = ⊎_elim (λ (same : previous ≡ last). absurd (other (sym same))) (λ (small : last < 2 ^ 48). small) is.2;
    }

pub ends_above : (m : Message) (last : ℕ) → IsMessage m last → m.previous < last
ends_above m last is =
    let at = contains_at (operations m.change) is.sound.first is.sound.some in
    let over : m.previous < (id_of is.sound.first).counter = above m.previous (operations m.change) at.0 is.sound.first is.sound.rising at.1 in
    let under : (id_of is.sound.first).counter ≤ end_of m.previous (operations m.change) = end_covers m.previous (operations m.change) at.0 is.sound.first is.sound.rising at.1 in
    let ended : end_of m.previous (operations m.change) ≡ last = is.ended in
    omega arith

pub previous_small : (m : Message) (last : ℕ) → IsMessage m last → m.previous < 2 ^ 48
previous_small m last is =
    let low = ends_above m last is in
    let small : last < 2 ^ 48 = is.small in
    omega arith

-- ---- messages that overlap
covering : (m : Message) (last counter : ℕ) → IsMessage m last → m.previous < counter → counter ≤ last → Covers m counter
covering m last counter is over within =
    let o = last_of m.previous (operations m.change) is.sound.first is.sound.some in
    let reached : (id_of o.0).counter ≡ end_of m.previous (operations m.change) = o.2 in
    let ended : end_of m.previous (operations m.change) ≡ last = is.ended in
    let high : counter ≤ (id_of o.0).counter = omega arith in
    record { above = over; operation = o.0; of = o.1; within = high }

covered_within : (m : Message) (last counter : ℕ) → IsMessage m last → Covers m counter → counter ≤ last
covered_within m last counter is c =
    let at = contains_at (operations m.change) c.operation c.of in
    let under : (id_of c.operation).counter ≤ end_of m.previous (operations m.change) = end_covers m.previous (operations m.change) at.0 c.operation is.sound.rising at.1 in
    let within : counter ≤ (id_of c.operation).counter = c.within in
    let ended : end_of m.previous (operations m.change) ≡ last = is.ended in
    omega arith

overlap_of : (a b : Message) (m n : ℕ) → IsMessage a m → IsMessage b n → a.change.node ≡ b.change.node → a.previous < n → b.previous < m → Overlap a b
overlap_of a b m n first second same one two =
    let mine = ends_above a m first in
    let theirs = ends_above b n second in
    elim (cases_lt a.previous b.previous) [
      | inl less ↦ (same, (b.previous + 1, covering a m (b.previous + 1) first (omega arith) (omega arith), covering b n (b.previous + 1) second (omega arith) (omega arith)))
      | inr more ↦ (same, (a.previous + 1, covering a m (a.previous + 1) first (omega arith) (omega arith), covering b n (a.previous + 1) second (omega arith) (omega arith)))
    ]

overlap_gives : (a b : Message) (m n : ℕ) → IsMessage a m → IsMessage b n → Overlap a b → (a.change.node ≡ b.change.node) × (a.previous < n) × (b.previous < m)
overlap_gives a b m n first second o =
    let one : a.previous < o.1.0 = o.1.1.above in
    let two : b.previous < o.1.0 = o.1.2.above in
    let high : o.1.0 ≤ m = covered_within a m o.1.0 first o.1.1 in
    let low : o.1.0 ≤ n = covered_within b n o.1.0 second o.1.2 in
    (o.0, omega arith, omega arith)

-- ---- what is answered
pub overlaps_so : (a b : Message) (m n ours theirs : ℕ) → IsMessage a m → IsMessage b n → ours ≡ a.change.node → theirs ≡ b.change.node → ours ≡ theirs → a.previous < n → b.previous < m → (true ≡ true) ↔ Overlap a b
overlaps_so a b m n ours theirs first second mine other same one two = (λ yes. overlap_of a b m n first second (sym mine ∙ same ∙ other) one two, λ o. refl)

pub overlaps_not : (a b : Message) → (Overlap a b → ⊥) → (false ≡ true) ↔ Overlap a b
overlaps_not a b not = (λ yes. absurd (false≢true yes), λ o. absurd (not o))

pub other_peer : (a b : Message) (ours theirs : ℕ) → ours ≡ a.change.node → theirs ≡ b.change.node → (ours ≡ theirs → ⊥) → Overlap a b → ⊥
other_peer a b ours theirs mine other not o = not (mine ∙ o.0 ∙ sym other)

pub behind_all : (a b : Message) (m n : ℕ) → IsMessage a m → IsMessage b n → n ≤ a.previous → Overlap a b → ⊥
behind_all a b m n first second low o = let gives = overlap_gives a b m n first second o in let less : a.previous < n = gives.1 in omega arith

pub before_all : (a b : Message) (m n : ℕ) → IsMessage a m → IsMessage b n → m ≤ b.previous → Overlap a b → ⊥
before_all a b m n first second low o = let gives = overlap_gives a b m n first second o in let less : b.previous < m = gives.2 in omega arith
