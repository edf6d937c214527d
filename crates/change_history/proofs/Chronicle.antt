-- How a history goes on from one accepted change to the next.
use Rattle.std.proofs.Common.{◌≡◌, ℕ, zero, suc, ◌+◌, ◌-◌, ◌<◌, ◌≤◌, List, [], ◌∷◌, ◌++◌, Option, Some, None, Result, Ok, Err, IfOk, is_ok, IsErrAnd, MatchResult, if◌then◌else◌, refl, sym, ap, ◌∙◌, subst, ◌⊎◌, inl, inr, ⊎_elim, arith, rules, length, get_or, take, append_assoc, add-one, length-take, length-append}
use Rattle.std.specs.List.{slice_get}
use Rattle.std.proofs.lemmas.List.{length_push, take_at, append-nil}
use Rattle.std.proofs.lemmas.Option.{none-some, same_Some, slice_get_within, slice_get-get_or}
use Rattle.std.proofs.Math.Seq.{take-length}
use Rattle.change_ops.specs.declared.operation.Op.{Op}
use Rattle.change_ops.specs.Changes.{Change, operations}
use Rattle.change_ops.specs.Lines.{ops_of, ops_of_lines}
use Rattle.change_ops.specs.declared.line.Line.{Line}
use Rattle.change_history.specs.declared.parts.Parts.{Parts}
use Rattle.change_history.specs.Accepted.{operations_of, MayFollow, MayNotFollow, AllFollow, IsFirstRefused, FirstRefused, IsAccepted, IsRefused, AreAccepted}
use Rattle.change_history.specs.Tally.{AreOf, AreShort, IsTally, IsAdmitted, StretchAdmitted}
use Rattle.change_history.specs.declared.refusal.Refusal.{Refusal}
use Rattle.change_history.specs.declared.tally.Tally.{Tally}
use Rattle.change_ops.specs.Operations.{id_of}
use Rattle.mark_anchors.proofs.Lists.{contains_from, pushed_here}
use Rattle.change_history.specs.declared.refusal.ApplyError.{ApplyError}
use Rattle.change_history.specs.declared.refusal.SubmitError.{SubmitError}
use Rattle.change_history.specs.declared.refusal.ApplyError.TheVariants as apply
use Rattle.change_history.specs.declared.refusal.SubmitError.TheVariants as submit
use Rattle.change_history.specs.declared.history.Draft.{Draft}
use Rattle.change_history.specs.Kept.{Keeps, IsHistory, IsSpare, IsLast, IsDraft, StandAt, IsApplied, AreAllAccepted, IsNotAccepted, error_at}
use Rattle.change_ops.specs.declared.size.Size.{Size}
use Rattle.change_ops.specs.declared.size.Size.TheVariants.{Large}
use Rattle.change_ops.specs.Sizes.{most_changes}

pub operations_of-push : (changes : List Change) (change : Change) → operations_of (changes ++ change ∷ []) ≡ operations_of changes ++ operations change
unfolding operations_of
operations_of-push [] change = search rules
operations_of-push (c ∷ changes) change = ap (λ ops. operations c ++ ops) (operations_of-push changes change) ∙ sym (append_assoc (operations c) (operations_of changes) (operations change))

-- an element of a list with one more at its end is one of the list, after the same elements, or the last
pub pushed_index : {X : Type 0} (xs : List X) (y : X) (n : ℕ) (x : X) → slice_get (xs ++ y ∷ []) n ≡ Some x → ((slice_get xs n ≡ Some x) × (take n (xs ++ y ∷ []) ≡ take n xs)) ⊎ ((y ≡ x) × (take n (xs ++ y ∷ []) ≡ xs))
pushed_index [] y zero x g = inr (same_Some y x g, refl)
pushed_index [] y (suc n) x g = absurd (none-some x g)
pushed_index (z ∷ zs) y zero x g = inl (g, refl)
pushed_index (z ∷ zs) y (suc n) x g =
    ⊎_elim (λ (a : (slice_get zs n ≡ Some x) × (take n (zs ++ y ∷ []) ≡ take n zs)). inl (a.0, ap (λ ts. z ∷ ts) a.1))
    (λ (b : (y ≡ x) × (take n (zs ++ y ∷ []) ≡ zs)). inr (b.0, ap (λ ts. z ∷ ts) b.1)) (pushed_index zs y n x g)

module _ {size : Size} where
  pub accepted_more : (changes : List Change) (change : Change) → AreAccepted size changes → IsAccepted size changes change → AreAccepted size (changes ++ change ∷ [])
  accepted_more changes change all last = λ n c g.
      ⊎_elim
      (λ (a : (slice_get changes n ≡ Some c) × (take n (changes ++ change ∷ []) ≡ take n changes)).
      subst (λ (cs : List Change). IsAccepted size cs c) (sym a.1) (all n c a.0))
      (λ (b : (change ≡ c) × (take n (changes ++ change ∷ []) ≡ changes)).
      subst (λ (cs : List Change). IsAccepted size cs c) (sym b.1) (subst (λ (d : Change). IsAccepted size changes d) b.0 last))
      (pushed_index changes change n c g)

  pub history_new : (changes : List Change) (parts : Parts) → changes ≡ [] → Keeps [] parts → IsHistory size changes parts
  unfolding operations_of
  history_new changes parts e k = subst (λ (cs : List Change). IsHistory size cs parts) (sym e) (record { accepted = λ n c g. absurd (none-some c g); kept = k })

-- ---- one operation more of a change
pub cases_below : (i n : ℕ) → i < n + 1 → (i < n) ⊎ (i ≡ n)
cases_below i n h = grind arith

take_suc_push : {X : Type 0} (xs : List X) (k : ℕ) (x : X) → slice_get xs k ≡ Some x → take (suc k) xs ≡ take k xs ++ x ∷ []
take_suc_push [] k x g = absurd (none-some x g)
take_suc_push (y ∷ ys) zero x g = ap (λ z. z ∷ []) (same_Some y x g)
take_suc_push (y ∷ ys) (suc k) x g = ap (λ zs. y ∷ zs) (take_suc_push ys k x g)

pub take_push : {X : Type 0} (xs : List X) (k : ℕ) (x : X) → slice_get xs k ≡ Some x → take (k + 1) xs ≡ take k xs ++ x ∷ []
take_push xs k x g = rw add-one (take_suc_push xs k x g)

module _ {size : Size} where
  pub follow_none : (ops added : List Op) → AllFollow size ops added 0
  follow_none ops added = λ i op below g. absurd (omega arith)

  pub follow_more : (ops added : List Op) (count : ℕ) (o : Op) → slice_get added count ≡ Some o → AllFollow size ops added count → MayFollow size (ops ++ take count added) o → AllFollow size ops added (count + 1)
  follow_more ops added count o here before m = λ i op below g.
      ⊎_elim (λ (low : i < count). before i op low g)
      (λ (same : i ≡ count).
      let one : o ≡ op = same_Some o op (sym here ∙ ap (λ k. slice_get added k) (sym same) ∙ g) in
      subst (λ (k : ℕ). MayFollow size (ops ++ take k added) op) (sym same) (subst (λ (p : Op). MayFollow size (ops ++ take count added) p) one m))
      (cases_below i count below)

-- ---- the operations of a change are admitted
-- an operation that stands alone
pub stand_one : (added : List Op) (at : ℕ) (op : Op) → slice_get added at ≡ Some op → StandAt added at (op ∷ [])
stand_one added at op here zero o g = let same_index : at + 0 ≡ at = omega arith in ap (slice_get added) same_index ∙ here ∙ g
stand_one added at op here (suc i) o g = absurd (none-some o g)

pub stand_first : (added : List Op) (at : ℕ) (op : Op) → StandAt added at (op ∷ []) → slice_get added at ≡ Some op
stand_first added at op stand = let same_index : at + 0 ≡ at = omega arith in ap (slice_get added) (sym same_index) ∙ stand 0 op refl

pub own_at : (added : List Op) (node at : ℕ) (op : Op) → AreOf node added → slice_get added at ≡ Some op → (id_of op).node ≡ node
own_at added node at op own here = own op (contains_from added at op here)

module _ {size : Size} where
  pub admitted_one : (ops added : List Op) (from node : ℕ) (parts : Parts) (old new : Tally) (op : Op) → IsAdmitted size ops added from node parts old → slice_get added from ≡ Some op → MayFollow size (ops ++ take from added) op → IsTally ops (take from added ++ op ∷ []) node new → IsAdmitted size ops added (from + 1) node parts new
  admitted_one ops added from node parts old new op a here m counted = record {
    kept = a.kept;
    own = a.own;
    short = a.short;
    follow = follow_more ops added from op here a.follow m;
    counted = subst (λ (xs : List Op). IsTally ops xs node new) (sym (take_push added from op here)) counted;
  }

  pub refused_one : (ops added : List Op) (from node : ℕ) (parts : Parts) (old new : Tally) (op : Op) (refusal : Refusal) → IsAdmitted size ops added from node parts old → slice_get added from ≡ Some op → MayNotFollow size (ops ++ take from added) op refusal → StretchAdmitted size ops added from 1 node parts new (Err (apply.Refused refusal))
  refused_one ops added from node parts old new op refusal a here not =
      let first : from + 0 ≡ from = omega arith in
      (0, omega arith, subst (λ (n : ℕ). IsFirstRefused size ops added n refusal) (sym first) (record { operation = op; here = here; refused = not; before = a.follow }))

  -- the next one of a run
  pub run_begun : (ops added : List Op) (from node : ℕ) (parts : Parts) (tally : Tally) → IsAdmitted size ops added from node parts tally → IsAdmitted size ops added (from + 0) node parts tally
  run_begun ops added from node parts tally a = let same : from ≡ from + 0 = omega arith in subst (λ (n : ℕ). IsAdmitted size ops added n node parts tally) same a

  pub run_more : (ops added : List Op) (from index node : ℕ) (parts : Parts) (tally : Tally) → IsAdmitted size ops added (from + index + 1) node parts tally → IsAdmitted size ops added (from + (index + 1)) node parts tally
  run_more ops added from index node parts tally a = let same : from + index + 1 ≡ from + (index + 1) = omega arith in subst (λ (n : ℕ). IsAdmitted size ops added n node parts tally) same a

module _ (size : Size) where
  pub run_refused : (ops added : List Op) (from index count node : ℕ) (parts : Parts) (tally : Tally) (error : ApplyError) → index < count → StretchAdmitted size ops added (from + index) 1 node parts tally (Err error) → StretchAdmitted size ops added from count node parts tally (Err error)
  run_refused ops added from index count node parts tally (apply.Refused refusal) below h =
      let low : h.0 < 1 = h.1 in
      let same_index : (from + index) + h.0 ≡ from + index = omega arith in
      (index, below, subst (λ (n : ℕ). IsFirstRefused size ops added n refusal) same_index h.2)
  run_refused ops added from index count node parts tally apply.OutOfMemory below h = tt

-- ---- the operations of a change are applied
pub applied_next : (ops added : List Op) (from : ℕ) (old new : Parts) (op : Op) → IsApplied ops added from old → slice_get added from ≡ Some op → Keeps ((ops ++ take from added) ++ op ∷ []) new → IsApplied ops added (from + 1) new
applied_next ops added from old new op a here kept = record {
  follow = a.follow;
  kept = subst (λ (xs : List Op). Keeps xs new) (append_assoc ops (take from added) (op ∷ []) ∙ ap (λ (ts : List Op). ops ++ ts) (sym (take_push added from op here))) kept;
}

pub applied_one : {E : Type 0} (ops added : List Op) (from : ℕ) (old new : Parts) (op : Op) (r : Result (Unit {0}) E) → IsApplied ops added from old → slice_get added from ≡ Some op → IfOk r (λ _. Keeps ((ops ++ take from added) ++ op ∷ []) new) → IfOk r (λ _. IsApplied ops added (from + 1) new)
applied_one ops added from old new op (Ok done) a here kept = applied_next ops added from old new op a here kept
applied_one ops added from old new op (Err e) a here kept = tt

pub follows_at : (ops added : List Op) (from : ℕ) (old : Parts) (op : Op) → IsApplied ops added from old → slice_get added from ≡ Some op → MayFollow Large (ops ++ take from added) op
follows_at ops added from old op a here = a.follow from op (slice_get_within added from op here) here

pub applying_begun : (ops added : List Op) (from : ℕ) (parts : Parts) → IsApplied ops added from parts → IsApplied ops added (from + 0) parts
applying_begun ops added from parts a = let same : from ≡ from + 0 = omega arith in subst (λ (n : ℕ). IsApplied ops added n parts) same a

pub applying_more : (ops added : List Op) (from index : ℕ) (parts : Parts) → IsApplied ops added (from + index + 1) parts → IsApplied ops added (from + (index + 1)) parts
applying_more ops added from index parts a = let same : from + index + 1 ≡ from + (index + 1) = omega arith in subst (λ (n : ℕ). IsApplied ops added n parts) same a

-- ---- the lines of a change
-- where the operations of the line at an index begin
abbrev pub begin_of : List Line → ℕ → ℕ
begin_of lines index = length (ops_of_lines (take index lines))

pub none_before : (lines : List Line) → begin_of lines 0 ≡ 0
unfolding ops_of_lines
none_before lines = refl

get_right : {X : Type 0} (xs ys : List X) (i : ℕ) → slice_get (xs ++ ys) (length xs + i) ≡ slice_get ys i
get_right [] ys i = ap (slice_get ys) (omega arith)
get_right (x ∷ xs) ys i = let e : length (x ∷ xs) + i ≡ suc (length xs + i) = omega arith in ap (slice_get (x ∷ (xs ++ ys))) e ∙ get_right xs ys i

get_left : {X : Type 0} (xs ys : List X) (i : ℕ) (x : X) → slice_get xs i ≡ Some x → slice_get (xs ++ ys) i ≡ Some x
get_left [] ys i x g = absurd (none-some x g)
get_left (z ∷ zs) ys zero x g = g
get_left (z ∷ zs) ys (suc i) x g = get_left zs ys i x g

pub line_stands : (lines : List Line) (index : ℕ) (line : Line) → slice_get lines index ≡ Some line → StandAt (ops_of_lines lines) (begin_of lines index) (ops_of line)
unfolding ops_of_lines
line_stands [] index line g = absurd (none-some line g)
line_stands (first ∷ lines) zero line g = λ i op here.
    let same : first ≡ line = same_Some first line g in
    let none = none_before (first ∷ lines) in
    let same_index : begin_of (first ∷ lines) 0 + i ≡ i = omega arith in
    ap (slice_get (ops_of first ++ ops_of_lines lines)) same_index ∙ get_left (ops_of first) (ops_of_lines lines) i op (subst (λ (l : Line). slice_get (ops_of l) i ≡ Some op) (sym same) here)
line_stands (first ∷ lines) (suc index) line g = λ i op here.
    let front = ops_of first in
    let rest = ops_of_lines (take index lines) in
    let same_index : length (front ++ rest) + i ≡ length front + (length rest + i) = omega (arith, length-append front rest) in
    ap (slice_get (front ++ ops_of_lines lines)) same_index ∙ get_right front (ops_of_lines lines) (length rest + i) ∙ line_stands lines index line g i op here

ops_pushed : (ls : List Line) (l : Line) → length (ops_of_lines (ls ++ l ∷ [])) ≡ length (ops_of_lines ls) + length (ops_of l)
unfolding ops_of_lines
ops_pushed [] l = omega (arith, length-append (ops_of l) [])
ops_pushed (x ∷ ls) l = let e = ops_pushed ls l in omega (arith, length-append (ops_of x) (ops_of_lines (ls ++ l ∷ [])), length-append (ops_of x) (ops_of_lines ls))

pub begin_next : (lines : List Line) (index : ℕ) (line : Line) → slice_get lines index ≡ Some line → begin_of lines (index + 1) ≡ begin_of lines index + length (ops_of line)
begin_next lines index line g = ap (λ (ls : List Line). length (ops_of_lines ls)) (take_push lines index line g) ∙ ops_pushed (take index lines) line

pub end_of : (lines : List Line) (count : ℕ) → count ≡ length lines → begin_of lines count ≡ length (ops_of_lines lines)
end_of lines count whole = ap (λ (ls : List Line). length (ops_of_lines ls)) (ap (λ k. take k lines) whole ∙ take-length lines)

module _ {size : Size} where
  pub admitting_begun : (ops : List Op) (lines : List Line) (node : ℕ) (parts : Parts) (tally : Tally) → Keeps ops parts → AreOf node (ops_of_lines lines) → AreShort size ops (ops_of_lines lines) → IsTally ops [] node tally → IsAdmitted size ops (ops_of_lines lines) (begin_of lines 0) node parts tally
  admitting_begun ops lines node parts tally k own short t =
      let all = ops_of_lines lines in
      subst (λ (n : ℕ). IsAdmitted size ops all n node parts tally) (sym (none_before lines)) (record { kept = k; own = own; short = short; follow = follow_none ops all; counted = t })

  pub line_admitted : (ops : List Op) (lines : List Line) (index : ℕ) (line : Line) (node : ℕ) (parts : Parts) (tally : Tally) → slice_get lines index ≡ Some line → IsAdmitted size ops (ops_of_lines lines) (begin_of lines index + length (ops_of line)) node parts tally → IsAdmitted size ops (ops_of_lines lines) (begin_of lines (index + 1)) node parts tally
  line_admitted ops lines index line node parts tally g h =
      subst (λ (n : ℕ). IsAdmitted size ops (ops_of_lines lines) n node parts tally) (sym (begin_next lines index line g)) h

module _ (size : Size) where
  pub refused_at : (ops : List Op) (lines : List Line) (index : ℕ) (line : Line) (node : ℕ) (parts : Parts) (new : Tally) (error : ApplyError) → slice_get lines index ≡ Some line
      → StretchAdmitted size ops (ops_of_lines lines) (begin_of lines index) (length (ops_of line)) node parts new (Err error) → IsNotAccepted size ops lines (error_at index error)
  refused_at ops lines index line node parts new (apply.Refused refusal) here h = record { line = line; here = here; offset = h.0; within = h.1; first = h.2 }
  refused_at ops lines index line node parts new apply.OutOfMemory here h = tt

module _ {size : Size} where
  pub admitted_all : (ops : List Op) (lines : List Line) (count node : ℕ) (parts : Parts) (tally : Tally) → count ≡ length lines → IsAdmitted size ops (ops_of_lines lines) (begin_of lines count) node parts tally → AreAllAccepted size ops lines
  admitted_all ops lines count node parts tally whole a = subst (λ (n : ℕ). AllFollow size ops (ops_of_lines lines) n) (end_of lines count whole) a.follow

pub applying_lines : (ops : List Op) (lines : List Line) (parts : Parts) → Keeps ops parts → AreAllAccepted Large ops lines → IsApplied ops (ops_of_lines lines) (begin_of lines 0) parts
applying_lines ops lines parts k all =
    let added = ops_of_lines lines in
    subst (λ (n : ℕ). IsApplied ops added n parts) (sym (none_before lines)) (record { follow = all; kept = subst (λ (xs : List Op). Keeps xs parts) (sym (append-nil ops)) k })

pub line_applied : (ops : List Op) (lines : List Line) (index : ℕ) (line : Line) (parts : Parts) → slice_get lines index ≡ Some line → IsApplied ops (ops_of_lines lines) (begin_of lines index + length (ops_of line)) parts → IsApplied ops (ops_of_lines lines) (begin_of lines (index + 1)) parts
line_applied ops lines index line parts g h = subst (λ (n : ℕ). IsApplied ops (ops_of_lines lines) n parts) (sym (begin_next lines index line g)) h

pub applied_all : (ops : List Op) (lines : List Line) (count : ℕ) (parts : Parts) → count ≡ length lines → IsApplied ops (ops_of_lines lines) (begin_of lines count) parts → Keeps (ops ++ ops_of_lines lines) parts
applied_all ops lines count parts whole a =
    let all = ops_of_lines lines in
    subst (λ (ts : List Op). Keeps (ops ++ ts) parts) (ap (λ k. take k all) (end_of lines count whole) ∙ take-length all) a.kept

module _ {size : Size} where
  -- ---- a change more
  -- the operations of the change were all applied
  pub drafted : (changes : List Change) (change : Change) (lines : List Line) (draft : Draft) → draft.added ≡ change ∷ [] → draft.change ≡ change → lines ≡ change.lines → IsAccepted size changes change → Keeps (operations_of changes ++ ops_of_lines lines) draft.parts → IsDraft size changes change draft
  drafted changes change lines draft alone of e accepted kept = record {
    added = alone;
    of = of;
    accepted = accepted;
    kept = subst (λ (ops : List Op). Keeps ops draft.parts) (ap (λ (ls : List Line). operations_of changes ++ ops_of_lines ls) e ∙ sym (operations_of-push changes change)) kept;
  }

-- a draft put at the end
pub put_appended : {E : Type 0} (r : Result (Unit {0}) E) (done : Unit {0}) (changes xs added new : List Change) (change : Change) → changes ≡ xs → added ≡ change ∷ [] → r ≡ Ok done → new ≡ (if is_ok r then changes ++ added else changes) → new ≡ xs ++ change ∷ []
put_appended (Ok x) done changes xs added new change same alone ok is = is ∙ (λ i. same i ++ alone i)
put_appended (Err error) done changes xs added new change same alone ok is = absurd cc

module _ {size : Size} where
  pub history_put : (changes new : List Change) (change : Change) (old after : Parts) (draft : Draft) → IsHistory size changes old → IsDraft size changes change draft → new ≡ changes ++ change ∷ [] → after ≡ draft.parts → IsHistory size new after
  history_put changes new change old after draft h d is put = subst (λ (x : List Change × Parts). IsHistory size x.0 x.1) (λ i. (sym is i, sym put i)) (record {
    accepted = accepted_more changes change h.accepted d.accepted;
    kept = d.kept;
  })

  -- at most so many changes are accepted as the size allows
  pub few_accepted : (changes : List Change) → AreAccepted size changes → length changes ≤ most_changes size
  few_accepted [] all = omega arith
  few_accepted (first ∷ others) all =
      let changes = first ∷ others in
      let last = length others in
      let here : slice_get changes last ≡ Some (get_or changes last first) = slice_get-get_or changes last first (omega arith) in
      let room : length (take last changes) < most_changes size = (all last (get_or changes last first) here).room in
      omega (arith, length-take last changes)

-- ---- parts without the last change
last_change : (changes : List Change) (change : Change) → slice_get changes (length changes - 1) ≡ Some change → changes ≡ take (length changes - 1) changes ++ change ∷ []
last_change changes change g =
    let within : length changes - 1 < length changes = slice_get_within changes (length changes - 1) change g in
    let all : (length changes - 1) + 1 ≡ length changes = omega arith in
    sym (take-length changes) ∙ ap (λ n. take n changes) (sym all) ∙ take_push changes (length changes - 1) change g

pub operations_of-last : (changes : List Change) (change : Change) → slice_get changes (length changes - 1) ≡ Some change → operations_of (take (length changes - 1) changes) ++ operations change ≡ operations_of changes
operations_of-last changes change g = sym (operations_of-push (take (length changes - 1) changes) change) ∙ ap operations_of (sym (last_change changes change g))

pub caught_up_last : (changes : List Change) (change : Change) (lines : List Line) (new : Parts) → slice_get changes (length changes - 1) ≡ Some change → lines ≡ change.lines → Keeps (operations_of (take (length changes - 1) changes) ++ ops_of_lines lines) new → Keeps (operations_of changes) new
caught_up_last changes change lines new g e k =
    subst (λ (ops : List Op). Keeps ops new) (ap (λ (ls : List Line). operations_of (take (length changes - 1) changes) ++ ops_of_lines ls) e ∙ operations_of-last changes change g) k

-- without a change there is nothing to catch up with
pub caught_up_none : (changes : List Change) (parts : Parts) → slice_get changes (length changes - 1) ≡ None → Keeps (operations_of (take (length changes - 1) changes)) parts → Keeps (operations_of changes) parts
caught_up_none [] parts none k = k
caught_up_none (c ∷ cs) parts none k =
    let changes = c ∷ cs in
    let last = length changes - 1 in
    absurd (none-some (get_or changes last c) (sym none ∙ slice_get-get_or changes last c (omega arith)))

module _ {size : Size} where
  -- one change more: the parts so far are spare now
  pub spare_after : (changes : List Change) (change : Change) (parts : Parts) (spare : Option Parts) → IsHistory size changes parts → spare ≡ Some parts → IsSpare (changes ++ change ∷ []) spare
  spare_after changes change parts spare h is = λ p same.
      let one : parts ≡ p = same_Some parts p (sym is ∙ same) in
      let size : length (changes ++ change ∷ []) - 1 ≡ length changes = omega (arith, length_push changes change) in
      let front : take (length (changes ++ change ∷ []) - 1) (changes ++ change ∷ []) ≡ changes = ap (λ n. take n (changes ++ change ∷ [])) size ∙ take_at changes (change ∷ []) (length changes) refl in
      subst (λ (cs : List Change). Keeps (operations_of cs) p) (sym front) (subst (λ (q : Parts). Keeps (operations_of changes) q) one h.kept)

-- and it is the last
pub last_after : (changes new : List Change) (change : Change) (last : Option Change) → new ≡ changes ++ change ∷ [] → last ≡ Some change → IsLast new last
last_after changes new change last put is =
    let size : length (changes ++ change ∷ []) - 1 ≡ length changes = omega (arith, length_push changes change) in
    let here : slice_get (changes ++ change ∷ []) (length (changes ++ change ∷ []) - 1) ≡ Some change = ap (slice_get (changes ++ change ∷ [])) size ∙ pushed_here changes change in
    subst (λ (cs : List Change). IsLast cs last) (sym put) (is ∙ sym here)

pub no_last : (changes : List Change) (last : Option Change) → changes ≡ [] → last ≡ None → IsLast changes last
no_last changes last none is = subst (λ (cs : List Change). IsLast cs last) (sym none) is

pub no_spare : (changes : List Change) (spare : Option Parts) → spare ≡ None → IsSpare changes spare
no_spare changes spare is = λ p same. absurd (none-some p (sym is ∙ same))

module _ {size : Size} where
  -- the last change is accepted after those before it
  pub last_accepted : (changes : List Change) (change : Change) (lines : List Line) → AreAccepted size changes → slice_get changes (length changes - 1) ≡ Some change → lines ≡ change.lines → AreAllAccepted size (operations_of (take (length changes - 1) changes)) lines
  last_accepted changes change lines all g e =
      subst (λ (ls : List Line). AreAllAccepted size (operations_of (take (length changes - 1) changes)) ls) (sym e) (all (length changes - 1) change g).follow

pub caught_up_result : {E : Type 0} (changes : List Change) (change : Change) (lines : List Line) (new : Parts) (r : Result (Unit {0}) E) → slice_get changes (length changes - 1) ≡ Some change → lines ≡ change.lines → IfOk r (λ _. Keeps (operations_of (take (length changes - 1) changes) ++ ops_of_lines lines) new) → IfOk r (λ _. Keeps (operations_of changes) new)
caught_up_result changes change lines new (Ok done) g e kept = caught_up_last changes change lines new g e kept
caught_up_result changes change lines new (Err error) g e kept = tt

-- a copy of the parts
pub kept_copy : {E : Type 0} (r : Result Parts E) (parts : Parts) (changes xs : List Change) → changes ≡ xs → Keeps (operations_of changes) parts → IfOk r (λ p. p ≡ parts) → IfOk r (Keeps (operations_of xs))
kept_copy (Ok p) parts changes xs same kept is = subst (λ (x : List Change × Parts). Keeps (operations_of x.0) x.1) (λ i. (same i, sym is i)) kept
kept_copy (Err e) parts changes xs same kept is = tt

-- ---- what is told of a change
module _ (size : Size) where
  pub admitted_or_refused : (changes : List Change) (change : Change) (lines : List Line) (r : Result (Unit {0}) SubmitError) → length changes < most_changes size → lines ≡ change.lines → MatchResult r (λ _. AreAllAccepted size (operations_of changes) lines) (IsNotAccepted size (operations_of changes) lines) → MatchResult r (λ _. IsAccepted size changes change) (IsRefused size changes change)
  admitted_or_refused changes change lines (Ok done) few e all = record {
    room = few;
    follow = subst (λ (ls : List Line). AreAllAccepted size (operations_of changes) ls) e all;
  }
  admitted_or_refused changes change lines (Err submit.HistoryFull) few e why = absurd why
  admitted_or_refused changes change lines (Err (submit.Refused index refusal)) few e why = (few, subst (λ (ls : List Line). FirstRefused size (operations_of changes) ls index refusal) e why)
  admitted_or_refused changes change lines (Err submit.OutOfMemory) few e why = few

  pub refused_draft : (r : Result Draft SubmitError) (changes : List Change) (change : Change) (error : SubmitError) → IsErrAnd r (λ e. e ≡ error) → IsRefused size changes change error → MatchResult r (IsDraft size changes change) (IsRefused size changes change)
  refused_draft (Ok d) changes change error same why = absurd same
  refused_draft (Err e) changes change error same why = subst (IsRefused size changes change) (sym same) why
