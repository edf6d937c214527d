-- The edits among operations have all their inserts, so they accept what the operations accept.
use Rattle.std.proofs.Common.{◌≡◌, ◌↔◌, Bool, IsTrue, List, [], ◌∷◌, true, length, refl, sym, ap, ◌∙◌, inr}
use Rattle.std.specs.List.{filter, count_by}
use Rattle.std.proofs.lemmas.Bool.{false≢true}
use Rattle.std.proofs.lemmas.List.Sums.{length-filter}
use Rattle.change_ops.specs.declared.operation.Op.{Op}
use Rattle.change_ops.specs.declared.operation.Op.TheVariants.{Insert, Remove, AddMark, RemoveMark, Revive}
use Rattle.change_ops.specs.Operations.{is_insert, is_edit}
use Rattle.char_sequence.specs.Acceptance.{Accepts, HasNoRoom, IsFull}
use Rattle.change_ops.specs.declared.id.OpId.{OpId}
use Rattle.removal_runs.specs.Open.{Removals}
use Rattle.char_sequence.specs.Tree.{IsRemoval}
use Rattle.char_sequence.specs.Order.{Shows}
use Rattle.char_sequence.specs.declared.sequence.Element.{Element}
use Rattle.char_sequence.specs.Held.{Sequence, Holds, HoldsRemovals, HasInserts}
use Rattle.char_sequence.proofs.Parts as parts
use Rattle.char_sequence.proofs.Hiding.{shows_same, same_removals_of_part}
use Rattle.mark_places.proofs.Filters.{kept_was, is_kept}
use Rattle.change_ops.specs.declared.size.Size.{Size}

-- ---- the edits as a part of the operations
inserts_among : (ops : List Op) → filter is_insert (filter is_edit ops) ≡ filter is_insert ops
inserts_among [] = refl
inserts_among (Insert id p c ∷ ops) = ap (λ xs. Insert id p c ∷ xs) (inserts_among ops)
inserts_among (Remove id t ∷ ops) = inserts_among ops
inserts_among (AddMark id a s e ∷ ops) = inserts_among ops
inserts_among (RemoveMark id k s e ∷ ops) = inserts_among ops
inserts_among (Revive id r ∷ ops) = inserts_among ops

pub inserts_counted : (ops : List Op) → count_by is_insert (filter is_edit ops) ≡ count_by is_insert ops
inserts_counted ops =
    sym (length-filter is_insert (filter is_edit ops)) ∙ ap length (inserts_among ops) ∙ length-filter is_insert ops

insert_edits : (op : Op) → is_insert op ≡ true → is_edit op ≡ true
insert_edits (Insert id p c) h = refl
insert_edits (Remove id t) h = refl
insert_edits (AddMark id a s e) h = absurd (false≢true h)
insert_edits (RemoveMark id k s e) h = absurd (false≢true h)
insert_edits (Revive id r) h = refl

pub edits_part : (ops : List Op) → HasInserts ops (filter is_edit ops)
edits_part ops = record {
  within = λ o h. kept_was is_edit ops o h;
  inserts = λ o inserts h. is_kept is_edit ops o (insert_edits o inserts) h;
  removes = λ r x h. is_kept is_edit ops (Remove r x) refl h;
  revives = λ v r h. is_kept is_edit ops (Revive v r) refl h;
  count = inserts_counted ops;
}

-- ---- removals
pub removal_by_edits : (ops : List Op) (r : OpId) (b : Bool) {c : Sequence} → Holds c (filter is_edit ops) → ((edits : List Op) → Holds c edits → IsTrue b ↔ IsRemoval edits r) → IsTrue b ↔ IsRemoval ops r
removal_by_edits ops r b held told =
    let edits = told (filter is_edit ops) held in
    (λ t. parts.removal_all ops (filter is_edit ops) (edits_part ops) r (edits.0 t), λ there. edits.1 (parts.removal_part ops (filter is_edit ops) (edits_part ops) r there))

-- the removals that the edits have are those of all operations
pub removals_by_edits : (ops : List Op) (removals : Removals) → HoldsRemovals removals (filter is_edit ops) → HoldsRemovals removals ops
removals_by_edits ops removals held =
    let part = edits_part ops in
    record {
      removes = λ r x. (λ there. (held.removes r x).0 (part.removes r x there), λ there. part.within (Remove r x) ((held.removes r x).1 there));
      back = λ r. (
        λ there. (held.back r).0 (there.0, part.revives there.0 r there.1),
        λ there. let back = (held.back r).1 there in (back.0, part.within (Revive back.0 r) back.1),
      );
    }

-- ---- the room for a character
pub no_room_edits : (ops : List Op) (op : Op) → HasNoRoom ops op → HasNoRoom (filter is_edit ops) op
no_room_edits ops op (es, c, shows, shown, more) =
    let part = edits_part ops in
    (es, c, parts.shows_part ops (filter is_edit ops) part es shows, shows_same ops (filter is_edit ops) (same_removals_of_part ops (filter is_edit ops) part) (λ x p d i. (p, part.inserts (Insert x p d) refl i)) op c shown, more)

pub full_by_edits : (size : Size) (ops : List Op) (es : List Element) → Shows es ops → (op : Op) → HasNoRoom (filter is_edit ops) op → IsFull size ops op
full_by_edits size ops es shows op none = parts.full_all size ops (filter is_edit ops) (edits_part ops) es shows op (inr none)

module _ {size : Size} where
  -- ---- acceptance over the edits
  pub accepts_part : (ops : List Op) (es : List Element) → Shows es ops → (op : Op) → Accepts size ops op → Accepts size (filter is_edit ops) op
  accepts_part ops es shows op a = parts.accepts_part ops (filter is_edit ops) (edits_part ops) es shows op a
