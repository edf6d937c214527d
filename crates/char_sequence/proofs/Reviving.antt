-- Removals and revivals, as a sequence takes them.
use Rattle.std.proofs.Common.{◌≡◌, ℕ, ◌<◌, ◌≤◌, Bool, not, true, false, List, [], ◌∷◌, ◌++◌, Option, Some, None, inr, sym, ap, refl, ◌∙◌, subst, arith, ⊎_elim}
use Rattle.std.specs.Prelude.{◌↔◌, IsTrue, IsSome, is_some}
use Rattle.std.specs.Option.{MatchOption}
use Rattle.std.specs.List.{slice_get, Contains}
use Rattle.std.proofs.lemmas.Bool.{cases_Bool, cases_lt, false≢true}
use Rattle.change_ops.specs.Operations.{id_of, NamesRemoval}
use Rattle.change_ops.specs.declared.id.OpId.{OpId}
use Rattle.change_ops.specs.declared.operation.Op.{Op}
use Rattle.change_ops.specs.declared.operation.Op.TheVariants.{Insert, Remove, Revive}
use Rattle.change_ops.specs.declared.size.Size.{Size}
use Rattle.removal_runs.specs.Removals.{Removal}
use Rattle.removal_runs.specs.Open.{Removals, Removes, HasOpen, IsOnlyOpen}
use Rattle.char_sequence.specs.declared.sequence.Element.{Element}
use Rattle.char_sequence.specs.Tree.{IsRemoval, IsHidden}
use Rattle.char_sequence.specs.Order.{IsText, Shows}
use Rattle.char_sequence.specs.Index.{HasId}
use Rattle.char_sequence.specs.Acceptance.{ShowsCharacter, IsUnknown, Accepts}
use Rattle.char_sequence.specs.Held.{Holds, HoldsRemovals, HasInserts}
use Rattle.char_sequence.specs.Newest.{IsNewest}
use Rattle.std.specs.Ordering.{nat_cmp}
use Rattle.std.specs.FinMap.{FinMap}
use Rattle.std.proofs.lemmas.Option.{none-some}
use Rattle.char_sequence.proofs.Holding.{tree_push, distinct_push, named_push, removals_push, text_kept}
use Rattle.char_sequence.proofs.Hiding.{hidden_open, alone_open}
use Rattle.char_sequence.proofs.Deciding.{hides_too, nothing_there}
use Rattle.char_sequence.proofs.Parts.{part_both, shows_whole}
use Rattle.char_sequence.proofs.Steps.{IsMarked, stands, not_used, shown_text}

-- ---- a removal
-- the counter of an accepted operation is above those of its peer's removals
pub above_removals : {size : Size} (ops : List Op) (op : Op) (removals : Removals) (id : OpId) → id_of op ≡ id → HoldsRemovals removals ops → Accepts size ops op → (r : Removal) → Contains removals.removals r → r.id.node ≡ id.node → r.id.counter < id.counter
above_removals ops op removals id is h a r c node =
    ⊎_elim
    (λ (less : r.id.counter < id.counter). less)
    (λ (more : id.counter ≤ r.id.counter). absurd (not_used ops op id is a (Remove r.id r.target, (h.removes r.id r.target).1 c, node, more)))
    (cases_lt r.id.counter id.counter)

-- an element is hidden where a removal of it is open
pub hidden_iff : (ops : List Op) (es : List Element) (removals : Removals) (id : OpId) (e : Element) (b : Bool) → IsText ops es → HoldsRemovals removals ops → (k : ℕ) × (slice_get es k ≡ Some e) × (e.id ≡ id) → b ≡ not e.visible → IsTrue b ↔ HasOpen removals id
hidden_iff ops es removals id e b text h (k, here, is) says =
    ⊎_elim
    (λ (t : e.visible ≡ true).
    let never : b ≡ false = says ∙ ap not t in (
      λ yes'. absurd (false≢true (sym never ∙ yes')),
      λ stands_open. absurd (text.shown k e here t (subst (λ z. IsHidden ops z) (sym is) ((hidden_open removals ops id h).1 stands_open))),
    ))
    (λ (f : e.visible ≡ false). (
      λ yes'. (hidden_open removals ops id h).0 (subst (λ z. IsHidden ops z) is (text.hidden k e here f)),
      λ stands_open. says ∙ ap not f,
    ))
    (cases_Bool e.visible)

-- ---- a revival
pub known_removal : {size : Size} (ops : List Op) (op : Op) (removals : Removals) (id removal : OpId) → op ≡ Revive id removal → HoldsRemovals removals ops → Accepts size ops op → (x : OpId) × Removes removals removal x
known_removal ops op removals id removal is h a =
    let from = a.removal removal (subst (λ o. NamesRemoval o removal) (sym is) refl) in
    (from.0, (h.removes removal from.0).0 from.1)

pub shown_stands : (ops : List Op) (es : List Element) (removals : Removals) (removal target : OpId) → Shows es ops → HoldsRemovals removals ops → IsOnlyOpen removals removal target → HasId es target
shown_stands ops es removals removal target s h alone =
    stands ops es s.text target (s.named (Remove removal target) target ((h.removes removal target).1 alone.removes) refl)

pub text_by_some : (ops : List Op) (es fs : List Element) (removals : Removals) (id removal target : OpId) → IsMarked es fs target true → IsOnlyOpen removals removal target → Shows es ops → HoldsRemovals removals ops → IsText (ops ++ Revive id removal ∷ []) fs
text_by_some ops es fs removals id removal target marked alone s h =
    shown_text es fs target marked ops id removal s ((alone_open removals ops removal target h).1 alone)

pub text_by_none : (ops : List Op) (es : List Element) (removals : Removals) (id removal : OpId) → ((x : OpId) → IsOnlyOpen removals removal x → ⊥) → Shows es ops → HoldsRemovals removals ops → IsText (ops ++ Revive id removal ∷ []) es
text_by_none ops es removals id removal none s h =
    text_kept ops es id removal s.text
    (λ x c open_too. hides_too ops removal x (λ alone. none x ((alone_open removals ops removal x h).0 alone)) c open_too)

-- what the part's revival shows is shown of all operations
pub revived_whole : {size : Size} (ops part : List Op) (es es' : List Element) (op : Op) (id removal : OpId) → op ≡ Revive id removal → HasInserts ops part → Shows es ops → Accepts size ops op → IsText (part ++ Revive id removal ∷ []) es' → Shows es' (ops ++ op ∷ [])
revived_whole ops part es es' op id removal is h s a text =
    shows_whole (ops ++ op ∷ []) (part ++ op ∷ []) (part_both ops part op h) es'
    (tree_push ops s.tree op a) (distinct_push ops op a s.distinct) (named_push ops op a s.named) (removals_push ops op a s.removals)
    (subst (λ o. IsText (part ++ o ∷ []) es') (sym is) text)

-- ---- what is shown
pub revival_shows : (ops : List Op) (es : List Element) (removals : Removals) (op : Op) (id removal target : OpId) (e : Element) (c : ℕ) → op ≡ Revive id removal → Shows es ops → HoldsRemovals removals ops → IsOnlyOpen removals removal target → (k : ℕ) × (slice_get es k ≡ Some e) × (e.id ≡ target) → c ≡ e.character → ShowsCharacter ops op c
revival_shows ops es removals op id removal target e c is s h alone (k, here, same) character =
    let from = s.text.inserted k e here in
    subst (λ o. ShowsCharacter ops o c) (sym is)
    (target, from.0, subst (λ z. Contains ops (Insert z from.0 c)) same (subst (λ z. Contains ops (Insert e.id from.0 z)) (sym character) from.1), (alone_open removals ops removal target h).1 alone)

pub revival_shows_none : (ops : List Op) (removals : Removals) (op : Op) (id removal : OpId) → op ≡ Revive id removal → HoldsRemovals removals ops → ((x : OpId) → IsOnlyOpen removals removal x → ⊥) → (c : ℕ) → ShowsCharacter ops op c → ⊥
revival_shows_none ops removals op id removal is h none c shows =
    let parts : ShowsCharacter ops (Revive id removal) c = subst (λ o. ShowsCharacter ops o c) is shows in
    none parts.0 ((alone_open removals ops removal parts.0 h).0 parts.3)

-- ---- checks
pub lost_removal : (ops : List Op) (op : Op) (removals : Removals) (r : OpId) → HoldsRemovals removals ops → NamesRemoval op r → ((x : OpId) → Removes removals r x → ⊥) → IsUnknown ops op
lost_removal ops op removals r h names gone = inr (r, names, λ there. gone there.0 ((h.removes r there.0).0 there.1))

pub there_removal : (ops : List Op) (removals : Removals) (r x : OpId) → HoldsRemovals removals ops → Removes removals r x → IsRemoval ops r
there_removal ops removals r x h removes = (x, (h.removes r x).1 removes)

pub removal_iff : (ops : List Op) (removals : Removals) (r : OpId) (found : Option OpId) (b : Bool) → HoldsRemovals removals ops → MatchOption found ((x : OpId) → Removes removals r x → ⊥) (Removes removals r) → b ≡ is_some found → IsTrue b ↔ IsRemoval ops r
removal_iff ops removals r None b h none says = (λ t. absurd (false≢true (sym says ∙ t)), λ there. absurd (none there.0 ((h.removes r there.0).0 there.1)))
removal_iff ops removals r (Some x) b h removes says = (λ t. (x, (h.removes r x).1 removes), λ there. says)

pub removal_gone : (removals : Removals) (r : OpId) (found : Option OpId) (b : Bool) → MatchOption found ((x : OpId) → Removes removals r x → ⊥) (Removes removals r) → is_some found ≡ not b → b ≡ true → (x : OpId) → Removes removals r x → ⊥
removal_gone removals r None b none says t = none
removal_gone removals r (Some x) b removes says t = absurd (false≢true (sym (says ∙ ap not t)))

pub removal_stands : (ops : List Op) (removals : Removals) (r : OpId) (found : Option OpId) (b : Bool) → HoldsRemovals removals ops → MatchOption found ((x : OpId) → Removes removals r x → ⊥) (Removes removals r) → is_some found ≡ not b → b ≡ false → IsRemoval ops r
removal_stands ops removals r None b h none says f = absurd (false≢true (says ∙ ap not f))
removal_stands ops removals r (Some x) b h removes says f = there_removal ops removals r x h removes

pub none_at : {A : Type 0} (N : Type 0) (P : A → Type 0) (r : Option A) → r ≡ None → MatchOption r N P → N
none_at N P r is told = subst (λ o. MatchOption o N P) is told

pub found_some : {A : Type 0} (N : Type 0) (P : A → Type 0) (r : Option A) → MatchOption r (N → ⊥) P → N → IsSome r
found_some N P None none there = absurd (none there)
found_some N P (Some x) found there = refl

-- ---- no operation
nothing_shown : Shows [] []
nothing_shown = record {
  tree = record {
    one = λ x p q i j. absurd (nothing_there (Insert x p i.0) i.1);
    grows = λ x p i. absurd (nothing_there (Insert x (Some p) i.0) i.1);
    rooted = λ x p i. absurd (nothing_there (Insert x p i.0) i.1);
  };
  distinct = λ o p c d e. absurd (nothing_there o c);
  named = λ o x c n. absurd (nothing_there o c);
  removals = λ o r c n. absurd (nothing_there o c);
  text = record {
    ordered = λ i j x y less g h. absurd (none-some x g);
    listed = λ x p c i. absurd (nothing_there (Insert x p c) i);
    inserted = λ i e g. absurd (none-some e g);
    shown = λ i e g shows r. none-some e g;
    hidden = λ i e g hides. absurd (none-some e g);
  };
}

not_in : {A : Type 0} (xs : List A) (x : A) → xs ≡ [] → Contains xs x → ⊥
not_in xs x none h = let there : Contains [] x = subst (λ z. Contains z x) none h in let less : there.0 < 0 = there.1 in omega arith

pub holds_none : (es : List Element) (newest : FinMap nat_cmp ℕ) (removals : Removals) → es ≡ [] → IsNewest [] newest → removals.removals ≡ [] → removals.back ≡ [] → Holds (record { elements = es; newest = newest; removals = removals }) []
holds_none es newest removals none last no_removal no_back =
    subst (λ z. Holds (record { elements = z; newest = newest; removals = removals }) []) (sym none)
    (record {
      shows = nothing_shown;
      newest = last;
      size = refl;
      removals = record {
        removes = λ r x. (λ c. absurd (nothing_there (Remove r x) c), λ c. absurd (not_in removals.removals (record { id = r; target = x }) no_removal c));
        back = λ r. (λ b. absurd (nothing_there (Revive b.0 r) b.1), λ c. absurd (not_in removals.back r no_back c));
      };
    })
