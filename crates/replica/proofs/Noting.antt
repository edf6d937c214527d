-- What an operation adds to the characters and the removals that are there.
use Rattle.std.proofs.Common.{◌≡◌, ◌↔◌, ℕ, List, [], ◌∷◌, ◌++◌, Option, Some, None, Result, Ok, Err, IfOk, OnOk, MatchOption, ◌⊎◌, inl, inr, ⊎_elim, true, false, refl, sym, ap, ◌∙◌, subst, Contains}
use Rattle.std.specs.Option.{option_or}
use Rattle.std.proofs.lemmas.Bool.{false≢true}
use Rattle.std.proofs.lemmas.List.Elements.{Contains-append_left, Contains-append_right, Contains-append_cases, Contains-push}
use Rattle.change_ops.specs.declared.id.OpId.{OpId}
use Rattle.change_ops.specs.declared.operation.Op.{Op}
use Rattle.change_ops.specs.declared.operation.Op.TheVariants.{Insert, Remove}
use Rattle.change_ops.specs.Operations.{id_of, is_insert, is_mark, is_revival, Names, NamesRemoval}
use Rattle.char_sequence.specs.Tree.{Present, IsRemoval}
use Rattle.replica.specs.declared.known.Known.{Known}
use Rattle.replica.specs.Knowing.{Knows, CausesAreThere, IsMissing}
use Rattle.replica.proofs.Convergence.{only}

newest : (ops : List Op) (op : Op) → Contains (ops ++ op ∷ []) op
newest ops op = Contains-append_right ops (op ∷ []) op (Contains-push [] op)

older : (ops : List Op) (op o : Op) → Contains ops o → Contains (ops ++ op ∷ []) o
older ops op o has = Contains-append_left ops (op ∷ []) o has

-- a character is an older one, or the operation inserts it
present_more : (ops : List Op) (op : Op) (x : OpId) → Present (ops ++ op ∷ []) x → Present ops x ⊎ ((p : Option OpId) × (c : ℕ) × (op ≡ Insert x p c))
present_more ops op x is =
    let p = is.0 in
    let c = is.1.0 in
    ⊎_elim (λ (old : Contains ops (Insert x p c)). inl (p, (c, old)))
    (λ (new : Contains (op ∷ []) (Insert x p c)). inr (p, c, only op (Insert x p c) new))
    (Contains-append_cases ops (op ∷ []) (Insert x p c) is.1.1)

-- a removal is an older one, or the operation is it
removal_more : (ops : List Op) (op : Op) (r : OpId) → IsRemoval (ops ++ op ∷ []) r → IsRemoval ops r ⊎ ((x : OpId) × (op ≡ Remove r x))
removal_more ops op r is =
    let x = is.0 in
    ⊎_elim (λ (old : Contains ops (Remove r x)). inl (x, old))
    (λ (new : Contains (op ∷ []) (Remove r x)). inr (x, only op (Remove r x) new))
    (Contains-append_cases ops (op ∷ []) (Remove r x) is.1)

present_still : (ops : List Op) (op : Op) (x : OpId) → Present ops x → Present (ops ++ op ∷ []) x
present_still ops op x is = (is.0, (is.1.0, older ops op (Insert x is.0 is.1.0) is.1.1))

removal_still : (ops : List Op) (op : Op) (r : OpId) → IsRemoval ops r → IsRemoval (ops ++ op ∷ []) r
removal_still ops op r is = (is.0, older ops op (Remove r is.0) is.1)

-- ---- operations that add nothing to one of the two
same_characters : (ops : List Op) (op : Op) (known : Known) → ((x : OpId) (p : Option OpId) (c : ℕ) → op ≡ Insert x p c → ⊥) → Knows ops known → (x : OpId) → Contains known.characters x ↔ Present (ops ++ op ∷ []) x
same_characters ops op known not knows x = (
  λ has. present_still ops op x ((knows.characters x).0 has),
  λ is. (knows.characters x).1 (⊎_elim (λ (old : Present ops x). old) (λ (new : (p : Option OpId) × (c : ℕ) × (op ≡ Insert x p c)). absurd (not x new.0 new.1 new.2)) (present_more ops op x is)),
)

same_removals : (ops : List Op) (op : Op) (known : Known) → ((r x : OpId) → op ≡ Remove r x → ⊥) → Knows ops known → (r : OpId) → Contains known.removals r ↔ IsRemoval (ops ++ op ∷ []) r
same_removals ops op known not knows r = (
  λ has. removal_still ops op r ((knows.removals r).0 has),
  λ is. (knows.removals r).1 (⊎_elim (λ (old : IsRemoval ops r). old) (λ (new : (x : OpId) × (op ≡ Remove r x)). absurd (not r new.0 new.1)) (removal_more ops op r is)),
)

no_removal : (op : Op) → is_insert op ≡ true → (r x : OpId) → op ≡ Remove r x → ⊥
no_removal op insert r x same = false≢true (sym (ap is_insert same) ∙ insert)

no_insert : (op : Op) → is_insert op ≡ false → (x : OpId) (p : Option OpId) (c : ℕ) → op ≡ Insert x p c → ⊥
no_insert op other x p c same = false≢true (sym other ∙ ap is_insert same)

-- ---- an operation is counted
inserted : (ops : List Op) (op : Op) (id : OpId) (parent : Option OpId) (character : ℕ) (known : Known) (new : List OpId) → op ≡ Insert id parent character → Knows ops known → ((x : OpId) → Contains new x ↔ (Contains known.characters x ⊎ (x ≡ id))) → Knows (ops ++ op ∷ []) (record { characters = new; removals = known.removals })
inserted ops op id parent character known new is knows put = record {
  characters = λ x. (
    λ has. ⊎_elim (λ (old : Contains known.characters x). present_still ops op x ((knows.characters x).0 old))
        (λ (same : x ≡ id). (parent, (character, subst (λ (o : Op). Contains (ops ++ op ∷ []) o) (is ∙ ap (λ (i : OpId). Insert i parent character) (sym same)) (newest ops op))))
        ((put x).0 has),
    λ there. (put x).1 (⊎_elim (λ (old : Present ops x). inl ((knows.characters x).1 old))
        (λ (here : (p : Option OpId) × (c : ℕ) × (op ≡ Insert x p c)). inr (ap id_of (sym here.2 ∙ is)))
        (present_more ops op x there)),
  );
  removals = same_removals ops op known (no_removal op (ap is_insert is)) knows;
}

removed : (ops : List Op) (op : Op) (id target : OpId) (known : Known) (new : List OpId) → op ≡ Remove id target → Knows ops known → ((r : OpId) → Contains new r ↔ (Contains known.removals r ⊎ (r ≡ id))) → Knows (ops ++ op ∷ []) (record { characters = known.characters; removals = new })
removed ops op id target known new is knows put = record {
  characters = same_characters ops op known (no_insert op (ap is_insert is)) knows;
  removals = λ r. (
    λ has. ⊎_elim (λ (old : Contains known.removals r). removal_still ops op r ((knows.removals r).0 old))
        (λ (same : r ≡ id). (target, subst (λ (o : Op). Contains (ops ++ op ∷ []) o) (is ∙ ap (λ (i : OpId). Remove i target) (sym same)) (newest ops op)))
        ((put r).0 has),
    λ there. (put r).1 (⊎_elim (λ (old : IsRemoval ops r). inl ((knows.removals r).1 old))
        (λ (here : (x : OpId) × (op ≡ Remove r x)). inr (ap id_of (sym here.1 ∙ is)))
        (removal_more ops op r there)),
  );
}

-- the ids of the set are asked for a named one: which one is absent
pub record Asked (ids : List OpId) (named found : Option OpId) : Type 0 where
  pub some : (id : OpId) → found ≡ Some id → (named ≡ Some id) × (Contains ids id → ⊥)
  pub none : found ≡ None → (id : OpId) → named ≡ Some id → Contains ids id

module _ (ops : List Op) (op : Op) (known : Known) (first second removal : Option OpId) where
  first_missing : (one two three : Option OpId) → Knows ops known
      → ((x : OpId) → Names op x → (first ≡ Some x) ⊎ (second ≡ Some x))
      → ((x : OpId) → first ≡ Some x → Names op x)
      → ((x : OpId) → second ≡ Some x → Names op x)
      → ((r : OpId) → NamesRemoval op r ↔ removal ≡ Some r)
      → Asked known.characters first one → Asked known.characters second two → Asked known.removals removal three
      → MatchOption (option_or (option_or one two) three) (CausesAreThere ops op) (IsMissing ops op)
  first_missing (Some id) two three knows named left right taken a b d =
      let lost = a.some id refl in inl (left id lost.0, λ is. lost.1 ((knows.characters id).1 is))
  first_missing None (Some id) three knows named left right taken a b d =
      let lost = b.some id refl in inl (right id lost.0, λ is. lost.1 ((knows.characters id).1 is))
  first_missing None None (Some id) knows named left right taken a b d =
      let lost = d.some id refl in inr ((taken id).1 lost.0, λ is. lost.1 ((knows.removals id).1 is))
  first_missing None None None knows named left right taken a b d = record {
    characters = λ x names. (knows.characters x).0 (⊎_elim (λ (e : first ≡ Some x). a.none refl x e) (λ (e : second ≡ Some x). b.none refl x e) (named x names));
    removals = λ r names. (knows.removals r).0 (d.none refl r ((taken r).0 names));
  }

pub noted_insert : {E : Type 0} (ops : List Op) (op : Op) (id : OpId) (parent : Option OpId) (character : ℕ) (known : Known) (new : List OpId) (result : Result (Unit {0}) E) → op ≡ Insert id parent character → Knows ops known → OnOk result ((x : OpId) → Contains new x ↔ (Contains known.characters x ⊎ (x ≡ id))) → IfOk result (λ _. Knows (ops ++ op ∷ []) (record { characters = new; removals = known.removals }))
noted_insert ops op id parent character known new (Ok done) is knows put = inserted ops op id parent character known new is knows put
noted_insert ops op id parent character known new (Err error) is knows put = tt

pub noted_removal : {E : Type 0} (ops : List Op) (op : Op) (id target : OpId) (known : Known) (new : List OpId) (result : Result (Unit {0}) E) → op ≡ Remove id target → Knows ops known → OnOk result ((r : OpId) → Contains new r ↔ (Contains known.removals r ⊎ (r ≡ id))) → IfOk result (λ _. Knows (ops ++ op ∷ []) (record { characters = known.characters; removals = new }))
noted_removal ops op id target known new (Ok done) is knows put = removed ops op id target known new is knows put
noted_removal ops op id target known new (Err error) is knows put = tt

-- an operation on marks, or a revival, adds nothing
pub noted_mark : (ops : List Op) (op : Op) (known : Known) → is_mark op ≡ true → Knows ops known → Knows (ops ++ op ∷ []) known
noted_mark ops op known marks knows = record {
  characters = same_characters ops op known (λ x p c same. false≢true (sym (ap is_mark same) ∙ marks)) knows;
  removals = same_removals ops op known (λ r x same. false≢true (sym (ap is_mark same) ∙ marks)) knows;
}

pub noted_revival : (ops : List Op) (op : Op) (known : Known) → is_revival op ≡ true → Knows ops known → Knows (ops ++ op ∷ []) known
noted_revival ops op known revives knows = record {
  characters = same_characters ops op known (λ x p c same. false≢true (sym (ap is_revival same) ∙ revives)) knows;
  removals = same_removals ops op known (λ r x same. false≢true (sym (ap is_revival same) ∙ revives)) knows;
}

-- ---- what an operation names is looked up
-- what of the named ids isn't there is found: a character, or a removal
pub looked : (ops : List Op) (op : Op) (known : Known) (first second removal one two three both found : Option OpId) → Knows ops known
    → ((x : OpId) → Names op x → (first ≡ Some x) ⊎ (second ≡ Some x))
    → ((x : OpId) → first ≡ Some x → Names op x)
    → ((x : OpId) → second ≡ Some x → Names op x)
    → ((r : OpId) → NamesRemoval op r ↔ removal ≡ Some r)
    → Asked known.characters first one → Asked known.characters second two → Asked known.removals removal three
    → both ≡ option_or one two → found ≡ option_or both three
    → MatchOption found (CausesAreThere ops op) (IsMissing ops op)
looked ops op known first second removal one two three both found knows named left right taken a b d so end =
    subst (λ (r : Option OpId). MatchOption r (CausesAreThere ops op) (IsMissing ops op)) (sym (end ∙ ap (λ (o : Option OpId). option_or o three) so))
    (first_missing ops op known first second removal one two three knows named left right taken a b d)
