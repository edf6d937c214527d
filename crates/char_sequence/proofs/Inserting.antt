-- A new character among the elements in order.
use Rattle.std.proofs.Common.{◌≡◌, ℕ, suc, ◌+◌, ◌<◌, ◌≤◌, List, Option, Some, None, inl, inr, ◌⊎◌, length, sym, ap, refl, ◌∙◌, subst, arith, ⊎_elim}
use Rattle.std.specs.List.{slice_get, insert}
use Rattle.std.proofs.lemmas.Option.{same_Some}
use Rattle.std.proofs.lemmas.Bool.{cases_lt}
use Rattle.change_ops.specs.declared.id.OpId.{OpId}
use Rattle.change_ops.specs.declared.operation.Op.{Op}
use Rattle.char_sequence.specs.declared.sequence.Element.{Element}
use Rattle.change_ops.specs.Ids.{Less}
use Rattle.char_sequence.specs.Tree.{Inserts, Present, Within, itself, IsTree}
use Rattle.char_sequence.specs.Order.{Before, Ordered}
use Rattle.char_sequence.specs.Places.{IsStart, IsPast}
use Rattle.char_sequence.proofs.TreeLaws.{Grows, before_kept, before_trans, before_asym, before_irrefl, skipped_before, stop_after}
use Rattle.char_sequence.proofs.Lists.{inserted_cases}

-- every inserted character stands somewhere
abbrev pub Listed : List Op → List Element → Type 0
Listed ops es =
    (x : OpId) (p : Option OpId) → Inserts ops x p → (i : ℕ) × ((e : Element) × (slice_get es i ≡ Some e) × (e.id ≡ x))

pub start_root : (ops : List Op) → IsTree ops → (es : List Element) → ((i : ℕ) (y : Element) → slice_get es i ≡ Some y → Present ops y.id) → IsStart ops es None 0
start_root ops t es present = record {
  after = λ i y h g. let q = present i y g in inl (q.0, t.rooted y.id q.0 q.1, q.1);
  upto = λ i x h g. absurd (omega arith);
}

pub start_after : (ops : List Op) → (es : List Element) → Ordered ops es → (k : ℕ) (x : Element) (m : OpId) → slice_get es k ≡ Some x → x.id ≡ m → IsStart ops es (Some m) (k + 1)
start_after ops es ordered k x m here is = record {
  after = λ i y h g. subst (λ z. Before ops (Some z) y.id) is (ordered k i x y (omega arith) here g);
  upto =
      λ i z h g. (
        m,
        refl,
        ⊎_elim
            (λ (below : i < k). inr (subst (λ w. Before ops (Some z.id) w) is (ordered i k z x below g here)))
            (λ (at : k ≤ i).
            let same : k ≡ i = omega arith in
            let one : x ≡ z = same_Some x z (sym here ∙ ap (slice_get es) same ∙ g) in
            inl (subst (λ w. w.id ≡ m) one is))
            (cases_lt i k),
      );
}

pub fronts : (old new : List Op) → IsTree old → IsTree new → Grows old new → (es : List Element) → Ordered old es → Listed old es → ((i : ℕ) (y : Element) → slice_get es i ≡ Some y → Present old y.id) → (e : OpId) (p : Option OpId) → Inserts new e p → (start k : ℕ) → IsStart old es p start → IsPast es e start k → (i : ℕ) (x : Element) → i < k → slice_get es i ≡ Some x → Before new (Some x.id) e
fronts old new t s more es ordered listed present e p ins start k st past i x h g =
    ⊎_elim
    (λ (low : i < start).
    let up = st.upto i x low g in
    let child : Before new (Some up.0) e = inl (p, subst (λ z. Within new z p) up.1 itself, ins) in
    ⊎_elim
    (λ (is : x.id ≡ up.0). subst (λ z. Before new (Some z) e) (sym is) child)
    (λ (b : Before old (Some x.id) up.0). before_trans new s (Some x.id) up.0 e (before_kept old new more (Some x.id) up.0 b) child)
    up.2)
    (λ (high : start ≤ i).
    skipped_before old new t s more e x.id p ins (st.after i x high g)
    (λ u q iu after upto.
    let at = listed u q iu in
    let found : slice_get es at.0 ≡ Some at.1.0 = at.1.1 in
    let is : at.1.0.id ≡ u = at.1.2 in
    let from : start ≤ at.0 =
    ⊎_elim
    (λ (below : at.0 < start).
    let up = st.upto at.0 at.1.0 below found in
    let after' : Before old (Some up.0) u = subst (λ z. Before old z u) up.1 after in
    ⊎_elim
    (λ (one : at.1.0.id ≡ up.0). absurd (before_irrefl old t u (subst (λ z. Before old (Some z) u) (sym one ∙ is) after')))
    (λ (b : Before old (Some at.1.0.id) up.0). absurd (before_asym old t u up.0 (subst (λ z. Before old (Some z) up.0) is b) after'))
    up.2)
    (λ (above : start ≤ at.0). above)
    (cases_lt at.0 start)
    in
    let to : at.0 ≤ i =
    ⊎_elim
    (λ (beyond : i < at.0).
    let b : Before old (Some x.id) u = subst (λ z. Before old (Some x.id) z) is (ordered i at.0 x at.1.0 beyond g found) in
    ⊎_elim
    (λ (one : u ≡ x.id). absurd (before_irrefl old t u (subst (λ z. Before old (Some z) u) (sym one) b)))
    (λ (c : Before old (Some u) x.id). absurd (before_asym old t u x.id c b))
    upto)
    (λ (fine : at.0 ≤ i). fine)
    (cases_lt i at.0)
    in
    subst (λ z. Less e z) is (past.skipped at.0 at.1.0 from (omega arith) found)))
    (cases_lt i start)

pub backs : (old new : List Op) → IsTree old → IsTree new → Grows old new → (es : List Element) → Ordered old es → (e : OpId) (p : Option OpId) → Inserts new e p → (start k : ℕ) → IsStart old es p start → IsPast es e start k → (z : Element) → slice_get es k ≡ Some z → Less z.id e → (i : ℕ) (y : Element) → k ≤ i → slice_get es i ≡ Some y → Before new (Some e) y.id
backs old new t s more es ordered e p ins start k st past z at less i y h g =
    let stop : Before new (Some e) z.id = stop_after old new t more e z.id p ins (st.after k z past.low at) less in
    ⊎_elim
    (λ (far : k < i). before_trans new s (Some e) z.id y.id stop (before_kept old new more (Some z.id) y.id (ordered k i z y far at g)))
    (λ (near : i ≤ k).
    let same : k ≡ i = omega arith in
    let one : z ≡ y = same_Some z y (sym at ∙ ap (slice_get es) same ∙ g) in
    subst (λ w. Before new (Some e) w.id) one stop)
    (cases_lt k i)

pub ordered_insert : (old new : List Op) → Grows old new → (es : List Element) → Ordered old es → (k : ℕ) (e : Element) → k ≤ length es → ((i : ℕ) (x : Element) → i < k → slice_get es i ≡ Some x → Before new (Some x.id) e.id) → ((i : ℕ) (y : Element) → k ≤ i → slice_get es i ≡ Some y → Before new (Some e.id) y.id) → Ordered new (insert es k e)
ordered_insert old new more es ordered k e h front back i j x y less gx gy =
    ⊎_elim
    (λ (a : (i < k) × (slice_get es i ≡ Some x)).
    let ia : i < k = a.0 in
    ⊎_elim
    (λ (b : (j < k) × (slice_get es j ≡ Some y)). before_kept old new more (Some x.id) y.id (ordered i j x y less a.1 b.1))
    (λ (r : ((j ≡ k) × (e ≡ y)) ⊎ ((m : ℕ) × (j ≡ suc m) × (k ≤ m) × (slice_get es m ≡ Some y))).
    ⊎_elim
    (λ (b : (j ≡ k) × (e ≡ y)). subst (λ w. Before new (Some x.id) w.id) b.1 (front i x ia a.1))
    (λ (b : (m : ℕ) × (j ≡ suc m) × (k ≤ m) × (slice_get es m ≡ Some y)).
    let le : k ≤ b.0 = b.2 in
    before_kept old new more (Some x.id) y.id (ordered i b.0 x y (omega arith) a.1 b.3))
    r)
    (inserted_cases es k e j y h gy))
    (λ (r : ((i ≡ k) × (e ≡ x)) ⊎ ((m : ℕ) × (i ≡ suc m) × (k ≤ m) × (slice_get es m ≡ Some x))).
    ⊎_elim
    (λ (a : (i ≡ k) × (e ≡ x)).
    let ia : i ≡ k = a.0 in
    ⊎_elim
    (λ (b : (j < k) × (slice_get es j ≡ Some y)). let jb : j < k = b.0 in absurd (omega arith))
    (λ (q : ((j ≡ k) × (e ≡ y)) ⊎ ((m : ℕ) × (j ≡ suc m) × (k ≤ m) × (slice_get es m ≡ Some y))).
    ⊎_elim
    (λ (b : (j ≡ k) × (e ≡ y)). let jb : j ≡ k = b.0 in absurd (omega arith))
    (λ (b : (m : ℕ) × (j ≡ suc m) × (k ≤ m) × (slice_get es m ≡ Some y)). subst (λ w. Before new (Some w.id) y.id) a.1 (back b.0 y b.2 b.3))
    q)
    (inserted_cases es k e j y h gy))
    (λ (a : (m : ℕ) × (i ≡ suc m) × (k ≤ m) × (slice_get es m ≡ Some x)).
    let ia : i ≡ suc a.0 = a.1 in
    let la : k ≤ a.0 = a.2 in
    ⊎_elim
    (λ (b : (j < k) × (slice_get es j ≡ Some y)). let jb : j < k = b.0 in absurd (omega arith))
    (λ (q : ((j ≡ k) × (e ≡ y)) ⊎ ((m : ℕ) × (j ≡ suc m) × (k ≤ m) × (slice_get es m ≡ Some y))).
    ⊎_elim
    (λ (b : (j ≡ k) × (e ≡ y)). let jb : j ≡ k = b.0 in absurd (omega arith))
    (λ (b : (m : ℕ) × (j ≡ suc m) × (k ≤ m) × (slice_get es m ≡ Some y)).
    let jb : j ≡ suc b.0 = b.1 in
    before_kept old new more (Some x.id) y.id (ordered a.0 b.0 x y (omega arith) a.3 b.3))
    q)
    (inserted_cases es k e j y h gy))
    r)
    (inserted_cases es k e i x h gx)
