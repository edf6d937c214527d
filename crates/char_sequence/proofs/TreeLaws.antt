-- Before is a strict order, and where a new character goes in it.
use Rattle.std.proofs.Common.{◌≡◌, List, Option, Some, None, inl, inr, ◌⊎◌, sym, refl, subst, ⊎_elim}
use Rattle.std.proofs.lemmas.Option.{same_Some, none-some}
use Rattle.change_ops.specs.declared.id.OpId.{OpId}
use Rattle.change_ops.specs.declared.operation.Op.{Op}
use Rattle.change_ops.specs.Ids.{Less}
use Rattle.char_sequence.proofs.Ids.{less_irrefl, less_trans}
use Rattle.char_sequence.specs.Tree.{Inserts, Within, itself, below, Ancestor, IsTree}
use Rattle.char_sequence.specs.Order.{Fork, Before}

-- ---- within
pub cases_within : (ops : List Op) (a q : Option OpId) → Within ops a q → (a ≡ q) ⊎ ((x : OpId) × (q ≡ Some x) × Ancestor ops a x)
cases_within ops a q itself = inl refl
cases_within ops a q (below {p} {x} w i) = inr (x, refl, (p, w, i))

pub within_trans : (ops : List Op) (a b q : Option OpId) → Within ops a b → Within ops b q → Within ops a q
within_trans ops a b q v itself = v
within_trans ops a b q v (below {p} {x} w i) = below (within_trans ops a b p v w) i

pub descends : (ops : List Op) (a : Option OpId) (x : OpId) → Ancestor ops a x → Within ops a (Some x)
descends ops a x (p, w, i) = below w i

pub ancestor_within : (ops : List Op) (a : Option OpId) (x y : OpId) → Ancestor ops a x → Within ops (Some x) (Some y) → Ancestor ops a y
ancestor_within ops a x y h w =
    ⊎_elim
    (λ (e : Some x ≡ Some y). subst (λ z. Ancestor ops a z) (same_Some x y e) h)
    (λ (r : (z : OpId) × (Some y ≡ Some z) × Ancestor ops (Some x) z).
    subst (λ z. Ancestor ops a z) (sym (same_Some y r.0 r.1)) (r.2.0, within_trans ops a (Some x) r.2.0 (descends ops a x h) r.2.1, r.2.2))
    (cases_within ops (Some x) (Some y) w)

-- what stands under a character has it as its parent, or what its parent stands under
pub at_or_above : (ops : List Op) → IsTree ops → (a p : Option OpId) (x : OpId) → Inserts ops x p → Within ops a (Some x) → (a ≡ Some x) ⊎ Within ops a p
at_or_above ops t a p x i w =
    ⊎_elim
    (λ (e : a ≡ Some x). inl e)
    (λ (r : (z : OpId) × (Some x ≡ Some z) × Ancestor ops a z).
    let same : r.2.0 ≡ p = t.one x r.2.0 p (subst (λ z. Inserts ops z r.2.0) (sym (same_Some x r.0 r.1)) r.2.2) i in
    inr (subst (λ q. Within ops a q) same r.2.1))
    (cases_within ops a (Some x) w)

pub comparable : (ops : List Op) → IsTree ops → (a b q : Option OpId) → Within ops a q → Within ops b q → Within ops a b ⊎ Within ops b a
comparable ops t a b q itself v = inr v
comparable ops t a b q (below {p} {x} w i) v =
    ⊎_elim
    (λ (e : b ≡ Some x). inl (subst (λ z. Within ops a z) (sym e) (below w i)))
    (λ (u : Within ops b p). comparable ops t a b p w u)
    (at_or_above ops t b p x i v)

-- ids grow downwards
pub parent_less : (ops : List Op) → IsTree ops → (a x : OpId) (p : Option OpId) → ((m : OpId) → p ≡ Some m → (a ≡ m) ⊎ Less a m) → Within ops (Some a) p → Inserts ops x p → Less a x
parent_less ops t a x None more w i =
    ⊎_elim
    (λ (e : Some a ≡ None). absurd (none-some a (sym e)))
    (λ (r : (z : OpId) × (None ≡ Some z) × Ancestor ops (Some a) z). absurd (none-some r.0 r.1))
    (cases_within ops (Some a) None w)
parent_less ops t a x (Some m) more w i =
    ⊎_elim
    (λ (e : a ≡ m). subst (λ z. Less z x) (sym e) (t.grows x m i))
    (λ (l : Less a m). less_trans a m x l (t.grows x m i))
    (more m refl)

pub within_at_most : (ops : List Op) → IsTree ops → (a : OpId) (q : Option OpId) → Within ops (Some a) q → (b : OpId) → q ≡ Some b → (a ≡ b) ⊎ Less a b
within_at_most ops t a q itself b e = inl (same_Some a b e)
within_at_most ops t a q (below {p} {x} w i) b e =
    inr (subst (λ z. Less a z) (same_Some x b e) (parent_less ops t a x p (within_at_most ops t a p w) w i))

pub ancestor_less : (ops : List Op) → IsTree ops → (a x : OpId) → Ancestor ops (Some a) x → Less a x
ancestor_less ops t a x (p, w, i) = parent_less ops t a x p (within_at_most ops t a p w) w i

-- two children of one parent that stand above one character are one
pub apart_one : (ops : List Op) → IsTree ops → (x y : OpId) (p : Option OpId) → Inserts ops x p → Inserts ops y p → Within ops (Some x) (Some y) → x ≡ y
apart_one ops t x y p i j w =
    ⊎_elim
    (λ (e : Some x ≡ Some y). same_Some x y e)
    (λ (u : Within ops (Some x) p). absurd (less_irrefl x (ancestor_less ops t x x (p, u, i))))
    (at_or_above ops t (Some x) p y j w)

pub apart : (ops : List Op) → IsTree ops → (x y : OpId) (p q : Option OpId) → Inserts ops x p → Inserts ops y p → Within ops (Some x) q → Within ops (Some y) q → x ≡ y
apart ops t x y p q i j w v =
    ⊎_elim
    (λ (u : Within ops (Some x) (Some y)). apart_one ops t x y p i j u)
    (λ (u : Within ops (Some y) (Some x)). sym (apart_one ops t y x p j i u))
    (comparable ops t (Some x) (Some y) q w v)

-- ---- a strict order
pub before_irrefl : (ops : List Op) → IsTree ops → (a : OpId) → Before ops (Some a) a → ⊥
before_irrefl ops t a (inl h) = less_irrefl a (ancestor_less ops t a a h)
before_irrefl ops t a (inr f) =
    less_irrefl f.left (subst (λ z. Less z f.left) (sym (apart ops t f.left f.right f.at (Some a) f.left_branch f.right_branch f.on_left f.on_right)) f.greater)

pub ancestor_fork : (ops : List Op) → IsTree ops → (a : Option OpId) (b c : OpId) → Ancestor ops a b → Fork ops (Some b) c → Before ops a c
ancestor_fork ops t a b c h f =
    ⊎_elim
    (λ (u : Within ops a (Some f.left)).
    ⊎_elim
    (λ (e : a ≡ Some f.left). inr (record { at = f.at; left = f.left; right = f.right; left_branch = f.left_branch; right_branch = f.right_branch; greater = f.greater; on_left = subst (λ z. Within ops (Some f.left) z) (sym e) itself; on_right = f.on_right }))
    (λ (v : Within ops a f.at). inl (ancestor_within ops a f.right c (f.at, v, f.right_branch) f.on_right))
    (at_or_above ops t a f.at f.left f.left_branch u))
    (λ (u : Within ops (Some f.left) a). inr (record { at = f.at; left = f.left; right = f.right; left_branch = f.left_branch; right_branch = f.right_branch; greater = f.greater; on_left = u; on_right = f.on_right }))
    (comparable ops t a (Some f.left) (Some b) (descends ops a b h) f.on_left)

-- the second fork stands at or below the first one's right branch
pub fork_below : (ops : List Op) → IsTree ops → (a : Option OpId) (b c : OpId) (f : Fork ops a b) (g : Fork ops (Some b) c) → Within ops (Some f.right) (Some g.left) → Before ops a c
fork_below ops t a b c f g w =
    ⊎_elim
    (λ (e : Some f.right ≡ Some g.left).
    let one : f.right ≡ g.left = same_Some f.right g.left e in
    let parent : g.at ≡ f.at = t.one g.left g.at f.at g.left_branch (subst (λ z. Inserts ops z f.at) one f.right_branch) in
    inr (record { at = f.at; left = f.left; right = g.right; left_branch = f.left_branch; right_branch = subst (λ z. Inserts ops g.right z) parent g.right_branch; greater = less_trans g.right g.left f.left g.greater (subst (λ z. Less z f.left) one f.greater); on_left = f.on_left; on_right = g.on_right }))
    (λ (v : Within ops (Some f.right) g.at).
    inr (record { at = f.at; left = f.left; right = f.right; left_branch = f.left_branch; right_branch = f.right_branch; greater = f.greater; on_left = f.on_left; on_right = within_trans ops (Some f.right) (Some g.right) (Some c) (below v g.right_branch) g.on_right }))
    (at_or_above ops t (Some f.right) g.at g.left g.left_branch w)

pub fork_above : (ops : List Op) → IsTree ops → (a : Option OpId) (b c : OpId) (f : Fork ops a b) (g : Fork ops (Some b) c) → Within ops (Some g.left) (Some f.right) → Before ops a c
fork_above ops t a b c f g w =
    ⊎_elim
    (λ (e : Some g.left ≡ Some f.right). fork_below ops t a b c f g (subst (λ z. Within ops (Some f.right) z) (sym e) itself))
    (λ (v : Within ops (Some g.left) f.at).
    inr (record { at = g.at; left = g.left; right = g.right; left_branch = g.left_branch; right_branch = g.right_branch; greater = g.greater; on_left = within_trans ops (Some g.left) (Some f.left) a (below v f.left_branch) f.on_left; on_right = g.on_right }))
    (at_or_above ops t (Some g.left) f.at f.right f.right_branch w)

pub before_trans : (ops : List Op) → IsTree ops → (a : Option OpId) (b c : OpId) → Before ops a b → Before ops (Some b) c → Before ops a c
before_trans ops t a b c (inl h) (inl k) = inl (k.0, within_trans ops a (Some b) k.0 (descends ops a b h) k.1, k.2)
before_trans ops t a b c (inl h) (inr g) = ancestor_fork ops t a b c h g
before_trans ops t a b c (inr f) (inl k) =
    inr (record { at = f.at; left = f.left; right = f.right; left_branch = f.left_branch; right_branch = f.right_branch; greater = f.greater; on_left = f.on_left; on_right = within_trans ops (Some f.right) (Some b) (Some c) f.on_right (descends ops (Some b) c k) })
before_trans ops t a b c (inr f) (inr g) =
    ⊎_elim
    (λ (u : Within ops (Some f.right) (Some g.left)). fork_below ops t a b c f g u)
    (λ (u : Within ops (Some g.left) (Some f.right)). fork_above ops t a b c f g u)
    (comparable ops t (Some f.right) (Some g.left) (Some b) f.on_right g.on_left)

pub before_asym : (ops : List Op) → IsTree ops → (a b : OpId) → Before ops (Some a) b → Before ops (Some b) a → ⊥
before_asym ops t a b h k = before_irrefl ops t a (before_trans ops t (Some a) b a h k)

-- ---- more operations
abbrev pub Grows : List Op → List Op → Type 0
Grows old new = (x : OpId) (p : Option OpId) → Inserts old x p → Inserts new x p

pub within_kept : (old new : List Op) → Grows old new → (a q : Option OpId) → Within old a q → Within new a q
within_kept old new more a q itself = itself
within_kept old new more a q (below {p} {x} w i) = below (within_kept old new more a p w) (more x p i)

pub before_kept : (old new : List Op) → Grows old new → (a : Option OpId) (b : OpId) → Before old a b → Before new a b
before_kept old new more a b (inl h) = inl (h.0, within_kept old new more a h.0 h.1, more b h.0 h.2)
before_kept old new more a b (inr f) =
    inr (record { at = f.at; left = f.left; right = f.right; left_branch = more f.left f.at f.left_branch; right_branch = more f.right f.at f.right_branch; greater = f.greater; on_left = within_kept old new more (Some f.left) a f.on_left; on_right = within_kept old new more (Some f.right) (Some b) f.on_right })

-- ---- where a new character goes
-- the branch on which a descendant stands
pub first_step : (ops : List Op) → (a q : Option OpId) → Within ops a q → (y : OpId) → Inserts ops y q → (c : OpId) × Inserts ops c a × Within ops (Some c) (Some y)
first_step ops a q itself y j = (y, j, itself)
first_step ops a q (below {p} {x} w i) y j =
    let up = first_step ops a p w x i in
    (up.0, up.1, below up.2 j)

-- a character that stands before the new one: all from the parent up to it are greater
pub skipped_before : (old new : List Op) → IsTree old → IsTree new → Grows old new → (e y : OpId) (p : Option OpId) → Inserts new e p → Before old p y → ((u : OpId) (q : Option OpId) → Inserts old u q → Before old p u → (u ≡ y) ⊎ Before old (Some u) y → Less e u) → Before new (Some y) e
skipped_before old new t s more e y p i (inl (q, w, j)) all =
    let c = first_step old p q w y j in
    let up : (c.0 ≡ y) ⊎ Before old (Some c.0) y =
    ⊎_elim
    (λ (same : Some c.0 ≡ Some y). inl (same_Some c.0 y same))
    (λ (r : (z : OpId) × (Some y ≡ Some z) × Ancestor old (Some c.0) z). inr (inl (subst (λ z. Ancestor old (Some c.0) z) (sym (same_Some y r.0 r.1)) r.2)))
    (cases_within old (Some c.0) (Some y) c.2)
    in
    inr (record { at = p; left = c.0; right = e; left_branch = more c.0 p c.1; right_branch = i; greater = all c.0 p c.1 (inl (p, itself, c.1)) up; on_left = within_kept old new more (Some c.0) (Some y) c.2; on_right = itself })
skipped_before old new t s more e y p i (inr f) all =
    let up : (f.right ≡ y) ⊎ Before old (Some f.right) y =
    ⊎_elim
    (λ (same : Some f.right ≡ Some y). inl (same_Some f.right y same))
    (λ (r : (z : OpId) × (Some y ≡ Some z) × Ancestor old (Some f.right) z). inr (inl (subst (λ z. Ancestor old (Some f.right) z) (sym (same_Some y r.0 r.1)) r.2)))
    (cases_within old (Some f.right) (Some y) f.on_right)
    in
    let fork : Before old p f.right = inr (record { at = f.at; left = f.left; right = f.right; left_branch = f.left_branch; right_branch = f.right_branch; greater = f.greater; on_left = f.on_left; on_right = itself }) in
    let above : Less f.left e = ancestor_less new s f.left e (p, within_kept old new more (Some f.left) p f.on_left, i) in
    absurd (less_irrefl e (less_trans e f.right e (all f.right f.at f.right_branch fork up) (less_trans f.right f.left e f.greater above)))

-- the first character after the parent that is not greater stands after the new one
pub stop_after : (old new : List Op) → IsTree old → Grows old new → (e z : OpId) (p : Option OpId) → Inserts new e p → Before old p z → Less z e → Before new (Some e) z
stop_after old new t more e z p i (inl (q, w, j)) less =
    let c = first_step old p q w z j in
    let small : Less c.0 e =
    ⊎_elim
    (λ (same : c.0 ≡ z). subst (λ x. Less x e) (sym same) less)
    (λ (l : Less c.0 z). less_trans c.0 z e l less)
    (within_at_most old t c.0 (Some z) c.2 z refl)
    in
    inr (record { at = p; left = e; right = c.0; left_branch = i; right_branch = more c.0 p c.1; greater = small; on_left = itself; on_right = within_kept old new more (Some c.0) (Some z) c.2 })
stop_after old new t more e z p i (inr f) less =
    inr (record { at = f.at; left = f.left; right = f.right; left_branch = more f.left f.at f.left_branch; right_branch = more f.right f.at f.right_branch; greater = f.greater; on_left = below (within_kept old new more (Some f.left) p f.on_left) i; on_right = within_kept old new more (Some f.right) (Some z) f.on_right })
