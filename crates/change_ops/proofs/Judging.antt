-- The verdict on a line by its parts.
use Rattle.std.proofs.Common.{◌≡◌, ℕ, Bool, true, false, cond, List, Option, Some, None, Result, Ok, Err, refl, ap, sym, inl, inr, ◌∙◌}
use Rattle.std.specs.Prelude.{◌&&◌, not, codes}
use Rattle.std.specs.Str.{bytes_eq}
use Rattle.change_ops.specs.Ids.{OpId, within_limits, is_character}
use Rattle.change_ops.specs.Limits.{parent_within, anchors_within, key_within, attribute_within, op_within, has_character}
use Rattle.change_ops.specs.Keys.{is_at_most}
use Rattle.change_ops.specs.Lines.{has_key, has_attribute, has_op}
use Rattle.change_ops.specs.Words.{split}
use Rattle.change_ops.specs.Reading.{◌>>=◌, kept_if, id_at, parent_at, hex_at, key_at, attribute_at, anchors_at, insert_at, remove_at, marked_at, mark_at, unmarked_at, unmark_at, revive_at, op_at, op_verdict, owned, within, encoded, both, Reads}
use Rattle.change_ops.specs.declared.refusal.LineFault.{LineFault}
use Rattle.change_ops.specs.declared.refusal.LineFault.TheVariants.{BadLine, Limit, CharRefused, OutOfMemory}
use Rattle.change_ops.specs.declared.attribute.Attribute.{Attribute}
use Rattle.change_ops.specs.declared.attribute.Key.{Key}
use Rattle.change_ops.specs.declared.line.Form.{Form}
use Rattle.change_ops.specs.declared.line.Form.TheVariants.{Third}
use Rattle.change_ops.specs.declared.operation.Anchor.{Anchor}
use Rattle.change_ops.specs.declared.operation.Op.{Op}
use Rattle.change_ops.specs.declared.operation.Op.TheVariants.{Insert, Remove, AddMark, RemoveMark, Revive}

-- what is made of two parts that were read
abbrev pub made : {A B : Type 0} → Result A LineFault → (A → Result B LineFault) → Result B LineFault
made (Ok x) f = f x
made (Err fault) f = Err fault

abbrev paired : {A B : Type 0} → A → B → A × B
paired a b = (a, b)

-- two parts within their limits are one within both
pub within_both : {A B : Type 0} (t : A → Bool) (u : B → Bool) (a : Option A) (b : Option B) → both (within t a) (within u b) ≡ within (λ (x : A × B). t x.0 && u x.1) (a >>= λ x. b >>= λ y. Some (x, y))
within_both t u None None = refl
within_both {A} {B} t u None (Some y) = go (u y) where
  go : (d : Bool) → both {A = A} {B = B} (Err BadLine) (cond d (Ok y) (Err Limit)) ≡ Err BadLine
  go true = refl
  go false = refl
within_both {A} {B} t u (Some x) None = go (t x) where
  go : (c : Bool) → both {A = A} {B = B} (cond c (Ok x) (Err Limit)) (Err BadLine) ≡ Err BadLine
  go true = refl
  go false = refl
within_both {A} {B} t u (Some x) (Some y) = go (t x) (u y) where
  go : (c d : Bool) → both {A = A} {B = B} (cond c (Ok x) (Err Limit)) (cond d (Ok y) (Err Limit)) ≡ cond (c && d) (Ok (x, y)) (Err Limit)
  go true true = refl
  go true false = refl
  go false true = refl
  go false false = refl

-- what is made of a part that is within its limits
pub within_made : {A : Type 0} (peer : ℕ) (t : A → Bool) (op : A → Op) (read : Option A) → ((x : A) → op_within (op x) ≡ t x) → ((x : A) → has_character (op x) ≡ true)
    → op_verdict peer (read >>= λ x. Some (op x)) ≡ made (within t read) (λ x. owned peer (op x))
within_made peer t op None limits code = refl
within_made peer t op (Some x) limits code = rw (limits x, code x) (go (t x)) where
  go : (b : Bool) → cond (not b) (Err Limit) (owned peer (op x)) ≡ made (cond b (Ok x) (Err Limit)) (λ y. owned peer (op y))
  go true = refl
  go false = refl

pub insert_judged : (peer : ℕ) (id : Option OpId) (parent : Option (Option OpId)) (code : Option ℕ)
    → op_verdict peer (id >>= λ i. parent >>= λ p. code >>= λ c. Some (Insert i p c)) ≡ made (both (both (within within_limits id) (within parent_within parent)) (encoded code)) (λ x. owned peer (Insert x.0.0 x.0.1 x.1))
insert_judged peer id parent code = rw (within_both within_limits parent_within id parent) (go id parent code) where
  one : (i : OpId) (p : Option OpId) (c : ℕ) (a b d : Bool) → cond (not (a && b)) (Err Limit) (cond (not d) (Err CharRefused) (owned peer (Insert i p c))) ≡ made (both (cond (a && b) (Ok (i, p)) (Err Limit)) (cond d (Ok c) (Err CharRefused))) (λ (x : (OpId × Option OpId) × ℕ). owned peer (Insert x.0.0 x.0.1 x.1))
  one i p c true true true = refl
  one i p c true true false = refl
  one i p c true false true = refl
  one i p c true false false = refl
  one i p c false b true = refl
  one i p c false b false = refl

  none : (i : OpId) (p : Option OpId) (a : Bool) → Err BadLine ≡ made (both (cond a (Ok (i, p)) (Err Limit)) (Err BadLine)) (λ (x : (OpId × Option OpId) × ℕ). owned peer (Insert x.0.0 x.0.1 x.1))
  none i p true = refl
  none i p false = refl

  coded : (c : ℕ) (d : Bool) → Err BadLine ≡ made (both (Err BadLine) (cond d (Ok c) (Err CharRefused))) (λ (x : (OpId × Option OpId) × ℕ). owned peer (Insert x.0.0 x.0.1 x.1))
  coded c true = refl
  coded c false = refl

  go : (id : Option OpId) (parent : Option (Option OpId)) (code : Option ℕ)
      → op_verdict peer (id >>= λ i. parent >>= λ p. code >>= λ c. Some (Insert i p c)) ≡ made (both (within (λ (x : OpId × Option OpId). within_limits x.0 && parent_within x.1) (id >>= λ i. parent >>= λ p. Some (i, p))) (encoded code)) (λ x. owned peer (Insert x.0.0 x.0.1 x.1))
  go (Some i) (Some p) (Some c) = one i p c (within_limits i) (parent_within p) (is_character c)
  go (Some i) (Some p) None = none i p (within_limits i && parent_within p)
  go (Some i) None (Some c) = coded c (is_character c)
  go (Some i) None None = refl
  go None parent (Some c) = coded c (is_character c)
  go None parent None = refl

and_comm : (a b : Bool) → (a && b) ≡ (b && a)
and_comm true true = refl
and_comm true false = refl
and_comm false true = refl
and_comm false false = refl

-- an id and the id that it names: of what a removal and the revival of one are made
pub ids_judged : (peer : ℕ) (op : OpId → OpId → Op) (id named : Option OpId) → ((i n : OpId) → op_within (op i n) ≡ (within_limits i && within_limits n)) → ((i n : OpId) → has_character (op i n) ≡ true)
    → op_verdict peer (id >>= λ i. named >>= λ n. Some (op i n)) ≡ made (both (within within_limits id) (within within_limits named)) (λ x. owned peer (op x.0 x.1))
ids_judged peer op id named limits code =
    rw within_both (go id named) where
      go : (id named : Option OpId) → op_verdict peer (id >>= λ i. named >>= λ n. Some (op i n)) ≡ made (within (λ (x : OpId × OpId). within_limits x.0 && within_limits x.1) (id >>= λ x. named >>= λ y. Some (x, y))) (λ x. owned peer (op x.0 x.1))
      go None named = refl
      go (Some i) None = refl
      go (Some i) (Some n) = within_made peer (λ (x : OpId × OpId). within_limits x.0 && within_limits x.1) (λ x. op x.0 x.1) (Some (i, n)) (λ x. limits x.0 x.1) (λ x. code x.0 x.1)

-- a value and its two anchors, and then the id: of what a mark and the removal of one are made
pub marks_judged : {A : Type 0} (peer : ℕ) (t : A → Bool) (op : OpId → A → Anchor × Anchor → Op) (id : Option OpId) (value : Option A) (anchors : Option (Anchor × Anchor))
    → ((i : OpId) (a : A) (n : Anchor × Anchor) → op_within (op i a n) ≡ (within_limits i && (t a && anchors_within n))) → ((i : OpId) (a : A) (n : Anchor × Anchor) → has_character (op i a n) ≡ true)
    → op_verdict peer (id >>= λ i. value >>= λ a. anchors >>= λ n. Some (op i a n)) ≡ made (both (both (within t value) (within anchors_within anchors)) (within within_limits id)) (λ x. owned peer (op x.1 x.0.0 x.0.1))
marks_judged {A} peer t op id value anchors limits code = rw (within_both t anchors_within value anchors, within_both (λ (x : A × (Anchor × Anchor)). t x.0 && anchors_within x.1) within_limits (value >>= λ a. anchors >>= λ n. Some (a, n)) id) (go id value anchors) where
  go : (id : Option OpId) (value : Option A) (anchors : Option (Anchor × Anchor))
      → op_verdict peer (id >>= λ i. value >>= λ a. anchors >>= λ n. Some (op i a n)) ≡ made (within (λ (x : (A × (Anchor × Anchor)) × OpId). (t x.0.0 && anchors_within x.0.1) && within_limits x.1) ((value >>= λ a. anchors >>= λ n. Some (a, n)) >>= λ p. id >>= λ i. Some (p, i))) (λ x. owned peer (op x.1 x.0.0 x.0.1))
  go None None anchors = refl
  go None (Some a) None = refl
  go None (Some a) (Some n) = refl
  go (Some i) None anchors = refl
  go (Some i) (Some a) None = refl
  go (Some i) (Some a) (Some n) = within_made peer (λ (x : (A × (Anchor × Anchor)) × OpId). (t x.0.0 && anchors_within x.0.1) && within_limits x.1) (λ x. op x.1 x.0.0 x.0.1) (Some ((a, n), i)) (λ x. limits x.1 x.0.0 x.0.1 ∙ and_comm (within_limits x.1) (t x.0.0 && anchors_within x.0.1)) (λ x. code x.1 x.0.0 x.0.1)

-- the lines

pub insert_line : (peer : ℕ) (fields own rest parent code : List ℕ) (read : Result ((OpId × Option OpId) × ℕ) LineFault) → split 32 fields ≡ Some (own, rest) → split 32 rest ≡ Some (parent, code)
    → read ≡ both (both (within within_limits (id_at own)) (within parent_within (parent_at parent))) (encoded (hex_at code)) → op_verdict peer (insert_at fields) ≡ made read (λ x. owned peer (Insert x.0.0 x.0.1 x.1))
unfolding insert_at
insert_line peer fields own rest parent code read e f same = rw (e, f, same) (insert_judged peer (id_at own) (parent_at parent) (hex_at code))

pub remove_line : (peer : ℕ) (fields own target : List ℕ) (read : Result (OpId × OpId) LineFault) → split 32 fields ≡ Some (own, target)
    → read ≡ both (within within_limits (id_at own)) (within within_limits (id_at target)) → op_verdict peer (remove_at fields) ≡ made read (λ x. owned peer (Remove x.0 x.1))
unfolding remove_at
remove_line peer fields own target read e same = rw (e, same) (ids_judged peer Remove (id_at own) (id_at target) (λ i n. refl) (λ i n. refl))

-- a revival where the form has such
pub revive_line : (form : Form) (peer : ℕ) (fields own removal : List ℕ) (read : Result (OpId × OpId) LineFault) → is_at_most Third form ≡ true → split 32 fields ≡ Some (own, removal)
    → read ≡ both (within within_limits (id_at own)) (within within_limits (id_at removal)) → op_verdict peer (kept_if (has_op form) (revive_at fields)) ≡ made read (λ x. owned peer (Revive x.0 x.1))
unfolding revive_at
revive_line form peer fields own removal read h e same = rw (e, same) (ap (op_verdict peer) (kept (id_at own) (id_at removal)) ∙ ids_judged peer Revive (id_at own) (id_at removal) (λ i n. refl) (λ i n. refl)) where
  kept : (id removal : Option OpId) → kept_if (has_op form) (id >>= λ i. removal >>= λ r. Some (Revive i r)) ≡ (id >>= λ i. removal >>= λ r. Some (Revive i r))
  kept None removal = refl
  kept (Some i) None = refl
  kept (Some i) (Some r) = rw h refl

-- and where it has none
pub no_revival : (form : Form) (peer : ℕ) (fields : List ℕ) → is_at_most Third form ≡ false → op_verdict peer (kept_if (has_op form) (revive_at fields)) ≡ Err BadLine
unfolding revive_at
no_revival form peer fields h = go (split 32 fields) where
  none : (id removal : Option OpId) → op_verdict peer (kept_if (has_op form) (id >>= λ i. removal >>= λ r. Some (Revive i r))) ≡ Err BadLine
  none None removal = refl
  none (Some i) None = refl
  none (Some i) (Some r) = rw h refl

  go : (o : Option (List ℕ × List ℕ)) → op_verdict peer (kept_if (has_op form) (o >>= λ first. id_at first.0 >>= λ i. id_at first.1 >>= λ r. Some (Revive i r))) ≡ Err BadLine
  go None = refl
  go (Some first) = none (id_at first.0) (id_at first.1)

-- each form has insertions and removals

kept_insert : (form : Form) (fields : List ℕ) → kept_if (has_op form) (insert_at fields) ≡ insert_at fields
unfolding insert_at
kept_insert form fields = go (split 32 fields) where
  parts : (id : Option OpId) (parent : Option (Option OpId)) (code : Option ℕ) → kept_if (has_op form) (id >>= λ i. parent >>= λ p. code >>= λ c. Some (Insert i p c)) ≡ (id >>= λ i. parent >>= λ p. code >>= λ c. Some (Insert i p c))
  parts None parent code = refl
  parts (Some i) None code = refl
  parts (Some i) (Some p) None = refl
  parts (Some i) (Some p) (Some c) = refl

  behind : (own : List ℕ) (o : Option (List ℕ × List ℕ)) → kept_if (has_op form) (o >>= λ second. id_at own >>= λ i. parent_at second.0 >>= λ p. hex_at second.1 >>= λ c. Some (Insert i p c)) ≡ (o >>= λ second. id_at own >>= λ i. parent_at second.0 >>= λ p. hex_at second.1 >>= λ c. Some (Insert i p c))
  behind own None = refl
  behind own (Some second) = parts (id_at own) (parent_at second.0) (hex_at second.1)

  go : (o : Option (List ℕ × List ℕ)) → kept_if (has_op form) (o >>= λ first. split 32 first.1 >>= λ second. id_at first.0 >>= λ i. parent_at second.0 >>= λ p. hex_at second.1 >>= λ c. Some (Insert i p c)) ≡ (o >>= λ first. split 32 first.1 >>= λ second. id_at first.0 >>= λ i. parent_at second.0 >>= λ p. hex_at second.1 >>= λ c. Some (Insert i p c))
  go None = refl
  go (Some first) = behind first.0 (split 32 first.1)

kept_remove : (form : Form) (fields : List ℕ) → kept_if (has_op form) (remove_at fields) ≡ remove_at fields
unfolding remove_at
kept_remove form fields = go (split 32 fields) where
  parts : (id target : Option OpId) → kept_if (has_op form) (id >>= λ i. target >>= λ t. Some (Remove i t)) ≡ (id >>= λ i. target >>= λ t. Some (Remove i t))
  parts None target = refl
  parts (Some i) None = refl
  parts (Some i) (Some t) = refl

  go : (o : Option (List ℕ × List ℕ)) → kept_if (has_op form) (o >>= λ first. id_at first.0 >>= λ i. id_at first.1 >>= λ t. Some (Remove i t)) ≡ (o >>= λ first. id_at first.0 >>= λ i. id_at first.1 >>= λ t. Some (Remove i t))
  go None = refl
  go (Some first) = parts (id_at first.0) (id_at first.1)

pub insert_kept : (form : Form) (peer : ℕ) (line name fields : List ℕ) → split 32 line ≡ Some (name, fields) → bytes_eq name (codes "i") ≡ true → op_verdict peer (kept_if (has_op form) (op_at line)) ≡ op_verdict peer (insert_at fields)
unfolding op_at
insert_kept form peer line name fields e first = rw (e, first) (ap (op_verdict peer) (kept_insert form fields))

pub remove_kept : (form : Form) (peer : ℕ) (line name fields : List ℕ) → split 32 line ≡ Some (name, fields) → bytes_eq name (codes "i") ≡ false → bytes_eq name (codes "d") ≡ true → op_verdict peer (kept_if (has_op form) (op_at line)) ≡ op_verdict peer (remove_at fields)
unfolding op_at
remove_kept form peer line name fields e first second = rw (e, first, second) (ap (op_verdict peer) (kept_remove form fields))

pub unmark_line : (form : Form) (peer : ℕ) (fields own rest name anchors : List ℕ) (read : Result ((Key × (Anchor × Anchor)) × OpId) LineFault) → split 32 fields ≡ Some (own, rest) → split 32 rest ≡ Some (name, anchors)
    → read ≡ both (both (within key_within (kept_if (has_key form) (key_at name))) (within anchors_within (anchors_at anchors))) (within within_limits (id_at own))
    → op_verdict peer (kept_if (has_op form) (unmark_at fields)) ≡ made read (λ x. owned peer (RemoveMark x.1 x.0.0 x.0.1.0 x.0.1.1))
unfolding unmark_at unmarked_at
unmark_line form peer fields own rest name anchors read e f same =
    rw (e, f, same) (regroup (id_at own) (key_at name) (anchors_at anchors) ∙ marks_judged peer key_within (λ i k n. RemoveMark i k n.0 n.1) (id_at own) (kept_if (has_key form) (key_at name)) (anchors_at anchors) (λ i k n. refl) (λ i k n. refl)) where
      nothing : (k : Key) (b : Bool) → Err BadLine ≡ op_verdict peer (cond b (Some k) None >>= λ k. None)
      nothing k true = refl
      nothing k false = refl

      all : (i : OpId) (k : Key) (n : Anchor × Anchor) (b : Bool) → op_verdict peer (cond b (Some (RemoveMark i k n.0 n.1)) None) ≡ op_verdict peer (cond b (Some k) None >>= λ k. Some (RemoveMark i k n.0 n.1))
      all i k n true = refl
      all i k n false = refl

      regroup : (id : Option OpId) (key : Option Key) (anchors : Option (Anchor × Anchor))
          → op_verdict peer (kept_if (has_op form) (id >>= λ i. (key >>= λ k. anchors >>= λ n. Some (paired k n)) >>= λ u. Some (RemoveMark i u.0 u.1.0 u.1.1))) ≡ op_verdict peer (id >>= λ i. kept_if (has_key form) key >>= λ k. anchors >>= λ n. Some (RemoveMark i k n.0 n.1))
      regroup None key anchors = refl
      regroup (Some i) None anchors = refl
      regroup (Some i) (Some k) None = nothing k (has_key form k)
      regroup (Some i) (Some k) (Some n) = all i k n (has_key form k)

mark_read : (form : Form) (peer : ℕ) (fields own rest name more value anchors : List ℕ) → split 32 fields ≡ Some (own, rest) → split 32 rest ≡ Some (name, more) → split 32 more ≡ Some (value, anchors)
    → op_verdict peer (kept_if (has_op form) (mark_at fields)) ≡ made (both (both (within attribute_within (kept_if (has_attribute form) (attribute_at name value))) (within anchors_within (anchors_at anchors))) (within within_limits (id_at own))) (λ x. owned peer (AddMark x.1 x.0.0 x.0.1.0 x.0.1.1))
unfolding mark_at marked_at
mark_read form peer fields own rest name more value anchors e f g =
    rw (e, f, g) (regroup (id_at own) (attribute_at name value) (anchors_at anchors) ∙ marks_judged peer attribute_within (λ i a n. AddMark i a n.0 n.1) (id_at own) (kept_if (has_attribute form) (attribute_at name value)) (anchors_at anchors) (λ i a n. refl) (λ i a n. refl)) where
      nothing : (a : Attribute) (b : Bool) → Err BadLine ≡ op_verdict peer (cond b (Some a) None >>= λ a. None)
      nothing a true = refl
      nothing a false = refl

      all : (i : OpId) (a : Attribute) (n : Anchor × Anchor) (b : Bool) → op_verdict peer (cond b (Some (AddMark i a n.0 n.1)) None) ≡ op_verdict peer (cond b (Some a) None >>= λ a. Some (AddMark i a n.0 n.1))
      all i a n true = refl
      all i a n false = refl

      regroup : (id : Option OpId) (attribute : Option Attribute) (anchors : Option (Anchor × Anchor))
          → op_verdict peer (kept_if (has_op form) (id >>= λ i. (anchors >>= λ n. attribute >>= λ a. Some (paired a n)) >>= λ m. Some (AddMark i m.0 m.1.0 m.1.1))) ≡ op_verdict peer (id >>= λ i. kept_if (has_attribute form) attribute >>= λ a. anchors >>= λ n. Some (AddMark i a n.0 n.1))
      regroup None attribute anchors = refl
      regroup (Some i) None None = refl
      regroup (Some i) None (Some n) = refl
      regroup (Some i) (Some a) None = nothing a (has_attribute form a)
      regroup (Some i) (Some a) (Some n) = all i a n (has_attribute form a)

-- where memory ran out, a part of no form is told all the same
memory_told : (peer : ℕ) (id : Option OpId) (anchors : Option (Anchor × Anchor)) (attribute : Option Attribute)
    → Reads (made (both (both (Err OutOfMemory) (within anchors_within anchors)) (within within_limits id)) (λ x. owned peer (AddMark x.1 x.0.0 x.0.1.0 x.0.1.1)))
    (made (both (both (within attribute_within attribute) (within anchors_within anchors)) (within within_limits id)) (λ x. owned peer (AddMark x.1 x.0.0 x.0.1.0 x.0.1.1)))
memory_told peer id None attribute = inr (ap (λ (r : Result ((Attribute × (Anchor × Anchor)) × OpId) LineFault). made r (λ x. owned peer (AddMark x.1 x.0.0 x.0.1.0 x.0.1.1))) (ap (λ (r : Result (Attribute × (Anchor × Anchor)) LineFault). both r (within within_limits id)) (sym (formless (within attribute_within attribute))))) where
  formless : (r : Result Attribute LineFault) → both {B = Anchor × Anchor} r (Err BadLine) ≡ Err BadLine
  formless (Ok a) = refl
  formless (Err fault) = refl
memory_told peer None (Some n) attribute = inr (go (anchors_within n) (both (within attribute_within attribute) (within anchors_within (Some n)))) where
  go : (b : Bool) (r : Result (Attribute × (Anchor × Anchor)) LineFault)
      → made (both (both (Err OutOfMemory) (cond b (Ok n) (Err Limit))) (Err BadLine)) (λ (x : (Attribute × (Anchor × Anchor)) × OpId). owned peer (AddMark x.1 x.0.0 x.0.1.0 x.0.1.1))
      ≡ made (both r (Err BadLine)) (λ (x : (Attribute × (Anchor × Anchor)) × OpId). owned peer (AddMark x.1 x.0.0 x.0.1.0 x.0.1.1))
  go true (Ok x) = refl
  go true (Err fault) = refl
  go false (Ok x) = refl
  go false (Err fault) = refl
memory_told peer (Some i) (Some n) attribute = inl (go (anchors_within n) (within_limits i)) where
  go : (b c : Bool) → made (both (both (Err OutOfMemory) (cond b (Ok n) (Err Limit))) (cond c (Ok i) (Err Limit))) (λ (x : (Attribute × (Anchor × Anchor)) × OpId). owned peer (AddMark x.1 x.0.0 x.0.1.0 x.0.1.1)) ≡ Err OutOfMemory
  go true true = refl
  go true false = refl
  go false true = refl
  go false false = refl

pub mark_line : (form : Form) (peer : ℕ) (fields own rest name more value anchors : List ℕ) (attribute : Result Attribute LineFault) (read : Result ((Attribute × (Anchor × Anchor)) × OpId) LineFault)
    → split 32 fields ≡ Some (own, rest) → split 32 rest ≡ Some (name, more) → split 32 more ≡ Some (value, anchors) → Reads attribute (within attribute_within (kept_if (has_attribute form) (attribute_at name value)))
    → read ≡ both (both attribute (within anchors_within (anchors_at anchors))) (within within_limits (id_at own))
    → Reads (made read (λ x. owned peer (AddMark x.1 x.0.0 x.0.1.0 x.0.1.1))) (op_verdict peer (kept_if (has_op form) (mark_at fields)))
mark_line form peer fields own rest name more value anchors attribute read e f g (inr same) is = inr (rw (is, same) (sym (mark_read form peer fields own rest name more value anchors e f g)))
mark_line form peer fields own rest name more value anchors attribute read e f g (inl memory) is =
    rw (is, memory, mark_read form peer fields own rest name more value anchors e f g) (memory_told peer (id_at own) (anchors_at anchors) (kept_if (has_attribute form) (attribute_at name value)))
