-- A line is read as the operation that it spells, and spells the operation that it is read as.
use Rattle.std.proofs.Common.{◌≡◌, ℕ, Bool, true, false, cond, eqb, List, [], ◌∷◌, Option, Some, None, refl, sym, ap, ◌∙◌, arith, append_assoc, lit≤}
use Rattle.std.specs.Prelude.{codes, if◌then◌else◌}
use Rattle.std.specs.Str.{bytes_eq}
use Rattle.std.proofs.lemmas.Bool.{and_parts}
use Rattle.change_ops.specs.Ids.{OpId, within_limits, is_character}
use Rattle.change_ops.specs.Limits.{parent_within, anchor_within, anchors_within, key_within, attribute_within, marked_within, unmarked_within, op_within, has_character}
use Rattle.change_ops.specs.Words.{split}
use Rattle.change_ops.specs.Reading.{◌>>=◌, id_at, hex_at, parent_at, anchor_at, anchors_at, key_at, attribute_at, insert_at, remove_at, marked_at, mark_at, unmarked_at, unmark_at, revive_at, op_at}
use Rattle.change_ops.specs.Spelling.{◌␣◌, hexadecimal, id_text, parent_text, anchor_text, key_text, attribute_text, op_text}
use Rattle.change_ops.specs.declared.attribute.Key.{Key}
use Rattle.change_ops.specs.declared.attribute.Attribute.{Attribute}
use Rattle.change_ops.specs.declared.operation.Anchor.{Anchor}
use Rattle.change_ops.specs.declared.operation.Op.{Op}
use Rattle.change_ops.specs.declared.operation.Op.TheVariants.{Insert, Remove, AddMark, RemoveMark, Revive}
use Rattle.change_ops.proofs.Grammar.{Lacks, bind_some, split_again, split_takes}
use Rattle.change_ops.proofs.Phrases.{lacks_cons, lacks_joined, hex_again, hex_takes, hex_lacks, id_again, id_takes, id_lacks, parent_again, parent_takes, parent_lacks, anchor_again, anchor_takes, anchor_lacks, same_bytes}
use Rattle.change_ops.proofs.KeyWords.{key_again, key_takes, key_lacks, attribute_again, attribute_takes, attribute_lacks}

-- a word, and what stands behind its space
first : (word rest : List ℕ) → Lacks 32 word → split 32 (word ␣ rest) ≡ Some (word, rest)
first word rest lacks = split_again 32 word rest lacks

id_first : (id : OpId) (rest : List ℕ) → within_limits id ≡ true → split 32 (id_text id ␣ rest) ≡ Some (id_text id, rest)
id_first id rest h = first (id_text id) rest (id_lacks 32 id (lit≤ tt) refl h)

insert_again : (id : OpId) (parent : Option OpId) (character : ℕ) → within_limits id ≡ true → parent_within parent ≡ true → is_character character ≡ true
    → insert_at (id_text id ␣ parent_text parent ␣ hexadecimal character) ≡ Some (Insert id parent character)
unfolding insert_at
insert_again id parent character h p c =
    let one = id_first id (parent_text parent ␣ hexadecimal character) h in
    let two = first (parent_text parent) (hexadecimal character) (parent_lacks 32 parent (lit≤ tt) refl refl p) in
    rw (one, two, id_again id h, parent_again parent p, hex_again character c) refl

remove_again : (id target : OpId) → within_limits id ≡ true → within_limits target ≡ true → remove_at (id_text id ␣ id_text target) ≡ Some (Remove id target)
unfolding remove_at
remove_again id target h t = rw (id_first id (id_text target) h, id_again id h, id_again target t) refl

anchors_again : (start end : Anchor) → anchor_within start ≡ true → anchor_within end ≡ true → anchors_at (anchor_text start ␣ anchor_text end) ≡ Some (start, end)
unfolding anchors_at
anchors_again start end s e =
    let one = first (anchor_text start) (anchor_text end) (anchor_lacks 32 start (lit≤ tt) refl refl refl refl refl s) in
    rw (one, anchor_again start s, anchor_again end e) refl

marked_again : (attribute : Attribute) (start end : Anchor) → attribute_within attribute ≡ true → anchor_within start ≡ true → anchor_within end ≡ true
    → marked_at (attribute_text attribute ␣ anchor_text start ␣ anchor_text end) ≡ Some (attribute, (start, end))
unfolding marked_at
marked_again attribute start end a s e =
    let w = attribute_again attribute a in
    let anchors = anchor_text start ␣ anchor_text end in
    let text : attribute_text attribute ␣ anchors ≡ w.name ␣ (w.value ␣ anchors) = rw w.whole (append_assoc w.name (32 ∷ w.value) (32 ∷ anchors)) in
    let one = first w.name (w.value ␣ anchors) (w.name_lacks 32 (omega arith)) in
    let two = first w.value anchors (w.value_lacks 32 (omega arith)) in
    rw (text, one, two, anchors_again start end s e, w.read) refl

mark_again : (id : OpId) (attribute : Attribute) (start end : Anchor) → within_limits id ≡ true → attribute_within attribute ≡ true → anchor_within start ≡ true → anchor_within end ≡ true
    → mark_at (id_text id ␣ attribute_text attribute ␣ anchor_text start ␣ anchor_text end) ≡ Some (AddMark id attribute start end)
unfolding mark_at
mark_again id attribute start end h a s e =
    rw (id_first id (attribute_text attribute ␣ anchor_text start ␣ anchor_text end) h, id_again id h, marked_again attribute start end a s e) refl

unmark_again : (id : OpId) (key : Key) (start end : Anchor) → within_limits id ≡ true → key_within key ≡ true → anchor_within start ≡ true → anchor_within end ≡ true
    → unmark_at (id_text id ␣ key_text key ␣ anchor_text start ␣ anchor_text end) ≡ Some (RemoveMark id key start end)
unfolding unmark_at unmarked_at
unmark_again id key start end h k s e =
    let anchors = anchor_text start ␣ anchor_text end in
    let two = first (key_text key) anchors (key_lacks 32 key (omega arith) k) in
    rw (id_first id (key_text key ␣ anchors) h, id_again id h, two, key_again key k, anchors_again start end s e) refl

revive_again : (id removal : OpId) → within_limits id ≡ true → within_limits removal ≡ true → revive_at (id_text id ␣ id_text removal) ≡ Some (Revive id removal)
unfolding revive_at
revive_again id removal h r = rw (id_first id (id_text removal) h, id_again id h, id_again removal r) refl

-- the first word of a line
pub kind : (b : ℕ) (fields : List ℕ) → eqb b 32 ≡ false → split 32 ((b ∷ []) ␣ fields) ≡ Some (b ∷ [], fields)
kind b fields h = first (b ∷ []) fields (lacks_cons 32 b [] h (λ k lt. absurd (omega arith)))

pub op_again : (op : Op) → op_within op ≡ true → has_character op ≡ true → op_at (op_text op) ≡ Some op
unfolding op_at
op_again (Insert id parent character) h c =
    let w = and_parts (within_limits id) (parent_within parent) h in
    rw (kind 105 (id_text id ␣ parent_text parent ␣ hexadecimal character) refl, insert_again id parent character w.0 w.1 c) refl
op_again (Remove id target) h c =
    let w = and_parts (within_limits id) (within_limits target) h in
    rw (kind 100 (id_text id ␣ id_text target) refl, remove_again id target w.0 w.1) refl
op_again (AddMark id attribute start end) h c =
    let w = and_parts (within_limits id) (marked_within (attribute, (start, end))) h in
    let m = and_parts (attribute_within attribute) (anchors_within (start, end)) w.1 in
    let a = and_parts (anchor_within start) (anchor_within end) m.1 in
    rw (kind 109 (id_text id ␣ attribute_text attribute ␣ anchor_text start ␣ anchor_text end) refl, mark_again id attribute start end w.0 m.0 a.0 a.1) refl
op_again (RemoveMark id key start end) h c =
    let w = and_parts (within_limits id) (unmarked_within (key, (start, end))) h in
    let m = and_parts (key_within key) (anchors_within (start, end)) w.1 in
    let a = and_parts (anchor_within start) (anchor_within end) m.1 in
    rw (kind 117 (id_text id ␣ key_text key ␣ anchor_text start ␣ anchor_text end) refl, unmark_again id key start end w.0 m.0 a.0 a.1) refl
op_again (Revive id removal) h c =
    let w = and_parts (within_limits id) (within_limits removal) h in
    rw (kind 118 (id_text id ␣ id_text removal) refl, revive_again id removal w.0 w.1) refl

-- a line has no LF

behind : (word rest : List ℕ) → Lacks 10 word → Lacks 10 rest → Lacks 10 (word ␣ rest)
behind word rest a b = lacks_joined 10 word rest 32 a refl b

letter : (b : ℕ) → eqb b 10 ≡ false → Lacks 10 (b ∷ [])
letter b h = lacks_cons 10 b [] h (λ k lt. absurd (omega arith))

id_line : (id : OpId) → within_limits id ≡ true → Lacks 10 (id_text id)
id_line id h = id_lacks 10 id (lit≤ tt) refl h

anchors_line : (start end : Anchor) → anchor_within start ≡ true → anchor_within end ≡ true → Lacks 10 (anchor_text start ␣ anchor_text end)
anchors_line start end s e = behind (anchor_text start) (anchor_text end) (anchor_lacks 10 start (lit≤ tt) refl refl refl refl refl s) (anchor_lacks 10 end (lit≤ tt) refl refl refl refl refl e)

pub op_lacks : (op : Op) → op_within op ≡ true → has_character op ≡ true → Lacks 10 (op_text op)
op_lacks (Insert id parent character) h c =
    let w = and_parts (within_limits id) (parent_within parent) h in
    behind (codes "i") _ (letter 105 refl) (behind (id_text id) _ (id_line id w.0) (behind (parent_text parent) (hexadecimal character) (parent_lacks 10 parent (lit≤ tt) refl refl w.1) (hex_lacks 10 character (lit≤ tt) c)))
op_lacks (Remove id target) h c =
    let w = and_parts (within_limits id) (within_limits target) h in
    behind (codes "d") _ (letter 100 refl) (behind (id_text id) (id_text target) (id_line id w.0) (id_line target w.1))
op_lacks (AddMark id attribute start end) h c =
    let w = and_parts (within_limits id) (marked_within (attribute, (start, end))) h in
    let m = and_parts (attribute_within attribute) (anchors_within (start, end)) w.1 in
    let a = and_parts (anchor_within start) (anchor_within end) m.1 in
    behind (codes "m") _ (letter 109 refl) (behind (id_text id) _ (id_line id w.0) (behind (attribute_text attribute) _ (attribute_lacks attribute m.0) (anchors_line start end a.0 a.1)))
op_lacks (RemoveMark id key start end) h c =
    let w = and_parts (within_limits id) (unmarked_within (key, (start, end))) h in
    let m = and_parts (key_within key) (anchors_within (start, end)) w.1 in
    let a = and_parts (anchor_within start) (anchor_within end) m.1 in
    behind (codes "u") _ (letter 117 refl) (behind (id_text id) _ (id_line id w.0) (behind (key_text key) _ (key_lacks 10 key (omega arith) m.0) (anchors_line start end a.0 a.1)))
op_lacks (Revive id removal) h c =
    let w = and_parts (within_limits id) (within_limits removal) h in
    behind (codes "v") _ (letter 118 refl) (behind (id_text id) (id_text removal) (id_line id w.0) (id_line removal w.1))

-- what is read is spelled so

pub both : {a x b y : List ℕ} → a ≡ x → b ≡ y → a ␣ b ≡ x ␣ y
both e f = (λ i. e i ␣ f i)

insert_takes : (fields : List ℕ) (op : Op) → insert_at fields ≡ Some op → op_within op ≡ true → has_character op ≡ true → codes "i" ␣ fields ≡ op_text op
unfolding insert_at
insert_takes fields op e h g =
    let a = bind_some (split 32 fields) (λ first. split 32 first.1 >>= λ second. id_at first.0 >>= λ id. parent_at second.0 >>= λ parent. hex_at second.1 >>= λ character. Some (Insert id parent character)) op e in
    let b = bind_some (split 32 a.0.1) (λ second. id_at a.0.0 >>= λ id. parent_at second.0 >>= λ parent. hex_at second.1 >>= λ character. Some (Insert id parent character)) op a.2 in
    let c = bind_some (id_at a.0.0) (λ id. parent_at b.0.0 >>= λ parent. hex_at b.0.1 >>= λ character. Some (Insert id parent character)) op b.2 in
    let d = bind_some (parent_at b.0.0) (λ parent. hex_at b.0.1 >>= λ character. Some (Insert c.0 parent character)) op c.2 in
    let f = bind_some (hex_at b.0.1) (λ character. Some (Insert c.0 d.0 character)) op d.2 in
    let same : Insert c.0 d.0 f.0 ≡ op = cc (f.2) in
    let w = and_parts (within_limits c.0) (parent_within d.0) (rw (← same) at h) in
    let one = (split_takes 32 fields a.0.0 a.0.1 a.1).0 in
    let two = (split_takes 32 a.0.1 b.0.0 b.0.1 b.1).0 in
    ap (λ (x : List ℕ). codes "i" ␣ x) (one ∙ both (id_takes a.0.0 c.0 w.0 c.1) (two ∙ both (parent_takes b.0.0 d.0 w.1 d.1) (hex_takes f.0 b.0.1 (rw (← same) at g) f.1))) ∙ ap op_text same

remove_takes : (fields : List ℕ) (op : Op) → remove_at fields ≡ Some op → op_within op ≡ true → codes "d" ␣ fields ≡ op_text op
unfolding remove_at
remove_takes fields op e h =
    let a = bind_some (split 32 fields) (λ first. id_at first.0 >>= λ id. id_at first.1 >>= λ target. Some (Remove id target)) op e in
    let b = bind_some (id_at a.0.0) (λ id. id_at a.0.1 >>= λ target. Some (Remove id target)) op a.2 in
    let c = bind_some (id_at a.0.1) (λ target. Some (Remove b.0 target)) op b.2 in
    let same : Remove b.0 c.0 ≡ op = cc (c.2) in
    let w = and_parts (within_limits b.0) (within_limits c.0) (rw (← same) at h) in
    let one = (split_takes 32 fields a.0.0 a.0.1 a.1).0 in
    ap (λ (x : List ℕ). codes "d" ␣ x) (one ∙ both (id_takes a.0.0 b.0 w.0 b.1) (id_takes a.0.1 c.0 w.1 c.1)) ∙ ap op_text same

abbrev Anchors : Type 0
Anchors = Anchor × Anchor

anchors_takes : (fields : List ℕ) (anchors : Anchors) → anchors_within anchors ≡ true → anchors_at fields ≡ Some anchors → fields ≡ anchor_text anchors.0 ␣ anchor_text anchors.1
unfolding anchors_at
anchors_takes fields anchors h e =
    let a = bind_some (split 32 fields) (λ parts. anchor_at parts.0 >>= λ start. anchor_at parts.1 >>= λ end. Some (start, end)) anchors e in
    let b = bind_some (anchor_at a.0.0) (λ start. anchor_at a.0.1 >>= λ end. Some (start, end)) anchors a.2 in
    let c = bind_some (anchor_at a.0.1) (λ end. Some (b.0, end)) anchors b.2 in
    let made : Anchors = (b.0, c.0) in
    let same : made ≡ anchors = cc (c.2) in
    let w = and_parts (anchor_within b.0) (anchor_within c.0) (rw (← same) at h) in
    let one = (split_takes 32 fields a.0.0 a.0.1 a.1).0 in
    one ∙ both (anchor_takes a.0.0 b.0 w.0 b.1) (anchor_takes a.0.1 c.0 w.1 c.1) ∙ ap (λ (x : Anchors). anchor_text x.0 ␣ anchor_text x.1) same

abbrev Marked : Type 0
Marked = Attribute × (Anchor × Anchor)

marked_takes : (fields : List ℕ) (marked : Marked) → marked_within marked ≡ true → marked_at fields ≡ Some marked → fields ≡ attribute_text marked.0 ␣ anchor_text marked.1.0 ␣ anchor_text marked.1.1
unfolding marked_at
marked_takes fields marked h e =
    let a = bind_some (split 32 fields) (λ first. split 32 first.1 >>= λ second. anchors_at second.1 >>= λ anchors. attribute_at first.0 second.0 >>= λ attribute. Some (attribute, anchors)) marked e in
    let b = bind_some (split 32 a.0.1) (λ second. anchors_at second.1 >>= λ anchors. attribute_at a.0.0 second.0 >>= λ attribute. Some (attribute, anchors)) marked a.2 in
    let c = bind_some (anchors_at b.0.1) (λ anchors. attribute_at a.0.0 b.0.0 >>= λ attribute. Some (attribute, anchors)) marked b.2 in
    let d = bind_some (attribute_at a.0.0 b.0.0) (λ attribute. Some (attribute, c.0)) marked c.2 in
    let made : Marked = (d.0, c.0) in
    let same : made ≡ marked = cc (d.2) in
    let w = and_parts (attribute_within d.0) (anchors_within c.0) (rw (← same) at h) in
    let one = (split_takes 32 fields a.0.0 a.0.1 a.1).0 in
    let two = (split_takes 32 a.0.1 b.0.0 b.0.1 b.1).0 in
    let words = attribute_takes a.0.0 b.0.0 d.0 w.0 d.1 in
    let anchors = anchors_takes b.0.1 c.0 w.1 c.1 in
    let behind_name : a.0.1 ≡ b.0.0 ␣ anchor_text c.0.0 ␣ anchor_text c.0.1 = two ∙ both refl anchors in
    let grouped = append_assoc a.0.0 (32 ∷ b.0.0) (32 ∷ (anchor_text c.0.0 ␣ anchor_text c.0.1)) in
    one ∙ both refl behind_name ∙ sym grouped ∙ both words refl ∙ ap (λ (x : Marked). attribute_text x.0 ␣ anchor_text x.1.0 ␣ anchor_text x.1.1) same

mark_takes : (fields : List ℕ) (op : Op) → mark_at fields ≡ Some op → op_within op ≡ true → codes "m" ␣ fields ≡ op_text op
unfolding mark_at
mark_takes fields op e h =
    let a = bind_some (split 32 fields) (λ first. id_at first.0 >>= λ id. marked_at first.1 >>= λ marked. Some (AddMark id marked.0 marked.1.0 marked.1.1)) op e in
    let b = bind_some (id_at a.0.0) (λ id. marked_at a.0.1 >>= λ marked. Some (AddMark id marked.0 marked.1.0 marked.1.1)) op a.2 in
    let c = bind_some (marked_at a.0.1) (λ marked. Some (AddMark b.0 marked.0 marked.1.0 marked.1.1)) op b.2 in
    let same : AddMark b.0 c.0.0 c.0.1.0 c.0.1.1 ≡ op = cc (c.2) in
    let w = and_parts (within_limits b.0) (marked_within c.0) (rw (← same) at h) in
    let one = (split_takes 32 fields a.0.0 a.0.1 a.1).0 in
    ap (λ (x : List ℕ). codes "m" ␣ x) (one ∙ both (id_takes a.0.0 b.0 w.0 b.1) (marked_takes a.0.1 c.0 w.1 c.1)) ∙ ap op_text same

abbrev Unmarked : Type 0
Unmarked = Key × (Anchor × Anchor)

unmarked_takes : (fields : List ℕ) (unmarked : Unmarked) → unmarked_within unmarked ≡ true → unmarked_at fields ≡ Some unmarked → fields ≡ key_text unmarked.0 ␣ anchor_text unmarked.1.0 ␣ anchor_text unmarked.1.1
unfolding unmarked_at
unmarked_takes fields unmarked h e =
    let a = bind_some (split 32 fields) (λ first. key_at first.0 >>= λ key. anchors_at first.1 >>= λ anchors. Some (key, anchors)) unmarked e in
    let b = bind_some (key_at a.0.0) (λ key. anchors_at a.0.1 >>= λ anchors. Some (key, anchors)) unmarked a.2 in
    let c = bind_some (anchors_at a.0.1) (λ anchors. Some (b.0, anchors)) unmarked b.2 in
    let made : Unmarked = (b.0, c.0) in
    let same : made ≡ unmarked = cc (c.2) in
    let w = and_parts (key_within b.0) (anchors_within c.0) (rw (← same) at h) in
    let one = (split_takes 32 fields a.0.0 a.0.1 a.1).0 in
    one ∙ both (key_takes a.0.0 b.0 w.0 b.1) (anchors_takes a.0.1 c.0 w.1 c.1) ∙ ap (λ (x : Unmarked). key_text x.0 ␣ anchor_text x.1.0 ␣ anchor_text x.1.1) same

unmark_takes : (fields : List ℕ) (op : Op) → unmark_at fields ≡ Some op → op_within op ≡ true → codes "u" ␣ fields ≡ op_text op
unfolding unmark_at
unmark_takes fields op e h =
    let a = bind_some (split 32 fields) (λ first. id_at first.0 >>= λ id. unmarked_at first.1 >>= λ unmarked. Some (RemoveMark id unmarked.0 unmarked.1.0 unmarked.1.1)) op e in
    let b = bind_some (id_at a.0.0) (λ id. unmarked_at a.0.1 >>= λ unmarked. Some (RemoveMark id unmarked.0 unmarked.1.0 unmarked.1.1)) op a.2 in
    let c = bind_some (unmarked_at a.0.1) (λ unmarked. Some (RemoveMark b.0 unmarked.0 unmarked.1.0 unmarked.1.1)) op b.2 in
    let same : RemoveMark b.0 c.0.0 c.0.1.0 c.0.1.1 ≡ op = cc (c.2) in
    let w = and_parts (within_limits b.0) (unmarked_within c.0) (rw (← same) at h) in
    let one = (split_takes 32 fields a.0.0 a.0.1 a.1).0 in
    ap (λ (x : List ℕ). codes "u" ␣ x) (one ∙ both (id_takes a.0.0 b.0 w.0 b.1) (unmarked_takes a.0.1 c.0 w.1 c.1)) ∙ ap op_text same

revive_takes : (fields : List ℕ) (op : Op) → revive_at fields ≡ Some op → op_within op ≡ true → codes "v" ␣ fields ≡ op_text op
unfolding revive_at
revive_takes fields op e h =
    let a = bind_some (split 32 fields) (λ first. id_at first.0 >>= λ id. id_at first.1 >>= λ removal. Some (Revive id removal)) op e in
    let b = bind_some (id_at a.0.0) (λ id. id_at a.0.1 >>= λ removal. Some (Revive id removal)) op a.2 in
    let c = bind_some (id_at a.0.1) (λ removal. Some (Revive b.0 removal)) op b.2 in
    let same : Revive b.0 c.0 ≡ op = cc (c.2) in
    let w = and_parts (within_limits b.0) (within_limits c.0) (rw (← same) at h) in
    let one = (split_takes 32 fields a.0.0 a.0.1 a.1).0 in
    ap (λ (x : List ℕ). codes "v" ␣ x) (one ∙ both (id_takes a.0.0 b.0 w.0 b.1) (id_takes a.0.1 c.0 w.1 c.1)) ∙ ap op_text same

pub op_takes : (line : List ℕ) (op : Op) → op_at line ≡ Some op → op_within op ≡ true → has_character op ≡ true → line ≡ op_text op
unfolding op_at
op_takes line op e h g =
    let a = bind_some (split 32 line) (λ first. if bytes_eq first.0 (codes "i") then insert_at first.1 else if bytes_eq first.0 (codes "d") then remove_at first.1 else if bytes_eq first.0 (codes "m") then mark_at first.1 else if bytes_eq first.0 (codes "u") then unmark_at first.1 else if bytes_eq first.0 (codes "v") then revive_at first.1 else None) op e in
    kinds a.0.0 a.0.1 (split_takes 32 line a.0.0 a.0.1 a.1).0 a.2
  where
    kinds : (name fields : List ℕ) → line ≡ name ␣ fields → (if bytes_eq name (codes "i") then insert_at fields else if bytes_eq name (codes "d") then remove_at fields else if bytes_eq name (codes "m") then mark_at fields else if bytes_eq name (codes "u") then unmark_at fields else if bytes_eq name (codes "v") then revive_at fields else None) ≡ Some op → line ≡ op_text op
    kinds name fields whole e = go (bytes_eq name (codes "i")) (bytes_eq name (codes "d")) (bytes_eq name (codes "m")) (bytes_eq name (codes "u")) (bytes_eq name (codes "v")) refl refl refl refl refl e where
      named : (word : List ℕ) → bytes_eq name word ≡ true → line ≡ word ␣ fields
      named word f = whole ∙ ap (λ (x : List ℕ). x ␣ fields) (same_bytes name word f)

      go : (a b c d k : Bool) → bytes_eq name (codes "i") ≡ a → bytes_eq name (codes "d") ≡ b → bytes_eq name (codes "m") ≡ c → bytes_eq name (codes "u") ≡ d → bytes_eq name (codes "v") ≡ k
          → cond a (insert_at fields) (cond b (remove_at fields) (cond c (mark_at fields) (cond d (unmark_at fields) (cond k (revive_at fields) None)))) ≡ Some op → line ≡ op_text op
      go true b c d k f1 f2 f3 f4 f5 e = named (codes "i") f1 ∙ insert_takes fields op e h g
      go false true c d k f1 f2 f3 f4 f5 e = named (codes "d") f2 ∙ remove_takes fields op e h
      go false false true d k f1 f2 f3 f4 f5 e = named (codes "m") f3 ∙ mark_takes fields op e h
      go false false false true k f1 f2 f3 f4 f5 e = named (codes "u") f4 ∙ unmark_takes fields op e h
      go false false false false true f1 f2 f3 f4 f5 e = named (codes "v") f5 ∙ revive_takes fields op e h
      go false false false false false f1 f2 f3 f4 f5 e = absurd cc
