-- Each word of a line is read as what it spells, and spells what it is read as.
use Rattle.std.proofs.Common.{◌≡◌, ℕ, zero, suc, ◌^◌, ◌<◌, ◌≤◌, Bool, true, false, cond, ltb, leb, eqb, List, [], ◌∷◌, ◌++◌, length, Option, Some, None, refl, ap, ◌∙◌, arith, inl, inr, lit≤}
use Rattle.std.specs.Prelude.{◌&&◌, ◌||◌, codes}
use Rattle.std.specs.Str.{bytes_eq}
use Rattle.std.specs.Fmt.{decimal, digits}
use Rattle.std.proofs.lemmas.Bool.{and_parts, ltb-true, leb-true, lt-ltb, le-ltb, eqb-true, cases_lt}
use Rattle.std.proofs.lemmas.Bool.Decides.{nat_tests}
use Rattle.std.proofs.lemmas.Slice.Eq.{bytes_eq-Decides}
use Rattle.change_ops.specs.Ids.{OpId, within_limits, is_node, is_character}
use Rattle.change_ops.specs.Limits.{parent_within, anchor_within}
use Rattle.change_ops.specs.Words.{split, digit_of, number_in}
use Rattle.change_ops.specs.Reading.{◌>>=◌, id_at, hex_at, parent_at, beside, anchor_at}
use Rattle.change_ops.specs.Spelling.{hexadecimal, id_text, parent_text, anchor_text}
use Rattle.change_ops.specs.declared.operation.Anchor.{Anchor}
use Rattle.change_ops.specs.declared.operation.Anchor.TheVariants.{TextStart, BeforeCharacter, AfterCharacter, TextEnd}
use Rattle.change_ops.proofs.Numerals.{number_of_digits, digits_of_number, length_hexadecimal}
use Rattle.change_ops.proofs.Grammar.{Lacks, bind_some, split_again, split_takes, number_lacks}

pub lacks_nil : (mark : ℕ) → Lacks mark []
lacks_nil mark k lt = absurd (omega arith)

pub lacks_cons : (mark b : ℕ) (word : List ℕ) → eqb b mark ≡ false → Lacks mark word → Lacks mark (b ∷ word)
lacks_cons mark b word e h zero lt = e
lacks_cons mark b word e h (suc i) lt = h i (omega arith)

pub lacks_joined : (mark : ℕ) (a b : List ℕ) (c : ℕ) → Lacks mark a → eqb c mark ≡ false → Lacks mark b → Lacks mark (a ++ c ∷ b)
lacks_joined mark [] b c h e k = lacks_cons mark c b e k
lacks_joined mark (x ∷ a) b c h e k = lacks_cons mark x (a ++ c ∷ b) (h zero (omega arith)) (lacks_joined mark a b c (λ j small. h (suc j) (omega arith)) e k)

-- decimal numbers within 63 bits
pub decimal_again : (n : ℕ) → 0 < n → n < 2 ^ 63 → number_in 10 (decimal n) ≡ Some n
decimal_again n some small = number_of_digits 10 n (omega arith) (omega arith) some (omega arith)

pub decimal_takes : (n : ℕ) (word : List ℕ) → 0 < n → n < 2 ^ 63 → number_in 10 word ≡ Some n → word ≡ decimal n
decimal_takes n word some small e = digits_of_number 10 n word (omega arith) (omega arith) some small e

pub decimal_lacks : (mark n : ℕ) → 10 ≤ digit_of mark → 0 < n → n < 2 ^ 63 → Lacks mark (decimal n)
decimal_lacks mark n h some small = number_lacks 10 mark (decimal n) n h (decimal_again n some small)

code_limits : (n : ℕ) → is_character n ≡ true → (0 < n) × (n < 16 ^ 6)
code_limits n h =
    let a = and_parts (leb 1 n) (ltb n 0xd800 || (ltb 0xdfff n && leb n 0x10ffff)) h in
    let b = a.1 in
    (leb-true _ _ a.0, elim (cases_lt n (16 ^ 6)) [ inl lt ↦ lt | inr le ↦ grind (arith, nat_tests) ])

-- a character's code
pub hex_again : (n : ℕ) → is_character n ≡ true → hex_at (hexadecimal n) ≡ Some n
unfolding hex_at
hex_again n h =
    let some : 0 < n = (code_limits n h).0 in
    let small : n < 16 ^ 6 = (code_limits n h).1 in
    let few = length_hexadecimal n small in
    rw (le-ltb 6 (length (digits 16 false n)) few) (number_of_digits 16 n (omega arith) (omega arith) some (omega arith))

pub hex_takes : (n : ℕ) (word : List ℕ) → is_character n ≡ true → hex_at word ≡ Some n → word ≡ hexadecimal n
unfolding hex_at
hex_takes n word h e =
    let some : 0 < n = (code_limits n h).0 in
    let small : n < 16 ^ 6 = (code_limits n h).1 in
    elim (cases_lt 6 (length word)) [
      | inl more ↦ absurd (let f = rw (lt-ltb 6 (length word) more) at e in cc)
      | inr few ↦ digits_of_number 16 n word (omega arith) (omega arith) some (omega arith) (rw (le-ltb 6 (length word) few) at e)
    ]

pub hex_lacks : (mark n : ℕ) → 16 ≤ digit_of mark → is_character n ≡ true → Lacks mark (hexadecimal n)
hex_lacks mark n d h =
    let l = code_limits n h in
    number_lacks 16 mark (digits 16 false n) n d (number_of_digits 16 n (omega arith) (omega arith) l.0 (omega (arith, l.1)))

-- the limits of an id
pub record Limits (id : OpId) : Type 0 where
  pub counted : 0 < id.counter
  pub small : id.counter < 2 ^ 48
  pub named : 0 < id.node
  pub known : id.node ≤ 65535

pub limits : (id : OpId) → within_limits id ≡ true → Limits id
limits id h =
    let a = and_parts (leb 1 id.counter && ltb id.counter (2 ^ 48)) (is_node id.node) h in
    let b = and_parts (leb 1 id.counter) (ltb id.counter (2 ^ 48)) a.0 in
    let c = and_parts (leb 1 id.node) (leb id.node 65535) a.1 in
    record { counted = leb-true _ _ b.0; small = ltb-true _ _ b.1; named = leb-true _ _ c.0; known = leb-true _ _ c.1 }

pub id_again : (id : OpId) → within_limits id ≡ true → id_at (id_text id) ≡ Some id
unfolding id_at
id_again id h =
    let l = limits id h in
    let parts = split_again 64 (decimal id.counter) (decimal id.node) (decimal_lacks 64 id.counter (lit≤ tt) l.counted (omega (arith, l.small))) in
    rw (parts, decimal_again id.counter l.counted (omega (arith, l.small)), decimal_again id.node l.named (omega (arith, l.known))) refl

pub id_takes : (word : List ℕ) (id : OpId) → within_limits id ≡ true → id_at word ≡ Some id → word ≡ id_text id
unfolding id_at
id_takes word id h e =
    let l = limits id h in
    let a = bind_some (split 64 word) (λ parts. number_in 10 parts.0 >>= λ counter. number_in 10 parts.1 >>= λ node. Some (record { counter = counter; node = node })) id e in
    let b = bind_some (number_in 10 a.0.0) (λ counter. number_in 10 a.0.1 >>= λ node. Some (record { counter = counter; node = node })) id a.2 in
    let c = bind_some (number_in 10 a.0.1) (λ node. Some (record { counter = b.0; node = node })) id b.2 in
    let made : OpId = record { counter = b.0; node = c.0 } in
    let same : made ≡ id = some_id made id c.2 in
    let counter : number_in 10 a.0.0 ≡ Some id.counter = b.1 ∙ ap (λ (i : OpId). Some i.counter) same in
    let node : number_in 10 a.0.1 ≡ Some id.node = c.1 ∙ ap (λ (i : OpId). Some i.node) same in
    let whole = (split_takes 64 word a.0.0 a.0.1 a.1).0 in
    whole ∙ rw (decimal_takes id.counter a.0.0 l.counted (omega (arith, l.small)) counter, decimal_takes id.node a.0.1 l.named (omega (arith, l.known)) node) refl
  where
    some_id : (x y : OpId) → Some x ≡ Some y → x ≡ y
    some_id x y e = cc

pub id_lacks : (mark : ℕ) (id : OpId) → 10 ≤ digit_of mark → eqb 64 mark ≡ false → within_limits id ≡ true → Lacks mark (id_text id)
id_lacks mark id h e w =
    let l = limits id w in
    lacks_joined mark (decimal id.counter) (decimal id.node) 64 (decimal_lacks mark id.counter h l.counted (omega (arith, l.small))) e (decimal_lacks mark id.node h l.named (omega (arith, l.known)))

pub same_bytes : (xs ys : List ℕ) → bytes_eq xs ys ≡ true → xs ≡ ys
same_bytes xs ys e = (bytes_eq-Decides xs ys).0 e

-- an id is none of the words without a sign
pub other_word : (word name : List ℕ) (id : OpId) → id_at word ≡ Some id → id_at name ≡ None → bytes_eq word name ≡ false
other_word word name id e f = go (bytes_eq word name) refl where
  go : (b : Bool) → bytes_eq word name ≡ b → b ≡ false
  go true h = let same : word ≡ name = same_bytes word name h in absurd (let g : id_at name ≡ Some id = rw same at e in cc)
  go false h = refl

pub no_dash : id_at (codes "-") ≡ None
unfolding id_at split
no_dash = refl

no_empty : id_at [] ≡ None
unfolding id_at split
no_empty = refl

pub parent_again : (parent : Option OpId) → parent_within parent ≡ true → parent_at (parent_text parent) ≡ Some parent
unfolding parent_at
parent_again None h = refl
parent_again (Some id) h = let e = id_again id h in rw (other_word (id_text id) (codes "-") id e no_dash, e) refl

pub parent_takes : (word : List ℕ) (parent : Option OpId) → parent_within parent ≡ true → parent_at word ≡ Some parent → word ≡ parent_text parent
unfolding parent_at
parent_takes word parent h e = go (bytes_eq word (codes "-")) refl e where
  go : (b : Bool) → bytes_eq word (codes "-") ≡ b → cond b (Some None) (id_at word >>= λ id. Some (Some id)) ≡ Some parent → word ≡ parent_text parent
  go true f e = let same : None ≡ parent = cc in same_bytes word (codes "-") f ∙ ap parent_text same
  go false f e =
      let a = bind_some (id_at word) (λ id. Some (Some id)) parent e in
      let same : Some a.0 ≡ parent = cc (a.2) in
      id_takes word a.0 (rw (← same) at h) a.1 ∙ ap parent_text same

pub parent_lacks : (mark : ℕ) (parent : Option OpId) → 10 ≤ digit_of mark → eqb 64 mark ≡ false → eqb 45 mark ≡ false → parent_within parent ≡ true → Lacks mark (parent_text parent)
parent_lacks mark None h e f w = lacks_cons mark 45 [] f (lacks_nil mark)
parent_lacks mark (Some id) h e f w = id_lacks mark id h e w

pub before_again : (word : List ℕ) (id : OpId) → id_at word ≡ Some id → anchor_at (60 ∷ word) ≡ Some (BeforeCharacter id)
unfolding anchor_at
before_again [] id e = absurd (let f = no_empty in cc)
before_again (b ∷ word) id e = rw e refl

pub after_again : (word : List ℕ) (id : OpId) → id_at word ≡ Some id → anchor_at (62 ∷ word) ≡ Some (AfterCharacter id)
unfolding anchor_at
after_again [] id e = absurd (let f = no_empty in cc)
after_again (b ∷ word) id e = rw e refl

pub anchor_again : (anchor : Anchor) → anchor_within anchor ≡ true → anchor_at (anchor_text anchor) ≡ Some anchor
unfolding anchor_at
anchor_again TextStart h = refl
anchor_again (BeforeCharacter id) h = before_again (id_text id) id (id_again id h)
anchor_again (AfterCharacter id) h = after_again (id_text id) id (id_again id h)
anchor_again TextEnd h = refl

beside_takes : (sign : ℕ) (word : List ℕ) (anchor : Anchor) → anchor_within anchor ≡ true → beside sign word ≡ Some anchor → sign ∷ word ≡ anchor_text anchor
beside_takes sign word anchor h e = go (eqb sign 60) (eqb sign 62) refl refl e where
  go : (a b : Bool) → eqb sign 60 ≡ a → eqb sign 62 ≡ b → cond a (id_at word >>= λ id. Some (BeforeCharacter id)) (cond b (id_at word >>= λ id. Some (AfterCharacter id)) None) ≡ Some anchor → sign ∷ word ≡ anchor_text anchor
  go true b f g e =
      let a = bind_some (id_at word) (λ id. Some (BeforeCharacter id)) anchor e in
      let same : BeforeCharacter a.0 ≡ anchor = cc (a.2) in
      rw (eqb-true sign 60 f, id_takes word a.0 (rw (← same) at h) a.1) (ap anchor_text same)
  go false true f g e =
      let a = bind_some (id_at word) (λ id. Some (AfterCharacter id)) anchor e in
      let same : AfterCharacter a.0 ≡ anchor = cc (a.2) in
      rw (eqb-true sign 62 g, id_takes word a.0 (rw (← same) at h) a.1) (ap anchor_text same)
  go false false f g e = absurd cc

pub anchor_takes : (word : List ℕ) (anchor : Anchor) → anchor_within anchor ≡ true → anchor_at word ≡ Some anchor → word ≡ anchor_text anchor
unfolding anchor_at
anchor_takes [] anchor h e = absurd cc
anchor_takes (sign ∷ []) anchor h e = go (eqb sign 94) (eqb sign 36) refl refl e where
  go : (a b : Bool) → eqb sign 94 ≡ a → eqb sign 36 ≡ b → cond a (Some TextStart) (cond b (Some TextEnd) (beside sign [])) ≡ Some anchor → sign ∷ [] ≡ anchor_text anchor
  go true b f g e = let same : TextStart ≡ anchor = cc in rw (eqb-true sign 94 f) (ap anchor_text same)
  go false true f g e = let same : TextEnd ≡ anchor = cc in rw (eqb-true sign 36 g) (ap anchor_text same)
  go false false f g e = beside_takes sign [] anchor h e
anchor_takes (sign ∷ b ∷ word) anchor h e = beside_takes sign (b ∷ word) anchor h e

pub anchor_lacks : (mark : ℕ) (anchor : Anchor) → 10 ≤ digit_of mark → eqb 64 mark ≡ false → eqb 60 mark ≡ false → eqb 62 mark ≡ false → eqb 94 mark ≡ false → eqb 36 mark ≡ false → anchor_within anchor ≡ true → Lacks mark (anchor_text anchor)
anchor_lacks mark TextStart h a b c d e w = lacks_cons mark 94 [] d (lacks_nil mark)
anchor_lacks mark (BeforeCharacter id) h a b c d e w = lacks_cons mark 60 (id_text id) b (id_lacks mark id h a w)
anchor_lacks mark (AfterCharacter id) h a b c d e w = lacks_cons mark 62 (id_text id) c (id_lacks mark id h a w)
anchor_lacks mark TextEnd h a b c d e w = lacks_cons mark 36 [] e (lacks_nil mark)
