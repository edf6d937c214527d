-- Loads and stores, as the rules take them.
use Rattle.std.proofs.Common.{◌≡◌, ℕ, ◌%◌, ◌/◌, ◌&&◌, Bool, true, false, cond, nat_eq, List, [], ◌∷◌, Option, Some, None, Result, Ok, Err, find, refl, sym, ap, ◌∙◌, subst, ⊎_elim}
use Rattle.std.specs.Option.{option_map_or}
use Rattle.std.specs.Bool.{⊤}
use Rattle.std.proofs.lemmas.Bool.{cases_Bool, eq-eqb, eqb-true, ne_eqb}
use Rattle.span_context.specs.declared.profile.Profile.{Profile}
use Rattle.span_context.specs.declared.size.Size.{Size}
use Rattle.span_context.specs.declared.size.Size.TheVariants.{Byte, Half, Word, Double}
use Rattle.span_context.specs.declared.context_field.ContextField.{ContextField}
use Rattle.span_context.specs.declared.context_field.ContextField.TheVariants as field
use Rattle.span_context.specs.ContextField.{offset_of, size_of}
use Rattle.semantics.specs.Memory.{bytes_in}
use Rattle.abstract_state.specs.Situation.{Least}
use Rattle.abstract_state.specs.declared.refusal.Refusal.{Refusal}
use Rattle.abstract_state.specs.declared.refusal.Refusal.TheVariants as refusal
use Rattle.abstract_state.specs.declared.address.ContextAddress.{ContextAddress}
use Rattle.abstract_state.specs.declared.address.StackAddress.{StackAddress}
use Rattle.abstract_state.specs.declared.known.Known.{Known}
use Rattle.abstract_state.specs.declared.known.Known.TheVariants.{Number, Context, Stack, Lent}
use Rattle.abstract_state.specs.Known.{IsNumber}
use Rattle.abstract_state.specs.Addresses.{Content, content_of, answer_of, then_answer}
use Rattle.abstract_state.specs.Stacks.{Slots, stored, spilled}
use Rattle.abstract_state.specs.Loading.{field_at, loaded, filled, readable, any_of, a_number, written, stored_at, is_whole, stack_place, Leaves}

-- ---- fields of the context
pub field_found : (f : ContextField) → field_at (offset_of f) (size_of f) ≡ Some f
unfolding field_at
field_found field.Text = refl
field_found field.End = refl
field_found field.Length = refl
field_found field.Characters = refl
field_found field.Flags = refl
field_found field.Color = refl
field_found field.LinkLength = refl
field_found field.Comments = refl
field_found field.Index = refl
field_found field.Count = refl
field_found field.Version = refl
field_found field.Link = refl
field_found field.LinkEnd = refl

sized : Size → List ContextField → Type 0
sized z [] = Unit {0}
sized z (x ∷ xs) = (size_of x ≡ z) × sized z xs

begins : ℕ → ContextField → Bool
begins n f = nat_eq (offset_of f) n

cond_true : (b : Bool) (x y : Option ContextField) → b ≡ true → cond b x y ≡ x
cond_true b x y e = ap (λ (c : Bool). cond c x y) e

cond_false : (b : Bool) (x y : Option ContextField) → b ≡ false → cond b x y ≡ y
cond_false b x y e = ap (λ (c : Bool). cond c x y) e

found : (n : ℕ) (z : Size) (xs : List ContextField) → sized z xs → (f : ContextField) → find (λ g. nat_eq (offset_of g) n) xs ≡ Some f → (offset_of f ≡ n) × (size_of f ≡ z)
unfolding sized
found n z [] all f e = absurd (cc)
found n z (x ∷ xs) all f e =
    ⊎_elim
    (λ (yes : nat_eq (offset_of x) n ≡ true).
    let some : Some x ≡ Some f = sym (cond_true _ _ _ yes) ∙ e in
    let same : x ≡ f = cc in
    let at : offset_of x ≡ n = eqb-true (offset_of x) n yes in
    (subst (λ (g : ContextField). offset_of g ≡ n) same at, subst (λ (g : ContextField). size_of g ≡ z) same all.0))
    (λ (other : nat_eq (offset_of x) n ≡ false). found n z xs all.1 f (sym (cond_false _ _ _ other) ∙ e))
    (cases_Bool (nat_eq (offset_of x) n))

field_sound : (n : ℕ) (z : Size) (f : ContextField) → field_at n z ≡ Some f → (offset_of f ≡ n) × (size_of f ≡ z)
unfolding field_at sized
field_sound n Byte f e = absurd (cc)
field_sound n Half f e = absurd (cc)
field_sound n Word f e = found n Word (field.Length ∷ field.Characters ∷ field.Flags ∷ field.Color ∷ field.LinkLength ∷ field.Comments ∷ field.Index ∷ field.Count ∷ []) (refl, (refl, (refl, (refl, (refl, (refl, (refl, (refl, tt)))))))) f e
field_sound n Double f e = found n Double (field.Text ∷ field.End ∷ field.Version ∷ field.Link ∷ field.LinkEnd ∷ []) (refl, (refl, (refl, (refl, (refl, tt))))) f e

none_if : (o : Option ContextField) → ((f : ContextField) → o ≡ Some f → ⊥) → o ≡ None
none_if None h = refl
none_if (Some f) h = absurd (h f refl)

pub field_none : (n : ℕ) (z : Size) → ((f : ContextField) → offset_of f ≡ n → size_of f ≡ z → ⊥) → field_at n z ≡ None
field_none n z h = none_if (field_at n z) (λ f e. let is = field_sound n z f e in h f is.0 is.1)

-- ---- loads
pub loaded_else : (profile : Profile) (slots : Slots) (least : Least) (k : Known) (offset : ℕ) (size : Size) → ((p : ContextAddress) → k ≡ Context p → ⊥) → filled slots (content_of k) offset size ≡ None → loaded profile slots least (content_of k) offset size ≡ answer_of (a_number (any_of size)) (readable profile slots least (content_of k) offset (bytes_in size))
unfolding loaded
loaded_else profile slots least (Number q) offset size other e =
    ap (λ (o : Option Content). option_map_or (λ whole. Ok (Some whole)) o (answer_of (a_number (any_of size)) (readable profile slots least (content_of (Number q)) offset (bytes_in size)))) e
loaded_else profile slots least (Context p) offset size other e = absurd (other p refl)
loaded_else profile slots least (Stack p) offset size other e =
    ap (λ (o : Option Content). option_map_or (λ whole. Ok (Some whole)) o (answer_of (a_number (any_of size)) (readable profile slots least (content_of (Stack p)) offset (bytes_in size)))) e
loaded_else profile slots least (Lent p) offset size other e =
    ap (λ (o : Option Content). option_map_or (λ whole. Ok (Some whole)) o (answer_of (a_number (any_of size)) (readable profile slots least (content_of (Lent p)) offset (bytes_in size)))) e

-- ---- stores
pub number_written : (slots : Slots) (k : Known) (offset count : ℕ) (v : Content) → IsNumber k → written slots (content_of k) offset count v ≡ Err refusal.NotAnAddress
unfolding written
number_written slots (Number q) offset count v h = refl
number_written slots (Context p) offset count v h = absurd h
number_written slots (Stack p) offset count v h = absurd h
number_written slots (Lent p) offset count v h = absurd h

pub elsewhere_written : (slots : Slots) (k : Known) (offset count : ℕ) (v : Content) → (IsNumber k → ⊥) → ((p : StackAddress) → k ≡ Stack p → ⊥) → written slots (content_of k) offset count v ≡ Err refusal.ReadOnlyStore
unfolding written
elsewhere_written slots (Number q) offset count v address h = absurd (address tt)
elsewhere_written slots (Context p) offset count v address h = refl
elsewhere_written slots (Stack p) offset count v address h = absurd (h p refl)
elsewhere_written slots (Lent p) offset count v address h = refl

pub stack_written : (slots : Slots) (k : Known) (p : StackAddress) (offset count : ℕ) (v : Content) → k ≡ Stack p → written slots (content_of k) offset count v ≡ then_answer (stored_at slots count v) (stack_place p.offset offset count)
unfolding written
stack_written slots k p offset count v is = ap (λ (j : Known). written slots (content_of j) offset count v) is

pub is_whole_true : (n count : ℕ) → count ≡ 8 → n % 8 ≡ 0 → is_whole n count ≡ true
is_whole_true n count e f = let a : nat_eq count 8 ≡ true = eq-eqb count 8 e in let b : nat_eq (n % 8) 0 ≡ true = eq-eqb (n % 8) 0 f in rw (a, b) refl

and_none : (b : Bool) → (b && false) ≡ false
and_none true = refl
and_none false = refl

pub not_whole_count : (n count : ℕ) → (count ≡ 8 → ⊥) → is_whole n count ≡ false
not_whole_count n count other = let a : nat_eq count 8 ≡ false = ne_eqb count 8 other in rw a refl

pub not_whole_place : (n count : ℕ) → (n % 8 ≡ 0 → ⊥) → is_whole n count ≡ false
not_whole_place n count other = let b : nat_eq (n % 8) 0 ≡ false = ne_eqb (n % 8) 0 other in rw b (and_none (nat_eq count 8))

pub whole_stored : (slots : Slots) (n count : ℕ) (v : Content) → is_whole n count ≡ true → stored_at slots count v n ≡ Ok (spilled (n / 8) v slots)
whole_stored slots n count v e = rw e refl

pub part_stored : (slots : Slots) (n count : ℕ) (k : Known) → is_whole n count ≡ false → IsNumber k → stored_at slots count (content_of k) n ≡ Ok (stored n count slots)
part_stored slots n count (Number q) e h = rw e refl
part_stored slots n count (Context p) e h = absurd h
part_stored slots n count (Stack p) e h = absurd h
part_stored slots n count (Lent p) e h = absurd h

pub address_stored : (slots : Slots) (n count : ℕ) (k : Known) → is_whole n count ≡ false → (IsNumber k → ⊥) → stored_at slots count (content_of k) n ≡ Err refusal.PointerStore
address_stored slots n count (Number q) e h = absurd (h tt)
address_stored slots n count (Context p) e h = rw e refl
address_stored slots n count (Stack p) e h = rw e refl
address_stored slots n count (Lent p) e h = rw e refl

pub leaves_ok : (slots new : Slots) (k : Known) (p : StackAddress) (offset count bytes n : ℕ) (v : Content) (r : Result Slots Refusal) (answer : Result ⊤ Refusal) → k ≡ Stack p → count ≡ bytes → stack_place p.offset offset count ≡ Ok n → stored_at slots count v n ≡ r → Leaves r answer new → Leaves (written slots (content_of k) offset bytes v) answer new
leaves_ok slots new k p offset count bytes n v r answer is same place there h =
    subst (λ (m : ℕ). Leaves (written slots (content_of k) offset m v) answer new) same
    (subst (λ (x : Result Slots Refusal). Leaves x answer new) (sym (stack_written slots k p offset count v is ∙ ap (then_answer (stored_at slots count v)) place ∙ there)) h)

pub leaves_err : (slots new : Slots) (k : Known) (p : StackAddress) (offset count bytes : ℕ) (v : Content) (e : Refusal) (answer : Result ⊤ Refusal) → k ≡ Stack p → count ≡ bytes → stack_place p.offset offset count ≡ Err e → answer ≡ Err e → Leaves (written slots (content_of k) offset bytes v) answer new
leaves_err slots new k p offset count bytes v e answer is same place h =
    subst (λ (m : ℕ). Leaves (written slots (content_of k) offset m v) answer new) same
    (subst (λ (x : Result Slots Refusal). Leaves x answer new) (sym (stack_written slots k p offset count v is ∙ ap (then_answer (stored_at slots count v)) place)) h)

pub leaves_same : (slots new : Slots) (r : Result Slots Refusal) (e : Refusal) → r ≡ Err e → Leaves r (Err e) new
leaves_same slots new r e is = subst (λ (x : Result Slots Refusal). Leaves x (Err e) new) (sym is) refl
