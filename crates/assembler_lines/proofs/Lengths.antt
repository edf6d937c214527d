-- No instruction has more than nine tokens, so a line says what its first ten do.
use Rattle.std.proofs.Common.{◌≡◌, ℕ, ◌≤◌, ◌<◌, ◌+◌, Bool, true, false, if◌then◌else◌, List, [], ◌∷◌, length, take, Option, Some, None, Err, inl, inr, refl, sym, ap, ◌∙◌, arith}
use Rattle.std.proofs.lemmas.List.{take_all, length-take-le}
use Rattle.assembler_lines.specs.declared.token.Sign.TheVariants.{Comma, Open, Close, Plus, Minus, Colon}
use Rattle.assembler_lines.specs.declared.token.Numeral.{Numeral}
use Rattle.assembler_lines.specs.declared.token.SignedNumeral.{SignedNumeral}
use Rattle.assembler_lines.specs.declared.fault.LineFault.TheVariants.{Syntax}
use Rattle.assembler_lines.specs.declared.form.Form.{Form}
use Rattle.assembler_lines.specs.declared.form.Form.TheVariants as form
use Rattle.assembler_lines.specs.Terms.{Term, Symbol, Name, Number, ◌>>=◌}
use Rattle.assembler_lines.specs.Shapes.{Value, Named, Constant, Target, AtLabel, Distance, Address, signed, taken_as, either, comma_at, open_at, close_at, end_at, name_at, number_at, signed_at, minus_at, constant_at, wide_at, value_at, target_at, address_at, lone_name, two_names, name_and_value, name_and_wide, name_and_address, address_and_constant, address_and_name, lone_target, name_value_and_target}
use Rattle.std.proofs.lemmas.Bool.{cases_lt}
use Rattle.assembler_lines.specs.Mnemonics.{form_named}
use Rattle.assembler_lines.specs.Statements.{instruction_in, instruction_of, statement_of}

pub bind_some : {A B : Type 0} (o : Option A) (f : A → Option B) (y : B) → (o >>= f) ≡ Some y → (x : A) × (o ≡ Some x) × (f x ≡ Some y)
bind_some None f y e = absurd cc
bind_some (Some x) f y e = (x, refl, e)

-- a reader takes `n` terms at most
abbrev Takes : {A : Type 0} → ℕ → List Term → Option (A × List Term) → Type 0
Takes {A} n terms found = (x : A × List Term) → found ≡ Some x → length terms ≤ n + length x.1

abbrev Skips : List Term → Option (List Term) → Type 0
Skips terms found = (behind : List Term) → found ≡ Some behind → length terms ≤ 1 + length behind

comma_len : (terms : List Term) → Skips terms (comma_at terms)
comma_len [] b e = absurd cc
comma_len (Symbol Comma ∷ ts) b e = let same : ts ≡ b = cc in omega (arith, ap length same)
comma_len (Symbol Open ∷ ts) b e = absurd cc
comma_len (Symbol Close ∷ ts) b e = absurd cc
comma_len (Symbol Plus ∷ ts) b e = absurd cc
comma_len (Symbol Minus ∷ ts) b e = absurd cc
comma_len (Symbol Colon ∷ ts) b e = absurd cc
comma_len (Name w ∷ ts) b e = absurd cc
comma_len (Number n ∷ ts) b e = absurd cc

open_len : (terms : List Term) → Skips terms (open_at terms)
open_len [] b e = absurd cc
open_len (Symbol Comma ∷ ts) b e = absurd cc
open_len (Symbol Open ∷ ts) b e = let same : ts ≡ b = cc in omega (arith, ap length same)
open_len (Symbol Close ∷ ts) b e = absurd cc
open_len (Symbol Plus ∷ ts) b e = absurd cc
open_len (Symbol Minus ∷ ts) b e = absurd cc
open_len (Symbol Colon ∷ ts) b e = absurd cc
open_len (Name w ∷ ts) b e = absurd cc
open_len (Number n ∷ ts) b e = absurd cc

close_len : (terms : List Term) → Skips terms (close_at terms)
close_len [] b e = absurd cc
close_len (Symbol Comma ∷ ts) b e = absurd cc
close_len (Symbol Open ∷ ts) b e = absurd cc
close_len (Symbol Close ∷ ts) b e = let same : ts ≡ b = cc in omega (arith, ap length same)
close_len (Symbol Plus ∷ ts) b e = absurd cc
close_len (Symbol Minus ∷ ts) b e = absurd cc
close_len (Symbol Colon ∷ ts) b e = absurd cc
close_len (Name w ∷ ts) b e = absurd cc
close_len (Number n ∷ ts) b e = absurd cc

end_len : (terms b : List Term) → end_at terms ≡ Some b → length terms ≤ 0
end_len [] b e = omega arith
end_len (t ∷ ts) b e = absurd cc

name_len : (terms : List Term) → Takes 1 terms (name_at terms)
unfolding name_at
name_len [] x e = absurd cc
name_len (Symbol s ∷ ts) x e = absurd cc
name_len (Name w ∷ ts) x e = let same : (w, ts) ≡ x = cc in omega (arith, ap (λ (p : List ℕ × List Term). length p.1) same)
name_len (Number n ∷ ts) x e = absurd cc

number_len : (terms : List Term) → Takes 1 terms (number_at terms)
number_len [] x e = absurd cc
number_len (Symbol s ∷ ts) x e = absurd cc
number_len (Name w ∷ ts) x e = absurd cc
number_len (Number n ∷ ts) x e = let same : (n, ts) ≡ x = cc in omega (arith, ap (λ (p : Numeral × List Term). length p.1) same)

taken_len : {A B : Type 0} (n : ℕ) (terms : List Term) (change : A → B) (o : Option (A × List Term)) → Takes n terms o → Takes n terms (taken_as change o)
taken_len n terms change None h x e = absurd cc
taken_len {A} {B} n terms change (Some p) h x e =
    let same : (change p.0, p.1) ≡ x = cc in omega (arith, h p refl, ap (λ (q : B × List Term). length q.1) same)

either_len : {A : Type 0} (n : ℕ) (terms : List Term) (o p : Option (A × List Term)) → Takes n terms o → Takes n terms p → Takes n terms (either o p)
either_len n terms (Some q) p h k = h
either_len n terms None p h k = k

signed_len : (terms : List Term) → Takes 2 terms (signed_at terms)
unfolding signed_at
signed_len [] x e = absurd cc
signed_len (Symbol Plus ∷ ts) x e = let h = taken_len 1 ts (signed false) (number_at ts) (number_len ts) x e in omega arith
signed_len (Symbol Minus ∷ ts) x e = let h = taken_len 1 ts (signed true) (number_at ts) (number_len ts) x e in omega arith
signed_len (Symbol Comma ∷ ts) x e = absurd cc
signed_len (Symbol Open ∷ ts) x e = absurd cc
signed_len (Symbol Close ∷ ts) x e = absurd cc
signed_len (Symbol Colon ∷ ts) x e = absurd cc
signed_len (Name w ∷ ts) x e = absurd cc
signed_len (Number n ∷ ts) x e = absurd cc

minus_on : (b : Bool) (number : SignedNumeral) (rest : List Term) (x : SignedNumeral × List Term) → (if b then None else Some (number, rest)) ≡ Some x → length rest ≡ length x.1
minus_on true number rest x e = absurd cc
minus_on false number rest x e = let same : (number, rest) ≡ x = cc in ap (λ (p : SignedNumeral × List Term). length p.1) same

minus_len : (n : ℕ) (terms : List Term) (o : Option (Numeral × List Term)) → Takes n terms o → Takes n terms (minus_at o)
minus_len n terms None h x e = absurd cc
minus_len n terms (Some p) h x e = omega (arith, h p refl, minus_on p.0.hexadecimal (signed true p.0) p.1 x e)

constant_len : (terms : List Term) → Takes 2 terms (constant_at terms)
unfolding constant_at
constant_len [] x e = absurd cc
constant_len (Symbol Minus ∷ ts) x e = let h = minus_len 1 ts (number_at ts) (number_len ts) x e in omega arith
constant_len (Symbol Plus ∷ ts) x e = absurd cc
constant_len (Symbol Comma ∷ ts) x e = absurd cc
constant_len (Symbol Open ∷ ts) x e = absurd cc
constant_len (Symbol Close ∷ ts) x e = absurd cc
constant_len (Symbol Colon ∷ ts) x e = absurd cc
constant_len (Name w ∷ ts) x e = absurd cc
constant_len (Number n ∷ ts) x e = let same : (signed false n, ts) ≡ x = cc in omega (arith, ap (λ (p : SignedNumeral × List Term). length p.1) same)

more : {A : Type 0} (terms : List Term) (o : Option (A × List Term)) → Takes 1 terms o → Takes 2 terms o
more terms o h x e = omega (arith, h x e)

wide_len : (terms : List Term) → Takes 2 terms (wide_at terms)
unfolding wide_at
wide_len terms = either_len 2 terms _ _ (taken_len 2 terms _ (number_at terms) (more terms (number_at terms) (number_len terms))) (taken_len 2 terms _ (signed_at terms) (signed_len terms))

value_len : (terms : List Term) → Takes 2 terms (value_at terms)
unfolding value_at
value_len terms = either_len 2 terms _ _ (taken_len 2 terms Named (name_at terms) (more terms (name_at terms) (name_len terms))) (taken_len 2 terms Constant (constant_at terms) (constant_len terms))

target_len : (terms : List Term) → Takes 2 terms (target_at terms)
unfolding target_at
target_len terms = either_len 2 terms _ _ (taken_len 2 terms AtLabel (name_at terms) (more terms (name_at terms) (name_len terms))) (taken_len 2 terms Distance (signed_at terms) (signed_len terms))

address_len : (terms : List Term) → Takes 5 terms (address_at terms)
unfolding address_at
address_len terms x e =
    let a = bind_some (open_at terms) _ _ e in
    let b = bind_some (name_at a.0) _ _ a.2 in
    let c = bind_some (signed_at b.0.1) _ _ b.2 in
    let d = bind_some (close_at c.0.1) _ _ c.2 in
    let same : d.0 ≡ x.1 = ap (λ (o : Option (Address × List Term)). behind_of d.0 o) d.2 in
    omega (arith, open_len terms a.0 a.1, name_len a.0 b.0 b.1, signed_len b.0.1 c.0 c.1, close_len c.0.1 d.0 d.1, ap length same)
  where
    behind_of : List Term → Option (Address × List Term) → List Term
    behind_of other None = other
    behind_of other (Some p) = p.1

lone_name_len : (terms : List Term) (x : List ℕ) → lone_name terms ≡ Some x → length terms ≤ 1
unfolding lone_name
lone_name_len terms x e =
    let a = bind_some (name_at terms) _ _ e in
    let b = bind_some (end_at a.0.1) _ _ a.2 in
    omega (arith, name_len terms a.0 a.1, end_len a.0.1 b.0 b.1)

two_names_len : (terms : List Term) (x : List ℕ × List ℕ) → two_names terms ≡ Some x → length terms ≤ 3
unfolding two_names
two_names_len terms x e =
    let a = bind_some (name_at terms) _ _ e in
    let b = bind_some (comma_at a.0.1) _ _ a.2 in
    let c = bind_some (lone_name b.0) _ _ b.2 in
    omega (arith, name_len terms a.0 a.1, comma_len a.0.1 b.0 b.1, lone_name_len b.0 c.0 c.1)

name_and_value_len : (terms : List Term) (x : List ℕ × Value) → name_and_value terms ≡ Some x → length terms ≤ 4
unfolding name_and_value
name_and_value_len terms x e =
    let a = bind_some (name_at terms) _ _ e in
    let b = bind_some (comma_at a.0.1) _ _ a.2 in
    let c = bind_some (value_at b.0) _ _ b.2 in
    let d = bind_some (end_at c.0.1) _ _ c.2 in
    omega (arith, name_len terms a.0 a.1, comma_len a.0.1 b.0 b.1, value_len b.0 c.0 c.1, end_len c.0.1 d.0 d.1)

name_and_wide_len : (terms : List Term) (x : List ℕ × Option ℕ) → name_and_wide terms ≡ Some x → length terms ≤ 4
unfolding name_and_wide
name_and_wide_len terms x e =
    let a = bind_some (name_at terms) _ _ e in
    let b = bind_some (comma_at a.0.1) _ _ a.2 in
    let c = bind_some (wide_at b.0) _ _ b.2 in
    let d = bind_some (end_at c.0.1) _ _ c.2 in
    omega (arith, name_len terms a.0 a.1, comma_len a.0.1 b.0 b.1, wide_len b.0 c.0 c.1, end_len c.0.1 d.0 d.1)

name_and_address_len : (terms : List Term) (x : List ℕ × Address) → name_and_address terms ≡ Some x → length terms ≤ 7
unfolding name_and_address
name_and_address_len terms x e =
    let a = bind_some (name_at terms) _ _ e in
    let b = bind_some (comma_at a.0.1) _ _ a.2 in
    let c = bind_some (address_at b.0) _ _ b.2 in
    let d = bind_some (end_at c.0.1) _ _ c.2 in
    omega (arith, name_len terms a.0 a.1, comma_len a.0.1 b.0 b.1, address_len b.0 c.0 c.1, end_len c.0.1 d.0 d.1)

address_and_constant_len : (terms : List Term) (x : Address × SignedNumeral) → address_and_constant terms ≡ Some x → length terms ≤ 8
unfolding address_and_constant
address_and_constant_len terms x e =
    let a = bind_some (address_at terms) _ _ e in
    let b = bind_some (comma_at a.0.1) _ _ a.2 in
    let c = bind_some (constant_at b.0) _ _ b.2 in
    let d = bind_some (end_at c.0.1) _ _ c.2 in
    omega (arith, address_len terms a.0 a.1, comma_len a.0.1 b.0 b.1, constant_len b.0 c.0 c.1, end_len c.0.1 d.0 d.1)

address_and_name_len : (terms : List Term) (x : Address × List ℕ) → address_and_name terms ≡ Some x → length terms ≤ 7
unfolding address_and_name
address_and_name_len terms x e =
    let a = bind_some (address_at terms) _ _ e in
    let b = bind_some (comma_at a.0.1) _ _ a.2 in
    let c = bind_some (lone_name b.0) _ _ b.2 in
    omega (arith, address_len terms a.0 a.1, comma_len a.0.1 b.0 b.1, lone_name_len b.0 c.0 c.1)

lone_target_len : (terms : List Term) (x : Target) → lone_target terms ≡ Some x → length terms ≤ 2
unfolding lone_target
lone_target_len terms x e =
    let a = bind_some (target_at terms) _ _ e in
    let b = bind_some (end_at a.0.1) _ _ a.2 in
    omega (arith, target_len terms a.0 a.1, end_len a.0.1 b.0 b.1)

name_value_and_target_len : (terms : List Term) (x : List ℕ × Value × Target) → name_value_and_target terms ≡ Some x → length terms ≤ 7
unfolding name_value_and_target
name_value_and_target_len terms x e =
    let a = bind_some (name_at terms) _ _ e in
    let b = bind_some (comma_at a.0.1) _ _ a.2 in
    let c = bind_some (value_at b.0) _ _ b.2 in
    let d = bind_some (comma_at c.0.1) _ _ c.2 in
    let f = bind_some (lone_target d.0) _ _ d.2 in
    omega (arith, name_len terms a.0 a.1, comma_len a.0.1 b.0 b.1, value_len b.0 c.0 c.1, comma_len c.0.1 d.0 d.1, lone_target_len d.0 f.0 f.1)

none_of : {A : Type 0} (o : Option A) → ((x : A) → o ≡ Some x → ⊥) → o ≡ None
none_of None h = refl
none_of (Some x) h = absurd (h x refl)

too_long : (form : Form) (terms : List Term) → 8 < length terms → instruction_of form terms ≡ Err Syntax
unfolding instruction_of
too_long (form.Compute width operation) ts long = rw (none_of (name_and_value ts) (λ x e. omega (arith, name_and_value_len ts x e))) refl
too_long (form.Negate width) ts long = rw (none_of (lone_name ts) (λ x e. omega (arith, lone_name_len ts x e))) refl
too_long (form.Extend extension) ts long = rw (none_of (two_names ts) (λ x e. omega (arith, two_names_len ts x e))) refl
too_long (form.Convert conversion bits) ts long = rw (none_of (lone_name ts) (λ x e. omega (arith, lone_name_len ts x e))) refl
too_long form.Jump ts long = rw (none_of (lone_target ts) (λ x e. omega (arith, lone_target_len ts x e))) refl
too_long form.JumpLong ts long = rw (none_of (lone_target ts) (λ x e. omega (arith, lone_target_len ts x e))) refl
too_long (form.Branch width comparison) ts long = rw (none_of (name_value_and_target ts) (λ x e. omega (arith, name_value_and_target_len ts x e))) refl
too_long (form.Load size) ts long = rw (none_of (name_and_address ts) (λ x e. omega (arith, name_and_address_len ts x e))) refl
too_long (form.LoadSigned size) ts long = rw (none_of (name_and_address ts) (λ x e. omega (arith, name_and_address_len ts x e))) refl
too_long (form.StoreImmediate size) ts long = rw (none_of (address_and_constant ts) (λ x e. omega (arith, address_and_constant_len ts x e))) refl
too_long (form.StoreRegister size) ts long = rw (none_of (address_and_name ts) (λ x e. omega (arith, address_and_name_len ts x e))) refl
too_long form.LoadWide ts long = rw (none_of (name_and_wide ts) (λ x e. omega (arith, name_and_wide_len ts x e))) refl
too_long form.Exit [] long = absurd (omega arith)
too_long form.Exit (t ∷ ts) long = refl

named_long : (found : Option Form) (a b : List Term) → 8 < length a → 8 < length b → instruction_in found a ≡ instruction_in found b
named_long None a b h k = refl
named_long (Some form) a b h k = too_long form a h ∙ sym (too_long form b k)

few_long : (terms : List Term) → 10 < length terms → statement_of (take 10 terms) ≡ statement_of terms
unfolding statement_of
few_long [] h = absurd (omega arith)
few_long (Symbol s ∷ ts) h = refl
few_long (Number n ∷ []) h = absurd (omega arith)
few_long (Number n ∷ Symbol Comma ∷ ts) h = refl
few_long (Number n ∷ Symbol Open ∷ ts) h = refl
few_long (Number n ∷ Symbol Close ∷ ts) h = refl
few_long (Number n ∷ Symbol Plus ∷ ts) h = refl
few_long (Number n ∷ Symbol Minus ∷ ts) h = refl
few_long (Number n ∷ Symbol Colon ∷ ts) h = refl
few_long (Number n ∷ Name w ∷ ts) h = refl
few_long (Number n ∷ Number m ∷ ts) h = refl
few_long (Name v ∷ []) h = absurd (omega arith)
few_long (Name v ∷ Symbol Colon ∷ []) h = absurd (omega arith)
few_long (Name v ∷ Symbol Colon ∷ t ∷ ts) h = refl
few_long (Name v ∷ Symbol Comma ∷ ts) h = named_long (form_named v) (Symbol Comma ∷ take 8 ts) (Symbol Comma ∷ ts) (omega (arith, length-take-le 8 ts (omega arith))) (omega arith)
few_long (Name v ∷ Symbol Open ∷ ts) h = named_long (form_named v) (Symbol Open ∷ take 8 ts) (Symbol Open ∷ ts) (omega (arith, length-take-le 8 ts (omega arith))) (omega arith)
few_long (Name v ∷ Symbol Close ∷ ts) h = named_long (form_named v) (Symbol Close ∷ take 8 ts) (Symbol Close ∷ ts) (omega (arith, length-take-le 8 ts (omega arith))) (omega arith)
few_long (Name v ∷ Symbol Plus ∷ ts) h = named_long (form_named v) (Symbol Plus ∷ take 8 ts) (Symbol Plus ∷ ts) (omega (arith, length-take-le 8 ts (omega arith))) (omega arith)
few_long (Name v ∷ Symbol Minus ∷ ts) h = named_long (form_named v) (Symbol Minus ∷ take 8 ts) (Symbol Minus ∷ ts) (omega (arith, length-take-le 8 ts (omega arith))) (omega arith)
few_long (Name v ∷ Name w ∷ ts) h = named_long (form_named v) (Name w ∷ take 8 ts) (Name w ∷ ts) (omega (arith, length-take-le 8 ts (omega arith))) (omega arith)
few_long (Name v ∷ Number n ∷ ts) h = named_long (form_named v) (Number n ∷ take 8 ts) (Number n ∷ ts) (omega (arith, length-take-le 8 ts (omega arith))) (omega arith)

-- a line says what its first ten tokens do
pub few : (terms : List Term) → statement_of (take 10 terms) ≡ statement_of terms
few terms = elim (cases_lt 10 (length terms)) [
  | inl long ↦ few_long terms long
  | inr short ↦ ap statement_of (take_all 10 terms short)
]
