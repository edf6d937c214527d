-- The readers of shapes take what is written by their grammar, and nothing else.
use Rattle.std.proofs.Common.{◌≡◌, ℕ, Bool, true, false, ◌&&◌, if◌then◌else◌, List, [], ◌∷◌, ◌++◌, Option, Some, None, inl, inr, refl, ap, subst, ◌∙◌}
use Rattle.assembler_lines.specs.declared.token.Sign.TheVariants.{Comma, Open, Close, Plus, Minus, Colon}
use Rattle.assembler_lines.specs.declared.token.Numeral.{Numeral}
use Rattle.assembler_lines.specs.declared.token.SignedNumeral.{SignedNumeral}
use Rattle.assembler_lines.specs.Terms.{Term, Symbol, Name, Number}
use Rattle.assembler_lines.specs.Shapes.{Value, Named, Constant, Target, AtLabel, Distance, Address, signed, taken_as, comma_at, open_at, close_at, end_at, name_at, signed_at, constant_at, wide_at, value_at, target_at, address_at, lone_name, two_names, name_and_value, name_and_wide, name_and_address, address_and_constant, address_and_name, lone_target, name_value_and_target}
use Rattle.assembler_lines.specs.Grammar.{written_signed, written_immediate, IsImmediate, written_value, IsValue, written_target, written_address, IsWide, LoneName, TwoNames, NameAndValue, NameAndWide, NameAndAddress, AddressAndConstant, AddressAndName, LoneTarget, NameValueAndTarget}
use Rattle.assembler_lines.proofs.Lengths.{bind_some}

injected : {A : Type 0} (p q : A) → Some p ≡ Some q → p ≡ q
injected p q e = cc

-- what a reader took, and what is left
comma_taken : (terms behind : List Term) → comma_at terms ≡ Some behind → terms ≡ Symbol Comma ∷ behind
comma_taken [] b e = absurd cc
comma_taken (Symbol Comma ∷ ts) b e = let same : ts ≡ b = cc in ap (λ (rest : List Term). Symbol Comma ∷ rest) same
comma_taken (Symbol Open ∷ ts) b e = absurd cc
comma_taken (Symbol Close ∷ ts) b e = absurd cc
comma_taken (Symbol Plus ∷ ts) b e = absurd cc
comma_taken (Symbol Minus ∷ ts) b e = absurd cc
comma_taken (Symbol Colon ∷ ts) b e = absurd cc
comma_taken (Name w ∷ ts) b e = absurd cc
comma_taken (Number n ∷ ts) b e = absurd cc

open_taken : (terms behind : List Term) → open_at terms ≡ Some behind → terms ≡ Symbol Open ∷ behind
open_taken [] b e = absurd cc
open_taken (Symbol Comma ∷ ts) b e = absurd cc
open_taken (Symbol Open ∷ ts) b e = let same : ts ≡ b = cc in ap (λ (rest : List Term). Symbol Open ∷ rest) same
open_taken (Symbol Close ∷ ts) b e = absurd cc
open_taken (Symbol Plus ∷ ts) b e = absurd cc
open_taken (Symbol Minus ∷ ts) b e = absurd cc
open_taken (Symbol Colon ∷ ts) b e = absurd cc
open_taken (Name w ∷ ts) b e = absurd cc
open_taken (Number n ∷ ts) b e = absurd cc

close_taken : (terms behind : List Term) → close_at terms ≡ Some behind → terms ≡ Symbol Close ∷ behind
close_taken [] b e = absurd cc
close_taken (Symbol Comma ∷ ts) b e = absurd cc
close_taken (Symbol Open ∷ ts) b e = absurd cc
close_taken (Symbol Close ∷ ts) b e = let same : ts ≡ b = cc in ap (λ (rest : List Term). Symbol Close ∷ rest) same
close_taken (Symbol Plus ∷ ts) b e = absurd cc
close_taken (Symbol Minus ∷ ts) b e = absurd cc
close_taken (Symbol Colon ∷ ts) b e = absurd cc
close_taken (Name w ∷ ts) b e = absurd cc
close_taken (Number n ∷ ts) b e = absurd cc

end_taken : (terms b : List Term) → end_at terms ≡ Some b → terms ≡ []
end_taken [] b e = refl
end_taken (t ∷ ts) b e = absurd cc

name_taken : (terms : List Term) (x : List ℕ × List Term) → name_at terms ≡ Some x → terms ≡ Name x.0 ∷ x.1
unfolding name_at
name_taken [] x e = absurd cc
name_taken (Symbol s ∷ ts) x e = absurd cc
name_taken (Name w ∷ ts) x e = let same : (w, ts) ≡ x = cc in ap (λ (p : List ℕ × List Term). Name p.0 ∷ p.1) same
name_taken (Number n ∷ ts) x e = absurd cc

abbrev Signed : List Term → SignedNumeral × List Term → Type 0
Signed terms x = terms ≡ written_signed x.0 ++ x.1

signed_taken : (terms : List Term) (x : SignedNumeral × List Term) → signed_at terms ≡ Some x → Signed terms x
unfolding signed_at
signed_taken [] x e = absurd cc
signed_taken (Symbol Plus ∷ []) x e = absurd cc
signed_taken (Symbol Plus ∷ Symbol s ∷ ts) x e = absurd cc
signed_taken (Symbol Plus ∷ Name w ∷ ts) x e = absurd cc
signed_taken (Symbol Plus ∷ Number n ∷ ts) x e = let same : (signed false n, ts) ≡ x = cc in ap (λ (p : SignedNumeral × List Term). written_signed p.0 ++ p.1) same
signed_taken (Symbol Minus ∷ []) x e = absurd cc
signed_taken (Symbol Minus ∷ Symbol s ∷ ts) x e = absurd cc
signed_taken (Symbol Minus ∷ Name w ∷ ts) x e = absurd cc
signed_taken (Symbol Minus ∷ Number n ∷ ts) x e = let same : (signed true n, ts) ≡ x = cc in ap (λ (p : SignedNumeral × List Term). written_signed p.0 ++ p.1) same
signed_taken (Symbol Comma ∷ ts) x e = absurd cc
signed_taken (Symbol Open ∷ ts) x e = absurd cc
signed_taken (Symbol Close ∷ ts) x e = absurd cc
signed_taken (Symbol Colon ∷ ts) x e = absurd cc
signed_taken (Name w ∷ ts) x e = absurd cc
signed_taken (Number n ∷ ts) x e = absurd cc

abbrev Immediate : List Term → SignedNumeral × List Term → Type 0
Immediate terms x = (terms ≡ written_immediate x.0 ++ x.1) × IsImmediate x.0

minus_taken : (n : Numeral) (ts : List Term) (b : Bool) (x : SignedNumeral × List Term) → n.hexadecimal ≡ b → (if b then None else Some (signed true n, ts)) ≡ Some x
    → Immediate (Symbol Minus ∷ Number n ∷ ts) x
minus_taken n ts true x h e = absurd cc
minus_taken n ts false x h e = let same : (signed true n, ts) ≡ x = cc in subst (Immediate (Symbol Minus ∷ Number n ∷ ts)) same (refl, h)

constant_taken : (terms : List Term) (x : SignedNumeral × List Term) → constant_at terms ≡ Some x → Immediate terms x
unfolding constant_at
constant_taken [] x e = absurd cc
constant_taken (Symbol Minus ∷ []) x e = absurd cc
constant_taken (Symbol Minus ∷ Symbol s ∷ ts) x e = absurd cc
constant_taken (Symbol Minus ∷ Name w ∷ ts) x e = absurd cc
constant_taken (Symbol Minus ∷ Number n ∷ ts) x e = minus_taken n ts n.hexadecimal x refl e
constant_taken (Symbol Plus ∷ ts) x e = absurd cc
constant_taken (Symbol Comma ∷ ts) x e = absurd cc
constant_taken (Symbol Open ∷ ts) x e = absurd cc
constant_taken (Symbol Close ∷ ts) x e = absurd cc
constant_taken (Symbol Colon ∷ ts) x e = absurd cc
constant_taken (Name w ∷ ts) x e = absurd cc
constant_taken (Number n ∷ ts) x e = let same : (signed false n, ts) ≡ x = cc in subst (Immediate (Number n ∷ ts)) same (refl, refl)

taken_back : {A B : Type 0} (change : A → B) (o : Option (A × List Term)) (x : B × List Term) → taken_as change o ≡ Some x
    → (y : A × List Term) × (o ≡ Some y) × ((change y.0, y.1) ≡ x)
taken_back change None x e = absurd cc
taken_back {A} {B} change (Some y) x e = let same : (change y.0, y.1) ≡ x = cc in (y, refl, same)

abbrev Valued : List Term → Value × List Term → Type 0
Valued terms x = (terms ≡ written_value x.0 ++ x.1) × IsValue x.0

constant_value : (terms : List Term) (x : Value × List Term) → taken_as Constant (constant_at terms) ≡ Some x → Valued terms x
constant_value terms x e =
    let y = taken_back Constant (constant_at terms) x e in
    subst (Valued terms) y.2 (constant_taken terms y.0 y.1)

value_taken : (terms : List Term) (x : Value × List Term) → value_at terms ≡ Some x → Valued terms x
unfolding value_at name_at
value_taken [] x e = constant_value [] x e
value_taken (Symbol s ∷ ts) x e = constant_value (Symbol s ∷ ts) x e
value_taken (Name w ∷ ts) x e = let same : (Named w, ts) ≡ x = cc in subst (Valued (Name w ∷ ts)) same (refl, tt)
value_taken (Number n ∷ ts) x e = constant_value (Number n ∷ ts) x e

abbrev Targeted : List Term → Target × List Term → Type 0
Targeted terms x = terms ≡ written_target x.0 ++ x.1

distance_target : (terms : List Term) (x : Target × List Term) → taken_as Distance (signed_at terms) ≡ Some x → Targeted terms x
distance_target terms x e =
    let y = taken_back Distance (signed_at terms) x e in
    subst (Targeted terms) y.2 (signed_taken terms y.0 y.1)

target_taken : (terms : List Term) (x : Target × List Term) → target_at terms ≡ Some x → Targeted terms x
unfolding target_at name_at
target_taken [] x e = distance_target [] x e
target_taken (Symbol s ∷ ts) x e = distance_target (Symbol s ∷ ts) x e
target_taken (Name w ∷ ts) x e = let same : (AtLabel w, ts) ≡ x = cc in subst (Targeted (Name w ∷ ts)) same refl
target_taken (Number n ∷ ts) x e = distance_target (Number n ∷ ts) x e

abbrev Wide : List Term → Option ℕ × List Term → Type 0
Wide terms x = (ts : List Term) × (terms ≡ ts ++ x.1) × IsWide ts x.0

signed_wide : (terms : List Term) (x : Option ℕ × List Term) → taken_as (λ (_ : SignedNumeral). None) (signed_at terms) ≡ Some x → Wide terms x
signed_wide terms x e =
    let y = taken_back (λ (_ : SignedNumeral). None) (signed_at terms) x e in
    subst (Wide terms) y.2 (written_signed y.0.0, signed_taken terms y.0 y.1, inr (y.0.0, refl, refl))

wide_taken : (terms : List Term) (x : Option ℕ × List Term) → wide_at terms ≡ Some x → Wide terms x
unfolding wide_at
wide_taken [] x e = signed_wide [] x e
wide_taken (Symbol s ∷ ts) x e = signed_wide (Symbol s ∷ ts) x e
wide_taken (Name w ∷ ts) x e = signed_wide (Name w ∷ ts) x e
wide_taken (Number n ∷ ts) x e =
    let same : (n.value, ts) ≡ x = cc in
    subst (Wide (Number n ∷ ts)) same (Number n ∷ [], refl, inl (n, refl, refl))

abbrev Addressed : List Term → Address × List Term → Type 0
Addressed terms x = terms ≡ written_address x.0 ++ x.1

address_taken : (terms : List Term) (x : Address × List Term) → address_at terms ≡ Some x → Addressed terms x
unfolding address_at
address_taken terms x e =
    let a = bind_some (open_at terms) _ _ e in
    let b = bind_some (name_at a.0) _ _ a.2 in
    let c = bind_some (signed_at b.0.1) _ _ b.2 in
    let d = bind_some (close_at c.0.1) _ _ c.2 in
    let read : Address = record { base = b.0.0; offset = c.0.0 } in
    let same : (read, d.0) ≡ x = injected (read, d.0) x d.2 in
    subst (Addressed terms) same
    (open_taken terms a.0 a.1 ∙ ap (λ (ts : List Term). Symbol Open ∷ ts) (name_taken a.0 b.0 b.1
    ∙ ap (λ (ts : List Term). Name b.0.0 ∷ ts) (signed_taken b.0.1 c.0 c.1
    ∙ ap (λ (ts : List Term). written_signed c.0.0 ++ ts) (close_taken c.0.1 d.0 d.1))))

-- what is left is nothing
ended : (xs ys : List Term) → ys ≡ [] → xs ++ ys ≡ xs
ended [] ys e = e
ended (x ∷ xs) ys e = ap (λ (zs : List Term). x ∷ zs) (ended xs ys e)

pub lone_name_written : (terms : List Term) → LoneName terms
unfolding lone_name name_at
lone_name_written terms d = (λ e. there e, λ same. rw same refl) where
  there : lone_name terms ≡ Some d → terms ≡ Name d ∷ []
  there e =
      let a = bind_some (name_at terms) _ _ e in
      let b = bind_some (end_at a.0.1) _ _ a.2 in
      let same : a.0.0 ≡ d = injected a.0.0 d b.2 in
      name_taken terms a.0 a.1 ∙ ap (λ (ts : List Term). Name a.0.0 ∷ ts) (end_taken a.0.1 b.0 b.1) ∙ ap (λ (w : List ℕ). Name w ∷ []) same

two_names_taken : (terms : List Term) (x : List ℕ × List ℕ) → two_names terms ≡ Some x → terms ≡ Name x.0 ∷ Symbol Comma ∷ Name x.1 ∷ []
unfolding two_names
two_names_taken terms x e =
    let a = bind_some (name_at terms) _ _ e in
    let b = bind_some (comma_at a.0.1) _ _ a.2 in
    let c = bind_some (lone_name b.0) _ _ b.2 in
    let same : (a.0.0, c.0) ≡ x = injected (a.0.0, c.0) x c.2 in
    subst (λ (p : List ℕ × List ℕ). terms ≡ Name p.0 ∷ Symbol Comma ∷ Name p.1 ∷ []) same
    (name_taken terms a.0 a.1 ∙ ap (λ (ts : List Term). Name a.0.0 ∷ ts) (comma_taken a.0.1 b.0 b.1
    ∙ ap (λ (ts : List Term). Symbol Comma ∷ ts) ((lone_name_written b.0 c.0).0 c.1)))

two_names_again : (d s : List ℕ) → two_names (Name d ∷ Symbol Comma ∷ Name s ∷ []) ≡ Some (d, s)
unfolding two_names lone_name name_at
two_names_again d s = refl

pub two_names_written : (terms : List Term) → TwoNames terms
two_names_written terms d s = (λ e. two_names_taken terms (d, s) e, λ same. ap two_names same ∙ two_names_again d s)

abbrev IsNameAndValue : List Term → List ℕ × Value → Type 0
IsNameAndValue terms x = (terms ≡ Name x.0 ∷ Symbol Comma ∷ written_value x.1) × IsValue x.1

name_and_value_taken : (terms : List Term) (x : List ℕ × Value) → name_and_value terms ≡ Some x → IsNameAndValue terms x
unfolding name_and_value
name_and_value_taken terms x e =
    let a = bind_some (name_at terms) _ _ e in
    let b = bind_some (comma_at a.0.1) _ _ a.2 in
    let c = bind_some (value_at b.0) _ _ b.2 in
    let d = bind_some (end_at c.0.1) _ _ c.2 in
    let same : (a.0.0, c.0.0) ≡ x = injected (a.0.0, c.0.0) x d.2 in
    let v = value_taken b.0 c.0 c.1 in
    subst (IsNameAndValue terms) same (
      name_taken terms a.0 a.1 ∙ ap (λ (ts : List Term). Name a.0.0 ∷ ts) (comma_taken a.0.1 b.0 b.1
          ∙ ap (λ (ts : List Term). Symbol Comma ∷ ts) (v.0 ∙ ended (written_value c.0.0) c.0.1 (end_taken c.0.1 d.0 d.1))),
      v.1,
    )

name_and_constant_again : (d : List ℕ) (negative : Bool) (n : Numeral) → (negative && n.hexadecimal) ≡ false
    → name_and_value (Name d ∷ Symbol Comma ∷ written_immediate (signed negative n)) ≡ Some (d, Constant (signed negative n))
unfolding name_and_value value_at constant_at name_at
name_and_constant_again d false n h = refl
name_and_constant_again d true n h = rw h refl

name_and_value_again : (d : List ℕ) (v : Value) → IsValue v → name_and_value (Name d ∷ Symbol Comma ∷ written_value v) ≡ Some (d, v)
unfolding name_and_value value_at name_at
name_and_value_again d (Named w) h = refl
name_and_value_again d (Constant number) h = name_and_constant_again d number.negative number.numeral h

pub name_and_value_written : (terms : List Term) → NameAndValue terms
name_and_value_written terms d v = (λ e. name_and_value_taken terms (d, v) e, λ is. ap name_and_value is.0 ∙ name_and_value_again d v is.1)

abbrev IsNameAndWide : List Term → List ℕ × Option ℕ → Type 0
IsNameAndWide terms x = (ts : List Term) × (terms ≡ Name x.0 ∷ Symbol Comma ∷ ts) × IsWide ts x.1

name_and_wide_taken : (terms : List Term) (x : List ℕ × Option ℕ) → name_and_wide terms ≡ Some x → IsNameAndWide terms x
unfolding name_and_wide
name_and_wide_taken terms x e =
    let a = bind_some (name_at terms) _ _ e in
    let b = bind_some (comma_at a.0.1) _ _ a.2 in
    let c = bind_some (wide_at b.0) _ _ b.2 in
    let d = bind_some (end_at c.0.1) _ _ c.2 in
    let same : (a.0.0, c.0.0) ≡ x = injected (a.0.0, c.0.0) x d.2 in
    let w = wide_taken b.0 c.0 c.1 in
    subst (IsNameAndWide terms) same (
      w.0,
      name_taken terms a.0 a.1 ∙ ap (λ (ts : List Term). Name a.0.0 ∷ ts) (comma_taken a.0.1 b.0 b.1
          ∙ ap (λ (ts : List Term). Symbol Comma ∷ ts) (w.1 ∙ ended w.0 c.0.1 (end_taken c.0.1 d.0 d.1))),
      w.2,
    )

unsigned_wide_again : (d : List ℕ) (n : Numeral) → name_and_wide (Name d ∷ Symbol Comma ∷ Number n ∷ []) ≡ Some (d, n.value)
unfolding name_and_wide wide_at name_at
unsigned_wide_again d n = refl

signed_wide_again : (d : List ℕ) (negative : Bool) (n : Numeral) → name_and_wide (Name d ∷ Symbol Comma ∷ written_signed (signed negative n)) ≡ Some (d, None)
unfolding name_and_wide wide_at signed_at name_at
signed_wide_again d false n = refl
signed_wide_again d true n = refl

name_and_wide_again : (d : List ℕ) (ts : List Term) (value : Option ℕ) → IsWide ts value → name_and_wide (Name d ∷ Symbol Comma ∷ ts) ≡ Some (d, value)
name_and_wide_again d ts value (inl n) = rw (n.1, n.2) (unsigned_wide_again d n.0)
name_and_wide_again d ts value (inr n) = rw (n.1, n.2) (signed_wide_again d n.0.negative n.0.numeral)

pub name_and_wide_written : (terms : List Term) → NameAndWide terms
name_and_wide_written terms d n = (λ e. name_and_wide_taken terms (d, n) e, λ is. ap name_and_wide is.1 ∙ name_and_wide_again d is.0 n is.2)

abbrev IsNameAndAddress : List Term → List ℕ × Address → Type 0
IsNameAndAddress terms x = terms ≡ Name x.0 ∷ Symbol Comma ∷ written_address x.1

name_and_address_taken : (terms : List Term) (x : List ℕ × Address) → name_and_address terms ≡ Some x → IsNameAndAddress terms x
unfolding name_and_address
name_and_address_taken terms x e =
    let a = bind_some (name_at terms) _ _ e in
    let b = bind_some (comma_at a.0.1) _ _ a.2 in
    let c = bind_some (address_at b.0) _ _ b.2 in
    let d = bind_some (end_at c.0.1) _ _ c.2 in
    let same : (a.0.0, c.0.0) ≡ x = injected (a.0.0, c.0.0) x d.2 in
    subst (IsNameAndAddress terms) same
    (name_taken terms a.0 a.1 ∙ ap (λ (ts : List Term). Name a.0.0 ∷ ts) (comma_taken a.0.1 b.0 b.1
    ∙ ap (λ (ts : List Term). Symbol Comma ∷ ts) (address_taken b.0 c.0 c.1 ∙ ended (written_address c.0.0) c.0.1 (end_taken c.0.1 d.0 d.1))))

abbrev at_base : List ℕ → Bool → Numeral → Address
at_base base negative n = record { base = base; offset = signed negative n }

name_and_address_again : (d base : List ℕ) (negative : Bool) (n : Numeral)
    → name_and_address (Name d ∷ Symbol Comma ∷ written_address (at_base base negative n)) ≡ Some (d, at_base base negative n)
unfolding name_and_address address_at signed_at name_at
name_and_address_again d base false n = refl
name_and_address_again d base true n = refl

pub name_and_address_written : (terms : List Term) → NameAndAddress terms
name_and_address_written terms d a =
    (λ e. name_and_address_taken terms (d, a) e, λ same. ap name_and_address same ∙ name_and_address_again d a.base a.offset.negative a.offset.numeral)

abbrev IsAddressAndConstant : List Term → Address × SignedNumeral → Type 0
IsAddressAndConstant terms x = (terms ≡ written_address x.0 ++ Symbol Comma ∷ written_immediate x.1) × IsImmediate x.1

address_and_constant_taken : (terms : List Term) (x : Address × SignedNumeral) → address_and_constant terms ≡ Some x → IsAddressAndConstant terms x
unfolding address_and_constant
address_and_constant_taken terms x e =
    let a = bind_some (address_at terms) _ _ e in
    let b = bind_some (comma_at a.0.1) _ _ a.2 in
    let c = bind_some (constant_at b.0) _ _ b.2 in
    let d = bind_some (end_at c.0.1) _ _ c.2 in
    let same : (a.0.0, c.0.0) ≡ x = injected (a.0.0, c.0.0) x d.2 in
    let n = constant_taken b.0 c.0 c.1 in
    subst (IsAddressAndConstant terms) same (
      address_taken terms a.0 a.1 ∙ ap (λ (ts : List Term). written_address a.0.0 ++ ts) (comma_taken a.0.1 b.0 b.1
          ∙ ap (λ (ts : List Term). Symbol Comma ∷ ts) (n.0 ∙ ended (written_immediate c.0.0) c.0.1 (end_taken c.0.1 d.0 d.1))),
      n.1,
    )

address_and_constant_again : (base : List ℕ) (b : Bool) (m : Numeral) (negative : Bool) (n : Numeral) → (negative && n.hexadecimal) ≡ false
    → address_and_constant (written_address (at_base base b m) ++ Symbol Comma ∷ written_immediate (signed negative n)) ≡ Some (at_base base b m, signed negative n)
unfolding address_and_constant address_at signed_at constant_at name_at
address_and_constant_again base false m false n h = refl
address_and_constant_again base false m true n h = rw h refl
address_and_constant_again base true m false n h = refl
address_and_constant_again base true m true n h = rw h refl

pub address_and_constant_written : (terms : List Term) → AddressAndConstant terms
address_and_constant_written terms a n = (
  λ e. address_and_constant_taken terms (a, n) e,
  λ is. ap address_and_constant is.0 ∙ address_and_constant_again a.base a.offset.negative a.offset.numeral n.negative n.numeral is.1,
)

abbrev IsAddressAndName : List Term → Address × List ℕ → Type 0
IsAddressAndName terms x = terms ≡ written_address x.0 ++ Symbol Comma ∷ Name x.1 ∷ []

address_and_name_taken : (terms : List Term) (x : Address × List ℕ) → address_and_name terms ≡ Some x → IsAddressAndName terms x
unfolding address_and_name
address_and_name_taken terms x e =
    let a = bind_some (address_at terms) _ _ e in
    let b = bind_some (comma_at a.0.1) _ _ a.2 in
    let c = bind_some (lone_name b.0) _ _ b.2 in
    let same : (a.0.0, c.0) ≡ x = injected (a.0.0, c.0) x c.2 in
    subst (IsAddressAndName terms) same
    (address_taken terms a.0 a.1 ∙ ap (λ (ts : List Term). written_address a.0.0 ++ ts) (comma_taken a.0.1 b.0 b.1
    ∙ ap (λ (ts : List Term). Symbol Comma ∷ ts) ((lone_name_written b.0 c.0).0 c.1)))

address_and_name_again : (base : List ℕ) (negative : Bool) (n : Numeral) (s : List ℕ)
    → address_and_name (written_address (at_base base negative n) ++ Symbol Comma ∷ Name s ∷ []) ≡ Some (at_base base negative n, s)
unfolding address_and_name address_at signed_at lone_name name_at
address_and_name_again base false n s = refl
address_and_name_again base true n s = refl

pub address_and_name_written : (terms : List Term) → AddressAndName terms
address_and_name_written terms a s =
    (λ e. address_and_name_taken terms (a, s) e, λ same. ap address_and_name same ∙ address_and_name_again a.base a.offset.negative a.offset.numeral s)

lone_target_taken : (terms : List Term) (t : Target) → lone_target terms ≡ Some t → terms ≡ written_target t
unfolding lone_target
lone_target_taken terms t e =
    let a = bind_some (target_at terms) _ _ e in
    let b = bind_some (end_at a.0.1) _ _ a.2 in
    let same : a.0.0 ≡ t = injected a.0.0 t b.2 in
    target_taken terms a.0 a.1 ∙ ended (written_target a.0.0) a.0.1 (end_taken a.0.1 b.0 b.1) ∙ ap written_target same

distance_again : (negative : Bool) (n : Numeral) → lone_target (written_signed (signed negative n)) ≡ Some (Distance (signed negative n))
unfolding lone_target target_at signed_at name_at
distance_again false n = refl
distance_again true n = refl

lone_target_again : (t : Target) → lone_target (written_target t) ≡ Some t
unfolding lone_target target_at name_at
lone_target_again (AtLabel w) = refl
lone_target_again (Distance number) = distance_again number.negative number.numeral

pub lone_target_written : (terms : List Term) → LoneTarget terms
lone_target_written terms t = (λ e. lone_target_taken terms t e, λ same. ap lone_target same ∙ lone_target_again t)

abbrev IsNameValueAndTarget : List Term → List ℕ × Value × Target → Type 0
IsNameValueAndTarget terms x = (terms ≡ Name x.0 ∷ Symbol Comma ∷ written_value x.1 ++ Symbol Comma ∷ written_target x.2) × IsValue x.1

name_value_and_target_taken : (terms : List Term) (x : List ℕ × Value × Target) → name_value_and_target terms ≡ Some x → IsNameValueAndTarget terms x
unfolding name_value_and_target
name_value_and_target_taken terms x e =
    let a = bind_some (name_at terms) _ _ e in
    let b = bind_some (comma_at a.0.1) _ _ a.2 in
    let c = bind_some (value_at b.0) _ _ b.2 in
    let d = bind_some (comma_at c.0.1) _ _ c.2 in
    let t = bind_some (lone_target d.0) _ _ d.2 in
    let same : (a.0.0, c.0.0, t.0) ≡ x = injected (a.0.0, c.0.0, t.0) x t.2 in
    let v = value_taken b.0 c.0 c.1 in
    subst (IsNameValueAndTarget terms) same (
      name_taken terms a.0 a.1 ∙ ap (λ (ts : List Term). Name a.0.0 ∷ ts) (comma_taken a.0.1 b.0 b.1
          ∙ ap (λ (ts : List Term). Symbol Comma ∷ ts) (v.0
          ∙ ap (λ (ts : List Term). written_value c.0.0 ++ ts) (comma_taken c.0.1 d.0 d.1
          ∙ ap (λ (ts : List Term). Symbol Comma ∷ ts) (lone_target_taken d.0 t.0 t.1)))),
      v.1,
    )

-- behind a comma stands a target
constant_and_target_again : (d : List ℕ) (negative : Bool) (n : Numeral) (ts : List Term) (t : Target) → (negative && n.hexadecimal) ≡ false → lone_target ts ≡ Some t
    → name_value_and_target (Name d ∷ Symbol Comma ∷ written_immediate (signed negative n) ++ Symbol Comma ∷ ts) ≡ Some (d, Constant (signed negative n), t)
unfolding name_value_and_target value_at constant_at name_at
constant_and_target_again d false n ts t h k = rw k refl
constant_and_target_again d true n ts t h k = rw (h, k) refl

value_and_target_again : (d : List ℕ) (v : Value) (ts : List Term) (t : Target) → IsValue v → lone_target ts ≡ Some t
    → name_value_and_target (Name d ∷ Symbol Comma ∷ written_value v ++ Symbol Comma ∷ ts) ≡ Some (d, v, t)
unfolding name_value_and_target value_at name_at
value_and_target_again d (Named w) ts t h k = rw k refl
value_and_target_again d (Constant number) ts t h k = constant_and_target_again d number.negative number.numeral ts t h k

pub name_value_and_target_written : (terms : List Term) → NameValueAndTarget terms
name_value_and_target_written terms d v t = (
  λ e. name_value_and_target_taken terms (d, v, t) e,
  λ is. ap name_value_and_target is.0 ∙ value_and_target_again d v (written_target t) t is.1 (lone_target_again t),
)
