-- What the labels of the first lines say of all lines.
use Rattle.std.proofs.lemmas.Int.{ints}
use Rattle.std.proofs.Common.{◌⊎◌, length, pos, negsuc, ◌-ℤ◌, ◌-◌, ◌≡◌, ℕ, zero, suc, ◌≤◌, ◌<◌, ◌+◌, Bool, true, false, nat_lt, if◌then◌else◌, List, [], ◌∷◌, take, Option, Some, None, Ok, ◌||◌, inl, inr, refl, sym, ap, ◌∙◌, arith}
use Rattle.std.specs.Option.{option_map, is_some}
use Rattle.std.specs.List.{list_any}
use Rattle.std.proofs.lemmas.Bool.{cases_lt, lt-ltb, le-ltb}
use Rattle.std.proofs.lemmas.List.{take_all, take-take}
use Rattle.assembler_lines.specs.declared.statement.Jump.{Jump}
use Rattle.assembler_lines.specs.Statements.{Judged, Statement, reach, jump_by, reading_of}
use Rattle.assembler_lines.specs.Slots.{definition, has_label, insn_at, jump_between, line_at, resolved}
use Rattle.assembler.specs.declared.labels.Definition.{Definition}
use Rattle.assembler.specs.Labels.{defined_at, is_before}

-- whether a line is before one
abbrev earlier : ℕ → Option ℕ → Bool
earlier k None = false
earlier k (Some j) = nat_lt j k

none_before : (b : Bool) (o : Option ℕ) → false ≡ earlier 0 (if b then Some 0 else option_map suc o)
none_before true o = refl
none_before false None = refl
none_before false (Some j) = sym (le-ltb (suc j) 0 (omega arith))

less_suc : (j k : ℕ) → nat_lt (suc j) (suc k) ≡ nat_lt j k
less_suc j k = elim (cases_lt j k) [
  | inl lt ↦ lt-ltb (suc j) (suc k) (omega arith) ∙ sym (lt-ltb j k lt)
  | inr le ↦ le-ltb (suc j) (suc k) (omega arith) ∙ sym (le-ltb j k le)
]

one_earlier : (b : Bool) (o : Option ℕ) (k : ℕ) → (b || earlier k o) ≡ earlier (suc k) (if b then Some 0 else option_map suc o)
one_earlier true o k = sym (lt-ltb 0 (suc k) (omega arith))
one_earlier false None k = refl
one_earlier false (Some j) k = sym (less_suc j k)

-- an earlier line has a label exactly where the line that defines it is earlier
any_earlier : (lines : List (List ℕ)) (name : List ℕ) (k : ℕ) → list_any (has_label name) (take k lines) ≡ earlier k (definition lines name)
any_earlier [] name zero = refl
any_earlier [] name (suc k) = refl
any_earlier (l ∷ lines) name zero = none_before (has_label name l) (definition lines name)
any_earlier (l ∷ lines) name (suc k) = ap (λ (b : Bool). has_label name l || b) (any_earlier lines name k) ∙ one_earlier (has_label name l) (definition lines name) k

before_mapped : (lines : List (List ℕ)) (k : ℕ) (o : Option ℕ) → is_before k (option_map (defined_at lines) o) ≡ earlier k o
before_mapped lines k None = refl
before_mapped lines k (Some j) = refl

-- the lines before one, among the first lines or all
taken_same : (lines : List (List ℕ)) (name : List ℕ) (count k : ℕ) → (k ≤ count) ⊎ (length lines ≤ count) → earlier k (definition (take count lines) name) ≡ list_any (has_label name) (take k lines)
taken_same lines name count k (inl le) = sym (any_earlier (take count lines) name k) ∙ ap (list_any (has_label name)) (take-take k count lines le)
taken_same lines name count k (inr all) = sym (any_earlier (take count lines) name k) ∙ ap (λ (ls : List (List ℕ)). list_any (has_label name) (take k ls)) (take_all count lines all)

early : (b : Bool) (o p : Option ℕ) (j : ℕ) → ((i : ℕ) → o ≡ Some i → p ≡ Some i) → (if b then Some 0 else option_map suc o) ≡ Some j → (if b then Some 0 else option_map suc p) ≡ Some j
early true o p j more e = e
early false None p j more e = cc e
early false (Some i) p j more e = ap (option_map suc) (more i refl) ∙ e

-- what the first lines define, all lines define
definition_early : (lines : List (List ℕ)) (name : List ℕ) (count j : ℕ) → definition (take count lines) name ≡ Some j → definition lines name ≡ Some j
definition_early lines name zero j e = cc e
definition_early [] name (suc count) j e = cc e
definition_early (l ∷ lines) name (suc count) j e = early (has_label name l) (definition (take count lines) name) (definition lines name) j (definition_early lines name count) e

-- a label that the first lines define is found
pub found_early : (lines : List (List ℕ)) (name : List ℕ) (count : ℕ) (found : Option Definition) → found ≡ option_map (defined_at lines) (definition (take count lines) name) → is_some found ≡ true
    → found ≡ option_map (defined_at lines) (definition lines name)
found_early lines name count found e some = go (definition (take count lines) name) refl where
  go : (o : Option ℕ) → definition (take count lines) name ≡ o → found ≡ option_map (defined_at lines) (definition lines name)
  go None is = absurd (let none : found ≡ None = e ∙ ap (option_map (defined_at lines)) is in let f = rw none at some in cc)
  go (Some j) is = e ∙ ap (option_map (defined_at lines)) (is ∙ sym (definition_early lines name count j is))

-- all lines are read
pub found_at_end : (lines : List (List ℕ)) (name : List ℕ) (count : ℕ) (found : Option Definition) → found ≡ option_map (defined_at lines) (definition (take count lines) name) → length lines ≤ count
    → found ≡ option_map (defined_at lines) (definition lines name)
found_at_end lines name count found e all = e ∙ ap (λ (ls : List (List ℕ)). option_map (defined_at lines) (definition ls name)) (take_all count lines all)

-- whether a definition is before a line
pub before_held : (lines : List (List ℕ)) (name : List ℕ) (count k : ℕ) (found : Option Definition) → found ≡ option_map (defined_at lines) (definition (take count lines) name)
    → (k ≤ count) ⊎ (length lines ≤ count) → is_before k found ≡ list_any (has_label name) (take k lines)
before_held lines name count k found e within = ap (is_before k) e ∙ before_mapped lines k (definition (take count lines) name) ∙ taken_same lines name count k within

behind : (here target : ℕ) → target ≤ here → pos target -ℤ pos (here + 1) ≡ negsuc (here - target)
behind here target le = grind (arith, ints)

pub back_same : (jump : Jump) (here target : ℕ) → target ≤ here → here - target < reach jump → Ok (jump_by jump (negsuc (here - target))) ≡ jump_between jump here target
unfolding jump_between
back_same jump here target le lt = rw (behind here target le, lt-ltb (here - target) (reach jump) lt) refl

-- what a line is, by what it says
pub line_is : (lines : List (List ℕ)) (k : ℕ) (line : List ℕ) (statement : Judged Statement) → line ≡ line_at lines k → statement ≡ reading_of line → resolved lines k statement ≡ insn_at lines k
unfolding insn_at
line_is lines k line statement at says = ap (resolved lines k) (says ∙ ap reading_of at)
