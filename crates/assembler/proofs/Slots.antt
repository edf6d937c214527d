-- A right line takes the slots of its instruction.
use Rattle.std.proofs.Common.{◌≡◌, ℕ, ◌+◌, ◌*◌, ◌<◌, Bool, true, false, if◌then◌else◌, List, [], ◌∷◌, ◌++◌, length, Option, Some, None, Ok, Err, ℤ, refl, sym, ap, subst, ◌∙◌, arith}
use Rattle.std.specs.Prelude.{IsOk}
use Rattle.std.specs.Option.{option_map, is_some}
use Rattle.std.specs.List.{find}
use Rattle.std.specs.Str.{bytes_eq}
use Rattle.std.proofs.lemmas.List.{length-append}
use Rattle.std.proofs.lemmas.Slice.Eq.{bytes_eq-Decides}
use Rattle.bpf_words.specs.declared.instruction.Insn.{Insn}
use Rattle.bpf_words.specs.declared.instruction.Insn.TheVariants as insn
use Rattle.bpf_words.specs.Encoding.{encoded}
use Rattle.bpf_words.specs.Flow.{slots_of}
use Rattle.assembler_lines.specs.declared.form.Form.{Form}
use Rattle.assembler_lines.specs.declared.form.Form.TheVariants as form
use Rattle.assembler_lines.specs.declared.fault.LineFault.TheVariants.{Syntax, LabelTwice, NumberRange, JumpRange}
use Rattle.assembler_lines.specs.declared.statement.Jump.{Jump}
use Rattle.assembler_lines.specs.declared.statement.Jump.TheVariants.{Short, Long, OnComparison}
use Rattle.assembler_lines.specs.declared.token.Sign.TheVariants.{Comma, Open, Close, Plus, Minus, Colon}
use Rattle.assembler_lines.specs.Tokens.{Lexeme, Mark, Word, Stray, tokens_of}
use Rattle.assembler_lines.specs.Terms.{Term, Symbol, Name, Number, begins_digit, numeral_of, term_of, term_of_word, terms_of}
use Rattle.assembler_lines.specs.Mnemonics.{name_of, form_named, all_forms}
use Rattle.assembler_lines.specs.Shapes.{Target, AtLabel, Distance, lone_name, two_names, name_and_value, name_and_wide, name_and_address, address_and_constant, address_and_name, lone_target, name_value_and_target}
use Rattle.assembler_lines.specs.Statements.{Statement, Blank, Label, Plain, Onto, Judged, demand, register, within, offset, immediate, operand, reach, jump_by, jump_over, jump_to, instruction_of, instruction_in, colon_at, name_first, number_first, statement_of, reading_of, ◌>>=◌}
use Rattle.assembler_lines.specs.Slots.{begins_colon, slots_of as slots_in, slots, line_at, first_slot, jump_between, jump_onto, definition, resolved, insn_at}
use Rattle.assembler_lines.proofs.Naming.{form_again}
use Rattle.assembler_lines.proofs.Lengths.{bind_some}
use Rattle.assembler.specs.Text.{bytes_of}
use Rattle.assembler.proofs.Labelling.{first_slot_more}

-- the slots of what a line says
abbrev said : Statement → ℕ
said Blank = 0
said (Label name) = 0
said (Plain insn) = slots_of insn
said (Onto jump name) = 1

-- the slots of an instruction of a form
abbrev formed : Form → ℕ
formed (form.Compute width operation) = 1
formed (form.Negate width) = 1
formed (form.Extend extension) = 1
formed (form.Convert conversion bits) = 1
formed form.Jump = 1
formed form.JumpLong = 1
formed (form.Branch width comparison) = 1
formed (form.Load size) = 1
formed (form.LoadSigned size) = 1
formed (form.StoreImmediate size) = 1
formed (form.StoreRegister size) = 1
formed form.LoadWide = 2
formed form.Exit = 1

bound : {A B : Type 0} (o : Judged A) (f : A → Judged B) (y : B) → (o >>= f) ≡ Ok y → (x : A) × (o ≡ Ok x) × (f x ≡ Ok y)
bound (Err e) f y e' = absurd cc
bound (Ok x) f y e = (x, refl, e)

says : (p s : Statement) (n : ℕ) → ◌≡◌ {A = Judged Statement} (Ok p) (Ok s) → said p ≡ n → said s ≡ n
says p s n e h = let same : p ≡ s = cc in subst (λ (x : Statement). said x ≡ n) same h

-- ---- of a form
one_slot : (jump : Jump) (d : ℤ) → slots_of (jump_by jump d) ≡ 1
unfolding jump_by
one_slot Short d = refl
one_slot Long d = refl
one_slot (OnComparison w c l r) d = refl

of_jump : (jump : Jump) (target : Target) (s : Statement) → jump_to jump target ≡ Ok s → said s ≡ 1
unfolding jump_to jump_over
of_jump jump (AtLabel name) s e = says (Onto jump name) s 1 e refl
of_jump jump (Distance number) s e =
    let a = bound (jump_over jump number) _ s e in
    let b = bound (demand JumpRange (within (reach jump) number)) _ a.0 a.1 in
    let same : jump_by jump b.0 ≡ a.0 = let f = b.2 in cc in
    says (Plain a.0) s 1 a.2 (subst (λ (i : Insn). slots_of i ≡ 1) same (one_slot jump b.0))

of_form : (f : Form) (terms : List Term) (s : Statement) → instruction_of f terms ≡ Ok s → said s ≡ formed f
unfolding instruction_of
of_form (form.Compute width operation) terms s e =
    let a = bound (demand Syntax (name_and_value terms)) _ s e in
    let b = bound (register a.0.0) _ s a.2 in
    let c = bound (operand a.0.1) _ s b.2 in
    says _ s 1 c.2 refl
of_form (form.Negate width) terms s e =
    let a = bound (demand Syntax (lone_name terms)) _ s e in
    let b = bound (register a.0) _ s a.2 in
    says _ s 1 b.2 refl
of_form (form.Extend extension) terms s e =
    let a = bound (demand Syntax (two_names terms)) _ s e in
    let b = bound (register a.0.0) _ s a.2 in
    let c = bound (register a.0.1) _ s b.2 in
    says _ s 1 c.2 refl
of_form (form.Convert conversion bits) terms s e =
    let a = bound (demand Syntax (lone_name terms)) _ s e in
    let b = bound (register a.0) _ s a.2 in
    says _ s 1 b.2 refl
of_form form.Jump terms s e =
    let a = bound (demand Syntax (lone_target terms)) _ s e in
    of_jump Short a.0 s a.2
of_form form.JumpLong terms s e =
    let a = bound (demand Syntax (lone_target terms)) _ s e in
    of_jump Long a.0 s a.2
of_form (form.Branch width comparison) terms s e =
    let a = bound (demand Syntax (name_value_and_target terms)) _ s e in
    let b = bound (register a.0.0) _ s a.2 in
    let c = bound (operand a.0.1) _ s b.2 in
    of_jump (OnComparison width comparison b.0 c.0) a.0.2 s c.2
of_form (form.Load size) terms s e =
    let a = bound (demand Syntax (name_and_address terms)) _ s e in
    let b = bound (register a.0.0) _ s a.2 in
    let c = bound (register a.0.1.base) _ s b.2 in
    let d = bound (offset a.0.1.offset) _ s c.2 in
    says _ s 1 d.2 refl
of_form (form.LoadSigned size) terms s e =
    let a = bound (demand Syntax (name_and_address terms)) _ s e in
    let b = bound (register a.0.0) _ s a.2 in
    let c = bound (register a.0.1.base) _ s b.2 in
    let d = bound (offset a.0.1.offset) _ s c.2 in
    says _ s 1 d.2 refl
of_form (form.StoreImmediate size) terms s e =
    let a = bound (demand Syntax (address_and_constant terms)) _ s e in
    let b = bound (register a.0.0.base) _ s a.2 in
    let c = bound (offset a.0.0.offset) _ s b.2 in
    let d = bound (immediate a.0.1) _ s c.2 in
    says _ s 1 d.2 refl
of_form (form.StoreRegister size) terms s e =
    let a = bound (demand Syntax (address_and_name terms)) _ s e in
    let b = bound (register a.0.0.base) _ s a.2 in
    let c = bound (register a.0.1) _ s b.2 in
    let d = bound (offset a.0.0.offset) _ s c.2 in
    says _ s 1 d.2 refl
of_form form.LoadWide terms s e =
    let a = bound (demand Syntax (name_and_wide terms)) _ s e in
    let b = bound (register a.0.0) _ s a.2 in
    let c = bound (demand NumberRange a.0.1) _ s b.2 in
    says _ s 2 c.2 refl
of_form form.Exit [] s e = says _ s 1 e refl
of_form form.Exit (t ∷ ts) s e = absurd cc

-- ---- of a name
found_passes : {X : Type 0} (p : X → Bool) (xs : List X) (x : X) → find p xs ≡ Some x → p x ≡ true
found_passes p [] x e = absurd cc
found_passes p (y ∷ ys) x e = go (p y) refl (found_passes p ys x) e where
  go : (b : Bool) → p y ≡ b → (find p ys ≡ Some x → p x ≡ true) → (if b then Some y else find p ys) ≡ Some x → p x ≡ true
  go true is more e = let same : y ≡ x = cc in ap p (sym same) ∙ is
  go false is more e = more e

named : (word : List ℕ) (f : Form) → form_named word ≡ Some f → name_of f ≡ word
unfolding form_named
named word f e = (bytes_eq-Decides (name_of f) word).0 (found_passes (λ form. bytes_eq (name_of form) word) all_forms f e)

by_name : (word : List ℕ) (f : Form) → form_named word ≡ Some f → (if bytes_eq word (name_of form.LoadWide) then 2 else 1) ≡ formed f
by_name word f e = go (bytes_eq word (name_of form.LoadWide)) refl where
  narrow : (g : Form) → form_named word ≡ Some g → bytes_eq word (name_of form.LoadWide) ≡ false → 1 ≡ formed g
  narrow (form.Compute width operation) e apart = refl
  narrow (form.Negate width) e apart = refl
  narrow (form.Extend extension) e apart = refl
  narrow (form.Convert conversion bits) e apart = refl
  narrow form.Jump e apart = refl
  narrow form.JumpLong e apart = refl
  narrow (form.Branch width comparison) e apart = refl
  narrow (form.Load size) e apart = refl
  narrow (form.LoadSigned size) e apart = refl
  narrow (form.StoreImmediate size) e apart = refl
  narrow (form.StoreRegister size) e apart = refl
  narrow form.LoadWide e apart = absurd (let yes = (bytes_eq-Decides word (name_of form.LoadWide)).1 (sym (named word form.LoadWide e)) in cc)
  narrow form.Exit e apart = refl

  go : (b : Bool) → bytes_eq word (name_of form.LoadWide) ≡ b → (if b then 2 else 1) ≡ formed f
  go true is =
      let same : word ≡ name_of form.LoadWide = (bytes_eq-Decides word (name_of form.LoadWide)).0 is in
      let f_is : form.LoadWide ≡ f = let h = sym (form_again form.LoadWide) ∙ ap form_named (sym same) ∙ e in cc in
      ap formed f_is
  go false is = narrow f e is

-- ---- of a line's tokens
first_term : (token : Lexeme) (tokens : List Lexeme) (terms : List Term) → terms_of (token ∷ tokens) ≡ Some terms
    → (x : Term) × (xs : List Term) × (term_of token ≡ Some x) × (terms_of tokens ≡ Some xs) × (x ∷ xs ≡ terms)
unfolding terms_of
first_term token tokens terms e =
    let a = bind_some (term_of token) _ terms e in
    let b = bind_some (terms_of tokens) _ terms a.2 in
    (a.0, b.0, a.1, b.1, let f = b.2 in cc)

no_symbol : (word : List ℕ) (x : Term) (xs : List Term) → term_of_word word ≡ Some x → false ≡ is_some (colon_at (x ∷ xs))
unfolding term_of_word
no_symbol word (Name w) xs e = refl
no_symbol word (Number n) xs e = refl
no_symbol word (Symbol s) xs e = go (begins_digit word) refl e where
  go : (b : Bool) → begins_digit word ≡ b → (if b then option_map Number (numeral_of word) else Some (Name word)) ≡ Some (Symbol s) → false ≡ is_some (colon_at (Symbol s ∷ xs))
  go false is e = absurd cc
  go true is e = digits (numeral_of word) e where
    digits : (o : Option _) → option_map Number o ≡ Some (Symbol s) → false ≡ is_some (colon_at (Symbol s ∷ xs))
    digits None e = absurd cc
    digits (Some n) e = absurd cc

colon_same : (tokens : List Lexeme) (terms : List Term) → terms_of tokens ≡ Some terms → begins_colon tokens ≡ is_some (colon_at terms)
unfolding terms_of
colon_same [] terms e = let none : [] ≡ terms = cc in ap (λ (ts : List Term). is_some (colon_at ts)) none
colon_same (token ∷ tokens) terms e =
    let a = first_term token tokens terms e in
    go token a.0 a.2 ∙ ap (λ (ts : List Term). is_some (colon_at ts)) a.4 where
      go : (t : Lexeme) (x : Term) → term_of t ≡ Some x → begins_colon (t ∷ tokens) ≡ is_some (colon_at (x ∷ (first_term token tokens terms e).1))
      go (Mark Colon) x h = let f : Symbol Colon ≡ x = cc in ap (λ (y : Term). is_some (colon_at (y ∷ (first_term token tokens terms e).1))) f
      go (Mark Comma) x h = let f : Symbol Comma ≡ x = cc in ap (λ (y : Term). is_some (colon_at (y ∷ (first_term token tokens terms e).1))) f
      go (Mark Open) x h = let f : Symbol Open ≡ x = cc in ap (λ (y : Term). is_some (colon_at (y ∷ (first_term token tokens terms e).1))) f
      go (Mark Close) x h = let f : Symbol Close ≡ x = cc in ap (λ (y : Term). is_some (colon_at (y ∷ (first_term token tokens terms e).1))) f
      go (Mark Plus) x h = let f : Symbol Plus ≡ x = cc in ap (λ (y : Term). is_some (colon_at (y ∷ (first_term token tokens terms e).1))) f
      go (Mark Minus) x h = let f : Symbol Minus ≡ x = cc in ap (λ (y : Term). is_some (colon_at (y ∷ (first_term token tokens terms e).1))) f
      go (Word w) x h = no_symbol w x (first_term token tokens terms e).1 h
      go Stray x h = absurd cc

a_name : (word v : List ℕ) → term_of_word word ≡ Some (Name v) → v ≡ word
unfolding term_of_word
a_name word v e = go (begins_digit word) refl e where
  go : (b : Bool) → begins_digit word ≡ b → (if b then option_map Number (numeral_of word) else Some (Name word)) ≡ Some (Name v) → v ≡ word
  go false is e = cc
  go true is e = digits (numeral_of word) e where
    digits : (o : Option _) → option_map Number o ≡ Some (Name v) → v ≡ word
    digits None e = absurd cc
    digits (Some n) e = absurd cc

of_name : (word : List ℕ) (terms : List Term) (s : Statement) → name_first word terms (colon_at terms) ≡ Ok s
    → (if is_some (colon_at terms) then 0 else if bytes_eq word (name_of form.LoadWide) then 2 else 1) ≡ said s
of_name word terms s e = go (colon_at terms) e where
  formed_by : (o : Option Form) → form_named word ≡ o → instruction_in o terms ≡ Ok s → (if bytes_eq word (name_of form.LoadWide) then 2 else 1) ≡ said s
  formed_by None is e = absurd cc
  formed_by (Some f) is e = by_name word f is ∙ sym (of_form f terms s e)

  go : (o : Option (List Term)) → name_first word terms o ≡ Ok s → (if is_some o then 0 else if bytes_eq word (name_of form.LoadWide) then 2 else 1) ≡ said s
  go None e = formed_by (form_named word) refl e
  go (Some []) e = sym (says (Label word) s 0 e refl)
  go (Some (t ∷ ts)) e = absurd cc

no_number : (o : Option (List Term)) (s : Statement) → number_first o ≡ Ok s → ⊥
no_number None s e = cc
no_number (Some ts) s e = cc

of_word : (word : List ℕ) (tokens : List Lexeme) (x : Term) (xs : List Term) (s : Statement) → term_of_word word ≡ Some x → terms_of tokens ≡ Some xs → statement_of (x ∷ xs) ≡ Ok s
    → slots_in (Word word ∷ tokens) ≡ said s
unfolding statement_of
of_word word tokens (Name v) xs s is more e =
    rw (colon_same tokens xs more, sym (a_name word v is)) (of_name v xs s e)
of_word word tokens (Number n) xs s is more e = absurd (no_number (colon_at xs) s e)
of_word word tokens (Symbol c) xs s is more e = absurd cc

of_tokens : (tokens : List Lexeme) (terms : List Term) (s : Statement) → terms_of tokens ≡ Some terms → statement_of terms ≡ Ok s → slots_in tokens ≡ said s
unfolding terms_of statement_of
of_tokens [] terms s e h = let none : [] ≡ terms = cc in sym (says Blank s 0 (ap statement_of none ∙ h) refl)
of_tokens (Word word ∷ tokens) terms s e h =
    let a = first_term (Word word) tokens terms e in
    of_word word tokens a.0 a.1 s a.2 a.3 (ap statement_of a.4 ∙ h)
of_tokens (Mark sign ∷ tokens) terms s e h =
    let a = first_term (Mark sign) tokens terms e in
    let first : Symbol sign ≡ a.0 = let f = a.2 in cc in
    absurd (let f = ap statement_of (ap (λ (x : Term). x ∷ a.1) first ∙ a.4) ∙ h in cc)
of_tokens (Stray ∷ tokens) terms s e h = absurd (let a = first_term Stray tokens terms e in let f = a.2 in cc)

demanded : (o : Option (List Term)) (terms : List Term) → demand Syntax o ≡ Ok terms → o ≡ Some terms
demanded None terms e = absurd cc
demanded (Some ts) terms e = cc

of_line : (line : List ℕ) (s : Statement) → reading_of line ≡ Ok s → slots line ≡ said s
unfolding reading_of slots
of_line line s e =
    let a = bound (demand Syntax (terms_of (tokens_of line))) statement_of s e in
    of_tokens (tokens_of line) a.0 s (demanded (terms_of (tokens_of line)) a.0 a.1) a.2

-- ---- of the bytes of a line
encoded_len : (i : Insn) → length (encoded i) ≡ 8 * slots_of i
unfolding encoded
encoded_len (insn.Compute width operation destination operand) = refl
encoded_len (insn.Negate width destination) = refl
encoded_len (insn.Extend extension destination source) = refl
encoded_len (insn.Convert conversion bits destination) = refl
encoded_len (insn.Jump distance) = refl
encoded_len (insn.JumpLong distance) = refl
encoded_len (insn.Branch width comparison left right distance) = refl
encoded_len (insn.Load size destination base offset) = refl
encoded_len (insn.LoadSigned size destination base offset) = refl
encoded_len (insn.Store size base offset value) = refl
encoded_len (insn.LoadWide destination value) = refl
encoded_len insn.Exit = refl

of_between : (jump : Jump) (here target : ℕ) (i : Insn) → jump_between jump here target ≡ Ok i → slots_of i ≡ 1
unfolding jump_between
of_between jump here target i e = go _ _ e where
  go : (b : Bool) (d : ℤ) → (if b then Ok (jump_by jump d) else Err JumpRange) ≡ Ok i → slots_of i ≡ 1
  go true d e = let same : jump_by jump d ≡ i = cc in subst (λ (x : Insn). slots_of x ≡ 1) same (one_slot jump d)
  go false d e = absurd cc

of_resolved : (lines : List (List ℕ)) (k : ℕ) (s : Statement) (found : Option Insn) → resolved lines k (Ok s) ≡ Ok found → length (bytes_of (Ok found)) ≡ 8 * said s
of_resolved lines k Blank found e = let none : None ≡ found = cc in ap (λ (o : Option Insn). length (bytes_of (Ok o))) (sym none)
of_resolved lines k (Label name) found e = go _ e where
  go : (b : Bool) → (if b then Err LabelTwice else Ok None) ≡ Ok found → length (bytes_of (Ok found)) ≡ 0
  go true e = absurd cc
  go false e = let none : None ≡ found = cc in ap (λ (o : Option Insn). length (bytes_of (Ok o))) (sym none)
of_resolved lines k (Plain i) found e = let some : Some i ≡ found = cc in ap (λ (o : Option Insn). length (bytes_of (Ok o))) (sym some) ∙ encoded_len i
of_resolved lines k (Onto jump name) found e = go (definition lines name) e where
  go : (o : Option ℕ) → jump_onto lines jump (first_slot lines k) o ≡ Ok found → length (bytes_of (Ok found)) ≡ 8
  go None e = absurd cc
  go (Some j) e =
      let a = bound (jump_between jump (first_slot lines k) (first_slot lines j)) _ found e in
      let some : Some a.0 ≡ found = let f = a.2 in cc in
      ap (λ (o : Option Insn). length (bytes_of (Ok o))) (sym some) ∙ encoded_len a.0 ∙ ap (λ n. 8 * n) (of_between jump (first_slot lines k) (first_slot lines j) a.0 a.1)

pub bytes_at : (lines : List (List ℕ)) (k : ℕ) (found : Option Insn) → insn_at lines k ≡ Ok found → length (bytes_of (insn_at lines k)) ≡ 8 * slots (line_at lines k)
unfolding insn_at
bytes_at lines k found e = go (reading_of (line_at lines k)) refl e where
  go : (r : Judged Statement) → reading_of (line_at lines k) ≡ r → resolved lines k r ≡ Ok found → length (bytes_of (insn_at lines k)) ≡ 8 * slots (line_at lines k)
  go (Err fault) is e = absurd cc
  go (Ok s) is e =
      let here : insn_at lines k ≡ Ok found = ap (resolved lines k) is ∙ e in
      ap (λ (j : Judged (Option Insn)). length (bytes_of j)) here ∙ of_resolved lines k s found e ∙ ap (λ n. 8 * n) (sym (of_line (line_at lines k) s is))

-- the bytes of one line more end where the next line begins
pub at_slot_more : (lines : List (List ℕ)) (k : ℕ) (old new : List ℕ) → k < length lines → length old ≡ 8 * first_slot lines k → IsOk (insn_at lines k)
    → new ≡ old ++ bytes_of (insn_at lines k) → length new ≡ 8 * first_slot lines (k + 1)
at_slot_more lines k old new lt at_slot right more = go (insn_at lines k) refl right where
  go : (r : Judged (Option Insn)) → insn_at lines k ≡ r → IsOk r → length new ≡ 8 * first_slot lines (k + 1)
  go (Err fault) is right = absurd cc
  go (Ok found) is right =
      omega (arith, ap length more, length-append old (bytes_of (insn_at lines k)), bytes_at lines k found is, first_slot_more lines k lt, at_slot)
