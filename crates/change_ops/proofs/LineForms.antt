-- A line is read as a run or an operation just where it has the form of it, and a first line as what it has the form of.
use Rattle.std.proofs.Common.{◌≡◌, ℕ, zero, suc, ◌<◌, Bool, true, false, cond, List, [], ◌∷◌, ◌++◌, length, Option, Some, None, refl, sym, ap, subst, ◌∙◌, arith}
use Rattle.std.specs.Prelude.{◌&&◌, codes}
use Rattle.std.specs.Str.{bytes_eq}
use Rattle.std.proofs.lemmas.Bool.{and_parts}
use Rattle.change_ops.specs.Ids.{OpId}
use Rattle.change_ops.specs.Words.{split, number_in}
use Rattle.change_ops.specs.Runs.{Run}
use Rattle.change_ops.specs.IdRuns.{IdRun}
use Rattle.change_ops.specs.Reading.{◌>>=◌, id_at, hex_at, parent_at, characters_at, counted_at, run_parts, run_at, is_counted, id_run_at, op_at, line_at, line_in, form_at, header_at}
use Rattle.change_ops.specs.Spelling.{◌␣◌, form_text}
use Rattle.change_ops.specs.Forms.{LinesAreForms, HeadersAreForms, Numeral, Joined, ◌⎵◌, IdForm, ParentForm, CodeForm, CharactersForm, CountedForm, RunForm, IdRunForm, AnyForm, LineForm, FormWord, HeaderForm}
use Rattle.change_ops.specs.declared.line.Form.{Form}
use Rattle.change_ops.specs.declared.line.Form.TheVariants.{First, Second, Third}
use Rattle.change_ops.specs.declared.line.Line.{Line}
use Rattle.change_ops.specs.declared.line.Line.TheVariants.{Operation, Run as RunLine, Removals, Revivals}
use Rattle.change_ops.proofs.Grammar.{Lacks, bind_some, split_again, split_takes}
use Rattle.change_ops.proofs.Phrases.{same_bytes}
use Rattle.change_ops.proofs.KeyWords.{lacks_printed, no_digit_below}
use Rattle.change_ops.proofs.FormLaws.{joined_again, numeral_lacks, decimal_lacks, id_lacks, parent_lacks, id_form, id_read, parent_form, parent_read, code_form, code_read, op_form, op_read, lettered}
use Rattle.change_ops.proofs.NumeralForms.{number_takes, number_again}
use Rattle.change_ops.proofs.RunLaws.{not_none}
use Rattle.change_ops.proofs.IdRunLaws.{id_run_read, id_run_counted}
use Rattle.change_ops.proofs.SpelledLines.{chosen, of_letter, op_line_read, in_takes}

-- characters

code_lacks : (n : ℕ) (word : List ℕ) → CodeForm n word → Lacks 32 word
code_lacks n word h = numeral_lacks 16 32 n word (omega arith) (let d = no_digit_below 32 (omega arith) in d) h.numeral

one_more : (c : ℕ) (cs fields word rest : List ℕ) → fields ≡ word ++ 32 ∷ rest → CodeForm c word → CharactersForm cs rest → CharactersForm (c ∷ cs) fields
one_more c [] fields word rest whole code h = absurd h
one_more c (d ∷ ds) fields word rest whole code h = record { first = word; second = rest; whole = whole; before = code; after = h }

pub record CodesForm (n : ℕ) (fields cs : List ℕ) : Type 0 where
  pub spelled : CharactersForm cs fields
  pub counted : length cs ≡ n

pub characters_form : (n : ℕ) (fields cs : List ℕ) → characters_at n fields ≡ Some cs → CodesForm n fields cs
unfolding characters_at
characters_form zero fields cs e = absurd cc
characters_form (suc zero) fields cs e =
    let a = bind_some (hex_at fields) (λ code. Some (code ∷ [])) cs e in
    let same : a.0 ∷ [] ≡ cs = cc (a.2) in
    let form : CodesForm 1 fields (a.0 ∷ []) = record { spelled = code_form fields a.0 a.1; counted = refl } in
    subst (CodesForm 1 fields) same form
characters_form (suc (suc n)) fields cs e =
    let a = bind_some (split 32 fields) (λ first. hex_at first.0 >>= λ code. characters_at (suc n) first.1 >>= λ codes. Some (code ∷ codes)) cs e in
    let b = bind_some (hex_at a.0.0) (λ code. characters_at (suc n) a.0.1 >>= λ codes. Some (code ∷ codes)) cs a.2 in
    let d = bind_some (characters_at (suc n) a.0.1) (λ codes. Some (b.0 ∷ codes)) cs b.2 in
    let same : b.0 ∷ d.0 ≡ cs = cc (d.2) in
    let rest = characters_form (suc n) a.0.1 d.0 d.1 in
    let form : CodesForm (suc (suc n)) fields (b.0 ∷ d.0) = record { spelled = one_more b.0 d.0 fields a.0.0 a.0.1 (split_takes 32 fields a.0.0 a.0.1 a.1).0 (code_form a.0.0 b.0 b.1) rest.spelled; counted = ap suc rest.counted } in
    subst (CodesForm (suc (suc n)) fields) same form

characters_read : (cs fields : List ℕ) → CharactersForm cs fields → characters_at (length cs) fields ≡ Some cs
unfolding characters_at
characters_read [] fields h = absurd h
characters_read (c ∷ []) fields h = rw (code_read fields c h) refl
characters_read (c ∷ d ∷ ds) fields j =
    rw (joined_again 32 fields j (code_lacks c j.first j.before), code_read j.first c j.before, characters_read (d ∷ ds) j.second j.after) refl

counted : (cs fields count rest : List ℕ) → fields ≡ count ++ 32 ∷ rest → Numeral 10 (length cs) count → CharactersForm cs rest → CountedForm cs fields
counted [] fields count rest whole n h = absurd h
counted (c ∷ cs) fields count rest whole n h = record { first = count; second = rest; whole = whole; before = n; after = h }

counted_form : (fields cs : List ℕ) → counted_at fields ≡ Some cs → CountedForm cs fields
unfolding counted_at
counted_form fields cs e = go (bytes_eq fields (codes "0")) refl e where
  go : (b : Bool) → bytes_eq fields (codes "0") ≡ b → cond b (Some []) (split 32 fields >>= λ first. number_in 10 first.0 >>= λ count. characters_at count first.1) ≡ Some cs → CountedForm cs fields
  go true f g = let same : [] ≡ cs = cc in subst (λ (x : List ℕ). CountedForm x fields) same (same_bytes fields (codes "0") f)
  go false f g =
      let a = bind_some (split 32 fields) (λ first. number_in 10 first.0 >>= λ count. characters_at count first.1) cs g in
      let b = bind_some (number_in 10 a.0.0) (λ count. characters_at count a.0.1) cs a.2 in
      let t = characters_form b.0 a.0.1 cs b.2 in
      counted cs fields a.0.0 a.0.1 (split_takes 32 fields a.0.0 a.0.1 a.1).0 (subst (λ (k : ℕ). Numeral 10 k a.0.0) (sym t.counted) (number_takes 10 b.0 a.0.0 (omega arith) b.1)) t.spelled

counted_read : (cs fields : List ℕ) → CountedForm cs fields → counted_at fields ≡ Some cs
unfolding counted_at
counted_read [] fields h = ap counted_at h
counted_read (c ∷ cs) fields j =
    let parts = joined_again 32 fields j (decimal_lacks 32 (length (c ∷ cs)) j.first (omega arith) j.before) in
    rw (not_none fields (j.first, j.second) parts, parts, number_again 10 (length (c ∷ cs)) j.first (omega arith) j.before, characters_read (c ∷ cs) j.second j.after) refl

-- runs

abbrev FieldsForm : Run → List ℕ → Type 0
FieldsForm run = IdForm run.id ⎵ ParentForm run.parent ⎵ CountedForm run.characters

run_form : (fields : List ℕ) (run : Run) → run_at fields ≡ Some run → FieldsForm run fields
unfolding run_at
run_form fields run e =
    let a = bind_some (split 32 fields) (λ first. split 32 first.1 >>= λ second. run_parts (id_at first.0) (parent_at second.0) (counted_at second.1)) run e in
    let b = bind_some (split 32 a.0.1) (λ second. run_parts (id_at a.0.0) (parent_at second.0) (counted_at second.1)) run a.2 in
    let d = bind_some (id_at a.0.0) (λ id. parent_at b.0.0 >>= λ parent. counted_at b.0.1 >>= λ characters. made id parent characters) run b.2 in
    let f = bind_some (parent_at b.0.0) (λ parent. counted_at b.0.1 >>= λ characters. made d.0 parent characters) run d.2 in
    let g = bind_some (counted_at b.0.1) (λ characters. made d.0 f.0 characters) run f.2 in
    let read : Run = record { id = d.0; parent = f.0; characters = g.0 } in
    let same : read ≡ run = some_run read run g.2 in
    let inner : Joined 32 (ParentForm f.0) (CountedForm g.0) a.0.1 = record { first = b.0.0; second = b.0.1; whole = (split_takes 32 a.0.1 b.0.0 b.0.1 b.1).0; before = parent_form b.0.0 f.0 f.1; after = counted_form b.0.1 g.0 g.1 } in
    let form : FieldsForm read fields = record { first = a.0.0; second = a.0.1; whole = (split_takes 32 fields a.0.0 a.0.1 a.1).0; before = id_form a.0.0 d.0 d.1; after = inner } in
    subst (λ (x : Run). FieldsForm x fields) same form
  where
    made : OpId → Option OpId → List ℕ → Option Run
    made id parent characters = Some (record { id = id; parent = parent; characters = characters })

    some_run : (x y : Run) → Some x ≡ Some y → x ≡ y
    some_run x y e = cc

run_read : (fields : List ℕ) (run : Run) → FieldsForm run fields → run_at fields ≡ Some run
unfolding run_at
run_read fields run j =
    let k = j.after in
    rw (
      joined_again 32 fields j (id_lacks 32 run.id j.first (omega arith) j.before),
      joined_again 32 j.second k (parent_lacks 32 run.parent k.first (omega arith) k.before),
      id_read j.first run.id j.before,
      parent_read k.first run.parent k.before,
      counted_read run.characters k.second k.after,
    ) refl

-- runs of removals and of revivals

abbrev IdsForm : IdRun → List ℕ → Type 0
IdsForm run = IdForm run.id ⎵ IdForm run.first ⎵ Numeral 10 run.count

ids_form : (fields : List ℕ) (run : IdRun) → id_run_at fields ≡ Some run → IdsForm run fields
ids_form fields run e =
    let r = id_run_read fields run e in
    let inner : Joined 32 (IdForm run.first) (Numeral 10 run.count) r.others = record { first = r.named; second = r.number; whole = (split_takes 32 r.others r.named r.number r.behind).0; before = id_form r.named run.first r.first; after = number_takes 10 run.count r.number (omega arith) r.count } in
    record { first = r.own; second = r.others; whole = (split_takes 32 fields r.own r.others r.parts).0; before = id_form r.own run.id r.id; after = inner }

ids_read : (fields : List ℕ) (run : IdRun) → IdsForm run fields → id_run_at fields ≡ Some run
unfolding id_run_at
ids_read fields run j =
    let k = j.after in
    rw (
      joined_again 32 fields j (id_lacks 32 run.id j.first (omega arith) j.before),
      joined_again 32 j.second k (id_lacks 32 run.first k.first (omega arith) k.before),
      id_read j.first run.id j.before,
      id_read k.first run.first k.before,
      number_again 10 run.count k.second (omega arith) k.after,
    ) refl

-- lines

pub any_form : (text : List ℕ) (line : Line) → line_at text ≡ Some line → AnyForm line text
unfolding line_at
any_form text line e =
    let a = bind_some (split 32 text) (λ first. of_letter text first.0 first.1) line e in
    kinds a.0.0 a.0.1 (split_takes 32 text a.0.0 a.0.1 a.1).0 (bytes_eq a.0.0 (codes "r")) (bytes_eq a.0.0 (codes "d") && is_counted a.0.1) (bytes_eq a.0.0 (codes "v") && is_counted a.0.1) refl refl refl a.2
  where
    letter : (name word fields : List ℕ) → (bytes_eq name word && is_counted fields) ≡ true → name ≡ word
    letter name word fields f = same_bytes name word (and_parts (bytes_eq name word) (is_counted fields) f).0

    kinds : (name fields : List ℕ) → text ≡ name ␣ fields → (b d v : Bool) → bytes_eq name (codes "r") ≡ b → (bytes_eq name (codes "d") && is_counted fields) ≡ d → (bytes_eq name (codes "v") && is_counted fields) ≡ v
        → chosen text fields b d v ≡ Some line → AnyForm line text
    kinds name fields whole true d v f f2 f3 g =
        let b = bind_some (run_at fields) (λ run. Some (RunLine run)) line g in
        let same : RunLine b.0 ≡ line = cc (b.2) in
        let form : RunForm b.0 text = record { first = name; second = fields; whole = whole; before = same_bytes name (codes "r") f; after = run_form fields b.0 b.1 } in
        subst (λ (x : Line). AnyForm x text) same form
    kinds name fields whole false true v f f2 f3 g =
        let b = bind_some (id_run_at fields) (λ run. Some (Removals run)) line g in
        let same : Removals b.0 ≡ line = cc (b.2) in
        let form : IdRunForm (codes "d") b.0 text = record { first = name; second = fields; whole = whole; before = letter name (codes "d") fields f2; after = ids_form fields b.0 b.1 } in
        subst (λ (x : Line). AnyForm x text) same form
    kinds name fields whole false false true f f2 f3 g =
        let b = bind_some (id_run_at fields) (λ run. Some (Revivals run)) line g in
        let same : Revivals b.0 ≡ line = cc (b.2) in
        let form : IdRunForm (codes "v") b.0 text = record { first = name; second = fields; whole = whole; before = letter name (codes "v") fields f3; after = ids_form fields b.0 b.1 } in
        subst (λ (x : Line). AnyForm x text) same form
    kinds name fields whole false false false f f2 f3 g =
        let b = bind_some (op_at text) (λ op. Some (Operation op)) line g in
        let same : Operation b.0 ≡ line = cc (b.2) in
        subst (λ (x : Line). AnyForm x text) same (op_form text b.0 b.1)

pub any_read : (text : List ℕ) (line : Line) → AnyForm line text → line_at text ≡ Some line
unfolding line_at
any_read text (Operation op) h = op_line_read text op (op_read text op h)
any_read text (RunLine run) j = rw (lettered 114 text j refl, run_read j.second run j.after) refl
any_read text (Removals run) j = let e = ids_read j.second run j.after in rw (lettered 100 text j refl, id_run_counted j.second run e, e) refl
any_read text (Revivals run) j = let e = ids_read j.second run j.after in rw (lettered 118 text j refl, id_run_counted j.second run e, e) refl

pub line_form : (form : Form) (text : List ℕ) (line : Line) → line_in form text ≡ Some line → LineForm form line text
line_form form text line e = let h = in_takes form text line e in record { had = h.had; spelled = any_form text line h.read }

pub line_read : (form : Form) (text : List ℕ) (line : Line) → LineForm form line text → line_in form text ≡ Some line
line_read form text line h = rw (any_read text line h.spelled, h.had) refl

-- the first line

abbrev pub Header : Type 0
Header = Form × ℕ × ℕ

abbrev HeaderOf : Header → List ℕ → Type 0
HeaderOf h = HeaderForm h.0 h.1 h.2

pub form_takes : (word : List ℕ) (form : Form) → form_at word ≡ Some form → word ≡ form_text form
form_takes word form e = go (bytes_eq word (codes "change")) (bytes_eq word (codes "change2")) (bytes_eq word (codes "change3")) refl refl refl e where
  go : (a b c : Bool) → bytes_eq word (codes "change") ≡ a → bytes_eq word (codes "change2") ≡ b → bytes_eq word (codes "change3") ≡ c
      → cond a (Some First) (cond b (Some Second) (cond c (Some Third) None)) ≡ Some form → word ≡ form_text form
  go true b c f g h e = let same : First ≡ form = cc in same_bytes word (codes "change") f ∙ ap form_text same
  go false true c f g h e = let same : Second ≡ form = cc in same_bytes word (codes "change2") g ∙ ap form_text same
  go false false true f g h e = let same : Third ≡ form = cc in same_bytes word (codes "change3") h ∙ ap form_text same
  go false false false f g h e = absurd cc

pub form_again : (form : Form) → form_at (form_text form) ≡ Some form
form_again First = refl
form_again Second = refl
form_again Third = refl

pub form_lacks : (mark : ℕ) (form : Form) → mark < 33 → Lacks mark (form_text form)
form_lacks mark First s = lacks_printed mark (codes "change") s refl
form_lacks mark Second s = lacks_printed mark (codes "change2") s refl
form_lacks mark Third s = lacks_printed mark (codes "change3") s refl

form_word : (form : Form) (word : List ℕ) → word ≡ form_text form → FormWord form word
form_word First word e = e
form_word Second word e = e
form_word Third word e = e

word_form : (form : Form) (word : List ℕ) → FormWord form word → word ≡ form_text form
word_form First word e = e
word_form Second word e = e
word_form Third word e = e

pub header_form : (line : List ℕ) (h : Header) → header_at line ≡ Some h → HeaderForm h.0 h.1 h.2 line
unfolding header_at
header_form line h e =
    let a = bind_some (split 32 line) (λ first. split 32 first.1 >>= λ second. form_at first.0 >>= λ form. number_in 10 second.0 >>= λ node. number_in 10 second.1 >>= λ count. made form node count) h e in
    let b = bind_some (split 32 a.0.1) (λ second. form_at a.0.0 >>= λ form. number_in 10 second.0 >>= λ node. number_in 10 second.1 >>= λ count. made form node count) h a.2 in
    let f = bind_some (form_at a.0.0) (λ form. number_in 10 b.0.0 >>= λ node. number_in 10 b.0.1 >>= λ count. made form node count) h b.2 in
    let c = bind_some (number_in 10 b.0.0) (λ node. number_in 10 b.0.1 >>= λ count. made f.0 node count) h f.2 in
    let d = bind_some (number_in 10 b.0.1) (λ count. made f.0 c.0 count) h c.2 in
    let read : Header = (f.0, c.0, d.0) in
    let same : read ≡ h = some_header read h d.2 in
    let inner : Joined 32 (Numeral 10 c.0) (Numeral 10 d.0) a.0.1 = record { first = b.0.0; second = b.0.1; whole = (split_takes 32 a.0.1 b.0.0 b.0.1 b.1).0; before = number_takes 10 c.0 b.0.0 (omega arith) c.1; after = number_takes 10 d.0 b.0.1 (omega arith) d.1 } in
    let form : HeaderOf read line = record { first = a.0.0; second = a.0.1; whole = (split_takes 32 line a.0.0 a.0.1 a.1).0; before = form_word f.0 a.0.0 (form_takes a.0.0 f.0 f.1); after = inner } in
    subst (λ (x : Header). HeaderOf x line) same form
  where
    made : Form → ℕ → ℕ → Option Header
    made form node count = Some (form, node, count)

    some_header : (x y : Header) → Some x ≡ Some y → x ≡ y
    some_header x y e = cc

pub header_read : (line : List ℕ) (form : Form) (node count : ℕ) → HeaderForm form node count line → header_at line ≡ Some (form, node, count)
unfolding header_at
header_read line form node count j =
    let k = j.after in
    let word = word_form form j.first j.before in
    let one : split 32 line ≡ Some (form_text form, j.second) = ap (split 32) (j.whole ∙ ap (λ (x : List ℕ). x ++ 32 ∷ j.second) word) ∙ split_again 32 (form_text form) j.second (form_lacks 32 form (omega arith)) in
    let two = joined_again 32 j.second k (decimal_lacks 32 node k.first (omega arith) k.before) in
    rw (one, two, form_again form, number_again 10 node k.first (omega arith) k.before, number_again 10 count k.second (omega arith) k.after) refl

pub lines_are_forms : LinesAreForms
lines_are_forms form text line = (line_form form text line, line_read form text line)

pub headers_are_forms : HeadersAreForms
headers_are_forms line form node count = (header_form line (form, node, count), header_read line form node count)
