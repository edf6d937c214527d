-- A line is read as what it spells, and spells what it is read as: an operation or a run of some kind.
use Rattle.std.proofs.Common.{◌≡◌, ℕ, suc, Bool, true, false, cond, List, [], ◌∷◌, length, Option, Some, None, refl, ap, subst, ◌∙◌}
use Rattle.std.specs.Prelude.{◌&&◌, codes, if◌then◌else◌}
use Rattle.std.specs.Str.{bytes_eq}
use Rattle.std.proofs.lemmas.Bool.{and_parts}
use Rattle.change_ops.specs.Ids.{OpId}
use Rattle.change_ops.specs.Words.{split}
use Rattle.change_ops.specs.Runs.{next_id, inserts_from}
use Rattle.change_ops.specs.Lines.{ops_of, line_within, line_has_characters, has_line}
use Rattle.change_ops.specs.Reading.{◌>>=◌, insert_at, remove_at, mark_at, unmark_at, revive_at, op_at, run_at, is_counted, id_run_at, line_at, line_in}
use Rattle.change_ops.specs.Spelling.{◌␣◌, op_text, line_text}
use Rattle.change_ops.specs.declared.operation.Op.{Op}
use Rattle.change_ops.specs.declared.line.Form.{Form}
use Rattle.change_ops.specs.declared.line.Line.{Line}
use Rattle.change_ops.specs.declared.line.Line.TheVariants.{Operation, Run, Removals, Revivals}
use Rattle.change_ops.proofs.Grammar.{Lacks, bind_some, split_takes}
use Rattle.change_ops.proofs.Phrases.{same_bytes}
use Rattle.change_ops.proofs.LineLaws.{kind, op_again, op_takes, op_lacks}
use Rattle.change_ops.proofs.RunLaws.{run_again, run_takes, run_lacks}
use Rattle.change_ops.proofs.IdRunOps.{removals_count, revivals_count}
use Rattle.change_ops.proofs.IdRunLaws.{removal_alone, revival_alone, id_run_counted, id_run_again, id_run_takes, id_run_lacks}

-- how many operations a run means
pub inserts_count : (cs : List ℕ) (id : OpId) (parent : Option OpId) → length (inserts_from id parent cs) ≡ length cs
unfolding inserts_from
inserts_count [] id parent = refl
inserts_count (c ∷ cs) id parent = ap suc (inserts_count cs (next_id id) (Some id))

-- and a line
abbrev pub meant_of : Line → ℕ
meant_of (Operation op) = 1
meant_of (Run run) = length run.characters
meant_of (Removals run) = run.count
meant_of (Revivals run) = run.count

pub ops_count : (line : Line) → length (ops_of line) ≡ meant_of line
ops_count (Operation op) = refl
ops_count (Run run) = inserts_count run.characters run.id run.parent
ops_count (Removals run) = removals_count run.count run.id run.first
ops_count (Revivals run) = revivals_count run.count run.id run.first

abbrev of_kind : List ℕ → List ℕ → Option Op
of_kind name fields = if bytes_eq name (codes "i") then insert_at fields else if bytes_eq name (codes "d") then remove_at fields else if bytes_eq name (codes "m") then mark_at fields else if bytes_eq name (codes "u") then unmark_at fields else if bytes_eq name (codes "v") then revive_at fields else None

-- an operation's line is no run's
record OpLine (text : List ℕ) : Type 0 where
  name : List ℕ
  fields : List ℕ
  parts : split 32 text ≡ Some (name, fields)
  other : bytes_eq name (codes "r") ≡ false
  one_removal : (bytes_eq name (codes "d") && is_counted fields) ≡ false
  one_revival : (bytes_eq name (codes "v") && is_counted fields) ≡ false

op_line : (text : List ℕ) (op : Op) → op_at text ≡ Some op → OpLine text
unfolding op_at
op_line text op e =
    let a = bind_some (split 32 text) (λ first. of_kind first.0 first.1) op e in
    record { name = a.0.0; fields = a.0.1; parts = a.1; other = go a.0.0 a.0.1 (bytes_eq a.0.0 (codes "r")) refl a.2; one_removal = removal a.0.0 a.0.1 (bytes_eq a.0.0 (codes "d")) refl a.2; one_revival = revival a.0.0 a.0.1 (bytes_eq a.0.0 (codes "v")) refl a.2 } where
      go : (name fields : List ℕ) (b : Bool) → bytes_eq name (codes "r") ≡ b → of_kind name fields ≡ Some op → b ≡ false
      go name fields true f g = let same : name ≡ codes "r" = same_bytes name (codes "r") f in absurd (let none : None ≡ Some op = rw same at g in cc)
      go name fields false f g = refl

      removal : (name fields : List ℕ) (b : Bool) → bytes_eq name (codes "d") ≡ b → of_kind name fields ≡ Some op → (b && is_counted fields) ≡ false
      removal name fields true f g = let same : name ≡ codes "d" = same_bytes name (codes "d") f in removal_alone fields op (rw same at g)
      removal name fields false f g = refl

      revival : (name fields : List ℕ) (b : Bool) → bytes_eq name (codes "v") ≡ b → of_kind name fields ≡ Some op → (b && is_counted fields) ≡ false
      revival name fields true f g = let same : name ≡ codes "v" = same_bytes name (codes "v") f in revival_alone fields op (rw same at g)
      revival name fields false f g = refl

pub op_line_read : (text : List ℕ) (op : Op) → op_at text ≡ Some op → line_at text ≡ Some (Operation op)
unfolding line_at
op_line_read text op e = let l = op_line text op e in rw (l.parts, l.other, l.one_removal, l.one_revival, e) refl

-- what a line is read as, by its kind
abbrev pub chosen : List ℕ → List ℕ → Bool → Bool → Bool → Option Line
chosen text fields run removals revivals =
    cond run (run_at fields >>= λ run. Some (Run run))
    (cond removals (id_run_at fields >>= λ run. Some (Removals run))
    (cond revivals (id_run_at fields >>= λ run. Some (Revivals run)) (op_at text >>= λ op. Some (Operation op))))

abbrev pub of_letter : List ℕ → List ℕ → List ℕ → Option Line
of_letter text name fields = chosen text fields (bytes_eq name (codes "r")) (bytes_eq name (codes "d") && is_counted fields) (bytes_eq name (codes "v") && is_counted fields)

pub line_again : (line : Line) → line_within line ≡ true → line_has_characters line ≡ true → line_at (line_text line) ≡ Some line
unfolding line_at
line_again (Operation op) h c = op_line_read (op_text op) op (op_again op h c)
line_again (Run run) h c = rw (kind 114 _ refl, run_again run h c) refl
line_again (Removals run) h c = let e = id_run_again run h in rw (kind 100 _ refl, id_run_counted _ run e, e) refl
line_again (Revivals run) h c = let e = id_run_again run h in rw (kind 118 _ refl, id_run_counted _ run e, e) refl

pub line_takes : (text : List ℕ) (line : Line) → line_at text ≡ Some line → line_within line ≡ true → line_has_characters line ≡ true → text ≡ line_text line
unfolding line_at
line_takes text line e h c =
    let a = bind_some (split 32 text) (λ first. of_letter text first.0 first.1) line e in
    kinds a.0.0 a.0.1 (split_takes 32 text a.0.0 a.0.1 a.1).0 (bytes_eq a.0.0 (codes "r")) (bytes_eq a.0.0 (codes "d") && is_counted a.0.1) (bytes_eq a.0.0 (codes "v") && is_counted a.0.1) refl refl refl a.2
  where
    letter : (name word fields : List ℕ) → (bytes_eq name word && is_counted fields) ≡ true → name ≡ word
    letter name word fields f = same_bytes name word (and_parts (bytes_eq name word) (is_counted fields) f).0

    kinds : (name fields : List ℕ) → text ≡ name ␣ fields → (b d v : Bool) → bytes_eq name (codes "r") ≡ b → (bytes_eq name (codes "d") && is_counted fields) ≡ d → (bytes_eq name (codes "v") && is_counted fields) ≡ v
        → chosen text fields b d v ≡ Some line → text ≡ line_text line
    kinds name fields whole true d v f f2 f3 g =
        let b = bind_some (run_at fields) (λ run. Some (Run run)) line g in
        let same : Run b.0 ≡ line = cc (b.2) in
        whole ∙ ap (λ (x : List ℕ). x ␣ fields) (same_bytes name (codes "r") f) ∙ run_takes fields b.0 b.1 (rw (← same) at h) (rw (← same) at c) ∙ ap line_text same
    kinds name fields whole false true v f f2 f3 g =
        let b = bind_some (id_run_at fields) (λ run. Some (Removals run)) line g in
        let same : Removals b.0 ≡ line = cc (b.2) in
        whole ∙ ap (λ (x : List ℕ). x ␣ fields) (letter name (codes "d") fields f2) ∙ id_run_takes (codes "d") fields b.0 b.1 (rw (← same) at h) ∙ ap line_text same
    kinds name fields whole false false true f f2 f3 g =
        let b = bind_some (id_run_at fields) (λ run. Some (Revivals run)) line g in
        let same : Revivals b.0 ≡ line = cc (b.2) in
        whole ∙ ap (λ (x : List ℕ). x ␣ fields) (letter name (codes "v") fields f3) ∙ id_run_takes (codes "v") fields b.0 b.1 (rw (← same) at h) ∙ ap line_text same
    kinds name fields whole false false false f f2 f3 g =
        let b = bind_some (op_at text) (λ op. Some (Operation op)) line g in
        let same : Operation b.0 ≡ line = cc (b.2) in
        op_takes text b.0 b.1 (rw (← same) at h) (rw (← same) at c) ∙ ap line_text same

pub line_lacks : (line : Line) → line_within line ≡ true → line_has_characters line ≡ true → Lacks 10 (line_text line)
line_lacks (Operation op) h c = op_lacks op h c
line_lacks (Run run) h c = run_lacks run h c
line_lacks (Removals run) h c = id_run_lacks 100 run refl h
line_lacks (Revivals run) h c = id_run_lacks 118 run refl h

-- of a form

pub in_again : (form : Form) (line : Line) → line_within line ≡ true → line_has_characters line ≡ true → has_line form line ≡ true → line_in form (line_text line) ≡ Some line
in_again form line h c f = rw (line_again line h c, f) refl

pub record Had (form : Form) (text : List ℕ) (line : Line) : Type 0 where
  pub read : line_at text ≡ Some line
  pub had : has_line form line ≡ true

pub in_takes : (form : Form) (text : List ℕ) (line : Line) → line_in form text ≡ Some line → Had form text line
in_takes form text line e =
    let a = bind_some (line_at text) (λ found. if has_line form found then Some found else None) line e in
    go a.0 a.1 (has_line form a.0) refl a.2
  where
    go : (found : Line) → line_at text ≡ Some found → (b : Bool) → has_line form found ≡ b → cond b (Some found) None ≡ Some line → Had form text line
    go found read true f g = let same : found ≡ line = cc in subst (Had form text) same (record { read = read; had = f })
    go found read false f g = absurd cc
