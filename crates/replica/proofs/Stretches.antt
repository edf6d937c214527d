-- Looking at several operations one after the other.
use Rattle.std.proofs.Common.{◌≡◌, ℕ, zero, suc, ◌+◌, List, [], ◌∷◌, ◌++◌, Some, None, Ok, Err, inl, inr, refl, sym, ap, ◌∙◌, subst, take, length, append_assoc}
use Rattle.std.specs.List.{slice_get}
use Rattle.std.proofs.lemmas.List.{append-nil}
use Rattle.std.proofs.lemmas.Option.{none-some, same_Some}
use Rattle.std.proofs.Math.Seq.{take-length}
use Rattle.change_ops.specs.declared.id.OpId.{OpId}
use Rattle.change_ops.specs.declared.operation.Op.{Op}
use Rattle.change_ops.specs.declared.line.Line.{Line}
use Rattle.change_ops.specs.Lines.{ops_of, ops_of_lines}
use Rattle.change_history.proofs.Chronicle.{take_push}
use Rattle.replica.specs.Messages.{Rises}
use Rattle.replica.specs.Knowing.{Knows, Passes, AllCausesAreThere, IsMissingAmong}
use Rattle.replica.specs.declared.known.Known.{Known}
use Rattle.replica.specs.declared.known.Blocked.{Blocked}
use Rattle.replica.specs.declared.known.Blocked.TheVariants.{Waits, OutOfMemory}
use Rattle.replica.proofs.Rising.{rises_more, rises_not}

-- ---- parts of lists
pub parted : {X : Type 0} (xs : List X) (i : ℕ) (x : X) → slice_get xs i ≡ Some x → (rest : List X) × (xs ≡ take i xs ++ ((x ∷ []) ++ rest))
parted [] i x g = absurd (none-some x g)
parted (y ∷ ys) zero x g = (ys, ap (λ z. z ∷ ys) (same_Some y x g))
parted (y ∷ ys) (suc i) x g = let r = parted ys i x g in (r.0, ap (λ zs. y ∷ zs) r.1)

pub lines_append : (first second : List Line) → ops_of_lines (first ++ second) ≡ ops_of_lines first ++ ops_of_lines second
unfolding ops_of_lines
lines_append [] second = refl
lines_append (line ∷ lines) second = ap (λ (ops : List Op). ops_of line ++ ops) (lines_append lines second) ∙ sym (append_assoc (ops_of line) (ops_of_lines lines) (ops_of_lines second))

pub line_alone : (line : Line) → ops_of_lines (line ∷ []) ≡ ops_of line
unfolding ops_of_lines
line_alone line = append-nil (ops_of line)

pub lines_next : (lines : List Line) (i : ℕ) (line : Line) → slice_get lines i ≡ Some line → ops_of_lines (take (i + 1) lines) ≡ ops_of_lines (take i lines) ++ ops_of line
lines_next lines i line g =
    ap ops_of_lines (take_push lines i line g) ∙ lines_append (take i lines) (line ∷ []) ∙ ap (λ (ops : List Op). ops_of_lines (take i lines) ++ ops) (line_alone line)

pub lines_parted : (lines : List Line) (i : ℕ) (line : Line) → slice_get lines i ≡ Some line → (rest : List Op) × (ops_of_lines lines ≡ ops_of_lines (take i lines) ++ (ops_of line ++ rest))
lines_parted lines i line g =
    let r = parted lines i line g in
    (ops_of_lines r.0, ap ops_of_lines r.1 ∙ lines_append (take i lines) ((line ∷ []) ++ r.0) ∙ ap (λ (ops : List Op). ops_of_lines (take i lines) ++ ops) (lines_append (line ∷ []) r.0 ∙ ap (λ (ops : List Op). ops ++ ops_of_lines r.0) (line_alone line)))

-- ---- counters that rise
pub risen_next : (previous last next i : ℕ) (ops : List Op) (op : Op) → slice_get ops i ≡ Some op → Rises previous (take i ops) (Some last) → Rises last (op ∷ []) (Some next) → Rises previous (take (i + 1) ops) (Some next)
risen_next previous last next i ops op here so_far now = subst (λ (xs : List Op). Rises previous xs (Some next)) (sym (take_push ops i op here)) (rises_more previous last next (take i ops) (op ∷ []) so_far now)

pub risen_stop : (previous last i : ℕ) (ops : List Op) (op : Op) → slice_get ops i ≡ Some op → Rises previous (take i ops) (Some last) → Rises last (op ∷ []) None → Rises previous ops None
risen_stop previous last i ops op here so_far not = let r = parted ops i op here in subst (λ (xs : List Op). Rises previous xs None) (sym r.1) (rises_not previous last (take i ops) (op ∷ []) r.0 so_far not)

pub risen_all : (previous last i : ℕ) (ops : List Op) → i ≡ length ops → Rises previous (take i ops) (Some last) → Rises previous ops (Some last)
risen_all previous last i ops whole so_far = subst (λ (xs : List Op). Rises previous xs (Some last)) (ap (λ n. take n ops) whole ∙ take-length ops) so_far

pub lines_risen_next : (previous last next i : ℕ) (lines : List Line) (line : Line) → slice_get lines i ≡ Some line → Rises previous (ops_of_lines (take i lines)) (Some last) → Rises last (ops_of line) (Some next) → Rises previous (ops_of_lines (take (i + 1) lines)) (Some next)
lines_risen_next previous last next i lines line here so_far now = subst (λ (xs : List Op). Rises previous xs (Some next)) (sym (lines_next lines i line here)) (rises_more previous last next (ops_of_lines (take i lines)) (ops_of line) so_far now)

pub lines_risen_stop : (previous last i : ℕ) (lines : List Line) (line : Line) → slice_get lines i ≡ Some line → Rises previous (ops_of_lines (take i lines)) (Some last) → Rises last (ops_of line) None → Rises previous (ops_of_lines lines) None
lines_risen_stop previous last i lines line here so_far not = let r = lines_parted lines i line here in subst (λ (xs : List Op). Rises previous xs None) (sym r.1) (rises_not previous last (ops_of_lines (take i lines)) (ops_of line) r.0 so_far not)

pub lines_risen_all : (previous last i : ℕ) (lines : List Line) → i ≡ length lines → Rises previous (ops_of_lines (take i lines)) (Some last) → Rises previous (ops_of_lines lines) (Some last)
lines_risen_all previous last i lines whole so_far = subst (λ (ls : List Line). Rises previous (ops_of_lines ls) (Some last)) (ap (λ n. take n lines) whole ∙ take-length lines) so_far

-- ---- causes that are there
pub causes_append : (ops xs ys : List Op) → AllCausesAreThere ops xs → AllCausesAreThere (ops ++ xs) ys → AllCausesAreThere ops (xs ++ ys)
causes_append ops [] ys first second = subst (λ (zs : List Op). AllCausesAreThere zs ys) (append-nil ops) second
causes_append ops (x ∷ xs) ys first second = (first.0, causes_append (ops ++ x ∷ []) xs ys first.1 (subst (λ (zs : List Op). AllCausesAreThere zs ys) (sym (append_assoc ops (x ∷ []) xs)) second))

pub missing_front : (ops xs ys : List Op) (id : OpId) → IsMissingAmong ops xs id → IsMissingAmong ops (xs ++ ys) id
missing_front ops [] ys id m = absurd m
missing_front ops (x ∷ xs) ys id (inl here) = inl here
missing_front ops (x ∷ xs) ys id (inr there) = inr (missing_front (ops ++ x ∷ []) xs ys id there)

pub missing_behind : (ops xs ys : List Op) (id : OpId) → IsMissingAmong (ops ++ xs) ys id → IsMissingAmong ops (xs ++ ys) id
missing_behind ops [] ys id m = subst (λ (zs : List Op). IsMissingAmong zs ys id) (append-nil ops) m
missing_behind ops (x ∷ xs) ys id m = inr (missing_behind (ops ++ x ∷ []) xs ys id (subst (λ (zs : List Op). IsMissingAmong zs ys id) (sym (append_assoc ops (x ∷ []) xs)) m))

pub passes_none : (known : Known) → Passes [] known known (Ok tt)
passes_none known = λ ops knows. (tt, subst (λ (xs : List Op). Knows xs known) (sym (append-nil ops)) knows)

pub passes_more : (xs ys : List Op) (old mid new : Known) → Passes xs old mid (Ok tt) → Passes ys mid new (Ok tt) → Passes (xs ++ ys) old new (Ok tt)
passes_more xs ys old mid new first second = λ ops knows.
    let one = first ops knows in
    let two = second (ops ++ xs) one.1 in
    (causes_append ops xs ys one.0 two.0, subst (λ (zs : List Op). Knows zs new) (append_assoc ops xs ys) two.1)

pub passes_not : (xs ys zs : List Op) (old mid new new' : Known) (error : Blocked) → Passes xs old mid (Ok tt) → Passes ys mid new (Err error) → Passes (xs ++ (ys ++ zs)) old new' (Err error)
passes_not xs ys zs old mid new new' (Waits id) first not = λ ops knows.
    let one = first ops knows in
    missing_behind ops xs (ys ++ zs) id (missing_front (ops ++ xs) ys zs id (not (ops ++ xs) one.1))
passes_not xs ys zs old mid new new' OutOfMemory first not = tt

pub pass_next : (i : ℕ) (ops : List Op) (op : Op) (old mid new : Known) → slice_get ops i ≡ Some op → Passes (take i ops) old mid (Ok tt) → Passes (op ∷ []) mid new (Ok tt) → Passes (take (i + 1) ops) old new (Ok tt)
pass_next i ops op old mid new here so_far now = subst (λ (xs : List Op). Passes xs old new (Ok tt)) (sym (take_push ops i op here)) (passes_more (take i ops) (op ∷ []) old mid new so_far now)

pub pass_stop : (i : ℕ) (ops : List Op) (op : Op) (old mid new new' : Known) (error : Blocked) → slice_get ops i ≡ Some op → Passes (take i ops) old mid (Ok tt) → Passes (op ∷ []) mid new (Err error) → Passes ops old new' (Err error)
pass_stop i ops op old mid new new' error here so_far not = let r = parted ops i op here in subst (λ (xs : List Op). Passes xs old new' (Err error)) (sym r.1) (passes_not (take i ops) (op ∷ []) r.0 old mid new new' error so_far not)

pub pass_whole : (i : ℕ) (ops : List Op) (old new : Known) → i ≡ length ops → Passes (take i ops) old new (Ok tt) → Passes ops old new (Ok tt)
pass_whole i ops old new whole so_far = subst (λ (xs : List Op). Passes xs old new (Ok tt)) (ap (λ n. take n ops) whole ∙ take-length ops) so_far

pub lines_pass_next : (i : ℕ) (lines : List Line) (line : Line) (old mid new : Known) → slice_get lines i ≡ Some line → Passes (ops_of_lines (take i lines)) old mid (Ok tt) → Passes (ops_of line) mid new (Ok tt) → Passes (ops_of_lines (take (i + 1) lines)) old new (Ok tt)
lines_pass_next i lines line old mid new here so_far now = subst (λ (xs : List Op). Passes xs old new (Ok tt)) (sym (lines_next lines i line here)) (passes_more (ops_of_lines (take i lines)) (ops_of line) old mid new so_far now)

pub lines_pass_stop : (i : ℕ) (lines : List Line) (line : Line) (old mid new new' : Known) (error : Blocked) → slice_get lines i ≡ Some line → Passes (ops_of_lines (take i lines)) old mid (Ok tt) → Passes (ops_of line) mid new (Err error) → Passes (ops_of_lines lines) old new' (Err error)
lines_pass_stop i lines line old mid new new' error here so_far not = let r = lines_parted lines i line here in subst (λ (xs : List Op). Passes xs old new' (Err error)) (sym r.1) (passes_not (ops_of_lines (take i lines)) (ops_of line) r.0 old mid new new' error so_far not)

pub lines_pass_whole : (i : ℕ) (lines : List Line) (old new : Known) → i ≡ length lines → Passes (ops_of_lines (take i lines)) old new (Ok tt) → Passes (ops_of_lines lines) old new (Ok tt)
lines_pass_whole i lines old new whole so_far = subst (λ (ls : List Line). Passes (ops_of_lines ls) old new (Ok tt)) (ap (λ n. take n lines) whole ∙ take-length lines) so_far

pub none_passed : (known : Known) → Passes (ops_of_lines []) known known (Ok tt)
unfolding ops_of_lines
none_passed known = passes_none known

pub none_risen : (previous : ℕ) → Rises previous (ops_of_lines []) (Some previous)
unfolding ops_of_lines
none_risen previous = (tt, refl, inl refl)
