-- What a version that was judged gives.
use Rattle.std.proofs.Common.{◌≡◌, ℕ, suc, ◌+◌, ◌<◌, ◌≤◌, ◌==◌, Bool, true, false, cond, List, [], ◌∷◌, ◌++◌, length, map, drop, get_or, refl, sym, ap, ◌∙◌, subst, arith}
use Rattle.std.specs.Prelude.{IsTrue, ◌↔◌, Option, None, Some, MatchOption}
use Rattle.std.proofs.Math.Seq.{drop-cons}
use Rattle.std.proofs.lemmas.Bool.{false≢true}
use Rattle.std.proofs.lemmas.Bool.Decides.{nat_tests}
use Rattle.std.proofs.lemmas.List.{drop_all}
use Rattle.semantics.specs.Step.{Program}
use Rattle.span_flatten.specs.Version.{Version}
use Rattle.version_history.specs.Tokens.{Token}
use Rattle.feeds.specs.declared.item.Finding.{Finding}
use Rattle.feeds.specs.declared.item.Finding.TheVariants.{Hit, End}
use Rattle.feeds.specs.Batches.{Item, item_of, batch_of, hits_from}
use Rattle.feeds.specs.Verdicts.{verdicts_of}
use Rattle.feeds.proofs.Hits.{verdict_count}

-- nothing given yet, it has the whole batch
pub batch_is : (program : Program) (version : Version) (number : ℕ) (verdicts : List ℕ) → number ≡ version.number → verdicts ≡ verdicts_of program version
    → hits_from number 0 verdicts ++ End number (length verdicts) ∷ [] ≡ batch_of program version
batch_is program version number verdicts n are =
    let count : length verdicts ≡ length version.rows = ap length are ∙ verdict_count program version in
    ap (λ (x : ℕ × List ℕ × ℕ). hits_from x.0 0 x.1 ++ End x.0 x.2 ∷ []) (λ i. (n i, are i, count i))

-- a span more is looked at
step : (number span : ℕ) (verdicts : List ℕ) (x d : ℕ) → span < length verdicts → x ≡ get_or verdicts span d
    → hits_from number span (drop span verdicts) ≡ cond (x == 0) (hits_from number (span + 1) (drop (span + 1) verdicts)) (Hit number span x ∷ hits_from number (span + 1) (drop (span + 1) verdicts))
step number span verdicts x d within read =
    let next : suc span ≡ span + 1 = omega arith in
    ap (hits_from number span) (drop-cons verdicts span d within ∙ ap (λ y. y ∷ drop (suc span) verdicts) (sym read))
    ∙ ap (λ k. cond (x == 0) (hits_from number (span + 1) (drop k verdicts)) (Hit number span x ∷ hits_from number (span + 1) (drop k verdicts))) next

pub step_none : (number span : ℕ) (verdicts : List ℕ) (x d : ℕ) → span < length verdicts → x ≡ get_or verdicts span d → (x == 0) ≡ true
    → hits_from number span (drop span verdicts) ≡ hits_from number (span + 1) (drop (span + 1) verdicts)
step_none number span verdicts x d within read zero_verdict =
    let rest = hits_from number (span + 1) (drop (span + 1) verdicts) in
    step number span verdicts x d within read ∙ ap (λ b. cond b rest (Hit number span x ∷ rest)) zero_verdict

pub step_hit : (number span : ℕ) (verdicts : List ℕ) (x d : ℕ) → span < length verdicts → x ≡ get_or verdicts span d → (x == 0) ≡ false
    → hits_from number span (drop span verdicts) ≡ Hit number span x ∷ hits_from number (span + 1) (drop (span + 1) verdicts)
step_hit number span verdicts x d within read some_verdict =
    let rest = hits_from number (span + 1) (drop (span + 1) verdicts) in
    step number span verdicts x d within read ∙ ap (λ b. cond b rest (Hit number span x ∷ rest)) some_verdict

pub not_zero : (x : ℕ) → ¬ (x ≡ 0) → (x == 0) ≡ false
not_zero x isnt = grind (arith, nat_tests, isnt)

pub none_past : (number span : ℕ) (verdicts : List ℕ) → length verdicts ≤ span → hits_from number span (drop span verdicts) ≡ []
none_past number span verdicts past = ap (hits_from number span) (drop_all span verdicts past)

map_none : {A B : Type 0} (f : A → B) (xs : List A) → map f xs ≡ [] → xs ≡ []
map_none f [] e = refl
map_none f (x ∷ xs) e = absurd cc

-- where something is pending it isn't over
pub not_over : (over : Bool) (found : List Finding) (program : Token Program) (version : Token Version) → (IsTrue over ↔ (found ≡ [])) → over ≡ false → map (item_of program version) found ≡ [] → ⊥
not_over over found program version told isnt none = false≢true (subst (λ b. IsTrue b) isnt (told.1 (map_none (item_of program version) found none)))

-- the same of the items of what is found
pub pending_given : (r : Option Finding) (program : Token Program) (version version' : Token Version) (old new : List Finding) (before : List Item) → version' ≡ version → before ≡ map (item_of program version) old
    → MatchOption r ((old ≡ []) × (new ≡ [])) (λ what. old ≡ what ∷ new)
    → MatchOption r ((before ≡ []) × (map (item_of program version') new ≡ [])) (λ what. (item : Item) × (item.what ≡ what) × (before ≡ item ∷ map (item_of program version') new))
pending_given None program version version' old new before same is h =
    (is ∙ ap (map (item_of program version)) h.0, ap (map (item_of program version')) h.1)
pending_given (Some what) program version version' old new before same is h =
    (item_of program version what, refl, is ∙ ap (map (item_of program version)) h ∙ ap (λ v. item_of program version what ∷ map (item_of program v) new) (sym same))
