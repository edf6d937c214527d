-- Changes that a hub accepts, one after another, and their texts.
use Rattle.std.proofs.Common.{◌≡◌, ℕ, List, [], ◌∷◌, ◌++◌, Ok, length, map, get_or, drop, refl, sym, ap, ◌∙◌, subst, arith, append-nil}
use Rattle.std.specs.List.{AllByRecursion}
use Rattle.change_ops.specs.Changes.{Change, IsChange}
use Rattle.change_ops.specs.declared.size.Size.{Size}
use Rattle.change_ops.specs.Spelling.{change_text, Spells}
use Rattle.change_ops.proofs.ChangeLaws.{no_other}
use Rattle.stored_history.specs.Texts.{IsTextOf}
use Rattle.core_history.specs.Shares.{accepted_count}
use Rattle.core_history.specs.Hubs.{Seen}
use Rattle.ingest_workers.specs.Holdings.{Ingests}
use Rattle.hub_restoring.specs.Restoring.{AreIngested, AreRestored}

-- one more behind others
ingested_more : (size : Size) (v : Seen) (changes : List Change) (change : Change) (u w : Seen) → AreIngested size v changes u → Ingests size u change (Ok (accepted_count w)) w → AreIngested size v (changes ++ change ∷ []) w
ingested_more size v [] change u w are is = (w, subst (λ (z : Seen). Ingests size z change (Ok (accepted_count w)) w) are is, refl)
ingested_more size v (first ∷ changes) change u w are is = (are.0, are.1, ingested_more size are.0 changes change u w are.2 is)

pub nothing_left : {X : Type 0} (l : List X) → length l ≡ 0 → l ≡ []
nothing_left [] none = refl
nothing_left (x ∷ xs) none = absurd (omega (arith, none))

-- a text is of one change alone
pub only_change : (text : List ℕ) (one other : Change) → Spells text one [] → IsTextOf text other → one ≡ other
only_change text one other is spelled = (no_other one other [] [] is.0 spelled.0 (sym is.1 ∙ spelled.1 ∙ sym (append-nil (change_text other)))).0

-- the last of texts is that of the last change
record IsLast (changes : List Change) (texts : List (List ℕ)) (text : List ℕ) : Type 0 where
  before : List Change
  change : Change
  all : changes ≡ before ++ change ∷ []
  texts_before : texts ≡ map change_text before
  valid : AllByRecursion IsChange before
  spelled : IsTextOf text change

first_text : (text other : List ℕ) (texts others : List (List ℕ)) → text ∷ texts ≡ other ∷ others → (text ≡ other) × (texts ≡ others)
first_text text other texts others same = (ap (λ (l : List (List ℕ)). get_or l 0 []) same, ap (λ (l : List (List ℕ)). drop 1 l) same)

last_text : (changes : List Change) (texts : List (List ℕ)) (text : List ℕ) → texts ++ text ∷ [] ≡ map change_text changes → AllByRecursion IsChange changes → IsLast changes texts text
last_text [] [] text same valid = absurd (omega (arith, ap length same))
last_text [] (first ∷ texts) text same valid = absurd (omega (arith, ap length same))
last_text (change ∷ []) [] text same valid = record { before = []; change = change; all = refl; texts_before = refl; valid = tt; spelled = (valid.0, (first_text text (change_text change) [] [] same).0) }
last_text (change ∷ other ∷ changes) [] text same valid = absurd (omega (arith, ap length same))
last_text (change ∷ changes) (first ∷ texts) text same valid =
    let both = first_text first (change_text change) (texts ++ text ∷ []) (map change_text changes) same in
    let last = last_text changes texts text both.1 valid.1 in
    record {
      before = change ∷ last.before;
      change = last.change;
      all = ap (λ cs. change ∷ cs) last.all;
      texts_before = ap (λ t. t ∷ texts) both.0 ∙ ap (λ ts. change_text change ∷ ts) last.texts_before;
      valid = (valid.0, last.valid);
      spelled = last.spelled;
    }

pub restored_none : (size : Size) (v : Seen) → AreRestored size v [] v
restored_none size v [] same valid = refl
restored_none size v (change ∷ changes) same valid = absurd (omega (arith, ap length same))

-- one more text behind others
pub restored_more : (size : Size) (v : Seen) (texts : List (List ℕ)) (text : List ℕ) (u w : Seen) → AreRestored size v texts u → ((change : Change) → IsTextOf text change → Ingests size u change (Ok (accepted_count w)) w) → AreRestored size v (texts ++ text ∷ []) w
restored_more size v texts text u w are is = λ changes same valid.
    let last = last_text changes texts text same valid in
    subst (λ (cs : List Change). AreIngested size v cs w) (sym last.all) (ingested_more size v last.before last.change u w (are last.before last.texts_before last.valid) (is last.change last.spelled))
