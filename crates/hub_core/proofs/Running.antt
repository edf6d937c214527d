-- One event more in a run.
use Rattle.std.specs.Result.{OnOk, is_err}
use Rattle.std.proofs.Common.{Result, Ok, Err, false, true≢false, ◌≡◌, List, [], ◌∷◌, ◌++◌, length, refl, sym, ap, ◌∙◌, subst, append_assoc, append-nil, arith}
use Rattle.std.specs.List.{flat_map}
use Rattle.std.proofs.lemmas.List.Concat.{flat_map-append}
use Rattle.semantics.specs.Step.{Program}
use Rattle.span_flatten.specs.Version.{Version}
use Rattle.version_history.specs.Tokens.{Token}
use Rattle.feeds.specs.Batches.{Item, Job}
use Rattle.hub_core.specs.declared.run.Event.{Event}
use Rattle.hub_core.specs.declared.run.Reply.{Reply}
use Rattle.hub_core.specs.Machine.{Core}
use Rattle.hub_core.specs.Runs.{Happens, IsRun, AppendsRun, handed_by}

pub nothing_left : {X : Type 0} (l : List X) → length l ≡ 0 → l ≡ []
nothing_left [] h = refl
nothing_left (x ∷ xs) h = absurd (omega arith)

-- what a call promises of its success, where it succeeded
pub on_ok : {T E : Type 0} (r : Result T E) (P : Type 0) → false ≡ is_err r → OnOk r P → P
on_ok (Ok x) P e h = h
on_ok (Err x) P e h = absurd (true≢false (sym e))

module _ {S : Type 0} (sent : S → List Item) (full : S → Type 0) (closed_sink bare : S → S) where
  run_more : (s m m' : Core S) (jobs : List Job) (es : List (Event (Token Program) S)) (rs : List (Reply (Token Version) Job)) (e : Event (Token Program) S) (r : Reply (Token Version) Job)
      → IsRun sent full closed_sink bare s jobs es rs m → Happens sent full closed_sink bare m (jobs ++ flat_map handed_by rs) e r m' → IsRun sent full closed_sink bare s jobs (es ++ e ∷ []) (rs ++ r ∷ []) m'
  run_more s m m' jobs [] [] e r run h =
      (m', subst (λ (x : Core S × List Job). Happens sent full closed_sink bare x.0 x.1 e r m') (λ i. (run i, append-nil jobs i)) h, refl)
  run_more s m m' jobs [] (r1 ∷ rs) e r run h = absurd run
  run_more s m m' jobs (e1 ∷ es) [] e r run h = absurd run
  run_more s m m' jobs (e1 ∷ es) (r1 ∷ rs) e r run h = (
    run.0,
    run.1,
    run_more run.0 m m' (jobs ++ handed_by r1) es rs e r run.2
        (subst (λ l. Happens sent full closed_sink bare m l e r m') (sym (append_assoc jobs (handed_by r1) (flat_map handed_by rs))) h),
  )

  -- so far: the replies that were added, the jobs that they hand out, and the run that they are of
  pub record Ran (before replies : List (Reply (Token Version) Job)) (jobs : List Job) (start : Core S) (done : List (Event (Token Program) S)) (now : Core S) : Type 0 where
    pub added : List (Reply (Token Version) Job)
    pub replies_are : replies ≡ before ++ added
    pub jobs_are : jobs ≡ flat_map handed_by added
    pub run : IsRun sent full closed_sink bare start [] done added now

  pub ran_none : (before : List (Reply (Token Version) Job)) (jobs : List Job) (start : Core S) → jobs ≡ [] → Ran before before jobs start [] start
  ran_none before jobs start none = record { added = []; replies_are = sym (append-nil before); jobs_are = none; run = refl }

  pub ran_more : (before replies replies' : List (Reply (Token Version) Job)) (jobs jobs' : List Job) (start now now' : Core S) (done : List (Event (Token Program) S)) (e : Event (Token Program) S) (r : Reply (Token Version) Job)
      → Ran before replies jobs start done now → Happens sent full closed_sink bare now jobs e r now' → jobs' ≡ jobs ++ handed_by r → replies' ≡ replies ++ r ∷ []
      → Ran before replies' jobs' start (done ++ e ∷ []) now'
  ran_more before replies replies' jobs jobs' start now now' done e r ran h jobs_more replies_more = record {
    added = ran.added ++ r ∷ [];
    replies_are = replies_more ∙ ap (λ l. l ++ r ∷ []) ran.replies_are ∙ append_assoc before ran.added (r ∷ []);
    jobs_are = jobs_more ∙ ap (λ l. l ++ handed_by r) ran.jobs_are ∙ ap (λ l. flat_map handed_by ran.added ++ l) (sym (append-nil (handed_by r))) ∙ sym (flat_map-append handed_by ran.added (r ∷ []));
    run = run_more start now now' [] done ran.added e r ran.run (subst (λ l. Happens sent full closed_sink bare now l e r now') ran.jobs_are h);
  }

  pub ran_all : (before old after : List (Reply (Token Version) Job)) (jobs : List Job) (start now : Core S) (done events : List (Event (Token Program) S))
      → Ran old after jobs start done now → old ≡ before → done ≡ events → AppendsRun sent full closed_sink bare before start events after now
  ran_all before old after jobs start now done events ran same all = record {
    added = ran.added;
    appended = ran.replies_are ∙ ap (λ l. l ++ ran.added) same;
    run = subst (λ es. IsRun sent full closed_sink bare start [] es ran.added now) all ran.run;
  }
