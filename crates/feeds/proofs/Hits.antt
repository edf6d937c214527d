-- Verdicts, and how many there are.
use Rattle.std.proofs.Common.{◌≡◌, ℕ, ◌≤◌, List, [], ◌∷◌, ◌++◌, length, map, drop, sym, ap, ◌∙◌}
use Rattle.std.specs.List.{enumerate_from}
use Rattle.std.proofs.lemmas.List.{length-map, map-append, append-nil, drop_all}
use Rattle.std.proofs.lemmas.List.FromFn.{length-enumerate_from}
use Rattle.span_context.specs.Context.{span_bytes}
use Rattle.semantics.specs.Step.{Program}
use Rattle.semantics.specs.declared.Outcome.TheVariants.{Done}
use Rattle.filters.specs.Filters.{whole_outcome}
use Rattle.span_flatten.specs.Version.{Version}
use Rattle.span_view.specs.Views.{SpanView, view_of, views}
use Rattle.span_view.specs.ContextOf.{context_of, link_of}
use Rattle.version_history.specs.Tokens.{Token}
use Rattle.feeds.specs.declared.item.Finding.TheVariants.{End}
use Rattle.feeds.specs.Batches.{Item, item_of, hits_from, items_of}
use Rattle.feeds.specs.Verdicts.{number_of, verdict_on, verdicts_of}

pub verdict_is : (program : Program) (span : SpanView) (context text link : List ℕ) (value : ℕ) → context ≡ context_of span → text ≡ span.text
    → link ≡ link_of span → whole_outcome program (span_bytes context text link) ≡ Done value → value ≡ verdict_on program span
unfolding verdict_on
verdict_is program span context text link value c t l v =
    sym (ap number_of (ap (λ (x : List ℕ × List ℕ × List ℕ). whole_outcome program (span_bytes x.0 x.1 x.2)) (λ i. (sym c i, sym t i, sym l i)) ∙ v))

pub verdict_count : (program : Program) (version : Version) → length (verdicts_of program version) ≡ length version.rows
verdict_count program version =
    length-map (views version) (verdict_on program) ∙ length-map (enumerate_from 0 version.rows) (λ indexed. view_of version indexed.0 indexed.1)
    ∙ length-enumerate_from 0 version.rows

-- the hits of all verdicts, and the end, are the batch
pub batch_whole : (before all : List Item) (p : Token Program) (v : Token Version) (verdicts : List ℕ) (number spans span : ℕ)
    → verdicts ≡ verdicts_of p.value v.value → number ≡ v.value.number → spans ≡ length v.value.rows → length verdicts ≤ span
    → before ++ map (item_of p v) (hits_from number span (drop span verdicts)) ≡ map (item_of p v) (hits_from number 0 verdicts)
    → all ≡ before ++ item_of p v (End number spans) ∷ [] → all ≡ items_of p v
batch_whole before all p v verdicts number spans span are n s past whole is =
    let none : drop span verdicts ≡ [] = drop_all span verdicts past in
    let hits : before ≡ map (item_of p v) (hits_from number 0 verdicts) =
    sym (append-nil before) ∙ ap (λ l. before ++ map (item_of p v) (hits_from number span l)) (sym none) ∙ whole in
    is ∙ ap (λ l. l ++ item_of p v (End number spans) ∷ []) hits ∙ sym (map-append (item_of p v) (hits_from number 0 verdicts) (End number spans ∷ []))
    ∙ ap (λ (x : ℕ × ℕ × List ℕ). map (item_of p v) (hits_from x.0 0 x.2 ++ End x.0 x.1 ∷ [])) (λ i. (n i, s i, are i))
