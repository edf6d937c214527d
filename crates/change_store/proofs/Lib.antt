mod InsertedLemmas
mod MakingLemmas
mod ReadingLemmas
mod SchemaLemmas
mod StoreLemmas
