mod CaseForms
mod LineByLine
mod Links
mod Quotes
mod Saying
mod Splits
