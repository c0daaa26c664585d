mod FoundLemmas
mod PathLemmas
mod ScopeLemmas
mod SurveyLemmas
