-- Lemmas.
mod ProtectedLemmas
mod StructureLemmas
mod PartsLemmas
mod OpenLemmas
mod WritingLemmas
