pub mod Sets
mod EntryLemmas
mod PathLemmas
mod Parting
mod MethodLemmas
mod NameLemmas
mod TextLemmas
mod Grants
mod SameScope
mod LookupLemmas
mod Spelled
mod SharedPaths
mod KeptLemmas
mod OrderLemmas
mod InOrder
mod BelowLemmas
