mod MemberLemmas
mod Tails
mod LawfulLemmas
mod LengthLemmas
mod WrittenLemmas
mod TextLemmas
pub mod SealedLemmas
mod ReadLemmas
