-- The laws, bottom up; each folder has the lemmas of one.
-- VerdictLemmas: What an accepted command's checks found, and what holds of its rows.
-- InvariantLemmas: What every change keeps: keys, references, staff, fees, and the order of the books.
-- MonthLemmas: Runs, months and the open run, whatever rows are added.
-- BalanceLemmas: How each step moves what a lease owes.
-- BatchLemmas: Batches, one after the other, lead to the same whole books.
-- CommutationLemmas: What is free, and an open run, in either order.
-- FrozenLemmas: What may be asked while a run is open, and what is refused because of it.
-- RepeatLemmas: What a command gets whose key was used.
-- ReceiptLemmas: A receipt that was acknowledged stays.
-- RunLemmas: A run or an opening that was acknowledged stays, and its month is charged.
-- ShownLemmas: The part rows of an open month tell which run is open, and how far it is.
-- StandingLemmas: The tables, and where the machine stands with them.
-- CommandLemmas: Commands that are answered, and interrupted ones that were carried out.
-- LifeLemmas: All lives, one after the other.
-- FactLemmas: What a command or a question looks at decides what it is answered.
pub mod VerdictLemmas
pub mod InvariantLemmas
pub mod MonthLemmas
pub mod BalanceLemmas
pub mod BatchLemmas
pub mod CommutationLemmas
pub mod FrozenLemmas
pub mod RepeatLemmas
pub mod ReceiptLemmas
pub mod RunLemmas
pub mod ShownLemmas
pub mod StandingLemmas
pub mod CommandLemmas
pub mod LifeLemmas
pub mod FactLemmas
pub mod MapMerges
