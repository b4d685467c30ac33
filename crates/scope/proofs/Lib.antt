-- What is proved about the definitions of specs/; docs/PROMISES.md lists every law with its meaning. A file uses those above it only.
-- worked-out cases
pub mod Computed
pub mod Samples
pub mod Calls
pub mod Refused
pub mod Sizes
pub mod Slips
-- refusals, and what a taken book gives
pub mod Verdicts
pub mod Tests
pub mod GivenExactlyWhen
pub mod Lists
pub mod TakenBook
-- what is said from the lowest routine up; depth, steady and the calls' refusals in plain words
pub mod Lowest
pub mod Depth
pub mod Steady
pub mod SteadyWords
pub mod GivenByCalls
pub mod Answers
pub mod NoDepth
-- the flat machine is source document 000's
pub mod Registers
pub mod Ram
pub mod StepIsRam
pub mod RunExactly
pub mod TakenProgram
pub mod RunAnswers
-- the flat run ends as the nested reading says, and the quote is enough
pub mod FlatLines
pub mod Moves
pub mod Places
pub mod Lockstep
pub mod Simulation
pub mod QuoteEnough
-- what flattening writes is a book again
pub mod OneRoutine
pub mod WrittenBook
pub mod FlatBook
pub mod Flattened
