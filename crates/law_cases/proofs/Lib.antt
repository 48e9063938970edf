-- Reading order. Each file says in its first line what it shows.
-- Tools: Tested (tests of small lists that compute), Valid (whether a small dossier is valid).
-- Witnesses, from the bottom of the rules up: BarCases, OrderCases, AnswerCases, PassCases,
-- BedCases, DayCases, ChainCases, PromiseCases, MarketCases, AutomaticCases, EveningCases,
-- ChangeCases.
-- Worked cases of definitions: DefinitionCases; of what is read: ReadCases.
pub mod AnswerCases
pub mod AutomaticCases
pub mod BarCases
pub mod BedCases
pub mod ChainCases
pub mod ChangeCases
pub mod DayCases
pub mod DefinitionCases
pub mod EveningCases
pub mod MarketCases
pub mod OrderCases
pub mod PassCases
pub mod PromiseCases
pub mod ReadCases
pub mod Tested
pub mod Valid
