-- The laws of the definitions and, over them, demand 3. Each file comes after those that it leans on.
-- Lists.
pub mod Tests
pub mod NamesInOrder
pub mod Lists
pub mod All
pub mod Sums
pub mod Within
pub mod StdLists
-- Headings of documents, and cards as they are stored.
pub mod AddedHeadings
pub mod DocumentHeadings
pub mod CleanCards
pub mod MovedCards
pub mod SameFaults
-- The store holds the account.
pub mod StoreLayout
pub mod Admitted
pub mod StoreHolds
pub mod RootNames
pub mod StoreAgrees
pub mod ParseOutcome
pub mod RefusalNumbers
pub mod StoreSound
pub mod StoreWrites
pub mod StoredNames
pub mod RefusedCalls
-- Drawings.
pub mod BuiltRows
pub mod BuiltTypes
pub mod TypesGrow
pub mod BuildsGrow
pub mod RowBound
pub mod ErrorBound
pub mod Bounds
pub mod GroupOrder
pub mod PartKinds
pub mod RowOrder
pub mod RowCards
pub mod BuiltWords
pub mod RowsPass
pub mod RowsStay
-- Runs.
pub mod RunPlaces
pub mod StoreGrowth
pub mod Demand3
mod RunExamples
