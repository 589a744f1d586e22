-- root_operation: which row is a root, which card has its name, and where that stands.
pub mod RootsLaws
pub mod RootPlaces
-- type_field and is_subtype.
pub mod Fields
pub mod Subtypes
-- iter_origins and extensions: the turns of their walks, and that the lists fit.
pub mod OriginsLaws
pub mod OriginsFit
-- Groups: the groups over the pairs. AllGroups: all of them.
pub mod SearchStops
pub mod Gather
pub mod Pairs
pub mod Groups
pub mod AllGroups
