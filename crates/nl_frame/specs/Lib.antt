pub mod Header
pub mod Limits
pub mod Form
pub mod Message
pub mod View
pub mod Front
pub mod Reading
pub mod Layout
pub mod Heads
pub mod Outcomes
pub mod Kept
pub mod Written
pub mod Proper
pub mod OneList
pub mod Measured
pub mod Broken
pub mod HeadOrder
pub mod Taped
pub mod Scans
pub mod Listed
pub use Rattle.nl_attr.specs.Numbers
pub use Rattle.nl_attr.specs.Shape
pub use Rattle.nl_attr.specs.Walk
pub use Rattle.nl_attr.specs.Tree
pub use Rattle.nl_attr.specs.Visits
pub use Rattle.nl_attr.specs.Codes
pub use Rattle.nl_attr.specs.Layout as Regions
pub use Rattle.nl_attr.specs.Heads as RegionHeads
pub use Rattle.nl_route.specs.Fields
pub use Rattle.nl_route.specs.Families
pub use Rattle.nl_route.specs.Body
pub use Rattle.nl_attr.specs.Written as RegionWritten
pub use Rattle.nl_attr.specs.Proper as RegionProper
pub use Rattle.nl_attr.specs.Broken as RegionBroken
pub use Rattle.nl_attr.specs.HeadOrder as RegionHeadOrder
pub use Rattle.nl_attr.specs.Listed as RegionListed
pub mod BuildCodes
pub mod Building
pub mod AnyHeads
pub mod Draft
pub mod Calls
pub mod Parts
pub mod Tops
