pub mod Fields
pub mod Link
pub mod Addr
pub mod Route
pub mod Neigh
pub mod Rule
pub mod Types
pub mod Families
pub mod Parts
pub mod Body
pub mod Views
pub use Rattle.nl_attr.specs.Numbers
pub use Rattle.nl_attr.specs.Shape
pub use Rattle.nl_attr.specs.Tree
pub use Rattle.nl_attr.specs.Layout
pub use Rattle.nl_attr.specs.Heads as AttrHeads
pub use Rattle.nl_attr.specs.Visits
pub use Rattle.nl_attr.specs.Reading
pub use Rattle.nl_attr.specs.View
pub use Rattle.nl_attr.specs.Views as AttrViews
pub use Rattle.nl_attr.specs.Outcomes
pub use Rattle.nl_attr.specs.Kept
pub use Rattle.nl_attr.specs.Written
pub use Rattle.nl_attr.specs.Proper
