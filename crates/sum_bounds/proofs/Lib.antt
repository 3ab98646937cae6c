pub mod Complements
pub mod Sums
pub mod Tightest
pub mod ClauseLaws
pub mod Lookups
pub mod Leaves
pub mod Parts
pub mod Values
pub mod Conflicts
pub mod Growth
pub mod Checks
pub mod WholeRows
pub mod Origins
mod Steps
pub mod Bases
pub mod SplitLaws
