mod RuleUses
mod MadeStays
mod DevelopLaws
mod UnitLaws
mod PacedLaws
mod OfferedLaws
mod RunLaws
mod StartLaws
mod StartingLaws
mod BasisLaws
pub mod PreparedLaws
pub mod SearchLaws
mod ShapedLaws
mod ConnectiveLaws
mod AloneUses
mod WorkLaws
mod AdvanceLaws
