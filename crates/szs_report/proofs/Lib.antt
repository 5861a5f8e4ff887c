pub mod WriteLaws
pub mod ReportLaws
pub mod ModelLaws
